-- No promise of an entry point rests on this text: what the entries of the contents give, of arrays, of one body, of all bodies.
use Rattle.std.specs.Prelude.{ℕ, List}
use Rattle.reading.specs.Bytes.{records_in, declarations_in}
use Rattle.contents.specs.declared.Arrays.{Arrays}
use Rattle.contents.specs.declared.Entry.{Entry}
use Rattle.contents.specs.declared.Bodies.{Bodies}
use Rattle.contents.specs.Found.{found}

abbrev pub arrays_found : List ℕ → Arrays
arrays_found f = record { cells = (found f).cells; starts = (found f).array_starts }

abbrev pub entry_found : List ℕ → ℕ → Entry
entry_found f b = record { records = records_in f b; declarations = declarations_in f b }

abbrev pub bodies_found : List ℕ → Bodies
bodies_found f = record { records = (found f).records; starts = (found f).body_starts; declarations = (found f).declarations }

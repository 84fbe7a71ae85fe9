-- The numbers of the kinds (document 01, 'The plan file'; document 02, requests a and c).
use Rattle.std.specs.Prelude.{ℕ, Result, MatchResult, ◌≡◌}
use Rattle.reading.specs.declared.kinds.FileKind.{FileKind}
use Rattle.reading.specs.declared.kinds.FileKind.TheVariants.{Declared, Plain}
use Rattle.reading.specs.declared.kinds.Kind.{Kind}
use Rattle.reading.specs.declared.kinds.UnknownKind.{UnknownKind}

-- "Byte 0: kind, 1 declared, 2 plain."
abbrev pub file_number_of : FileKind → ℕ
file_number_of Declared = 1
file_number_of Plain = 2

-- "1 read, 2 write, 3 copy", "4 need, 5 mark", "6 branch", "7 loop", "8 call", kind 9, a fixed loop (document 02), "16 R, 17 W, 18 RW"
abbrev pub number_of : Kind → ℕ
number_of Kind.Read = 1
number_of Kind.Write = 2
number_of Kind.Copy = 3
number_of Kind.Need = 4
number_of Kind.Mark = 5
number_of Kind.Branch = 6
number_of Kind.Loop = 7
number_of Kind.Call = 8
number_of Kind.Fixed = 9
number_of Kind.R = 16
number_of Kind.W = 17
number_of Kind.RW = 18

-- the kind that has this number, or a number that no kind has
abbrev pub NamesKind : ℕ → Result Kind UnknownKind → Type 0
NamesKind n r = MatchResult r (λ kind. n ≡ number_of kind) (λ e. (e.0 ≡ n) × ((kind : Kind) → n ≡ number_of kind → ⊥))

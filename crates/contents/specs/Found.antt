-- What is found in a file that opens.
use Rattle.std.specs.Prelude.{ℕ, cond, List, ltb, leb}
use Rattle.model.specs.Sides.{cell_count, span_of}
use Rattle.contents.specs.declared.Opened.{Opened}
use Rattle.reading.specs.Bytes.{kind_of, array_count, body_count, table, layout_of, declarations_in, first_record, record_count, bodies_at}

-- its counts, where its bodies begin, the first cell of each array, the first record and the declarations of each body (the entry after the
-- last array or body has the total, those past it are 0)
abbrev pub found : List ℕ → Opened
found f = record {
  kind = kind_of f;
  arrays = array_count f;
  bodies = body_count f;
  cells = cell_count (layout_of f);
  records = record_count f;
  offset = bodies_at f;
  array_starts = table (λ a. cond (leb a (array_count f)) (span_of (layout_of f) a).first 0) 33;
  body_starts = table (λ b. cond (leb b (body_count f)) (first_record f b) 0) 33;
  declarations = table (λ b. cond (ltb b (body_count f)) (declarations_in f b) 0) 32;
}

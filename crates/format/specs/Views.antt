-- The body view (document 01, 'Running and viewing').
use Rattle.std.specs.Prelude.{ℕ, ◌+◌, ◌*◌, cond, List, [], ◌∷◌, ◌++◌, take, drop, leb, Result}
use Rattle.model.specs.declared.Fault.{Fault}
use Rattle.model.specs.Verdicts.{Verdict, accepted, where_accepted}
use Rattle.model.specs.declared.Part.{Part}
use Rattle.model.specs.Rows.{row, answer_of}
use Rattle.reading.specs.Bytes.{body_count, records_in, first_record, bodies_at}
use Rattle.format.specs.Opening.{open_rows}

-- "a companion answer gives its number": the numbers of opening, then "25 no such body"
unfoldable pub body_view_answer : List ℕ → ℕ → Verdict
body_view_answer f b = answer_of (open_rows f ++ (row (leb (body_count f) b) 25 0 ∷ []))

-- where body b begins in the file
abbrev pub body_at : List ℕ → ℕ → ℕ
body_at f b = bodies_at f + 8 * first_record f b

-- which part of the caller's bytes body b is, where the answer accepts: where it begins, and how long it is
unfoldable pub body_part : List ℕ → ℕ → Result Part Fault
body_part f b = where_accepted (body_view_answer f b) (record { from = body_at f b; size = 8 * records_in f b })

-- "the body comes back as the caller's own bytes"; "A refused view is empty"
unfoldable pub body_view : List ℕ → ℕ → List ℕ
body_view f b = cond (accepted (body_view_answer f b)) (take (8 * records_in f b) (drop (body_at f b) f)) []

-- Opening a file (document 01, 'Numbers by the place where each is checked'): its answer and, of a file that opens, what was found in it.
use Rattle.std.specs.Prelude.{ℕ, List, ◌++◌, Result, Ok, Err}
use Rattle.model.specs.declared.Fault.{Fault}
use Rattle.model.specs.Verdicts.{Verdict, where_accepted}
use Rattle.model.specs.Rows.{Row, answer_of, all_rows}
use Rattle.reading.specs.Bytes.{body_count}
use Rattle.contents.specs.declared.Opened.{Opened}
use Rattle.contents.specs.Contents.{front_rows}
use Rattle.contents.specs.Found.{found}
use Rattle.records.specs.Records.{body_rows}

-- "Places are tried in this order": header, contents and tail, then each record
unfoldable pub open_rows : List ℕ → List Row
open_rows f = front_rows f ++ all_rows (body_count f) (body_rows f)

-- the opening's answer
unfoldable pub opening : List ℕ → Verdict
opening f = answer_of (open_rows f)

-- the whole result of opening
unfoldable pub opened : List ℕ → Result Opened Fault
opened f = where_accepted (opening f) (found f)

-- the kind of a file, by what opening gave: 0 if it does not open
abbrev pub kind_of_opened : Result Opened Fault → ℕ
kind_of_opened (Ok o) = o.kind
kind_of_opened (Err e) = 0

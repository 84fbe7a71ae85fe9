-- Numbers 11 and 15, and those of a pass by record, 12 to 14, in their order (document 01, 'Numbers by the place where each is checked' and
-- 'Judging and expanding').
use Rattle.std.specs.Prelude.{ℕ, suc, ◌+◌, ◌-◌, not, ◌&&◌, List, [], ◌∷◌, ◌++◌, eqb}
use Rattle.model.specs.Verdicts.{Verdict}
use Rattle.model.specs.Sides.{span_of}
use Rattle.model.specs.Judging.{all_written}
use Rattle.model.specs.Rows.{Row, row, answer_of, all_rows}
use Rattle.reading.specs.Bytes.{is_declared, body_count, layout_of, records_in, declarations_in, first_record, fields_at}
use Rattle.format.specs.Opening.{open_rows}
use Rattle.format.specs.Plans.{declaration_of, pass_at}
use Rattle.permits.specs.Permits.{permit_rows}

-- "then 15 a W unmet (place: its declaration)", of declaration i of pass b
unfoldable pub w_rows : List ℕ → ℕ → ℕ → List Row
w_rows f b i =
    let r = first_record f b + i in
    let d = declaration_of (fields_at f r) in
    let these = span_of (layout_of f) d.array in
    row (eqb (fields_at f r).kind 17 && not (all_written (layout_of f) d.side (pass_at f b).body these.first these.length)) 15 r ∷ []

-- "each pass, first by record .. then 15"
unfoldable pub pass_rows : List ℕ → ℕ → List Row
pass_rows f b = all_rows (records_in f b) (permit_rows f b) ++ all_rows (declarations_in f b) (w_rows f b)

-- the numbers of opening, "11 judge or expand without kind 1", then pass by pass; "Passes that nobody calls are judged too."
unfoldable pub judge_rows : List ℕ → List Row
judge_rows f = open_rows f ++ (row (not (is_declared f)) 11 0 ∷ all_rows (body_count f - 1) (λ b. pass_rows f (suc b)))

-- the judge's answer
unfoldable pub judged : List ℕ → Verdict
judged f = answer_of (judge_rows f)

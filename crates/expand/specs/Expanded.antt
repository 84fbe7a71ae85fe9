-- Numbers 16, 17 (document 01, 'Judging and expanding') and 26 (document 02, request a), and the expansion's file.
use Rattle.std.specs.Prelude.{ℕ, cond, List, [], ◌∷◌, ◌++◌, length, drop, ltb, Result}
use Rattle.model.specs.declared.Fault.{Fault}
use Rattle.model.specs.Verdicts.{Verdict, accepted, where_accepted}
use Rattle.model.specs.Blocks.{size}
use Rattle.model.specs.Rows.{Row, row, answer_of}
use Rattle.format.specs.Plans.{declared_plan_of}
use Rattle.files.specs.Expansions.{expansion_of, expansion_file}
use Rattle.judge.specs.Judged.{judge_rows}
use Rattle.products.specs.Products.{call_rows}

-- "16 expansion over 1,024 records", then the 26 of the calls: "the expander tests the expansion too, after 16, place the call"
unfoldable pub expansion_rows : List ℕ → List Row
expansion_rows f =
    let plan = declared_plan_of f in
    row (ltb 1024 (size (expansion_of f).body)) 16 0 ∷ call_rows plan.passes 1 plan.body0

-- the judge's numbers, 16, 26, then "17 output shorter than the expansion's file"
unfoldable pub expand_answer : List ℕ → List ℕ → Verdict
expand_answer f out =
    answer_of (judge_rows f ++ (expansion_rows f ++ (row (ltb (length out) (length (expansion_file f))) 17 0 ∷ [])))

-- the output afterwards: "bytes past the file's end are untouched"; numbers 1 to 17 "change no buffer, nor does any that a request adds"
unfoldable pub expanded : List ℕ → List ℕ → List ℕ
expanded f out = cond (accepted (expand_answer f out)) (expansion_file f ++ drop (length (expansion_file f)) out) out

-- the answer that an output of any length gets which is long enough: the judge's numbers, 16, 26
unfoldable pub length_answer : List ℕ → Verdict
length_answer f = answer_of (judge_rows f ++ expansion_rows f)

-- how long an output the expansion needs, whatever the bytes: "the expansion's file"
unfoldable pub length_of_expansion : List ℕ → Result ℕ Fault
length_of_expansion f = where_accepted (length_answer f) (length (expansion_file f))

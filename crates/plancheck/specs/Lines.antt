-- The line that plancheck prints (document 01, 'Program plancheck').
use Rattle.std.specs.Prelude.{ℕ, ◌≡◌, cond, List, eqb}
use Rattle.model.specs.Verdicts.{Verdict, values_of}
use Rattle.format.specs.Opening.{opened, kind_of_opened}
use Rattle.checker.specs.Checking.{Checks}
use Rattle.judge.specs.Judged.{judged}
use Rattle.plancheck.specs.declared.Line.{Line}

-- "prints kind (0 if not opened), answer (0 accepted), place or record, cell (0 if none)": "judges a declared plan, checks a plain one"
pub record LineOf (f : List ℕ) (line : Line) : Type 0 where
  pub answer : Verdict
  pub answers : cond (eqb (kind_of_opened (opened f)) 2) (Checks f answer) (answer ≡ judged f)
  pub kind : line.kind ≡ kind_of_opened (opened f)
  pub values : line.values ≡ values_of 18 answer

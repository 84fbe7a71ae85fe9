-- The line of a plan, by its kind.
use Rattle.std.proofs.Common.{◌≡◌, List, ℕ, ap, ◌∙◌, sym}
use borrow.Author.Tests.{eq-eqb, ne_eqb}
use Rattle.std.specs.Prelude.{Result}
use Rattle.model.specs.declared.Fault.{Fault}
use Rattle.model.specs.declared.Values.{Values}
use Rattle.model.specs.Verdicts.{Verdict, values_of}
use Rattle.contents.specs.declared.Opened.{Opened}
use Rattle.format.specs.Opening.{opened, kind_of_opened}
use Rattle.checker.specs.Checking.{Checks}
use Rattle.judge.specs.Judged.{judged}
use Rattle.plancheck.specs.Lines.{LineOf}

module _ (f : List ℕ) (o : Result Opened Fault) (k : ℕ) (v : Verdict) (w : Values) (e : o ≡ opened f) (is_kind : k ≡ kind_of_opened o) (is : w ≡ values_of 18 v) where
  abbrev kind : k ≡ kind_of_opened (opened f)
  kind = is_kind ∙ ap kind_of_opened e

  -- of a plain one the check's answer
  pub line_plain : k ≡ 2 → Checks f v → LineOf f (record { kind = k; values = w })
  line_plain plain h = record { answer = v; answers = rw (eq-eqb _ _ (sym kind ∙ plain)) h; kind = kind; values = is }

  -- of any other the judge's
  pub line_other : (k ≡ 2 → ⊥) → v ≡ judged f → LineOf f (record { kind = k; values = w })
  line_other other h = record { answer = v; answers = rw (ne_eqb _ _ (λ p. other (kind ∙ p))) h; kind = kind; values = is }

-- The expander's answers: the judge's, 16, 26, 17, accepted; and what the output then is.
use mathlib.Core.Path.{◌≡◌, sym, ◌∙◌}
use mathlib.Core.List.{List}
use Prim.Native.Nat.{ℕ, ◌<◌, ◌≤◌}
use native.Mathlib.Omega.{arith}
use lib.ListN.{length}
use borrow.Author.Tests.{lt-ltb, le-ltb, ltb-false, not-false}
use Rattle.model.specs.Verdicts.{Verdict, Accepted, Refused}
use Rattle.model.specs.Blocks.{size, largest}
use Rattle.model.specs.Rows.{answer_of}
use Rattle.format.specs.Plans.{declared_plan_of}
use Rattle.format.specs.Opening.{open_rows, opening}
use Rattle.model.proofs.Rows.{unaccepted, holds, skips, skipped, empty, stop, pass, passed}
use Rattle.judge.specs.Judged.{judge_rows, judged}
use Rattle.files.specs.Expansions.{expansion_of, expansion_file}
use Rattle.expand.specs.Expanded.{expansion_rows, expand_answer, expanded}
use Rattle.products.specs.Products.{call_rows}
use Rattle.products.proofs.Expansions.{expansion_low}
use Rattle.sizes.specs.Inner.Sizes.{DeclaredFile}
use Rattle.given.specs.Inner.Over.{over}

module _ (f : List ℕ) where
  -- a plan that the judge accepts opens as a declared plan
  pub accepted_file : Accepted ≡ judged f → DeclaredFile f
  unfolding judged judge_rows opening
  accepted_file e =
      let p = passed (open_rows f) _ e in
      record { opened = p.0; declared = not-false _ (skipped _ _ _ _ p.1).0 }

  -- 16 and 26
  pub too_large : 1024 < size (expansion_of f).body → Refused 16 0 ≡ answer_of (expansion_rows f)
  unfolding expansion_rows
  too_large h = holds _ _ _ _ (lt-ltb _ _ h)

  pub calls_tested : size (expansion_of f).body ≤ 1024 → (v : Verdict) → v ≡ answer_of (call_rows (declared_plan_of f).passes 1 (declared_plan_of f).body0) → v ≡ answer_of (expansion_rows f)
  unfolding expansion_rows
  calls_tested h v e = skips _ _ _ _ v (le-ltb _ _ h) e

  pub both_passed : Accepted ≡ answer_of (expansion_rows f) → (size (expansion_of f).body ≤ 1024) × (Accepted ≡ answer_of (call_rows (declared_plan_of f).passes 1 (declared_plan_of f).body0))
  unfolding expansion_rows
  both_passed e = let s = skipped _ _ _ _ e in (ltb-false _ _ s.0, s.1)

  -- an expansion that is written: the judge accepts, it has few records enough, and no product in it passes 4,096
  pub written : (out : List ℕ) → expand_answer f out ≡ Accepted → (judged f ≡ Accepted) × (size (expansion_of f).body ≤ 1024) × (largest (expansion_of f).body ≤ 4096)
  unfolding expand_answer judged
  written out e =
      let p = passed (judge_rows f) _ (sym e) in
      let q = both_passed (passed (expansion_rows f) _ p.1).0 in
      (sym p.0, q.0, expansion_low f (accepted_file p.0) q.1)

  module _ (out : List ℕ) where
    -- a refusal leaves the output as it was
    kept : (v : Verdict) → (v ≡ Accepted → ⊥) → v ≡ expand_answer f out → out ≡ expanded f out
    unfolding expanded
    kept v nay e = rw (← e, unaccepted v nay)

    refused : {n p : ℕ} → Refused n p ≡ Accepted → ⊥
    refused h = let z : ◌≡◌ {A = ℕ} 0 1 = cc in omega arith

    pub judge_refuses : (v : Verdict) → (v ≡ Accepted → ⊥) → v ≡ judged f → (v ≡ expand_answer f out) × (out ≡ expanded f out)
    unfolding judged expand_answer
    judge_refuses v nay e = let a = stop (judge_rows f) _ v nay e in (a, kept v nay a)

    module _ (accepted : Accepted ≡ judged f) where
      pub untested : (v : Verdict) → (v ≡ Accepted → ⊥) → v ≡ answer_of (expansion_rows f) → (v ≡ expand_answer f out) × (out ≡ expanded f out)
      unfolding judged expand_answer
      untested v nay e = let a = pass (judge_rows f) _ v accepted (stop (expansion_rows f) _ v nay e) in (a, kept v nay a)

      module _ (fits : Accepted ≡ answer_of (expansion_rows f)) where
        pub too_short : length out < length (expansion_file f) → (Refused 17 0 ≡ expand_answer f out) × (out ≡ expanded f out)
        unfolding judged expand_answer
        too_short h = let a = pass (judge_rows f) _ _ accepted (pass (expansion_rows f) _ _ fits (holds _ _ _ _ (lt-ltb _ _ h))) in (a, kept (Refused 17 0) refused a)

        pub expands : length (expansion_file f) ≤ length out → (new : List ℕ) → new ≡ over (expansion_file f) out → (Accepted ≡ expand_answer f out) × (new ≡ expanded f out)
        unfolding judged expand_answer expanded over
        expands h new e =
            let a = pass (judge_rows f) _ _ accepted (pass (expansion_rows f) _ _ fits (skips _ _ _ _ _ (le-ltb _ _ h) empty)) in
            (a, e ∙ rw (← a))

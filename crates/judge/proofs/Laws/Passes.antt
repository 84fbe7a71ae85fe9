-- The places of the judge's table one after the other: of one pass, of the passes, of the whole.
use mathlib.Core.Path.{◌≡◌}
use mathlib.Core.Bool.{false, true}
use mathlib.Core.List.{List}
use Prim.Native.Nat.{ℕ, zero, suc, ◌+◌, ◌-◌, ◌≤◌, ◌<◌}
use native.Mathlib.Decide.{dec_lt}
use native.Mathlib.Omega.{arith}
use Rattle.model.specs.Verdicts.{Verdict, Accepted, Refused}
use Rattle.model.specs.Rows.{Row, answer_of, all_rows}
use Rattle.reading.specs.Bytes.{is_declared, body_count, records_in, declarations_in}
use Rattle.format.specs.Opening.{open_rows, opening}
use Rattle.model.proofs.Rows.{holds, skips, stop, pass, each_more, each_stop}
use Rattle.passes.specs.declared.Extent.{Extent}
use Rattle.permits.specs.Permits.{permit_rows}
use Rattle.judge.specs.Judged.{w_rows, pass_rows, judge_rows, judged}
use Rattle.passes.specs.Inner.Passes.{PassAt}
use Rattle.passes.proofs.Records.{declared_low}

-- the answer of the first n entries, where they have one, is that of more
early : (rows : ℕ → List Row) (v : Verdict) → (v ≡ Accepted → ⊥) → (n m : ℕ) → n ≤ m → v ≡ answer_of (all_rows n rows) → v ≡ answer_of (all_rows m rows)
unfolding all_rows
early rows v nay n zero l e = let z : n ≡ 0 = omega arith in rw z at e
early rows v nay n (suc m) l e = elim (dec_lt n (suc m)) [
  | yes h ↦ stop (all_rows m rows) (rows m) v nay (early rows v nay n m (omega arith) e)
  | no h ↦ let z : n ≡ suc m = omega arith in rw z at e
]

-- one pass: 12, 13 and 14, 15
module _ (f : List ℕ) (e : Extent) (p : PassAt f e) (v : Verdict) where
  pub pass_twice : (v ≡ Accepted → ⊥) → v ≡ answer_of (all_rows (declarations_in f e.body) (permit_rows f e.body)) → v ≡ answer_of (pass_rows f e.body)
  unfolding pass_rows
  pass_twice nay a = stop _ _ v nay (early _ v nay _ _ (rw (← p.declarations_are, ← p.records_are) (declared_low f e p)) a)

  pub pass_used : (v ≡ Accepted → ⊥) → v ≡ answer_of (all_rows (records_in f e.body) (permit_rows f e.body)) → v ≡ answer_of (pass_rows f e.body)
  unfolding pass_rows
  pass_used nay a = stop _ _ v nay a

  pub pass_unmet : Accepted ≡ answer_of (all_rows (records_in f e.body) (permit_rows f e.body)) → v ≡ answer_of (all_rows (declarations_in f e.body) (w_rows f e.body)) → v ≡ answer_of (pass_rows f e.body)
  unfolding pass_rows
  pass_unmet a b = pass (all_rows (records_in f e.body) (permit_rows f e.body)) _ v a b

-- the passes, body 1 first
module _ (f : List ℕ) where
  abbrev pub passes_rows : ℕ → List Row
  passes_rows n = all_rows n (λ b. pass_rows f (suc b))

  module _ (b : ℕ) (l : 1 ≤ b) (a : Accepted ≡ answer_of (passes_rows (b - 1))) (v : Verdict) (e : v ≡ answer_of (pass_rows f b)) where
    here : v ≡ answer_of (pass_rows f (suc (b - 1)))
    here = let z : suc (b - 1) ≡ b = omega arith in rw z e

    pub passes_more : v ≡ Accepted → Accepted ≡ answer_of (passes_rows (b + 1 - 1))
    passes_more k = let z : b + 1 - 1 ≡ b - 1 + 1 = omega arith in rw z (each_more _ (b - 1) a (rw k at here))

    pub passes_stop : (v ≡ Accepted → ⊥) → (n : ℕ) → b < n → v ≡ answer_of (passes_rows (n - 1))
    passes_stop nay n h = each_stop _ (b - 1) (n - 1) v nay a here (omega arith)

  -- opening, 11, the passes
  pub judged_opening : (v : Verdict) → (v ≡ Accepted → ⊥) → v ≡ opening f → v ≡ judged f
  unfolding judged judge_rows opening
  judged_opening v nay e = stop (open_rows f) _ v nay e

  module _ (a : Accepted ≡ opening f) where
    pub judged_plain : is_declared f ≡ false → Refused 11 0 ≡ judged f
    unfolding judged judge_rows opening
    judged_plain k = pass (open_rows f) _ _ a (holds _ _ _ _ (rw k))

    pub judged_passes : is_declared f ≡ true → (v : Verdict) → v ≡ answer_of (passes_rows (body_count f - 1)) → v ≡ judged f
    unfolding judged judge_rows opening
    judged_passes k v e = pass (open_rows f) _ v a (skips _ _ _ _ v (rw k) e)

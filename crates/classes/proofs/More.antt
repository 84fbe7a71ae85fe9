-- The answer with a cell more, which can stop at a record.
use Prim.Native.Nat.{ℕ, ◌≤◌, ◌<◌}
use mathlib.Core.Path.{◌≡◌, refl}
use mathlib.Core.Bool.{Bool, true, false, cond}
use native.Mathlib.Omega.{arith}
use lib.Dec.{eqb}
use borrow.Author.Tests.{eqb-false, ne_eqb, lt-ltb, le-ltb}
use Rattle.std.specs.Prelude.{None, Some, Ok, Err}
use Rattle.model.specs.declared.Fault.{Fault}
use Rattle.model.specs.Verdicts.{Verdict, stopped_at}
use Rattle.model.proofs.Check.{with_cell}
use Rattle.statuses.specs.Inner.Sets.{record_of}
use Rattle.statuses.specs.Inner.Stored.{lowest_of}

-- the record that an answer names, 65535 if it accepts, and 0 if it refuses: a stop changes an answer exactly if it is lower
abbrev pub named_by : Verdict → ℕ
named_by (Ok _) = 65535
named_by (Err (Fault.Stopped r c)) = r.0
named_by (Err (Fault.Refused number place)) = 0

-- with cell c, which can stop at record k, none for 65535: lower than the record that the answer names, or not
module _ (c k : ℕ) where
  pub cell_lower : (v : Verdict) → named_by v ≤ 65535 → k < named_by v → stopped_at k c ≡ with_cell v c (record_of (lowest_of k))
  cell_lower (Ok _) l h = rw (ne_eqb k 65535 (λ e. omega arith))
  cell_lower (Err (Fault.Stopped r d)) l h = rw (ne_eqb k 65535 (λ e. omega arith), lt-ltb k r.0 h)
  cell_lower (Err (Fault.Refused number place)) l h = absurd (omega arith)

  pub cell_kept : (v : Verdict) → k ≤ 65535 → named_by v ≤ k → v ≡ with_cell v c (record_of (lowest_of k))
  cell_kept v l h = go (eqb k 65535) refl v h
    where
      go : (b : Bool) → eqb k 65535 ≡ b → (v : Verdict) → named_by v ≤ k → v ≡ with_cell v c (record_of (cond b None (Some (record { 0 = k }))))
      go true q v h = refl
      go false q (Ok _) h = absurd (eqb-false k 65535 q (omega arith))
      go false q (Err (Fault.Stopped r d)) h = rw (le-ltb k r.0 h)
      go false q (Err (Fault.Refused number place)) h = refl

-- The tables of a record that covers a cell: their rule is one computed test over all kinds, sides and statuses.
use Prim.Native.Nat.{ℕ, ◌+◌, ◌-◌, ◌*◌, ◌/◌, ◌%◌, ◌^◌, ◌≤◌}
use mathlib.Core.Path.{◌≡◌, refl}
use mathlib.Core.Bool.{Bool, true, not, ◌&&◌, beq}
use native.Mathlib.Omega.{arith}
use lib.Dec.{eqb}
use lib.ListN.{get_or}
use borrow.Author.Tests.{eqb-true}
use Rattle.model.proofs.Booleans.{and_out}
use Rattle.model.proofs.Status.{Status}
use Rattle.format.specs.Plans.{side_of, verb_of}
use Rattle.statuses.specs.Inner.Sets.{index, touched_met, touched_after, after_rows, unmet_rows}
use Rattle.statuses.proofs.Tests.{beq_true, all_below, all_below_at}
use Rattle.statuses.proofs.Statuses.{all, all_at}

-- the entries of a status in row i
abbrev after_in : ℕ → ℕ → ℕ
after_in i w = get_or after_rows i 0 / 2 ^ (4 * w) % 16

abbrev stops_in : ℕ → ℕ → Bool
stops_in i w = eqb (get_or unmet_rows i 0 / 2 ^ w % 2) 1

-- whether row i is right for a kind and a side, in a status
abbrev right : ℕ → ℕ → ℕ → Status → Bool
right i kind side u = eqb (index (touched_after (verb_of kind) (side_of side) u)) (after_in i (index u)) && beq (not (touched_met (verb_of kind) (side_of side) u)) (stops_in i (index u))

-- row i is that of kind i / 2 + 1 on side i % 2
all_right : all_below (λ i. all (right i (i / 2 + 1) (i % 2))) 10 ≡ true
unfolding after_rows unmet_rows
all_right = refl

pub leaf_is : (kind side w : ℕ) → (1 ≤ kind) × (kind ≤ 5) × (side ≤ 1) → (u : Status) → index u ≡ w →
    (index (touched_after (verb_of kind) (side_of side) u) ≡ after_in (2 * (kind - 1) + side) w) × (not (touched_met (verb_of kind) (side_of side) u) ≡ stops_in (2 * (kind - 1) + side) w)
leaf_is kind side w h u eu =
    let i : ℕ = 2 * (kind - 1) + side in
    let k : i / 2 + 1 ≡ kind = omega arith in
    let s : i % 2 ≡ side = omega arith in
    let r : all (right i kind side) ≡ true = rw (k, s) at (all_below_at (λ i. all (right i (i / 2 + 1) (i % 2))) 10 all_right i (omega arith)) in
    let p = and_out (eqb (index (touched_after (verb_of kind) (side_of side) u)) (after_in i (index u))) _ (all_at (right i kind side) r u) in
    rw (← eu) (eqb-true _ _ p.0, beq_true _ _ p.1)

-- The masks of a record: that they say what the record needs and does is one computed test over all kinds, sides and statuses.
use Prim.Native.Nat.{ℕ, ◌+◌, ◌-◌, ◌*◌, ◌/◌, ◌%◌, ◌^◌}
use mathlib.Core.Path.{◌≡◌, refl}
use mathlib.Core.Bool.{Bool, true, not, ◌&&◌, ◌||◌, beq}
use native.Mathlib.Omega.{arith}
use lib.Dec.{eqb}
use borrow.Author.Tests.{eqb-true}
use Rattle.model.specs.Inner.Statuses.{Status}
use Rattle.model.proofs.Booleans.{and_out}
use Rattle.format.specs.Plans.{side_of, verb_of}
use Rattle.statuses.specs.Inner.Sets.{index, touched_met, touched_after}
use Rattle.statuses.proofs.Tests.{beq_true, all_below, all_below_at}
use Rattle.statuses.proofs.Statuses.{all, all_at}
use Rattle.tracked.specs.declared.masks.Masks.{Masks}
use Rattle.tracked.specs.Inner.Tracking.{Acting, stops_by, after_by, Tells}

-- the masks in row i
abbrev mask_in : ℕ → ℕ → ℕ
mask_in masks i = masks / 2 ^ (4 * i) % 16

unfoldable pub masks_in : ℕ → Masks
masks_in i = record {
  test = mask_in 0x0096840048 i;
  unmet = mask_in 0x1100001100 i;
  held = mask_in 0x0012000000 i;
  keep = mask_in 0xdeffff7bff i;
  set = mask_in 0x127b484800 i;
}

-- whether masks are right for a kind and a side, in a status
abbrev right : Masks → ℕ → ℕ → Status → Bool
right m kind side u = beq (stops_by m (index u)) (not (touched_met (verb_of kind) (side_of side) u)) && (not (touched_met (verb_of kind) (side_of side) u) || eqb (after_by m (index u)) (index (touched_after (verb_of kind) (side_of side) u)))

-- row i is that of kind i / 2 + 1 on side i % 2
all_right : all_below (λ i. all (right (masks_in i) (i / 2 + 1) (i % 2))) 10 ≡ true
unfolding masks_in stops_by after_by
all_right = refl

pub masks_tell : (kind side : ℕ) → Acting kind side → Tells (verb_of kind) (side_of side) (masks_in (2 * (kind - 1) + side))
masks_tell kind side h = record { stops = λ u. beq_true _ _ (both u).0; after = λ u e. eqb-true _ _ (rw e at (both u).1) }
  where
    i : ℕ
    i = 2 * (kind - 1) + side

    rights : all (right (masks_in i) kind side) ≡ true
    rights =
        let k : i / 2 + 1 ≡ kind = omega arith in
        let s : i % 2 ≡ side = omega arith in
        rw (k, s) at (all_below_at (λ i. all (right (masks_in i) (i / 2 + 1) (i % 2))) 10 all_right i (omega arith))

    both : (u : Status) → (beq (stops_by (masks_in i) (index u)) (not (touched_met (verb_of kind) (side_of side) u)) ≡ true) × ((not (touched_met (verb_of kind) (side_of side) u) || eqb (after_by (masks_in i) (index u)) (index (touched_after (verb_of kind) (side_of side) u))) ≡ true)
    both u = and_out _ _ (all_at (right (masks_in i) kind side) rights u)

-- No promise of an entry point rests on this text: the ways that one cell can take through a block, by its status, and where it can stop.
use Rattle.std.specs.Prelude.{ℕ, zero, suc, ◌≤◌, ◌≡◌, ◌⊎◌, false}
use Rattle.model.specs.Sides.{Layout}
use Rattle.model.specs.Records.{Action}
use Rattle.model.specs.Effects.{start}
use Rattle.model.specs.Blocks.{Block, done, act, branch, loop, fixed, Plan}
use Rattle.model.specs.Inner.Statuses.{Status, status_of, met_in, status_after}

-- any number of steps
pub data Star (R : Status → Status → Type 0) : Status → Status → Type 0 where
  stay : {u : Status} → Star R u u
  more : {u w v : Status} → R u w → Star R w v → Star R u v

-- n steps, and at most n
abbrev pub Power : (Status → Status → Type 0) → ℕ → Status → Status → Type 0
Power R zero u v = u ≡ v
Power R (suc n) u v = (w : Status) × R u w × Power R n w v

abbrev pub Within : (Status → Status → Type 0) → ℕ → Status → Status → Type 0
Within R n u v = (m : ℕ) × (m ≤ n) × Power R m u v

module _ (layout : Layout) (c : ℕ) where
  -- cell c can go through the block from status u to status v
  abbrev pub Goes : Block Action → Status → Status → Type 0
  Goes done u v = u ≡ v
  Goes (act k x b) u v = Goes b (status_after layout c x u) v
  Goes (branch k x y b) u v = (w : Status) × (Goes x u w ⊎ Goes y u w) × Goes b w v
  Goes (loop k x b) u v = (w : Status) × Star (Goes x) u w × Goes b w v
  Goes (fixed k n x b) u v = (w : Status) × Power (Goes x) (suc n) u w × Goes b w v

  -- from status u it can stop at record r of the block
  abbrev pub Stops : Block Action → Status → ℕ → Type 0
  Stops done u r = ⊥
  Stops (act k x b) u r = ((k ≡ r) × (met_in layout c x u ≡ false)) ⊎ Stops b (status_after layout c x u) r
  Stops (branch k x y b) u r = (Stops x u r ⊎ Stops y u r) ⊎ ((w : Status) × (Goes x u w ⊎ Goes y u w) × Stops b w r)
  Stops (loop k x b) u r = (w : Status) × Star (Goes x) u w × (Stops x w r ⊎ Stops b w r)
  Stops (fixed k n x b) u r =
      ((w : Status) × Within (Goes x) n u w × Stops x w r) ⊎ ((w : Status) × Power (Goes x) (suc n) u w × Stops b w r)

module _ (plan : Plan) (r c : ℕ) where
  -- from the plan's start the cell can stop at record r
  abbrev pub StopsAt : Type 0
  StopsAt = Stops plan.layout c plan.body (status_of plan.layout c (start plan.layout)) r

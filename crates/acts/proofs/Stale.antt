-- The cells of a record as a range of memories, and where they are stale: the numbers in the memories tell what the stamps tell.
use Prim.Native.Nat.{ℕ, ◌-◌, ◌/◌, ◌≤◌, ◌<◌}
use mathlib.Core.Path.{◌≡◌, refl, sym, ap, ◌∙◌}
use mathlib.Core.Bool.{Bool, true, false, not, ◌||◌}
use mathlib.Core.List.{List}
use mathlib.Core.Option.{none, some}
use native.Mathlib.Nat.{div-one, div-le_of_le-mul}
use native.Mathlib.Omega.{arith}
use lib.ListN.{get_or}
use borrow.Author.Tests.{eq-eqb, ne_eqb}
use Rattle.model.specs.Sides.{Side, Stamp, never, at, equals, Layout, cell_count, span_of, in_span}
use Rattle.model.specs.Records.{Action, stepped}
use Rattle.model.specs.Effects.{State, met, current}
use Rattle.model.specs.Runs.{lowest_unmet}
use Rattle.model.proofs.Numbering.{own_span, stepped_bounds, stepped_one}
use Rattle.model.proofs.Unmet.{unmet_first, none_unmet}
use Rattle.memories.specs.Memories.{number_of}
use Rattle.memories.specs.Inner.Ranges.{FirstStale}
use Rattle.memories.proofs.Cells.{stepped_below}
use Rattle.known.proofs.Sets.{Piece}
use Rattle.acts.specs.Inner.Acting.{cells_between, ArrayAt, CellsOf}

-- how many cells there are at a step: at step 1 all between, and never more than a plan has
pub each_counted : (k from to : ℕ) → k ≡ 1 → to - from ≡ cells_between k from to
each_counted k from to e = rw e (sym (ap (λ n. n / 1) (omega arith) ∙ div-one (to - from)))

pub few_between : (k from to : ℕ) → 1 ≤ k → to ≤ 4096 → cells_between k from to ≤ 4096
few_between k from to h l = div-le_of_le-mul k (omega arith)

-- the cells of a record are a piece of its array, or all of it
pub range_piece : {layout : Layout} {x : Action} {a : ℕ} {whole : Bool} {k from to : ℕ} → CellsOf layout x a whole k from to → Piece layout a whole k from to
range_piece {layout} {x} {a} {k = k} {from = from} {to = to} z = record {
  one = rw z.array at z.range.one;
  ends = z.range.ends;
  own = λ c i j. z.range.own c i j ∙ z.array;
  all = λ w c h e. array_cells (z.all w) c ∙ (rw e at (own_span layout c h));
}
  where
    array_cells : ArrayAt layout a k from to → (c : ℕ) → stepped k from to c ≡ in_span (span_of layout a) c
    array_cells y c = rw (y.each, y.begins, y.ends) (stepped_one (span_of layout a).first _ c)

-- two stamps are equal exactly if their numbers are
same_number : (x : Stamp) (k : ℕ) → k < 18446744073709551615 → number_of x ≡ k → equals x k ≡ true
same_number never k h e = absurd (omega arith)
same_number (at j) k h e = eq-eqb j k e

other_number : (x : Stamp) (k : ℕ) → (number_of x ≡ k → ⊥) → equals x k ≡ false
other_number never k n = refl
other_number (at j) k n = ne_eqb j k n

-- a memory with the copies of side u, and the latest stamps
pub record Sees (layout : Layout) (u : Side) (copies latest : List ℕ) (σ : State) : Type 0 where
  pub held : (c : ℕ) → c < cell_count layout → get_or copies c 0 ≡ number_of ((σ.cell c).held u)
  pub latest_is : (c : ℕ) → c < cell_count layout → get_or latest c 0 ≡ (σ.cell c).latest
  pub small : (c : ℕ) → (σ.cell c).latest < 18446744073709551615

-- the cells `these` of a range, which have to be current on side u
module _ (layout : Layout) (u : Side) (copies latest : List ℕ) (σ : State) (sees : Sees layout u copies latest σ)
    (these : ℕ → Bool) (k from to : ℕ) (range : (c : ℕ) → c < cell_count layout → these c ≡ stepped k from to c) where
  -- every cell but those from the first stale one on
  fine : (r : ℕ) → FirstStale copies latest k from to r → (c : ℕ) → c < cell_count layout → (c < to → c < r) → (not (these c) || current (σ.cell c) u) ≡ true
  fine r f c h before = rw (range c h) (go (stepped k from to c) refl)
    where
      go : (b : Bool) → stepped k from to c ≡ b → (not b || current (σ.cell c) u) ≡ true
      go true e =
          let p = stepped_bounds k from to c e in
          same_number ((σ.cell c).held u) (σ.cell c).latest (sees.small c) (sym (sees.held c h) ∙ f.before c (stepped_below k from to r c e (before p.1)) ∙ sees.latest_is c h)
      go false e = refl

  stale : (r : ℕ) → FirstStale copies latest k from to r → r < cell_count layout → r < to → (not (these r) || current (σ.cell r) u) ≡ false
  stale r f h l = rw (range r h, f.one l)
      (other_number ((σ.cell r).held u) (σ.cell r).latest λ e. f.here l (sees.held r h ∙ e ∙ sym (sees.latest_is r h)))

  module _ (y : Action) (needs : (c : ℕ) → met layout y σ c ≡ (not (these c) || current (σ.cell c) u)) where
    -- none of them is stale
    pub all_fine : (r : ℕ) → FirstStale copies latest k from to r → to ≤ r → lowest_unmet layout y σ ≡ none
    all_fine r f l = none_unmet layout y σ λ c h. needs c ∙ fine r f c h (λ z. omega arith)

    -- the first stale one is the lowest unmet cell
    pub stale_at : (r : ℕ) → FirstStale copies latest k from to r → r < to → to ≤ cell_count layout → lowest_unmet layout y σ ≡ some r
    stale_at r f l h = unmet_first layout y σ 0 (cell_count layout) r (omega arith) (omega arith) (needs r ∙ stale r f (omega arith) l)
        (λ c z. needs c ∙ fine r f c (omega arith) (λ _. z))

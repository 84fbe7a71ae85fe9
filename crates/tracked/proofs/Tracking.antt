-- A record and the status of each cell: it is stuck exactly if some cell that it covers is unmet, and after it the cells that it covers have the status after it, and every other its own.
use Prim.Native.Nat.{ℕ, ◌+◌, ◌≤◌, ◌<◌}
use mathlib.Core.Path.{◌≡◌, refl, sym, ap, ◌∙◌}
use mathlib.Core.Logic.{⊎_elim}
use mathlib.Core.Bool.{Bool, true, false, cond, not, ◌||◌, or-false, or_assoc, true≢false}
use mathlib.Core.List.{List}
use mathlib.Core.Option.{none}
use native.Nat.{ℕᴺ_discrete}
use native.Mathlib.Omega.{arith}
use lib.ListN.{length, get_or, set}
use lib.Seq.{get_or-set_other}
use borrow.Author.Tests.{not-true, not-false}
use Rattle.model.specs.Sides.{Layout, cell_count}
use Rattle.model.specs.Records.{Action, stepped}
use Rattle.model.specs.Effects.{State, met, effect}
use Rattle.model.specs.Runs.{lowest_unmet}
use Rattle.model.proofs.Booleans.{or_out, or_none}
use Rattle.model.proofs.Numbering.{stepped_first, stepped_next, stepped_none, stepped_bounds}
use Rattle.model.proofs.Stamps.{Past}
use Rattle.model.proofs.Status.{status_of, met_status, status_effect}
use Rattle.model.proofs.Unmet.{unmet_some, none_unmet}
use Rattle.memories.proofs.Cells.{Storing, storing_none, storing_next, storing_all}
use Rattle.statuses.specs.Inner.Sets.{index, touched_met}
use Rattle.statuses.proofs.Touched.{touched_met_in, touched_status_after, spares}
use Rattle.tracked.specs.declared.masks.Masks.{Masks}
use Rattle.tracked.specs.Inner.Tracking.{stops_by, after_by, Tells, StopsIn, Touched, Statuses, Covered, Tracks}

-- whether one of the cells from c on stops: none is left, or cell c and those behind it
module _ {k to : ℕ} {stops : ℕ → Bool} {c : ℕ} where
  stops_none : to ≤ c → StopsIn k c to stops false
  stops_none h = record { one = λ e. absurd (true≢false (sym e)); none = λ e n s. absurd (true≢false (sym s ∙ stepped_none k c to h n)) }

  stops_next : 1 ≤ k → c < to → {r : Bool} → StopsIn k (c + k) to stops r → StopsIn k c to stops (stops c || r)
  stops_next some h {r} w = record {
    one = λ e. ⊎_elim
        (λ q. (c, stepped_first k c to h, q))
        (λ q.
        let n = w.one q in
        let p = stepped_bounds k (c + k) to n.0 n.1 in
        (n.0, sym (stepped_next k c to some n.0 (λ z. omega (arith, p.0))) ∙ n.1, n.2))
        (or_out (stops c) r e);
    none = λ e n s. let q = or_none (stops c) r e in elim (ℕᴺ_discrete n c) [
      | yes z ↦ rw z q.0
      | no z ↦ w.none q.1 n (stepped_next k c to some n z ∙ s)
    ];
  }

-- a loop that touches cells stands at cell c with the list l, and r says whether one has stopped: cells ahead are as they were
pub record Touching (m : Masks) (k from to : ℕ) (before : List ℕ) (c : ℕ) (l : List ℕ) (r : Bool) : Type 0 where
  pub ahead : (n : ℕ) → c ≤ n → get_or l n 0 ≡ get_or before n 0
  pub stored : Storing k from to (λ n. after_by m (get_or before n 0)) before c l
  pub found : (q : Bool) → StopsIn k c to (λ n. stops_by m (get_or before n 0)) q → StopsIn k from to (λ n. stops_by m (get_or before n 0)) (r || q)

module _ {m : Masks} {k from to : ℕ} {before : List ℕ} where
  pub touching_none : Touching m k from to before from before false
  touching_none = record { ahead = λ n h. refl; stored = storing_none; found = λ q s. s }

  module _ {c : ℕ} {l : List ℕ} {r : Bool} (w : Touching m k from to before c l r) where
    pub touching_next : 1 ≤ k → c < to → to ≤ length before → {v : ℕ} {s : Bool} → v ≡ after_by m (get_or l c 0) → s ≡ stops_by m (get_or l c 0) → Touching m k from to before (c + k) (set l c v) (r || s)
    touching_next some h b {v} {s} e f =
        let here = w.ahead c (omega arith) in
        let value : v ≡ after_by m (get_or before c 0) = e ∙ ap (after_by m) here in
        let stop : s ≡ stops_by m (get_or before c 0) = f ∙ ap (stops_by m) here in
        record {
          ahead = λ n g. get_or-set_other l c n v 0 (λ z. omega arith) ∙ w.ahead n (omega arith);
          stored = rw value (storing_next w.stored some h b);
          found = λ q z. rw (stop, or_assoc r (stops_by m (get_or before c 0)) q) (w.found _ (stops_next some h z));
        }

    pub touching_all : to ≤ c → Touched m k from to before l r
    touching_all h = record { stops = rw (or-false r) at (w.found false (stops_none h)); cells = storing_all w.stored h }

module _ (layout : Layout) (x : Action) (k from to : ℕ) (w : Covered layout x k from to) (σ : State) where
  met_touched : (c : ℕ) → stepped k from to c ≡ true → met layout x σ c ≡ touched_met x.verb x.side (status_of layout c σ)
  met_touched c e = met_status layout c x σ ∙ touched_met_in layout c x (w.cells c ∙ e) (status_of layout c σ)

  all_met : ((c : ℕ) → stepped k from to c ≡ true → met layout x σ c ≡ true) → lowest_unmet layout x σ ≡ none
  all_met f = none_unmet layout x σ (λ c h. go c (stepped k from to c) refl)
    where
      go : (c : ℕ) (b : Bool) → stepped k from to c ≡ b → met layout x σ c ≡ true
      go c true e = f c e
      go c false e = let q = w.cells c ∙ e in rw q

  module _ (m : Masks) (t : Tells x.verb x.side m) (before : List ℕ) (s : Statuses layout σ before) where
    -- what the masks say of a cell that the record covers
    module _ (c : ℕ) (e : stepped k from to c ≡ true) where
      here : get_or before c 0 ≡ index (status_of layout c σ)
      here = s.listed c (omega (arith, (stepped_bounds k from to c e).1, w.ends))

      stops_here : stops_by m (get_or before c 0) ≡ not (met layout x σ c)
      stops_here = ap (stops_by m) here ∙ (t.stops (status_of layout c σ) ∙ ap not (sym (met_touched c e)))

      after_here : Past σ → met layout x σ c ≡ true → after_by m (get_or before c 0) ≡ index (status_of layout c (effect layout x σ))
      after_here p q =
          ap (after_by m) here
          ∙ (t.after (status_of layout c σ) (sym (met_touched c e) ∙ q)
          ∙ ap index (sym (status_effect layout c x σ p ∙ touched_status_after layout c x (w.cells c ∙ e) (status_of layout c σ))))

    pub tracks : Past σ → (after : List ℕ) (r : Bool) → Touched m k from to before after r → Tracks layout x σ r after
    tracks p after r v = record {
      stops = λ e.
          let n = v.stops.one e in
          unmet_some layout x σ 0 (cell_count layout) n.0 (not-true _ (sym (stops_here n.0 n.1) ∙ n.2)) (omega arith) (omega (arith, (stepped_bounds k from to n.0 n.1).1, w.ends));
      goes = λ e. (all_met (meets e), record { room = omega (arith, v.cells.size, s.room); listed = λ c h. v.cells.cell c ∙ go e c h (stepped k from to c) refl });
    }
      where
        meets : r ≡ false → (c : ℕ) → stepped k from to c ≡ true → met layout x σ c ≡ true
        meets e c q = not-false _ (sym (stops_here c q) ∙ v.stops.none e c q)

        go : r ≡ false → (c : ℕ) → c < cell_count layout → (b : Bool) → stepped k from to c ≡ b →
            cond b (after_by m (get_or before c 0)) (get_or before c 0) ≡ index (status_of layout c (effect layout x σ))
        go e c h true q = after_here c q p (meets e c q)
        go e c h false q = s.listed c h ∙ ap index (sym (status_effect layout c x σ p ∙ (spares layout c x h (w.cells c ∙ q) (status_of layout c σ)).1))

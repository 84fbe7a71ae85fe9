-- The status of one cell: which of its copies are current and which flags of its array are set.
-- What a record needs of the cell, and the status after it, follow from the status before it.
use Prim.Native.Nat.{ℕ, suc, ◌<◌}
use mathlib.Core.Path.{◌≡◌, refl, ap, sym, ◌∙◌}
use mathlib.Core.Bool.{Bool, true, false, cond, not, ◌&&◌, ◌||◌}
use borrow.Author.Tests.{eq-eqb}
use Rattle.model.specs.Sides.{Side, host, card, same_side, Stamp, never, at, equals, Layout, cell_count, is_scratch}
use Rattle.model.specs.Records.{Action, covers}
use Rattle.model.specs.Effects.{Stamps, State, current, starts_filled, start, Deed, nothing, gets, puts, moves, comes_to, needs, does, deed, met, effect}
use Rattle.model.specs.Inner.Holders.{array_of}
use Rattle.model.proofs.Bits.{Bits, equal, equal_true}
use Rattle.model.proofs.Numbering.{covers_array, scratch_own}
use Rattle.model.proofs.Stamps.{Past, old_stale}
pub use Rattle.model.specs.Inner.Statuses.{Status, current_on, flag_on, status, at_start, needs_of, makes_of, flags_in, comes_in, own, status_of, met_in, status_after}

-- a status as bits: nothing but the record above and these lines says how many statuses there are
abbrev pub width : ℕ
width = 4

abbrev pub bits : Status → Bits width
bits u = (u.host_current, (u.card_current, (u.host_flag, (u.card_flag, tt))))

abbrev pub status_at : Bits width → Status
status_at w = record { host_current = w.0; card_current = w.1.0; host_flag = w.1.1.0; card_flag = w.1.1.1.0 }

-- whether two statuses are the same
abbrev pub alike : Status → Status → Bool
alike u v = equal width (bits u) (bits v)

pub alike_true : (u v : Status) → alike u v ≡ true → u ≡ v
alike_true u v e = ap status_at (equal_true width (bits u) (bits v) e)

needs_current : (d : Deed) (u : Stamps) → needs d u ≡ needs_of d (current u)
needs_current nothing u = refl
needs_current (gets s) u = refl
needs_current (puts s) u = refl
needs_current (moves from to) u = refl

put_current : (b : Bool) (k : ℕ) (x : Stamp) → equals x k ≡ false → equals (cond b (at k) x) k ≡ b
put_current true k x old = eq-eqb k k refl
put_current false k x old = old

moved_current : (b : Bool) (x y : Stamp) (k : ℕ) → equals (cond b x y) k ≡ cond b (equals x k) (equals y k)
moved_current true x y k = refl
moved_current false x y k = refl

-- where stamp k is new
makes_current : (k : ℕ) (d : Deed) (u : Stamps) → ((t : Side) → equals (u.held t) k ≡ false) → (t : Side) → current (does k d u) t ≡ makes_of d (current u) t
makes_current k nothing u new t = refl
makes_current k (gets s) u new t = refl
makes_current k (puts s) u new t = put_current (same_side t s) k (u.held t) (new t)
makes_current k (moves from to) u new t = moved_current (same_side t to) (u.held from) (u.held t) u.latest

module _ (layout : Layout) (c : ℕ) where
  current_of : (σ : State) (s : Side) → current (σ.cell c) s ≡ current_on (status_of layout c σ) s
  current_of σ host = refl
  current_of σ card = refl

  flag_of : (σ : State) (s : Side) → (σ.flags (array_of layout c)).flag s ≡ flag_on (status_of layout c σ) s
  flag_of σ host = refl
  flag_of σ card = refl

  currents_of : (σ : State) → current (σ.cell c) ≡ current_on (status_of layout c σ)
  currents_of σ = λ i s. current_of σ s i

  flags_of : (σ : State) → σ.flags (array_of layout c) ≡ flags_in (status_of layout c σ)
  flags_of σ = λ i. record { flag = λ s. flag_of σ s i }

  -- a cell starts as its array does
  pub start_status : c < cell_count layout → status_of layout c (start layout) ≡ at_start (is_scratch layout (array_of layout c))
  start_status h = λ i. status (λ s. copy s i) (λ s. same_side s host && not (is_scratch layout (array_of layout c)))
    where
      held : (b : Bool) → equals (cond b (at 0) never) 0 ≡ b
      held true = refl
      held false = refl

      copy : (s : Side) → current ((start layout).cell c) s ≡ (same_side s host && not (is_scratch layout (array_of layout c)))
      copy s = held (starts_filled layout s c) ∙ ap (λ b. same_side s host && not b) (scratch_own layout c h)

  -- a record that covers the cell looks at the flags of its own array
  own_deed : (x : Action) (σ : State) → covers layout x c ≡ true → deed x σ ≡ (comes_in x (status_of layout c σ)).0
  own_deed x σ e =
      ap (λ n. (comes_to x.verb x.side (σ.flags n)).0) (sym (covers_array layout x c e)) ∙ ap (λ f. (comes_to x.verb x.side f).0) (flags_of σ)

  pub met_status : (x : Action) (σ : State) → met layout x σ c ≡ met_in layout c x (status_of layout c σ)
  met_status x σ = go (covers layout x c) refl
    where
      go : (b : Bool) → covers layout x c ≡ b → (not b || needs (deed x σ) (σ.cell c)) ≡ (not b || needs_of (comes_in x (status_of layout c σ)).0 (current_on (status_of layout c σ)))
      go true e = needs_current (deed x σ) (σ.cell c) ∙ (λ i. needs_of (own_deed x σ e i) (currents_of σ i))
      go false e = refl

  pub status_effect : (x : Action) (σ : State) → Past σ → status_of layout c (effect layout x σ) ≡ status_after layout c x (status_of layout c σ)
  status_effect x σ p = λ i. status (λ t. copies t (covers layout x c) refl i) (λ t. flags t (own layout c x.name) i)
    where
      new : (t : Side) → equals ((σ.cell c).held t) (suc σ.writes) ≡ false
      new t = old_stale σ.writes ((σ.cell c).held t) (p.held t c)

      copies : (t : Side) (b : Bool) → covers layout x c ≡ b →
          current (cond b (does (suc σ.writes) (deed x σ) (σ.cell c)) (σ.cell c)) t
          ≡ cond b (makes_of (comes_in x (status_of layout c σ)).0 (current_on (status_of layout c σ)) t) (current_on (status_of layout c σ) t)
      copies t true e = makes_current (suc σ.writes) (deed x σ) (σ.cell c) new t ∙ (λ i. makes_of (own_deed x σ e i) (currents_of σ i) t)
      copies t false e = λ i. current_of σ t i

      flags : (t : Side) (b : Bool) → (cond b (comes_to x.verb x.side (σ.flags (array_of layout c))).1 (σ.flags (array_of layout c))).flag t ≡ cond b ((comes_in x (status_of layout c σ)).1.flag t) (flag_on (status_of layout c σ) t)
      flags t true = λ i. (comes_to x.verb x.side (flags_of σ i)).1.flag t
      flags t false = λ i. flag_of σ t i

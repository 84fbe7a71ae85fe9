-- The memory view: whether cells are all current, the answer by the rows, the side and the part.
use mathlib.Core.Path.{◌≡◌, refl, sym, ap}
use mathlib.Core.Bool.{Bool, true, false, not, ◌&&◌, ◌||◌}
use mathlib.Core.List.{List, []}
use Prim.Native.Nat.{ℕ, zero, suc, ◌+◌, ◌*◌, ◌-◌, ◌≤◌, ◌<◌, min}
use native.Nat.{ℕᴺ_discrete}
use native.Mathlib.Omega.{arith}
use lib.Dec.{ltb, leb, eqb}
use lib.ListN.{length, get_or, take, drop}
use borrow.Author.Tests.{eq-eqb, eqb-true, eqb-false, leb-false, ltb-false}
use Rattle.std.specs.Prelude.{Ok, Err}
use Rattle.model.specs.declared.Fault.{Fault}
use Rattle.model.specs.declared.Side.{Side}
use Rattle.model.specs.declared.Side.TheVariants.{Host, Card}
use Rattle.model.specs.Verdicts.{Accepted, Refused}
use Rattle.model.proofs.Verdicts.{faulty_where, found_where, where_accepts, where_faulty}
use Rattle.model.proofs.Booleans.{or_none, and_out}
use Rattle.model.proofs.Rows.{holds, skips, skipped, empty}
use Rattle.view.specs.Viewing.{all_current, memory_view_answer, of_side, viewed_side, viewed_place, memory_view, memory_side}
use Rattle.memories.specs.Inner.Ranges.{FirstStale}
use Rattle.memories.proofs.Cells.{each}

-- n cells from c on are all current exactly if each of them is
module _ (copies latest : List ℕ) where
  pub current_each : (n c : ℕ) → all_current copies latest c n ≡ true → (k : ℕ) → c ≤ k → k < c + n → get_or copies k 0 ≡ get_or latest k 0
  unfolding all_current
  current_each zero c e k h l = absurd (omega arith)
  current_each (suc n) c e k h l =
      let p = and_out (eqb (get_or copies c 0) (get_or latest c 0)) (all_current copies latest (suc c) n) e in
      elim (ℕᴺ_discrete k c) [ yes q ↦ rw q (eqb-true _ _ p.0) | no q ↦ current_each n (suc c) p.1 k (omega arith) (omega arith) ]

  pub each_current : (n c : ℕ) → ((k : ℕ) → c ≤ k → k < c + n → get_or copies k 0 ≡ get_or latest k 0) → all_current copies latest c n ≡ true
  unfolding all_current
  each_current zero c h = refl
  each_current (suc n) c h = rw (eq-eqb _ _ (h c (omega arith) (omega arith))) (each_current n (suc c) (λ k i j. h k (omega arith) (omega arith)))

  pub one_stale : (n c k : ℕ) → c ≤ k → k < c + n → (get_or copies k 0 ≡ get_or latest k 0 → ⊥) → all_current copies latest c n ≡ false
  one_stale n c k h l e = go (all_current copies latest c n) refl
    where
      go : (b : Bool) → all_current copies latest c n ≡ b → b ≡ false
      go true q = absurd (e (current_each n c q k h l))
      go false q = refl

-- all cells from `from` up to `end` are current exactly if the first stale one is `end`
pub no_stale : (copies latest : List ℕ) (from end r : ℕ) → FirstStale copies latest 1 from end r → eqb r end ≡ all_current copies latest from (end - from)
no_stale copies latest from end r f = go (eqb r end) refl
  where
    go : (b : Bool) → eqb r end ≡ b → b ≡ all_current copies latest from (end - from)
    go true e = let q = eqb-true r end e in sym (each_current copies latest (end - from) from (λ k i j. f.before k (each from r k i (omega (arith, f.low)))))
    go false e =
        let q = eqb-false r end e in
        let l : r < end = omega (arith, f.high) in
        sym (one_stale copies latest (end - from) from r f.low (omega arith) (f.here l))

-- the view of the cells `from` up to `end`
module _ (host card latest : List ℕ) (from end : ℕ) where
  -- number 23: the cells are none, or not in every memory
  abbrev pub outside : Bool
  outside = leb end from || ltb (min (length host) (min (length card) (length latest))) end

  pub record Inside : Type 0 where
    pub order : from ≤ end
    pub host_long : end ≤ length host
    pub card_long : end ≤ length card
    pub latest_long : end ≤ length latest

  pub in_each : outside ≡ false → Inside
  in_each o =
      let q = or_none (leb end from) (ltb (min (length host) (min (length card) (length latest))) end) o in
      let l : from < end = leb-false end from q.0 in
      let m : end ≤ min (length host) (min (length card) (length latest)) = ltb-false (min (length host) (min (length card) (length latest))) end q.1 in
      record { order = omega arith; host_long = omega arith; card_long = omega arith; latest_long = omega arith }

  abbrev on_host : Bool
  on_host = all_current host latest from (end - from)

  abbrev on_card : Bool
  on_card = all_current card latest from (end - from)

  -- each answer, by the rows
  pub view_outside : outside ≡ true → Err (Fault.Refused 23 0) ≡ memory_side host card latest from end
  unfolding memory_side memory_view_answer
  view_outside o = faulty_where _ _ _ (holds outside 23 0 _ o)

  module _ (o : outside ≡ false) where
    pub view_host : on_host ≡ true → Ok Host ≡ memory_side host card latest from end
    unfolding memory_side memory_view_answer viewed_side
    view_host h = found_where _ _ _ (skips outside 23 0 _ Accepted o (skips (not on_host && not on_card) 24 0 _ Accepted (rw h) empty)) (rw h)

    pub view_card : on_host ≡ false → on_card ≡ true → Ok Card ≡ memory_side host card latest from end
    unfolding memory_side memory_view_answer viewed_side
    view_card h k = found_where _ _ _ (skips outside 23 0 _ Accepted o (skips (not on_host && not on_card) 24 0 _ Accepted (rw (h, k)) empty)) (rw h)

    pub view_stale : on_host ≡ false → on_card ≡ false → Err (Fault.Refused 24 0) ≡ memory_side host card latest from end
    unfolding memory_side memory_view_answer
    view_stale h k = faulty_where _ _ _ (skips outside 23 0 _ (Refused 24 0) o (holds (not on_host && not on_card) 24 0 _ (rw (h, k))))

  -- a refused view, and the part of a side's own memory, in which it lies, wherever that is
  pub part_none : (e : Fault) → Err e ≡ memory_side host card latest from end → (Err e ≡ memory_view_answer host card latest from end) × ([] ≡ memory_view host card latest from end)
  unfolding memory_side memory_view
  part_none e h = let v = where_faulty _ _ _ h in (v, rw (← v))

  module _ (s : Side) (q : Ok s ≡ memory_side host card latest from end) where
    pub accepts : Accepted ≡ memory_view_answer host card latest from end
    unfolding memory_side
    accepts = (where_accepts _ _ _ q).0

    side_is : s ≡ viewed_side host latest from end
    unfolding memory_side
    side_is = (where_accepts _ _ _ q).1

    pub part_inside : Inside
    unfolding memory_view_answer
    part_inside = in_each (skipped outside 23 0 _ accepts).0

    pub part_of : take (end - from) (drop from (of_side s host card)) ≡ memory_view host card latest from end
    unfolding memory_view
    part_of = rw (side_is, ← accepts)

    pub place_of : (h k : ℕ × ℕ) → ((of_side s h k).0, from * 8 + (of_side s h k).1) ≡ viewed_place h k (viewed_side host latest from end) from
    place_of h k = rw (← side_is) (ap (λ n. ((of_side s h k).0, n)) (omega arith))

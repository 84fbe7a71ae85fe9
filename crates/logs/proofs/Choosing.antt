-- Where a record with arms leads, path by path.
use Prim.Native.Nat.{ℕ, ◌+◌, ◌<◌}
use mathlib.Core.Path.{◌≡◌, refl, sym, ap, ◌∙◌}
use mathlib.Core.Bool.{Bool, true, false, cond, ◌&&◌}
use mathlib.Core.List.{List}
use native.Mathlib.Omega.{arith}
use lib.Dec.{eqb, ltb}
use borrow.Author.Tests.{eq-eqb, ne_eqb}
use Rattle.reading.specs.declared.Fields.{Fields}
use Rattle.reading.specs.Bytes.{first_arm, second_arm}
use Rattle.places.specs.declared.Place.{Place}
use Rattle.places.specs.Inner.Places.{Spot, spot, entered, skipped, used_one, into, settled, chosen, turned}
use Rattle.places.proofs.Places.{settled_last}
use Rattle.logs.specs.Inner.Following.{Ahead, told_by, led_by}

-- a place before the end of its arm stays
stays : (p : Spot) → (p.at ≡ p.end → ⊥) → settled p ≡ p
stays p nay = sym (settled_last p (rw (ne_eqb p.at p.end nay)))

module _ (p : Spot) (x : Fields) where
  abbrev second : ℕ
  second = p.at + 1 + first_arm x

  -- where the run goes on after the first arm
  abbrev back : ℕ
  back = cond (eqb x.kind 6) (second + second_arm x) p.at

  one_is : chosen p x 1 ≡ into (used_one p) (p.at + 1) second back
  unfolding chosen
  one_is = go (eqb x.kind 6)
    where
      go : (b : Bool) → cond b (into (used_one p) (p.at + 1) second (second + second_arm x)) (into (used_one p) (p.at + 1) second p.at) ≡ into (used_one p) (p.at + 1) second (cond b (second + second_arm x) p.at)
      go true = refl
      go false = refl

  into_one : 0 < first_arm x → into (used_one p) (p.at + 1) second back ≡ entered (used_one p) (p.at + 1) second back
  unfolding into
  into_one h = rw (ne_eqb (p.at + 1) second (λ z. omega arith))

  past_one : first_arm x ≡ 0 → into (used_one p) (p.at + 1) second back ≡ skipped (used_one p) back
  unfolding into
  past_one h = rw (eq-eqb (p.at + 1) second (omega arith))

  -- into the first arm
  pub ahead_arm : 0 < first_arm x → (r : Place) → r.at ≡ p.at + 1 → r.end ≡ second → Ahead p x r
  ahead_arm h r a b =
      let q = entered (used_one p) (p.at + 1) second back in
      let e : settled (chosen p x 1) ≡ q = ap settled (one_is ∙ into_one h) ∙ stays q (λ z. omega arith) in
      record { at = a ∙ sym (ap (λ (s : Spot). s.at) e); end = b ∙ sym (ap (λ (s : Spot). s.end) e) }

  -- back to the test of an empty loop
  pub ahead_loop : first_arm x ≡ 0 → (x.kind ≡ 6 → ⊥) → p.at < p.end → (r : Place) → r.at ≡ p.at → r.end ≡ p.end → Ahead p x r
  ahead_loop h nay l r a b =
      let q = skipped (used_one p) p.at in
      let e : settled (chosen p x 1) ≡ q = ap settled (one_is ∙ past_one h ∙ rw (ne_eqb x.kind 6 nay)) ∙ stays q (λ z. omega arith) in
      record { at = a ∙ sym (ap (λ (s : Spot). s.at) e); end = b ∙ sym (ap (λ (s : Spot). s.end) e) }

  -- past a branch
  pub ahead_past : first_arm x ≡ 0 → x.kind ≡ 6 → (r : Place) (q : Spot) → q ≡ settled (skipped (used_one p) (second + second_arm x)) → r.at ≡ q.at → r.end ≡ q.end → Ahead p x r
  ahead_past h y r q z a b =
      let e : settled (chosen p x 1) ≡ q = ap settled (one_is ∙ past_one h ∙ rw (eq-eqb x.kind 6 y)) ∙ sym z in
      record { at = a ∙ sym (ap (λ (s : Spot). s.at) e); end = b ∙ sym (ap (λ (s : Spot). s.end) e) }

  -- the choice that is told
  pub told_as : (r : Place) → Ahead p x r → (next : ℕ) (b : Bool) → (eqb r.at next && ltb r.at r.end) ≡ b → cond b 1 0 ≡ told_by p x next
  told_as r w next b q = rw (← w.at, ← w.end, q) refl

  pub led_turn : (next : ℕ) (q r : Spot) → x.kind ≡ 9 → q ≡ turned p x → r ≡ settled q → r ≡ led_by p x next
  unfolding led_by
  led_turn next q r y e g = rw (eq-eqb x.kind 9 y) (g ∙ ap settled e)

  pub led_told : (next c : ℕ) (q r : Spot) → (x.kind ≡ 9 → ⊥) → c ≡ told_by p x next → q ≡ chosen p x c → r ≡ settled q → r ≡ led_by p x next
  unfolding led_by
  led_told next c q r nay o e g = rw (ne_eqb x.kind 9 nay) (g ∙ ap settled (e ∙ ap (chosen p x) o))

-- a place further on, with one choice used
pub place_is : (p : Place) (room : List ℕ) (n at : ℕ) → n ≡ at → p.used ≡ 0 → spot (record { at = n; end = p.end; depth = p.depth; used = 1 }) room ≡ skipped (used_one (spot p room)) at
place_is p room n at e u = λ i. record { at = e i; end = p.end; depth = p.depth; used = sym u i + 1; room = room }

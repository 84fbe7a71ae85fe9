-- A record and each status of a set: what is found of those that are no more to do.
use Prim.Native.Nat.{ℕ, ◌≤◌, ◌<◌}
use mathlib.Core.Path.{◌≡◌, refl, sym, ap, ◌∙◌}
use mathlib.Core.Logic.{◌⊎◌, inl, inr}
use mathlib.Core.Bool.{Bool, true, false, not, ◌&&◌, ◌||◌, true≢false}
use native.Mathlib.Omega.{arith}
use lib.Dec.{eqb}
use borrow.Author.Tests.{eqb-true, eq-eqb}
use Rattle.std.specs.Prelude.{Some}
use Rattle.model.specs.declared.Record.{Record}
use Rattle.model.proofs.Booleans.{and_out, or_out, or_left, or_right}
use Rattle.model.proofs.Status.{Status}
use Rattle.statuses.specs.declared.acts.Found.{Found}
use Rattle.statuses.specs.Inner.Sets.{statuses, index, bit, In, Union, number_of}
use Rattle.statuses.specs.Inner.Ran.{Ran}
use Rattle.statuses.proofs.Words.{no_bit}
use Rattle.statuses.proofs.Statuses.{numbered, index_numbered, index_below, index_one, in_union}

-- record k leaves a status in another, and stops the cell where it is unmet
module _ (after : Status → Status) (met : Status → Bool) (k : Record) (t : Found) where
  -- `set` has the statuses after those of t that are no more to do, and `stops` says whether one of theirs is unmet
  pub record Moving (set : ℕ) (stops : Bool) (todo : ℕ) : Type 0 where
    pub some : (v : Status) → In set v → (u : Status) × In t.set u × (after u ≡ v)
    pub rest : (u : Status) → In t.set u → In todo u ⊎ (In set (after u) × (met u ≡ false → stops ≡ true))
    pub within : (i : ℕ) → i < statuses → bit todo i ≡ true → bit t.set i ≡ true
    pub named : stops ≡ true → (u : Status) × In t.set u × (met u ≡ false)

  pub moving_none : Moving 0 false t.set
  moving_none = record { some = λ v e. absurd (no_bit 0 (index v) refl e); rest = λ u e. inl e; within = λ i l e. e; named = λ e. absurd (true≢false (sym e)) }

  module _ (set : ℕ) (stops : Bool) (todo : ℕ) (m : Moving set stops todo) where
    pub moving_all : k.0 < 65535 → todo ≡ 0 → (r : Found) → r.set ≡ set → number_of r.low ≤ number_of t.low → (r.low ≡ t.low) ⊎ ((r.low ≡ Some k) × (stops ≡ true)) → (stops ≡ true → number_of r.low ≤ k.0) →
        Ran (λ u v. after u ≡ v) (λ u n. (k.0 ≡ n) × (met u ≡ false)) (In t.set) t.low r
    moving_all h e r es lower named least = record {
      exits = λ v. (λ b. m.some v (rw es at b), λ p. rw (es, ← p.2) (done p.0 p.1).0);
      lower = lower;
      named = elim named [ inl q ↦ inl q | inr q ↦ let p = m.named q.1 in inr (p.0, p.1, (sym (ap number_of q.0), p.2)) ];
      least = λ u n b s. let l = least ((done u b).1 s.1) in (omega (arith, s.0), omega arith);
    }
      where
        done : (u : Status) → In t.set u → In set (after u) × (met u ≡ false → stops ≡ true)
        done u b = elim (m.rest u b) [ inl q ↦ absurd (no_bit todo (index u) e q) | inr q ↦ q ]

    pub moving_more : (w : ℕ) → w < statuses → bit todo w ≡ true → (a : ℕ) (s : Bool) → ((u : Status) → index u ≡ w → (index (after u) ≡ a) × (not (met u) ≡ s)) →
        (o set' todo' : ℕ) → ((i : ℕ) → i < statuses → bit o i ≡ eqb i a) → Union set' o set → ((i : ℕ) → i < statuses → bit todo' i ≡ (not (eqb i w) && bit todo i)) → Moving set' (s || stops) todo'
    moving_more w h b a s leaf o set' todo' eo eu et = record {
      some = some;
      rest = rest;
      within = λ i l e. m.within i l (and_out (not (eqb i w)) (bit todo i) (sym (et i l) ∙ e)).1;
      named = λ e. elim (or_out s stops e) [
        | inl q ↦ (numbered w, here, unmet (met (numbered w)) ((leaf (numbered w) (index_numbered w h)).1 ∙ q))
        | inr q ↦ m.named q
      ];
    }
      where
        here : In t.set (numbered w)
        here = rw (index_numbered w h) (m.within w h b)

        unmet : (c : Bool) → not c ≡ true → c ≡ false
        unmet true e = sym e
        unmet false e = refl

        some : (v : Status) → In set' v → (u : Status) × In t.set u × (after u ≡ v)
        some v e = elim ((in_union eu v).0 e) [
          | inl p ↦ (numbered w, here, index_one _ v ((leaf (numbered w) (index_numbered w h)).0 ∙ sym (eqb-true _ _ (sym (eo (index v) (index_below v)) ∙ p))))
          | inr p ↦ m.some v p
        ]

        rest : (u : Status) → In t.set u → In todo' u ⊎ (In set' (after u) × (met u ≡ false → (s || stops) ≡ true))
        rest u e = elim (m.rest u e) [
          | inl p ↦ go (eqb (index u) w) refl p
          | inr p ↦ inr ((in_union eu (after u)).1 (inr p.0), λ q. or_right s stops (p.1 q))
        ]
          where
            go : (c : Bool) → eqb (index u) w ≡ c → In todo u → In todo' u ⊎ (In set' (after u) × (met u ≡ false → (s || stops) ≡ true))
            go true q p = let f = leaf u (eqb-true (index u) w q) in inr (
              (in_union eu (after u)).1 (inl (eo (index (after u)) (index_below (after u)) ∙ eq-eqb _ a f.0)),
              λ z. or_left s stops (sym f.1 ∙ rw z),
            )
            go false q p = inl (et (index u) (index_below u) ∙ rw (q, p))

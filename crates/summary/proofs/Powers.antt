-- A fixed loop: one turn by the rows, and the sets that repeat each turn or every second turn.
use Prim.Native.Nat.{ℕ, zero, suc, ◌+◌, ◌-◌, ◌*◌, ◌/◌, ◌%◌, ◌≤◌, ◌<◌}
use mathlib.Core.Path.{◌≡◌, refl, sym, subst, ◌∙◌}
use mathlib.Core.Logic.{◌⊎◌, inl, inr, ◌↔◌}
use mathlib.Core.Bool.{Bool, true, false, not, ◌&&◌}
use native.Mathlib.Omega.{arith}
use native.Mathlib.Numerals.{add-one}
use native.Mathlib.Decide.{dec_lt}
use native.Nat.{ℕᴺ_discrete}
use lib.Dec.{eqb, ltb}
use borrow.Author.Tests.{eqb-true, ltb-true}
use Rattle.model.specs.Sides.{Layout}
use Rattle.model.specs.Records.{Action}
use Rattle.model.specs.Blocks.{Block, done, fixed}
use Rattle.model.proofs.Booleans.{and_out}
use Rattle.model.proofs.Status.{Status}
use Rattle.model.proofs.Through.{Power, Goes, Stops}
use Rattle.std.specs.Prelude.{Option}
use Rattle.model.specs.declared.Record.{Record}
use Rattle.statuses.specs.declared.acts.Found.{Found}
use Rattle.statuses.specs.Inner.Sets.{statuses, index, bit, In, Union, number_of}
use Rattle.statuses.specs.Inner.Ran.{Below}
use Rattle.statuses.proofs.Words.{no_bit}
use Rattle.statuses.proofs.Statuses.{index_below, in_union}
use Rattle.summary.proofs.Ways.{Found_in}

-- one turn, status by status
module _ (layout : Layout) (c : ℕ) (x : Block Action) (set : ℕ) (low : Option Record) where
  -- t is what is found from the statuses of the set that are no more to do
  pub record Part (t : Found) (todo : ℕ) : Type 0 where
    pub some : (v : Status) → In t.set v → (u : Status) × In set u × Goes layout c x u v
    pub rest : (u : Status) → In set u → In todo u ⊎ (((v : Status) → Goes layout c x u v → In t.set v) × ((r : ℕ) → Stops layout c x u r → Below (number_of t.low) r))
    pub within : (i : ℕ) → i < statuses → bit todo i ≡ true → bit set i ≡ true
    pub lower : number_of t.low ≤ number_of low
    pub named : (t.low ≡ low) ⊎ ((u : Status) × In set u × Stops layout c x u (number_of t.low))

  pub part_none : (t : Found) → t.set ≡ 0 → t.low ≡ low → Part t set
  part_none t es el = record {
    some = λ v e. absurd (no_bit t.set (index v) es e);
    rest = λ u e. inl e;
    within = λ i l e. e;
    lower = rw el (omega arith);
    named = inl el;
  }

  module _ (t : Found) (todo : ℕ) (m : Part t todo) where
    pub part_all : todo ≡ 0 → Found_in layout c x (In set) low t
    part_all e = record {
      exits = λ v. (m.some v, λ p. (looked p.0 p.1).0 v p.2);
      lower = m.lower;
      named = m.named;
      least = λ u r d s. (looked u d).1 r s;
    }
      where
        looked : (u : Status) → In set u → ((v : Status) → Goes layout c x u v → In t.set v) × ((r : ℕ) → Stops layout c x u r → Below (number_of t.low) r)
        looked u d = elim (m.rest u d) [ inl b ↦ absurd (no_bit todo (index u) e b) | inr p ↦ p ]

    pub part_more : (w : ℕ) → w < statuses → bit todo w ≡ true → (row t' : Found) (todo' : ℕ) → Found_in layout c x (λ u. index u ≡ w) t.low row →
        Union t'.set t.set row.set → t'.low ≡ row.low → ((i : ℕ) → i < statuses → bit todo' i ≡ (not (eqb i w) && bit todo i)) → Part t' todo'
    part_more w h b row t' todo' n es el et = record {
      some = λ v e. elim ((in_union es v).0 e) [
        | inl d ↦ m.some v d
        | inr d ↦ let p = (n.exits v).0 d in (p.0, here p.0 p.1, p.2)
      ];
      rest = rest;
      within = λ i l e. m.within i l (and_out (not (eqb i w)) (bit todo i) (sym (et i l) ∙ e)).1;
      lower = rw el (omega (arith, m.lower, n.lower));
      named = elim n.named [
        | inl e ↦ elim m.named [ inl d ↦ inl (el ∙ (e ∙ d)) | inr p ↦ inr (p.0, p.1, rw (el, e) p.2) ]
        | inr p ↦ inr (p.0, here p.0 p.1, rw el p.2)
      ];
    }
      where
        here : (u : Status) → index u ≡ w → In set u
        here u q = rw q (m.within w h b)

        rest : (u : Status) → In set u → In todo' u ⊎ (((v : Status) → Goes layout c x u v → In t'.set v) × ((r : ℕ) → Stops layout c x u r → Below (number_of t'.low) r))
        rest u e = elim (m.rest u e) [
          | inl p ↦ go (eqb (index u) w) refl p
          | inr p ↦ inr (
            λ v g. (in_union es v).1 (inl (p.0 v g)),
            λ r s. let l = p.1 r s in rw el (omega (arith, n.lower), omega (arith, n.lower)),
          )
        ]
          where
            go : (d : Bool) → eqb (index u) w ≡ d → In todo u → In todo' u ⊎ (((v : Status) → Goes layout c x u v → In t'.set v) × ((r : ℕ) → Stops layout c x u r → Below (number_of t'.low) r))
            go false q p = inl (et (index u) (index_below u) ∙ rw (q, p))
            go true q p = let i = eqb-true (index u) w q in inr (
              λ v g. (in_union es v).1 (inr ((n.exits v).1 (u, i, g))),
              λ r s. rw el (n.least u r i s),
            )

module _ (R : Status → Status → Type 0) where
  power_last : (n : ℕ) (u w v : Status) → Power R n u w → R w v → Power R (suc n) u v
  power_last zero u w v p r = (v, subst (λ z. R z v) (sym p) r, refl)
  power_last (suc n) u w v p r = (p.0, p.1, power_last n p.0 w v p.2 r)

  power_split : (n : ℕ) (u v : Status) → Power R (suc n) u v → (w : Status) × Power R n u w × R w v
  power_split zero u v p = (u, refl, subst (R u) p.2 p.1)
  power_split (suc n) u v p = let q = power_split n p.0 v p.2 in (q.0, (p.0, p.1, q.1), q.2)

-- the turns
module _ (layout : Layout) (c : ℕ) (x : Block Action) (start : Found) where
  -- n turns lead from one of the statuses at the start to v
  abbrev Image : ℕ → Status → Type 0
  Image n v = (u : Status) × In start.set u × Power (Goes layout c x) n u v

  -- what is found after i turns; `before` is the set one turn earlier
  pub record Turns (i before : ℕ) (t : Found) : Type 0 where
    pub ends : (v : Status) → In t.set v ↔ Image i v
    pub earlier : (j : ℕ) → i ≡ suc j → (v : Status) → In before v ↔ Image j v
    pub lower : number_of t.low ≤ number_of start.low
    pub named : (t.low ≡ start.low) ⊎ ((m : ℕ) × (m < i) × ((w : Status) × Image m w × Stops layout c x w (number_of t.low)))
    pub least : (m : ℕ) (w : Status) (r : ℕ) → m < i → Image m w → Stops layout c x w r → Below (number_of t.low) r

  pub turns_none : Turns 0 0 start
  turns_none = record {
    ends = λ v. (λ e. (v, e, refl), λ p. subst (In start.set) p.2 p.1);
    earlier = λ j e. absurd (omega arith);
    lower = omega arith;
    named = inl refl;
    least = λ m w r l. absurd (omega arith);
  }

  -- all turns are done, of which n come after the first
  pub turns_all : (k n i before : ℕ) (t : Found) → Turns i before t → i ≡ suc n → Found_in layout c (fixed k n x done) (In start.set) start.low t
  turns_all k n i before t m e = record {
    exits = λ v. (
      λ d. let p = rw e at ((m.ends v).0 d) in (p.0, p.1, (v, p.2, refl)),
      λ p. (m.ends v).1 (rw e (p.0, p.1, subst (Power (Goes layout c x) (suc n) p.0) p.2.2 p.2.1)),
    );
    lower = m.lower;
    named = elim m.named [ inl d ↦ inl d | inr p ↦ let q = p.2.1 in inr (q.0, q.1, inl (p.2.0, (p.0, omega (arith, p.1), q.2), p.2.2)) ];
    least = λ u r d s. elim s [
      | inl p ↦ m.least p.1.0 p.0 r (omega (arith, p.1.1)) (u, d, p.1.2) p.2
      | inr p ↦ absurd p.2
    ];
  }

  -- two numbers of turns with the same ends
  abbrev Same : ℕ → ℕ → Type 0
  Same m n = (v : Status) → Image m v ↔ Image n v

  same_then : (m n k : ℕ) → Same m n → Same n k → Same m k
  same_then m n k p q v = (λ e. (q v).0 ((p v).0 e), λ e. (p v).1 ((q v).1 e))

  image_on : (n : ℕ) (w v : Status) → Image n w → Goes layout c x w v → Image (suc n) v
  image_on n w v p g = (p.0, p.1, power_last (Goes layout c x) n p.0 w v p.2 g)

  image_off : (n : ℕ) (v : Status) → Image (suc n) v → (w : Status) × Image n w × Goes layout c x w v
  image_off n v p = let q = power_split (Goes layout c x) n p.0 v p.2 in (q.0, (p.0, p.1, q.1), q.2)

  same_next : (m n : ℕ) → Same m n → Same (suc m) (suc n)
  same_next m n h v = (
    λ e. let q = image_off m v e in image_on n q.0 v ((h q.0).0 q.1) q.2,
    λ e. let q = image_off n v e in image_on m q.0 v ((h q.0).1 q.1) q.2,
  )

  same_equal : (m n : ℕ) → n ≡ m → Same m n
  same_equal m n e v = rw e (λ p. p, λ p. p)

  same_two : (j : ℕ) → Same j (suc (suc j)) → (k n : ℕ) → n ≡ j + 2 * k → Same j n
  same_two j h zero n e = same_equal j n (omega arith)
  same_two j h (suc k) zero e = absurd (omega arith)
  same_two j h (suc k) (suc zero) e = absurd (omega arith)
  same_two j h (suc k) (suc (suc n)) e = same_then j (suc (suc j)) (suc (suc n)) h (same_next (suc j) (suc n) (same_next j n (same_two j h k n (omega arith))))

  module _ (i before : ℕ) (t next : Found) (m : Turns i before t) (o : Found_in layout c x (In t.set) t.low next) where
    next_turns : Turns (suc i) t.set next
    next_turns = record {
      ends = λ v. (
        λ e. let p = (o.exits v).0 e in image_on i p.0 v ((m.ends p.0).0 p.1) p.2,
        λ p. let q = image_off i v p in (o.exits v).1 (q.0, (m.ends q.0).1 q.1, q.2),
      );
      earlier = λ j e v. let z : i ≡ j = omega arith in rw z at (m.ends v);
      lower = omega (arith, m.lower, o.lower);
      named = elim o.named [
        | inl e ↦ elim m.named [
          | inl d ↦ inl (e ∙ d)
          | inr p ↦ inr (p.0, omega (arith, p.1), (p.2.0, p.2.1, rw e p.2.2))
        ]
        | inr p ↦ inr (i, omega arith, (p.0, (m.ends p.0).0 p.1, p.2))
      ];
      least = least;
    }
      where
        least : (k : ℕ) (w : Status) (r : ℕ) → k < suc i → Image k w → Stops layout c x w r → Below (number_of next.low) r
        least k w r l p s = elim (dec_lt k i) [
          | yes z ↦ let b = m.least k w r z p s in (omega (arith, o.lower), omega (arith, o.lower))
          | no z ↦ let e : k ≡ i = omega arith in o.least w r ((m.ends w).1 (rw e at p)) s
        ]

  -- the set after this turn is that of one turn before it: so it is after every second turn
  module _ (j before : ℕ) (t next : Found) (m : Turns (suc j) before t) (o : Found_in layout c x (In t.set) t.low next) (e : next.set ≡ before) where
    later : Turns (suc (suc j)) t.set next
    later = next_turns (suc j) before t next m o

    two : Same j (suc (suc j))
    two v = (λ p. (later.ends v).0 (rw e ((m.earlier j refl v).1 p)), λ p. (m.earlier j refl v).0 (rw e at ((later.ends v).1 p)))

    odd : (k q : ℕ) → q ≡ suc j + 2 * k → Same (suc j) q
    odd k zero h = absurd (omega arith)
    odd k (suc q) h = same_next j q (same_two j two k q (omega arith))

    -- each turn has the ends of one of the first
    early : (k : ℕ) → (q : ℕ) × (q < suc (suc j)) × ((v : Status) → Image k v → Image q v)
    early k = elim (dec_lt k (suc (suc j))) [
      | yes z ↦ (k, z, λ v p. p)
      | no z ↦ elim (ℕᴺ_discrete ((k - j) % 2) 0) [
        | yes y ↦ (j, omega arith, λ v. (same_two j two ((k - j) / 2) k (omega arith) v).1)
        | no y ↦ (suc j, omega arith, λ v. (odd ((k - j) / 2) k (omega arith) v).1)
      ]
    ]

    over : (n : ℕ) → suc (suc j) ≤ n → (n - suc (suc j)) % 2 ≡ 0 → Turns n t.set next
    over n l y = record {
      ends = λ v. let s = same_two j two ((n - j) / 2) n (omega arith) v in (λ d. s.0 ((m.earlier j refl v).0 (rw e at d)), λ p. rw e ((m.earlier j refl v).1 (s.1 p)));
      earlier = λ q h v. let s = odd ((q - suc j) / 2) q (omega arith) v in (λ d. s.0 ((m.ends v).0 d), λ p. (m.ends v).1 (s.1 p));
      lower = later.lower;
      named = elim later.named [ inl d ↦ inl d | inr p ↦ inr (p.0, omega (arith, p.1), p.2) ];
      least = λ k w r h p s. let q = early k in later.least q.0 w r q.1 (q.2 w p) s;
    }

  module _ (i before : ℕ) (t next : Found) (m : Turns i before t) (o : Found_in layout c x (In t.set) t.low next) (n : ℕ) (l : i + 1 ≤ n) (y : (n - (i + 1)) % 2 ≡ 0) where
    -- one turn more, and an even number of those that are left where the sets repeat
    pub turns_on : (same : Bool) → (same ≡ true → next.set ≡ before) → ((ltb 0 i && same) ≡ false → n ≡ i + 1) → Turns n t.set next
    turns_on same s h = go (ltb 0 i && same) refl
      where
        go : (b : Bool) → (ltb 0 i && same) ≡ b → Turns n t.set next
        go false q = rw (h q, add-one) (next_turns i before t next m o)
        go true q = let p = and_out (ltb 0 i) same q in repeats i m (ltb-true 0 i p.0) (s p.1) l y
          where
            repeats : (i : ℕ) → Turns i before t → 0 < i → next.set ≡ before → i + 1 ≤ n → (n - (i + 1)) % 2 ≡ 0 → Turns n t.set next
            repeats zero m h e l y = absurd (omega arith)
            repeats (suc j) m h e l y = over j before t next m o e n (omega arith) (omega arith)

-- What is found of the ways through a block that is made of blocks.
use Prim.Native.Nat.{ℕ, ◌<◌}
use mathlib.Core.Path.{◌≡◌, refl, sym, subst, ◌∙◌}
use mathlib.Core.Logic.{inl, inr, ◌↔◌}
use mathlib.Core.Bool.{true, false}
use native.Mathlib.Omega.{arith}
use lib.Dec.{eqb}
use borrow.Author.Tests.{eqb-true, eq-eqb}
use Rattle.model.specs.Sides.{Layout}
use Rattle.model.specs.Records.{Action, covers}
use Rattle.model.specs.Blocks.{Block, done, act, branch, ◌then◌}
use Rattle.model.proofs.Status.{Status}
use Rattle.model.proofs.Through.{Goes, Stops}
use Rattle.std.specs.Prelude.{Option}
use Rattle.model.specs.declared.Record.{Record}
use Rattle.statuses.specs.declared.acts.Found.{Found}
use Rattle.statuses.specs.Inner.Sets.{statuses, index, bit, In, Union, number_of, touched_met, touched_after}
use Rattle.statuses.specs.Inner.Ran.{Ran}
use Rattle.statuses.proofs.Statuses.{index_below, index_one, in_union}
use Rattle.statuses.proofs.Touched.{touched_met_in, touched_status_after}
use Rattle.summary.proofs.Blocks.{goes_then, stops_then}

module _ {G H : Status → Status → Type 0} {S T : Status → ℕ → Type 0} {from : Status → Type 0} {low : Option Record} {t : Found} where
  pub ran_iff : ((u v : Status) → G u v ↔ H u v) → ((u : Status) (r : ℕ) → S u r ↔ T u r) → Ran G S from low t → Ran H T from low t
  ran_iff g s m = record {
    exits = λ v. (
      λ e. let p = (m.exits v).0 e in (p.0, p.1, (g p.0 v).0 p.2),
      λ p. (m.exits v).1 (p.0, p.1, (g p.0 v).1 p.2),
    );
    lower = m.lower;
    named = elim m.named [ inl e ↦ inl e | inr p ↦ inr (p.0, p.1, (s p.0 (number_of t.low)).0 p.2) ];
    least = λ u r f e. m.least u r f ((s u r).1 e);
  }

-- the same statuses, named otherwise
pub ran_from : {G : Status → Status → Type 0} {S : Status → ℕ → Type 0} {from from' : Status → Type 0} {low : Option Record} {t : Found} → ((u : Status) → from u ↔ from' u) → Ran G S from low t → Ran G S from' low t
ran_from h m = record {
  exits = λ v. (
    λ e. let p = (m.exits v).0 e in (p.0, (h p.0).0 p.1, p.2),
    λ p. (m.exits v).1 (p.0, (h p.0).1 p.1, p.2),
  );
  lower = m.lower;
  named = elim m.named [ inl e ↦ inl e | inr p ↦ inr (p.0, (h p.0).0 p.1, p.2) ];
  least = λ u r f s. m.least u r ((h u).1 f) s;
}

-- the set of one status, w
abbrev pub Begins : Status → ℕ → Type 0
Begins w set = (i : ℕ) → i < statuses → bit set i ≡ eqb i (index w)

pub start_in : (w : Status) (set : ℕ) → Begins w set → (u : Status) → In set u ↔ (u ≡ w)
start_in w set b u = (
  λ e. index_one u w (eqb-true (index u) (index w) (sym (b (index u) (index_below u)) ∙ e)),
  λ e. rw e (b (index w) (index_below w) ∙ eq-eqb (index w) (index w) refl),
)

module _ (layout : Layout) (c : ℕ) where
  -- t is what is found of a block
  abbrev pub Found_in : Block Action → (Status → Type 0) → Option Record → Found → Type 0
  Found_in b = Ran (Goes layout c b) (Stops layout c b)

  pub ran_none : (t : Found) → Found_in done (In t.set) t.low t
  ran_none t = record {
    exits = λ v. (λ e. (v, e, refl), λ p. subst (In t.set) p.2 p.1);
    lower = omega arith;
    named = inl refl;
    least = λ u r e s. absurd s;
  }

  module _ (x b : Block Action) (from : Status → Type 0) (low : Option Record) (t t' : Found) (m : Found_in x from low t) where
    pub ran_then : Found_in b (In t.set) t.low t' → Found_in (x then b) from low t'
    ran_then n = record {
      exits = λ v. (
        λ e. let q = (n.exits v).0 e in let p = (m.exits q.0).0 q.1 in (p.0, p.1, (goes_then layout c x b p.0 v).1 (q.0, p.2, q.2)),
        λ p. let g = (goes_then layout c x b p.0 v).0 p.2 in (n.exits v).1 (g.0, (m.exits g.0).1 (p.0, p.1, g.1), g.2),
      );
      lower = omega (arith, m.lower, n.lower);
      named = elim n.named [
        | inl e ↦ elim m.named [
          | inl d ↦ inl (e ∙ d)
          | inr p ↦ inr (p.0, p.1, (stops_then layout c x b p.0 (number_of t'.low)).1 (inl (rw e p.2)))
        ]
        | inr p ↦ let q = (m.exits p.0).0 p.1 in inr (q.0, q.1, (stops_then layout c x b q.0 (number_of t'.low)).1 (inr (p.0, q.2, p.2)))
      ];
      least = λ u r f s. elim ((stops_then layout c x b u r).0 s) [
        | inl a ↦ let l = m.least u r f a in (omega (arith, n.lower), omega (arith, n.lower))
        | inr p ↦ n.least p.0 r ((m.exits p.0).1 (u, f, p.1)) p.2
      ];
    }

    pub ran_branch : (k : ℕ) → Found_in b from t.low t' → (s : Found) → Union s.set t.set t'.set → s.low ≡ t'.low → Found_in (branch k x b done) from low s
    ran_branch k n s es el = record {
      exits = λ v. (
        λ e. elim ((in_union es v).0 e) [
          | inl d ↦ let p = (m.exits v).0 d in (p.0, p.1, (v, inl p.2, refl))
          | inr d ↦ let p = (n.exits v).0 d in (p.0, p.1, (v, inr p.2, refl))
        ],
        λ p. (in_union es v).1 (elim p.2.1 [
          | inl g ↦ inl ((m.exits v).1 (p.0, p.1, subst (Goes layout c x p.0) p.2.2 g))
          | inr g ↦ inr ((n.exits v).1 (p.0, p.1, subst (Goes layout c b p.0) p.2.2 g))
        ]),
      );
      lower = rw el (omega (arith, m.lower, n.lower));
      named = elim n.named [
        | inl e ↦ elim m.named [
          | inl d ↦ inl (el ∙ (e ∙ d))
          | inr p ↦ inr (p.0, p.1, inl (inl (rw (el, e) p.2)))
        ]
        | inr p ↦ inr (p.0, p.1, inl (inr (rw el p.2)))
      ];
      least = λ u r f e. elim e [
        | inl a ↦ elim a [
          | inl d ↦ let l = m.least u r f d in rw el (omega (arith, n.lower), omega (arith, n.lower))
          | inr d ↦ rw el (n.least u r f d)
        ]
        | inr p ↦ absurd p.2
      ];
    }

  -- one record
  module _ (k : ℕ) (x : Action) (t : Found) where
    pub ran_touched : (t' : Found) → covers layout x c ≡ true →
        Ran (λ u v. touched_after x.verb x.side u ≡ v) (λ u n. (k ≡ n) × (touched_met x.verb x.side u ≡ false)) (In t.set) t.low t' →
        Found_in (act k x done) (In t.set) t.low t'
    ran_touched t' e = ran_iff
        (λ u v. (λ g. touched_status_after layout c x e u ∙ g, λ g. sym (touched_status_after layout c x e u) ∙ g))
        (λ u r. (λ s. inl (s.0, touched_met_in layout c x e u ∙ s.1), elim [ inl s ↦ (s.0, sym (touched_met_in layout c x e u) ∙ s.1) | inr s ↦ absurd s ]))

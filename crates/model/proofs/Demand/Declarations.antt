-- What the judge's rules say of one declaration of a pass.
use Prim.Native.Nat.{ℕ, zero, suc, ◌-◌}
use mathlib.Core.Path.{◌≡◌, refl, sym, ◌∙◌, subst}
use mathlib.Core.Logic.{◌⊎◌, inl, inr}
use mathlib.Core.List.{List, [], ◌∷◌, ◌++◌, append_assoc}
use mathlib.Core.Bool.{Bool, true, false, not, ◌&&◌, ◌||◌, true≢false}
use lib.ListN.{get_or}
use lib.Dec.{eqb}
use borrow.Author.Tests.{eqb-true, eq-eqb, not-true}
use Rattle.model.specs.Lists.{any, All}
use Rattle.model.specs.Sides.{Side, same_side, Layout}
use Rattle.model.specs.Judging.{Mode, W, Declaration, Pass, pass_of, declared_once, Written, Rules}
use Rattle.model.specs.Inner.Declared.{no_pass, declares}
use Rattle.model.proofs.Booleans.{or_out, or_left, or_right, and_out, is_true, any_append}

-- whether a declaration is one of array a
abbrev pub is_of : ℕ → Declaration → Bool
is_of a d = eqb d.array a

pub declares_any : (f : Mode → Bool) (s : Side) (a : ℕ) (ds : List Declaration) → declares f s a ds ≡ true → any (is_of a) ds ≡ true
declares_any f s a [] e = e
declares_any f s a (d ∷ ds) e = go (declares_any f s a ds) (or_out _ (declares f s a ds) e)
  where
    go : (declares f s a ds ≡ true → any (is_of a) ds ≡ true) → ((f d.mode && (same_side d.side s && eqb d.array a)) ≡ true) ⊎ (declares f s a ds ≡ true) →
        (eqb d.array a || any (is_of a) ds) ≡ true
    go ih (inl g) = or_left (eqb d.array a) _ (and_out (same_side d.side s) _ (and_out (f d.mode) _ g).1).1
    go ih (inr g) = or_right (eqb d.array a) _ (ih g)

-- no mode allows what is barred
pub barred : (s : Side) (a : ℕ) (ds : List Declaration) → declares (λ m. false) s a ds ≡ false
barred s a [] = refl
barred s a (d ∷ ds) = barred s a ds

-- the first declaration is of no array of the others
pub once_first : (d : Declaration) (ds : List Declaration) → declared_once (d ∷ ds) ≡ true → any (is_of d.array) ds ≡ false
once_first d ds o = not-true (any (is_of d.array) ds) (and_out (not (any (is_of d.array) ds)) (declared_once ds) o).0

pub once_rest : (d : Declaration) (ds : List Declaration) → declared_once (d ∷ ds) ≡ true → declared_once ds ≡ true
once_rest d ds o = (and_out (not (any (is_of d.array) ds)) (declared_once ds) o).1

-- what a pass declares of the array of d, it declares by d
sole : (before : List Declaration) (d : Declaration) (ds : List Declaration) → declared_once (before ++ (d ∷ ds)) ≡ true →
    (f : Mode → Bool) (s : Side) → declares f s d.array (before ++ (d ∷ ds)) ≡ true → (f d.mode ≡ true) × (d.side ≡ s)
sole [] d ds o f s e = go (or_out _ (declares f s d.array ds) e)
  where
    go : ((f d.mode && (same_side d.side s && eqb d.array d.array)) ≡ true) ⊎ (declares f s d.array ds ≡ true) → (f d.mode ≡ true) × (d.side ≡ s)
    go (inl g) = let h = and_out (f d.mode) _ g in (h.0, is_true d.side s (and_out (same_side d.side s) _ h.1).0)
    go (inr g) = absurd (true≢false (sym (declares_any f s d.array ds g) ∙ once_first d ds o))
sole (x ∷ before) d ds o f s e = go (sole before d ds (once_rest x (before ++ (d ∷ ds)) o) f s) (or_out _ (declares f s d.array (before ++ (d ∷ ds))) e)
  where
    again : x.array ≡ d.array → any (is_of x.array) (before ++ (d ∷ ds)) ≡ true
    again q = rw (any_append (is_of x.array) before (d ∷ ds))
        (or_right (any (is_of x.array) before) _ (or_left (eqb d.array x.array) _ (eq-eqb d.array x.array (sym q))))

    go : (declares f s d.array (before ++ (d ∷ ds)) ≡ true → (f d.mode ≡ true) × (d.side ≡ s)) →
        ((f x.mode && (same_side x.side s && eqb x.array d.array)) ≡ true) ⊎ (declares f s d.array (before ++ (d ∷ ds)) ≡ true) → (f d.mode ≡ true) × (d.side ≡ s)
    go ih (inl g) =
        let q = eqb-true x.array d.array (and_out (same_side x.side s) _ (and_out (f x.mode) _ g).1).1 in
        absurd (true≢false (sym (again q) ∙ once_first x (before ++ (d ∷ ds)) o))
    go ih (inr g) = ih g

module _ (layout : Layout) where
  -- what the rules for pass p say of its declaration d
  pub record Rule (p : Pass) (d : Declaration) : Type 0 where
    pub written : d.mode ≡ W → Written layout p.body d
    pub sole : (f : Mode → Bool) (s : Side) → declares f s d.array p.declarations ≡ true → (f d.mode ≡ true) × (d.side ≡ s)

  pub each_rule : (p : Pass) → Rules layout p → All (Rule p) p.declarations
  each_rule p rules = from [] p.declarations refl rules.written
    where
      from : (before ds : List Declaration) → p.declarations ≡ before ++ ds → All (λ (d : Declaration). d.mode ≡ W → Written layout p.body d) ds →
          All (Rule p) ds
      from before [] e w = tt
      from before (d ∷ ds) e w = (
        record {
          written = w.0;
          sole = λ f s h. sole before d ds (subst (λ l. declared_once l ≡ true) e rules.once) f s (subst (λ l. declares f s d.array l ≡ true) e h);
        },
        from (before ++ (d ∷ [])) ds (e ∙ sym (append_assoc before (d ∷ []) ds)) w.1,
      )

  -- the rules hold of whatever body 0 calls
  rules_at : (passes : List Pass) → All (Rules layout) passes → (i : ℕ) → Rules layout (get_or passes i no_pass)
  rules_at [] a i = record { once = refl; permitted = refl; written = tt }
  rules_at (p ∷ ps) a zero = a.0
  rules_at (p ∷ ps) a (suc i) = rules_at ps a.1 i

  pub rules_of : (passes : List Pass) → All (Rules layout) passes → (b : ℕ) → Rules layout (pass_of passes b)
  rules_of passes a b = rules_at passes a (b - 1)

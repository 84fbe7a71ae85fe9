-- One block and then another: the expansion and the judge's tests of it.
use Prim.Native.Nat.{ℕ, zero, suc}
use mathlib.Core.Path.{◌≡◌, refl, ap, sym, ◌∙◌}
use mathlib.Core.Logic.{◌⊎◌, inl, inr}
use mathlib.Core.List.{List, [], ◌∷◌}
use mathlib.Core.Bool.{Bool, true, false, cond, ◌&&◌, ◌||◌, and_assoc, or_assoc}
use Rattle.model.specs.Sides.{Side, Layout}
use Rattle.model.specs.Records.{Action}
use Rattle.model.specs.Blocks.{Block, act, branch, loop, fixed, ◌then◌}
use Rattle.model.specs.Judging.{Mode, R, W, RW, Declaration, Pass, pass_of, every_record, always_writes}
use Rattle.model.specs.Expanding.{given, expand}
use Rattle.model.specs.Inner.Declared.{declaration, declared}
use Rattle.model.specs.Inner.Events.{after_turn}
use Rattle.model.proofs.Booleans.{or_out, or_left, or_right, and_out, and_in}

pub then_assoc : {A : Type 0} (a b c : Block A) → (a then b) then c ≡ a then (b then c)
then_assoc Block.done b c = refl
then_assoc (act r x a) b c = ap (act r x) (then_assoc a b c)
then_assoc (branch r x y a) b c = ap (branch r x y) (then_assoc a b c)
then_assoc (loop r x a) b c = ap (loop r x) (then_assoc a b c)
then_assoc (fixed r n x a) b c = ap (fixed r n x) (then_assoc a b c)

declared_then : (ds : List Declaration) (a b : Block Action) → declared ds a then b ≡ declared ds (a then b)
declared_then [] a b = refl
declared_then (d ∷ ds) a b = go d.mode ∙ ap (given d) (declared_then ds a b)
  where
    go : (m : Mode) → given (declaration m d.side d.array) (declared ds a) then b ≡ given (declaration m d.side d.array) (declared ds a then b)
    go R = refl
    go W = refl
    go RW = refl

module _ (passes : List Pass) where
  pub expand_then : (t u : Block ℕ) → expand passes (t then u) ≡ expand passes t then expand passes u
  expand_then Block.done u = refl
  expand_then (act r b t) u =
      let p = pass_of passes b in
      ap (λ l. declared p.declarations (p.body then l)) (expand_then t u)
      ∙ ap (declared p.declarations) (sym (then_assoc p.body (expand passes t) (expand passes u)))
      ∙ sym (declared_then p.declarations (p.body then expand passes t) (expand passes u))
  expand_then (branch r x y t) u = ap (branch r (expand passes x) (expand passes y)) (expand_then t u)
  expand_then (loop r x t) u = ap (loop r (expand passes x)) (expand_then t u)
  expand_then (fixed r n x t) u = ap (fixed r n (expand passes x)) (expand_then t u)

-- what every record of a block passes, every record passes of what is left after a choice or at a turn
module _ (f : Action → Bool) where
  every_then : (a b : Block Action) → every_record f (a then b) ≡ (every_record f a && every_record f b)
  every_then Block.done b = refl
  every_then (act r x a) b = simp (every_then a b, and_assoc)
  every_then (branch r x y a) b = simp (every_then a b, and_assoc)
  every_then (loop r x a) b = simp (every_then a b, and_assoc)
  every_then (fixed r n x a) b = simp (every_then a b, and_assoc)

  pub every_branch : (r : ℕ) (c : Bool) (x y b : Block Action) → every_record f (branch r x y b) ≡ true → every_record f (cond c x y then b) ≡ true
  every_branch r c x y b e = let g = and_out (every_record f x) _ e in let h = and_out (every_record f y) (every_record f b) g.1 in
      rw (every_then (cond c x y) b) (and_in _ (every_record f b) (arm c g.0 h.0) h.1)
    where
      arm : (c : Bool) → every_record f x ≡ true → every_record f y ≡ true → every_record f (cond c x y) ≡ true
      arm true g h = g
      arm false g h = h

  pub every_loop : (r : ℕ) (c : Bool) (x b : Block Action) → every_record f (loop r x b) ≡ true → every_record f (cond c (x then loop r x b) b) ≡ true
  every_loop r true x b e = rw (every_then x (loop r x b)) (and_in (every_record f x) _ (and_out (every_record f x) (every_record f b) e).0 e)
  every_loop r false x b e = (and_out (every_record f x) (every_record f b) e).1

  pub every_turn : (r n : ℕ) (x b : Block Action) → every_record f (fixed r n x b) ≡ true → every_record f (x then after_turn r n x b) ≡ true
  every_turn r zero x b e = rw (every_then x b) e
  every_turn r (suc n) x b e = rw (every_then x (fixed r n x b)) (and_in (every_record f x) _ (and_out (every_record f x) (every_record f b) e).0 e)

-- a block that always writes a cell does so after a choice, and at a turn
module _ (layout : Layout) (s : Side) (n : ℕ) where
  abbrev always : Block Action → Bool
  always = always_writes layout s n

  always_then : (a b : Block Action) → always (a then b) ≡ (always a || always b)
  always_then Block.done b = refl
  always_then (act r x a) b = simp (always_then a b, or_assoc)
  always_then (branch r x y a) b = simp (always_then a b, or_assoc)
  always_then (loop r x a) b = always_then a b
  always_then (fixed r m x a) b = simp (always_then a b, or_assoc)

  pub always_branch : (r : ℕ) (c : Bool) (x y b : Block Action) → always_writes layout s n (branch r x y b) ≡ true →
      always_writes layout s n (cond c x y then b) ≡ true
  always_branch r c x y b e = rw (always_then (cond c x y) b) (go (or_out (always x && always y) (always b) e))
    where
      arm : (c : Bool) → (always x ≡ true) × (always y ≡ true) → always (cond c x y) ≡ true
      arm true g = g.0
      arm false g = g.1

      go : ((always x && always y) ≡ true) ⊎ (always b ≡ true) → (always (cond c x y) || always b) ≡ true
      go (inl g) = or_left (always (cond c x y)) (always b) (arm c (and_out (always x) (always y) g))
      go (inr g) = or_right (always (cond c x y)) (always b) g

  pub always_loop : (r : ℕ) (c : Bool) (x b : Block Action) → always_writes layout s n (loop r x b) ≡ true →
      always_writes layout s n (cond c (x then loop r x b) b) ≡ true
  always_loop r true x b e = rw (always_then x (loop r x b)) (or_right (always x) (always b) e)
  always_loop r false x b e = e

  pub always_turn : (r m : ℕ) (x b : Block Action) → always_writes layout s n (fixed r m x b) ≡ true → always_writes layout s n (x then after_turn r m x b) ≡ true
  always_turn r zero x b e = rw (always_then x b) e
  always_turn r (suc m) x b e = rw (always_then x (fixed r m x b)) (or_right (always x) _ e)

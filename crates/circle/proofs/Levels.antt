-- Blocks whose records pass a test and that fit so many levels, made of others: with more levels, branches and loops, one block after the other, declarations in front, numbered anew.
use mathlib.Core.Path.{◌≡◌, refl}
use mathlib.Core.Bool.{Bool, true, ◌&&◌, false≢true}
use mathlib.Core.List.{List, [], ◌∷◌}
use Prim.Native.Nat.{ℕ, zero, suc, ◌+◌, ◌≤◌, ◌<◌}
use native.Mathlib.Omega.{arith}
use lib.Dec.{ltb}
use Rattle.model.specs.Sides.{Side}
use Rattle.model.specs.Records.{need, mark, Action, whole_of}
use Rattle.model.specs.Blocks.{Block, size, ◌then◌, numbered}
use Rattle.model.specs.Judging.{Mode, R, W, RW, Declaration}
use Rattle.model.specs.Expanding.{given}
use Rattle.model.specs.Inner.Declared.{declaration, declared}
use Rattle.model.proofs.Booleans.{and_out, and_in}
use Rattle.files.specs.Bounds.{all_pass, nested_within}
use Rattle.files.proofs.Blocks.{numbered_size}

module _ (fits : Action → Bool) where
  pub more_levels : (b : Block Action) (n m : ℕ) → n ≤ m → nested_within fits n b ≡ true → nested_within fits m b ≡ true
  more_levels Block.done n m h e = refl
  more_levels (Block.act r x b) n m h e =
      let fit = and_out (fits x) (nested_within fits n b) e in
      and_in _ _ fit.0 (more_levels b n m h fit.1)
  more_levels (Block.branch r x y b) zero m h e = absurd (false≢true e)
  more_levels (Block.branch r x y b) (suc n) zero h e = absurd (omega arith)
  more_levels (Block.branch r x y b) (suc n) (suc m) h e =
      let fit = and_out (nested_within fits n x) (nested_within fits n y && nested_within fits (suc n) b) e in
      let fit' = and_out (nested_within fits n y) (nested_within fits (suc n) b) fit.1 in
      and_in _ _ (more_levels x n m (omega arith) fit.0) (and_in _ _ (more_levels y n m (omega arith) fit'.0) (more_levels b (suc n) (suc m) h fit'.1))
  more_levels (Block.loop r x b) zero m h e = absurd (false≢true e)
  more_levels (Block.loop r x b) (suc n) zero h e = absurd (omega arith)
  more_levels (Block.loop r x b) (suc n) (suc m) h e =
      let fit = and_out (nested_within fits n x) (nested_within fits (suc n) b) e in
      and_in _ _ (more_levels x n m (omega arith) fit.0) (more_levels b (suc n) (suc m) h fit.1)
  more_levels (Block.fixed r q x b) zero m h e = absurd (false≢true e)
  more_levels (Block.fixed r q x b) (suc n) zero h e = absurd (omega arith)
  more_levels (Block.fixed r q x b) (suc n) (suc m) h e =
      let fit = and_out (nested_within fits n x) (nested_within fits (suc n) b) e in
      and_in _ _ (more_levels x n m (omega arith) fit.0) (more_levels b (suc n) (suc m) h fit.1)

  -- a branch and a loop that stand inside `depth` others, where `most` levels are allowed in all
  module _ (most depth : ℕ) (inside : depth < most) {r : ℕ} {a x b : Block Action} where
    pub branch_fits : {y : Block Action} → a ≡ Block.branch r x y b → (levels : ℕ) → depth + levels ≡ most → ((n : ℕ) → depth + 1 + n ≡ most → nested_within fits n x ≡ true) → ((n : ℕ) → depth + 1 + n ≡ most → nested_within fits n y ≡ true)
        → nested_within fits levels b ≡ true → nested_within fits levels a ≡ true
    branch_fits e zero d one two rest = absurd (omega arith)
    branch_fits e (suc n) d one two rest = rw e (and_in _ _ (one n (omega arith)) (and_in _ _ (two n (omega arith)) rest))

    pub loop_fits : a ≡ Block.loop r x b → (levels : ℕ) → depth + levels ≡ most → ((n : ℕ) → depth + 1 + n ≡ most → nested_within fits n x ≡ true)
        → nested_within fits levels b ≡ true → nested_within fits levels a ≡ true
    loop_fits e zero d one rest = absurd (omega arith)
    loop_fits e (suc n) d one rest = rw e (and_in _ _ (one n (omega arith)) rest)

    pub fixed_fits : {q : ℕ} → a ≡ Block.fixed r q x b → (levels : ℕ) → depth + levels ≡ most → ((n : ℕ) → depth + 1 + n ≡ most → nested_within fits n x ≡ true)
        → nested_within fits levels b ≡ true → nested_within fits levels a ≡ true
    fixed_fits e zero d one rest = absurd (omega arith)
    fixed_fits e (suc n) d one rest = rw e (and_in _ _ (one n (omega arith)) rest)

  pub then_fits : (a b : Block Action) (n : ℕ) → nested_within fits n a ≡ true → nested_within fits n b ≡ true → nested_within fits n (a then b) ≡ true
  then_fits Block.done b n e h = h
  then_fits (Block.act r x a) b n e h =
      let fit = and_out (fits x) (nested_within fits n a) e in
      and_in _ _ fit.0 (then_fits a b n fit.1 h)
  then_fits (Block.branch r x y a) b zero e h = absurd (false≢true e)
  then_fits (Block.branch r x y a) b (suc n) e h =
      let fit = and_out (nested_within fits n x) (nested_within fits n y && nested_within fits (suc n) a) e in
      let fit' = and_out (nested_within fits n y) (nested_within fits (suc n) a) fit.1 in
      and_in _ _ fit.0 (and_in _ _ fit'.0 (then_fits a b (suc n) fit'.1 h))
  then_fits (Block.loop r x a) b zero e h = absurd (false≢true e)
  then_fits (Block.loop r x a) b (suc n) e h =
      let fit = and_out (nested_within fits n x) (nested_within fits (suc n) a) e in
      and_in _ _ fit.0 (then_fits a b (suc n) fit.1 h)
  then_fits (Block.fixed r q x a) b zero e h = absurd (false≢true e)
  then_fits (Block.fixed r q x a) b (suc n) e h =
      let fit = and_out (nested_within fits n x) (nested_within fits (suc n) a) e in
      and_in _ _ fit.0 (then_fits a b (suc n) fit.1 h)

  -- "R gives need; W gives mark; RW gives need, mark", where those of an array below `arrays` pass
  module _ (arrays : ℕ) (whole_fits : (s : Side) (a : ℕ) → ltb a arrays ≡ true → (fits (whole_of need s a) ≡ true) × (fits (whole_of mark s a) ≡ true)) where
    given_fits : (m : Mode) (s : Side) (a : ℕ) (b : Block Action) (n : ℕ) → ltb a arrays ≡ true → nested_within fits n b ≡ true → nested_within fits n (given (declaration m s a) b) ≡ true
    given_fits R s a b n e h = and_in _ _ (whole_fits s a e).0 h
    given_fits W s a b n e h = and_in _ _ (whole_fits s a e).1 h
    given_fits RW s a b n e h = let w = whole_fits s a e in and_in _ _ w.0 (and_in _ _ w.1 h)

    pub declared_fits : (ds : List Declaration) (b : Block Action) (n : ℕ) → all_pass (λ (d : Declaration). ltb d.array arrays) ds ≡ true → nested_within fits n b ≡ true → nested_within fits n (declared ds b) ≡ true
    declared_fits [] b n e h = h
    declared_fits (d ∷ ds) b n e h =
        let fit = and_out (ltb d.array arrays) (all_pass (λ (d : Declaration). ltb d.array arrays) ds) e in
        given_fits d.mode d.side d.array (declared ds b) n fit.0 (declared_fits ds b n fit.1 h)

  pub numbered_fits : (r : ℕ) (b : Block Action) (n : ℕ) → nested_within fits n (numbered r b) ≡ nested_within fits n b
  numbered_fits r Block.done n = refl
  numbered_fits r (Block.act q x b) n = rw (numbered_fits (suc r) b n)
  numbered_fits r (Block.branch q x y b) zero = refl
  numbered_fits r (Block.branch q x y b) (suc n) = rw (numbered_fits (suc r) x n, numbered_fits (suc r + size x) y n, numbered_fits (suc r + size x + size y) b (suc n))
  numbered_fits r (Block.loop q x b) zero = refl
  numbered_fits r (Block.loop q x b) (suc n) = rw (numbered_fits (suc r) x n, numbered_fits (suc r + size x) b (suc n))
  numbered_fits r (Block.fixed q k x b) zero = refl
  numbered_fits r (Block.fixed q k x b) (suc n) = rw (numbered_fits (suc r) x n, numbered_fits (suc r + size x) b (suc n))

-- a block that is numbered twice
pub numbered_again : (r s : ℕ) (b : Block Action) → numbered r (numbered s b) ≡ numbered r b
numbered_again r s Block.done = refl
numbered_again r s (Block.act q x b) = rw (numbered_again (suc r) (suc s) b)
numbered_again r s (Block.branch q x y b) =
    rw (
      numbered_size (suc s) x,
      numbered_size (suc s + size x) y,
      numbered_again (suc r) (suc s) x,
      numbered_again (suc r + size x) (suc s + size x) y,
      numbered_again (suc r + size x + size y) (suc s + size x + size y) b,
    )
numbered_again r s (Block.loop q x b) = rw (numbered_size (suc s) x, numbered_again (suc r) (suc s) x, numbered_again (suc r + size x) (suc s + size x) b)
numbered_again r s (Block.fixed q n x b) = rw (numbered_size (suc s) x, numbered_again (suc r) (suc s) x, numbered_again (suc r + size x) (suc s + size x) b)

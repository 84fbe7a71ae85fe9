-- The records of a body as a tree (document 01, 'A record' and 'A branch or loop may hold further branches and loops'; document
-- 02, request a).
use Rattle.std.specs.Prelude.{ℕ, suc, ◌+◌, ◌*◌, max}
use Rattle.model.specs.Sides.{Layout}
use Rattle.model.specs.Records.{Action}

-- what is left to do: a record with its number, its arms if it has some, and the rest. The records other than branches and loops are
-- actions in a plain plan and in a pass, calls in body 0
pub data Block (A : Type 0) : Type 0 where
  done : Block A
  act : ℕ → A → Block A → Block A
  branch : ℕ → Block A → Block A → Block A → Block A
  loop : ℕ → Block A → Block A → Block A
  -- "kind 9, wherever kind 7 may stand: P records, Q turns from 1 to 4,096": a fixed loop, its number, how many turns are still to come
  -- after this one (Q − 1 at the beginning), its body, the rest
  fixed : ℕ → ℕ → Block A → Block A → Block A

module _ {A : Type 0} where
  -- one block and then another
  infixr 60 ◌then◌
  abbrev pub ◌then◌ : Block A → Block A → Block A
  done then b = b
  (act r x a) then b = act r x (a then b)
  (branch r x y a) then b = branch r x y (a then b)
  (loop r x a) then b = loop r x (a then b)
  (fixed r n x a) then b = fixed r n x (a then b)

  -- how many records a block has, those of its arms included
  abbrev pub size : Block A → ℕ
  size done = 0
  size (act r x b) = suc (size b)
  size (branch r x y b) = suc (size x + size y + size b)
  size (loop r x b) = suc (size x + size b)
  size (fixed r n x b) = suc (size x + size b)

  -- the largest product of the counts of fixed loops along a nesting
  abbrev pub largest : Block A → ℕ
  largest done = 1
  largest (act r x b) = largest b
  largest (branch r x y b) = max (largest x) (max (largest y) (largest b))
  largest (loop r x b) = max (largest x) (largest b)
  largest (fixed r n x b) = max (suc n * largest x) (largest b)

  -- "Records are numbered from 0 through all bodies in order": a block with its records numbered from r on
  abbrev pub numbered : ℕ → Block A → Block A
  numbered r done = done
  numbered r (act _ x b) = act r x (numbered (suc r) b)
  numbered r (branch _ x y b) = branch r (numbered (suc r) x) (numbered (suc r + size x) y) (numbered (suc r + size x + size y) b)
  numbered r (loop _ x b) = loop r (numbered (suc r) x) (numbered (suc r + size x) b)
  numbered r (fixed _ n x b) = fixed r n (numbered (suc r) x) (numbered (suc r + size x) b)

-- a record and then the rest; the record gets its number when all are numbered
infixr 60 ◌⨾◌
abbrev pub ◌⨾◌ : Action → Block Action → Block Action
x ⨾ b = act 0 x b

-- a plain plan: its arrays and its body
pub record Plan : Type 0 where
  pub layout : Layout
  pub body : Block Action

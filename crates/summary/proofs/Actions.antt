-- A record of kind 1 to 5 as the walk sees it: the action that it is, and whether it covers a cell.
use Prim.Native.Nat.{ℕ, ◌+◌, ◌≤◌, ◌<◌}
use mathlib.Core.Path.{◌≡◌, refl, ◌∙◌}
use mathlib.Core.List.{List}
use native.Mathlib.Omega.{arith}
use lib.Dec.{leb}
use Rattle.model.specs.Sides.{span_of}
use Rattle.model.specs.Records.{whole, covers as covers-cell}
use Rattle.model.specs.Blocks.{act}
use Rattle.reading.specs.declared.Fields.{Fields}
use Rattle.reading.specs.Bytes.{layout_of, fields_at, first_arm, second_arm}
use Rattle.format.specs.Plans.{action_of}
use Rattle.format.specs.Inner.Walks.{Walkable, block_between}
use Rattle.format.proofs.Trees.{low_leaf, block_act, no_arms}
use Rattle.format.proofs.Acts.{by_kind}
use Rattle.lookahead.specs.Inner.Ahead.{cell_at, covers}
use Rattle.statuses.proofs.Touched.{covers_here}

module _ (x : Fields) (h : (1 ≤ x.kind) × (x.kind ≤ 5)) where
  -- record r of those up to `end`
  pub next_act : (f : List ℕ) (r end : ℕ) → r < end → Walkable f r end → x ≡ fields_at f r → block_between f r end ≡ act r (action_of x) (block_between f (r + 1) end)
  next_act f r end l g e =
      let leaf = low_leaf x h.1 in
      let a = no_arms x leaf in
      let n : r + 1 + first_arm x + second_arm x ≡ r + 1 = omega (arith, a) in
      rw n at (block_act f r end l g x e leaf)

  act_whole : whole (action_of x).verb ≡ leb 4 x.kind
  act_whole = by_kind x h (λ y. whole y.verb ≡ leb 4 x.kind) (λ z. rw z) (λ z. rw z) (λ z. rw z) (λ z. rw z) (λ z. rw z)

  -- it covers cell `offset` of an array where its fields say so
  pub act_covers : (f : List ℕ) (array offset : ℕ) → offset < (span_of (layout_of f) array).length → covers-cell (layout_of f) (action_of x) (cell_at f array offset) ≡ covers x array offset
  unfolding covers action_of
  act_covers f array offset l = covers_here (layout_of f) (cell_at f array offset) array offset l refl (action_of x) ∙ rw act_whole

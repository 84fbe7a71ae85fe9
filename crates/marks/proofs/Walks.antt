-- The cells that every way through a block writes, record by record.
use mathlib.Core.Path.{◌≡◌, refl, sym, ◌∙◌}
use mathlib.Core.Bool.{Bool, true, false, cond, ◌&&◌, ◌||◌, and-false, or-false, or_assoc}
use mathlib.Core.List.{List}
use Prim.Native.Nat.{ℕ, ◌+◌, ◌≤◌, ◌<◌}
use native.Nat.{ℕᴺ_discrete}
use native.Mathlib.Omega.{arith}
use lib.Dec.{eqb}
use lib.ListN.{length, get_or}
use borrow.Author.Tests.{eq-eqb, ne_eqb, le-leb}
use Rattle.model.specs.Inner.Holders.{array_of}
use Rattle.model.specs.Sides.{Side, same_side, Layout, span_of}
use Rattle.model.specs.Records.{read, write, copy, need, mark, covers}
use Rattle.model.specs.Judging.{writes_cell}
use Rattle.model.proofs.Numbering.{array_ends, covers_array, covers_range}
use Rattle.reading.specs.declared.Fields.{Fields}
use Rattle.reading.specs.Bytes.{array_count, layout_of, fields_at, first_arm, second_arm}
use Rattle.format.specs.Plans.{side_of, action_of}
use Rattle.format.specs.Inner.Walks.{Walkable}
use Rattle.format.proofs.Walking.{steps}
use Rattle.format.proofs.Acts.{cells_fit, Arms, arms, acting}
use Rattle.reading.proofs.Tables.{array_length}
use Rattle.format.proofs.Trees.{no_nesting, block_none, block_branch, block_loop, block_fixed, block_act}
use Rattle.std.specs.Prelude.{Option, None, Some}
use Rattle.marks.specs.declared.Declaration.{Declaration}
use Rattle.marks.specs.Inner.Marks.{marked, Adds, Tables, on_side, hits, written_by, always}

-- a side, by its number in the file
pub sides_agree : (s t : ℕ) → s < 2 → t < 2 → same_side (side_of s) (side_of t) ≡ eqb s t
sides_agree s t h k = elim (ℕᴺ_discrete s 0) [
  | yes u ↦ elim (ℕᴺ_discrete t 0) [ yes v ↦ rw (u, v) | no v ↦ let w : t ≡ 1 = omega arith in rw (u, w) ]
  | no u ↦ let z : s ≡ 1 = omega arith in elim (ℕᴺ_discrete t 0) [ yes v ↦ rw (z, v) | no v ↦ let w : t ≡ 1 = omega arith in rw (z, w) ]
]

-- a record that is no write writes no cell
no_write : (layout : Layout) (s : Side) (c : ℕ) (x : Fields) → (x.kind ≡ 2 → ⊥) → writes_cell layout s c (action_of x) ≡ false
unfolding action_of
no_write layout s c x h = rw (ne_eqb x.kind 2 h) (go (eqb x.kind 1) (eqb x.kind 3) (eqb x.kind 4))
  where
    go : (i j k : Bool) → writes_cell layout s c (acting (cond i read (cond j copy (cond k need mark))) x) ≡ false
    go true j k = refl
    go false true k = refl
    go false false true = refl
    go false false false = refl

-- record r of a block that ends before record `end`, with the fields x and arms of i and j records
pub record RecordAt (f : List ℕ) (r end : ℕ) (x : Fields) (i j : ℕ) : Type 0 where
  pub less : r < end
  pub walk : Walkable f r end
  pub fields : x ≡ fields_at f r
  pub one : i ≡ first_arm x
  pub two : j ≡ second_arm x

-- its arms and the rest
pub arms_of : (f : List ℕ) (r end : ℕ) (x : Fields) (i j : ℕ) → RecordAt f r end x i j → Arms f r end i j
arms_of f r end x i j h = arms (steps f r end h.less h.walk x h.fields) i j h.one h.two

module _ (f starts : List ℕ) (declared : List (Option Declaration)) (t : Tables f starts declared) where
  -- what is declared of the array of a cell
  abbrev of_cell : ℕ → Option Declaration
  of_cell c = get_or declared (array_of (layout_of f) c) None

  none_written : (d : Option Declaration) (r end : ℕ) → end ≤ r → (c : ℕ) → written_by f d r end c ≡ false
  none_written None r end h c = refl
  none_written (Some d) r end h c = rw (block_none f r end h)

  pub adds_none : (r end : ℕ) → end ≤ r → (l : List Bool) → length l ≡ 4096 → Adds l l (always f declared r end)
  unfolding always
  adds_none r end h l n = record { size = n; marks = λ c m. sym (rw (none_written (of_cell c) r end h c) (or-false (marked l c))) }

  module _ (r end : ℕ) (x : Fields) (i j : ℕ) (h : RecordAt f r end x i j) where
    branch_by : (d : Option Declaration) → x.kind ≡ 6 → (c : ℕ) → written_by f d r end c ≡ ((written_by f d (r + 1) (r + 1 + i) c && written_by f d (r + 1 + i) (r + 1 + i + j) c) || written_by f d (r + 1 + i + j) end c)
    branch_by None n c = refl
    branch_by (Some d) n c = rw (h.one, h.two, block_branch f r end h.less h.walk x h.fields n)

    at_branch : x.kind ≡ 6 → (c : ℕ) → always f declared r end c ≡ ((always f declared (r + 1) (r + 1 + i) c && always f declared (r + 1 + i) (r + 1 + i + j) c) || always f declared (r + 1 + i + j) end c)
    unfolding always
    at_branch n c = branch_by (of_cell c) n c

    fixed_by : (d : Option Declaration) → x.kind ≡ 9 → (c : ℕ) → written_by f d r end c ≡ (written_by f d (r + 1) (r + 1 + i) c || written_by f d (r + 1 + i + j) end c)
    fixed_by None n c = refl
    fixed_by (Some d) n c = rw (h.one, h.two, block_fixed f r end h.less h.walk x h.fields n)

    at_fixed : x.kind ≡ 9 → (c : ℕ) → always f declared r end c ≡ (always f declared (r + 1) (r + 1 + i) c || always f declared (r + 1 + i + j) end c)
    unfolding always
    at_fixed n c = fixed_by (of_cell c) n c

    -- whether the record itself writes cell c on the side of a declaration
    abbrev itself : Option Declaration → ℕ → Bool
    itself None c = false
    itself (Some d) c = writes_cell (layout_of f) (side_of d.side) c (action_of x)

    other_by : (d : Option Declaration) → (x.kind ≡ 6 → ⊥) → (x.kind ≡ 9 → ⊥) → (c : ℕ) → written_by f d r end c ≡ (itself d c || written_by f d (r + 1 + i + j) end c)
    other_by None n k c = refl
    other_by (Some d) n k c = elim (ℕᴺ_discrete x.kind 7) [
      | yes m ↦ rw (h.one, h.two, no_write (layout_of f) (side_of d.side) c x (λ z. omega arith), block_loop f r end h.less h.walk x h.fields m)
      | no m ↦ rw (h.one, h.two, block_act f r end h.less h.walk x h.fields (no_nesting x n m k))
    ]

    at_other : (x.kind ≡ 6 → ⊥) → (x.kind ≡ 9 → ⊥) → (c : ℕ) → always f declared r end c ≡ (itself (of_cell c) c || always f declared (r + 1 + i + j) end c)
    unfolding always
    at_other n k c = other_by (of_cell c) n k c

    -- what a write says of its cells
    module _ (k : x.kind ≡ 2) where
      fits : (x.side < 2) × (x.array < array_count f) × (x.q ≤ (span_of (layout_of f) x.array).length)
      fits =
          let w = cells_fit f x (steps f r end h.less h.walk x h.fields).fits (omega arith) (omega arith) in
          (omega arith, w.0.1, rw (array_length f x.array w.0.1) w.2)

      pub write_fits : (x.array < 32) × (get_or starts x.array 0 + x.q ≤ 4096)
      write_fits = (omega (arith, fits.1, t.arrays_low), rw (t.starts_are x.array (omega (arith, fits.1))) (omega (arith, fits.2, array_ends (layout_of f) x.array, t.cells_low)))

      -- by its cells and the side of a declaration
      same_as : Option Declaration → Bool
      same_as None = false
      same_as (Some d) = same_side (side_of x.side) (side_of d.side)

      itself_by : (d : Option Declaration) (c : ℕ) → itself d c ≡ (same_as d && covers (layout_of f) (acting write x) c)
      unfolding action_of same_as
      itself_by None c = refl
      itself_by (Some d) c = rw (ne_eqb x.kind 1 (λ z. omega arith), eq-eqb x.kind 2 k)

      side_by : (d : Option Declaration) → get_or declared x.array None ≡ d → same_as d ≡ on_side d x.side
      unfolding same_as
      side_by None e = refl
      side_by (Some d) e = sides_agree x.side d.side fits.0 (t.sides_low x.array write_fits.0 d e)

      -- what is declared of the array of a cell of the record is what is declared of the record's array
      write_side : (c : ℕ) (w : Bool) → covers (layout_of f) (acting write x) c ≡ w → (same_as (of_cell c) && w) ≡ (on_side (get_or declared x.array None) x.side && w)
      write_side c false e = and-false (same_as (of_cell c)) ∙ sym (and-false (on_side (get_or declared x.array None) x.side))
      write_side c true e = rw (covers_array (layout_of f) _ c e, side_by (get_or declared x.array None) refl)

      write_hits : (c : ℕ) → itself (of_cell c) c ≡ hits starts declared x c
      unfolding hits
      write_hits c = itself_by (of_cell c) c ∙ write_side c _ refl ∙ rw (eq-eqb x.kind 2 k, le-leb x.kind 3 (omega arith), covers_range (layout_of f) (acting write x) c refl fits.2, t.starts_are x.array (omega (arith, fits.1)))

    no_hits : (d : Option Declaration) → (x.kind ≡ 2 → ⊥) → (c : ℕ) → itself d c ≡ false
    no_hits None k c = refl
    no_hits (Some d) k c = no_write (layout_of f) (side_of d.side) c x k

    record_hits : (c : ℕ) → itself (of_cell c) c ≡ hits starts declared x c
    unfolding hits
    record_hits c = elim (ℕᴺ_discrete x.kind 2) [
      | yes k ↦ write_hits k c
      | no k ↦ no_hits (of_cell c) k c ∙ rw (ne_eqb x.kind 2 k)
    ]

    -- a set that has the cells of record r, and then those of the rest
    module _ (before now after : List Bool) (w : Adds now after (always f declared (r + 1 + i + j) end)) where
      pub adds_branch : x.kind ≡ 6 → (none one two : List Bool) → ((c : ℕ) → marked none c ≡ false) →
          Adds none one (always f declared (r + 1) (r + 1 + i)) → Adds none two (always f declared (r + 1 + i) (r + 1 + i + j)) → Adds before now (λ c. marked one c && marked two c) →
          Adds before after (always f declared r end)
      adds_branch k none one two z u v m = record {
        size = w.size;
        marks = λ c l. w.marks c l ∙ rw (m.marks c l, rw (z c) at (u.marks c l), rw (z c) at (v.marks c l), at_branch k c) (or_assoc (marked before c) _ _);
      }

      pub adds_fixed : x.kind ≡ 9 → Adds before now (always f declared (r + 1) (r + 1 + i)) → Adds before after (always f declared r end)
      adds_fixed k m = record { size = w.size; marks = λ c l. w.marks c l ∙ rw (m.marks c l, at_fixed k c) (or_assoc (marked before c) _ _) }

      pub adds_other : (x.kind ≡ 6 → ⊥) → (x.kind ≡ 9 → ⊥) → Adds before now (hits starts declared x) → Adds before after (always f declared r end)
      adds_other k n m = record { size = w.size; marks = λ c l. w.marks c l ∙ rw (m.marks c l, at_other k n c, record_hits c) (or_assoc (marked before c) _ _) }

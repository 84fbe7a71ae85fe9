-- What the memory of the host and its flags hold at the start, array by array.
use mathlib.Core.Path.{◌≡◌, refl, sym, ap, ◌∙◌}
use mathlib.Core.Bool.{Bool, true, false, cond, not, ◌&&◌}
use mathlib.Core.List.{List}
use Prim.Native.Nat.{ℕ, ◌+◌, ◌*◌, ◌≤◌, ◌<◌}
use native.Nat.{ℕᴺ_discrete}
use native.Mathlib.Decide.{dec_lt}
use native.Mathlib.Numerals.{add-one}
use native.Mathlib.Omega.{arith}
use lib.Dec.{eqb, ltb}
use lib.ListN.{length}
use borrow.Author.Tests.{lt-ltb, le-ltb, eq-eqb, ne_eqb}
use Rattle.model.specs.Sides.{never, at, cell_count, span_of, is_scratch, scratch_cell}
use Rattle.model.specs.Inner.Holders.{array_of}
use Rattle.model.proofs.Numbering.{array_from, scratch_own}
use Rattle.reading.specs.Bytes.{array_count, length_at, scratch_at, layout_of, entry_at, lengths_of}
use Rattle.reading.proofs.Tables.{array_length, scratch_is, next_cell, first_zero, first_rises, all_cells}
use Rattle.memories.specs.Memories.{number_of}
use Rattle.memories.specs.Flags.{mask}
use Rattle.memories.specs.Inner.Ranges.{Changed}
use Rattle.memories.proofs.Masks.{mask_same, none}
use Rattle.memories.proofs.Cells.{each, changed_none, changed_behind, changed_held, changed_same}
use Rattle.steps.specs.Inner.Beginning.{Counted, Zeros, first_host}

-- a flag for each number below a that is not left out
module _ (n : ℕ) (g : ℕ → Bool) where
  flags_none : 0 ≡ mask n (λ k. ltb k 0 && g k)
  flags_none = sym (mask_same n _ (λ k. false) (λ k l. rw (le-ltb k 0 (omega arith))) ∙ none n)

  next_flag : (a k : ℕ) → cond (eqb k a) (g a) (ltb k a && g k) ≡ (ltb k (a + 1) && g k)
  next_flag a k = elim (ℕᴺ_discrete k a) [
    | yes e ↦ rw (e, eq-eqb a a refl, lt-ltb a (a + 1) (omega arith))
    | no e ↦ elim (dec_lt k a) [
      | yes h ↦ rw (ne_eqb k a e, lt-ltb k a h, lt-ltb k (a + 1) (omega arith))
      | no h ↦ rw (ne_eqb k a e, le-ltb k a (omega arith), le-ltb k (a + 1) (omega arith))
    ]
  ]

  -- that of a is set, or left out
  flag_set : (a flags flags' : ℕ) → a < n → g a ≡ true → flags ≡ mask n (λ k. ltb k a && g k) →
      ((m : ℕ) (flag : ℕ → Bool) → a < m → flags ≡ mask m flag → flags' ≡ mask m (λ k. cond (eqb k a) true (flag k))) → flags' ≡ mask n (λ k. ltb k (a + 1) && g k)
  flag_set a flags flags' h e w f = f n (λ k. ltb k a && g k) h w ∙ mask_same n _ _ (λ k l. rw e at (next_flag a k))

  flag_left : (a flags : ℕ) → g a ≡ false → flags ≡ mask n (λ k. ltb k a && g k) → flags ≡ mask n (λ k. ltb k (a + 1) && g k)
  flag_left a flags e w = w ∙ mask_same n _ _ (λ k l. kept k ∙ next_flag a k)
    where
      kept : (k : ℕ) → (ltb k a && g k) ≡ cond (eqb k a) (g a) (ltb k a && g k)
      kept k = elim (ℕᴺ_discrete k a) [
        | yes q ↦ rw (q, eq-eqb a a refl, e, le-ltb a a (omega arith))
        | no q ↦ rw (ne_eqb k a q)
      ]

  flags_all : (a flags : ℕ) → n ≤ a → flags ≡ mask n (λ k. ltb k a && g k) → flags ≡ mask n g
  flags_all a flags h e = e ∙ mask_same n _ _ (λ k l. rw (lt-ltb k a (omega arith)))

-- the entry of an array stands inside the file
pub entry_in : (f : List ℕ) (n a : ℕ) → Counted f n → a < n → 4 + 2 * a + 2 ≤ length f
unfolding entry_at
entry_in f n a w h = omega (arith, w.count, w.inside)

-- the cells of array a
module _ (f : List ℕ) (a : ℕ) (one : a < array_count f) where
  pub ends_at : (span_of (layout_of f) (a + 1)).first ≡ (span_of (layout_of f) a).first + length_at f a
  ends_at = rw add-one (next_cell f a one)

  pub ends_low : (span_of (layout_of f) (a + 1)).first ≤ cell_count (layout_of f)
  ends_low = omega (arith, first_rises (lengths_of f) (a + 1) (array_count f) (omega arith), all_cells f)

  -- each starts as the array does
  held_so : (c : ℕ) → (span_of (layout_of f) a).first ≤ c → c < (span_of (layout_of f) (a + 1)).first → number_of (cond (not (scratch_at f a)) (at 0) never) ≡ first_host f c
  unfolding first_host
  held_so c l h =
      let size = array_length f a one in
      let own : array_of (layout_of f) c ≡ a = array_from (layout_of f) a c l (omega (arith, ends_at, size)) in
      let e : scratch_cell (layout_of f) c ≡ scratch_at f a = scratch_own (layout_of f) c (omega (arith, ends_low)) ∙ ap (is_scratch (layout_of f)) own ∙ scratch_is f a one in
      ap (λ b. number_of (cond (not b) (at 0) never)) (sym e)

  -- the cells before it hold the start, and then its own cells too
  host_next : {memory before after : List ℕ} {v : ℕ} → v ≡ number_of (cond (not (scratch_at f a)) (at 0) never) →
      Changed 1 0 (span_of (layout_of f) a).first (first_host f) memory before →
      Changed 1 (span_of (layout_of f) a).first (span_of (layout_of f) (a + 1)).first (λ c. v) before after →
      Changed 1 0 (span_of (layout_of f) (a + 1)).first (first_host f) memory after
  host_next e w u = changed_behind (omega arith) (omega (arith, ends_at)) (λ c l h. e ∙ held_so c l h) w u

  -- those of scratch get "never", and any others hold 0 already
  host_scratch : {memory before after : List ℕ} → scratch_at f a ≡ true → Changed 1 0 (span_of (layout_of f) a).first (first_host f) memory before →
      Changed 1 (span_of (layout_of f) a).first (span_of (layout_of f) (a + 1)).first (λ c. 18446744073709551615) before after →
      Changed 1 0 (span_of (layout_of f) (a + 1)).first (first_host f) memory after
  host_scratch e w u = host_next (rw e) w u

  host_filled : {memory before : List ℕ} → scratch_at f a ≡ false → Zeros (cell_count (layout_of f)) memory →
      Changed 1 0 (span_of (layout_of f) a).first (first_host f) memory before → Changed 1 0 (span_of (layout_of f) (a + 1)).first (first_host f) memory before
  host_filled e z w = host_next {v = 0} (rw e) w (changed_held (λ c l h. (changed_same w).cell c l ∙ z.zero c (omega (arith, ends_low))))

-- after the arrays before a: their cells, those before `first`, hold the host's start, and the flags are those of them that are not scratch
pub record Begun (f : List ℕ) (n : ℕ) (memory : List ℕ) (first a flags : ℕ) (host : List ℕ) : Type 0 where
  pub low : a ≤ n
  pub ends : first ≡ (span_of (layout_of f) a).first
  pub cells : Changed 1 0 (span_of (layout_of f) a).first (first_host f) memory host
  pub set : flags ≡ mask n (λ k. ltb k a && not (scratch_at f k))

pub begun_none : (f : List ℕ) (n : ℕ) (memory : List ℕ) → Begun f n memory 0 0 0 memory
begun_none f n memory =
    let e = first_zero (lengths_of f) in
    record { low = omega arith; ends = sym e; cells = changed_none (omega (arith, e)); set = flags_none n (λ k. not (scratch_at f k)) }

module _ {f : List ℕ} {n : ℕ} {memory : List ℕ} {first a flags : ℕ} {host : List ℕ} (w : Counted f n) (b : Begun f n memory first a flags host) where
  module _ (h : a < n) where
    there : a < array_count f
    there = omega (arith, w.count)

    -- where array a ends
    pub next_at : first + length_at f a ≡ (span_of (layout_of f) (a + 1)).first
    next_at = omega (arith, b.ends, ends_at f a there)

    pub next_low : first + length_at f a ≤ cell_count (layout_of f)
    next_low = omega (arith, next_at, ends_low f a there)

    pub begun_scratch : {after : List ℕ} → scratch_at f a ≡ true → Changed 1 first (first + length_at f a) (λ c. 18446744073709551615) host after →
        Begun f n memory (first + length_at f a) (a + 1) flags after
    begun_scratch e u = record {
      low = omega arith;
      ends = next_at;
      cells = host_scratch f a there e b.cells (rw (b.ends, ← ends_at f a there) at u);
      set = flag_left n (λ k. not (scratch_at f k)) a flags (rw e) b.set;
    }

    pub begun_filled : {flags' : ℕ} → Zeros (cell_count (layout_of f)) memory → scratch_at f a ≡ false →
        ((m : ℕ) (flag : ℕ → Bool) → a < m → flags ≡ mask m flag → flags' ≡ mask m (λ k. cond (eqb k a) true (flag k))) →
        Begun f n memory (first + length_at f a) (a + 1) flags' host
    begun_filled {flags'} z e u = record {
      low = omega arith;
      ends = next_at;
      cells = host_filled f a there e z b.cells;
      set = flag_set n (λ k. not (scratch_at f k)) a flags flags' h (rw e) b.set u;
    }

  -- all of them
  pub begun_cells : n ≤ a → Changed 1 0 (cell_count (layout_of f)) (first_host f) memory host
  begun_cells h = let e : a ≡ array_count f = omega (arith, w.count, b.low) in rw (all_cells f, ← e) b.cells

  pub begun_flags : n ≤ a → flags ≡ mask n (λ k. not (scratch_at f k))
  begun_flags h = flags_all n (λ k. not (scratch_at f k)) a flags h b.set

-- a memory filled with 0
pub zeros : (n : ℕ) {before after : List ℕ} → n ≤ length before → Changed 1 0 n (λ c. 0) before after → Zeros n after
zeros n h w = record { inside = omega (arith, w.size); zero = λ c l. w.cell c ∙ rw (each 0 n c (omega arith) l) }

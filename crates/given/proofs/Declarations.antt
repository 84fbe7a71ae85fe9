-- What declarations give, byte for byte.
use mathlib.Core.Path.{◌≡◌, refl, sym, ◌∙◌}
use mathlib.Core.List.{List, [], ◌∷◌}
use Prim.Native.Nat.{ℕ, ◌+◌, ◌*◌, ◌-◌, ◌≤◌, ◌<◌}
use native.Mathlib.Omega.{arith}
use lib.ListN.{length}
use borrow.Rule.Slice.PartMut.{mid_of, put_mid}
use borrow.Author.Tests.{eq-eqb, ne_eqb}
use Rattle.model.specs.Blocks.{size}
use Rattle.reading.specs.declared.Fields.{Fields}
use Rattle.reading.specs.Bytes.{fields_at}
use Rattle.format.specs.Plans.{declaration_of}
use Rattle.files.specs.Files.{record_bytes, fields}
use Rattle.files.specs.Inner.Short.{block_fields}
use Rattle.files.specs.Inner.Given.{given_by, declared_from}
use Rattle.files.proofs.Files.Records.{fields_count}
use Rattle.files.proofs.Blocks.{same_size}
use Rattle.files.proofs.Given.{side_again, declared_more}
use Rattle.given.specs.Inner.Over.{over, bytes_of}
use Rattle.given.proofs.Records.{bytes_one, bytes_lent}

-- one declaration
module _ (x : Fields) where
  -- "R gives need; W gives mark; RW gives need, mark"
  module _ (on_side : x.side < 2) where
    pub gives_need : x.kind ≡ 16 → block_fields (given_by x) ≡ fields 4 x.side x.array 0 0 ∷ []
    unfolding given_by declaration_of
    gives_need k = rw (eq-eqb x.kind 16 k, side_again x.side on_side)

    pub gives_mark : x.kind ≡ 17 → block_fields (given_by x) ≡ fields 5 x.side x.array 0 0 ∷ []
    unfolding given_by declaration_of
    gives_mark k = rw (ne_eqb x.kind 16 (λ z. omega arith), eq-eqb x.kind 17 k, side_again x.side on_side)

    pub gives_both : (x.kind ≡ 16 → ⊥) → (x.kind ≡ 17 → ⊥) → block_fields (given_by x) ≡ fields 4 x.side x.array 0 0 ∷ fields 5 x.side x.array 0 0 ∷ []
    unfolding given_by declaration_of
    gives_both j k = rw (ne_eqb x.kind 16 j, ne_eqb x.kind 17 k, side_again x.side on_side)

  -- one record
  pub one_written : (y : Fields) (old new : List ℕ) → block_fields (given_by x) ≡ y ∷ [] → new ≡ over (record_bytes y) old → (1 ≡ size (given_by x)) × (new ≡ over (bytes_of (block_fields (given_by x))) old)
  one_written y old new e w = (sym (same_size (given_by x) _ e), w ∙ rw (bytes_one y, e))

  -- two records
  pub two_written : (y z : Fields) (old xs ys : List ℕ) → 8 ≤ length old → block_fields (given_by x) ≡ y ∷ z ∷ [] → xs ≡ over (record_bytes y) old → ys ≡ over (record_bytes z) (mid_of 8 (length xs - 8) xs)
      → (2 ≡ size (given_by x)) × (put_mid 8 (length xs - 8) xs ys ≡ over (bytes_of (block_fields (given_by x))) old)
  two_written y z old xs ys h e w v = (sym (same_size (given_by x) _ e), bytes_lent (y ∷ []) (z ∷ []) old xs ys 1 refl h (w ∙ rw (bytes_one y)) (v ∙ rw (bytes_one z)) ∙ rw e)

-- declarations
module _ (f : List ℕ) (r : ℕ) where
  pub declared_written : (n i : ℕ) (x : Fields) (old xs ys : List ℕ) → n ≡ size (declared_from f r i) → x ≡ fields_at f (r + i) → 8 * n ≤ length old → xs ≡ over (bytes_of (block_fields (declared_from f r i))) old → ys ≡ over (bytes_of (block_fields (given_by x))) (mid_of (8 * n) (length xs - 8 * n) xs) → put_mid (8 * n) (length xs - 8 * n) xs ys ≡ over (bytes_of (block_fields (declared_from f r (i + 1)))) old
  declared_written n i x old xs ys a b h w v =
      bytes_lent (block_fields (declared_from f r i)) (block_fields (given_by x)) old xs ys n (fields_count (declared_from f r i) ∙ sym a) h w v ∙ rw (declared_more f r i, b)

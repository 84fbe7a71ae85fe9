-- The records that stand for those of body 0, one after the other.
use mathlib.Core.Path.{◌≡◌, refl, sym, ap, ◌∙◌}
use mathlib.Core.List.{List, [], ◌∷◌, ◌++◌}
use Prim.Native.Nat.{ℕ, zero, suc, ◌+◌, ◌*◌, ◌-◌, ◌≤◌, ◌<◌}
use native.Nat.{ℕᴺ_discrete}
use native.Mathlib.Numerals.{add-one}
use native.Mathlib.Omega.{arith}
use lib.ListN.{length, length-append}
use borrow.Rule.Slice.PartMut.{mid_of, put_mid}
use borrow.Author.Tests.{eq-eqb, ne_eqb}
use Rattle.model.specs.Blocks.{size}
use Rattle.reading.specs.declared.Fields.{Fields}
use Rattle.reading.specs.Bytes.{body_count, records_in, fields_at, first_arm, second_arm}
use Rattle.files.specs.Files.{record_bytes, fields}
use Rattle.files.specs.Inner.Short.{block_fields}
use Rattle.files.proofs.Files.Records.{fields_count}
use Rattle.sizes.specs.Inner.Sizes.{DeclaredFile, called, second_field, record_size, place, Places}
use Rattle.given.specs.Inner.Over.{over, bytes_of}
use Rattle.writer.specs.Inner.Pieces.{Arms, grown_second, nested, piece, pieces}
use Rattle.given.proofs.Records.{bytes_one, bytes_lent}
use Rattle.sizes.proofs.Walks.{second, next}
use Rattle.sizes.proofs.Body0.{record_call, record_one, place_within, body0_tested, body0_called, body0_few}

-- what stands for a record
module _ (f : List ℕ) (r : ℕ) where
  pub piece_call : (fields_at f r).kind ≡ 8 → piece f r ≡ block_fields (called f (fields_at f r).p)
  unfolding piece
  piece_call k = rw (eq-eqb (fields_at f r).kind 8 k)

  pub piece_nested : ((fields_at f r).kind ≡ 8 → ⊥) → piece f r ≡ fields (fields_at f r).kind 0 0 (place f (second f r) - place f (r + 1)) (second_field (fields_at f r) (place f (next f r) - place f (second f r))) ∷ []
  unfolding piece
  piece_nested k = rw (ne_eqb (fields_at f r).kind 8 k)

  pub piece_length : length (piece f r) ≡ record_size f r
  piece_length = elim (ℕᴺ_discrete (fields_at f r).kind 8) [
    | yes k ↦ rw (piece_call k, record_call f r k) (fields_count (called f (fields_at f r).p))
    | no k ↦ rw (piece_nested k, record_one f r k)
  ]

module _ (f : List ℕ) where
  pub pieces_none : pieces f 0 ≡ []
  unfolding pieces
  pieces_none = refl

  pub pieces_more : (r : ℕ) → pieces f (r + 1) ≡ pieces f r ++ piece f r
  unfolding pieces
  pieces_more r = rw add-one

  pub pieces_length : (r : ℕ) → length (pieces f r) ≡ place f r
  unfolding pieces place
  pieces_length zero = refl
  pieces_length (suc r) = omega (arith, length-append (pieces f r) (piece f r), pieces_length r, piece_length f r)

  pub pieces_written : (r n : ℕ) (old xs ys : List ℕ) → n ≡ place f r → 8 * n ≤ length old → xs ≡ over (bytes_of (pieces f r)) old → ys ≡ over (bytes_of (piece f r)) (mid_of (8 * n) (length xs - 8 * n) xs) → put_mid (8 * n) (length xs - 8 * n) xs ys ≡ over (bytes_of (pieces f (r + 1))) old
  pieces_written r n old xs ys e h w v = bytes_lent (pieces f r) (piece f r) old xs ys n (pieces_length r ∙ sym e) h w v ∙ rw (pieces_more r)

module _ (f : List ℕ) (file : DeclaredFile f) where
  abbrev end : ℕ
  end = records_in f 0

  -- a call that was read
  pub call_read : (r : ℕ) (x : Fields) → r < end → x ≡ fields_at f r → x.kind ≡ 8 → (1 ≤ x.p) × (x.p < body_count f) × (record_size f r ≡ size (called f x.p)) × (piece f r ≡ block_fields (called f x.p))
  call_read r x h e z =
      let t : (fields_at f r).kind ≡ 8 = sym (ap (λ (y : Fields). y.kind) e) ∙ z in
      let c = body0_called f file r h t in
      let n : x.p ≡ (fields_at f r).p = ap (λ (y : Fields). y.p) e in
      (omega (arith, c.0), omega (arith, c.1), rw n (record_call f r t), rw n (piece_call f r t))

  -- a branch or a loop that was read, with its places
  module _ (r : ℕ) (x : Fields) (places : List ℕ) (h : r < end) (e : x ≡ fields_at f r) (z : x.kind ≡ 8 → ⊥) (t : Places f places) where
    inside : r + 1 + first_arm x + second_arm x ≤ end
    inside = rw e (body0_tested f file r h).inside

    other : (fields_at f r).kind ≡ 8 → ⊥
    other k = z (ap (λ (y : Fields). y.kind) e ∙ k)

    pub nested_arms : place f end ≤ 1024 → Arms places r x
    nested_arms low =
        let second = r + 1 + first_arm x in
        let next = second + second_arm x in
        record {
          inside = omega (arith, inside, body0_few f file);
          one_rises = rw (t.each (r + 1) (omega (arith, inside)), t.each second (omega (arith, inside))) (place_within f (r + 1) second (omega arith));
          two_rises = rw (t.each second (omega (arith, inside)), t.each next inside) (place_within f second next (omega arith));
          low = omega (arith, t.each next inside, place_within f next end inside);
        }

    pub nested_room : record_size f r ≡ 1
    nested_room = record_one f r other

    pub nested_written : (old new : List ℕ) → new ≡ over (record_bytes (nested places r x)) old → new ≡ over (bytes_of (piece f r)) old
    unfolding nested grown_second
    nested_written old new w =
        let second = r + 1 + first_arm x in
        w ∙ rw (bytes_one, t.each (r + 1) (omega (arith, inside)), t.each second (omega (arith, inside)), t.each (second + second_arm x) inside, piece_nested f r other, e)

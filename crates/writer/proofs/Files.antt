-- The expansion's file, part by part: header, the arrays' entries, the entry of its body, the records, the check bytes.
use mathlib.Core.Path.{◌≡◌, refl, sym, ap, ◌∙◌}
use mathlib.Core.List.{List, [], ◌∷◌, ◌++◌, append_assoc, append-nil}
use Prim.Native.Nat.{ℕ, ◌+◌, ◌*◌, ◌-◌, ◌≤◌, ◌<◌}
use native.Mathlib.Omega.{arith}
use lib.ListN.{length, take, drop, length-append, length-drop}
use lib.Seq.{length-take-le}
use borrow.Rule.Slice.PartMut.{mid_of, put_mid}
use Rattle.model.specs.Sides.{Layout}
use Rattle.reading.specs.declared.Fields.{Fields}
use Rattle.reading.specs.Bytes.{byte_at, table, array_count, layout_of, entry_at, records_in}
use Rattle.sums.specs.Sums.{check_bytes}
use Rattle.format.specs.Plans.{declared_plan_of}
use Rattle.files.specs.Files.{u16_bytes, record_bytes, Body, array_entry, front, file}
use Rattle.model.specs.Lists.{chain}
use Rattle.reading.proofs.Tables.{arrays_counted}
use Rattle.format.proofs.Walking.{opened_facts}
use Rattle.files.proofs.RoundTrip.{plain_length}
use Rattle.files.specs.Expansions.{expansion_of, expansion_file}
use Rattle.sizes.specs.Inner.Sizes.{DeclaredFile, place}
use Rattle.given.specs.Inner.Over.{over, bytes_of}
use Rattle.writer.specs.Inner.Pieces.{pieces, contents_bytes}
use Rattle.given.proofs.Records.{bytes_length}
use Rattle.given.proofs.Over.{over_lent}
use Rattle.writer.proofs.Over.{over_again, over_front}
use Rattle.writer.proofs.Bytes.{arrays_again}
use Rattle.writer.proofs.Pieces.{pieces_length}
use Rattle.writer.proofs.Expansions.{expansion_fields, expansion_size}

-- header and the arrays' entries; with the entry of the body and the records
unfoldable pub lengths_written : List ℕ → List ℕ
lengths_written f = (2 ∷ array_count f ∷ 1 ∷ 0 ∷ []) ++ take (2 * array_count f) (drop 4 f)

unfoldable pub records_written : List ℕ → List ℕ
records_written f = contents_bytes f (place f (records_in f 0)) ++ bytes_of (pieces f (records_in f 0))

-- what each writer leaves of header and contents
module _ (f : List ℕ) (long : 4 + 2 * array_count f ≤ length f) where
  lengths_length : length (lengths_written f) ≡ 4 + 2 * array_count f
  unfolding lengths_written
  lengths_length =
      let n : 2 * array_count f ≤ length (drop 4 f) = simp length-drop (omega arith) in
      omega (arith, length-take-le (2 * array_count f) (drop 4 f) n)

  pub contents_length : (records : ℕ) → length (contents_bytes f records) ≡ 4 + 2 * array_count f + 4
  unfolding contents_bytes lengths_written
  contents_length records = omega (arith, length-append (lengths_written f) (u16_bytes records ++ (0 ∷ 0 ∷ [])), lengths_length)

  module _ (old xs ys : List ℕ) where
    pub lengths_over : (layout : ℕ) → layout ≡ array_count f → 4 ≤ length old → xs ≡ over (2 ∷ layout ∷ 1 ∷ 0 ∷ []) old → ys ≡ over (take (4 + 2 * layout - 4) (drop 4 f)) (mid_of 4 (length xs - 4) xs) → put_mid 4 (length xs - 4) xs ys ≡ over (lengths_written f) old
    unfolding lengths_written
    lengths_over layout e h w v =
        let n : 4 + 2 * layout - 4 ≡ 2 * array_count f = omega arith in
        over_lent _ _ old xs ys 4 w refl h v ∙ rw (n, e)

    pub contents_over : (layout records : ℕ) → layout ≡ array_count f → 4 + 2 * layout ≤ length old → xs ≡ over (lengths_written f) old → ys ≡ over (u16_bytes records ++ (0 ∷ 0 ∷ [])) (mid_of (4 + 2 * layout) (length xs - (4 + 2 * layout)) xs) → put_mid (4 + 2 * layout) (length xs - (4 + 2 * layout)) xs ys ≡ over (contents_bytes f records) old
    unfolding contents_bytes lengths_written
    contents_over layout records e h w v = over_lent (lengths_written f) _ old xs ys (4 + 2 * layout) w (lengths_length ∙ rw e) h v

-- the file of a plan of so many arrays and records
module _ (layout : Layout) (l : List Fields) where
  abbrev body : Body
  body = record { declarations = 0; records = l }

  abbrev summed : List ℕ
  summed = (((2 ∷ length layout.lengths ∷ 1 ∷ 0 ∷ []) ++ chain u16_bytes (table (array_entry layout) (length layout.lengths))) ++ (u16_bytes (length l) ++ (0 ∷ 0 ∷ []))) ++ bytes_of l

  plain_summed : summed ≡ front 2 layout (body ∷ []) ++ chain (λ (b : Body). chain record_bytes b.records) (body ∷ [])
  unfolding bytes_of
  plain_summed = simp (append-nil, append_assoc)

  plain_whole : summed ++ check_bytes summed ≡ file 2 layout (body ∷ [])
  unfolding file
  plain_whole = ap (λ (s : List ℕ). s ++ check_bytes s) plain_summed

module _ (f : List ℕ) (given : DeclaredFile f) where
  pub arrays_low : array_count f ≤ 32
  arrays_low = (opened_facts f given.opened).bounds.header.arrays.1

  pub contents_within : 4 + 2 * array_count f ≤ length f
  unfolding entry_at
  contents_within = omega (arith, (opened_facts f given.opened).bounds.long)

  pub expansion_length : length (expansion_file f) ≡ 4 + 2 * array_count f + 4 + 8 * place f (records_in f 0) + 2
  unfolding declared_plan_of
  expansion_length = plain_length (expansion_of f) ∙ omega (arith, arrays_counted f, expansion_size f given)

  pub records_length : length (records_written f) ≡ 4 + 2 * array_count f + 4 + 8 * place f (records_in f 0)
  unfolding records_written
  records_length = omega (arith, length-append (contents_bytes f (place f (records_in f 0))) (bytes_of (pieces f (records_in f 0))), contents_length f contents_within (place f (records_in f 0)), bytes_length (pieces f (records_in f 0)), pieces_length f (records_in f 0))

  written_is : ((i : ℕ) → byte_at f i < 256) → records_written f ≡ summed (layout_of f) (pieces f (records_in f 0))
  unfolding records_written contents_bytes
  written_is small = rw (arrays_counted f, arrays_again f small contents_within, pieces_length f (records_in f 0))

  file_is : ((i : ℕ) → byte_at f i < 256) → records_written f ++ check_bytes (records_written f) ≡ expansion_file f
  unfolding declared_plan_of
  file_is small =
      ap (λ (s : List ℕ). s ++ check_bytes s) (written_is small)
      ∙ plain_whole (layout_of f) (pieces f (records_in f 0))
      ∙ ap (λ (l : List Fields). file 2 (layout_of f) (record { declarations = 0; records = l } ∷ [])) (sym (expansion_fields f given))

  -- what the writers of the records and of the check bytes leave
  module _ (old xs ys : List ℕ) where
    pub records_over : (at end records : ℕ) → at ≡ 4 + 2 * array_count f + 4 → end ≡ records_in f 0 → records ≡ place f (records_in f 0) → at ≤ length old → xs ≡ over (contents_bytes f records) old → ys ≡ over (bytes_of (pieces f end)) (mid_of at (length xs - at) xs) → put_mid at (length xs - at) xs ys ≡ over (records_written f) old
    unfolding records_written
    records_over at end records e n m h w v = over_lent (contents_bytes f records) _ old xs ys at w (contents_length f contents_within records ∙ sym e) h v ∙ rw (n, m)

    pub file_over : ((i : ℕ) → byte_at f i < 256) → (n : ℕ) → n ≡ 4 + 2 * array_count f + 4 + 8 * place f (records_in f 0) → xs ≡ over (records_written f) old → ys ≡ over (take n xs ++ check_bytes (take n xs)) xs → ys ≡ over (expansion_file f) old
    file_over small n e w v =
        let m : n ≡ length (records_written f) = e ∙ sym records_length in
        v ∙ rw (w, m, over_front (records_written f) old, over_again (records_written f) (check_bytes (records_written f)) old, file_is small)

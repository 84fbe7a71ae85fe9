-- What stands for a call of a pass, byte for byte.
use mathlib.Core.Path.{◌≡◌, ap, ◌∙◌}
use mathlib.Core.Bool.{true}
use mathlib.Core.List.{List, ◌++◌}
use Prim.Native.Nat.{ℕ, suc, ◌+◌, ◌*◌, ◌-◌, ◌≤◌, ◌<◌}
use native.Mathlib.Omega.{arith}
use lib.ListN.{length, take, drop}
use borrow.Rule.Slice.PartMut.{mid_of, put_mid}
use Rattle.model.specs.Blocks.{size}
use Rattle.reading.specs.Bytes.{is_declared, byte_at, body_count, records_in, declarations_in, sizes_of, first_record, record_count, bodies_at}
use Rattle.files.specs.Inner.Short.{block_fields}
use Rattle.files.specs.Inner.Given.{declared_from}
use Rattle.format.specs.Inner.Walks.{block_between}
use Rattle.reading.proofs.Tables.{next_record, first_rises}
use Rattle.format.proofs.Walking.{Facts, opened_facts}
use Rattle.passes.specs.declared.Extent.{Extent}
use Rattle.passes.specs.Inner.Passes.{PassAt}
use Rattle.passes.proofs.Records.{declared_low, records_low, declaration_array}
use Rattle.sizes.specs.Inner.Sizes.{DeclaredFile, called}
use Rattle.given.specs.Inner.Over.{DeclarationsAt, over, bytes_of}
use Rattle.given.proofs.Records.{bytes_append, block_bytes_length}
use Rattle.given.proofs.Over.{over_lent}
use Rattle.writer.proofs.Bytes.{between_again}
use Rattle.sizes.proofs.Passes.{called_fields, others}

-- a pass of a file that opens
module _ (f : List ℕ) (file : DeclaredFile f) (b : ℕ) (p : 1 ≤ b) (l : b < body_count f) where
  abbrev w : Facts f
  w = opened_facts f file.opened

  abbrev k : is_declared f ≡ true
  k = file.declared

  abbrev until : ℕ
  until = first_record f b + declarations_in f b

  abbrev end : ℕ
  end = first_record f b + records_in f b

  pub called_bytes : ((i : ℕ) → byte_at f i < 256) →
      bytes_of (block_fields (called f b)) ≡ bytes_of (block_fields (declared_from f (first_record f b) (declarations_in f b))) ++ take (8 * (end - until)) (drop (bodies_at f + 8 * until) f)
  called_bytes small =
      let few : end ≤ record_count f = omega (arith, next_record f b l, first_rises (sizes_of f) (suc b) (body_count f) l) in
      ap bytes_of (called_fields f file b p l)
      ∙ bytes_append (block_fields (declared_from f (first_record f b) (declarations_in f b))) (block_fields (block_between f until end))
      ∙ rw (between_again f small (block_fields (block_between f until end)) until end (omega (arith, w.bounds.declared b l)) (omega (arith, w.bounds.long)) (others f file b p l))

  pub called_written : ((i : ℕ) → byte_at f i < 256) → (from last count made offset : ℕ) (old xs ys : List ℕ) → from ≡ first_record f b → last ≡ end → count ≡ declarations_in f b → offset ≡ bodies_at f
      → made ≡ size (declared_from f from count) → 8 * made ≤ length old → xs ≡ over (bytes_of (block_fields (declared_from f from count))) old
      → ys ≡ over (take (offset + 8 * last - (offset + 8 * (from + count))) (drop (offset + 8 * (from + count)) f)) (mid_of (8 * made) (length xs - 8 * made) xs)
      → put_mid (8 * made) (length xs - 8 * made) xs ys ≡ over (bytes_of (block_fields (called f b))) old
  called_written small from last count made offset old xs ys e₁ e₂ e₃ e₄ m h x y =
      let d = block_fields (declared_from f from count) in
      let n : offset + 8 * last - (offset + 8 * (from + count)) ≡ 8 * (end - until) = omega (arith, w.bounds.declared b l) in
      let long : length (bytes_of d) ≡ 8 * made = block_bytes_length (declared_from f from count) ∙ rw m in
      over_lent (bytes_of d) _ old xs ys (8 * made) x long h y ∙ rw (called_bytes small, n, e₁, e₃, e₄)

-- a pass where it stands
module _ (f : List ℕ) (e : Extent) (p : PassAt f e) where
  pub declarations_at : DeclarationsAt f e.from e.declarations
  declarations_at = record { few = omega (arith, declared_low f e p, records_low f e p); sides = λ i h. (declaration_array f e p i h).0 }

  pub call_written : ((i : ℕ) → byte_at f i < 256) → (made : ℕ) (old xs ys : List ℕ) → made ≡ size (declared_from f e.from e.declarations) → 8 * made ≤ length old
      → xs ≡ over (bytes_of (block_fields (declared_from f e.from e.declarations))) old
      → ys ≡ over (take (e.bodies + 8 * (e.from + e.records) - (e.bodies + 8 * (e.from + e.declarations))) (drop (e.bodies + 8 * (e.from + e.declarations)) f)) (mid_of (8 * made) (length xs - 8 * made) xs)
      → put_mid (8 * made) (length xs - 8 * made) xs ys ≡ over (bytes_of (block_fields (called f e.body))) old
  call_written small made old xs ys m h x y = called_written f (record { opened = p.opens; declared = p.declared }) e.body p.low p.high small e.from (e.from + e.records) e.declarations made e.bodies old xs ys p.from_is (rw (p.from_is, p.records_are)) p.declarations_are p.place m h x y

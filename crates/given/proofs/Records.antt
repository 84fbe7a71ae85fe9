-- Records and their bytes.
use mathlib.Core.Path.{◌≡◌, refl, ◌∙◌}
use mathlib.Core.List.{List, [], ◌∷◌, ◌++◌, append_assoc}
use Prim.Native.Nat.{ℕ, ◌*◌, ◌-◌, ◌/◌, ◌%◌, ◌^◌, ◌≤◌, ◌<◌}
use native.Mathlib.Nat.{mod-eq_of_lt}
use native.Mathlib.Omega.{arith}
use lib.ListN.{length}
use borrow.Rule.Slice.PartMut.{mid_of, put_mid}
use Rattle.model.specs.Records.{Action}
use Rattle.model.specs.Blocks.{Block, size}
use Rattle.reading.specs.declared.Fields.{Fields}
use Rattle.files.specs.Files.{record_bytes}
use Rattle.files.specs.Inner.Short.{block_fields}
use Rattle.model.specs.Lists.{chain}
use Rattle.files.proofs.Files.Holding.{joined_length}
use Rattle.files.proofs.Files.Records.{fields_count}
use Rattle.given.specs.Inner.Over.{over, bytes_of}
use Rattle.given.proofs.Over.{over_none, over_lent}

-- the high byte of a number of two bytes
pub high_byte : (n : ℕ) → n < 2 ^ 16 → n / 256 % 256 ≡ n / 256
high_byte n h = mod-eq_of_lt (omega arith)

pub joined_append : {A : Type 0} (g : A → List ℕ) (l m : List A) → chain g (l ++ m) ≡ chain g l ++ chain g m
joined_append g [] m = refl
joined_append g (x ∷ l) m = rw (joined_append g l m, append_assoc)

pub bytes_append : (l m : List Fields) → bytes_of (l ++ m) ≡ bytes_of l ++ bytes_of m
unfolding bytes_of
bytes_append = joined_append record_bytes

pub bytes_length : (l : List Fields) → length (bytes_of l) ≡ 8 * length l
unfolding bytes_of
bytes_length = joined_length record_bytes 8 (λ x. refl)

pub block_bytes_length : (b : Block Action) → length (bytes_of (block_fields b)) ≡ 8 * size b
block_bytes_length b = bytes_length (block_fields b) ∙ rw (fields_count b)

pub bytes_none : (old : List ℕ) → old ≡ over (bytes_of []) old
unfolding bytes_of
bytes_none old = over_none old

pub bytes_one : (x : Fields) → record_bytes x ≡ bytes_of (x ∷ [])
unfolding bytes_of
bytes_one x = refl

-- records that a callee writes behind n others, in the part that it is lent there
pub bytes_lent : (l m : List Fields) (old xs ys : List ℕ) (n : ℕ) → length l ≡ n → 8 * n ≤ length old → xs ≡ over (bytes_of l) old → ys ≡ over (bytes_of m) (mid_of (8 * n) (length xs - 8 * n) xs) → put_mid (8 * n) (length xs - 8 * n) xs ys ≡ over (bytes_of (l ++ m)) old
bytes_lent l m old xs ys n e h w v = over_lent (bytes_of l) (bytes_of m) old xs ys (8 * n) w (bytes_length l ∙ rw e) h v ∙ rw (bytes_append l m)

-- What declarations give: how many records, one declaration after the other.
use mathlib.Core.Path.{◌≡◌, refl, sym, ◌∙◌}
use mathlib.Core.Bool.{Bool, true, false, cond, ◌||◌}
use mathlib.Core.List.{List, [], ◌++◌}
use Prim.Native.Nat.{ℕ, zero, suc, ◌+◌, ◌*◌, ◌≤◌, ◌<◌}
use native.Nat.{ℕᴺ_discrete}
use native.Mathlib.Numerals.{add-one}
use native.Mathlib.Omega.{arith}
use lib.Dec.{eqb}
use lib.ListN.{length-append}
use Rattle.model.specs.Sides.{side_number}
use Rattle.model.specs.Blocks.{Block, size}
use Rattle.model.specs.Judging.{R, W, RW}
use Rattle.model.specs.Expanding.{given}
use Rattle.model.specs.Inner.Declared.{declaration}
use Rattle.reading.specs.declared.Fields.{Fields}
use Rattle.reading.specs.Bytes.{table, fields_at}
use Rattle.format.specs.Plans.{side_of, declaration_of}
use Rattle.files.specs.Inner.Short.{block_fields}
use Rattle.files.specs.Inner.Given.{given_by, declared_from}
use Rattle.files.proofs.Files.Records.{fields_count}
use Rattle.files.proofs.Blocks.{same_size, declared_next}

pub side_again : (s : ℕ) → s < 2 → side_number (side_of s) ≡ s
side_again s h = elim (ℕᴺ_discrete s 0) [
  | yes z ↦ rw z
  | no z ↦ let e : s ≡ 1 = omega arith in rw e
]

-- one declaration
module _ (x : Fields) where
  pub given_size : size (given_by x) ≡ cond (eqb x.kind 16 || eqb x.kind 17) 1 2
  unfolding given_by declaration_of
  given_size = go (eqb x.kind 16) (eqb x.kind 17)
    where
      go : (r w : Bool) → size (given (declaration (cond r R (cond w W RW)) (side_of x.side) x.array) Block.done) ≡ cond (r || w) 1 2
      go true w = refl
      go false true = refl
      go false false = refl

  pub given_low : size (given_by x) ≤ 2
  given_low = rw given_size (go (eqb x.kind 16 || eqb x.kind 17))
    where
      go : (t : Bool) → cond t 1 2 ≤ 2
      go true = omega arith
      go false = omega arith

  pub given_some : 1 ≤ size (given_by x)
  given_some = rw given_size (go (eqb x.kind 16 || eqb x.kind 17))
    where
      go : (t : Bool) → 1 ≤ cond t 1 2
      go true = omega arith
      go false = omega arith

-- declarations
module _ (f : List ℕ) (r : ℕ) where
  pub declared_none : block_fields (declared_from f r 0) ≡ []
  unfolding declared_from table
  declared_none = refl

  pub declared_more : (i : ℕ) → block_fields (declared_from f r (i + 1)) ≡ block_fields (declared_from f r i) ++ block_fields (given_by (fields_at f (r + i)))
  unfolding declared_from given_by table
  declared_more i = rw add-one (declared_next (table (λ k. declaration_of (fields_at f (r + k))) i) (declaration_of (fields_at f (r + i))))

  pub declared_size : (i : ℕ) → size (declared_from f r (i + 1)) ≡ size (declared_from f r i) + size (given_by (fields_at f (r + i)))
  declared_size i = same_size (declared_from f r (i + 1)) _ (declared_more i) ∙ omega (arith, length-append (block_fields (declared_from f r i)) (block_fields (given_by (fields_at f (r + i)))), fields_count (declared_from f r i), fields_count (given_by (fields_at f (r + i))))

  declared_suc : (i : ℕ) → size (declared_from f r (suc i)) ≡ size (declared_from f r i) + size (given_by (fields_at f (r + i)))
  declared_suc i = rw add-one at (declared_size i)

  pub declared_step : (n i m : ℕ) (x : Fields) → n ≡ size (declared_from f r i) → x ≡ fields_at f (r + i) → m ≡ size (given_by x) → n + m ≡ size (declared_from f r (i + 1))
  declared_step n i m x a b c = rw (a, c, b) (sym (declared_size i))

  pub declared_within : (i n : ℕ) → i ≤ n → size (declared_from f r i) ≤ size (declared_from f r n)
  declared_within i zero h = let e : i ≡ 0 = omega arith in rw e (omega arith)
  declared_within i (suc n) h = elim (ℕᴺ_discrete i (suc n)) [
    | yes e ↦ rw e (omega arith)
    | no z ↦ omega (arith, declared_within i n (omega arith), declared_suc n)
  ]

  pub declared_low : (n : ℕ) → size (declared_from f r n) ≤ 2 * n
  declared_low zero = omega (arith, same_size (declared_from f r 0) _ declared_none)
  declared_low (suc n) = omega (arith, declared_low n, declared_suc n, given_low (fields_at f (r + n)))

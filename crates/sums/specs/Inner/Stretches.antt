-- No promise of an entry point rests on this text: what the sums of a stretch say of its bytes.
use Rattle.std.specs.Prelude.{ℕ, ◌+◌, ◌*◌, ◌^◌, ◌≤◌, List, ◌≡◌, length, get_or}
use Rattle.sums.specs.Sums.{plain_sum, weighted_sum}
use Rattle.sums.specs.declared.stretches.Totals.{Totals}

-- the sums of the bytes y of the bands taken: of each column; of each byte times the number of its row in its band, from 1; and for each
-- band those of all columns behind it
pub record TakenOf (y columns rows behind : List ℕ) : Type 0 where
  pub sum : plain_sum columns ≡ plain_sum y
  pub numbered : weighted_sum 1 columns + 32 * plain_sum rows + 704 * plain_sum behind ≡ weighted_sum 1 y + 32 * plain_sum y
  pub above : plain_sum columns ≤ plain_sum rows
  pub low : (i : ℕ) → 32 * get_or columns i 0 ≤ 255 * length y
  pub sizes : (length columns ≡ 32) × (length rows ≡ 32) × (length behind ≡ 32)

-- the two sums of the bytes x, small enough to be joined to others
pub record TotalsOf (x : List ℕ) (r : Totals) : Type 0 where
  pub plain : r.plain ≡ plain_sum x
  pub weighted : r.weighted ≡ weighted_sum 1 x
  pub low : (r.plain ≤ 2 ^ 60) × (r.weighted ≤ 2 ^ 60)

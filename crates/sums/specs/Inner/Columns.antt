-- No promise of an entry point rests on this text: rows of numbers, added column by column.
use Rattle.std.specs.Prelude.{ℕ, zero, suc, ◌+◌, ◌*◌, ◌/◌, ◌≤◌, ◌<◌, List, [], ◌∷◌, ◌≡◌, length, get_or}
use Rattle.sums.specs.Sums.{plain_sum, weighted_sum}
use Rattle.sums.specs.declared.columns.Band.{Band}
use Rattle.sums.specs.declared.columns.Bands.{Bands}

-- a list with the numbers of a second one added, as far as that goes
unfoldable pub added : List ℕ → List ℕ → List ℕ
added xs [] = xs
added [] (y ∷ ys) = []
added (x ∷ xs) (y ∷ ys) = (x + y) ∷ added xs ys

-- no number of the list is above n
abbrev pub Most : ℕ → List ℕ → Type 0
Most n xs = (i : ℕ) → get_or xs i 0 ≤ n

-- the sum of the numbers up to k
unfoldable pub triangle : ℕ → ℕ
triangle zero = 0
triangle (suc k) = suc k + triangle k

-- the sums of the columns of the bytes x, whole rows: of the bytes, and of each byte times the number of its row from 1. Byte k of row r,
-- both from 0, has the number 32 · r + k + 1.
pub record RowsOf (x plain weighted : List ℕ) : Type 0 where
  pub sum : plain_sum plain ≡ plain_sum x
  pub numbered : weighted_sum 1 plain + 32 * plain_sum weighted ≡ weighted_sum 1 x + 32 * plain_sum x
  pub above : plain_sum plain ≤ plain_sum weighted
  pub low : (i : ℕ) → 32 * get_or plain i 0 ≤ 255 * length x
  pub high : Most (255 * triangle (length x / 32)) weighted
  pub sizes : (length plain ≡ 32) × (length weighted ≡ 32)

-- there is room for one row more: it has 32 bytes, and all sums fit 16 bits with it
pub record RoomForRow (band : Band) (row : List ℕ) : Type 0 where
  pub lengths : (length band.plain ≡ 32) × (length band.weighted ≡ 32) × (length row ≡ 32)
  pub plain : Most 65280 band.plain
  pub weighted : (i : ℕ) → get_or band.weighted i 0 + get_or (added band.plain row) i 0 < 65536

-- there is room for a band's columns: all have 32 numbers, and 31 bits hold the sums so far
pub record RoomForBand (bands : Bands) (band : Band) : Type 0 where
  pub lengths : (length bands.columns ≡ 32) × (length bands.rows ≡ 32) × (length bands.behind ≡ 32)
  pub more : (length band.plain ≡ 32) × (length band.weighted ≡ 32)
  pub low : Most 2147483647 bands.columns × Most 2147483647 bands.rows × Most 2147483647 bands.behind

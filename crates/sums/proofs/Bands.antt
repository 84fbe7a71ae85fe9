-- Bands taken from the last to the first: one more in front.
use mathlib.Core.Path.{◌≡◌, refl, ap, ◌∙◌}
use mathlib.Core.List.{List, [], ◌++◌}
use Prim.Native.Nat.{ℕ, ◌≤◌, ◌<◌, ◌+◌, ◌*◌, ◌-◌, ◌/◌, ◌%◌}
use native.Mathlib.Decide.{dec_lt}
use native.Mathlib.Nat.{mul-zero}
use native.Mathlib.Omega.{arith}
use lib.ListN.{length, get_or, drop, replicate, length-append, length-drop, drop_of_length-le}
use lib.Seq.{drop-length}
use Rattle.sums.specs.Sums.{plain_sum, weighted_sum}
use Rattle.sums.specs.Inner.Columns.{added, RowsOf, RoomForBand}
use Rattle.sums.specs.Inner.Stretches.{TakenOf}
use Rattle.sums.specs.declared.columns.Band.{Band}
use Rattle.sums.specs.declared.columns.Bands.{Bands}
use Rattle.sums.proofs.Parts.{all_left, behind_more, whole_more, left_within, behind_all, plain_append, weighted_append}
use Rattle.sums.proofs.Added.{length_added, getD_added, plain_added, weighted_added}
use Rattle.sums.proofs.Rows.{zeros, weighted_fit}

-- no band
pub taken_none : TakenOf [] (replicate 32 0) (replicate 32 0) (replicate 32 0)
unfolding plain_sum weighted_sum
taken_none = record { sum = refl; numbered = refl; above = omega arith; low = λ i. omega (arith, zeros 32 i); sizes = (refl, refl, refl) }

-- one band more in front, of 704 bytes where others are behind it
pub taken_more : (x y plain weighted columns rows behind : List ℕ) → RowsOf x plain weighted → TakenOf y columns rows behind → length x * plain_sum y ≡ 704 * plain_sum y → TakenOf (x ++ y) (added columns plain) (added rows weighted) (added behind columns)
taken_more x y plain weighted columns rows behind r t whole =
    let p : length plain ≤ length columns = omega (arith, r.sizes, t.sizes) in
    let w : length weighted ≤ length rows = omega (arith, r.sizes, t.sizes) in
    let b : length columns ≤ length behind = omega (arith, t.sizes) in
    let sp = plain_added columns plain p in
    let sw = plain_added rows weighted w in
    let sb = plain_added behind columns b in
    record {
      sum = omega (arith, plain_append x y, r.sum, t.sum);
      numbered = omega (arith, weighted_added 1 columns plain p, plain_append x y, weighted_append x y, r.sum, t.sum, r.numbered, t.numbered);
      above = omega (arith, r.above, t.above);
      low = λ i. omega (arith, getD_added columns plain i p, length-append x y, r.low i, t.low i);
      sizes = (omega (arith, length_added columns plain, t.sizes), omega (arith, length_added rows weighted, t.sizes), omega (arith, length_added behind columns, t.sizes));
    }

-- the bands that are left, and the sums of those behind them, which are taken: each but the last has 704 bytes
pub record BandsTaken (x left : List ℕ) (b : Bands) : Type 0 where
  pub whole : left ++ drop (length left) x ≡ x
  pub rows_left : length left % 32 ≡ 0
  pub full : length left < length x → length left % 704 ≡ 0
  pub taken : TakenOf (drop (length left) x) b.columns b.rows b.behind
  pub rows_few : (i : ℕ) → get_or b.rows i 0 ≤ 65535 * (64 - (length left + 703) / 704)
  pub behind_few : (i : ℕ) → get_or b.behind i 0 ≤ 359040 * (64 - (length left + 703) / 704)

pub no_band : (x : List ℕ) → length x % 32 ≡ 0 → BandsTaken x x (record { columns = replicate 32 0; rows = replicate 32 0; behind = replicate 32 0 })
no_band x whole =
    record {
      whole = all_left x;
      rows_left = whole;
      full = λ h. absurd (omega arith);
      taken = rw (drop-length x) taken_none;
      rows_few = λ i. omega (arith, zeros 32 i);
      behind_few = λ i. omega (arith, zeros 32 i);
    }

-- one band more taken, which is the last of those that are left
module _ (x left t part : List ℕ) (b : Bands) (few : length x ≤ 45056) (v : BandsTaken x left b) (last : left ≡ t ++ part) (size : length t ≡ (length left - 1) / 704 * 704)
    (some : 0 < length left) where
  part_long : length left ≡ length t + length part
  part_long = ap length last ∙ length-append t part

  pub part_rows : length part % 32 ≡ 0
  part_rows = omega (arith, part_long, v.rows_left)

  pub part_few : length part ≤ 704
  part_few = omega (arith, part_long)

  part_full : length part * plain_sum (drop (length left) x) ≡ 704 * plain_sum (drop (length left) x)
  part_full = elim (dec_lt (length left) (length x)) [
    | yes h ↦ let n : length part ≡ 704 = omega (arith, part_long, v.full h) in rw n
    | no h ↦ let none : plain_sum (drop (length left) x) ≡ 0 = ap plain_sum (drop_of_length-le x (omega arith)) ∙ unfold plain_sum in refl in simp (none, mul-zero)
  ]

  module _ (band : Band) (r : RowsOf part band.plain band.weighted) where
    pub band_room : RoomForBand b band
    band_room =
        record {
          lengths = v.taken.sizes;
          more = r.sizes;
          low = (λ i. omega (arith, v.taken.low i, length-drop (length left) x), λ i. omega (arith, v.rows_few i), λ i. omega (arith, v.behind_few i));
        }

    pub band_taken : BandsTaken x t (record { columns = added b.columns band.plain; rows = added b.rows band.weighted; behind = added b.behind b.columns })
    band_taken =
        let within = left_within x left v.whole in
        let high = weighted_fit part band.plain band.weighted part_few r in
        let rows : length band.weighted ≤ length b.rows = omega (arith, r.sizes, v.taken.sizes) in
        let behind : length b.columns ≤ length b.behind = omega (arith, v.taken.sizes) in
        record {
          whole = whole_more x left t part v.whole last;
          rows_left = omega arith;
          full = λ h. omega arith;
          taken = rw (behind_more x left t part v.whole last) (taken_more part (drop (length left) x) _ _ _ _ _ r v.taken part_full);
          rows_few = λ i. omega (arith, getD_added b.rows band.weighted i rows, high i, v.rows_few i);
          behind_few = λ i. omega (arith, getD_added b.behind b.columns i behind, v.taken.low i, length-drop (length left) x, v.behind_few i);
        }

-- all taken
pub all_bands : (x left : List ℕ) (b : Bands) → length left ≡ 0 → BandsTaken x left b → TakenOf x b.columns b.rows b.behind
all_bands x left b e v = rw (behind_all x left e) at v.taken

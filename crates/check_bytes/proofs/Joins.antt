-- A front joined to a back: sum by sum, for any cut, and in either order.
use mathlib.Core.Path.{◌≡◌, refl, sym, ◌∙◌, ap}
use mathlib.Core.List.{List, [], ◌++◌}
use Prim.Native.Nat.{ℕ, ◌<◌, ◌≤◌, ◌+◌, ◌*◌, ◌/◌, ◌%◌, min}
use native.Mathlib.Nat.{add-zero, add-mul, mul-zero, mul-add, mul_left_comm, div-add-mod}
use native.Mathlib.Omega.{arith}
use lib.ListN.{length, drop, length-append}
use lib.Seq.{drop-length}
use Rattle.sums.specs.Sums.{plain_sum, weighted_sum, check_bytes}
use Rattle.sums.specs.Inner.Stretches.{TotalsOf}
use Rattle.check_bytes.specs.Checks.{sums_of, onto, bytes_of}
use Rattle.check_bytes.specs.Claims.{BothOrders, ThreeParts}
use Rattle.check_bytes.specs.declared.Sums.{Sums}
use Rattle.sums.specs.declared.stretches.Totals.{Totals}
use Rattle.sums.proofs.Parts.{all_left, behind_more, whole_more, behind_all, plain_append, weighted_append}

-- r has the sums of x joined to those of a back, sum by sum
pub record Joined (x : List ℕ) (back r : Sums) : Type 0 where
  pub plain : r.plain ≡ (plain_sum x + back.plain) % 251
  pub weighted : r.weighted ≡ (weighted_sum 1 x + length x * back.plain + back.weighted) % 251

joins : (x : List ℕ) (back : Sums) → Joined x back (onto x back)
unfolding onto
joins x back = record { plain = refl; weighted = refl }

-- both sums at once
pub alike : (p w : ℕ) {k l : ℕ} → k ≡ p → l ≡ w → ◌≡◌ {A = Sums} (record { plain = k; weighted = l }) (record { plain = p; weighted = w })
alike p w e f = rw (e, f)

pub joined_is : (x : List ℕ) (back r : Sums) → Joined x back r → r ≡ onto x back
unfolding onto
joined_is x back r j = alike _ _ j.plain j.weighted

-- a product counts modulo 251 with its factor
times : (n k : ℕ) → n * k ≡ 251 * (n * (k / 251)) + n * (k % 251)
times n k = omega (arith, ap (λ j. n * j) (div-add-mod k 251), mul-add n (251 * (k / 251)) (k % 251), mul_left_comm n 251 (k / 251))

-- what the code makes of the sums of n bytes
pub joined_by : (x : List ℕ) (front : Totals) (n : ℕ) (back r : Sums) → TotalsOf x front → length x ≡ n → (r.plain ≡ (front.plain + back.plain) % 251) × (r.weighted ≡ (front.weighted + n * back.plain + back.weighted) % 251) → Joined x back r
joined_by x front n back r o e s = record { plain = rw o.plain at s.0; weighted = rw (o.weighted, ← e) at s.1 }

-- the sums of no bytes in front
pub joined_none : (back : Sums) → back.plain < 251 → back.weighted < 251 → Joined [] back back
unfolding plain_sum weighted_sum
joined_none back p w = record { plain = omega arith; weighted = omega arith }

-- y in front of a back, and x in front of both
pub joined_more : (x y : List ℕ) (back r q : Sums) → Joined y back r → Joined x r q → Joined (x ++ y) back q
joined_more x y back r q j k =
    let n = ap (λ m. m * back.plain) (length-append x y) in
    let p = ap (λ m. length x * m) j.plain in
    record {
      plain = omega (arith, plain_append x y, j.plain, k.plain);
      weighted = omega (arith, weighted_append x y, times (length x) (plain_sum y + back.plain), mul-add (length x) (plain_sum y) back.plain, add-mul (length x) (length y) back.plain, j.weighted, k.weighted);
    }

-- the stretches that are left, and the sums of those behind them, joined to the first: whole rows
pub record StretchesTaken (x left : List ℕ) (back r : Sums) : Type 0 where
  pub whole : left ++ drop (length left) x ≡ x
  pub rows_left : length left % 32 ≡ 0
  pub joined : Joined (drop (length left) x) back r

pub no_stretch : (x : List ℕ) (back : Sums) → length x % 32 ≡ 0 → back.plain < 251 → back.weighted < 251 → StretchesTaken x x back back
no_stretch x back rows p w = record { whole = all_left x; rows_left = rows; joined = rw (drop-length x) (joined_none back p w) }

-- one stretch more taken, which is the last of those that are left
module _ (x left t part : List ℕ) (back r : Sums) (v : StretchesTaken x left back r) (last : left ≡ t ++ part) (size : length part ≡ min 45056 (length left)) where
  pub stretch_rows : (length part % 32 ≡ 0) × (length part ≤ 45056)
  stretch_rows = (omega (arith, v.rows_left), omega arith)

  pub stretch_taken : (q : Sums) → Joined part r q → StretchesTaken x t back q
  stretch_taken q k =
      record {
        whole = whole_more x left t part v.whole last;
        rows_left = omega (arith, ap length last, length-append t part, v.rows_left);
        joined = rw (behind_more x left t part v.whole last) (joined_more part (drop (length left) x) back r q v.joined k);
      }

-- all taken
pub all_stretches : (x left : List ℕ) (back r : Sums) → length left ≡ 0 → StretchesTaken x left back r → Joined x back r
all_stretches x left back r e v = rw (behind_all x left e) at v.joined

pub three_parts : ThreeParts
three_parts front middle back = joined_is (front ++ middle) back _ (joined_more front middle back _ _ (joins middle back) (joins front (onto middle back)))

-- the sums of any bytes are those of a front with nothing behind it
pub nothing_behind : (s : List ℕ) → onto s (record { plain = 0; weighted = 0 }) ≡ sums_of s
unfolding onto
nothing_behind s = simp (mul-zero, add-zero)

-- for every cut
pub cut : (front back : List ℕ) → onto front (sums_of back) ≡ sums_of (front ++ back)
cut front back = ap (onto front) (sym (nothing_behind back)) ∙ three_parts front back _ ∙ nothing_behind (front ++ back)

pub both_orders : BothOrders
unfolding check_bytes
both_orders front back = ap bytes_of (cut front back)

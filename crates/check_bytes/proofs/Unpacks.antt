-- Packed sums come back, so that joining does to the numbers what it does to the sums.
use Prim.Native.Nat.{ℕ, ◌<◌, ◌/◌, ◌%◌, ◌^◌}
use mathlib.Core.List.{List}
use mathlib.Core.Path.{◌≡◌, ◌∙◌, ap}
use native.Mathlib.Nat.{mod-eq_of_lt, add-mul-mod_self_left, add-mul-div_left}
use native.Mathlib.Omega.{arith}
use Rattle.check_bytes.specs.declared.Sums.{Sums}
use Rattle.check_bytes.specs.Checks.{sums_of, onto}
use Rattle.check_bytes.specs.Packed.{packed, unpacked}
use Rattle.check_bytes.specs.Claims.{JoinedOnce, JoinedTwice}
use Rattle.check_bytes.proofs.Joins.{alike, three_parts, cut}

-- sums below 251 come back
again : (r : Sums) → r.plain < 251 → r.weighted < 251 → unpacked (packed r) ≡ r
again r p w =
    let m : packed r % 2 ^ 16 ≡ r.plain = add-mul-mod_self_left r.plain (2 ^ 16) r.weighted ∙ omega arith in
    let q : packed r / 2 ^ 16 ≡ r.weighted = add-mul-div_left r.plain r.weighted {y = 2 ^ 16} (omega arith) ∙ omega arith in
    alike r.plain r.weighted (rw m (mod-eq_of_lt p)) (rw q (omega arith))

joined_again : (front : List ℕ) (back : Sums) → unpacked (packed (onto front back)) ≡ onto front back
unfolding onto
joined_again front back = again (onto front back) (omega arith) (omega arith)

pub joined_once : JoinedOnce
joined_once front back = ap (λ b. packed (onto front b)) (again (sums_of back) (omega arith) (omega arith)) ∙ ap packed (cut front back)

pub joined_twice : JoinedTwice
joined_twice front middle n = ap (λ b. packed (onto front b)) (joined_again middle (unpacked n)) ∙ ap packed (three_parts front middle (unpacked n))

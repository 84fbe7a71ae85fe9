-- What is proved of a front and a back, besides the contracts.
use Rattle.std.specs.Prelude.{ℕ, List, ◌++◌, ◌≡◌}
use Rattle.sums.specs.Sums.{check_bytes}
use Rattle.check_bytes.specs.Checks.{sums_of, onto, bytes_of}
use Rattle.check_bytes.specs.Packed.{packed_back_sums, packed_joined_sums}
use Rattle.check_bytes.specs.declared.Sums.{Sums}

-- CLAIM (proofs/Joins, `both_orders`): "For every cut of a file into a front and a back, both orders give the same two bytes."
abbrev pub BothOrders : Type 0
BothOrders = (front back : List ℕ) → bytes_of (onto front (sums_of back)) ≡ check_bytes (front ++ back)

-- CLAIM (proofs/Joins, `three_parts`): of three parts the first two may be joined one after the other or as one, whatever sums the last has
abbrev pub ThreeParts : Type 0
ThreeParts = (front middle : List ℕ) (back : Sums) → onto front (onto middle back) ≡ onto (front ++ middle) back

-- CLAIM (proofs/Unpacks, `joined_once`): the same two sums in packed form, for every cut
abbrev pub JoinedOnce : Type 0
JoinedOnce = (front back : List ℕ) → packed_joined_sums front (packed_back_sums back) ≡ packed_back_sums (front ++ back)

-- CLAIM (proofs/Unpacks, `joined_twice`): three parts in packed form, whatever number was lent for the last
abbrev pub JoinedTwice : Type 0
JoinedTwice = (front middle : List ℕ) (n : ℕ) → packed_joined_sums front (packed_joined_sums middle n) ≡ packed_joined_sums (front ++ middle) n

-- Tables that are filled entry by entry.
use mathlib.Core.Path.{◌≡◌, ◌∙◌}
use mathlib.Core.List.{List}
use Prim.Native.Nat.{ℕ, ◌≤◌, ◌<◌}
use native.Nat.{ℕᴺ_discrete}
use lib.ListN.{length, get_or, set}
use lib.Seq.{get_or-set_same, get_or-set_other}
use Rattle.reading.specs.Bytes.{body_count}
use Rattle.format.proofs.Walking.{opened_facts}
use Rattle.sizes.specs.Inner.Sizes.{DeclaredFile}

pub stored : (g : ℕ → ℕ) (t : List ℕ) (i v : ℕ) → i < length t → v ≡ g i → (k : ℕ) → ((k ≡ i → ⊥) → get_or t k 0 ≡ g k) → get_or (set t i v) k 0 ≡ g k
stored g t i v h e k same = elim (ℕᴺ_discrete k i) [
  | yes z ↦ rw z (get_or-set_same t i v 0 h ∙ e)
  | no z ↦ get_or-set_other t i k v 0 z ∙ same z
]

pub bodies_low : (f : List ℕ) → DeclaredFile f → body_count f ≤ 32
bodies_low f file = (opened_facts f file.opened).bounds.header.bodies.1

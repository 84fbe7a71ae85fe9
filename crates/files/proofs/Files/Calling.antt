-- Body 0 of a declared plan: its rows pass where it is within the bounds.
use mathlib.Core.Path.{◌≡◌, refl}
use mathlib.Core.Logic.{inl, inr}
use mathlib.Core.Bool.{true, ◌||◌}
use mathlib.Core.List.{List}
use Prim.Native.Nat.{ℕ, suc, ◌+◌, ◌*◌, ◌≤◌}
use native.Mathlib.Omega.{arith}
use lib.Dec.{eqb}
use borrow.Author.Tests.{lt-ltb, le-leb, eqb-true}
use Rattle.model.specs.Blocks.{Block, size, largest}
use Rattle.model.proofs.Booleans.{or_out}
use Rattle.reading.specs.declared.Fields.{Fields}
use Rattle.reading.specs.Bytes.{body_count, fields_at, between}
use Rattle.reading.proofs.Ranges.{in_range}
use Rattle.rules.specs.Rules.{fields_fit, allowed, deepest}
use Rattle.files.specs.Files.{fields_of}
use Rattle.files.specs.Bounds.{nested_within, call_fields}
use Rattle.files.proofs.Files.Holding.{Holds}
use Rattle.files.proofs.Files.Accepting.{within_bounds}
use Rattle.files.proofs.Files.Records.{Walks, PlainAt, walks_of}

-- where the bodies are 0 to `last`, and records may be of the kinds 6 to 9
module _ (f : List ℕ) (last : ℕ) (counted : body_count f ≡ suc last) (may : (r : ℕ) (x : Fields) → between 6 9 x.kind ≡ true → allowed f 0 r x ≡ true) where
  call_fit : (b : ℕ) → between 1 last b ≡ true → fields_fit f (call_fields b) ≡ true
  unfolding fields_fit
  call_fit b e =
      let h = within_bounds 1 last b e in
      rw (counted, le-leb 1 b h.0, lt-ltb b (suc last) (omega arith))

  pub body0_walks : (x : Block ℕ) (levels depth around r : ℕ) → nested_within (between 1 last) levels x ≡ true → depth + levels ≤ deepest f + 1 → 1 ≤ around → around * largest x ≤ 4096 → 0 ≤ r → Holds (fields_at f) r (fields_of call_fields x) → Walks f 0 depth around r (r + size x)
  body0_walks = walks_of call_fields (between 1 last) f 0 0 (λ r x l e. may r x (held_kind x.kind e)) plain
    where
      held_kind : (k : ℕ) → (between 6 7 k || eqb k 9) ≡ true → between 6 9 k ≡ true
      held_kind k e = elim (or_out (between 6 7 k) (eqb k 9) e) [
        | inl u ↦ let h = within_bounds 6 7 k u in in_range 6 9 k h.0 (omega (arith, h.1))
        | inr u ↦ let h = eqb-true k 9 u in in_range 6 9 k (omega arith) (omega arith)
      ]

      plain : (b r : ℕ) → 0 ≤ r → between 1 last b ≡ true → PlainAt f 0 r (call_fields b)
      plain b r l e = record { fits = call_fit b e; may = may r (call_fields b) refl; leaf = refl }

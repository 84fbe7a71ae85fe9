-- How the table of the records that concern a cell is made.
use Prim.Native.Nat.{ℕ, ◌+◌, ◌≤◌, ◌<◌}
use mathlib.Core.Path.{◌≡◌, sym, ◌∙◌}
use mathlib.Core.List.{List}
use native.Nat.{ℕᴺ_discrete}
use native.Mathlib.Omega.{arith}
use lib.ListN.{length, length-set, get_or, set, replicate, length-replicate, get_or-replicate}
use lib.Seq.{get_or-set_same, get_or-set_other}
use Rattle.reading.specs.declared.Fields.{Fields}
use Rattle.reading.specs.Bytes.{record_count, fields_at}
use Rattle.lookahead.specs.Inner.Ahead.{nearest, Spare, Ahead}

pub spare_none : (f : List ℕ) (n : ℕ) → record_count f < n → Spare f (replicate n (record_count f))
spare_none f n h = record { long = rw (length-replicate {A = ℕ} n (record_count f)) h; last = get_or-replicate n (record_count f) (record_count f) 0 h }

-- the entry behind those of the records is put in
pub spare_last : (f ahead : List ℕ) → record_count f < length ahead → Spare f (set ahead (record_count f) (record_count f))
spare_last f ahead h = record { long = simp length-set h; last = get_or-set_same ahead (record_count f) _ 0 h }

module _ (f : List ℕ) (array offset : ℕ) (ahead : List ℕ) where
  -- no entry yet
  pub ahead_none : Spare f ahead → Ahead f array offset (record_count f) ahead
  ahead_none s = record { spare = s; next = λ k l m. absurd (omega arith) }

  -- one entry more
  pub ahead_more : (r s : ℕ) → s ≡ r + 1 → s ≤ record_count f → Ahead f array offset s ahead → (x : Fields) → x ≡ fields_at f r → (n n' : ℕ) → n ≡ get_or ahead s 0 → n' ≡ nearest x array offset r n →
      Ahead f array offset r (set ahead r n')
  ahead_more r s es h a x ex n n' en e = record {
    spare = record { long = simp length-set a.spare.long; last = get_or-set_other ahead r (record_count f) n' 0 (λ z. omega arith) ∙ a.spare.last };
    next = λ k l m. elim (ℕᴺ_discrete k r) [
      | yes z ↦ let p : get_or (set ahead r n') (r + 1) 0 ≡ n = get_or-set_other ahead r (r + 1) n' 0 (λ y. omega arith) ∙ sym (rw (← es) en) in
          rw (z, get_or-set_same ahead r n' 0 (omega (arith, a.spare.long)), p, ← ex) e
      | no z ↦ rw (get_or-set_other ahead r k n' 0 z, get_or-set_other ahead r (k + 1) n' 0 (λ y. omega arith)) (a.next k (omega arith) m)
    ];
  }

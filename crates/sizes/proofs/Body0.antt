-- How many records stand for those of body 0, one after the other.
use mathlib.Core.Path.{◌≡◌, refl, sym, ap, ◌∙◌}
use mathlib.Core.Bool.{true}
use mathlib.Core.List.{List}
use Prim.Native.Nat.{ℕ, zero, suc, ◌+◌, ◌*◌, ◌≤◌, ◌<◌}
use native.Nat.{ℕᴺ_discrete}
use native.Mathlib.Numerals.{add-one}
use native.Mathlib.Nat.{zero-add}
use native.Mathlib.Omega.{arith}
use lib.ListN.{get_or}
use borrow.Author.Tests.{eq-eqb, ne_eqb}
use Rattle.model.specs.Blocks.{size}
use Rattle.reading.specs.declared.Fields.{Fields}
use Rattle.reading.specs.Bytes.{is_declared, body_count, records_in, sizes_of, first_record, record_count, bodies_at, fields_at}
use Rattle.reading.specs.Inner.Places.{Inside}
use Rattle.contents.specs.declared.Opened.{Opened}
use Rattle.contents.specs.Found.{found}
use Rattle.contents.proofs.Found.{body_start}
use Rattle.rules.specs.Rules.{allowed}
use Rattle.reading.proofs.Ranges.{of_range}
use Rattle.reading.proofs.Tables.{first_zero, first_rises, next_record}
use Rattle.reading.proofs.FileKinds.{not_plain}
use Rattle.format.proofs.Walking.{Facts, opened_facts}
use Rattle.format.proofs.Trees.{body0_good}
use Rattle.sizes.specs.Inner.Sizes.{DeclaredFile, called, record_size, place, PassSizes}
use Rattle.sizes.proofs.Fields.{call_body}
use Rattle.sizes.proofs.Walks.{Tested, good_tested}
use Rattle.sizes.proofs.Passes.{called_low}

-- what stands for a record
module _ (f : List ℕ) (r : ℕ) where
  pub record_call : (fields_at f r).kind ≡ 8 → record_size f r ≡ size (called f (fields_at f r).p)
  unfolding record_size
  record_call k = rw (eq-eqb (fields_at f r).kind 8 k)

  pub record_one : ((fields_at f r).kind ≡ 8 → ⊥) → record_size f r ≡ 1
  unfolding record_size
  record_one k = rw (ne_eqb (fields_at f r).kind 8 k)

-- the places
module _ (f : List ℕ) where
  pub place_none : place f 0 ≡ 0
  unfolding place
  place_none = refl

  pub place_more : (r : ℕ) → place f (r + 1) ≡ place f r + record_size f r
  unfolding place
  place_more r = rw add-one

  place_suc : (r : ℕ) → place f (suc r) ≡ place f r + record_size f r
  place_suc r = rw add-one at (place_more r)

  pub place_within : (r n : ℕ) → r ≤ n → place f r ≤ place f n
  place_within r zero h = let e : r ≡ 0 = omega arith in rw e (omega arith)
  place_within r (suc n) h = elim (ℕᴺ_discrete r (suc n)) [
    | yes e ↦ rw e (omega arith)
    | no z ↦ omega (arith, place_within r n (omega arith), place_suc n)
  ]

  pub place_step : (r n m : ℕ) → n ≡ place f r → m ≡ record_size f r → n + m ≡ place f (r + 1)
  place_step r n m a b = rw (a, b) (sym (place_more r))

module _ (f : List ℕ) (file : DeclaredFile f) where
  abbrev w : Facts f
  w = opened_facts f file.opened

  abbrev k : is_declared f ≡ true
  k = file.declared

  abbrev end : ℕ
  end = records_in f 0

  body0_ends : first_record f 1 ≡ end
  body0_ends = next_record f 0 (omega (arith, w.bounds.header.bodies)) ∙ rw (first_zero (sizes_of f)) (zero-add end)

  pub end_read : (o : Opened) → o ≡ found f → get_or o.body_starts 1 0 ≡ end
  end_read o e = body_start f o e w.bounds 1 w.bounds.header.bodies.0 ∙ body0_ends

  pub body0_kind : (r : ℕ) → allowed f 0 r (fields_at f r) ≡ true → (6 ≤ (fields_at f r).kind) × ((fields_at f r).kind ≤ 9)
  unfolding allowed
  body0_kind r e = of_range 6 9 _ (rw (not_plain f k) at e)

  -- record r of body 0
  pub body0_tested : (r : ℕ) → r < end → Tested f 0 end r
  body0_tested r h = good_tested f 0 0 1 0 end (body0_good f w) r (omega arith) h

  pub body0_called : (r : ℕ) → r < end → (fields_at f r).kind ≡ 8 → (1 ≤ (fields_at f r).p) × ((fields_at f r).p < body_count f)
  body0_called r h e = call_body f (fields_at f r) (body0_tested r h).fits e

  body0_within : end ≤ record_count f
  body0_within = omega (arith, next_record f 0 (omega (arith, w.bounds.header.bodies)), first_rises (sizes_of f) 1 (body_count f) w.bounds.header.bodies.0)

  pub body0_few : end ≤ 1024
  body0_few = omega (arith, w.bounds.records, body0_within)

  pub body0_inside : (bodies : ℕ) → bodies ≡ bodies_at f → Inside f bodies end
  body0_inside bodies e = record { place = e; room = omega (arith, w.bounds.long, body0_within) }

  -- the size of a call that was read
  pub size_read : (r : ℕ) (x : Fields) (sizes : List ℕ) → r < end → x ≡ fields_at f r → x.kind ≡ 8 → PassSizes f sizes → (x.p < 32) × (get_or sizes x.p 0 ≡ record_size f r)
  size_read r x sizes h e z s =
      let t : (fields_at f r).kind ≡ 8 = sym (ap (λ (y : Fields). y.kind) e) ∙ z in
      let c = body0_called r h t in
      let n : x.p ≡ (fields_at f r).p = ap (λ (y : Fields). y.p) e in
      (omega (arith, w.bounds.header.bodies), rw (n, record_call f r t) (s.each (fields_at f r).p c.0 c.1))

  record_low : (r : ℕ) → r < end → record_size f r ≤ 2048
  record_low r h = elim (ℕᴺ_discrete (fields_at f r).kind 8) [
    | yes e ↦ let c = body0_called r h e in rw (record_call f r e) (called_low f file (fields_at f r).p c.0 c.1)
    | no z ↦ rw (record_one f r z) (omega arith)
  ]

  pub place_low : (r : ℕ) → r ≤ end → place f r ≤ 2048 * r
  place_low zero h = omega (arith, place_none f)
  place_low (suc r) h = omega (arith, place_suc f r, place_low r (omega arith), record_low r (omega arith))

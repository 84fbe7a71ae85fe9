-- The records of a pass one by one, arms or not: what the opening has tested of their fields and kinds.
use mathlib.Core.Path.{◌≡◌, refl, sym, ◌∙◌}
use mathlib.Core.Bool.{Bool, true, false, true≢false, ◌&&◌}
use mathlib.Core.List.{List}
use Prim.Native.Nat.{ℕ, zero, suc, ◌+◌, ◌≤◌, ◌<◌}
use native.Nat.{ℕᴺ_discrete}
use native.Mathlib.Decide.{dec_lt}
use native.Mathlib.Omega.{arith}
use lib.Dec.{ltb, eqb}
use lib.ListN.{get_or}
use borrow.Author.Tests.{ltb-true, eqb-true}
use Rattle.model.proofs.Booleans.{and_out}
use Rattle.reading.specs.declared.Fields.{Fields}
use Rattle.reading.specs.Bytes.{is_declared, array_count, body_count, length_at, sizes_of, first_record, fields_at, nests, first_arm, second_arm}
use Rattle.reading.specs.Inner.Places.{Inside}
use Rattle.rules.specs.Rules.{fields_fit, allowed}
use Rattle.format.specs.Inner.Walks.{Good, Walkable, block_between}
use Rattle.format.specs.Plans.{pass_at}
use Rattle.reading.proofs.Tables.{first_rises, next_record}
use Rattle.rules.proofs.Fields.{Sizes, fit_declaration, fit_branch, fit_loop, fit_fixed}
use Rattle.format.proofs.Walking.{Facts, opened_facts, good_parts}
use Rattle.format.proofs.Acts.{cells_fit, array_fits}
use Rattle.format.proofs.Trees.{is_branch, is_loop, is_fixed, is_leaf, shape, ActsOrNests, acts, pass_kind, pass_declaration, pass_walk, pass_body}
use Rattle.contents.specs.declared.Opened.{Opened}
use Rattle.contents.specs.Found.{found}
use Rattle.contents.proofs.Found.{body_at}
use Rattle.format.specs.Opening.{opening}
use Rattle.model.specs.Verdicts.{Accepted}
use Rattle.passes.specs.declared.Extent.{Extent}
use Rattle.passes.specs.Inner.Passes.{extent_of, PassAt}

-- what the rule of the fields says
module _ (f : List ℕ) (x : Fields) (fits : fields_fit f x ≡ true) where
  sizes : Sizes f x (array_count f) (body_count f) (length_at f x.array)
  sizes = record { arrays_are = refl; bodies_are = refl; size_is = refl }

  declaration_fits : 16 ≤ x.kind → x.kind ≤ 18 → (x.side < 2) × (x.array < array_count f)
  declaration_fits h k =
      let on_side = ltb x.side 2 in
      let on_array = ltb x.array (array_count f) in
      let no_step = eqb x.step 0 in
      let w₁ = and_out (on_side && on_array && no_step && eqb x.p 0) _ (fit_declaration f x _ _ _ sizes h k ∙ fits) in
      let w₂ = and_out (on_side && on_array && no_step) _ w₁.0 in
      let w₃ = and_out (on_side && on_array) _ w₂.0 in
      let w₄ = and_out on_side _ w₃.0 in
      (ltb-true _ _ w₄.0, ltb-true _ _ w₄.1)

  no_array : (eqb x.side 0 && eqb x.array 0 && eqb x.step 0) ≡ true → x.array ≡ 0
  no_array e = eqb-true _ _ (and_out (eqb x.side 0) _ (and_out (eqb x.side 0 && eqb x.array 0) _ e).0).1

  nested_array : nests x ≡ true → x.array ≡ 0
  nested_array n = elim (shape x) [
    | is_branch k ↦ no_array (fit_branch f x _ _ _ sizes k ∙ fits)
    | is_loop k ↦ no_array (and_out (eqb x.side 0 && eqb x.array 0 && eqb x.step 0) _ (fit_loop f x _ _ _ sizes k ∙ fits)).0
    | is_fixed k ↦ no_array (and_out (eqb x.side 0 && eqb x.array 0 && eqb x.step 0) _ (fit_fixed f x _ _ _ sizes k ∙ fits)).0
    | is_leaf e ↦ absurd (true≢false (sym n ∙ e))
  ]

  acting_array : 1 ≤ x.kind → x.kind ≤ 5 → x.array < array_count f
  acting_array h k = elim (dec_lt x.kind 4) [
    | yes u ↦ (cells_fit f x fits h (omega arith)).0.1
    | no u ↦ (array_fits f x fits (omega arith) k).1
  ]

  array_below : 1 ≤ array_count f → ActsOrNests x → x.array < array_count f
  array_below n k = go (nests x) refl
    where
      go : (b : Bool) → nests x ≡ b → x.array < array_count f
      go true e = let z = nested_array e in omega arith
      go false e = let a = acts x k e in acting_array a.0 a.1

-- each record of a good block, those of its arms included, has passed 8 and 9
flat : (f : List ℕ) (b n depth around r end : ℕ) → end ≤ r + n → Good f b depth around r end → (k : ℕ) → r ≤ k → k < end → (fields_fit f (fields_at f k) ≡ true) × (allowed f b k (fields_at f k) ≡ true)
flat f b zero depth around r end l g k h m = absurd (omega arith)
flat f b (suc n) depth around r end l g k h m =
    let p = good_parts f b depth around r end (omega arith) g in
    let i = first_arm (fields_at f r) in
    let j = second_arm (fields_at f r) in
    let inside : r + 1 + i + j ≤ end = p.tests.inside in
    elim (ℕᴺ_discrete k r) [
      | yes e ↦ rw e (p.tests.fits, p.tests.allows)
      | no e ↦ elim (dec_lt k (r + 1 + i)) [
        | yes u ↦ flat f b n (depth + 1) _ (r + 1) (r + 1 + i) (omega arith) p.one k (omega arith) u
        | no u ↦ elim (dec_lt k (r + 1 + i + j)) [
          | yes v ↦ flat f b n (depth + 1) _ (r + 1 + i) (r + 1 + i + j) (omega arith) p.two k (omega arith) v
          | no v ↦ flat f b n depth around (r + 1 + i + j) end (omega arith) p.rest k (omega arith) m
        ]
      ]
    ]

module _ (f : List ℕ) (e : Extent) (p : PassAt f e) where
  pub facts : Facts f
  facts = opened_facts f p.opens

  pub arrays_low : array_count f ≤ 32
  arrays_low = facts.bounds.header.arrays.1

  pub declared_low : e.declarations ≤ e.records
  declared_low = rw (p.declarations_are, p.records_are) (facts.bounds.declared e.body p.high)

  pass_end : first_record f (suc e.body) ≡ e.from + e.records
  pass_end = next_record f e.body p.high ∙ rw (p.from_is, p.records_are)

  pub records_low : e.from + e.records ≤ 1024
  records_low = rw (← pass_end) (omega (arith, first_rises (sizes_of f) (suc e.body) (body_count f) p.high, facts.bounds.records))

  pub records_inside : Inside f e.bodies (e.from + e.records)
  records_inside = record {
    place = p.place;
    room = rw (← pass_end, p.place) (omega (arith, first_rises (sizes_of f) (suc e.body) (body_count f) p.high, facts.bounds.long));
  }

  tested : (i : ℕ) → i < e.records → (fields_fit f (fields_at f (e.from + i)) ≡ true) × (allowed f e.body (e.from + i) (fields_at f (e.from + i)) ≡ true)
  tested i h =
      let g = rw (pass_end, ← p.from_is) at (facts.good e.body p.high) in
      flat f e.body e.records 0 1 e.from (e.from + e.records) (omega arith) g (e.from + i) (omega arith) (omega arith)

  -- a declaration
  module _ (i : ℕ) (h : i < e.declarations) where
    pub declaration_kind : (16 ≤ (fields_at f (e.from + i)).kind) × ((fields_at f (e.from + i)).kind ≤ 18)
    declaration_kind = rw p.from_is (pass_declaration f facts p.declared e.body p.low p.high i (rw (← p.declarations_are) h))

    pub declaration_array : ((fields_at f (e.from + i)).side < 2) × ((fields_at f (e.from + i)).array < array_count f)
    declaration_array = declaration_fits f _ (tested i (omega (arith, declared_low))).0 declaration_kind.0 declaration_kind.1

  -- a record after the declarations
  module _ (i : ℕ) (h : e.declarations ≤ i) (l : i < e.records) where
    pub other_kind : ActsOrNests (fields_at f (e.from + i))
    other_kind = pass_kind f facts p.declared e.body p.low p.high (e.from + i) (rw (← p.from_is, ← p.declarations_are) (omega arith)) (tested i l).1

    pub other_array : (fields_at f (e.from + i)).array < array_count f
    other_array = array_below f _ (tested i l).0 facts.bounds.header.arrays.0 other_kind

    pub other_side : (fields_at f (e.from + i)).kind ≤ 3 → (fields_at f (e.from + i)).side < 2
    other_side k = omega (arith, (cells_fit f _ (tested i l).0 other_kind.0 k).0.0)

  -- all of them, as a block
  pub others_walk : Walkable f (e.from + e.declarations) (e.from + e.records)
  others_walk = rw (p.from_is, p.declarations_are, p.records_are) (pass_walk f facts p.declared e.body p.low p.high)

  pub others_block : (pass_at f e.body).body ≡ block_between f (e.from + e.declarations) (e.from + e.records)
  others_block = rw (p.from_is, p.declarations_are, p.records_are) (pass_body f facts p.declared e.body p.low p.high)

-- what opening found of body b
module _ (f : List ℕ) (opens : Accepted ≡ opening f) (o : Opened) (e : o ≡ found f) (b : ℕ) (h : b < body_count f) where
  pub readable : (b < 32) × (get_or o.body_starts b 0 ≤ get_or o.body_starts (b + 1) 0) × (get_or o.body_starts (b + 1) 0 ≤ 1024) × (get_or o.declarations b 0 ≤ 1024)
  readable = let x = body_at f o e (opened_facts f opens).bounds b h in (x.few, omega (arith, x.from_is, x.end_is), omega (arith, x.end_is, x.within, x.low), omega (arith, x.declarations_are, x.declared, x.within, x.low))

  pub stands : is_declared f ≡ true → 1 ≤ b → (at : Extent) → at ≡ extent_of o b → PassAt f at
  stands k l at is =
      let x = body_at f o e (opened_facts f opens).bounds b h in
      rw is (record { opens = opens; declared = k; place = x.inside.place; low = l; high = h; from_is = x.from_is; declarations_are = x.declarations_are; records_are = omega (arith, x.from_is, x.end_is) })

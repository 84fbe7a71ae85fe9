-- The records that concern a cell: a walk may pass all others by.
use Prim.Native.Nat.{ℕ, zero, suc, ◌+◌, ◌-◌, ◌≤◌, ◌<◌}
use mathlib.Core.Path.{◌≡◌, refl, sym, ap, subst, ◌∙◌}
use mathlib.Core.Logic.{◌⊎◌, inl, inr}
use mathlib.Core.Bool.{Bool, true, false, cond}
use mathlib.Core.List.{List}
use native.Nat.{ℕᴺ_discrete}
use native.Mathlib.Decide.{dec_lt}
use native.Mathlib.Omega.{arith}
use lib.Dec.{leb, ltb}
use lib.ListN.{get_or}
use borrow.Author.Tests.{leb-true, leb-false, ltb-false}
use Rattle.model.specs.Sides.{cell_count, span_of}
use Rattle.model.specs.Records.{Action}
use Rattle.model.specs.Blocks.{Block, done, act, branch, loop, fixed, ◌then◌}
use Rattle.model.proofs.Numbering.{array_ends}
use Rattle.model.proofs.Through.{then_done}
use Rattle.reading.specs.declared.Fields.{Fields}
use Rattle.reading.specs.Bytes.{first_arm, second_arm, layout_of, record_count, fields_at}
use Rattle.format.specs.Plans.{action_of}
use Rattle.format.specs.Inner.Walks.{Plain, Walkable, block_between}
use Rattle.format.proofs.Trees.{is_branch, is_loop, is_fixed, is_leaf, shape, acts, block_none, block_branch, block_loop, block_fixed}
use Rattle.format.proofs.Acts.{Here, here, after_act}
use Rattle.lookahead.specs.Inner.Ahead.{cell_at, covers, Ahead}
use Rattle.statuses.proofs.Touched.{spares}
use Rattle.summary.proofs.Skips.{Untouched}
use Rattle.summary.proofs.Actions.{next_act, act_covers}

-- the walk from r up to m, of the records up to `end`, passes by a block that leaves the cell alone
pub record Skipped (f : List ℕ) (c r m end : ℕ) : Type 0 where
  pub passed : Block Action
  pub untouched : Untouched (layout_of f) c passed
  pub joins : passed then block_between f m end ≡ block_between f r end
  pub walk : Walkable f m end
  pub later : r ≤ m

module _ (f : List ℕ) (bodies : ℕ) (w : Plain f bodies) (c array offset : ℕ) (is : c ≡ cell_at f array offset) (inside : offset < (span_of (layout_of f) array).length) (ahead : List ℕ) (a : Ahead f array offset 0 ahead) where
  abbrev at : ℕ → ℕ
  at k = get_or ahead k 0

  -- the record concerns the cell, or its entry is that of the next place
  abbrev Own : ℕ → Type 0
  Own k = (at k ≡ k) × ((fields_at f k).kind < 6 → covers (fields_at f k) array offset ≡ true)

  abbrev Other : ℕ → Type 0
  Other k =
      (at k ≡ at (k + 1))
      × ((fields_at f k).kind < 6 → covers (fields_at f k) array offset ≡ false)
      × (6 ≤ (fields_at f k).kind → k + 1 + first_arm (fields_at f k) + second_arm (fields_at f k) ≤ at (k + 1))

  entry : (k : ℕ) → k < record_count f → Own k ⊎ Other k
  entry k h = go (leb 6 x.kind) (covers x array offset) (ltb (at (k + 1)) end) refl refl refl (a.next k (omega arith) h)
    where
      x : Fields
      x = fields_at f k

      end : ℕ
      end = k + 1 + first_arm x + second_arm x

      go : (nest own holds : Bool) → leb 6 x.kind ≡ nest → covers x array offset ≡ own → ltb (at (k + 1)) end ≡ holds →
          at k ≡ cond nest (cond holds k (at (k + 1))) (cond own k (at (k + 1))) → Own k ⊎ Other k
      go true own true n o l e = let z = leb-true 6 x.kind n in inl (e, λ m. absurd (omega arith))
      go true own false n o l e = let z = leb-true 6 x.kind n in inr (e, λ m. absurd (omega arith), λ m. ltb-false (at (k + 1)) end l)
      go false true holds n o l e = inl (e, λ m. o)
      go false false holds n o l e = let z = leb-false 6 x.kind n in inr (e, λ m. o, λ m. absurd (omega arith))

  -- no entry lies before its place
  low : (n k : ℕ) → k + n ≡ record_count f → k ≤ at k
  low zero k e =
      let z : k ≡ record_count f = omega arith in
      let l : at k ≡ record_count f = rw z a.spare.last in
      omega arith
  low (suc n) k e = elim (entry k (omega arith)) [ inl p ↦ omega (arith, p.0) | inr p ↦ omega (arith, p.0, low n (k + 1) (omega arith)) ]

  -- and all places up to an entry share it
  same : (n k m : ℕ) → m ≡ k + n → m ≤ record_count f → m ≤ at k → at m ≡ at k
  same zero k m e h l = let z : m ≡ k = omega arith in ap at z
  same (suc n) k m e h l = elim (entry k (omega arith)) [
    | inl p ↦ absurd (omega (arith, p.0))
    | inr p ↦ same n (k + 1) m (omega arith) h (omega (arith, p.0)) ∙ sym p.0
  ]

  c_inside : c < cell_count (layout_of f)
  c_inside = omega (arith, array_ends (layout_of f) array)

  -- a block that is passed by as a whole
  skipped_all : (r end : ℕ) → Skipped f c r end end → Untouched (layout_of f) c (block_between f r end)
  skipped_all r end t = subst (Untouched (layout_of f) c) (sym (then_done t.passed) ∙ (ap (λ b. t.passed then b) (sym (block_none f end end (omega arith))) ∙ t.joins)) t.untouched

  module _ (r end m : ℕ) (h : r < end) (few : end ≤ record_count f) (g : Walkable f r end) where
    known : Here f r end (fields_at f r)
    known = here f bodies r end w h few g (fields_at f r) refl

    skip_act : (fields_at f r).kind < 6 → covers (fields_at f r) array offset ≡ false → Skipped f c (r + 1) m end → Skipped f c r m end
    skip_act k e t = record {
      passed = act r (action_of (fields_at f r)) t.passed;
      untouched = (spares (layout_of f) c (action_of (fields_at f r)) c_inside (rw is (act_covers (fields_at f r) (known.low, omega arith) f array offset inside) ∙ e), t.untouched);
      joins = ap (act r (action_of (fields_at f r))) t.joins ∙ sym (next_act (fields_at f r) (known.low, omega arith) f r end h g refl);
      walk = t.walk;
      later = omega (arith, t.later);
    }

    skip_nest : 6 ≤ (fields_at f r).kind → (second next : ℕ) → second ≡ r + 1 + first_arm (fields_at f r) → next ≡ second + second_arm (fields_at f r) →
        Skipped f c (r + 1) second second → Skipped f c second next next → Skipped f c next m end → Skipped f c r m end
    skip_nest k second next es en one two t = elim (shape x) [
      | is_branch z ↦ let b = branch r first (block_between f second next) in
          passes_by (b t.passed) (skipped_all (r + 1) second one, skipped_all second next two, t.untouched) (ap b t.joins ∙ sym (rw (en, es) (block_branch f r end h g x refl z)))
      | is_loop z ↦ let b = loop r first in
          passes_by (b t.passed) (skipped_all (r + 1) second one, t.untouched) (ap b t.joins ∙ sym (rw (en, es) (block_loop f r end h g x refl z)))
      | is_fixed z ↦ let b = fixed r (x.q - 1) first in
          passes_by (b t.passed) (skipped_all (r + 1) second one, t.untouched) (ap b t.joins ∙ sym (rw (en, es) (block_fixed f r end h g x refl z)))
      | is_leaf z ↦ absurd (let y = acts x (known.low, known.high, known.no_call) z in omega arith)
    ]
      where
        x : Fields
        x = fields_at f r

        first : Block Action
        first = block_between f (r + 1) second

        passes_by : (b : Block Action) → Untouched (layout_of f) c b → b then block_between f m end ≡ block_between f r end → Skipped f c r m end
        passes_by b u e = record { passed = b; untouched = u; joins = e; walk = t.walk; later = omega (arith, t.later) }

  -- up to the end, or up to the record that the table names
  passes : (n r end m : ℕ) → Walkable f r end → end ≤ r + n → end ≤ record_count f → r ≤ m → m ≤ end → m ≤ at r → (m ≡ end) ⊎ (m ≡ at r) → Skipped f c r m end
  passes zero r end m g enough few from to l which = let z : r ≡ m = omega arith in record { passed = done; untouched = tt; joins = rw z refl; walk = rw z at g; later = omega arith }
  passes (suc n) r end m g enough few from to l which = elim (ℕᴺ_discrete r m) [
    | yes z ↦ record { passed = done; untouched = tt; joins = rw z refl; walk = rw z at g; later = omega arith }
    | no z ↦ let h : r < end = omega arith in elim (entry r (omega arith)) [
      | inl p ↦ absurd (omega (arith, p.0))
      | inr p ↦ elim (dec_lt (fields_at f r).kind 6) [
        | yes k ↦ skip_act r end m h few g k (p.1 k)
            (passes n (r + 1) end m (after_act (known r end m h few g).steps (omega arith)) (omega arith) few (omega arith) to (omega (arith, p.0)) (elim which [ inl e ↦ inl e | inr e ↦ inr (e ∙ p.0) ]))
        | no k ↦
            let j : 6 ≤ (fields_at f r).kind = omega arith in
            let s = (known r end m h few g).steps in
            let second : ℕ = r + 1 + first_arm (fields_at f r) in
            let next : ℕ = second + second_arm (fields_at f r) in
            let b : next ≤ at (r + 1) = p.2 j in
            let e₂ : at second ≡ at (r + 1) = same (first_arm (fields_at f r)) (r + 1) second refl (omega (arith, s.inside)) (omega arith) in
            let e₃ : at next ≡ at (r + 1) = same (first_arm (fields_at f r) + second_arm (fields_at f r)) (r + 1) next (omega arith) (omega (arith, s.inside)) b in
            let late : next ≤ m = elim which [ inl e ↦ omega (arith, s.inside) | inr e ↦ omega (arith, p.0) ] in
            skip_nest r end m h few g j second next refl refl
            (passes n (r + 1) second second s.one (omega (arith, s.inside)) (omega (arith, s.inside)) (omega arith) (omega arith) (omega arith) (inl refl))
            (passes n second next next s.two (omega (arith, s.inside)) (omega (arith, s.inside)) (omega arith) (omega arith) (omega arith) (inl refl))
            (passes n next end m s.rest (omega (arith, s.inside)) few late to (omega (arith, p.0)) (elim which [ inl e ↦ inl e | inr e ↦ inr (e ∙ (p.0 ∙ sym e₃)) ]))
      ]
    ]
  ]

  module _ (r end n : ℕ) (g : Walkable f r end) (few : end ≤ record_count f) (h : r ≤ end) (e : n ≡ at r) where
    early : r ≤ n
    early = go (record_count f - r) (omega arith)
      where
        go : (k : ℕ) → r + k ≡ record_count f → r ≤ n
        go k q = omega (arith, low k r q)

    -- on to the next record that concerns the cell
    pub skip_on : n < end → Skipped f c r n end
    skip_on l = passes end r end n g (omega arith) few early (omega arith) (omega arith) (inr e)

    -- there is none
    pub skip_rest : end ≤ n → Skipped f c r end end
    skip_rest l = passes end r end end g (omega arith) few h (omega arith) (omega arith) (inl refl)

    -- it covers the cell
    pub skip_to : n < end → (x : Fields) → x ≡ fields_at f n → x.kind < 6 → covers x array offset ≡ true
    skip_to l x ex k =
        let q : at n ≡ n = same (n - r) r n (omega (arith, early)) (omega arith) (omega arith) ∙ sym e in
        elim (entry n (omega arith)) [
          | inl p ↦ rw ex (p.1 (rw ex at k))
          | inr p ↦ absurd (omega (arith, p.0, low (record_count f - (n + 1)) (n + 1) (omega arith)))
        ]

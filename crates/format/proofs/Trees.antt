-- The plan that a file is, for those who walk its records: the block of the records r up to `end`, and the part of body 0, record by record.
use mathlib.Core.Path.{◌≡◌, refl, sym, ◌∙◌}
use mathlib.Core.Logic.{inl, inr}
use mathlib.Core.Bool.{true, false}
use mathlib.Core.List.{List}
use Prim.Native.Nat.{ℕ, zero, suc, ◌+◌, ◌-◌, ◌≤◌, ◌<◌}
use native.Mathlib.Decide.{dec_lt}
use native.Mathlib.Nat.{add-zero, zero-add}
use native.Mathlib.Omega.{arith}
use lib.Dec.{eqb}
use borrow.Author.Tests.{lt-ltb, le-ltb, eq-eqb, ne_eqb, eqb-true}
use Rattle.model.specs.Blocks.{Block}
use Rattle.model.proofs.Booleans.{or_out}
use Rattle.reading.specs.declared.Fields.{Fields}
use Rattle.reading.specs.Bytes.{is_declared, is_plain, body_count, records_in, declarations_in, sizes_of, first_record, record_count, fields_at, between, nests, first_arm, second_arm}
use Rattle.rules.specs.Rules.{acts_or_nests, allowed}
use Rattle.format.specs.Plans.{action_of, block_of, pass_at, plan_of, declared_plan_of}
use Rattle.format.specs.Inner.Walks.{Good, Walkable, block_between, body0_between, call_of}
use Rattle.reading.proofs.Ranges.{of_range}
use Rattle.reading.proofs.Tables.{first_zero, next_record}
use Rattle.reading.proofs.FileKinds.{not_plain}
pub use Rattle.reading.proofs.Shapes.{Shape, is_branch, is_loop, is_fixed, is_leaf, no_nesting, not_nesting, shape, low_leaf, high_leaf, no_arms, own_turns, one_turn}
use Rattle.format.proofs.Walking.{Facts, good_parts, steps}

module _ (x : Fields) where
  -- "kinds 1 to 7", and kind 9 "wherever kind 7 may stand"
  abbrev pub ActsOrNests : Type 0
  ActsOrNests = (1 ≤ x.kind) × (x.kind ≤ 9) × (x.kind ≡ 8 → ⊥)

  pub acts_nests : acts_or_nests x ≡ true → ActsOrNests
  acts_nests e = elim (or_out (between 1 7 x.kind) (eqb x.kind 9) e) [
    | inl u ↦ let w = of_range 1 7 x.kind u in (omega arith, omega arith, λ z. omega arith)
    | inr u ↦ let w = eqb-true x.kind 9 u in (omega arith, omega arith, λ z. omega arith)
  ]

  pub acts : ActsOrNests → nests x ≡ false → (1 ≤ x.kind) × (x.kind ≤ 5)
  acts k e = let w = not_nesting x e in (k.0, omega (arith, k, w))

-- the block of the records r up to `end`, of whatever leaves
module _ {A : Type 0} (leaf : Fields → A) (f : List ℕ) where
  abbrev made : ℕ → ℕ → ℕ → Block A
  made n r end = block_of leaf n (fields_at f) r end

  made_end : (n r end : ℕ) → end ≤ r → made n r end ≡ Block.done
  unfolding block_of
  made_end zero r end h = refl
  made_end (suc n) r end h = rw (le-ltb r end h)

  -- any fuel that is at least the number of records makes the same
  made_fuel : (n m r end : ℕ) → Walkable f r end → end ≤ r + n → end ≤ r + m → made n r end ≡ made m r end
  unfolding block_of
  made_fuel zero m r end w k l = sym (made_end m r end (omega arith))
  made_fuel (suc n) zero r end w k l = made_end (suc n) r end (omega arith)
  made_fuel (suc n) (suc m) r end w k l = elim (dec_lt r end) [
    | yes h ↦ let s = steps f r end h w (fields_at f r) refl in rw (made_fuel n m _ _ s.one (omega (arith, s.inside)) (omega (arith, s.inside)), made_fuel n m _ _ s.two (omega (arith, s.inside)) (omega (arith, s.inside)), made_fuel n m _ _ s.rest (omega (arith, s.inside)) (omega (arith, s.inside)))
    | no h ↦ made_end (suc n) r end (omega arith) ∙ sym (made_end (suc m) r end (omega arith))
  ]

  module _ (r end : ℕ) (h : r < end) (w : Walkable f r end) where
    abbrev second : ℕ
    second = r + 1 + first_arm (fields_at f r)

    abbrev next : ℕ
    next = second + second_arm (fields_at f r)

    one_fuel : (n : ℕ) → end ≤ r + suc n → made n (r + 1) second ≡ made second (r + 1) second
    one_fuel n l = let s = steps f r end h w (fields_at f r) refl in made_fuel n second (r + 1) second s.one (omega (arith, s.inside)) (omega arith)

    two_fuel : (n : ℕ) → end ≤ r + suc n → made n second next ≡ made next second next
    two_fuel n l = let s = steps f r end h w (fields_at f r) refl in made_fuel n next second next s.two (omega (arith, s.inside)) (omega arith)

    rest_fuel : (n : ℕ) → end ≤ r + suc n → made n next end ≡ made end next end
    rest_fuel n l = let s = steps f r end h w (fields_at f r) refl in made_fuel n end next end s.rest (omega (arith, s.inside)) (omega arith)

    made_branch : (n : ℕ) → end ≤ r + n → (fields_at f r).kind ≡ 6 → made n r end ≡ Block.branch r (made second (r + 1) second) (made next second next) (made end next end)
    unfolding block_of
    made_branch zero l k = absurd (omega arith)
    made_branch (suc n) l k = rw (lt-ltb r end h, eq-eqb (fields_at f r).kind 6 k, one_fuel n l, two_fuel n l, rest_fuel n l)

    made_loop : (n : ℕ) → end ≤ r + n → (fields_at f r).kind ≡ 7 → made n r end ≡ Block.loop r (made second (r + 1) second) (made end next end)
    unfolding block_of
    made_loop zero l k = absurd (omega arith)
    made_loop (suc n) l k = rw (lt-ltb r end h, ne_eqb (fields_at f r).kind 6 (λ z. omega arith), eq-eqb (fields_at f r).kind 7 k, one_fuel n l, rest_fuel n l)

    made_fixed : (n : ℕ) → end ≤ r + n → (fields_at f r).kind ≡ 9 → made n r end ≡ Block.fixed r ((fields_at f r).q - 1) (made second (r + 1) second) (made end next end)
    unfolding block_of
    made_fixed zero l k = absurd (omega arith)
    made_fixed (suc n) l k =
        rw (
          lt-ltb r end h,
          ne_eqb (fields_at f r).kind 6 (λ z. omega arith),
          ne_eqb (fields_at f r).kind 7 (λ z. omega arith),
          eq-eqb (fields_at f r).kind 9 k,
          one_fuel n l,
          rest_fuel n l,
        )

    made_leaf : (n : ℕ) → end ≤ r + n → nests (fields_at f r) ≡ false → made n r end ≡ Block.act r (leaf (fields_at f r)) (made end next end)
    unfolding block_of
    made_leaf zero l k = absurd (omega arith)
    made_leaf (suc n) l k =
        let z = not_nesting (fields_at f r) k in
        rw (
          lt-ltb r end h,
          ne_eqb (fields_at f r).kind 6 z.0,
          ne_eqb (fields_at f r).kind 7 z.1,
          ne_eqb (fields_at f r).kind 9 z.2,
          rest_fuel n l,
        )

module _ (f : List ℕ) where
  -- of actions: a plain body or a pass
  pub block_any : (fuel r end : ℕ) → Walkable f r end → end ≤ r + fuel → block_of action_of fuel (fields_at f) r end ≡ block_between f r end
  unfolding block_between
  block_any fuel r end w l = made_fuel action_of f fuel end r end w l (omega arith)

  pub block_none : (r end : ℕ) → end ≤ r → block_between f r end ≡ Block.done
  unfolding block_between
  block_none r end l = made_end action_of f end r end l

  -- of calls: a part of body 0
  pub body0_none : (r end : ℕ) → end ≤ r → body0_between f r end ≡ Block.done
  unfolding body0_between
  body0_none r end l = made_end call_of f end r end l

  module _ (r end : ℕ) (h : r < end) (w : Walkable f r end) (x : Fields) (e : x ≡ fields_at f r) where
    pub block_branch : x.kind ≡ 6 → block_between f r end ≡ Block.branch r (block_between f (r + 1) (r + 1 + first_arm x)) (block_between f (r + 1 + first_arm x) (r + 1 + first_arm x + second_arm x)) (block_between f (r + 1 + first_arm x + second_arm x) end)
    unfolding block_between
    block_branch k = rw e (made_branch action_of f r end h w end (omega arith) (rw e at k))

    pub block_loop : x.kind ≡ 7 → block_between f r end ≡ Block.loop r (block_between f (r + 1) (r + 1 + first_arm x)) (block_between f (r + 1 + first_arm x + second_arm x) end)
    unfolding block_between
    block_loop k = rw e (made_loop action_of f r end h w end (omega arith) (rw e at k))

    pub block_fixed : x.kind ≡ 9 → block_between f r end ≡ Block.fixed r (x.q - 1) (block_between f (r + 1) (r + 1 + first_arm x)) (block_between f (r + 1 + first_arm x + second_arm x) end)
    unfolding block_between
    block_fixed k = rw e (made_fixed action_of f r end h w end (omega arith) (rw e at k))

    pub block_act : nests x ≡ false → block_between f r end ≡ Block.act r (action_of x) (block_between f (r + 1 + first_arm x + second_arm x) end)
    unfolding block_between
    block_act k = rw e (made_leaf action_of f r end h w end (omega arith) (rw e at k))

    pub body0_branch : x.kind ≡ 6 → body0_between f r end ≡ Block.branch r (body0_between f (r + 1) (r + 1 + first_arm x)) (body0_between f (r + 1 + first_arm x) (r + 1 + first_arm x + second_arm x)) (body0_between f (r + 1 + first_arm x + second_arm x) end)
    unfolding body0_between
    body0_branch k = rw e (made_branch call_of f r end h w end (omega arith) (rw e at k))

    pub body0_loop : x.kind ≡ 7 → body0_between f r end ≡ Block.loop r (body0_between f (r + 1) (r + 1 + first_arm x)) (body0_between f (r + 1 + first_arm x + second_arm x) end)
    unfolding body0_between
    body0_loop k = rw e (made_loop call_of f r end h w end (omega arith) (rw e at k))

    pub body0_fixed : x.kind ≡ 9 → body0_between f r end ≡ Block.fixed r (x.q - 1) (body0_between f (r + 1) (r + 1 + first_arm x)) (body0_between f (r + 1 + first_arm x + second_arm x) end)
    unfolding body0_between
    body0_fixed k = rw e (made_fixed call_of f r end h w end (omega arith) (rw e at k))

    pub body0_call : nests x ≡ false → body0_between f r end ≡ Block.act r x.p (body0_between f (r + 1 + first_arm x + second_arm x) end)
    unfolding body0_between
    body0_call k = rw e (made_leaf call_of f r end h w end (omega arith) (rw e at k))

-- a good block is walked whatever its body, its depth and its product
pub walk_of : {f : List ℕ} {b depth around r end : ℕ} → Good f b depth around r end → Walkable f r end
walk_of {b = b} {depth = depth} {around = around} g = record { body = b; depth = depth; around = around; good = g }

-- the bodies of a file that opens, as walks
module _ (f : List ℕ) (w : Facts f) where
  -- the body of a plain plan
  pub plain_good : is_plain f ≡ true → Good f 0 0 1 0 (record_count f)
  plain_good k =
      let one : body_count f ≡ 1 = w.bounds.header.plain k in
      rw one (rw (first_zero (sizes_of f)) at (w.good 0 (omega arith)))

  pub plain_walk : is_plain f ≡ true → Walkable f 0 (record_count f)
  plain_walk k = walk_of (plain_good k)

  pub plain_body : (plan_of f).body ≡ block_between f 0 (record_count f)
  unfolding plan_of block_between
  plain_body = refl

  -- body 0 of a declared plan
  pub body0_good : Good f 0 0 1 0 (records_in f 0)
  body0_good =
      let z = first_zero (sizes_of f) in
      let n : first_record f 1 ≡ records_in f 0 = next_record f 0 (omega (arith, w.bounds.header.bodies)) ∙ rw z (zero-add (records_in f 0)) in
      rw (z, n) at (w.good 0 (omega (arith, w.bounds.header.bodies)))

  pub body0_body : (declared_plan_of f).body0 ≡ body0_between f 0 (records_in f 0)
  unfolding declared_plan_of body0_between
  body0_body = refl

  -- pass b: its declarations, and then its other records
  module _ (k : is_declared f ≡ true) (b : ℕ) (p : 1 ≤ b) (l : b < body_count f) where
    pass_end : first_record f (suc b) ≡ first_record f b + records_in f b
    pass_end = next_record f b l

    declaration : (r : ℕ) → r < first_record f b + declarations_in f b → Good f b 0 1 r (first_record f (suc b)) → (16 ≤ (fields_at f r).kind) × ((fields_at f r).kind ≤ 18)
    unfolding allowed
    declaration r d g =
        let h : r < first_record f (suc b) = omega (arith, pass_end, w.bounds.declared b l) in
        of_range 16 18 _ (rw (not_plain f k, ne_eqb b 0 (λ z. omega arith), lt-ltb r _ d) at (good_parts f b 0 1 r _ h g).tests.allows)

    -- "then kinds 1 to 7", and kind 9 "wherever kind 7 may stand"
    pub pass_kind : (r : ℕ) → first_record f b + declarations_in f b ≤ r → allowed f b r (fields_at f r) ≡ true → ActsOrNests (fields_at f r)
    unfolding allowed
    pass_kind r h e = acts_nests (fields_at f r) (rw (not_plain f k, ne_eqb b 0 (λ z. omega arith), le-ltb r (first_record f b + declarations_in f b) h) at e)

    pub pass_good : (i : ℕ) → i ≤ declarations_in f b → Good f b 0 1 (first_record f b + i) (first_record f (suc b))
    pass_good zero h = rw add-zero (w.good b l)
    pass_good (suc i) h =
        let r = first_record f b + i in
        let g = pass_good i (omega arith) in
        let d = declaration r (omega arith) g in
        let a = no_arms (fields_at f r) (high_leaf (fields_at f r) (omega arith)) in
        let n : r + 1 + first_arm (fields_at f r) + second_arm (fields_at f r) ≡ first_record f b + suc i = omega (arith, a) in
        rw n at (good_parts f b 0 1 r _ (omega (arith, pass_end, w.bounds.declared b l)) g).rest

    pub pass_declaration : (i : ℕ) → i < declarations_in f b → (16 ≤ (fields_at f (first_record f b + i)).kind) × ((fields_at f (first_record f b + i)).kind ≤ 18)
    pass_declaration i h = declaration (first_record f b + i) (omega arith) (pass_good i (omega arith))

    pub pass_walk : Walkable f (first_record f b + declarations_in f b) (first_record f b + records_in f b)
    pass_walk = walk_of (rw pass_end at (pass_good (declarations_in f b) (omega arith)))

    pub pass_body : (pass_at f b).body ≡ block_between f (first_record f b + declarations_in f b) (first_record f b + records_in f b)
    unfolding pass_at
    pass_body = block_any f (records_in f b) _ _ pass_walk (omega arith)

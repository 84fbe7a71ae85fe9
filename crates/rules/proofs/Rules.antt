-- Numbers 8 to 10 and 26: the tests of one record.
use mathlib.Core.Path.{◌≡◌, refl, sym, ◌∙◌}
use mathlib.Core.Bool.{Bool, true, false, not, ◌&&◌, ◌||◌}
use mathlib.Core.List.{List}
use Prim.Native.Nat.{ℕ, ◌+◌, ◌*◌, ◌≤◌, ◌<◌}
use lib.Dec.{ltb}
use native.Mathlib.Nat.{mul-one}
use native.Mathlib.Omega.{arith}
use borrow.Author.Tests.{lt-ltb, le-ltb, ltb-false, not-true, not-false}
use Rattle.model.proofs.Booleans.{or_none}
use Rattle.model.specs.Verdicts.{Accepted, Refused}
use Rattle.reading.specs.declared.Fields.{Fields}
use Rattle.model.specs.Rows.{answer_of}
use Rattle.reading.specs.Bytes.{fields_at, nests, first_arm, second_arm, turns_of}
use Rattle.rules.specs.Rules.{fields_fit, allowed, deepest, record_rows}
use Rattle.reading.proofs.Shapes.{not_nesting, no_arms, one_turn}
use Rattle.model.proofs.Rows.{holds, skips, skipped, empty}

-- the four tests of record r, which has the fields x
module _ (f : List ℕ) (b depth around end r : ℕ) (x : Fields) (ex : x ≡ fields_at f r) (v : Bool) (ev : v ≡ fields_fit f x) where
  pub field_stop : not v ≡ true → Refused 8 r ≡ answer_of (record_rows f b depth around r end)
  unfolding record_rows
  field_stop t = holds _ _ _ _ (rw (ev, ex) at t)

  module _ (t : not v ≡ false) (w : Bool) (ew : w ≡ allowed f b r x) where
    pub kind_stop : not w ≡ true → Refused 9 r ≡ answer_of (record_rows f b depth around r end)
    unfolding record_rows
    kind_stop u = skips _ _ _ _ _ (rw (ev, ex) at t) (holds _ _ _ _ (rw (ew, ex) at u))

    -- a record without arms has no test more
    pub leaf_pass : not w ≡ false → (n : Bool) → n ≡ nests x → not n ≡ true → r < end → around ≤ 4096 → Accepted ≡ answer_of (record_rows f b depth around r end)
    unfolding record_rows
    leaf_pass u n en l h k =
        let e : nests (fields_at f r) ≡ false = rw (en, ex) at (not-true n l) in
        let a = no_arms (fields_at f r) e in
        let i = le-ltb end (r + 1 + 0 + 0) (omega arith) in
        let m = le-ltb 4096 (around * 1) (omega (arith, mul-one around)) in
        skips _ _ _ _ _ (rw (ev, ex) at t) (skips _ _ _ _ _ (rw (ew, ex) at u) (skips _ _ _ _ _ (rw (a.0, a.1, e, i)) (skips _ _ _ _ _ (rw (one_turn (fields_at f r) (not_nesting (fields_at f r) e).2) m) empty)))

    module _ (u : not w ≡ false) (n : Bool) (en : n ≡ nests x) (ln : not n ≡ false) (i j limit : ℕ) (ei : i ≡ first_arm x) (ej : j ≡ second_arm x) (el : limit ≡ deepest f) where
      abbrev bad_arm : Bool
      bad_arm = ltb end (r + 1 + i + j) || ltb limit depth

      arm_row : bad_arm ≡ (ltb end (r + 1 + first_arm (fields_at f r) + second_arm (fields_at f r)) || (nests (fields_at f r) && ltb (deepest f) depth))
      arm_row = let e : nests (fields_at f r) ≡ true = rw (en, ex) at (not-false n ln) in rw (ei, ej, el, ex, e)

      pub arm_stop : bad_arm ≡ true → Refused 10 r ≡ answer_of (record_rows f b depth around r end)
      unfolding record_rows
      arm_stop o = skips _ _ _ _ _ (rw (ev, ex) at t) (skips _ _ _ _ _ (rw (ew, ex) at u) (holds _ _ _ _ (sym arm_row ∙ o)))

      module _ (o : bad_arm ≡ false) (q : ℕ) (eq : q ≡ turns_of x) where
        pub product_stop : 4096 < around * q → Refused 26 r ≡ answer_of (record_rows f b depth around r end)
        unfolding record_rows
        product_stop h = skips _ _ _ _ _ (rw (ev, ex) at t) (skips _ _ _ _ _ (rw (ew, ex) at u) (skips _ _ _ _ _ (sym arm_row ∙ o) (holds _ _ _ _ (lt-ltb _ _ (rw (eq, ex) at h)))))

        pub record_pass : around * q ≤ 4096 → Accepted ≡ answer_of (record_rows f b depth around r end)
        unfolding record_rows
        record_pass h = skips _ _ _ _ _ (rw (ev, ex) at t) (skips _ _ _ _ _ (rw (ew, ex) at u) (skips _ _ _ _ _ (sym arm_row ∙ o) (skips _ _ _ _ _ (le-ltb _ _ (rw (eq, ex) at h)) empty)))

-- number 10, by the tests alone
pub arm_refused : (f : List ℕ) (b depth around r end : ℕ) → fields_fit f (fields_at f r) ≡ true → allowed f b r (fields_at f r) ≡ true → nests (fields_at f r) ≡ true →
    (ltb end (r + 1 + first_arm (fields_at f r) + second_arm (fields_at f r)) || ltb (deepest f) depth) ≡ true → answer_of (record_rows f b depth around r end) ≡ Refused 10 r
arm_refused f b depth around r end v w n o =
    sym (arm_stop f b depth around end r (fields_at f r) refl _ refl (rw v) _ refl (rw w) _ refl (rw n) _ _ _ refl refl refl o)

-- what a record that passes its tests has
pub record Tests (f : List ℕ) (b depth around r end : ℕ) : Type 0 where
  pub fits : fields_fit f (fields_at f r) ≡ true
  pub allows : allowed f b r (fields_at f r) ≡ true
  pub inside : r + 1 + first_arm (fields_at f r) + second_arm (fields_at f r) ≤ end
  pub shallow : (nests (fields_at f r) && ltb (deepest f) depth) ≡ false
  pub few : around * turns_of (fields_at f r) ≤ 4096

pub tests_of : (f : List ℕ) (b depth around r end : ℕ) → Accepted ≡ answer_of (record_rows f b depth around r end) → Tests f b depth around r end
unfolding record_rows
tests_of f b depth around r end e =
    let t = skipped _ _ _ _ e in
    let u = skipped _ _ _ _ t.1 in
    let o = skipped _ _ _ _ u.1 in
    let w = or_none (ltb end (r + 1 + first_arm (fields_at f r) + second_arm (fields_at f r))) _ o.0 in
    record {
      fits = not-false _ t.0;
      allows = not-false _ u.0;
      inside = ltb-false _ _ w.0;
      shallow = w.1;
      few = ltb-false _ _ (skipped _ _ _ _ o.1).0;
    }

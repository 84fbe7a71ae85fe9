-- Numbers 8 to 10 and 26: the records of a block one at a time, the bodies one at a time.
use mathlib.Core.Path.{◌≡◌, refl, sym}
use mathlib.Core.Bool.{false}
use mathlib.Core.List.{List}
use Prim.Native.Nat.{ℕ, zero, suc, ◌+◌, ◌*◌, ◌≤◌, ◌<◌}
use native.Mathlib.Omega.{arith}
use lib.ListN.{get_or}
use borrow.Author.Tests.{lt-ltb, le-ltb}
use Rattle.model.specs.Verdicts.{Verdict, Accepted}
use Rattle.model.specs.Rows.{answer_of}
use Rattle.reading.specs.Bytes.{body_count, records_in, fields_at, nests, first_arm, second_arm, turns_of}
use Rattle.rules.specs.Rules.{record_rows}
use Rattle.records.specs.Records.{block_rows, body_rows}
use Rattle.model.proofs.Rows.{stop, pass}
use Rattle.rules.proofs.Rules.{tests_of}
use Rattle.reading.proofs.Shapes.{no_arms}
use Rattle.reading.proofs.Tables.{next_record}
use Rattle.contents.specs.declared.Opened.{Opened}
use Rattle.contents.proofs.Found.{BodyAt}

-- the answer of a block, at each fuel that is at least its number of records
abbrev pub Answers : List ℕ → ℕ → ℕ → ℕ → ℕ → ℕ → Verdict → Type 0
Answers f b depth around r end v = (fuel : ℕ) → end ≤ r + fuel → v ≡ answer_of (block_rows fuel f b depth around r end)

pub at_end : (f : List ℕ) (b depth around r end : ℕ) → end ≤ r → Answers f b depth around r end Accepted
unfolding block_rows answer_of
at_end f b depth around r end h zero l = refl
at_end f b depth around r end h (suc fuel) l = simp (le-ltb _ _ h)

pub at_record : (f : List ℕ) (b depth around r end : ℕ) → r < end → (v : Verdict) → (v ≡ Accepted → ⊥) → v ≡ answer_of (record_rows f b depth around r end) → Answers f b depth around r end v
unfolding block_rows
at_record f b depth around r end h v nay e zero l = absurd (omega arith)
at_record f b depth around r end h v nay e (suc fuel) l = rw (lt-ltb _ _ h) (stop _ _ v nay e)

-- record r of a block, which passes its tests and has arms of i and j records and q turns
pub record Passes (f : List ℕ) (b depth around r end i j q : ℕ) : Type 0 where
  pub less : r < end
  pub one : i ≡ first_arm (fields_at f r)
  pub two : j ≡ second_arm (fields_at f r)
  pub turns : q ≡ turns_of (fields_at f r)
  pub accepts : Accepted ≡ answer_of (record_rows f b depth around r end)

module _ (f : List ℕ) (b depth around r end i j q : ℕ) (p : Passes f b depth around r end i j q) where
  second_is : r + 1 + i ≡ r + 1 + first_arm (fields_at f r)
  second_is = rw p.one

  next_is : r + 1 + i + j ≡ r + 1 + first_arm (fields_at f r) + second_arm (fields_at f r)
  next_is = rw (p.one, p.two)

  within_is : around * q ≡ around * turns_of (fields_at f r)
  within_is = rw p.turns

  pub inside : r + 1 + i + j ≤ end
  inside = rw next_is (tests_of f b depth around r end p.accepts).inside

  pub few : around * q ≤ 4096
  few = rw within_is (tests_of f b depth around r end p.accepts).few

  pub at_first : (v : Verdict) → (v ≡ Accepted → ⊥) → Answers f b (depth + 1) (around * q) (r + 1) (r + 1 + i) v → Answers f b depth around r end v
  unfolding block_rows
  at_first v nay a zero l = absurd (omega (arith, p.less))
  at_first v nay a (suc fuel) l =
      let le : r + 1 + i ≤ r + 1 + fuel = omega (arith, inside) in
      rw (lt-ltb _ _ p.less) (pass _ _ v p.accepts (stop _ _ v nay (rw (second_is, within_is) at (a fuel le))))

  pub at_second : (v : Verdict) → (v ≡ Accepted → ⊥) → Answers f b (depth + 1) (around * q) (r + 1) (r + 1 + i) Accepted → Answers f b (depth + 1) (around * q) (r + 1 + i) (r + 1 + i + j) v → Answers f b depth around r end v
  unfolding block_rows
  at_second v nay a c zero l = absurd (omega (arith, p.less))
  at_second v nay a c (suc fuel) l =
      let le : r + 1 + i ≤ r + 1 + fuel = omega (arith, inside) in
      let lf : r + 1 + i + j ≤ r + 1 + i + fuel = omega (arith, inside) in
      rw (lt-ltb _ _ p.less) (pass _ _ v p.accepts (pass _ _ v (rw (second_is, within_is) at (a fuel le)) (stop _ _ v nay (rw (next_is, second_is, within_is) at (c fuel lf)))))

  pub at_next : Answers f b (depth + 1) (around * q) (r + 1) (r + 1 + i) Accepted → Answers f b (depth + 1) (around * q) (r + 1 + i) (r + 1 + i + j) Accepted → (v : Verdict) → Answers f b depth around (r + 1 + i + j) end v → Answers f b depth around r end v
  unfolding block_rows
  at_next a c v n zero l = absurd (omega (arith, p.less))
  at_next a c v n (suc fuel) l =
      let le : r + 1 + i ≤ r + 1 + fuel = omega (arith, inside) in
      let lf : r + 1 + i + j ≤ r + 1 + i + fuel = omega (arith, inside) in
      let lg : end ≤ r + 1 + i + j + fuel = omega (arith, inside) in
      rw (lt-ltb _ _ p.less) (pass _ _ v p.accepts (pass _ _ v (rw (second_is, within_is) at (a fuel le)) (pass _ _ v (rw (next_is, second_is, within_is) at (c fuel lf)) (rw next_is at (n fuel lg)))))

-- record r of a block, which passes its tests and has no arms
pub at_leaf : (f : List ℕ) (b depth around r end : ℕ) → r < end → nests (fields_at f r) ≡ false → Accepted ≡ answer_of (record_rows f b depth around r end) → (v : Verdict) → Answers f b depth around (r + 1) end v → Answers f b depth around r end v
at_leaf f b depth around r end h n e v a =
    let z = no_arms (fields_at f r) n in
    let s : r + 1 + 0 + 0 ≡ r + 1 = omega arith in
    let p : Passes f b depth around r end 0 0 (turns_of (fields_at f r)) = record { less = h; one = sym z.0; two = sym z.1; turns = refl; accepts = e } in
    at_next f b depth around r end 0 0 _ p (at_end _ _ _ _ _ _ (omega arith)) (at_end _ _ _ _ _ _ (omega arith)) v (rw s a)

-- the records of body b
pub body_records : (f : List ℕ) (o : Opened) (b : ℕ) → b < body_count f → BodyAt f o b → (v : Verdict) → Answers f b 0 1 (get_or o.body_starts b 0) (get_or o.body_starts (b + 1) 0) v → v ≡ answer_of (body_rows f b)
unfolding body_rows
body_records f o b h x v a = rw (next_record f b h, ← x.end_is, ← x.from_is) (a (records_in f b) (omega (arith, x.end_is, x.from_is)))

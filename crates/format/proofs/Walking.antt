-- What those who walk a file that opens cite: what opening found, the file's bounds, and the parts of a block whose records pass their tests.
use mathlib.Core.Path.{◌≡◌}
use mathlib.Core.Bool.{true}
use mathlib.Core.List.{List}
use Prim.Native.Nat.{ℕ, zero, suc, ◌+◌, ◌*◌, ◌≤◌, ◌<◌}
use native.Mathlib.Omega.{arith}
use borrow.Author.Tests.{lt-ltb}
use Rattle.std.specs.Prelude.{Ok, Err}
use Rattle.model.specs.declared.Fault.{Fault}
use Rattle.model.specs.Verdicts.{Accepted}
use Rattle.model.proofs.Verdicts.{where_accepts, where_faulty}
use Rattle.reading.specs.declared.Fields.{Fields}
use Rattle.contents.specs.declared.Opened.{Opened}
use Rattle.model.specs.Rows.{answer_of}
use Rattle.reading.specs.Bytes.{body_count, records_in, first_record, fields_at, first_arm, second_arm, turns_of}
use Rattle.rules.specs.Rules.{fields_fit, record_rows}
use Rattle.records.specs.Records.{block_rows, body_rows}
use Rattle.format.specs.Opening.{opening, opened}
use Rattle.contents.specs.Found.{found}
use Rattle.format.specs.Inner.Walks.{Good, Walkable}
use Rattle.model.proofs.Rows.{passed, each_passed}
use Rattle.reading.proofs.Tables.{next_record}
use Rattle.rules.proofs.Rules.{Tests, tests_of}
use Rattle.format.proofs.Opening.{open_parts}
use Rattle.contents.proofs.Bounds.{Bounds, bounds_of}
pub use Rattle.contents.proofs.Found.{array_start, body_start, declarations_at}

-- what `open` gave
module _ (f : List ℕ) where
  pub opens : (o : Opened) → Ok o ≡ opened f → Accepted ≡ opening f
  unfolding opened
  opens o e = (where_accepts _ _ _ e).0

  pub found_is : (o : Opened) → Ok o ≡ opened f → o ≡ found f
  unfolding opened
  found_is o e = (where_accepts _ _ _ e).1

  pub unopened : (e : Fault) → Err e ≡ opened f → Err e ≡ opening f
  unfolding opened
  unopened e h = where_faulty _ _ _ h

-- what holds of a file that opens
pub record Facts (f : List ℕ) : Type 0 where
  pub bounds : Bounds f
  pub good : (b : ℕ) → b < body_count f → Good f b 0 1 (first_record f b) (first_record f (suc b))

module _ (f : List ℕ) where
  body_good : (b : ℕ) → b < body_count f → Accepted ≡ answer_of (body_rows f b) → Good f b 0 1 (first_record f b) (first_record f (suc b))
  unfolding body_rows
  body_good b l e = record { fuel = records_in f b; enough = omega (arith, next_record f b l); passes = e }

  pub opened_facts : Accepted ≡ opening f → Facts f
  opened_facts e =
      let p = open_parts f e in
      record { bounds = bounds_of f p.0; good = λ b l. body_good b l (each_passed (body_rows f) (body_count f) b p.1 l) }

-- the first record of a good block: its tests, and what comes after it is good again
pub record Parts (f : List ℕ) (b depth around r end : ℕ) : Type 0 where
  pub tests : Tests f b depth around r end
  pub one : Good f b (depth + 1) (around * turns_of (fields_at f r)) (r + 1) (r + 1 + first_arm (fields_at f r))
  pub two : Good f b (depth + 1) (around * turns_of (fields_at f r)) (r + 1 + first_arm (fields_at f r)) (r + 1 + first_arm (fields_at f r) + second_arm (fields_at f r))
  pub rest : Good f b depth around (r + 1 + first_arm (fields_at f r) + second_arm (fields_at f r)) end

module _ (f : List ℕ) (b depth around r end : ℕ) (h : r < end) where
  parts : (fuel : ℕ) → end ≤ r + fuel → Accepted ≡ answer_of (block_rows fuel f b depth around r end) → Parts f b depth around r end
  unfolding block_rows
  parts zero l e = absurd (omega arith)
  parts (suc n) l e =
      let second = r + 1 + first_arm (fields_at f r) in
      let within = around * turns_of (fields_at f r) in
      let p = passed (record_rows f b depth around r end) _ (rw (lt-ltb _ _ h) at e) in
      let q = passed (block_rows n f b (depth + 1) within (r + 1) second) _ p.1 in
      let s = passed (block_rows n f b (depth + 1) within second (second + second_arm (fields_at f r))) _ q.1 in
      let t = tests_of f b depth around r end p.0 in
      record {
        tests = t;
        one = record { fuel = n; enough = omega (arith, t.inside); passes = q.0 };
        two = record { fuel = n; enough = omega (arith, t.inside); passes = s.0 };
        rest = record { fuel = n; enough = omega (arith, t.inside); passes = s.1 };
      }

  pub good_parts : Good f b depth around r end → Parts f b depth around r end
  good_parts g = parts g.fuel g.enough g.passes

-- the same whatever the body, the depth and that product, for a walker that has read the record's fields x
pub record Steps (f : List ℕ) (r end : ℕ) (x : Fields) : Type 0 where
  pub fits : fields_fit f x ≡ true
  pub inside : r + 1 + first_arm x + second_arm x ≤ end
  pub one : Walkable f (r + 1) (r + 1 + first_arm x)
  pub two : Walkable f (r + 1 + first_arm x) (r + 1 + first_arm x + second_arm x)
  pub rest : Walkable f (r + 1 + first_arm x + second_arm x) end

pub steps : (f : List ℕ) (r end : ℕ) → r < end → Walkable f r end → (x : Fields) → x ≡ fields_at f r → Steps f r end x
steps f r end h w x e = rw e (let p = good_parts f w.body w.depth w.around r end h w.good in
    record {
      fits = p.tests.fits;
      inside = p.tests.inside;
      one = record { body = w.body; depth = w.depth + 1; around = _; good = p.one };
      two = record { body = w.body; depth = w.depth + 1; around = _; good = p.two };
      rest = record { body = w.body; depth = w.depth; around = w.around; good = p.rest };
    })

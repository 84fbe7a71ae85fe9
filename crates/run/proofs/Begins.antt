-- Before the run: the first row that holds, and what holds where none does.
use mathlib.Core.Path.{◌≡◌, refl, sym, ap, ◌∙◌}
use mathlib.Core.Bool.{true, false, not, ◌||◌}
use mathlib.Core.List.{List}
use Prim.Native.Nat.{ℕ, ◌≤◌, ◌<◌}
use lib.Dec.{ltb}
use lib.ListN.{length}
use borrow.Author.Tests.{lt-ltb, le-ltb, ltb-false, not-false, eq-eqb, ne_eqb}
use Rattle.std.specs.Prelude.{Ok, Err}
use Rattle.model.specs.declared.Fault.{Fault}
use Rattle.model.specs.Verdicts.{Verdict, Accepted, Refused, where_accepted}
use Rattle.model.proofs.Verdicts.{faulty, faulty_where, found_where, where_accepts}
use Rattle.model.specs.Sides.{cell_count}
use Rattle.model.proofs.Booleans.{or_none}
use Rattle.model.specs.Rows.{answer_of}
use Rattle.reading.specs.Bytes.{is_plain, kind_of, layout_of}
use Rattle.contents.specs.declared.Opened.{Opened}
use Rattle.contents.specs.Found.{found}
use Rattle.format.specs.Opening.{open_rows, opening, opened}
use Rattle.format.proofs.Walking.{opens, found_is, unopened}
use Rattle.model.proofs.Rows.{holds, skips, skipped, empty, stop, pass, passed}
use Rattle.steps.specs.Inner.Beginning.{Ready}
use Rattle.run.specs.Running.{Lent, run_rows}

-- the rows, one after the other, of a file that does not open and of one in which opening has found o
module _ (f choices : List ℕ) (b : Lent) where
  abbrev said : Verdict
  said = answer_of (run_rows f choices b)

  pub ready_unopened : (e : Fault) → Err e ≡ opened f → Err e ≡ where_accepted said (found f)
  unfolding run_rows opening
  ready_unopened e h = faulty_where said (found f) e (stop (open_rows f) _ (Err e) (faulty refl) (unopened f e h))

  module _ (o : Opened) (h : Ok o ≡ opened f) where
    kind_is : o.kind ≡ kind_of f
    kind_is = ap (λ (x : Opened). x.kind) (found_is f o h)

    cells_are : o.cells ≡ cell_count (layout_of f)
    cells_are = ap (λ (x : Opened). x.cells) (found_is f o h)

    refused_by : (number place : ℕ) → Refused number place ≡ said → Err (Fault.Refused number place) ≡ where_accepted said (found f)
    refused_by number place e = faulty_where said (found f) (Fault.Refused number place) e

    pub ready_other_kind : (o.kind ≡ 2 → ⊥) → Err (Fault.Refused 11 0) ≡ where_accepted said (found f)
    unfolding run_rows opening
    ready_other_kind n = refused_by 11 0 (pass (open_rows f) _ (Refused 11 0) (opens f o h) (holds _ 11 0 _ (rw (ne_eqb _ 2 (λ k. n (kind_is ∙ k))))))

    module _ (k : o.kind ≡ 2) where
      kind_row : not (is_plain f) ≡ false
      kind_row = rw (eq-eqb _ 2 (sym kind_is ∙ k))

      pub ready_short : (ltb (length b.host) o.cells || ltb (length b.card) o.cells || ltb (length b.latest) o.cells) ≡ true → Err (Fault.Refused 19 0) ≡ where_accepted said (found f)
      unfolding run_rows opening
      ready_short t = refused_by 19 0 (pass (open_rows f) _ (Refused 19 0) (opens f o h) (skips _ 11 0 _ (Refused 19 0) kind_row (holds _ 19 0 _ (rw cells_are at t))))

      module _ (t : (ltb (length b.host) o.cells || ltb (length b.card) o.cells || ltb (length b.latest) o.cells) ≡ false) where
        pub ready_many : 65536 < length choices → Err (Fault.Refused 20 0) ≡ where_accepted said (found f)
        unfolding run_rows opening
        ready_many m = refused_by 20 0 (pass (open_rows f) _ (Refused 20 0) (opens f o h) (skips _ 11 0 _ (Refused 20 0) kind_row (skips _ 19 0 _ (Refused 20 0) (rw cells_are at t) (holds _ 20 0 _ (lt-ltb 65536 (length choices) m)))))

        pub ready_none : length choices ≤ 65536 → Ok o ≡ where_accepted said (found f)
        unfolding run_rows opening
        ready_none m = found_where said (found f) o (pass (open_rows f) _ Accepted (opens f o h) (skips _ 11 0 _ Accepted kind_row (skips _ 19 0 _ Accepted (rw cells_are at t) (skips _ 20 0 _ Accepted (le-ltb 65536 (length choices) m) empty)))) (found_is f o h)

  -- where no row holds the run may begin
  pub may_run : (o : Opened) → Ok o ≡ where_accepted said (found f) → Ready f o choices b.host b.card b.latest
  unfolding run_rows opening opened
  may_run o h =
      let q = where_accepts _ _ _ h in
      let p = passed (open_rows f) _ q.0 in
      let k = skipped _ _ _ _ p.1 in
      let s = skipped _ _ _ _ k.1 in
      let m = skipped _ _ _ _ s.1 in
      let n = cell_count (layout_of f) in
      let short = or_none (ltb (length b.host) n || ltb (length b.card) n) _ s.0 in
      let shorter = or_none (ltb (length b.host) n) _ short.0 in
      record {
        found = found_where _ _ _ p.0 q.1;
        plain = not-false _ k.0;
        own_room = ltb-false _ _ shorter.0;
        others_room = ltb-false _ _ shorter.1;
        latest_room = ltb-false _ _ short.1;
        few = ltb-false _ _ m.0;
      }

use mathlib.Core.Path.{◌≡◌, sym, refl}
use native.Mathlib.Omega.{arith}
use Rattle.model.specs.Lists.{sum_before}
use Rattle.reading.specs.Bytes.{array_count, table, entry_at, lengths_of}
use Rattle.model.proofs.Rows.{refused, each_none, each_more, each_stop}
use Rattle.model.proofs.Verdicts.{faulty_where, found_where}
use Rattle.reading.proofs.Tables.{filled_first, filled_next, first_zero, all_cells}
use Rattle.contents.proofs.Entries.{ArrayEntry, cells_more, array_stop, array_pass}
use Rattle.std.proofs.Common.{rules}
use Rattle.contents.proofs.array_entries.Goals as goal

pub loop-a-init : goal.loop-a-init
unfolding table
loop-a-init c =
    let l = lengths_of c.args.plan.now in
    (sym (first_zero l), search rules, each_none _, search rules, filled_first (sum_before l) (first_zero l))

pub length_at-n-requires : goal.length_at-n-requires
unfolding entry_at
length_at-n-requires c = omega arith

pub overflow_add-cells : goal.overflow_add-cells
overflow_add-cells c =
    let e : ArrayEntry c.args.plan.now c.loop-a.a c.length_at-n.result c.loop-a.cells = record { one = omega arith; size = c.length_at-n.ensures; before = c.loop-a.invariant.0; low = c.loop-a.invariant.1 } in
    omega (arith, (array_pass _ _ _ _ e c.if-n-cells.false).1)

pub returns-then-n-cells : goal.returns-then-n-cells
returns-then-n-cells c =
    let e : ArrayEntry c.args.plan.now c.loop-a.a c.length_at-n.result c.loop-a.cells = record { one = omega arith; size = c.length_at-n.ensures; before = c.loop-a.invariant.0; low = c.loop-a.invariant.1 } in
    faulty_where _ _ _ (each_stop _ _ _ _ (refused refl) c.loop-a.invariant.2 (array_stop _ _ _ _ e c.if-n-cells.true) e.one)

pub loop-a-preserved : goal.loop-a-preserved
loop-a-preserved c =
    let l = c.loop-a in
    let e : ArrayEntry c.args.plan.now l.a c.length_at-n.result l.cells = record { one = omega arith; size = c.length_at-n.ensures; before = l.invariant.0; low = l.invariant.1 } in
    let p = array_pass _ _ _ _ e c.if-n-cells.false in
    let m = cells_more _ _ _ _ e in
    (m, p.1, each_more _ _ l.invariant.2 p.0, search rules, rw l.invariant.4 (filled_next (sum_before (lengths_of c.args.plan.now)) 33 l.a _ (omega arith) m))

pub returns : goal.returns
returns c =
    let f = c.args.plan.now in
    let l = c.loop-a in
    let all : l.a ≡ array_count f = omega arith in
    found_where _ _ _ (rw all at l.invariant.2) (rw (l.invariant.0, l.invariant.4, all, all_cells f))

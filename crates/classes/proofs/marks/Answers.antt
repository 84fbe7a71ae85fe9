use mathlib.Core.Path.{◌≡◌}
use native.Mathlib.Omega.{arith}
use Prim.Native.Nat.{◌<◌}
use lib.ListN.{get_or}
use Rattle.model.specs.Sides.{span_of}
use Rattle.reading.specs.Bytes.{layout_of, record_count}
use Rattle.classes.proofs.Marking.{Edges, edges, Cells, cells, marked_none, marked_skip, marked_next}
use Rattle.std.proofs.Common.{rules}
use Rattle.classes.proofs.marks.Goals as goal

pub loop-r-init : goal.loop-r-init
loop-r-init c = (search rules, marked_none _ _ c.requires.2)

pub cells_of-requires : goal.cells_of-requires
cells_of-requires c =
    let p = c.requires.0 in
    let edge : Edges c.args.plan.file.now c.record-x.result = edges _ _ p.plain c.loop-r.r (omega (arith, p.counted)) _ c.record-x.ensures (omega arith) in
    omega (arith, edge.array, edge.few)

pub mark_edges-requires : goal.mark_edges-requires
mark_edges-requires c =
    let p = c.requires.0 in
    let x = c.record-x.result in
    let edge : Edges c.args.plan.file.now x = edges _ _ p.plain c.loop-r.r (omega (arith, p.counted)) _ c.record-x.ensures (omega arith) in
    let first : get_or c.args.starts.now x.array 0 ≡ (span_of (layout_of c.args.plan.file.now) x.array).first = c.requires.1.first _ (omega (arith, edge.array)) in
    let e = c.cells_of.ensures in
    let these : Cells c.args.plan.file.now x c.cells_of.result.from c.cells_of.result.to c.cells_of.result.step = cells _ x (omega arith) _ first _ _ _ _ e.from e.to e.step in (
      c.loop-r.invariant.1.size,
      omega (arith, edge.order, these.from_is, these.to_is),
      omega (arith, edge.inside, these.to_is),
      omega (arith, these.step_is),
      omega (arith, these.step_is),
    )

pub returns : goal.returns
returns c = let n : c.loop-r.r ≡ c.args.plan.records = omega arith in rw (n, c.requires.0.counted) at c.loop-r.invariant.1

pub loop-r-preserved : goal.loop-r-preserved
loop-r-preserved c =
    let p = c.requires.0 in
    let l = c.loop-r.invariant.1 in
    let x = c.record-x.ensures in
    let k : c.loop-r.r < record_count c.args.plan.file.now = omega (arith, p.counted) in
    let skip = marked_skip _ _ _ _ x l in
    let next = marked_next _ _ _ p.plain c.requires.1 _ k _ x in
    (omega arith, search (rules, skip, next))

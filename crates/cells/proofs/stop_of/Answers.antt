use mathlib.Core.Path.{refl}
use native.Mathlib.Omega.{arith}
use Rattle.model.specs.Sides.{is_scratch}
use Rattle.model.proofs.Status.{at_start}
use Rattle.reading.specs.Bytes.{layout_of}
use Rattle.format.proofs.Walking.{opened_facts}
use Rattle.format.proofs.Trees.{plain_walk}
use Rattle.statuses.proofs.Statuses.{index_below}
use Rattle.summary.proofs.Keeping.{exact_none}
use Rattle.cells.proofs.Answers.{stop_is}
use Rattle.cells.proofs.stop_of.Goals as goal

pub only-requires : goal.only-requires
only-requires c = omega (arith, c.requires.6, index_below (at_start (is_scratch (layout_of c.args.plan.file.now) c.args.spot.array.0)))

pub block-t-requires : goal.block-t-requires
block-t-requires c =
    let p = c.requires in (
      record {
        plain = p.0.plain;
        array = c.args.spot.array.0;
        offset = c.args.spot.offset;
        is = omega (arith, p.2);
        inside = p.1;
        leads = c.look_ahead.ensures;
        exact = exact_none _ _ _ _ _ _ (omega arith) p.4;
      },
      omega arith,
      omega (arith, p.0.counted),
      rw p.0.counted (plain_walk _ (opened_facts _ p.0.plain.opens) p.0.plain.plain),
    )

pub returns : goal.returns
returns c =
    let p = c.requires in
    let b = c.block-t in
    (rw c.record.ensures (stop_is _ _ _ _ _ _ _ b.result p.1 p.2 _ p.6 c.only.ensures refl (rw p.0.counted at b.ensures)), b.ensures.exact.room, c.look_ahead.ensures.spare)

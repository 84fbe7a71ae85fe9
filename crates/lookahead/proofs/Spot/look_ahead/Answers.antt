use Prim.Native.Nat.{◌-◌, ◌≤◌}
use mathlib.Core.Path.{◌≡◌, refl, sym}
use native.Mathlib.Omega.{arith}
use lib.ListN.{length-set}
use lib.Seq.{get_or-set_same}
use Rattle.reading.specs.Bytes.{record_count}
use Rattle.format.proofs.Walking.{opened_facts}
use Rattle.lookahead.proofs.Filling.{spare_last, ahead_none, ahead_more}
use Rattle.lookahead.proofs.Spot.look_ahead.Goals as goal

pub loop-r-init : goal.loop-r-init
loop-r-init c =
    let p = c.requires.0 in
    let ahead = c.args.ahead.now in
    let n : record_count c.args.plan.file.now ≡ c.args.plan.records = sym p.counted in
    record {
      ahead = rw (← n) (ahead_none _ _ _ _ (spare_last _ ahead c.requires.1));
      next = sym (get_or-set_same ahead c.args.plan.records _ _ (omega (arith, p.counted, c.requires.1)));
      size = refl;
    }

pub nearest-next-requires : goal.nearest-next-requires
nearest-next-requires c = let p = c.requires.0 in omega (arith, p.counted, c.loop-r.auto.r, (opened_facts _ p.plain.opens).bounds.records)

pub loop-r-preserved : goal.loop-r-preserved
loop-r-preserved c =
    let l = c.loop-r in
    let i = l.invariant in
    let below : l.r ≤ record_count c.args.plan.file.now = omega (arith, c.requires.0.counted, l.auto.r) in
    record {
      ahead = ahead_more _ _ _ _ (l.r - 1) l.r (omega arith) below i.ahead _ c.record.ensures _ _ i.next c.nearest-next.ensures;
      next = sym (get_or-set_same l.ahead (l.r - 1) _ _ (omega (arith, i.ahead.spare.long)));
      size = simp length-set (simp length-set at i.size);
    }

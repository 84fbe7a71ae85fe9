-- One band more in front.
use Rattle.std.proofs.Common.{◌≡◌, arith}
use Rattle.sums.proofs.Bands.{no_band, part_rows, part_few, band_room, band_taken, all_bands}
use Rattle.sums.proofs.stretches.stretch.Goals as goal

pub loop-part-init : goal.loop-part-init
loop-part-init c =
    let e : c.into_iter-part-iterator.result.iter.rest.now ≡ c.args.x.now = cc in
    record { finite = tt; size = cc; taken = rw e (no_band c.args.x.now c.requires.0) }

pub band_of-requires : goal.band_of-requires
band_of-requires c =
    let v = c.loop-part.invariant in
    let s = c.in-Some.ensures.steps in
    (part_rows _ _ _ _ _ c.requires.1 v.taken s.1.0 (rw v.size at s.1.1) s.1.2, part_few _ _ _ _ _ c.requires.1 v.taken s.1.0 (rw v.size at s.1.1) s.1.2)

pub add_band-requires : goal.add_band-requires
add_band-requires c =
    let v = c.loop-part.invariant in
    let s = c.in-Some.ensures.steps in
    band_room _ _ _ _ _ c.requires.1 v.taken s.1.0 (rw v.size at s.1.1) s.1.2 _ c.band_of.ensures

pub loop-part-preserved : goal.loop-part-preserved
loop-part-preserved c =
    let v = c.loop-part.invariant in
    let s = c.in-Some.ensures.steps in
    let a = c.add_band.ensures in
    record {
      finite = tt;
      size = cc;
      taken = rw (a.columns, a.rows, a.behind) (band_taken _ _ _ _ _ c.requires.1 v.taken s.1.0 (rw v.size at s.1.1) s.1.2 _ c.band_of.ensures);
    }

pub overflow_sub-result : goal.overflow_sub-result
overflow_sub-result c = omega (arith, c.loop-part.invariant.taken.taken.above)

pub returns : goal.returns
returns c =
    let t = all_bands _ _ _ c.in-None.ensures.steps.1.0 c.loop-part.invariant.taken in
    record { plain = omega (arith, t.sum); weighted = omega (arith, t.sum, t.numbered, t.above); low = (omega arith, omega arith) }

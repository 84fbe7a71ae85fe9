-- One row more in front.
use Rattle.std.proofs.Common.{sym, ap, ◌≡◌, arith}
use Rattle.sums.proofs.Rows.{none_taken, no_remainder, row_taken, row_room}
use Rattle.sums.proofs.stretches.band_of.Goals as goal

pub loop-row-init : goal.loop-row-init
loop-row-init c =
    let r = c.rchunks_exact-row-items in
    let e : r.result.rest.now ≡ c.args.x.now = sym (no_remainder c.args.x.now r.result.rem.now r.result.rest.now r.ensures.parts (omega (arith, r.ensures.remainder_len))) in
    record { finite = tt; size = cc; taken = rw (ap (λ i. i.rest.now) c.into_iter-row-iterator.ensures.into_iter_gives, e) (none_taken c.args.x.now c.requires.0) }

pub add_row-requires : goal.add_row-requires
add_row-requires c =
    let v = c.loop-row.invariant in
    let s = c.in-Some.ensures.steps in
    row_room _ _ _ _ _ _ (λ i. omega (arith, c.type_inv.x i)) c.requires.0 c.requires.1 v.taken s.2.0 (rw v.size at s.2.1)

pub loop-row-preserved : goal.loop-row-preserved
loop-row-preserved c =
    let v = c.loop-row.invariant in
    let s = c.in-Some.ensures.steps in
    record {
      finite = tt;
      size = cc;
      taken = rw (c.add_row.ensures.plain, c.add_row.ensures.weighted) (row_taken _ _ _ _ _ _ (λ i. omega (arith, c.type_inv.x i)) c.requires.0 c.requires.1 v.taken s.2.0 (rw v.size at s.2.1));
    }

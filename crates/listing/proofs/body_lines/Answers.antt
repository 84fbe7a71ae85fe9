-- `body_lines`: the body's records can be walked in its own bytes.
use Rattle.std.proofs.Common.{arith}
use Rattle.listing.proofs.Found.{body_stands}
use Rattle.listing.proofs.body_lines.Goals as goal

pub bounds-o-b : goal.bounds-o-b
bounds-o-b g c =
    let n = body_stands _ _ c.requires.0 _ c.requires.1 in
    omega (arith, n.entry.low)

pub bounds-o-b-2 : goal.bounds-o-b-2
bounds-o-b-2 g c =
    let n = body_stands _ _ c.requires.0 _ c.requires.1 in
    omega (arith, n.entry.low)

pub body_line-requires : goal.body_line-requires
body_line-requires g c = (body_stands _ _ c.requires.0 _ c.requires.1).entry.rises

pub overflow_sub-end : goal.overflow_sub-end
overflow_sub-end g c = (body_stands _ _ c.requires.0 _ c.requires.1).entry.rises

pub block-requires : goal.block-requires
block-requires g c =
    let n = body_stands _ _ c.requires.0 _ c.requires.1 in
    (omega arith, omega arith, omega (arith, n.entry.rises, n.few), rw (c.from.ensures, c.from-2.ensures, c.body_view-body.ensures.bytes) n.lists)

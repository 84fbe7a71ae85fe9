use mathlib.Core.Path.{◌≡◌}
use mathlib.Core.List.{List}
use Prim.Native.Nat.{ℕ, ◌+◌, ◌*◌, ◌≤◌, ◌<◌}
use native.Mathlib.Omega.{arith}
use lib.ListN.{length, get_or}
use Rattle.reading.specs.Bytes.{records_in}
use Rattle.sizes.specs.Inner.Sizes.{record_size, place, Places}
use Rattle.given.specs.Inner.Over.{bytes_of}
use Rattle.writer.specs.Inner.Pieces.{pieces}
use Rattle.given.proofs.Records.{bytes_length, bytes_none}
use Rattle.given.proofs.Over.{lent_room}
use Rattle.sizes.proofs.Body0.{place_more, place_within, body0_few, end_read}
use Rattle.writer.proofs.Pieces.{pieces_none, pieces_length, pieces_written}
use Rattle.std.proofs.Common.{rules}
use Rattle.writer.proofs.Expansion.put_body.Goals as goal

-- a piece and its place are within the records of the expansion
room : (f places : List ℕ) (r n : ℕ) → Places f places → r < records_in f 0 → 8 * place f (records_in f 0) ≤ n → 8 * (get_or places r 0 + record_size f r) ≤ n
room f places r n p l h = omega (arith, p.each r (omega arith), place_more f r, place_within f (r + 1) (records_in f 0) (omega arith))

pub body0_end-r-end-requires : goal.body0_end-r-end-requires
body0_end-r-end-requires c = let x = c.args.self.now in omega (arith, end_read _ x.declared _ x.finds, body0_few _ x.declared)

pub loop-r-init : goal.loop-r-init
loop-r-init c = (search rules, rw pieces_none (bytes_none _))

pub offset_bounds-self-r : goal.offset_bounds-self-r
offset_bounds-self-r c = let x = c.args.self.now in record { fits = omega (arith, end_read _ x.declared _ x.finds, body0_few _ x.declared) }

pub bounds-self-r : goal.bounds-self-r
bounds-self-r c = let x = c.args.self.now in omega (arith, end_read _ x.declared _ x.finds, body0_few _ x.declared)

pub slice_bounds-put_piece-count : goal.slice_bounds-put_piece-count
slice_bounds-put_piece-count c = let x = c.args.self.now in omega (arith, room _ _ c.loop-r.r _ x.placed (omega (arith, end_read _ x.declared _ x.finds)) c.requires.1)

pub slice_bounds-put_piece-start : goal.slice_bounds-put_piece-start
slice_bounds-put_piece-start c = let x = c.args.self.now in omega (arith, room _ _ c.loop-r.r _ x.placed (omega (arith, end_read _ x.declared _ x.finds)) c.requires.1)

pub put_piece-requires : goal.put_piece-requires
put_piece-requires c =
    let l = c.loop-r in
    let x = c.args.self.now in
    let f = x.plan.now in
    let low : l.r < records_in f 0 = omega (arith, end_read _ x.declared _ x.finds) in
    let e = room _ _ l.r _ x.placed low c.requires.1 in
    let long : length (bytes_of (pieces f l.r)) ≤ length c.args.out.now = omega (arith, e, bytes_length (pieces f l.r), pieces_length f l.r) in
    (low, c.requires.0, lent_room _ _ _ _ _ l.invariant.1 long (omega (arith, e)))

pub loop-r-preserved : goal.loop-r-preserved
loop-r-preserved c =
    let l = c.loop-r in
    let x = c.args.self.now in
    let low : l.r < records_in x.plan.now 0 = omega (arith, end_read _ x.declared _ x.finds) in
    (search rules, pieces_written _ _ _ _ _ _ (x.placed.each l.r (omega arith)) (omega (arith, room _ _ l.r _ x.placed low c.requires.1)) l.invariant.1 c.put_piece.ensures)

pub returns : goal.returns
returns c =
    let x = c.args.self.now in
    let end : c.loop-r.r ≡ records_in x.plan.now 0 = omega (arith, c.body0_end-r-end.ensures, end_read _ x.declared _ x.finds) in
    rw end at c.loop-r.invariant.1

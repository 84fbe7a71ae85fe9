-- `given::put_declaration` writes what a declaration gives.
use native.Mathlib.Omega.{arith}
use Rattle.files.specs.Inner.Given.{given_by}
use Rattle.files.proofs.Blocks.{same_size}
use Rattle.given.proofs.Over.{lent_room}
use Rattle.files.proofs.Given.{given_some}
use Rattle.given.proofs.Declarations.{gives_need, gives_mark, gives_both, one_written, two_written}
use Rattle.given.proofs.put_declaration.Goals as goal

pub put_given-requires : goal.put_given-requires
put_given-requires c = omega (arith, given_some c.args.x)

pub returns-then-x-eq-W : goal.returns-then-x-eq-W
returns-then-x-eq-W c =
    let w = one_written c.args.x _ _ _ (gives_mark _ c.requires.0 c.if-x-eq-W.true) c.put_given.ensures in
    record { size = w.0; bytes = w.1 }

pub put_given-requires-2 : goal.put_given-requires-2
put_given-requires-2 c = omega (arith, given_some c.args.x)

pub returns-then-x-eq-R : goal.returns-then-x-eq-R
returns-then-x-eq-R c =
    let w = one_written c.args.x _ _ _ (gives_need _ c.requires.0 c.if-x-eq-R.true) c.put_given-2.ensures in
    record { size = w.0; bytes = w.1 }

pub slice_bounds-put_given-start : goal.slice_bounds-put_given-start
slice_bounds-put_given-start c = omega (arith, given_some c.args.x)

pub slice_bounds-put_given-count : goal.slice_bounds-put_given-count
slice_bounds-put_given-count c = omega (arith, given_some c.args.x)

pub put_given-requires-3 : goal.put_given-requires-3
put_given-requires-3 c =
    let two = same_size (given_by c.args.x) _ (gives_both c.args.x c.requires.0 c.if-x-eq-R.false c.if-x-eq-W.false) in
    lent_room _ c.args.out.now _ 8 8 c.put_given-2.ensures (omega arith) (omega arith)

pub returns : goal.returns
returns c =
    let w = two_written c.args.x _ _ _ _ _ (omega (arith, given_some c.args.x)) (gives_both c.args.x c.requires.0 c.if-x-eq-R.false c.if-x-eq-W.false) c.put_given-2.ensures c.put_given-3.ensures in
    record { size = w.0; bytes = w.1 }

use mathlib.Core.Path.{◌≡◌, refl, sym}
use mathlib.Core.List.{List}
use Prim.Native.Nat.{ℕ, ◌+◌, ◌*◌, ◌≤◌, ◌<◌}
use native.Mathlib.Omega.{arith}
use Rattle.model.specs.Blocks.{size}
use Rattle.reading.specs.declared.Fields.{Fields}
use Rattle.reading.specs.Bytes.{fields_at}
use Rattle.files.specs.Inner.Given.{given_by, declared_from}
use Rattle.files.proofs.Blocks.{same_size}
use Rattle.given.proofs.Records.{block_bytes_length, bytes_none}
use Rattle.given.proofs.Over.{lent_room}
use Rattle.files.proofs.Given.{declared_none, declared_step, declared_within}
use Rattle.given.proofs.Declarations.{declared_written}
use Rattle.std.proofs.Common.{rules}
use Rattle.given.proofs.put_declarations.Goals as goal

-- what the next declaration gives is within what all of them give
room : (f : List ℕ) (from i count n k : ℕ) (x : Fields) → n ≡ size (declared_from f from i) → x ≡ fields_at f (from + i) → i < count → 8 * size (declared_from f from count) ≤ k → 8 * (n + size (given_by x)) ≤ k
room f from i count n k x a b l h = omega (arith, declared_step f from n i _ x a b refl, declared_within f from (i + 1) count (omega arith))

pub loop-i-init : goal.loop-i-init
loop-i-init c = (sym (same_size (declared_from _ _ 0) _ (declared_none _ _)), search rules, rw declared_none (bytes_none _))

pub overflow_mul-n : goal.overflow_mul-n
overflow_mul-n c =
    record { fits = omega (arith, room _ _ _ _ _ _ _ c.loop-i.invariant.0 c.record_at-x.ensures (omega arith) c.requires.2) }

pub slice_bounds-put_declaration-count : goal.slice_bounds-put_declaration-count
slice_bounds-put_declaration-count c = omega (arith, room _ _ _ _ _ _ _ c.loop-i.invariant.0 c.record_at-x.ensures (omega arith) c.requires.2)

pub put_declaration-n-requires : goal.put_declaration-n-requires
put_declaration-n-requires c =
    let e = c.record_at-x.ensures in
    (rw e (c.requires.0.sides c.loop-i.i (omega arith)), lent_room _ _ _ _ _ c.loop-i.invariant.2 (omega (arith, room _ _ _ _ _ _ _ c.loop-i.invariant.0 c.record_at-x.ensures (omega arith) c.requires.2, block_bytes_length (declared_from c.args.plan.now c.args.from c.loop-i.i))) (omega (arith, room _ _ _ _ _ _ _ c.loop-i.invariant.0 c.record_at-x.ensures (omega arith) c.requires.2)))

pub overflow_add-n : goal.overflow_add-n
overflow_add-n c =
    record { fits = omega (arith, room _ _ _ _ _ _ _ c.loop-i.invariant.0 c.record_at-x.ensures (omega arith) c.requires.2) }

pub loop-i-preserved : goal.loop-i-preserved
loop-i-preserved c =
    let l = c.loop-i in
    let e = c.record_at-x.ensures in
    let p = c.put_declaration-n.ensures in
    (declared_step _ _ _ _ _ _ l.invariant.0 e p.size, search rules, declared_written _ _ _ _ _ _ _ _ l.invariant.0 e (omega (arith, room _ _ _ _ _ _ _ l.invariant.0 e (omega arith) c.requires.2)) l.invariant.2 p.bytes)

pub slice_bounds-put_declaration-start : goal.slice_bounds-put_declaration-start
slice_bounds-put_declaration-start c = omega (arith, room _ _ _ _ _ _ _ c.loop-i.invariant.0 c.record_at-x.ensures (omega arith) c.requires.2)

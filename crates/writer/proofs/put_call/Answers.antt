-- `writer::put_call` writes what stands for a call: what the declarations give, and the other records byte for byte.
use mathlib.Core.List.{List}
use Prim.Native.Nat.{ℕ, ◌+◌, ◌*◌, ◌≤◌, ◌-◌}
use native.Mathlib.Omega.{arith}
use lib.ListN.{length}
use Rattle.files.specs.Inner.Given.{declared_from}
use Rattle.passes.specs.declared.Extent.{Extent}
use Rattle.passes.specs.Inner.Passes.{PassAt}
use Rattle.passes.proofs.Records.{declared_low, records_low, records_inside}
use Rattle.sizes.proofs.Passes.{called_at}
use Rattle.given.proofs.Records.{block_bytes_length}
use Rattle.given.proofs.Over.{lent_room}
use Rattle.writer.proofs.Over.{part_fits}
use Rattle.writer.proofs.Passes.{declarations_at, call_written}
use Rattle.writer.proofs.put_call.Goals as goal

-- where the pass of a call stands in the file
module _ (f : List ℕ) (e : Extent) (p : PassAt f e) where
  bounds : (e.declarations ≤ e.records) × (e.from + e.records ≤ 1024) × (e.bodies + 8 * (e.from + e.records) ≤ length f)
  bounds = (declared_low f e p, records_low f e p, (records_inside f e p).room)

pub put_declarations-made-requires : goal.put_declarations-made-requires
put_declarations-made-requires c =
    (declarations_at _ _ c.requires.0, record { place = c.requires.0.place; room = omega (arith, bounds _ _ c.requires.0) }, omega (arith, called_at _ _ c.requires.0))

pub overflow_mul-made : goal.overflow_mul-made
overflow_mul-made c = record { fits = omega (arith, called_at _ _ c.requires.0) }

pub overflow_add-first : goal.overflow_add-first
overflow_add-first c = record { fits = omega (arith, bounds _ _ c.requires.0) }

pub overflow_mul-first : goal.overflow_mul-first
overflow_mul-first c = record { fits = omega (arith, bounds _ _ c.requires.0) }

pub overflow_add-first-2 : goal.overflow_add-first-2
overflow_add-first-2 c = record { fits = omega (arith, bounds _ _ c.requires.0) }

pub overflow_add-last : goal.overflow_add-last
overflow_add-last c = record { fits = omega (arith, bounds _ _ c.requires.0) }

pub overflow_mul-last : goal.overflow_mul-last
overflow_mul-last c = record { fits = omega (arith, bounds _ _ c.requires.0) }

pub overflow_add-last-2 : goal.overflow_add-last-2
overflow_add-last-2 c = record { fits = omega (arith, bounds _ _ c.requires.0) }

pub slice_bounds-put_bytes-count : goal.slice_bounds-put_bytes-count
slice_bounds-put_bytes-count c = omega (arith, called_at _ _ c.requires.0)

pub slice_bounds-put_bytes-start : goal.slice_bounds-put_bytes-start
slice_bounds-put_bytes-start c = omega (arith, called_at _ _ c.requires.0)

pub slice_bounds-put_bytes-count-2 : goal.slice_bounds-put_bytes-count-2
slice_bounds-put_bytes-count-2 c = omega (arith, bounds _ _ c.requires.0)

pub slice_bounds-put_bytes-start-2 : goal.slice_bounds-put_bytes-start-2
slice_bounds-put_bytes-start-2 c = omega (arith, bounds _ _ c.requires.0)

pub slice_bounds-put_bytes-end-2 : goal.slice_bounds-put_bytes-end-2
slice_bounds-put_bytes-end-2 c = omega (arith, bounds _ _ c.requires.0)

pub put_bytes-requires : goal.put_bytes-requires
put_bytes-requires c =
    let e = c.args.e in
    let made = c.put_declarations-made in
    part_fits _ (e.bodies + 8 * (e.from + e.declarations)) c.args.plan.now _ (lent_room _ c.args.out.now _ (8 * made.result) (e.bodies + 8 * (e.from + e.records) - (e.bodies + 8 * (e.from + e.declarations))) made.ensures.bytes (omega (arith, called_at _ _ c.requires.0, block_bytes_length (declared_from c.args.plan.now e.from e.declarations))) (omega (arith, called_at _ _ c.requires.0)))

pub returns : goal.returns
returns c =
    let n = c.put_declarations-made.ensures in
    call_written _ _ c.requires.0 (λ i. omega (arith, c.type_inv.plan i)) _ _ _ _ n.size (omega (arith, called_at _ _ c.requires.0)) n.bytes c.put_bytes.ensures

use mathlib.Core.Path.{refl, sym, ap, ◌∙◌}
use Prim.Native.Nat.{◌+◌}
use native.Mathlib.Omega.{arith}
use Rattle.memories.proofs.Cells.{changed_same, same_twice}
use Rattle.steps.proofs.Begins.{reaches_start, all_zero, ready_found, ready_facts, ready_plain, ready_front, ready_arrays}
use Rattle.steps.proofs.run_to_end.Goals as goal

pub write_start-flags-requires : goal.write_start-flags-requires
write_start-flags-requires c =
    let a = c.requires in
    let n = ap (λ x. x.cells) (ready_found _ _ _ _ _ _ a) in
    (ready_arrays _ _ _ _ _ _ a _ refl, n, record { order = omega arith; inside = omega (arith, n, a.own_room) }, record { order = omega arith; inside = omega (arith, n, a.others_room) }, record { order = omega arith; inside = omega (arith, n, a.latest_room) })

pub slice_bounds-run_steps-end : goal.slice_bounds-run_steps-end
slice_bounds-run_steps-end c = sym c.put_starts.ensures.size

pub run_steps-requires : goal.run_steps-requires
run_steps-requires c =
    let a = c.requires in
    let e = ready_found _ _ _ _ _ _ a in
    let n = ap (λ x. x.cells) e in
    let w = c.write_start-flags.ensures in
    let r = c.put_starts.ensures in
    rw (c.first_machine-m.ensures, ap (λ x. x.records) e)
    (reaches_start _ _ (ready_facts _ _ _ _ _ _ a) a.plain _ n _ _ _ _ _ _ (omega (arith, a.own_room)) (omega (arith, a.others_room)) (omega (arith, a.latest_room)) w.host w.card w.latest
    _ (rw (ap (λ x. x.arrays) e) at w.flags) _ (ready_plain _ _ _ _ _ _ a _ refl) a.few _ r.size (ready_front _ _ _ _ _ _ a _ _ r) (λ d. r.behind (65 + d) (omega arith) ∙ all_zero 81 (65 + d)))

pub returns : goal.returns
returns c =
    let a = c.requires in
    let n = ap (λ x. x.cells) (ready_found _ _ _ _ _ _ a) in
    let w = c.write_start-flags.ensures in
    let r = c.run_steps.ensures in
    record { reaches = record { room = _; reaches = r.0 }; ended = r.1; host = same_twice (rw n at (changed_same w.host)) r.2; card = same_twice (rw n at (changed_same w.card)) r.3; latest = same_twice (rw n at (changed_same w.latest)) r.4 }

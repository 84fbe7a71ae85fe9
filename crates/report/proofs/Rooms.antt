-- The program's memories have room for every plan: 19 is never the answer.
use mathlib.Core.Path.{◌≡◌, sym}
use mathlib.Core.List.{List}
use Prim.Native.Nat.{ℕ, ◌≤◌}
use native.Mathlib.Omega.{arith}
use lib.ListN.{length}
use Rattle.model.specs.Verdicts.{Accepted}
use Rattle.model.specs.Sides.{cell_count}
use Rattle.reading.specs.Bytes.{layout_of}
use Rattle.format.specs.Opening.{opening}
use Rattle.format.proofs.Walking.{opened_facts}
use Rattle.run.specs.Running.{Lent, Roomy}

pub roomy : (f : List ℕ) (b : Lent) → 4096 ≤ length b.host → 4096 ≤ length b.card → 4096 ≤ length b.latest →
    opening f ≡ Accepted → Roomy (cell_count (layout_of f)) b
roomy f b on_host on_card on-latest e =
    let few : cell_count (layout_of f) ≤ 4096 = (opened_facts f (sym e)).bounds.cells_below in
    (omega arith, omega arith, omega arith)

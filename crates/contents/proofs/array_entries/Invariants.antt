use mathlib.Core.Path.{◌≡◌}
use mathlib.Core.Bool.{cond}
use Prim.Native.Nat.{◌≤◌}
use lib.Dec.{leb}
use lib.ListN.{length}
use Rattle.model.specs.Verdicts.{Accepted}
use Rattle.model.specs.Sides.{span_of}
use Rattle.model.specs.Rows.{answer_of, all_rows}
use Rattle.reading.specs.Bytes.{table, layout_of}
use Rattle.contents.specs.Contents.{array_rows}
use Rattle.contents.proofs.array_entries.Given as goal

abbrev pub invariant-loop-a : goal.invariant-loop-a
invariant-loop-a l =
    (l.cells ≡ (span_of (layout_of l.plan) l.a).first)
    × (l.cells ≤ 4096)
    × (Accepted ≡ answer_of (all_rows l.a (array_rows l.plan)))
    × (length l.starts ≡ 33)
    × (l.starts ≡ table (λ k. cond (leb k l.a) (span_of (layout_of l.plan) k).first 0) 33)

use mathlib.Core.Path.{◌≡◌}
use mathlib.Core.Bool.{cond}
use Prim.Native.Nat.{◌≤◌}
use lib.Dec.{ltb, leb}
use lib.ListN.{length}
use Rattle.model.specs.Verdicts.{Accepted}
use Rattle.model.specs.Rows.{answer_of, all_rows}
use Rattle.reading.specs.Bytes.{table, declarations_in, first_record}
use Rattle.contents.specs.Contents.{entry_rows}
use Rattle.contents.proofs.body_entries.Given as goal

abbrev pub invariant-loop-b : goal.invariant-loop-b
invariant-loop-b l =
    (l.records ≡ first_record l.plan l.b)
    × (l.records ≤ 1024)
    × (Accepted ≡ answer_of (all_rows l.b (entry_rows l.plan)))
    × (length l.starts ≡ 33)
    × (length l.declarations ≡ 32)
    × (l.starts ≡ table (λ k. cond (leb k l.b) (first_record l.plan k) 0) 33)
    × (l.declarations ≡ table (λ k. cond (ltb k l.b) (declarations_in l.plan k) 0) 32)

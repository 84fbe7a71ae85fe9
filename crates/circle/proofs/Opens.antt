-- The expansion's file opens, as a plain plan, and as the expansion.
use mathlib.Core.Path.{◌≡◌, sym, ◌∙◌}
use mathlib.Core.Bool.{true}
use mathlib.Core.List.{List}
use Prim.Native.Nat.{ℕ, ◌≤◌}
use Rattle.model.specs.Verdicts.{Accepted}
use Rattle.model.specs.Blocks.{size, largest}
use Rattle.model.specs.Expanding.{expand}
use Rattle.reading.specs.Bytes.{is_plain}
use Rattle.format.specs.Opening.{opening}
use Rattle.format.specs.Plans.{plan_of, declared_plan_of}
use Rattle.files.specs.Bounds.{numbered_plan}
use Rattle.files.proofs.RoundTrip.{plain_is_plain}
use Rattle.judge.specs.Judged.{judged}
use Rattle.files.specs.Expansions.{expansion_of, expansion_file}
use Rattle.expand.proofs.Laws.Answers.{accepted_file}
use Rattle.circle.proofs.Levels.{numbered_again}
use Rattle.circle.proofs.Fits.{expansion_read}

-- the expansion is numbered as its file numbers it
numbered_so : (f : List ℕ) → numbered_plan (expansion_of f) ≡ expansion_of f
numbered_so f = rw (numbered_again 0 0 (expand (declared_plan_of f).passes (declared_plan_of f).body0))

pub expansion_opens : (f : List ℕ) → judged f ≡ Accepted → size (expansion_of f).body ≤ 1024 → largest (expansion_of f).body ≤ 4096
    → (opening (expansion_file f) ≡ Accepted) × (is_plain (expansion_file f) ≡ true) × (plan_of (expansion_file f) ≡ expansion_of f)
expansion_opens f e few low =
    let file = accepted_file f (sym e) in
    let trip = expansion_read f (sym file.opened) file.declared few low in
    (trip.0, plain_is_plain (expansion_of f), trip.1 ∙ numbered_so f)

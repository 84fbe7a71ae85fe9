-- What is proved of these definitions: each theorem that a reader relies on, by name, with the place of its proof.
use Rattle.std.specs.Prelude.{ℕ, suc, ◌+◌, ◌-◌, ◌*◌, ◌/◌, ◌≤◌, ◌<◌, ◌≡◌, ◌↔◌, Bool, true, false, List}
use Rattle.model.specs.Verdicts.{Verdict, Accepted}
use Rattle.model.specs.Lists.{any}
use Rattle.model.specs.Sides.{Side, host, at, Layout, cell_count, span_of, in_span, has_scratch}
use Rattle.model.specs.Records.{read, whole, Action, distance, covers, cover_count}
use Rattle.model.specs.Blocks.{Block, Plan}
use Rattle.model.specs.Runs.{Config, Ending, finished, stopped, proper, carried_on, Run, Ends, tally}
use Rattle.model.specs.Check.{Answers}
use Rattle.model.specs.Judging.{DeclaredPlan, Way, Itself, writes_cell, always_writes, Accepts}
use Rattle.model.specs.Expanding.{expansion}
use Rattle.model.specs.Demand.{latest_write, events_of, interval, MovesOnce, ExactMoves, Demand3}
use Rattle.model.specs.Cases.{twelve, AllAnswer, StopsFirstAt2, nearly, fixed_counts, MetInside, steps, MetTogether, unfilled}

-- CLAIM (proofs/Numbering, `one_array`): "Cells are numbered from 0 through all arrays in order": each cell is in one array, and in one
-- only
abbrev pub ClaimCells : Type 0
ClaimCells = (layout : Layout) (c : ℕ) → c < cell_count layout →
    (a : ℕ) × (in_span (span_of layout a) c ≡ true) × ((b : ℕ) → in_span (span_of layout b) c ≡ true → b ≡ a)

-- CLAIM (proofs/Numbering, `these_cells`): "cells P to Q − 1 of the array, P < Q ≤ its length", with a step "P, P + k and so on below
-- Q": a record that names cells covers these and no others, and so many
abbrev pub ClaimCovers : Type 0
ClaimCovers = (layout : Layout) (x : Action) →
    let these = span_of layout x.name in
    let k = distance x.step in
    whole x.verb ≡ false → x.q ≤ these.length →
    (cover_count layout x ≡ (x.q - x.p + (k - 1)) / k)
    × ((c : ℕ) → (covers layout x c ≡ true) ↔ ((i : ℕ) × (c ≡ these.first + x.p + i * k) × (c < these.first + x.q)))

-- CLAIM (proofs/Stamps, `latest_tracked`): in every carried-on run a cell's latest stamp is that of its latest write
abbrev pub ClaimLatest : Type 0
ClaimLatest = (plan : Plan) (cs : List Bool) (k : Config) → Run carried_on plan cs k →
    (c : ℕ) → (k.state.cell c).latest ≡ latest_write plan.layout k.history c

-- CLAIM (proofs/Stamps, `fresh`): and no copy has the stamp of the next write
abbrev pub ClaimFresh : Type 0
ClaimFresh = (plan : Plan) (cs : List Bool) (k : Config) → Run carried_on plan cs k →
    (s : Side) (c : ℕ) → (k.state.cell c).held s ≡ at (suc k.state.writes) → ⊥

-- CLAIM (proofs/Runs, `proper_carried`): what a run comes to, the carried-on run comes to
abbrev pub ClaimCarried : Type 0
ClaimCarried = (plan : Plan) (cs : List Bool) (k : Config) → Run proper plan cs k → Run carried_on plan cs k

-- CLAIM (proofs/Endings, `ends_in_one_way`): every run ends, in one way
abbrev pub ClaimEnding : Type 0
ClaimEnding = (plan : Plan) (cs : List Bool) →
    (k : Config) × (e : Ending) × Ends plan cs k e × ((j : Config) (d : Ending) → Ends plan cs j d → (j ≡ k) × (d ≡ e))

-- CLAIM (proofs/Check, `one_answer`): a plan has at most one answer of the check (that it has one is the promise of `check`)
abbrev pub ClaimAnswer : Type 0
ClaimAnswer = (plan : Plan) (v w : Verdict) → Answers plan v → Answers plan w → v ≡ w

-- CLAIM (proofs/Stuck, `accepted_iff`): a plan is accepted exactly if no run of it gets stuck
abbrev pub ClaimAccepted : Type 0
ClaimAccepted = (plan : Plan) → Answers plan Accepted ↔ ((cs : List Bool) (k : Config) (r c : ℕ) → Ends plan cs k (stopped r c) → ⊥)

-- CLAIM (proofs/Cases, `cases`): the twelve cases have these answers, case 10 has its run proper, the plan of 'Checkers that would nearly
-- do' is accepted, the cases of fixed loops, of steps and of scratch have these answers, and a W is met inside a fixed loop and by steps
-- together
abbrev pub ClaimCases : Type 0
ClaimCases =
    AllAnswer twelve × StopsFirstAt2 × AllAnswer nearly × AllAnswer fixed_counts × MetInside × AllAnswer steps × MetTogether × AllAnswer unfilled

-- CLAIM (proofs/Written, `always_written`): the test of a W is exact: it passes exactly if every way through the block writes the cell
abbrev pub ClaimWritten : Type 0
ClaimWritten = (layout : Layout) (s : Side) (c : ℕ) (b : Block Action) →
    (always_writes layout s c b ≡ true)
    ↔ ((cs ds : List Bool) (w : List Action) → Way Itself b cs ds w → any (writes_cell layout s c) w ≡ true)

-- CLAIM (proofs/Demand3, `demand3`): demand 3 holds of every accepted declared plan and every list of choices
abbrev pub Claim3 : Type 0
Claim3 = (plan : DeclaredPlan) → Accepts plan → (cs : List Bool) → Demand3 plan cs

-- CLAIM (proofs/Demand3, `filled`): of a plan without scratch demand 3 says, clause by clause, what it said before there was scratch: no
-- record gets stuck, every read that a run comes to gets the stamp of the latest write, at each moment each cell is current on some side,
-- and the first interval of every array begins at the start, on the host
abbrev pub ClaimFilled : Type 0
ClaimFilled = (plan : DeclaredPlan) → Accepts plan → has_scratch plan.layout ≡ false → (cs : List Bool) →
    ((k : Config) (r c : ℕ) → Ends (expansion plan) cs k (stopped r c) → ⊥)
    × ((k : Config) → Run proper (expansion plan) cs k →
    (r : ℕ) (x : Action) (b : Block Action) → k.left ≡ Block.act r x b → x.verb ≡ read →
    (c : ℕ) → c < cell_count plan.layout → covers plan.layout x c ≡ true →
    (k.state.cell c).held x.side ≡ at (latest_write plan.layout k.history c))
    × ((k : Config) → Run proper (expansion plan) cs k → (c : ℕ) → c < cell_count plan.layout →
    (s : Side) × ((k.state.cell c).held s ≡ at (latest_write plan.layout k.history c)))
    × ((k : Config) → Ends (expansion plan) cs k finished →
    (m : ExactMoves plan cs k) × ((a : ℕ) → MovesOnce a host (interval a m.made)))

-- CLAIM (proofs/Demand3, `moves_add`): the cells moved by a finished run are those of the needs of its declarations
abbrev pub ClaimMoved : Type 0
ClaimMoved = (plan : DeclaredPlan) → Accepts plan → (cs : List Bool) (k : Config) → Ends (expansion plan) cs k finished →
    (m : ExactMoves plan cs k) × ((tally plan.layout k.history).moved ≡ (tally plan.layout (events_of m.made)).moved)

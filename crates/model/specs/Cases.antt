-- The twelve cases (document 01, 'Twelve cases, one array of one cell unless said'), in one table, the plan of 'Checkers that would nearly
-- do', and cases of fixed loops, of steps and of scratch (document 02, requests a, c and f).
use Rattle.std.specs.Prelude.{ℕ, Bool, true, false, List, [], ◌∷◌}
use Rattle.model.specs.Verdicts.{Verdict, Accepted, stopped_at}
use Rattle.model.specs.Lists.{All}
use Rattle.model.specs.Sides.{Side, host, card, Layout}
use Rattle.model.specs.Records.{Verb, read, write, copy, need, mark, Action}
use Rattle.model.specs.Blocks.{Block, done, branch, loop, fixed, numbered, ◌⨾◌, Plan}
use Rattle.model.specs.Runs.{Config, stopped, Ends}
use Rattle.model.specs.Check.{Answers}
use Rattle.model.specs.Judging.{W, Pass, Rules}

-- a row: a plan and the check's answer
pub record Case : Type 0 where
  pub plan : Plan
  pub answer : Verdict

-- one array of n cells
abbrev pub single : ℕ → Layout
single n = record { lengths = n ∷ []; scratch = false ∷ [] }

-- a row of it; the records of its body are numbered from 0
abbrev pub case : ℕ → Block Action → Verdict → Case
case n b v = record { plan = record { layout = single n; body = numbered 0 b }; answer = v }

-- a record of array 0 with a step, P and Q
abbrev pub every : ℕ → ℕ → ℕ → Verb → Side → Action
every step p q v s = record { verb = v; side = s; name = 0; step = step; p = p; q = q }

-- one of cell 0, and one of cells 0 and 1
infix 70 ◌on◌ ◌on_both◌
abbrev pub ◌on◌ : Verb → Side → Action
v on s = every 0 0 1 v s

abbrev pub ◌on_both◌ : Verb → Side → Action
v on_both s = every 0 0 2 v s

-- "10 loop (read host, read card, write card): a run proper that takes a turn stops first at 2, the answer is 1."
abbrev pub case10 : Case
case10 = case 1 (loop 0 (read on host ⨾ read on card ⨾ write on card ⨾ done) done) (stopped_at 1 0)

-- "These twelve stand in one proved table"
abbrev pub twelve : List Case
twelve =
    -- "1 empty body: accepted."
    case 1 done Accepted
    -- "2 read host: accepted."
    ∷ case 1 (read on host ⨾ done) Accepted
    -- "3 read card: stop 0."
    ∷ case 1 (read on card ⨾ done) (stopped_at 0 0)
    -- "4 copy to card, read card: accepted."
    ∷ case 1 (copy on card ⨾ read on card ⨾ done) Accepted
    -- "5 write card, read host: stop 1."
    ∷ case 1 (write on card ⨾ read on host ⨾ done) (stopped_at 1 0)
    -- "6 copy to host: stop 0."
    ∷ case 1 (copy on host ⨾ done) (stopped_at 0 0)
    -- "7 branch (copy to card; nothing), read card: stop 2."
    ∷ case 1 (branch 0 (copy on card ⨾ done) done (read on card ⨾ done)) (stopped_at 2 0)
    -- "8 loop (read host, write card): stop 1."
    ∷ case 1 (loop 0 (read on host ⨾ write on card ⨾ done) done) (stopped_at 1 0)
    -- "9 two cells: write card cell 0, read host both: record 1, cell 0."
    ∷ case 2 (write on card ⨾ read on_both host ⨾ done) (stopped_at 1 0)
    -- 10, as above
    ∷ case10
    -- "11 need card, write host, need card, read card: stop 3."
    ∷ case 1 (need on card ⨾ write on host ⨾ need on card ⨾ read on card ⨾ done) (stopped_at 3 0)
    -- "12 mark card, need host: stop 1."
    ∷ case 1 (mark on card ⨾ need on host ⨾ done) (stopped_at 1 0)
    ∷ []

-- of case 10: "a run proper that takes a turn stops first at 2"
abbrev pub StopsFirstAt2 : Type 0
StopsFirstAt2 = (cs : List Bool) → (k : Config) × Ends case10.plan (true ∷ cs) k (stopped 2 0)

-- 'Checkers that would nearly do': "copy to card, write host, need card, read card is accepted."
abbrev pub nearly : List Case
nearly = case 1 (copy on card ⨾ write on host ⨾ need on card ⨾ read on card ⨾ done) Accepted ∷ []

-- "The verdict covers the fixed counts exactly and free loops as before."
abbrev pub fixed_counts : List Case
fixed_counts =
    -- a fixed loop of two turns (read host, write card): stop 1, though the first turn does not stop
    case 1 (fixed 0 1 (read on host ⨾ write on card ⨾ done) done) (stopped_at 1 0)
    -- the same of one turn: accepted
    ∷ case 1 (fixed 0 0 (read on host ⨾ write on card ⨾ done) done) Accepted
    -- a fixed loop of one turn (copy to card), read card: accepted
    ∷ case 1 (fixed 0 0 (copy on card ⨾ done) (read on card ⨾ done)) Accepted
    -- the same with a free loop, which may take no turn: stop 2
    ∷ case 1 (loop 0 (copy on card ⨾ done) (read on card ⨾ done)) (stopped_at 2 0)
    ∷ []

-- a pass that declares W of the array on the card
abbrev pub filling : Block Action → Pass
filling b = record { declarations = record { mode = W; side = card; array = 0 } ∷ []; body = b }

-- "A write inside it meets a W like one outside.": a fixed loop of two turns (write card) keeps the judge's rules, a free one, which may take
-- no turn, does not
abbrev pub MetInside : Type 0
MetInside =
    Rules (single 1) (filling (fixed 0 1 (write on card ⨾ done) done))
    × (Rules (single 1) (filling (loop 0 (write on card ⨾ done) done)) → ⊥)

-- "0 and 1 mean each cell, k means P, P + k and so on below Q.", of four cells
abbrev pub steps : List Case
steps =
    -- write card every 2nd cell from 0, read host every 2nd from 1: accepted
    case 4 (every 2 0 4 write card ⨾ every 2 1 4 read host ⨾ done) Accepted
    -- the same with a step of 1, and of 0, in the read: record 1, cell 2
    ∷ case 4 (every 2 0 4 write card ⨾ every 1 1 4 read host ⨾ done) (stopped_at 1 2)
    ∷ case 4 (every 2 0 4 write card ⨾ every 0 1 4 read host ⨾ done) (stopped_at 1 2)
    -- write card every 3rd cell from 0 below 3, which is cell 0, read host cells 1 to 3: accepted
    ∷ case 4 (every 3 0 3 write card ⨾ every 0 1 4 read host ⨾ done) Accepted
    ∷ []

-- two writes of every 2nd cell meet a W together, one of them does not
abbrev pub MetTogether : Type 0
MetTogether =
    Rules (single 4) (filling (every 2 0 4 write card ⨾ every 2 1 4 write card ⨾ done))
    × (Rules (single 4) (filling (every 2 0 4 write card ⨾ done)) → ⊥)

-- a row of one array of one cell that is scratch
abbrev pub scratch_case : Block Action → Verdict → Case
scratch_case b v = record { plan = record { layout = record { lengths = 1 ∷ []; scratch = true ∷ [] }; body = numbered 0 b }; answer = v }

-- "Grids nobody has filled"
abbrev pub unfilled : List Case
unfilled =
    -- "both copies hold" never
    scratch_case (read on host ⨾ done) (stopped_at 0 0)
    ∷ scratch_case (copy on card ⨾ done) (stopped_at 0 0)
    -- "its flags are clear": a need copies, from the other side
    ∷ scratch_case (need on host ⨾ done) (stopped_at 0 0)
    ∷ scratch_case (write on host ⨾ need on host ⨾ done) (stopped_at 1 0)
    ∷ scratch_case (write on host ⨾ need on card ⨾ read on card ⨾ done) Accepted
    -- written and marked it is like any other array
    ∷ scratch_case (mark on card ⨾ write on card ⨾ need on host ⨾ read on host ⨾ read on card ⨾ done) Accepted
    ∷ []

-- every row's answer is the check's
abbrev pub AllAnswer : List Case → Type 0
AllAnswer rows = All (λ (row : Case). Answers row.plan row.answer) rows

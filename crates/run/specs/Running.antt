-- The run of a plan file (document 01, 'Running and viewing' and 'Numbers by the place where each is checked').
use Rattle.std.specs.Prelude.{ℕ, ◌-◌, ◌≤◌, ◌≡◌, Bool, not, ◌||◌, List, [], ◌∷◌, ◌++◌, ltb, length, drop, Result, Ok, Err}
use Rattle.model.specs.declared.Fault.{Fault}
use Rattle.model.specs.Verdicts.{Verdict, Accepted}
use Rattle.model.specs.declared.Tally.{Tally}
use Rattle.model.specs.Lists.{how_many}
use Rattle.model.specs.Sides.{host, card, Layout, cell_count}
use Rattle.model.specs.Runs.{Config, Ending, finished, stopped, out_of_choices, Ends, tally}
use Rattle.model.specs.Rows.{Row, row, answer_of}
use Rattle.reading.specs.Bytes.{is_plain, table, layout_of}
use Rattle.format.specs.Opening.{open_rows}
use Rattle.format.specs.Plans.{plan_of}
use Rattle.memories.specs.Memories.{number_of}
use Rattle.memories.specs.Flags.{mask}
use Rattle.standing.specs.Choices.{choices_of}
use Rattle.model.specs.declared.End.{End}

-- "The run is lent host, card and latest memories, a tally": what they hold before it or after it
pub record Lent : Type 0 where
  pub host : List ℕ
  pub card : List ℕ
  pub latest : List ℕ
  pub tally : Tally

-- from its four parts
abbrev pub lent : List ℕ → List ℕ → List ℕ → Tally → Lent
lent h c l t = record { host = h; card = c; latest = l; tally = t }

-- each memory has room for n cells
abbrev pub Roomy : ℕ → Lent → Type 0
Roomy n memories = (n ≤ length memories.host) × (n ≤ length memories.card) × (n ≤ length memories.latest)

-- the numbers of opening, "11 .. check or run without kind 2", "19 a memory shorter than the cells; 20 over 65,536 choices"
unfoldable pub run_rows : List ℕ → List ℕ → Lent → List Row
run_rows f choices before =
    let n = cell_count (layout_of f) in
    open_rows f ++ (row (not (is_plain f)) 11 0
    ∷ row (ltb (length before.host) n || ltb (length before.card) n || ltb (length before.latest) n) 19 0
    ∷ row (ltb 65536 (length choices)) 20 0 ∷ [])

-- a memory whose first n cells are as `held` says: "Cells past the plan's are untouched."
unfoldable pub memory : ℕ → (ℕ → ℕ) → List ℕ → List ℕ
memory n held before = table held n ++ drop n before

-- "memories and tally hold the state" of a configuration of the run
abbrev pub holding : Layout → Config → Lent → Lent
holding layout k before =
    let n = cell_count layout in
    record {
      host = memory n (λ c. number_of ((k.state.cell c).held host)) before.host;
      card = memory n (λ c. number_of ((k.state.cell c).held card)) before.card;
      latest = memory n (λ c. (k.state.cell c).latest) before.latest;
      tally = tally layout k.history;
    }

-- "21 stopped (record and lowest unmet cell); 22 choices spent (record)"; "The end answers done, with the choices used, both sets of flags
-- and the number of arrays current on each side by their flags."
abbrev pub end_of : Layout → List Bool → Config → Ending → Result End Fault
end_of layout cs k finished =
    let n = length layout.lengths in
    Ok (record {
      used = length cs - length k.choices;
      host_flags = mask n (λ a. (k.state.flags a).flag host);
      card_flags = mask n (λ a. (k.state.flags a).flag card);
      on_host = how_many (λ a. (k.state.flags a).flag host) n;
      on_card = how_many (λ a. (k.state.flags a).flag card) n;
    })
end_of layout cs k (stopped r c) = Err (Fault.Stopped (record { 0 = r }) (record { 0 = c }))
end_of layout cs k (out_of_choices r) = Err (Fault.Refused 22 r)

-- an answer without the figures of a run that is done
abbrev pub verdict_of : Result End Fault → Verdict
verdict_of (Ok end) = Accepted
verdict_of (Err e) = Err e

-- the run ends at a configuration in one way (model, `Endings`): "At 21 and 22 memories and tally hold the state just before the named
-- record, at done the run's last state"
pub record Ran (f choices : List ℕ) (before after : Lent) (answer : Result End Fault) : Type 0 where
  pub config : Config
  pub ending : Ending
  pub ends : Ends (plan_of f) (choices_of choices) config ending
  pub holds : after ≡ holding (layout_of f) config before
  pub answers : answer ≡ end_of (layout_of f) (choices_of choices) config ending

-- a run where no number before it holds, or the first that does, at which nothing has changed
abbrev pub RunsWhere : Verdict → List ℕ → List ℕ → Lent → Lent → Result End Fault → Type 0
RunsWhere (Ok _) f choices before after answer = Ran f choices before after answer
RunsWhere (Err e) f choices before after answer = (after ≡ before) × (answer ≡ Err e)

-- the promise of the run: what is left in the memories and the tally, and the answer; "Numbers 1 to 17, 19 and 20 change no buffer"
unfoldable pub Runs : List ℕ → List ℕ → Lent → Lent → Result End Fault → Type 0
Runs f choices before after answer = RunsWhere (answer_of (run_rows f choices before)) f choices before after answer

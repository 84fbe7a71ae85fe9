-- After the run: the memories hold its last configuration, and the answer is that of its ending.
use mathlib.Core.Path.{◌≡◌, refl, sym, ap, ◌∙◌}
use mathlib.Core.Bool.{true≢false}
use mathlib.Core.List.{List, ◌++◌}
use Prim.Native.Nat.{ℕ, ◌+◌, ◌-◌, ◌≤◌, ◌<◌}
use native.Mathlib.Decide.{dec_lt}
use native.Mathlib.Omega.{arith}
use lib.ListN.{length, get_or, drop, length-append, length-drop, length-map, get_or-append}
use lib.Seq.{get_or-append-add, get_or-drop, ext_get_or}
use Rattle.std.specs.Option.{unwrap_or}
use Rattle.std.specs.Prelude.{Option, None, Some, IsSome, Result, Ok, Err, IsOkAnd, MatchResult}
use Rattle.model.specs.declared.Fault.{Fault}
use Rattle.model.specs.Verdicts.{Verdict, Accepted, where_accepted}
use Rattle.model.proofs.Verdicts.{where_accepts, where_faulty}
use Rattle.contents.specs.declared.Opened.{Opened}
use Rattle.contents.specs.Found.{found}
use Rattle.model.specs.declared.Tally.{Tally}
use Rattle.model.specs.Sides.{host, card, Layout, cell_count}
use Rattle.model.specs.Runs.{Config, finished, stopped, out_of_choices, Ending, step, Step, proper}
use Rattle.model.specs.Rows.{answer_of}
use Rattle.reading.specs.Bytes.{table, layout_of, lengths_of}
use Rattle.format.specs.Plans.{plan_of}
use Rattle.reading.proofs.Tables.{length_table, getD_table, arrays_counted}
use Rattle.format.proofs.Walking.{opened_facts}
use Rattle.memories.proofs.Masks.{mask_fits}
use Rattle.model.specs.declared.End.{End}
use Rattle.run.specs.Running.{Lent, lent, run_rows, memory, holding, end_of, verdict_of, Ran, Runs}
use Rattle.standing.specs.Choices.{choices_of}
use Rattle.memories.specs.Memories.{number_of}
use Rattle.memories.specs.Inner.Ranges.{Same}
use Rattle.standing.specs.Inner.Standing.{Runner, said_of, Stands, Ended, Reaches}
use Rattle.run.specs.Inner.Ending.{end_with}

-- a memory whose first n cells are as `held` says and whose others are as they were
module _ (n : ℕ) (held : ℕ → ℕ) (before after : List ℕ) (room : n ≤ length before) (same : Same n before after) (here : (c : ℕ) → c < n → get_or after c 0 ≡ held c) where
  size : length after ≡ length (table held n ++ drop n before)
  size = same.size ∙ sym (simp (length-append, length_table held n, length-drop) (omega arith))

  entry : (c : ℕ) → get_or after c 0 ≡ get_or (table held n ++ drop n before) c 0
  entry c = elim (dec_lt c n) [
    | yes h ↦ here c h ∙ sym (get_or-append (table held n) (drop n before) 0 c (rw (length_table held n) h) ∙ getD_table held n c 0 h)
    | no h ↦
        let i : length (table held n) + (c - n) ≡ c = omega (arith, length_table held n) in
        let j : n + (c - n) ≡ c = omega arith in
        same.cell c (omega arith) ∙ sym (rw i at (get_or-append-add (table held n) (drop n before) (c - n) 0) ∙ rw j at (get_or-drop n before (c - n) 0))
  ]

  memory_is : after ≡ memory n held before
  unfolding memory
  memory_is = ext_get_or 0 after (table held n ++ drop n before) size (λ c h. entry c)

-- a run that has ended, from memories h, c and l and a tally t
module _ (f choices : List ℕ) (m : Runner) (own others latest : List ℕ) (u : Tally) (w : Reaches f choices m own others latest u) (over : IsSome m.verdict)
    (h c l : List ℕ) (t : Tally) (sh : Same (cell_count (layout_of f)) h own) (sc : Same (cell_count (layout_of f)) c others) (sl : Same (cell_count (layout_of f)) l latest)
    (answer : Result End Fault) (q : answer ≡ end_with (length (lengths_of f)) (λ a. (w.config.state.flags a).flag host) (λ a. (w.config.state.flags a).flag card) m.place.used (unwrap_or m.verdict Accepted)) where
  abbrev k : Config
  k = w.config

  abbrev layout : Layout
  layout = layout_of f

  last_lent : lent own others latest u ≡ holding layout k (lent h c l t)
  last_lent =
      let a = memory_is (cell_count layout) (λ i. number_of ((k.state.cell i).held host)) h own (omega (arith, w.stands.holds.own_room, sh.size)) sh w.stands.holds.own_held in
      let b = memory_is (cell_count layout) (λ i. number_of ((k.state.cell i).held card)) c others (omega (arith, w.stands.holds.others_room, sc.size)) sc w.stands.holds.others_held in
      let d = memory_is (cell_count layout) (λ c. (k.state.cell c).latest) l latest (omega (arith, w.stands.holds.latest_room, sl.size)) sl w.stands.holds.latest_held in
      λ i. record { host = a i; card = b i; latest = d i; tally = record { reads = w.stands.holds.reads i; writes = w.stands.holds.writes i; moved = w.stands.holds.moved i } }

  used_is : m.place.used ≡ length (choices_of choices) - length k.choices
  used_is = rw (w.stands.choices_left, length-map, length-map, length-drop) (omega (arith, w.stands.used))

  ran_as : (e : Ending) → step proper layout k ≡ Step.ends e → answer ≡ end_of layout (choices_of choices) k e → Ran f choices (lent h c l t) (lent own others latest u) answer
  unfolding plan_of
  ran_as e s a = record { config = k; ending = e; ends = record { run = w.run; last = s }; holds = last_lent; answers = a }

  -- what is answered at a verdict
  abbrev said : Verdict → Result End Fault
  said = end_with (length layout.lengths) (λ a. (k.state.flags a).flag host) (λ a. (k.state.flags a).flag card) m.place.used

  ran_at : (e : Ending) → step proper layout k ≡ Step.ends e → answer ≡ said (said_of e) → Ran f choices (lent h c l t) (lent own others latest u) answer
  ran_at finished s a = ran_as finished s (a ∙ ap (λ n. end_with (length layout.lengths) (λ a. (k.state.flags a).flag host) (λ a. (k.state.flags a).flag card) n Accepted) used_is)
  ran_at (stopped r d) s a = ran_as (stopped r d) s a
  ran_at (out_of_choices r) s a = ran_as (out_of_choices r) s a

  pub ran : Ran f choices (lent h c l t) (lent own others latest u) answer
  ran = go m.verdict over w.ended q
    where
      go : (o : Option Verdict) → IsSome o → Ended f k o → answer ≡ said (unwrap_or o Accepted) → Ran f choices (lent h c l t) (lent own others latest u) answer
      go None some ended a = absurd (true≢false (sym some))
      go (Some v) some ended a = ran_at ended.ending ended.last (a ∙ ap said ended.says)

-- where it stands its flags fit masks of 32 bits: a plan has no more arrays
pub flags_fit : {f choices own others latest : List ℕ} {m : Runner} {t : Tally} {k : Config} → Stands f choices m own others latest t k → (m.host_flags < 4294967296) × (m.card_flags < 4294967296)
flags_fit {f = f} w =
    let n : length (lengths_of f) ≤ 32 = rw (arrays_counted f) (opened_facts f w.plain.opens).bounds.header.arrays.1 in
    (rw w.holds.own_flags (mask_fits _ _ n), rw w.holds.others_flags (mask_fits _ _ n))

-- a refusal before the run, or none
module _ (f choices : List ℕ) (b : Lent) where
  pub runs_refused : (e : Fault) → Err e ≡ where_accepted (answer_of (run_rows f choices b)) (found f) → (answer : Result End Fault) → answer ≡ Err e → Runs f choices b b answer
  unfolding Runs
  runs_refused e h answer a = rw (← where_faulty _ _ _ h) (refl, a)

  pub runs_ran : (o : Opened) → Ok o ≡ where_accepted (answer_of (run_rows f choices b)) (found f) → (after : Lent) (answer : Result End Fault) → Ran f choices b after answer → Runs f choices b after answer
  unfolding Runs
  runs_ran o e after answer r = rw (← (where_accepts _ _ _ e).0) r

-- what `map` gives where it drops the figures of an answer
pub verdict_mapped : (answer : Result End Fault) (v : Verdict) (P : End → Unit → Type 0) → MatchResult answer (λ x. IsOkAnd v (P x)) (λ e. v ≡ Err e) → v ≡ verdict_of answer
verdict_mapped (Ok x) (Ok u) P h = refl
verdict_mapped (Ok x) (Err e) P h = absurd h
verdict_mapped (Err e) v P h = h

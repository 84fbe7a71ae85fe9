-- One step of the machine is one step of the definition of a run: a record, a branch, a test of a loop, a turn of a fixed loop, or the end.
use mathlib.Core.Path.{◌≡◌, refl, sym, ap, ◌∙◌}
use mathlib.Core.Bool.{Bool, true, false, cond, not}
use mathlib.Core.List.{List, [], ◌∷◌}
use mathlib.Core.Option.{none, some}
use Prim.Native.Nat.{ℕ, suc, ◌+◌, ◌-◌, ◌*◌, ◌≤◌, ◌<◌}
use native.Mathlib.Numerals.{add-one}
use native.Mathlib.Omega.{arith}
use lib.Dec.{eqb}
use lib.ListN.{length, get_or, drop}
use lib.Seq.{drop-cons, drop-length}
use borrow.Author.Tests.{eqb-true, eqb-false}
use Rattle.model.specs.declared.Cell.{Cell}
use Rattle.model.specs.Verdicts.{Verdict, Accepted, Stopped, Refused}
use Rattle.model.specs.Sides.{Layout, span_of, host}
use Rattle.model.specs.Effects.{State, effect}
use Rattle.model.specs.Records.{Action, distance}
use Rattle.model.specs.Blocks.{Block}
use Rattle.model.specs.declared.Tally.{Tally}
use Rattle.model.specs.Runs.{Event, Config, Ending, finished, stopped, out_of_choices, Step, step, lowest_unmet, onward, tally, proper}
use Rattle.model.proofs.Runs.{config, event}
use Rattle.reading.specs.declared.Fields.{Fields}
use Rattle.reading.specs.Bytes.{layout_of, record_count, fields_at}
use Rattle.format.specs.Plans.{action_of, plan_of}
use Rattle.format.specs.Inner.Walks.{Starts}
use Rattle.format.proofs.Walking.{opened_facts}
use Rattle.acts.specs.declared.Stored.{Stored}
use Rattle.std.specs.Prelude.{None, Some, Ok, Err}
use Rattle.standing.specs.Choices.{choices_of}
use Rattle.memories.specs.Inner.Ranges.{Same}
use Rattle.acts.specs.Inner.Acting.{Acted, Holds, Acts}
use Rattle.places.specs.Inner.Places.{Spot, settled, chosen, turned, left_of, weight, Placed}
use Rattle.standing.specs.Inner.Standing.{Runner, stored_with, past_record, ended_with, moved_to, after_act, tally_after, tested, turn_begun, led, heavy, measure, next_record, said_of, Stands, StepsAs, Steps, Stood, Reaches}
use Rattle.reading.specs.Inner.Cells.{from_of, to_of}
use Rattle.machine.proofs.Records.{few_counted, few_moved, renumbered}
use Rattle.machine.proofs.Ways.{end_left, test_leads, test_spent, turn_leads, number_here, act_left, past_placed, Able, able_here}
use Rattle.places.proofs.Places.{settling}
use Rattle.places.proofs.Weights.{light}

-- the step of a configuration whose parts are known
step_at : (layout : Layout) (k : Config) (b : Block Action) (cs : List Bool) → k.left ≡ b → k.choices ≡ cs → step proper layout k ≡ step proper layout (config b cs k.state k.history)
step_at layout k b cs e g = λ i. step proper layout (config (e i) (g i) k.state k.history)

-- the laws of a step from where the machine stands
module _ (f choices : List ℕ) (m : Runner) (own others latest : List ℕ) (t : Tally) (run : m.verdict ≡ None) (k : Config) (w : Stands f choices m own others latest t k) where
  abbrev layout : Layout
  layout = layout_of f

  abbrev p : Spot
  p = m.place

  -- what a step from here is to show, of where it leads
  abbrev Stepped : Runner → List ℕ → List ℕ → List ℕ → Tally → Type 0
  Stepped m' own' others' latest' t' = StepsAs f choices k m' own' others' latest' t' (step proper layout k) × (measure f (length choices) m' < measure f (length choices) m)

  -- the run ends here
  end_here : (v : Verdict) (e : Ending) → v ≡ said_of e → step proper layout k ≡ Step.ends e → Stepped (ended_with m v) own others latest t
  unfolding measure
  end_here v e q s = (
    rw s (
      ap Some q,
      record {
        plain = w.plain;
        many = w.many;
        starts = w.starts;
        placed = w.placed;
        settles = w.settles;
        left = w.left;
        used = w.used;
        choices_left = w.choices_left;
        holds = w.holds;
        few = w.few;
        few_moved = w.few_moved;
      },
    ),
    rw run (omega arith),
  )

  -- the run goes on at a place c, where b is left
  goes : (c : Spot) (b : Block Action) (cs : List Bool) (σ : State) (l : List Event) (s : Stored) (own' others' latest' : List ℕ) → p.at ≡ next_record k.left →
      step proper layout k ≡ Step.next (config b cs σ l) → left_of f c ≡ b → Placed f c → Starts f c.room → c.used ≤ length choices → cs ≡ choices_of (drop c.used choices) →
      Holds layout host s own' others' latest' σ l → length l + weight (left_of f c) ≤ (c.used + 1) * heavy → (tally layout l).moved ≤ length l * 4096 →
      (length choices - c.used) * heavy + weight (left_of f c) < (length choices - p.used) * heavy + weight (left_of f p) →
      Stepped (moved_to m (settled c) s.host_flags s.card_flags s.known) own' others' latest' s.tally
  unfolding measure
  goes c b cs σ l s own' others' latest' number went is placed starts used left held few few_cells less =
      let q = settling f c.depth c refl placed in (
        rw went (
          run,
          number,
          record {
            plain = w.plain;
            many = w.many;
            starts = rw q.room starts;
            placed = q.placed;
            settles = q.out;
            left = sym (q.left ∙ is);
            used = rw q.used used;
            choices_left = rw q.used left;
            holds = held;
            few = rw (q.left, q.used) few;
            few_moved = few_cells;
          },
        ),
        rw (q.left, q.used) (omega (arith, less)),
      )

  -- the end of the body
  body_end : p.at ≡ p.end → k.left ≡ Block.done
  body_end z = w.left ∙ end_left f p z (w.settles z)

  pub at_end : p.at ≡ p.end → (r : Runner) → r ≡ ended_with m Accepted → Stepped r own others latest t
  at_end z r e = rw e (end_here Accepted finished refl (step_at layout k Block.done k.choices (body_end z) refl))

  few_records : record_count f ≤ 1024
  few_records = (opened_facts f w.plain.opens).bounds.records

  -- a branch or a test takes a choice
  took : (c : Spot) (b : Block Action) → p.used < length choices → p.at ≡ next_record k.left →
      step proper layout k ≡ Step.next (config b (choices_of (drop (suc p.used) choices)) k.state k.history) →
      left_of f c ≡ b → Placed f c → Starts f c.room → c.used ≡ p.used + 1 → Stepped (moved_to m (settled c) m.host_flags m.card_flags m.known) own others latest t
  took c b h number s l placed starts u =
      let light-there = light f few_records c placed in
      goes c b _ k.state k.history (stored_with m t) own others latest number s l placed starts (omega arith) (rw (u, add-one p.used)) w.holds (omega (arith, w.few)) w.few_moved (omega arith)

  module _ (h : p.at < p.end) (x : Fields) (e : x ≡ fields_at f p.at) where
    number : p.at ≡ next_record k.left
    number = sym (ap next_record w.left ∙ number_here f m.bodies w.plain p w.placed h x e)

    -- a step from what is left at the place
    step_here : (cs : List Bool) → k.choices ≡ cs → step proper layout k ≡ step proper layout (config (left_of f p) cs k.state k.history)
    step_here cs q = step_at layout k (left_of f p) cs w.left q

    -- a turn of a fixed loop begins
    turned_took : x.kind ≡ 9 → Stepped (turn_begun m x) own others latest t
    unfolding turn_begun
    turned_took y =
        let c = turned p x in
        let n = turn_leads f m.bodies w.plain p w.placed h x e y in
        let used_there : c.used ≡ p.used = n.used in
        let lighter : weight (left_of f p) ≡ 1 + weight (left_of f c) = n.lighter in
        goes c (left_of f c) k.choices k.state k.history (stored_with m t) own others latest
        number
        (step_here k.choices refl ∙ n.goes proper layout k.choices k.state k.history)
        refl
        n.placed
        (n.starts w.starts)
        (omega (arith, w.used))
        (rw used_there w.choices_left)
        w.holds
        (omega (arith, w.few))
        w.few_moved
        (omega arith)

    spent : p.used ≡ length choices → k.choices ≡ []
    spent u = w.choices_left ∙ ap choices_of (ap (λ n. drop n choices) u ∙ drop-length choices)

    -- a branch, or a test of a loop
    at_test : 6 ≤ x.kind → (x.kind ≡ 9 → ⊥) → Stepped (tested m x choices) own others latest t
    unfolding tested
    at_test y nay = go (eqb p.used (length choices)) refl
      where
        taken : p.used < length choices → k.choices ≡ not (eqb (get_or choices p.used 0) 0) ∷ choices_of (drop (suc p.used) choices)
        taken u = w.choices_left ∙ ap choices_of (drop-cons choices p.used 0 u)

        led_on : p.used < length choices → Stepped (moved_to m (settled (chosen p x (get_or choices p.used 0))) m.host_flags m.card_flags m.known) own others latest t
        led_on u =
            let byte = get_or choices p.used 0 in
            let after = choices_of (drop (suc p.used) choices) in
            let n = test_leads f m.bodies w.plain p w.placed h x e y nay byte in
            took (chosen p x byte) (left_of f (chosen p x byte)) u number (step_here (not (eqb byte 0) ∷ after) (taken u) ∙ n.goes proper layout after k.state k.history) refl n.placed (n.starts w.starts) n.used

        go : (b : Bool) → eqb p.used (length choices) ≡ b → Stepped (cond b (ended_with m (Refused 22 p.at)) (moved_to m (settled (chosen p x (get_or choices p.used 0))) m.host_flags m.card_flags m.known)) own others latest t
        go true u = end_here (Refused 22 p.at) (out_of_choices p.at) refl (step_here [] (spent (eqb-true _ _ u)) ∙ test_spent f m.bodies w.plain p w.placed h x e y nay proper layout k.state k.history)
        go false u = led_on (let n = eqb-false p.used (length choices) u in omega (arith, w.used, n))

    -- a record with arms
    pub at_lead : 6 ≤ x.kind → (r : Runner) → r ≡ led m x choices → Stepped r own others latest t
    unfolding led
    at_lead y r q = rw q (go (eqb x.kind 9) refl)
      where
        go : (b : Bool) → eqb x.kind 9 ≡ b → Stepped (cond b (turn_begun m x) (tested m x choices)) own others latest t
        go true z = turned_took (eqb-true x.kind 9 z)
        go false z = at_test y (eqb-false x.kind 9 z)

    act_here : x.kind ≤ 5 → left_of f p ≡ Block.act p.at (action_of x) (left_of f (past_record p))
    act_here = act_left f m.bodies w.plain p w.placed h x e

    -- a record that is unmet
    at_stop : x.kind ≤ 5 → (c : Cell) → lowest_unmet layout (action_of x) k.state ≡ some c.0 → Stepped (ended_with m (Stopped (record { 0 = p.at }) c)) own others latest t
    at_stop y c o = end_here (Stopped (record { 0 = p.at }) c) (stopped p.at c.0) refl (step_at layout k _ k.choices (w.left ∙ act_here y) refl ∙ rw o)

    -- a record that acts
    at_act : x.kind ≤ 5 → (s : Stored) (own' others' latest' : List ℕ) → lowest_unmet layout (action_of x) k.state ≡ none →
        Holds layout host s own' others' latest' (effect layout (action_of x) k.state) (event 0 (action_of x) k.state ∷ k.history) →
        (tally layout (event p.at (action_of x) k.state ∷ k.history)).moved ≤ (tally layout k.history).moved + 4096 →
        Stepped (moved_to m (settled (past_record p)) s.host_flags s.card_flags s.known) own' others' latest' s.tally
    at_act y s own' others' latest' o held b =
        let lighter : weight (left_of f p) ≡ 1 + weight (left_of f (past_record p)) = ap weight (act_here y) in
        goes (past_record p) _ k.choices _ _ s own' others' latest'
        number
        (step_at layout k _ k.choices (w.left ∙ act_here y) refl ∙ rw o)
        refl
        (past_placed f m.bodies w.plain p w.placed h x e y)
        w.starts
        w.used
        w.choices_left
        (renumbered layout 0 p.at (action_of x) k.state held)
        (omega (arith, w.few))
        (omega (arith, w.few_moved, b))
        (omega arith)

    module _ (y : x.kind ≤ 5) (first next : ℕ) (a : first ≡ (span_of layout x.array).first) (b : next ≡ (span_of layout (x.array + 1)).first) where
      pub able : Able layout x first next (from_of x first) (to_of x first next) (stored_with m t) p.at own others latest
      able =
          let n = few_counted layout k.history in
          able_here f m.bodies w.plain p w.placed h x e y first next a b w.holds (record {
            reads = omega (arith, w.holds.reads, n.0, w.few, w.used, w.many);
            writes = omega (arith, w.holds.writes, n.1, w.few, w.used, w.many);
            moved = omega (arith, w.holds.moved, w.few_moved, w.few, w.used, w.many);
          })

      -- what the record did is a step of the run, or its end
      pub at_record : (r : Acted) (own' others' latest' : List ℕ) → Acts layout (action_of x) (stored_with m t) own others latest r own' others' latest' → Stepped (after_act m r) own' others' latest' (tally_after t r)
      at_record (Ok s) own' others' latest' acts =
          let q = acts k.state k.history w.holds in
          at_act y s own' others' latest' q.0 q.1 (few_moved layout (action_of x) (distance x.step) (from_of x first) (to_of x first next) able.spans able.few_cells k.state k.history)
      at_record (Err c) own' others' latest' acts =
          let q = acts k.state k.history w.holds in
          rw (q.1, q.2, q.3) (at_stop y c q.0)

-- what a call of `step` ensures, from what it does at each configuration
pub ensured : (f choices : List ℕ) (m : Runner) (own others latest : List ℕ) (t : Tally) (m' : Runner) (own' others' latest' : List ℕ) (t' : Tally) (n : ℕ) → Stood f choices m own others latest t →
    ((k : Config) → Stands f choices m own others latest t k → StepsAs f choices k m' own' others' latest' t' (step proper (layout_of f) k) × (measure f (length choices) m' < measure f (length choices) m)) →
    Same n own own' → Same n others others' → Same n latest latest' →
    Steps f choices m own others latest t m' own' others' latest' t' × (measure f (length choices) m' < measure f (length choices) m) × Same n own own' × Same n others others' × Same n latest latest'
ensured f choices m own others latest t m' own' others' latest' t' n w law a b c = (λ k v. (law k v).0, (law w.config w.stands).1, a, b, c)

-- a machine at a configuration of the run holds some configuration, and after a step it is at the next one, or at the end
pub stood : {f choices : List ℕ} {m : Runner} {own others latest : List ℕ} {t : Tally} → Reaches f choices m own others latest t → Stood f choices m own others latest t
stood w = record { config = w.config; stands = w.stands }

pub goes_on : {f choices : List ℕ} {m : Runner} {own others latest : List ℕ} {t : Tally} {m' : Runner} {own' others' latest' : List ℕ} {t' : Tally} →
    Reaches f choices m own others latest t → Steps f choices m own others latest t m' own' others' latest' t' → Reaches f choices m' own' others' latest' t'
unfolding plan_of
goes_on {f} {choices} {m' = m'} {own'} {others'} {latest'} {t'} w law = go (step proper (layout_of f) w.config) refl (law w.config w.stands)
  where
    go : (s : Step) → step proper (layout_of f) w.config ≡ s → StepsAs f choices w.config m' own' others' latest' t' s → Reaches f choices m' own' others' latest' t'
    go (Step.next k) q s = record { config = k; run = onward w.run q; stands = s.2; ended = rw s.0 tt }
    go (Step.ends e) q s = record { config = w.config; run = w.run; stands = s.1; ended = rw s.0 (record { ending = e; last = q; says = refl }) }

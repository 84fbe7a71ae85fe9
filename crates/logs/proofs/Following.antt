-- The run that a log tells, one entry on: past a record, into an arm or a turn; or refused at the entry.
use Prim.Native.Nat.{ℕ, ◌+◌, ◌/◌, ◌≤◌, ◌<◌}
use mathlib.Core.Path.{◌≡◌, refl, sym, ap, ◌∙◌}
use mathlib.Core.Bool.{Bool, true, false, cond, not, ◌&&◌, true≢false}
use mathlib.Core.List.{List, [], ◌∷◌, ◌++◌}
use mathlib.Core.Option.{Option, none, some}
use native.Mathlib.Decide.{dec_lt}
use native.Mathlib.Numerals.{add-one}
use native.Mathlib.Omega.{arith}
use lib.Dec.{eqb, ltb}
use lib.ListN.{length, get_or, take, replicate, length-replicate}
use lib.Seq.{take-suc}
use borrow.Author.Tests.{eq-eqb, eqb-true, eqb-false, lt-ltb, ltb-true}
use Rattle.model.specs.Verdicts.{Refused}
use Rattle.model.specs.Sides.{Layout, cell_count, span_of}
use Rattle.model.specs.Records.{Action, stepped}
use Rattle.model.specs.Effects.{State, start, effect}
use Rattle.model.specs.Blocks.{Block}
use Rattle.model.specs.Runs.{Event, Config, Ending, proper, carried_on, Step, step, stopped, lowest_unmet, begin, here}
use Rattle.model.proofs.Booleans.{and_in, and_out}
use Rattle.model.proofs.Runs.{config, event, next_same}
use Rattle.model.proofs.Stamps.{Past, past, past_effect}
use Rattle.reading.specs.declared.Fields.{Fields}
use Rattle.reading.specs.Bytes.{array_count, layout_of, record_count, fields_at, first_arm, second_arm}
use Rattle.reading.specs.Inner.Cells.{from_of, to_of, step_of}
use Rattle.reading.proofs.Tables.{length_table, getD_table}
use Rattle.rules.specs.Rules.{fields_fit}
use Rattle.format.specs.Plans.{action_of, plan_of}
use Rattle.format.specs.Inner.Walks.{Plain, Starts}
use Rattle.format.proofs.Walking.{opens, opened_facts}
use Rattle.format.proofs.Trees.{is_branch, is_loop, is_fixed, is_leaf, shape, acts}
use Rattle.memories.specs.Inner.Ranges.{Room}
use Rattle.places.specs.declared.Place.{Place}
use Rattle.places.specs.Inner.Places.{Spot, spot, started, begun_at, settled, chosen, turned, left_of, Placed}
use Rattle.places.proofs.Places.{Settles, settling}
use Rattle.standing.specs.Inner.Standing.{past_record}
use Rattle.machine.proofs.Records.{on_array, spans, step_is, inside}
use Rattle.machine.proofs.Ways.{fits_inside, record_fits, not_deep, turns_left, kind_is, end_left, Leads, branch_left, loop_left, fixed_left, act_left, past_placed, test_leads, test_spent, turn_leads}
use Rattle.contents.specs.declared.Opened.{Opened}
use Rattle.steps.specs.Inner.Beginning.{Fronted, Counted, Ready}
use Rattle.steps.proofs.Begins.{all_zero, start_left, start_placed, ready_found, ready_plain, ready_front, ready_arrays}
use Rattle.tracked.specs.Inner.Tracking.{Acting, Statuses, Covered, Tracks}
use Rattle.logs.specs.Logs.{next_number, Logs, off, stuck}
use Rattle.logs.specs.Logged.{entry_of, entries_of, Says}
use Rattle.logs.specs.Inner.Following.{unused, told_by, led_by, Trail, refused_with, moved_to, after_act, At, Followed, Opens}
use Rattle.logs.proofs.Logging.{lengthened, log_more, log_last, log_longer, log_carried}
use Rattle.logs.proofs.Telling.{Alike, determined}
use Rattle.logs.proofs.Numbers.{same_some, plan_told}

never_next : {e : Ending} {k : Config} → Step.ends e ≡ Step.next k → ⊥
never_next q = let z : ◌≡◌ {A = ℕ} 0 1 = cc in omega arith

nothing_next : (e : ℕ) → ◌≡◌ {A = Option ℕ} none (some e) → ⊥
nothing_next e q = let z : ◌≡◌ {A = ℕ} 0 1 = cc in omega arith

-- no choice counts where a place is
pub unused_left : (f : List ℕ) (p : Spot) → left_of f (unused p) ≡ left_of f p
unfolding left_of
unused_left f p = refl

pub unused_placed : {f : List ℕ} {p : Spot} → Placed f p → Placed f (unused p)
unused_placed w = record { size = w.size; here = w.here; begun = w.begun; behind = w.behind; shallow = w.shallow; fresh = w.fresh }

-- the number that comes next at a place
module _ (f : List ℕ) (bodies : ℕ) (plain : Plain f bodies) (p : Spot) (placed : Placed f p) where
  pub next_at : p.at < p.end → next_number (left_of f p) ≡ some p.at
  next_at h =
      let x = fields_at f p.at in
      let c = kind_is f bodies plain p.depth p.at p.end placed.here h x refl in
      elim (shape x) [
        | is_branch z ↦ ap next_number (branch_left f bodies plain p placed h x refl z)
        | is_loop z ↦ ap next_number (loop_left f bodies plain p placed h x refl z)
        | is_fixed z ↦ ap next_number (fixed_left f bodies plain p placed h x refl z)
        | is_leaf z ↦ ap next_number (act_left f bodies plain p placed h x refl (acts x c z).1)
      ]

  -- where a place is settled, it is that of the record at it
  pub next_is : (p.at ≡ p.end → p.depth ≡ 0) → (e : ℕ) → next_number (left_of f p) ≡ some e → (p.at < p.end) × (p.at ≡ e)
  next_is out e n = elim (dec_lt p.at p.end) [
    | yes h ↦ (h, same_some p.at e (sym (next_at h) ∙ n))
    | no h ↦
        let z : p.at ≡ p.end = omega (arith, placed.here.order) in
        absurd (nothing_next e (sym (ap next_number (end_left f p z (out z))) ∙ n))
  ]

-- where a log stands after i of its entries
module _ (f entries : List ℕ) (bodies : ℕ) (m : Trail) (cells : List ℕ) (i : ℕ) (a : At f entries bodies m cells i) (inside : i < length entries) where
  abbrev layout : Layout
  layout = layout_of f

  abbrev number : ℕ
  number = get_or entries i 0

  abbrev k : Config
  k = a.config

  -- the entries up to this one
  firsts_more : take (i + 1) entries ≡ take i entries ++ (number ∷ [])
  firsts_more = ap (λ n. take n entries) (add-one i) ∙ take-suc entries i 0 inside

  -- another run with the entries so far, that goes on with this one, stands where this one does
  same_there : next_number k.left ≡ some number → (cs : List Bool) (j : Config) → Logs carried_on layout (begin (plan_of f) cs) (take i entries) j → next_number j.left ≡ some number → Alike k j
  same_there e cs j w n =
      determined layout (take i entries) (begin (plan_of f) a.choices) (begin (plan_of f) cs) k j (record { left = refl; state = refl }) (plan_told f (opened_facts f a.plain.opens) a.plain.plain)
      (log_carried layout (take i entries) (begin (plan_of f) a.choices) k a.logs) w number e n

  -- the entry is not that of the record that comes next
  pub refuse_30 : (m.place.at ≡ number → m.place.at < m.place.end → ⊥) → Says f entries (record { verdict = Refused 30 0; entry = i })
  unfolding plan_of
  refuse_30 nay = record {
    finding = off i;
    finds = record {
      inside = inside;
      before = record { choices = a.choices; config = k; logs = a.logs };
      nowhere = λ b.
          let w = log_last carried_on layout (take i entries) number (begin (plan_of f) b.choices) b.config (rw (take-suc entries i 0 inside) at b.logs) in
          let n = a.alone inside b.choices w.config w.logs w.number in
          let q = next_is f bodies a.plain m.place a.placed a.settles number (ap next_number (sym a.left) ∙ n) in
          nay q.1 q.0;
    };
    says = refl;
  }

  -- a place p where it stands, at a record whose number the entry is
  module _ (p : Spot) (left : k.left ≡ left_of f p) (placed : Placed f p) (h : p.at < p.end) (same : p.at ≡ number) where
    there : next_number k.left ≡ some number
    there = ap next_number left ∙ next_at f bodies a.plain p placed h ∙ ap some same

    -- one step on
    advance : (ds : List Bool) (b : Block Action) (σ : State) (ev : List Event) (q : Spot) (cells' : List ℕ) →
        step proper layout (config (left_of f p) ds k.state k.history) ≡ Step.next (config b [] σ ev) → left_of f q ≡ b → Placed f q → Starts f q.room →
        Past σ → Statuses layout σ cells' →
        ((j j' : Config) → Alike k j → step carried_on layout j ≡ Step.next j' → i + 1 < length entries → next_number j'.left ≡ some (get_or entries (i + 1) 0) → next_number b ≡ some (get_or entries (i + 1) 0)) →
        At f entries bodies (moved_to (settled q)) cells' (i + 1)
    unfolding plan_of
    advance ds b σ ev q cells' went is placed' starts old listed only =
        let z = settling f q.depth q refl placed' in
        let from : lengthened ds k ≡ config (left_of f p) ds k.state k.history = λ t. config (left t) (a.spent t ++ ds) k.state k.history in
        let l = log_more proper layout (take i entries) (begin (plan_of f) (a.choices ++ ds)) (lengthened ds k) (log_longer proper layout ds (take i entries) (begin (plan_of f) a.choices) k a.logs) there (ap (step proper layout) from ∙ went) in
        record {
          plain = a.plain;
          starts = rw z.room starts;
          placed = z.placed;
          settles = z.out;
          choices = a.choices ++ ds;
          config = config b [] σ ev;
          logs = rw firsts_more l;
          spent = refl;
          left = sym (z.left ∙ is);
          past = old;
          statuses = listed;
          alone = λ o cs j' w n.
              let v = log_last carried_on layout (take i entries) number (begin (plan_of f) cs) j' (rw firsts_more at w) in
              only v.config j' (same_there there cs v.config v.logs v.number) v.goes o n;
        }

    -- where only one thing is left after a step
    only_one : (b : Block Action) → ((cs : List Bool) (σ : State) (ev : List Event) → (j : Config) × (step carried_on layout (config (left_of f p) cs σ ev) ≡ Step.next j) × (j.left ≡ b)) →
        (e : ℕ) (j j' : Config) → Alike k j → step carried_on layout j ≡ Step.next j' → next_number j'.left ≡ some e → next_number b ≡ some e
    only_one b g e j j' w s n =
        let c = g j.choices j.state j.history in
        let q : c.0 ≡ j' = next_same c.0 j' (sym c.1 ∙ (λ t. step carried_on layout (config ((sym left ∙ w.left) t) j.choices j.state j.history)) ∙ s) in
        ap next_number (sym c.2) ∙ ap (λ (i : Config). next_number i.left) q ∙ n

    module _ (x : Fields) (e : x ≡ fields_at f p.at) where
      -- a record without arms
      module _ (y : x.kind ≤ 5) where
        act_here : left_of f p ≡ Block.act p.at (action_of x) (left_of f (past_record p))
        act_here = act_left f bodies a.plain p placed h x e y

        acted : (cells' : List ℕ) → Starts f p.room → lowest_unmet layout (action_of x) k.state ≡ none → Statuses layout (effect layout (action_of x) k.state) cells' →
            At f entries bodies (moved_to (settled (past_record p))) cells' (i + 1)
        acted cells' starts o listed =
            advance [] (left_of f (past_record p)) (effect layout (action_of x) k.state) (event p.at (action_of x) k.state ∷ k.history) (past_record p) cells'
            ((λ t. step proper layout (config (act_here t) [] k.state k.history)) ∙ rw o)
            refl
            (past_placed f bodies a.plain p placed h x e y)
            starts
            (past_effect layout (action_of x) k.state a.past)
            listed
            (λ j j' w s o n. only_one (left_of f (past_record p)) (λ cs σ ev. (_, (λ t. step carried_on layout (config (act_here t) cs σ ev)), refl)) _ j j' w s n)

        stuck_at : (c : ℕ) → lowest_unmet layout (action_of x) k.state ≡ some c → Says f entries (record { verdict = Refused 31 0; entry = i })
        unfolding plan_of
        stuck_at c o = record {
          finding = stuck i;
          finds = record {
            inside = inside;
            before = record { choices = a.choices; config = k; logs = a.logs };
            cell = c;
            stops = (λ t. step proper layout (config ((left ∙ act_here) t) k.choices k.state k.history)) ∙ rw o (ap (λ n. Step.ends (stopped n c)) same);
          };
          says = refl;
        }

      -- a turn of a fixed loop
      turn_on : x.kind ≡ 9 → Starts f p.room → At f entries bodies (moved_to (settled (turned p x))) cells (i + 1)
      turn_on y starts =
          let t = turn_leads f bodies a.plain p placed h x e y in
          advance [] (left_of f (turned p x)) k.state k.history (turned p x) cells
          (t.goes proper layout [] k.state k.history)
          refl
          t.placed
          (t.starts starts)
          a.past
          a.statuses
          (λ j j' w s o n. only_one (left_of f (turned p x)) (λ cs σ ev. (_, t.goes carried_on layout cs σ ev, refl)) _ j j' w s n)

      -- a branch or a test of a loop, where the next entry tells the choice
      module _ (y : 6 ≤ x.kind) (nay : x.kind ≡ 9 → ⊥) (next : ℕ) (given : i + 1 < length entries → next ≡ get_or entries (i + 1) 0) where
        leads : (choice : ℕ) → Leads f p (not (eqb choice 0)) (chosen p x choice)
        leads = test_leads f bodies a.plain p placed h x e y nay

        abbrev one : Spot
        one = settled (chosen p x 1)

        settles_one : Settles f (chosen p x 1) one
        settles_one = settling f (chosen p x 1).depth (chosen p x 1) refl (leads 1).placed

        -- by whichever choice another run goes on with the next entry, so does this one
        told_right : (b : Bool) → (eqb one.at next && ltb one.at one.end) ≡ b → (c : Bool) → i + 1 < length entries →
            next_number (left_of f (chosen p x (cond c 1 0))) ≡ some (get_or entries (i + 1) 0) → next_number (left_of f (chosen p x (cond b 1 0))) ≡ some (get_or entries (i + 1) 0)
        told_right true q true o n = n
        told_right false q false o n = n
        told_right true q false o n =
            let w = and_out (eqb one.at next) (ltb one.at one.end) q in
            ap next_number (sym settles_one.left) ∙ next_at f bodies a.plain one settles_one.placed (ltb-true _ _ w.1) ∙ ap some (eqb-true _ _ w.0 ∙ given o)
        told_right false q true o n =
            let w = next_is f bodies a.plain one settles_one.placed settles_one.out (get_or entries (i + 1) 0) (ap next_number settles_one.left ∙ n) in
            absurd (true≢false (sym (and_in (eqb one.at next) (ltb one.at one.end) (eq-eqb _ _ (w.1 ∙ sym (given o))) (lt-ltb _ _ w.0)) ∙ q))

        -- a step of another run from there
        other_step : (cs : List Bool) (σ : State) (ev : List Event) (j : Config) → step carried_on layout (config (left_of f p) cs σ ev) ≡ Step.next j → (c : Bool) × (j.left ≡ left_of f (chosen p x (cond c 1 0)))
        other_step [] σ ev j s = absurd (never_next (sym (test_spent f bodies a.plain p placed h x e y nay carried_on layout σ ev) ∙ s))
        other_step (true ∷ cs) σ ev j s = (true, ap (λ (i : Config). i.left) (next_same j _ (sym s ∙ (leads 1).goes carried_on layout cs σ ev)))
        other_step (false ∷ cs) σ ev j s = (false, ap (λ (i : Config). i.left) (next_same j _ (sym s ∙ (leads 0).goes carried_on layout cs σ ev)))

        choice_on : Starts f p.room → At f entries bodies (moved_to (settled (chosen p x (told_by p x next)))) cells (i + 1)
        choice_on starts = go (eqb one.at next && ltb one.at one.end) refl
          where
            go : (b : Bool) → (eqb one.at next && ltb one.at one.end) ≡ b → At f entries bodies (moved_to (settled (chosen p x (cond b 1 0)))) cells (i + 1)
            go b q =
                let c : ℕ = cond b 1 0 in
                let t = leads c in
                advance (not (eqb c 0) ∷ []) (left_of f (chosen p x c)) k.state k.history (chosen p x c) cells
                (t.goes proper layout [] k.state k.history)
                refl
                t.placed
                (t.starts starts)
                a.past
                a.statuses
                (λ j j' w s o n.
                let v = other_step j.choices j.state j.history j' ((λ u. step carried_on layout (config ((sym left ∙ w.left) u) j.choices j.state j.history)) ∙ s) in
                told_right b q v.0 o (ap next_number (sym v.1) ∙ n))

      -- a record with arms
      led_on : 6 ≤ x.kind → (next : ℕ) → (i + 1 < length entries → next ≡ get_or entries (i + 1) 0) → Starts f p.room →
          At f entries bodies (moved_to (led_by p x next)) cells (i + 1)
      unfolding led_by
      led_on y next given starts = go (eqb x.kind 9) refl
        where
          go : (b : Bool) → eqb x.kind 9 ≡ b → At f entries bodies (moved_to (cond b (settled (turned p x)) (settled (chosen p x (told_by p x next))))) cells (i + 1)
          go true z = turn_on (eqb-true x.kind 9 z) starts
          go false z = choice_on y (eqb-false x.kind 9 z) next given starts

  -- what an entry has come to
  goes : {m' : Trail} {cells' : List ℕ} → m'.number ≡ 0 → At f entries bodies m' cells' (i + 1) → Followed f entries bodies m' cells' i
  goes z w = record { goes_on = λ _. w; ends = λ nay. absurd (nay z) }

  pub followed_30 : (m.place.at ≡ number → m.place.at < m.place.end → ⊥) → Followed f entries bodies (refused_with m.place.room 30) cells i
  followed_30 nay = record { goes_on = λ z. absurd (omega arith); ends = λ _. refuse_30 nay }

  module _ (h : m.place.at < m.place.end) (same : m.place.at ≡ number) (x : Fields) (e : x ≡ fields_at f m.place.at) where
    pub followed_led : 6 ≤ x.kind → (next : ℕ) → (i + 1 < length entries → next ≡ get_or entries (i + 1) 0) → (p : Spot) → p ≡ led_by (unused m.place) x next → Followed f entries bodies (moved_to p) cells i
    followed_led y next given p q = rw q (goes refl (led_on (unused m.place) (a.left ∙ sym (unused_left f m.place)) (unused_placed a.placed) h same x e y next given a.starts))

    pub followed_act : x.kind ≤ 5 → (b : Bool) (cells' : List ℕ) → Tracks layout (action_of x) k.state b cells' → (m' : Trail) → m' ≡ after_act m.place b → Followed f entries bodies m' cells' i
    followed_act y true cells' w m' q = let u = w.stops refl in rw q (record { goes_on = λ z. absurd (omega arith); ends = λ _. stuck_at m.place a.left a.placed h same x e y u.0 u.1 })
    followed_act y false cells' w m' q = let u = w.goes refl in rw q (goes refl (acted m.place a.left a.placed h same x e y cells' a.starts u.0 u.1))

-- the cells of a record without arms where a place is
module _ (f : List ℕ) (bodies : ℕ) (plain : Plain f bodies) (p : Spot) (placed : Placed f p) (h : p.at < p.end) (x : Fields) (e : x ≡ fields_at f p.at) (y : x.kind ≤ 5) where
  kinds : (1 ≤ x.kind) × (x.kind ≤ 5)
  kinds = ((kind_is f bodies plain p.depth p.at p.end placed.here h x e).0, y)

  fit : fields_fit f x ≡ true
  fit = record_fits f bodies plain p.depth p.at p.end placed.here h x e

  pub there_array : (x.side ≤ 1) × (x.array < array_count f)
  there_array = on_array f bodies plain x fit kinds

  pub there_low : p.at < 1024
  there_low = omega (arith, placed.here.inside, (opened_facts f plain.opens).bounds.records)

  module _ (room : List ℕ) (starts : Starts f room) where
    abbrev first : ℕ
    first = get_or room x.array 0

    abbrev next : ℕ
    next = get_or room (x.array + 1) 0

    first_is : first ≡ (span_of (layout_of f) x.array).first
    first_is = starts.first x.array (omega (arith, there_array.1))

    next_cell_is : next ≡ (span_of (layout_of f) (x.array + 1)).first
    next_cell_is = starts.first (x.array + 1) (omega (arith, there_array.1))

    pub covered : Covered (layout_of f) (action_of x) (step_of x) (from_of x first) (to_of x first next)
    covered =
        let w = spans f bodies plain x fit kinds first next first_is next_cell_is in
        record { cells = λ c. w.cells c ∙ ap (λ n. stepped n (from_of x first) (to_of x first next) c) (step_is f bodies plain x fit kinds); ends = w.ends }

    pub ready_to_track : {σ : State} {cells : List ℕ} → Statuses (layout_of f) σ cells →
        Acting x.kind x.side × Room (from_of x first) (to_of x first next) cells
    ready_to_track {σ} {cells} s =
        let i = inside f bodies plain x fit kinds first next first_is next_cell_is in
        ((kinds.0, y, there_array.0), record { order = i.0; inside = omega (arith, i.1, s.room) })

-- before a record with arms leads
pub ready_to_lead : (f : List ℕ) (bodies : ℕ) (plain : Plain f bodies) (p : Spot) (placed : Placed f p) (h : p.at < p.end) (x : Fields) (e : x ≡ fields_at f p.at) → 6 ≤ x.kind →
    (r : Place) → spot r p.room ≡ unused p →
    (r.depth < 16) × (r.used ≡ 0) × (length p.room ≡ 81) × (r.at < r.end) × (r.end < 65536) × (r.at + 1 + first_arm x + second_arm x < 65536) × (x.kind ≡ 9 → begun_at p.room r.depth < x.q)
ready_to_lead f bodies plain p placed h x e y r q =
    let at_is : r.at ≡ p.at = ap (λ (s : Spot). s.at) q in
    let end_is : r.end ≡ p.end = ap (λ (s : Spot). s.end) q in
    let depth_is : r.depth ≡ p.depth = ap (λ (s : Spot). s.depth) q in
    let n = fits_inside f bodies plain p.depth p.at p.end placed.here h x e in
    let few = (opened_facts f plain.opens).bounds.records in
    let d = not_deep f bodies plain p.depth p.at p.end placed.here h x e y in (
      omega arith,
      ap (λ (s : Spot). s.used) q,
      placed.size,
      omega arith,
      omega (arith, placed.here.inside),
      omega (arith, placed.here.inside),
      λ z. rw depth_is (turns_left f bodies plain p.depth p.at p.end placed.here h x e p.room placed.begun z),
    )

-- the entries of a part of a log, by their bytes
module _ (part : List ℕ) where
  pub count_is : length (entries_of part) ≡ length part / 2
  unfolding entries_of
  count_is = length_table (entry_of part) (length part / 2)

  pub entry_is : (i : ℕ) → i < length part / 2 → entry_of part i ≡ get_or (entries_of part) i 0
  unfolding entries_of
  entry_is i h = sym (getD_table (entry_of part) (length part / 2) i 0 h)

-- no turn has begun in a room that is empty
pub none_begun : (d : ℕ) → begun_at (replicate {A = ℕ} 81 0) d ≡ 0
none_begun d = all_zero 81 (65 + d)

-- the start
pub at_first : (f l : List ℕ) (bodies : ℕ) → Plain f bodies → (room : List ℕ) → length room ≡ 81 → Starts f room → ((d : ℕ) → begun_at room d ≡ 0) → (cells : List ℕ) → Statuses (layout_of f) (start (layout_of f)) cells →
    (records : ℕ) → records ≡ record_count f → (p : Place) → p ≡ started records → At f l bodies (moved_to (spot p room)) cells 0
unfolding plan_of
at_first f l bodies plain room size starts fresh cells listed records e p q =
    let facts = opened_facts f plain.opens in
    rw (q, e) (record {
      plain = plain;
      starts = starts;
      placed = start_placed f [] facts plain.plain room size fresh;
      settles = λ z. refl;
      choices = [];
      config = begin (plan_of f) [];
      logs = refl;
      spent = refl;
      left = start_left f [] facts plain.plain room size fresh;
      past = past (plan_of f) {cs = []} here;
      statuses = listed;
      alone = λ o cs j w n. ap (λ (i : Config). next_number i.left) w ∙ n;
    })

-- what opening found
module _ (f : List ℕ) (o : Opened) (w : Opens f o) where
  -- no plan has more cells
  pub cells_room : (cells : List ℕ) → 4096 ≤ length cells → cell_count (layout_of f) ≤ length cells
  cells_room cells enough = omega (arith, (opened_facts f (opens f o w.found)).bounds.cells_below)

  -- enough for a run of no choices, whose laws say what was found
  abbrev none_yet : List ℕ
  none_yet = replicate {A = ℕ} (cell_count (layout_of f)) 0

  pub ready : Ready f o [] none_yet none_yet none_yet
  ready =
      let n = cell_count (layout_of f) in
      let enough : n ≤ length none_yet = omega (arith, length-replicate {A = ℕ} n 0) in
      record { found = w.found; plain = w.plain; own_room = enough; others_room = enough; latest_room = enough; few = omega arith }

  pub opens_counted : Counted f o.arrays
  opens_counted = ready_arrays f o _ _ _ _ ready o.arrays refl

  -- before the first entry
  pub at_start : (l : List ℕ) (before room : List ℕ) → Fronted o.array_starts before room → ((d : ℕ) → begun_at before d ≡ 0) → (cells : List ℕ) → Statuses (layout_of f) (start (layout_of f)) cells →
      (p : Place) → p ≡ started o.records → At f l o.offset (moved_to (spot p room)) cells 0
  at_start l before room front clear cells listed p e =
      at_first f l o.offset (ready_plain f o _ _ _ _ ready o.offset refl) room front.size (ready_front f o _ _ _ _ ready before room front) (λ d. front.behind (65 + d) (omega arith) ∙ clear d) cells listed
      o.records (ap (λ (x : Opened). x.records) (ready_found f o _ _ _ _ ready)) p e

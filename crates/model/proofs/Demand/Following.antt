-- The run of an accepted plan's expansion goes from stage to stage, and without scratch no record of it is stuck.
use Prim.Native.Nat.{ℕ, zero, suc, ◌<◌}
use mathlib.Core.Path.{◌≡◌, refl, ap, sym, ◌∙◌, subst}
use mathlib.Core.Logic.{◌⊎◌, inl, inr}
use mathlib.Core.List.{List, [], ◌∷◌}
use mathlib.Core.Option.{Option, none, some}
use mathlib.Core.Bool.{Bool, true, false, cond, not, ◌||◌, or-true, false≢true}
use native.Mathlib.Omega.{arith}
use lib.Dec.{eqb}
use borrow.Author.Tests.{eq-eqb}
use Rattle.model.specs.Sides.{Side, other, Layout, cell_count, has_scratch}
use Rattle.model.specs.Records.{Verb, read, write, copy, need, mark, Action, whole_of, covers}
use Rattle.model.specs.Effects.{Flags, State, current, Deed, needs as needs-cell, met, effect}
use Rattle.model.specs.Blocks.{Block, act, branch, loop, fixed, ◌then◌}
use Rattle.model.specs.Runs.{Event, Config, Ending, finished, stopped, out_of_choices, Step, next, ends, lowest_unmet, stop_or, step, here, onward, Run, Ends, carried_on, proper}
use Rattle.model.specs.Judging.{Mode, R, W, RW, Declaration, Pass, DeclaredPlan, pass_of, permits, Accepts}
use Rattle.model.specs.Expanding.{given, expand, expansion}
use Rattle.model.specs.Inner.Declared.{no_pass, declaration, declared}
use Rattle.model.specs.Inner.Holders.{array_of}
use Rattle.model.proofs.Needs.{flag_set, flag_clear}
use Rattle.model.proofs.Runs.{config, event}
use Rattle.model.proofs.Numbering.{scratch_own, none_scratch, covers_array}
use Rattle.model.proofs.Stamps.{as_verb}
use Rattle.model.proofs.Unmet.{none_unmet}
use Rattle.model.proofs.Demand.Blocks.{then_assoc, expand_then}
use Rattle.model.proofs.Demand.Declarations.{barred}
use Rattle.model.proofs.Demand.Numbers.{unnumbered, unnumbered_same, unnumbered_events, unnumbered_config, unnumbered_step, step_unnumbered}
use Rattle.model.proofs.Demand.Stages.{Did, Stage, in_body, declaring, marking, pass_at, ahead, body_left, left_of, Progress, calling, Stages, begins, calls, enters, needs, marks, needs_first, marks_then, acts, branches, loops, turns, branches0, loops0, turns0, judged, permitted_now}
use Rattle.model.proofs.Demand.Coherence.{Current, opposite, at_cell, own_or_other, not_covered, CoherentIn, undeclared, coherent}

-- what a record of an accepted plan needs of a cell is there
module _ (layout : Layout) (c : ℕ) (σ : State) where
  is_current : (s : Side) → Current (at_cell layout c σ) s → current (σ.cell c) s ≡ true
  is_current s e = rw e (eq-eqb (σ.cell c).latest (σ.cell c).latest refl)

  read_met : (p : Pass) (b : Block Action) (x : Action) → permits p.declarations (as_verb read x) ≡ true → CoherentIn layout c p b [] σ →
      met layout (as_verb read x) σ c ≡ true
  read_met p b x e k = go (covers layout (as_verb read x) c) refl
    where
      go : (z : Bool) → covers layout (as_verb read x) c ≡ z → met layout (as_verb read x) σ c ≡ true
      go true w = rw w (is_current x.side (k.readable refl x.side (rw (covers_array layout (as_verb read x) c w) e)).0)
      go false w = rw w

  act_met : (p : Pass) (b : Block Action) (x : Action) → permits p.declarations x ≡ true → CoherentIn layout c p b [] σ → met layout x σ c ≡ true
  act_met p b x e k = go x.verb e
    where
      go : (v : Verb) → permits p.declarations (as_verb v x) ≡ true → met layout (as_verb v x) σ c ≡ true
      go read e = read_met p b x e k
      go write e = or-true (not (covers layout (as_verb write x) c))
      go copy e = absurd (false≢true (sym (barred x.side x.name p.declarations) ∙ e))
      go need e = absurd (false≢true (sym (barred x.side x.name p.declarations) ∙ e))
      go mark e = or-true (not (covers layout (as_verb mark x) c))

  need_met : (p : Pass) (b : Block Action) (m : Mode) (s : Side) (a : ℕ) (ds : List Declaration) → CoherentIn layout c p b (declaration m s a ∷ ds) σ →
      met layout (whole_of need s a) σ c ≡ true
  need_met p b m s a ds k = go ((σ.flags a).flag s) refl (own_or_other layout c a)
    where
      need_of : (z : Bool) → (σ.flags a).flag s ≡ z → met layout (whole_of need s a) σ c ≡ (not (covers layout (whole_of need s a) c) || (z || current (σ.cell c) (other s)))
      need_of true e = ap (λ (r : Deed × Flags). not (covers layout (whole_of need s a) c) || needs-cell r.0 (σ.cell c)) (flag_set s (σ.flags a) e)
      need_of false e = ap (λ (r : Deed × Flags). not (covers layout (whole_of need s a) c) || needs-cell r.0 (σ.cell c)) (flag_clear s (σ.flags a) e)

      go : (z : Bool) → (σ.flags a).flag s ≡ z → (array_of layout c ≡ a) ⊎ (eqb (array_of layout c) a ≡ false) → met layout (whole_of need s a) σ c ≡ true
      go true e o = need_of true e ∙ or-true (not (covers layout (whole_of need s a) c))
      go false e (inl q) =
          let own_clear : (σ.flags (array_of layout c)).flag s ≡ false = rw q e in
          need_of false e
          ∙ rw (is_current (other s) (opposite s (at_cell layout c σ) (k.flags_current (undeclared layout c p b s a ds m q)) k.flagged own_clear)) (or-true (not (covers layout (whole_of need s a) c)))
      go false e (inr q) = need_of false e ∙ rw (not_covered layout c (whole_of need s a) q)

module _ (plan : DeclaredPlan) (cs : List Bool) where
  -- a configuration without record numbers that stands at a stage
  pub record Follows (k : Config) : Type 0 where
    stage : Stage
    made : List Did
    called : List Pass
    left : k.left ≡ unnumbered (left_of plan.passes stage)
    stages : Stages plan cs stage k.choices (record { state = k.state; history = k.history; made = made; called = called })

  -- the last stage
  pub record Finished (choices : List Bool) (history : List Event) : Type 0 where
    pass : Pass
    pub state : State
    pub made : List Did
    pub called : List Pass
    pub stages : Stages plan cs (in_body pass Block.done Block.done) choices (record { state = state; history = history; made = made; called = called })

  -- a step that leads to a stage, or ends; without scratch it ends unstuck
  abbrev pub Continues : List Bool → List Event → Step → Type 0
  Continues ch l (next k) = Follows k
  Continues ch l (ends finished) = Finished ch l
  Continues ch l (ends (stopped r c)) = has_scratch plan.layout ≡ false → ⊥
  Continues ch l (ends (out_of_choices r)) = Unit {0}

  -- whatever numbers the records executed so far have
  abbrev ContinuesFrom : Block Action → List Bool → Progress → Type 0
  ContinuesFrom b ch n = (l : List Event) → unnumbered_events l ≡ n.history → Continues ch n.history (unnumbered_step (step proper plan.layout (config b ch n.state l)))

  at_stage : {k : Stage} {n : Progress} (b : Block Action) (ch : List Bool) → b ≡ left_of plan.passes k → Stages plan cs k ch n →
      Follows (config (unnumbered b) ch n.state n.history)
  at_stage {k} {n} b ch e h = record { stage = k; made = n.made; called = n.called; left = ap unnumbered e; stages = h }

  at_next : {k : Stage} {n : Progress} (b : Block Action) (ch : List Bool) → b ≡ left_of plan.passes k → Stages plan cs k ch n →
      (l : List Event) → unnumbered_events l ≡ n.history → Follows (config (unnumbered b) ch n.state (unnumbered_events l))
  at_next {k} {n} b ch e h l q = subst (λ history. Follows (config (unnumbered b) ch n.state history)) (sym q) (at_stage b ch e h)

  act_next : (r : ℕ) (x : Action) (b : Block Action) (ch : List Bool) (n : Progress) →
      (has_scratch plan.layout ≡ false → (c : ℕ) → c < cell_count plan.layout → met plan.layout x n.state c ≡ true) →
      (lowest_unmet plan.layout x n.state ≡ none → Follows (config (unnumbered b) ch (effect plan.layout x n.state) (event 0 x n.state ∷ n.history))) →
      ContinuesFrom (act r x b) ch n
  act_next r x b ch n f k l q = go (lowest_unmet plan.layout x n.state) refl
    where
      go : (o : Option ℕ) → lowest_unmet plan.layout x n.state ≡ o →
          Continues ch n.history (unnumbered_step (stop_or r o (step carried_on plan.layout (config (act r x b) ch n.state l))))
      go none u = subst (λ history. Follows (config (unnumbered b) ch (effect plan.layout x n.state) (event 0 x n.state ∷ history))) (sym q) (k u)
      go (some c) u = λ filled. let e = none_unmet plan.layout x n.state (f filled) in let z : ◌≡◌ {A = ℕ} 0 1 = cc in omega arith

  module _ (ok : Accepts plan) where
    abbrev layout : Layout
    layout = plan.layout

    abbrev passes : List Pass
    passes = plan.passes

    -- without scratch
    filled_coherent : {k : Stage} {ch : List Bool} {n : Progress} → Stages plan cs k ch n → has_scratch layout ≡ false → (c : ℕ) → c < cell_count layout →
        CoherentIn layout c (pass_at k) (body_left k) (ahead k) n.state
    filled_coherent h e c i = coherent plan cs ok c i (scratch_own layout c i ∙ none_scratch layout e (array_of layout c)) h

    declare_next : (p : Pass) (ds : List Declaration) (t : Block ℕ) (ch : List Bool) (n : Progress) → Stages plan cs (declaring p ds t) ch n →
        (Stages plan cs (in_body p p.body t) ch n → ContinuesFrom (p.body then expand passes t) ch n) → ContinuesFrom (left_of passes (declaring p ds t)) ch n
    declare_next p [] t ch n h more = more (enters h)
    declare_next p (d ∷ ds) t ch n h more = go d.mode h
      where
        rest : Block Action
        rest = declared ds (p.body then expand passes t)

        s : Side
        s = d.side

        a : ℕ
        a = d.array

        needed : (m : Mode) → Stages plan cs (declaring p (declaration m s a ∷ ds) t) ch n → has_scratch layout ≡ false → (c : ℕ) → c < cell_count layout →
            met layout (whole_of need s a) n.state c ≡ true
        needed m h e c i = need_met layout c n.state p p.body m s a ds (filled_coherent h e c i)

        go : (m : Mode) → Stages plan cs (declaring p (declaration m s a ∷ ds) t) ch n → ContinuesFrom (given (declaration m s a) rest) ch n
        go R h = act_next 0 (whole_of need s a) rest ch n (needed R h) (λ u. at_stage rest ch refl (needs h u))
        go W h = act_next 0 (whole_of mark s a) rest ch n (λ e c i. or-true (not (covers layout (whole_of mark s a) c))) (λ u. at_stage rest ch refl (marks h))
        go RW h = act_next 0 (whole_of need s a) (act 0 (whole_of mark s a) rest) ch n (needed RW h) (λ u. at_stage (act 0 (whole_of mark s a) rest) ch refl (needs_first h u))

    body_next : (b : Block Action) (t : Block ℕ) (p : Pass) (ch : List Bool) (n : Progress) →
        (Stages plan cs (in_body p Block.done t) ch n → ContinuesFrom (expand passes t) ch n) →
        Stages plan cs (in_body p b t) ch n → ContinuesFrom (b then expand passes t) ch n
    body_next Block.done t p ch n more h = more h
    body_next (act r x b) t p ch n more h = act_next r x (b then expand passes t) ch n
        (λ e c i. act_met layout c n.state p (act r x b) x (permitted_now x (judged plan cs ok h)) (filled_coherent h e c i))
        (λ u. at_stage (b then expand passes t) ch refl (acts h))
    body_next (branch r x y b) t p [] n more h = λ l q. tt
    body_next (branch r x y b) t p (c ∷ ch) n more h =
        at_next (cond c x y then (b then expand passes t)) ch (sym (then_assoc (cond c x y) b (expand passes t))) (branches h)
    body_next (loop r x b) t p [] n more h = λ l q. tt
    body_next (loop r x b) t p (c ∷ ch) n more h = at_next (cond c (x then loop r x (b then expand passes t)) (b then expand passes t)) ch (turn c) (loops h)
      where
        turn : (c : Bool) → cond c (x then loop r x (b then expand passes t)) (b then expand passes t) ≡ cond c (x then loop r x b) b then expand passes t
        turn true = sym (then_assoc x (loop r x b) (expand passes t))
        turn false = refl
    body_next (fixed r zero x b) t p ch n more h = at_next (x then (b then expand passes t)) ch (sym (then_assoc x b (expand passes t))) (turns h)
    body_next (fixed r (suc m) x b) t p ch n more h =
        at_next (x then fixed r m x (b then expand passes t)) ch (sym (then_assoc x (fixed r m x b) (expand passes t))) (turns h)

    body0_next : (t : Block ℕ) (p : Pass) (ch : List Bool) (n : Progress) → Stages plan cs (in_body p Block.done t) ch n → ContinuesFrom (expand passes t) ch n
    body0_next Block.done p ch n h = λ l q. record { pass = p; state = n.state; made = n.made; called = n.called; stages = h }
    body0_next (act r b t) p ch n h =
        let q = pass_of passes b in
        declare_next q q.declarations t ch (calling q n) (calls h) (body_next q.body t q ch (calling q n) (body0_next t q ch (calling q n)))
    body0_next (branch r x y t) p [] n h = λ l q. tt
    body0_next (branch r x y t) p (c ∷ ch) n h = at_next (cond c (expand passes x) (expand passes y) then expand passes t) ch (arm c) (branches0 h)
      where
        arm : (c : Bool) → cond c (expand passes x) (expand passes y) then expand passes t ≡ expand passes (cond c x y then t)
        arm true = sym (expand_then passes x t)
        arm false = sym (expand_then passes y t)
    body0_next (loop r x t) p [] n h = λ l q. tt
    body0_next (loop r x t) p (c ∷ ch) n h = at_next (cond c (expand passes x then expand passes (loop r x t)) (expand passes t)) ch (turn c) (loops0 h)
      where
        turn : (c : Bool) → cond c (expand passes x then expand passes (loop r x t)) (expand passes t) ≡ expand passes (cond c (x then loop r x t) t)
        turn true = sym (expand_then passes x (loop r x t))
        turn false = refl
    body0_next (fixed r zero x t) p ch n h = at_next (expand passes x then expand passes t) ch (sym (expand_then passes x t)) (turns0 h)
    body0_next (fixed r (suc m) x t) p ch n h =
        at_next (expand passes x then expand passes (fixed r m x t)) ch (sym (expand_then passes x (fixed r m x t))) (turns0 h)

    stage_next : (k : Stage) (ch : List Bool) (n : Progress) → Stages plan cs k ch n → ContinuesFrom (left_of passes k) ch n
    stage_next (in_body p b t) ch n h = body_next b t p ch n (body0_next t p ch n) h
    stage_next (declaring p ds t) ch n h = declare_next p ds t ch n h (body_next p.body t p ch n (body0_next t p ch n))
    stage_next (marking p s a m ds t) ch n h =
        let rest = declared ds (p.body then expand passes t) in
        act_next 0 (whole_of mark s a) rest ch n (λ e c i. or-true (not (covers layout (whole_of mark s a) c))) (λ u. at_stage rest ch refl (marks_then h))

    continue : (k : Config) → Follows (unnumbered_config k) → Continues k.choices (unnumbered_events k.history) (unnumbered_step (step proper layout k))
    continue k f = subst (Continues k.choices (unnumbered_events k.history)) same (stage_next f.stage k.choices _ f.stages k.history refl)
      where
        same : unnumbered_step (step proper layout (config (left_of passes f.stage) k.choices k.state k.history)) ≡ unnumbered_step (step proper layout k)
        same =
            sym (step_unnumbered layout k.state k.history (left_of passes f.stage) k.choices)
            ∙ ap (λ b. step proper layout (config b k.choices k.state (unnumbered_events k.history))) (sym f.left)
            ∙ step_unnumbered layout k.state k.history k.left k.choices

    follows : {k : Config} → Run proper (expansion plan) cs k → Follows (unnumbered_config k)
    follows here = record {
      stage = in_body no_pass Block.done plan.body0;
      made = [];
      called = [];
      left = unnumbered_same 0 (expand passes plan.body0);
      stages = begins;
    }
    follows (onward {k = k} h e) = subst (λ s. Continues k.choices (unnumbered_events k.history) (unnumbered_step s)) e (continue k (follows h))

    pub at_end : {k : Config} {e : Ending} → Ends (expansion plan) cs k e → Continues k.choices (unnumbered_events k.history) (unnumbered_step (ends e))
    at_end {k} f = subst (λ s. Continues k.choices (unnumbered_events k.history) (unnumbered_step s)) f.last (continue k (follows f.run))

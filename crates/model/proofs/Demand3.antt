-- Demand 3, of every plan that the judge accepts and every list of choices.
use Prim.Native.Nat.{ℕ, ◌<◌}
use mathlib.Core.Path.{◌≡◌, refl, ap, sym, ◌∙◌}
use mathlib.Core.List.{List, [], ◌∷◌, ◌++◌, map, reverse, reverse_aux as onto}
use mathlib.Core.Logic.{inl, inr}
use mathlib.Core.Option.{Option, none, some}
use mathlib.Core.Bool.{Bool, true, false, cond, true≢false}
use native.Mathlib.Omega.{arith}
use Rattle.model.specs.Lists.{keep, chain}
use Rattle.model.specs.Verdicts.{Accepted}
use Rattle.model.specs.declared.Tally.{Tally}
use Rattle.model.specs.Sides.{Side, host, at, equals, cell_count, Layout, has_scratch, scratch_cell}
use Rattle.model.specs.Records.{read, whole, Action, covers, cover_count}
use Rattle.model.specs.Effects.{counted, met}
use Rattle.model.specs.Blocks.{Block, act}
use Rattle.model.specs.Runs.{Event, Config, stopped, next, lowest_unmet, stop_or, step, Run, Ends, carried_on, proper, tally}
use Rattle.model.specs.Check.{Answers}
use Rattle.model.specs.Judging.{Pass, DeclaredPlan, Accepts}
use Rattle.model.specs.Expanding.{expansion}
use Rattle.model.specs.Demand.{latest_write, Called, ExactMoves}
use Rattle.model.specs.Claims.{Claim3, ClaimFilled, ClaimMoved}
use Rattle.model.specs.Inner.Holders.{array_of}
use Rattle.model.proofs.Numbering.{scratch_own, none_scratch}
use Rattle.model.proofs.Runs.{config, carried}
use Rattle.model.proofs.Stamps.{tracked}
use Rattle.model.proofs.Current.{equal_stamp, current_or_unwritten}
use Rattle.model.proofs.Stuck.{accepted_iff}
use Rattle.model.proofs.Unmet.{all_met}
use Rattle.model.proofs.Demand.Walks.{way_same, called_same}
use Rattle.model.proofs.Demand.Stages.{Did, executed, all_onto, whole_events, walked, declares_all, executed_so_far}
use Rattle.model.proofs.Demand.Moves.{once_from_start, none_before_mark, once_from_write}
use Rattle.model.proofs.Demand.Following.{Finished, at_end}
use Rattle.model.proofs.Demand.Adding.{moved_onto, moved_whole}
use Rattle.model.proofs.Demand.Numbers.{unnumbered_event, unnumbered_events}
use Rattle.model.proofs.Demand.Telling.{tell, told_declarations, told_gave, told_moves, told_once, told_after}

-- lists that were kept the last one first, in order
onto_onto : {A : Type 0} (x y z : List A) → onto (onto x y) z ≡ onto y (x ++ z)
onto_onto [] y z = refl
onto_onto (a ∷ x) y z = onto_onto x (a ∷ y) z

map_onto : {A B : Type 0} (f : A → B) (l rest : List A) → map f (onto l rest) ≡ onto (map f l) (map f rest)
map_onto f [] rest = refl
map_onto f (x ∷ l) rest = map_onto f l (x ∷ rest)

keep_onto : {A : Type 0} (f : A → Bool) (l rest : List A) → keep f (onto l rest) ≡ onto (keep f l) (keep f rest)
keep_onto f [] rest = refl
keep_onto f (x ∷ l) rest = keep_onto f l (x ∷ rest) ∙ go (f x)
  where
    go : (b : Bool) → onto (keep f l) (cond b (x ∷ keep f rest) (keep f rest)) ≡ onto (cond b (x ∷ keep f l) (keep f l)) (keep f rest)
    go true = refl
    go false = refl

chain_onto : {A B : Type 0} (f : A → List B) (l rest : List A) → chain f (onto l rest) ≡ onto (all_onto f l) (chain f rest)
chain_onto f [] rest = refl
chain_onto f (x ∷ l) rest = chain_onto f l (x ∷ rest) ∙ sym (onto_onto (f x) (all_onto f l) (chain f rest))

-- record numbers make no difference to what is kept and to what is moved
whole_unnumbered : (l : List Event) → whole_events (unnumbered_events l) ≡ unnumbered_events (whole_events l)
whole_unnumbered [] = refl
whole_unnumbered (e ∷ l) = go (whole e.action.verb) (whole_unnumbered l)
  where
    go : (b : Bool) → whole_events (unnumbered_events l) ≡ unnumbered_events (whole_events l) →
        cond b (unnumbered_event e ∷ whole_events (unnumbered_events l)) (whole_events (unnumbered_events l)) ≡ unnumbered_events (cond b (e ∷ whole_events l) (whole_events l))
    go true i = ap (◌∷◌ (unnumbered_event e)) i
    go false i = i

tally_unnumbered : (layout : Layout) (l : List Event) → tally layout (unnumbered_events l) ≡ tally layout l
tally_unnumbered layout [] = refl
tally_unnumbered layout (e ∷ l) = ap (counted e.deed (cover_count layout e.action)) (tally_unnumbered layout l)

moved_unnumbered : (layout : Layout) (l : List Event) → (tally layout (unnumbered_events l)).moved ≡ (tally layout l).moved
moved_unnumbered layout l = ap (λ (t : Tally). t.moved) (tally_unnumbered layout l)

module _ (plan : DeclaredPlan) (cs : List Bool) (ok : Accepts plan) where
  -- without scratch by the stages, with it by the check
  unstuck : (has_scratch plan.layout ≡ true → Answers (expansion plan) Accepted) → (k : Config) (r c : ℕ) → Ends (expansion plan) cs k (stopped r c) → ⊥
  unstuck passes k r c e = go (has_scratch plan.layout) refl
    where
      go : (b : Bool) → has_scratch plan.layout ≡ b → ⊥
      go true q = (accepted_iff (expansion plan)).0 (passes q) cs k r c e
      go false q = at_end plan cs ok e q

  -- the step at a record
  at_record : (k : Config) (r : ℕ) (x : Action) (b : Block Action) → k.left ≡ act r x b →
      step proper plan.layout k ≡ stop_or r (lowest_unmet plan.layout x k.state) (step carried_on plan.layout (config (act r x b) k.choices k.state k.history))
  at_record k r x b e = ap (λ l. step proper plan.layout (config l k.choices k.state k.history)) e

  -- a record that is executed is met
  met_now : (k k' : Config) → step proper plan.layout k ≡ next k' → (r : ℕ) (x : Action) (b : Block Action) → k.left ≡ act r x b →
      lowest_unmet plan.layout x k.state ≡ none
  met_now k k' n r x b e = go (lowest_unmet plan.layout x k.state) refl
    where
      go : (o : Option ℕ) → lowest_unmet plan.layout x k.state ≡ o → lowest_unmet plan.layout x k.state ≡ none
      go none u = u
      go (some c) u = let q = rw u at (at_record k r x b e) in let z : ◌≡◌ {A = ℕ} 0 1 = cc in absurd (omega arith)

  -- without scratch every record is executed
  goes_on : has_scratch plan.layout ≡ false → (k : Config) → Run proper (expansion plan) cs k → (r : ℕ) (x : Action) (b : Block Action) → k.left ≡ act r x b →
      (k' : Config) × (step proper plan.layout k ≡ next k')
  goes_on filled k h r x b e = go (lowest_unmet plan.layout x k.state) refl
    where
      go : (o : Option ℕ) → lowest_unmet plan.layout x k.state ≡ o → (k' : Config) × (step proper plan.layout k ≡ next k')
      go none u = (_, rw u at (at_record k r x b e))
      go (some c) u = absurd (at_end plan cs ok {k = k} {e = stopped r c} (record { run = h; last = rw u at (at_record k r x b e) }) filled)

  latest : {k : Config} → Run proper (expansion plan) cs k → (s : Side) (c : ℕ) → (k.state.cell c).held s ≡ at (k.state.cell c).latest →
      (k.state.cell c).held s ≡ at (latest_write plan.layout k.history c)
  latest h s c e = e ∙ ap at ((tracked (expansion plan) (carried (expansion plan) h)).latest c)

  reads : (k k' : Config) → Run proper (expansion plan) cs k → step proper plan.layout k ≡ next k' → (r : ℕ) (x : Action) (b : Block Action) → k.left ≡ act r x b → x.verb ≡ read →
      (c : ℕ) → c < cell_count plan.layout → covers plan.layout x c ≡ true → (k.state.cell c).held x.side ≡ at (latest_write plan.layout k.history c)
  reads k k' h n r x b e v c i w =
      let m = all_met plan.layout x k.state (met_now k k' n r x b e) c i in
      latest h x.side c (equal_stamp ((k.state.cell c).held x.side) (k.state.cell c).latest (read_needs x v w m))
    where
      read_needs : (x : Action) → x.verb ≡ read → covers plan.layout x c ≡ true → met plan.layout x k.state c ≡ true →
          equals ((k.state.cell c).held x.side) (k.state.cell c).latest ≡ true
      read_needs x v w m = rw (w, v) at m

  current : (k : Config) → Run proper (expansion plan) cs k → (c : ℕ) → c < cell_count plan.layout →
      (scratch_cell plan.layout c ≡ true → latest_write plan.layout k.history c ≡ 0 → ⊥) →
      (s : Side) × ((k.state.cell c).held s ≡ at (latest_write plan.layout k.history c))
  current k h c i written = elim (current_or_unwritten (expansion plan) c i h) [
    | inl s ↦ (s.0, latest h s.0 c s.1)
    | inr (q, e) ↦ absurd (written q (sym ((tracked (expansion plan) (carried (expansion plan) h)).latest c) ∙ e))
  ]

  -- the needs and marks of the run, in order, without their numbers
  in_order : (k : Config) (f : Finished plan cs k.choices (unnumbered_events k.history)) →
      unnumbered_events (keep (λ (e : Event). whole e.action.verb) (reverse k.history)) ≡ chain executed (onto f.made [])
  in_order k f =
      ap unnumbered_events (keep_onto (λ (e : Event). whole e.action.verb) k.history [])
      ∙ (map_onto unnumbered_event (whole_events k.history) []
      ∙ (ap (λ l. onto l []) (sym (whole_unnumbered k.history) ∙ executed_so_far plan cs ok f.stages) ∙ sym (chain_onto executed f.made [])))

  moved : {k : Config} → Finished plan cs k.choices (unnumbered_events k.history) → ExactMoves plan cs k
  moved {k} f =
      let did = onto f.made [] in
      let told = tell did (keep (λ (e : Event). whole e.action.verb) (reverse k.history)) (in_order k f) in
      record {
        passes = onto f.called [];
        calls = walked plan cs f.stages;
        only = λ unused ps w. (way_same (Called plan.passes) (called_same plan.passes) w (walked plan cs f.stages)).1;
        made = told.made;
        from_passes = told_declarations did told.made told.alike
            ∙ (map_onto (λ (d : Did). d.declaration) f.made [] ∙ (ap (λ l. onto l []) (declares_all plan cs f.stages) ∙ sym (chain_onto (λ (p : Pass). p.declarations) f.called [])));
        gave = told_gave did told.made told.alike;
        in_order = told.all;
        from_start = λ a e. told_once a host did told.made told.alike (once_from_start a plan cs ok f.stages e);
        before_mark = λ a c e i t. told_moves a t did told.made told.alike ∙ none_before_mark a plan cs ok f.stages c e i t;
        from_write = λ a before after d e w. told_after a did told.made before after d told.alike e w (once_from_write a plan cs ok f.stages);
      }

pub demand3 : Claim3
demand3 plan ok cs = record {
  never_stuck = unstuck plan cs ok;
  reads_latest = reads plan cs ok;
  always_current = current plan cs ok;
  moves_exactly = λ k e. moved plan cs ok (at_end plan cs ok e);
}

pub filled : ClaimFilled
filled plan ok e cs =
    let d = demand3 plan ok cs in (
      d.never_stuck (λ s. absurd (true≢false (sym s ∙ e))),
      (λ k h r x b q v. let n = goes_on plan cs ok e k h r x b q in d.reads_latest k n.0 h n.1 r x b q v),
      (λ k h c i. d.always_current k h c i (λ s z. true≢false (sym s ∙ (scratch_own plan.layout c i ∙ none_scratch plan.layout e (array_of plan.layout c))))),
      (λ k h. (d.moves_exactly k h, λ a. (d.moves_exactly k h).from_start a (none_scratch plan.layout e a))),
    )

pub moves_add : ClaimMoved
moves_add plan ok cs k e =
    let f = at_end plan cs ok e in
    let m = moved plan cs ok f in
    let layout = plan.layout in
    let history = k.history in (
      m,
      sym (moved_unnumbered layout history)
          ∙ (moved_whole plan cs ok f.stages
          ∙ (ap (λ l. (tally layout l).moved) (whole_unnumbered history)
          ∙ (moved_unnumbered layout (whole_events history)
          ∙ (omega (arith, moved_onto layout (whole_events history) [])
          ∙ ap (λ l. (tally layout l).moved) (sym (keep_onto (λ (e : Event). whole e.action.verb) history []) ∙ m.in_order))))),
    )

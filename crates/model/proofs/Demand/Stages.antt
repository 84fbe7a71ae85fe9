-- The stages of a run of an expansion, and what holds at each: the walk through body 0, the declarations made,
-- the judge's rules for what is left of the pass, the needs and marks executed.
use Prim.Native.Nat.{ℕ}
use mathlib.Core.Path.{◌≡◌, refl, ap, sym, ◌∙◌}
use mathlib.Core.List.{List, [], ◌∷◌, map, reverse_aux as onto}
use mathlib.Core.Bool.{Bool, true, false, cond, not, false≢true}
use mathlib.Core.Option.{none}
use Rattle.model.specs.Lists.{keep, All}
use Rattle.model.specs.Sides.{Side, other, Layout}
use Rattle.model.specs.Records.{Verb, read, write, copy, need, mark, whole, Action, whole_of}
use Rattle.model.specs.Effects.{Flags, State, start, Deed, nothing, moves, deed, effect}
use Rattle.model.specs.Blocks.{Block, act, branch, loop, fixed, ◌then◌}
use Rattle.model.specs.Runs.{Event, lowest_unmet}
use Rattle.model.specs.Judging.{Mode, R, W, RW, Declaration, Pass, DeclaredPlan, pass_of, declared_once, permits, every_record, Way, at_end, passing, Itself, itself, Accepts}
use Rattle.model.specs.Expanding.{expand}
pub use Rattle.model.specs.Inner.Declared.{no_pass, declaration, declared}
use Rattle.model.specs.Demand.{Called, called, Calls}
use Rattle.model.proofs.Booleans.{and_out}
use Rattle.model.proofs.Needs.{flag_set, flag_clear}
use Rattle.model.proofs.Runs.{after_turn, event}
use Rattle.model.proofs.Stamps.{as_verb}
use Rattle.model.proofs.Demand.Blocks.{every_branch, every_loop, every_turn}
use Rattle.model.proofs.Demand.Walks.{way_branch, way_loop, way_turn}
use Rattle.model.proofs.Demand.Declarations.{barred, Rule, each_rule, rules_of, once_rest}

-- where a run stands: in the body of a pass, with a block of it left; with declarations of a pass still to make;
-- or between the need and the mark of an RW, with whether the need copied. Each with what is left of body 0.
pub data Stage : Type 0 where
  in_body : Pass → Block Action → Block ℕ → Stage
  declaring : Pass → List Declaration → Block ℕ → Stage
  marking : Pass → Side → ℕ → Bool → List Declaration → Block ℕ → Stage

-- the pass at hand, its declarations still to make, what is left of its body, and what is left of body 0
abbrev pub pass_at : Stage → Pass
pass_at (in_body p b t) = p
pass_at (declaring p ds t) = p
pass_at (marking p s a m ds t) = p

abbrev pub ahead : Stage → List Declaration
ahead (in_body p b t) = []
ahead (declaring p ds t) = ds
ahead (marking p s a m ds t) = declaration RW s a ∷ ds

abbrev pub body_left : Stage → Block Action
body_left (in_body p b t) = b
body_left (declaring p ds t) = p.body
body_left (marking p s a m ds t) = p.body

abbrev body0_left : Stage → Block ℕ
body0_left (in_body p b t) = t
body0_left (declaring p ds t) = t
body0_left (marking p s a m ds t) = t

-- the block that is left
abbrev pub left_of : List Pass → Stage → Block Action
left_of passes (in_body p b t) = b then expand passes t
left_of passes (declaring p ds t) = declared ds (p.body then expand passes t)
left_of passes (marking p s a m ds t) = act 0 (whole_of mark s a) (declared ds (p.body then expand passes t))

-- a declaration that a run has made, and whether its need copied
pub record Did : Type 0 where
  pub declaration : Declaration
  pub copied : Bool

-- what a need on side s came to: a copy, or nothing
abbrev pub copied_if : Bool → Side → Deed
copied_if m s = cond m (moves (other s) s) nothing

-- its needs and marks as executed, without their numbers (a mark comes to nothing, and `copied` is false of a W)
abbrev pub executed_as : Mode → Side → ℕ → Bool → List Event
executed_as m s a copied = go m
  where
    gave : Verb → Deed → Event
    gave v e = record { number = 0; action = whole_of v s a; deed = e }

    go : Mode → List Event
    go R = gave need (copied_if copied s) ∷ []
    go W = gave mark (copied_if copied s) ∷ []
    go RW = gave need (copied_if copied s) ∷ (gave mark nothing ∷ [])

abbrev pub executed : Did → List Event
executed d = executed_as d.declaration.mode d.declaration.side d.declaration.array d.copied

-- what a run has done: its state and history, the declarations made and the passes called, the last one first
pub record Progress : Type 0 where
  pub state : State
  pub history : List Event
  pub made : List Did
  pub called : List Pass

-- what each of a list gives, the last one first
abbrev pub all_onto : {A B : Type 0} → (A → List B) → List A → List B
all_onto f [] = []
all_onto f (x ∷ l) = onto (f x) (all_onto f l)

-- the declarations of these passes
abbrev declarations_of : List Pass → List Declaration
declarations_of ps = all_onto (λ (p : Pass). p.declarations) ps

-- the needs and marks of declarations made
abbrev executed_of : List Did → List Event
executed_of l = all_onto executed l

-- the needs and marks of a history
abbrev pub whole_events : List Event → List Event
whole_events l = keep (λ (e : Event). whole e.action.verb) l

abbrev making : Mode → Side → ℕ → Bool → Progress → Progress
making m s a copied n = record { state = n.state; history = n.history; made = record { declaration = declaration m s a; copied = copied } ∷ n.made; called = n.called }

abbrev pub calling : Pass → Progress → Progress
calling p n = record { state = n.state; history = n.history; made = n.made; called = p ∷ n.called }

module _ (plan : DeclaredPlan) (cs : List Bool) where
  abbrev executing : Action → Progress → Progress
  executing x n = record { state = effect plan.layout x n.state; history = event 0 x n.state ∷ n.history; made = n.made; called = n.called }

  abbrev first : Progress
  first = record { state = start plan.layout; history = []; made = []; called = [] }

  -- the stages that the run on the choices cs goes through, each with the choices left
  pub data Stages : Stage → List Bool → Progress → Type 0 where
    begins : Stages (in_body no_pass Block.done plan.body0) cs first
    calls : {p : Pass} {r b : ℕ} {t : Block ℕ} {ch : List Bool} {n : Progress} → Stages (in_body p Block.done (act r b t)) ch n →
        Stages (declaring (pass_of plan.passes b) (pass_of plan.passes b).declarations t) ch (calling (pass_of plan.passes b) n)
    enters : {p : Pass} {t : Block ℕ} {ch : List Bool} {n : Progress} → Stages (declaring p [] t) ch n → Stages (in_body p p.body t) ch n
    -- R; a need that is executed is met
    needs : {p : Pass} {s : Side} {a : ℕ} {ds : List Declaration} {t : Block ℕ} {ch : List Bool} {n : Progress} →
        Stages (declaring p (declaration R s a ∷ ds) t) ch n → lowest_unmet plan.layout (whole_of need s a) n.state ≡ none →
        Stages (declaring p ds t) ch (making R s a (not ((n.state.flags a).flag s)) (executing (whole_of need s a) n))
    -- W
    marks : {p : Pass} {s : Side} {a : ℕ} {ds : List Declaration} {t : Block ℕ} {ch : List Bool} {n : Progress} →
        Stages (declaring p (declaration W s a ∷ ds) t) ch n →
        Stages (declaring p ds t) ch (making W s a false (executing (whole_of mark s a) n))
    -- RW
    needs_first : {p : Pass} {s : Side} {a : ℕ} {ds : List Declaration} {t : Block ℕ} {ch : List Bool} {n : Progress} →
        Stages (declaring p (declaration RW s a ∷ ds) t) ch n → lowest_unmet plan.layout (whole_of need s a) n.state ≡ none →
        Stages (marking p s a (not ((n.state.flags a).flag s)) ds t) ch (executing (whole_of need s a) n)
    marks_then : {p : Pass} {s : Side} {a : ℕ} {m : Bool} {ds : List Declaration} {t : Block ℕ} {ch : List Bool} {n : Progress} →
        Stages (marking p s a m ds t) ch n →
        Stages (declaring p ds t) ch (making RW s a m (executing (whole_of mark s a) n))
    -- the body of a pass
    acts : {p : Pass} {r : ℕ} {x : Action} {b : Block Action} {t : Block ℕ} {ch : List Bool} {n : Progress} → Stages (in_body p (act r x b) t) ch n →
        Stages (in_body p b t) ch (executing x n)
    branches : {p : Pass} {r : ℕ} {x y b : Block Action} {t : Block ℕ} {c : Bool} {ch : List Bool} {n : Progress} → Stages (in_body p (branch r x y b) t) (c ∷ ch) n →
        Stages (in_body p (cond c x y then b) t) ch n
    loops : {p : Pass} {r : ℕ} {x b : Block Action} {t : Block ℕ} {c : Bool} {ch : List Bool} {n : Progress} → Stages (in_body p (loop r x b) t) (c ∷ ch) n →
        Stages (in_body p (cond c (x then loop r x b) b) t) ch n
    turns : {p : Pass} {r m : ℕ} {x b : Block Action} {t : Block ℕ} {ch : List Bool} {n : Progress} → Stages (in_body p (fixed r m x b) t) ch n →
        Stages (in_body p (x then after_turn r m x b) t) ch n
    -- body 0
    branches0 : {p : Pass} {r : ℕ} {x y t : Block ℕ} {c : Bool} {ch : List Bool} {n : Progress} → Stages (in_body p Block.done (branch r x y t)) (c ∷ ch) n →
        Stages (in_body p Block.done (cond c x y then t)) ch n
    loops0 : {p : Pass} {r : ℕ} {x t : Block ℕ} {c : Bool} {ch : List Bool} {n : Progress} → Stages (in_body p Block.done (loop r x t)) (c ∷ ch) n →
        Stages (in_body p Block.done (cond c (x then loop r x t) t)) ch n
    turns0 : {p : Pass} {r m : ℕ} {x t : Block ℕ} {ch : List Bool} {n : Progress} → Stages (in_body p Block.done (fixed r m x t)) ch n →
        Stages (in_body p Block.done (x then after_turn r m x t)) ch n

  -- whatever goes on from a stage, through what is left of the pass and of body 0, has gone from the start
  record WalksOn (b : Block Action) (t : Block ℕ) (ch : List Bool) (ps : List Pass) : Type 0 where
    from_start : (ds es : List Bool) (w : List Action) (qs : List Pass) → Way Itself b ch ds w → Way (Called plan.passes) t ds es qs →
        Way (Called plan.passes) plan.body0 cs es (onto ps qs)

  through_done : {t : Block ℕ} {ch ds es : List Bool} {w : List Action} {qs : List Pass} →
      Way Itself Block.done ch ds w → Way (Called plan.passes) t ds es qs → Way (Called plan.passes) t ch es qs
  through_done at_end k = k

  walks : {k : Stage} {ch : List Bool} {n : Progress} → Stages k ch n → WalksOn (body_left k) (body0_left k) ch n.called
  walks begins = record { from_start = λ ds es w qs u v. through_done u v }
  walks (calls {r = r} {ch = ch} h) =
      let i = walks h in
      record { from_start = λ ds es w qs u v. i.from_start ch es [] _ at_end (passing {r = r} (called u) v) }
  walks (enters h) = walks h
  walks (needs h u) = walks h
  walks (marks h) = walks h
  walks (needs_first h u) = walks h
  walks (marks_then h) = walks h
  walks (acts {x = x} h) =
      let i = walks h in
      record { from_start = λ ds es w qs u v. i.from_start ds es (x ∷ w) qs (passing itself u) v }
  walks (branches {r = r} {x} {y} {b} {c = c} h) =
      let i = walks h in
      record { from_start = λ ds es w qs u v. i.from_start ds es w qs (way_branch Itself r c x y b u) v }
  walks (loops {r = r} {x} {b} {c = c} h) =
      let i = walks h in
      record { from_start = λ ds es w qs u v. i.from_start ds es w qs (way_loop Itself r c x b u) v }
  walks (turns {r = r} {m} {x} {b} h) =
      let i = walks h in
      record { from_start = λ ds es w qs u v. i.from_start ds es w qs (way_turn Itself r m x b u) v }
  walks (branches0 {r = r} {x} {y} {t} {c} {ch} h) =
      let i = walks h in
      record { from_start = λ ds es w qs u v. i.from_start (c ∷ ch) es [] qs at_end (way_branch (Called plan.passes) r c x y t (through_done u v)) }
  walks (loops0 {r = r} {x} {t} {c} {ch} h) =
      let i = walks h in
      record { from_start = λ ds es w qs u v. i.from_start (c ∷ ch) es [] qs at_end (way_loop (Called plan.passes) r c x t (through_done u v)) }
  walks (turns0 {r = r} {m} {x} {t} {ch} h) =
      let i = walks h in
      record { from_start = λ ds es w qs u v. i.from_start ch es [] qs at_end (way_turn (Called plan.passes) r m x t (through_done u v)) }

  -- at the end body 0 has been walked through
  pub walked : {p : Pass} {ch : List Bool} {n : Progress} → Stages (in_body p Block.done Block.done) ch n →
      Calls plan cs ch (onto n.called [])
  walked {ch = ch} {n} h = (walks h).from_start ch ch [] [] at_end at_end

  -- the declarations made, and then those ahead, are those of the passes called
  pub declares_all : {k : Stage} {ch : List Bool} {n : Progress} → Stages k ch n →
      onto (ahead k) (map (λ (d : Did). d.declaration) n.made) ≡ declarations_of n.called
  declares_all begins = refl
  declares_all (calls {b = b} h) = ap (onto (pass_of plan.passes b).declarations) (declares_all h)
  declares_all (enters h) = declares_all h
  declares_all (needs h u) = declares_all h
  declares_all (marks h) = declares_all h
  declares_all (needs_first h u) = declares_all h
  declares_all (marks_then h) = declares_all h
  declares_all (acts h) = declares_all h
  declares_all (branches h) = declares_all h
  declares_all (loops h) = declares_all h
  declares_all (turns h) = declares_all h
  declares_all (branches0 h) = declares_all h
  declares_all (loops0 h) = declares_all h
  declares_all (turns0 h) = declares_all h

-- what the judge accepts holds of what is ahead in pass p: of the declarations ds and the block b
pub record Judged (layout : Layout) (p : Pass) (ds : List Declaration) (b : Block Action) : Type 0 where
  pub rules : All (Rule layout p) ds
  pub once : declared_once ds ≡ true
  pub permitted : every_record (permits p.declarations) b ≡ true

judged_rest : {layout : Layout} {p : Pass} {d : Declaration} {ds : List Declaration} {b : Block Action} → Judged layout p (d ∷ ds) b → Judged layout p ds b
judged_rest {d = d} {ds} k = record { rules = k.rules.1; once = once_rest d ds k.once; permitted = k.permitted }

-- the record at hand
pub permitted_now : {layout : Layout} {p : Pass} {ds : List Declaration} {r : ℕ} {b : Block Action} (x : Action) → Judged layout p ds (act r x b) →
    permits p.declarations x ≡ true
permitted_now {p = p} {b = b} x k = (and_out (permits p.declarations x) (every_record (permits p.declarations) b) k.permitted).0

module _ (plan : DeclaredPlan) (cs : List Bool) (ok : Accepts plan) where
  pub judged : {k : Stage} {ch : List Bool} {n : Progress} → Stages plan cs k ch n → Judged plan.layout (pass_at k) (ahead k) (body_left k)
  judged begins = record { rules = tt; once = refl; permitted = refl }
  judged (calls {b = b} h) =
      let p = pass_of plan.passes b in
      let g = rules_of plan.layout plan.passes ok b in
      record { rules = each_rule plan.layout p g; once = g.once; permitted = g.permitted }
  judged (enters h) = judged h
  judged (needs h u) = judged_rest (judged h)
  judged (marks h) = judged_rest (judged h)
  judged (needs_first h u) = judged h
  judged (marks_then h) = judged_rest (judged h)
  judged (acts {p = p} {x = x} {b} h) =
      let f = permits p.declarations in
      record { rules = tt; once = refl; permitted = (and_out (f x) (every_record f b) (judged h).permitted).1 }
  judged (branches {p = p} {r} {x} {y} {b} {c = c} h) =
      record { rules = tt; once = refl; permitted = every_branch (permits p.declarations) r c x y b (judged h).permitted }
  judged (loops {p = p} {r} {x} {b} {c = c} h) =
      record { rules = tt; once = refl; permitted = every_loop (permits p.declarations) r c x b (judged h).permitted }
  judged (turns {p = p} {r} {m} {x} {b} h) =
      record { rules = tt; once = refl; permitted = every_turn (permits p.declarations) r m x b (judged h).permitted }
  judged (branches0 h) = judged h
  judged (loops0 h) = judged h
  judged (turns0 h) = judged h

  -- the needs and marks executed are those of the declarations made; the need of an RW comes then the RW counts as made
  abbrev ExecutedAt : Stage → Progress → Type 0
  ExecutedAt (in_body p b t) n = whole_events n.history ≡ executed_of n.made
  ExecutedAt (declaring p ds t) n = whole_events n.history ≡ executed_of n.made
  ExecutedAt (marking p s a m ds t) n = whole_events n.history ≡ record { number = 0; action = whole_of need s a; deed = copied_if m s } ∷ executed_of n.made

  pub permitted_whole : (ds : List Declaration) (x : Action) (σ : State) (l : List Event) → permits ds x ≡ true → whole_events (event 0 x σ ∷ l) ≡ whole_events l
  permitted_whole ds x σ l e = go x.verb e
    where
      go : (v : Verb) → permits ds (as_verb v x) ≡ true → whole_events (event 0 (as_verb v x) σ ∷ l) ≡ whole_events l
      go read e = refl
      go write e = refl
      go copy e = refl
      go need e = absurd (false≢true (sym (barred x.side x.name ds) ∙ e))
      go mark e = absurd (false≢true (sym (barred x.side x.name ds) ∙ e))

  -- what a need came to
  need_deed : (s : Side) (a : ℕ) (σ : State) → deed (whole_of need s a) σ ≡ copied_if (not ((σ.flags a).flag s)) s
  need_deed s a σ = go ((σ.flags a).flag s) refl
    where
      go : (b : Bool) → (σ.flags a).flag s ≡ b → deed (whole_of need s a) σ ≡ copied_if (not b) s
      go true e = ap (λ (r : Deed × Flags). r.0) (flag_set s (σ.flags a) e)
      go false e = ap (λ (r : Deed × Flags). r.0) (flag_clear s (σ.flags a) e)

  pub executed_so_far : {k : Stage} {ch : List Bool} {n : Progress} → Stages plan cs k ch n → ExecutedAt k n
  executed_so_far begins = refl
  executed_so_far (calls h) = executed_so_far h
  executed_so_far (enters h) = executed_so_far h
  executed_so_far (needs {s = s} {a} {n = n} h u) = λ i. record { number = 0; action = whole_of need s a; deed = need_deed s a n.state i } ∷ executed_so_far h i
  executed_so_far (marks {s = s} {a} {n = n} h) = ap (◌∷◌ (event 0 (whole_of mark s a) n.state)) (executed_so_far h)
  executed_so_far (needs_first {s = s} {a} {n = n} h u) = λ i. record { number = 0; action = whole_of need s a; deed = need_deed s a n.state i } ∷ executed_so_far h i
  executed_so_far (marks_then {s = s} {a} {n = n} h) = ap (◌∷◌ (event 0 (whole_of mark s a) n.state)) (executed_so_far h)
  executed_so_far (acts {p = p} {x = x} {n = n} h) = permitted_whole p.declarations x n.state n.history (permitted_now x (judged h)) ∙ executed_so_far h
  executed_so_far (branches h) = executed_so_far h
  executed_so_far (loops h) = executed_so_far h
  executed_so_far (turns h) = executed_so_far h
  executed_so_far (branches0 h) = executed_so_far h
  executed_so_far (loops0 h) = executed_so_far h
  executed_so_far (turns0 h) = executed_so_far h

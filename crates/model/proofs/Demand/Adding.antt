-- The cells that a run moves are those that its needs and marks move.
use Prim.Native.Nat.{ℕ, ◌+◌}
use mathlib.Core.Path.{◌≡◌, refl, ap, sym, ◌∙◌}
use mathlib.Core.List.{List, [], ◌∷◌, reverse_aux as onto}
use mathlib.Core.Bool.{Bool, true, false≢true}
use native.Mathlib.Omega.{arith}
use Rattle.model.specs.declared.Tally.{Tally}
use Rattle.model.specs.Sides.{Layout}
use Rattle.model.specs.Records.{Verb, read, write, copy, need, mark, Action, whole_of, cover_count}
use Rattle.model.specs.Effects.{State, Deed, nothing, gets, puts, moves, counted, deed}
use Rattle.model.specs.Runs.{Event, tally}
use Rattle.model.specs.Judging.{Declaration, DeclaredPlan, permits, Accepts}
use Rattle.model.proofs.Runs.{event}
use Rattle.model.proofs.Stamps.{as_verb}
use Rattle.model.proofs.Demand.Declarations.{barred}
use Rattle.model.proofs.Demand.Stages.{Stage, Progress, Stages, begins, calls, enters, needs, marks, needs_first, marks_then, acts, branches, loops, turns, branches0, loops0, turns0, judged, permitted_now, whole_events, permitted_whole}

-- what one more record moves does not depend on what was moved before
added : (d : Deed) (n : ℕ) (t u : Tally) → t.moved ≡ u.moved → (counted d n t).moved ≡ (counted d n u).moved
added nothing n t u e = e
added (gets s) n t u e = e
added (puts s) n t u e = e
added (moves from to) n t u e = omega (arith, e)

module _ (layout : Layout) where
  -- a record of a pass moves nothing
  still : (ds : List Declaration) (x : Action) (σ : State) (l : List Event) → permits ds x ≡ true → (tally layout (event 0 x σ ∷ l)).moved ≡ (tally layout l).moved
  still ds x σ l e = go x.verb e
    where
      go : (v : Verb) → permits ds (as_verb v x) ≡ true → (tally layout (event 0 (as_verb v x) σ ∷ l)).moved ≡ (tally layout l).moved
      go read e = refl
      go write e = refl
      go copy e = absurd (false≢true (sym (barred x.side x.name ds) ∙ e))
      go need e = absurd (false≢true (sym (barred x.side x.name ds) ∙ e))
      go mark e = refl

  -- the order makes no difference
  pub moved_onto : (l rest : List Event) → (tally layout (onto l rest)).moved ≡ (tally layout l).moved + (tally layout rest).moved
  moved_onto [] rest = omega arith
  moved_onto (e ∷ l) rest = moved_onto l (e ∷ rest) ∙ go e.deed
    where
      n : ℕ
      n = cover_count layout e.action

      go : (d : Deed) → (tally layout l).moved + (counted d n (tally layout rest)).moved ≡ (counted d n (tally layout l)).moved + (tally layout rest).moved
      go nothing = refl
      go (gets s) = refl
      go (puts s) = refl
      go (moves from to) = omega arith

module _ (plan : DeclaredPlan) (cs : List Bool) (ok : Accepts plan) where
  one_more : (x : Action) (σ : State) (l : List Event) → (tally plan.layout l).moved ≡ (tally plan.layout (whole_events l)).moved →
      (tally plan.layout (event 0 x σ ∷ l)).moved ≡ (tally plan.layout (event 0 x σ ∷ whole_events l)).moved
  one_more x σ l e = added (deed x σ) (cover_count plan.layout x) (tally plan.layout l) (tally plan.layout (whole_events l)) e

  pub moved_whole : {k : Stage} {ch : List Bool} {n : Progress} → Stages plan cs k ch n →
      (tally plan.layout n.history).moved ≡ (tally plan.layout (whole_events n.history)).moved
  moved_whole begins = refl
  moved_whole (calls h) = moved_whole h
  moved_whole (enters h) = moved_whole h
  moved_whole (needs {s = s} {a} {n = n} h u) = one_more (whole_of need s a) n.state n.history (moved_whole h)
  moved_whole (marks {s = s} {a} {n = n} h) = one_more (whole_of mark s a) n.state n.history (moved_whole h)
  moved_whole (needs_first {s = s} {a} {n = n} h u) = one_more (whole_of need s a) n.state n.history (moved_whole h)
  moved_whole (marks_then {s = s} {a} {n = n} h) = one_more (whole_of mark s a) n.state n.history (moved_whole h)
  moved_whole (acts {p = p} {x = x} {n = n} h) =
      let permitted = permitted_now x (judged plan cs ok h) in
      still plan.layout p.declarations x n.state n.history permitted
      ∙ (moved_whole h ∙ sym (ap (λ l. (tally plan.layout l).moved) (permitted_whole plan cs ok p.declarations x n.state n.history permitted)))
  moved_whole (branches h) = moved_whole h
  moved_whole (loops h) = moved_whole h
  moved_whole (turns h) = moved_whole h
  moved_whole (branches0 h) = moved_whole h
  moved_whole (loops0 h) = moved_whole h
  moved_whole (turns0 h) = moved_whole h

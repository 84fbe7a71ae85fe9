-- Record numbers make no difference to a run but to the numbers that it ends with.
use Prim.Native.Nat.{ℕ, zero, suc}
use mathlib.Core.Path.{◌≡◌, refl, ap, sym}
use mathlib.Core.List.{List, [], ◌∷◌, map}
use mathlib.Core.Bool.{Bool, true, false}
use mathlib.Core.Option.{Option, none, some}
use Rattle.model.specs.Sides.{Layout}
use Rattle.model.specs.Effects.{State}
use Rattle.model.specs.Records.{Action}
use Rattle.model.specs.Blocks.{Block, done, act, branch, loop, fixed, ◌then◌, numbered}
use Rattle.model.specs.Runs.{Event, Config, Ending, finished, stopped, out_of_choices, Step, next, ends, lowest_unmet, stop_or, step, carried_on, proper}
use Rattle.model.proofs.Runs.{config}

-- a block with every record number 0
abbrev pub unnumbered : Block Action → Block Action
unnumbered done = done
unnumbered (act r x b) = act 0 x (unnumbered b)
unnumbered (branch r x y b) = branch 0 (unnumbered x) (unnumbered y) (unnumbered b)
unnumbered (loop r x b) = loop 0 (unnumbered x) (unnumbered b)
unnumbered (fixed r n x b) = fixed 0 n (unnumbered x) (unnumbered b)

unnumbered_then : (a b : Block Action) → unnumbered (a then b) ≡ unnumbered a then unnumbered b
unnumbered_then done b = refl
unnumbered_then (act r x a) b = ap (act 0 x) (unnumbered_then a b)
unnumbered_then (branch r x y a) b = ap (branch 0 (unnumbered x) (unnumbered y)) (unnumbered_then a b)
unnumbered_then (loop r x a) b = ap (loop 0 (unnumbered x)) (unnumbered_then a b)
unnumbered_then (fixed r n x a) b = ap (fixed 0 n (unnumbered x)) (unnumbered_then a b)

pub unnumbered_same : (r : ℕ) (b : Block Action) → unnumbered (numbered r b) ≡ unnumbered b
unnumbered_same r done = refl
unnumbered_same r (act q x b) = ap (act 0 x) (unnumbered_same (suc r) b)
unnumbered_same r (branch q x y b) = rw (unnumbered_same _ x, unnumbered_same _ y, unnumbered_same _ b)
unnumbered_same r (loop q x b) = rw (unnumbered_same _ x, unnumbered_same _ b)
unnumbered_same r (fixed q n x b) = rw (unnumbered_same _ x, unnumbered_same _ b)

-- executed records with every number 0
abbrev pub unnumbered_event : Event → Event
unnumbered_event e = record { number = 0; action = e.action; deed = e.deed }

abbrev pub unnumbered_events : List Event → List Event
unnumbered_events l = map unnumbered_event l

abbrev pub unnumbered_config : Config → Config
unnumbered_config k = config (unnumbered k.left) k.choices k.state (unnumbered_events k.history)

abbrev unnumbered_ending : Ending → Ending
unnumbered_ending finished = finished
unnumbered_ending (stopped r c) = stopped 0 c
unnumbered_ending (out_of_choices r) = out_of_choices 0

abbrev pub unnumbered_step : Step → Step
unnumbered_step (next k) = next (unnumbered_config k)
unnumbered_step (ends e) = ends (unnumbered_ending e)

module _ (layout : Layout) (σ : State) (l : List Event) where
  abbrev to : List Bool → Block Action → Step
  to cs b = next (config b cs σ (unnumbered_events l))

  pub step_unnumbered : (b : Block Action) (cs : List Bool) → step proper layout (config (unnumbered b) cs σ (unnumbered_events l)) ≡ unnumbered_step (step proper layout (config b cs σ l))
  step_unnumbered done cs = refl
  step_unnumbered (act r x b) cs = go (lowest_unmet layout x σ)
    where
      go : (o : Option ℕ) →
          stop_or 0 o (step carried_on layout (config (act 0 x (unnumbered b)) cs σ (unnumbered_events l))) ≡ unnumbered_step (stop_or r o (step carried_on layout (config (act r x b) cs σ l)))
      go none = refl
      go (some c) = refl
  step_unnumbered (branch r x y b) [] = refl
  step_unnumbered (branch r x y b) (true ∷ cs) = ap (to cs) (sym (unnumbered_then x b))
  step_unnumbered (branch r x y b) (false ∷ cs) = ap (to cs) (sym (unnumbered_then y b))
  step_unnumbered (loop r x b) [] = refl
  step_unnumbered (loop r x b) (true ∷ cs) = ap (to cs) (sym (unnumbered_then x (loop r x b)))
  step_unnumbered (loop r x b) (false ∷ cs) = refl
  step_unnumbered (fixed r zero x b) cs = ap (to cs) (sym (unnumbered_then x b))
  step_unnumbered (fixed r (suc n) x b) cs = ap (to cs) (sym (unnumbered_then x (fixed r n x b)))

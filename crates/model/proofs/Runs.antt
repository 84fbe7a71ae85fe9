-- Steps of a run and of a carried-on run: a run is a carried-on run, and what every executed record keeps holds along both.
use Prim.Native.Nat.{ℕ, zero, suc}
use mathlib.Core.Path.{◌≡◌, refl, sym, ◌∙◌, subst}
use mathlib.Core.List.{List, [], ◌∷◌}
use mathlib.Core.Bool.{Bool, true≢false}
use mathlib.Core.Option.{Option, none, some}
use Rattle.model.specs.Sides.{Layout}
use Rattle.model.specs.Records.{Action}
use Rattle.model.specs.Effects.{State, start, effect}
use Rattle.model.specs.Blocks.{Block, done, act, branch, loop, fixed, ◌then◌, Plan}
use Rattle.model.specs.Runs.{Event, Config, Manner, next, stops_in, stop_or, lowest_unmet, step, here, onward, Run, carried_on, proper}
use Rattle.model.specs.Claims.{ClaimCarried}
pub use Rattle.model.specs.Inner.Events.{config, after_turn, event}

pub next_same : (k k' : Config) → next k ≡ next k' → k ≡ k'
next_same k k' e = cc

module _ (layout : Layout) where
  -- a turn of a fixed loop
  pub step_turn : (manner : Manner) (r n : ℕ) (x b : Block Action) (cs : List Bool) (σ : State) (l : List Event) →
      step manner layout (config (fixed r n x b) cs σ l) ≡ next (config (x then after_turn r n x b) cs σ l)
  step_turn manner r zero x b cs σ l = refl
  step_turn manner r (suc n) x b cs σ l = refl

  pub next_carry : (b : Block Action) (cs : List Bool) (σ : State) (l : List Event) (k : Config) → step proper layout (config b cs σ l) ≡ next k → step carried_on layout (config b cs σ l) ≡ next k
  next_carry done cs σ l k e = e
  next_carry (act r x b) cs σ l k e = go (lowest_unmet layout x σ) e
    where
      go : (o : Option ℕ) → stop_or r o (step carried_on layout (config (act r x b) cs σ l)) ≡ next k → step carried_on layout (config (act r x b) cs σ l) ≡ next k
      go none f = f
      go (some c) f = cc
  next_carry (branch r x y b) cs σ l k e = e
  next_carry (loop r x b) cs σ l k e = e
  next_carry (fixed r n x b) cs σ l k e = step_turn carried_on r n x b cs σ l ∙ (sym (step_turn proper r n x b cs σ l) ∙ e)

pub carried : (plan : Plan) {cs : List Bool} {k : Config} → Run proper plan cs k → Run carried_on plan cs k
carried plan here = here
carried plan (onward {k = k} {k'} h e) = onward (carried plan h) (next_carry plan.layout k.left k.choices k.state k.history k' e)

pub proper_carried : ClaimCarried
proper_carried plan cs k = carried plan

-- what holds at the start and is kept by every record at which the run does not stop
module _ (manner : Manner) (plan : Plan) (P : State → List Event → Type 0) (first : P (start plan.layout) [])
    (keeps : (r : ℕ) (x : Action) (σ : State) (l : List Event) → stops_in manner plan.layout x σ ≡ none → P σ l → P (effect plan.layout x σ) (event r x σ ∷ l)) where
  kept_on : (b : Block Action) (cs : List Bool) (σ : State) (l : List Event) (k : Config) → step manner plan.layout (config b cs σ l) ≡ next k → P σ l → P k.state k.history
  kept_on done cs σ l k e p = absurd (true≢false (cc))
  kept_on (act r x b) cs σ l k e p = go (stops_in manner plan.layout x σ) refl e
    where
      go : (o : Option ℕ) → stops_in manner plan.layout x σ ≡ o → stop_or r o (step carried_on plan.layout (config (act r x b) cs σ l)) ≡ next k → P k.state k.history
      go none u f = subst (λ (m : Config). P m.state m.history) (next_same _ k f) (keeps r x σ l u p)
      go (some c) u f = absurd (true≢false (cc))
  kept_on (branch r x y b) [] σ l k e p = absurd (true≢false (cc))
  kept_on (branch r x y b) (c ∷ cs) σ l k e p = subst (λ (m : Config). P m.state m.history) (next_same _ k e) p
  kept_on (loop r x b) [] σ l k e p = absurd (true≢false (cc))
  kept_on (loop r x b) (c ∷ cs) σ l k e p = subst (λ (m : Config). P m.state m.history) (next_same _ k e) p
  kept_on (fixed r n x b) cs σ l k e p = subst (λ (m : Config). P m.state m.history) (next_same _ k (sym (step_turn plan.layout manner r n x b cs σ l) ∙ e)) p

  pub along : {cs : List Bool} {k : Config} → Run manner plan cs k → P k.state k.history
  along here = first
  along (onward {k = k} {k'} h e) = kept_on k.left k.choices k.state k.history k' e (along h)

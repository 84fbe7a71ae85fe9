-- A carried-on run stops somewhere exactly if a run gets stuck.
use Prim.Native.Nat.{ℕ}
use mathlib.Core.Path.{◌≡◌, refl, sym, ◌∙◌}
use mathlib.Core.Logic.{◌⊎◌, inl, inr}
use mathlib.Core.List.{List, [], ◌∷◌}
use mathlib.Core.Bool.{Bool, true≢false}
use mathlib.Core.Option.{Option, none, some}
use native.Mathlib.Omega.{arith}
use Rattle.model.specs.Sides.{cell_count}
use Rattle.model.specs.Effects.{State}
use Rattle.model.specs.Records.{Action}
use Rattle.model.specs.Blocks.{Block, done, act, branch, loop, fixed, Plan}
use Rattle.model.specs.Runs.{Event, Config, next, ends, stopped, lowest_unmet, stop_or, step, here, onward, Run, carried_on, proper, Ends}
use Rattle.model.specs.Check.{MayStop}
use Rattle.model.specs.Claims.{ClaimAccepted}
use Rattle.model.proofs.Unmet.{unmet_is, unmet_some}
use Rattle.model.proofs.Runs.{config, step_turn, carried}

-- some run of the plan gets stuck
record Stuck (plan : Plan) : Type 0 where
  choices : List Bool
  config : Config
  number : ℕ
  cell : ℕ
  ends : Ends plan choices config (stopped number cell)

module _ (plan : Plan) where
  -- a carried-on run is a run, or a run on the same choices gets stuck
  run_on : (b : Block Action) (cs : List Bool) (σ : State) (l : List Event) {ds : List Bool} (k : Config) →
      Run proper plan ds (config b cs σ l) → step carried_on plan.layout (config b cs σ l) ≡ next k → Run proper plan ds k ⊎ Stuck plan
  run_on done cs σ l k h e = inl (onward h e)
  run_on (act r x b) cs σ l {ds} k h e = go (lowest_unmet plan.layout x σ) refl
    where
      go : (o : Option ℕ) → lowest_unmet plan.layout x σ ≡ o → Run proper plan ds k ⊎ Stuck plan
      go none q = inl (onward {k' = k} h (rw q e))
      go (some c) q = inr (record { choices = ds; config = config (act r x b) cs σ l; number = r; cell = c; ends = record { run = h; last = rw q } })
  run_on (branch r x y b) cs σ l k h e = inl (onward h e)
  run_on (loop r x b) cs σ l k h e = inl (onward h e)
  run_on (fixed r n x b) cs σ l k h e = inl (onward h (step_turn plan.layout proper r n x b cs σ l ∙ (sym (step_turn plan.layout carried_on r n x b cs σ l) ∙ e)))

  run_or_stuck : {cs : List Bool} {k : Config} → Run carried_on plan cs k → Run proper plan cs k ⊎ Stuck plan
  run_or_stuck here = inl here
  run_or_stuck (onward {k = k} {k'} h e) = elim (run_or_stuck h) [ inl g ↦ run_on k.left k.choices k.state k.history k' g e | inr s ↦ inr s ]

  stops_stuck : (r c : ℕ) → MayStop plan r c → Stuck plan
  stops_stuck r c m = elim (run_or_stuck m.run) [
    | inl h ↦ let u = unmet_some plan.layout m.action m.config.state 0 (cell_count plan.layout) c m.unmet (omega arith) (omega arith) in
        record { choices = m.choices; config = m.config; number = r; cell = u.0; ends = record { run = h; last = rw (m.left, u.1) } }
    | inr s ↦ s
  ]

  stuck_on : (b : Block Action) (cs : List Bool) (σ : State) (l : List Event) (r c : ℕ) {ds : List Bool} →
      Run carried_on plan ds (config b cs σ l) → step proper plan.layout (config b cs σ l) ≡ ends (stopped r c) → MayStop plan r c
  stuck_on done cs σ l r c h e = absurd (true≢false (cc))
  stuck_on (act q x b) cs σ l r c {ds} h e = go (lowest_unmet plan.layout x σ) refl e
    where
      go : (o : Option ℕ) → lowest_unmet plan.layout x σ ≡ o → stop_or q o (step carried_on plan.layout (config (act q x b) cs σ l)) ≡ ends (stopped r c) → MayStop plan r c
      go none f e = absurd (true≢false (cc))
      go (some d) f e = let u = unmet_is plan.layout x σ 0 (cell_count plan.layout) c (cc) in
          record { cell = omega (arith, u.1); choices = ds; config = config (act q x b) cs σ l; run = h; action = x; rest = b; left = cc; unmet = u.0 }
  stuck_on (branch q x y b) [] σ l r c h e = absurd (true≢false (cc))
  stuck_on (branch q x y b) (d ∷ cs) σ l r c h e = absurd (true≢false (cc))
  stuck_on (loop q x b) [] σ l r c h e = absurd (true≢false (cc))
  stuck_on (loop q x b) (d ∷ cs) σ l r c h e = absurd (true≢false (cc))
  stuck_on (fixed q n x b) cs σ l r c h e = absurd (true≢false (cc (step_turn plan.layout proper q n x b cs σ l)))

  stuck_stops : (s : Stuck plan) → MayStop plan s.number s.cell
  stuck_stops s = let k = s.config in stuck_on k.left k.choices k.state k.history s.number s.cell (carried plan s.ends.run) s.ends.last

pub accepted_iff : ClaimAccepted
accepted_iff plan = (
  λ h cs k r c e. h r c (stuck_stops plan (record { choices = cs; config = k; number = r; cell = c; ends = e })),
  λ h r c m. let s = stops_stuck plan r c m in h s.choices s.config s.number s.cell s.ends,
)

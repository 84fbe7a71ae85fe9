-- Logs of runs: every run has one; one entry more and one less; more choices than are used; stops aside.
use Prim.Native.Nat.{ℕ}
use mathlib.Core.Path.{◌≡◌, refl, sym, ap, ◌∙◌, subst}
use mathlib.Core.List.{List, [], ◌∷◌, ◌++◌}
use mathlib.Core.Bool.{Bool, true≢false}
use mathlib.Core.Option.{Option, none, some}
use lib.ListN.{get_or, take}
use Rattle.model.specs.Sides.{Layout}
use Rattle.model.specs.Records.{Action}
use Rattle.model.specs.Effects.{State, effect}
use Rattle.model.specs.Blocks.{Block, ◌then◌}
use Rattle.model.specs.Runs.{Event, Config, Manner, proper, carried_on, Step, stop_or, stops_in, step, Reached, here, onward, begin}
use Rattle.model.proofs.Runs.{config, event, next_same, step_turn, next_carry, after_turn}
use Rattle.model.proofs.Stuck.{accepted_iff}
use Rattle.logs.specs.Logs.{next_number, Logs}
use Rattle.logs.specs.Claims.{ClaimRuns, ClaimChecked}

-- more choices than are used
abbrev pub lengthened : List Bool → Config → Config
lengthened ds k = config k.left (k.choices ++ ds) k.state k.history

module _ (manner : Manner) (layout : Layout) where
  -- one entry more
  pub log_more : (l : List ℕ) {r : ℕ} (k k₁ : Config) {k₂ : Config} → Logs manner layout k l k₁ → next_number k₁.left ≡ some r → step manner layout k₁ ≡ Step.next k₂ → Logs manner layout k (l ++ (r ∷ [])) k₂
  log_more [] {r} k k₁ {k₂} e n s = (k₂, subst (λ (m : Config). next_number m.left ≡ some r) (sym e) n, subst (λ (m : Config). step manner layout m ≡ Step.next k₂) (sym e) s, refl)
  log_more (a ∷ l) k k₁ (j, m, t, rest) n s = (j, m, t, log_more l j k₁ rest n s)

  -- and one less
  pub record Last (k : Config) (l : List ℕ) (r : ℕ) (k₂ : Config) : Type 0 where
    pub config : Config
    pub logs : Logs manner layout k l config
    pub number : next_number config.left ≡ some r
    pub goes : step manner layout config ≡ Step.next k₂

  pub log_last : (l : List ℕ) (r : ℕ) (k k₂ : Config) → Logs manner layout k (l ++ (r ∷ [])) k₂ → Last k l r k₂
  log_last [] r k k₂ (j, n, s, e) = record { config = k; logs = refl; number = n; goes = s ∙ ap Step.next e }
  log_last (a ∷ l) r k k₂ (j, n, s, rest) = let w = log_last l r j k₂ rest in record { config = w.config; logs = (j, n, s, w.logs); number = w.number; goes = w.goes }

  -- a step leads on from some record
  pub stepped_number : (b : Block Action) (cs : List Bool) (σ : State) (l : List Event) (k : Config) → step manner layout (config b cs σ l) ≡ Step.next k → (r : ℕ) × (next_number b ≡ some r)
  stepped_number Block.done cs σ l k e = absurd (true≢false (cc))
  stepped_number (Block.act r x b) cs σ l k e = (r, refl)
  stepped_number (Block.branch r x y b) cs σ l k e = (r, refl)
  stepped_number (Block.loop r x b) cs σ l k e = (r, refl)
  stepped_number (Block.fixed r n x b) cs σ l k e = (r, refl)

  -- a step with more choices
  longer_stop : (r : ℕ) (o : Option ℕ) (ds : List Bool) (j k : Config) → stop_or r o (Step.next j) ≡ Step.next k → stop_or r o (Step.next (lengthened ds j)) ≡ Step.next (lengthened ds k)
  longer_stop r none ds j k e = ap (λ (m : Config). Step.next (lengthened ds m)) (next_same j k e)
  longer_stop r (some c) ds j k e = absurd (true≢false (cc))

  step_longer : (ds : List Bool) (b : Block Action) (cs : List Bool) (σ : State) (l : List Event) (k : Config) → step manner layout (config b cs σ l) ≡ Step.next k → step manner layout (config b (cs ++ ds) σ l) ≡ Step.next (lengthened ds k)
  step_longer ds Block.done cs σ l k e = absurd (true≢false (cc))
  step_longer ds (Block.act r x b) cs σ l k e = longer_stop r (stops_in manner layout x σ) ds (config b cs (effect layout x σ) (event r x σ ∷ l)) k e
  step_longer ds (Block.branch r x y b) [] σ l k e = absurd (true≢false (cc))
  step_longer ds (Block.branch r x y b) (c ∷ cs) σ l k e = ap (λ (m : Config). Step.next (lengthened ds m)) (next_same _ k e)
  step_longer ds (Block.loop r x b) [] σ l k e = absurd (true≢false (cc))
  step_longer ds (Block.loop r x b) (c ∷ cs) σ l k e = ap (λ (m : Config). Step.next (lengthened ds m)) (next_same _ k e)
  step_longer ds (Block.fixed r n x b) cs σ l k e =
      let q : config (x then after_turn r n x b) cs σ l ≡ k = next_same _ k (sym (step_turn layout manner r n x b cs σ l) ∙ e) in
      step_turn layout manner r n x b (cs ++ ds) σ l ∙ ap (λ (m : Config). Step.next (lengthened ds m)) q

  pub log_longer : (ds : List Bool) (l : List ℕ) (k k' : Config) → Logs manner layout k l k' → Logs manner layout (lengthened ds k) l (lengthened ds k')
  log_longer ds [] k k' e = ap (lengthened ds) e
  log_longer ds (a ∷ l) k k' (j, n, s, rest) = (lengthened ds j, n, step_longer ds k.left k.choices k.state k.history j s, log_longer ds l j k' rest)

  -- a run has its log, and a log its run
  run_log : (k₀ : Config) {k : Config} → Reached (step manner layout) k₀ k → (log : List ℕ) × Logs manner layout k₀ log k
  run_log k₀ here = ([], refl)
  run_log k₀ (onward {k = k} {k'} h e) =
      let w = run_log k₀ h in
      let n = stepped_number k.left k.choices k.state k.history k' e in
      (w.0 ++ (n.0 ∷ []), log_more w.0 k₀ k w.1 n.1 e)

  log_run : (k₀ : Config) (l : List ℕ) (k k' : Config) → Reached (step manner layout) k₀ k → Logs manner layout k l k' → Reached (step manner layout) k₀ k'
  log_run k₀ [] k k' h e = subst (λ (m : Config). Reached (step manner layout) k₀ m) e h
  log_run k₀ (a ∷ l) k k' h (j, n, s, rest) = log_run k₀ l j k' (onward h s) rest

pub every_run : ClaimRuns
every_run manner plan cs k = (run_log manner plan.layout (begin plan cs), λ w. log_run manner plan.layout (begin plan cs) w.0 (begin plan cs) k here w.1)

-- where no run stops, no entry is stuck
pub none_stuck : ClaimChecked
none_stuck plan a log i w =
    let b = w.before in
    (accepted_iff plan).0 a b.choices b.config (get_or log i 0) w.cell (record { run = (every_run proper plan b.choices b.config).1 (take i log, b.logs); last = w.stops })

-- a log of a run proper is one of a run carried on
pub log_carried : (layout : Layout) (l : List ℕ) (k k' : Config) → Logs proper layout k l k' → Logs carried_on layout k l k'
log_carried layout [] k k' e = e
log_carried layout (a ∷ l) k k' (j, n, s, rest) = (j, n, next_carry layout k.left k.choices k.state k.history j s, log_carried layout l j k' rest)

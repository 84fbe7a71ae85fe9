-- To a plan file and a log there is at most one answer.
use Prim.Native.Nat.{ℕ, zero, suc, ◌+◌, ◌-◌, ◌%◌, ◌≤◌, ◌<◌}
use mathlib.Core.Path.{◌≡◌, refl, sym, ap, ◌∙◌}
use mathlib.Core.Bool.{Bool, true, false, cond, true≢false}
use mathlib.Core.List.{List, [], ◌∷◌}
use mathlib.Core.Option.{Option, none, some}
use native.Mathlib.Decide.{dec_lt}
use native.Mathlib.Omega.{arith}
use lib.Dec.{eqb}
use lib.ListN.{length, get_or, take}
use lib.Seq.{take-suc, take_all}
use Rattle.model.specs.Verdicts.{Verdict, Accepted, accepted}
use Rattle.std.specs.Prelude.{Ok, Err}
use Rattle.model.specs.Sides.{Layout}
use Rattle.model.specs.Records.{Action}
use Rattle.model.specs.Effects.{State, effect}
use Rattle.model.specs.Blocks.{Block, Plan}
use Rattle.model.specs.Rows.{answer_of}
use Rattle.model.specs.Runs.{Event, Config, Manner, proper, carried_on, Step, step, stopped, stop_or, lowest_unmet, begin}
use Rattle.model.proofs.Runs.{config, event}
use Rattle.format.specs.Plans.{plan_of}
use Rattle.format.proofs.Walking.{opened_facts}
use Rattle.logs.specs.Logs.{next_number, Begins, Finding, off, stuck, Off, Stuck, Finds}
use Rattle.logs.specs.Logged.{entries_of, log_rows, unplaced, answer_to, Says, Answers}
use Rattle.logs.specs.Claims.{ClaimAnswer}
use Rattle.logs.proofs.Rows.{plain_opens}
use Rattle.logs.proofs.Logging.{log_more, log_last, log_carried}
use Rattle.logs.proofs.Telling.{Alike, Told, determined}
use Rattle.logs.proofs.Numbers.{plan_told}

-- a stop: of which record, and that it depends on what is left and the state alone; stops aside the run goes on
pub record Stops (layout : Layout) (b : Block Action) (σ : State) (r c : ℕ) : Type 0 where
  pub number : next_number b ≡ some r
  pub again : (cs : List Bool) (l : List Event) → step proper layout (config b cs σ l) ≡ Step.ends (stopped r c)
  pub aside : (cs : List Bool) (l : List Event) → (k : Config) × (step carried_on layout (config b cs σ l) ≡ Step.next k)

stops_act : (layout : Layout) (n : ℕ) (x : Action) (b : Block Action) (σ : State) (r c : ℕ) (o : Option ℕ) (k : Config) → lowest_unmet layout x σ ≡ o → stop_or n o (Step.next k) ≡ Step.ends (stopped r c) → Stops layout (Block.act n x b) σ r c
stops_act layout n x b σ r c none k q e = let z : ◌≡◌ {A = ℕ} 0 1 = cc in absurd (omega arith)
stops_act layout n x b σ r c (some d) k q e = record { number = ap some (cc); again = λ cs l. rw q e; aside = λ cs l. (_, refl) }

stops_at : (layout : Layout) (b : Block Action) (cs : List Bool) (σ : State) (l : List Event) (r c : ℕ) → step proper layout (config b cs σ l) ≡ Step.ends (stopped r c) → Stops layout b σ r c
stops_at layout Block.done cs σ l r c e = let z : ◌≡◌ {A = ℕ} 0 1 = cc in absurd (omega arith)
stops_at layout (Block.act n x b) cs σ l r c e = stops_act layout n x b σ r c (lowest_unmet layout x σ) (config b cs (effect layout x σ) (event n x σ ∷ l)) refl e
stops_at layout (Block.branch n x y b) [] σ l r c e = let z : ◌≡◌ {A = ℕ} 0 1 = cc in absurd (omega arith)
stops_at layout (Block.branch n x y b) (d ∷ cs) σ l r c e = let z : ◌≡◌ {A = ℕ} 0 1 = cc in absurd (omega arith)
stops_at layout (Block.loop n x b) [] σ l r c e = let z : ◌≡◌ {A = ℕ} 0 1 = cc in absurd (omega arith)
stops_at layout (Block.loop n x b) (d ∷ cs) σ l r c e = let z : ◌≡◌ {A = ℕ} 0 1 = cc in absurd (omega arith)
stops_at layout (Block.fixed n zero x b) cs σ l r c e = let z : ◌≡◌ {A = ℕ} 0 1 = cc in absurd (omega arith)
stops_at layout (Block.fixed n (suc m) x b) cs σ l r c e = let z : ◌≡◌ {A = ℕ} 0 1 = cc in absurd (omega arith)

module _ (plan : Plan) (log : List ℕ) where
  abbrev layout : Layout
  layout = plan.layout

  -- the beginning of a run, shorter
  one_less : (manner : Manner) (i : ℕ) → i < length log → Begins manner plan (take (suc i) log) → Begins manner plan (take i log)
  one_less manner i h b =
      let w = log_last manner layout (take i log) (get_or log i 0) (begin plan b.choices) b.config (rw (take-suc log i 0 h) at b.logs) in
      record { choices = b.choices; config = w.config; logs = w.logs }

  shorter : (manner : Manner) (d i j : ℕ) → j ≡ d + i → j ≤ length log → Begins manner plan (take j log) → Begins manner plan (take i log)
  shorter manner zero i j e h b = let q : j ≡ i = omega arith in rw q at b
  shorter manner (suc d) i j e h b = let q : j ≡ suc (d + i) = omega arith in shorter manner d i (d + i) refl (omega arith) (one_less manner (d + i) (omega arith) (rw q at b))

  up_to : (i j : ℕ) → i ≤ j → j ≤ length log → Begins proper plan (take j log) → Begins proper plan (take i log)
  up_to i j h l b = shorter proper (j - i) i j (omega arith) l b

  carried_begins : (l : List ℕ) → Begins proper plan l → Begins carried_on plan l
  carried_begins l b = record { choices = b.choices; config = b.config; logs = log_carried layout l (begin plan b.choices) b.config b.logs }

  -- nothing begins past a refused entry
  past_off : (i j : ℕ) → Off plan log i → i < j → j ≤ length log → Begins proper plan (take j log) → ⊥
  past_off i j w h l b = w.nowhere (carried_begins (take (suc i) log) (up_to (suc i) j (omega arith) l b))

  module _ (told : Told none plan.body) where
    past_stuck : (i j : ℕ) → Stuck plan log i → i < j → j ≤ length log → Begins proper plan (take j log) → ⊥
    past_stuck i j w h l b =
        let r = get_or log i 0 in
        let u = up_to (suc i) j (omega arith) l b in
        let v = log_last proper layout (take i log) r (begin plan u.choices) u.config (rw (take-suc log i 0 w.inside) at u.logs) in
        let k = w.before.config in
        let s = stops_at layout k.left k.choices k.state k.history r w.cell w.stops in
        let same : Alike v.config k = determined layout (take i log) (begin plan u.choices) (begin plan w.before.choices) v.config k (record { left = refl; state = refl }) told
        (log_carried layout (take i log) (begin plan u.choices) v.config v.logs) (log_carried layout (take i log) (begin plan w.before.choices) k w.before.logs) r v.number s.number in
        let stop : step proper layout v.config ≡ Step.ends (stopped r w.cell) = (λ t. step proper layout (config (same.left t) v.config.choices (same.state t) v.config.history)) ∙ s.again v.config.choices v.config.history in
        let z : ◌≡◌ {A = ℕ} 0 1 = cc (stop, v.goes) in
        omega arith

    stuck_not_off : (i : ℕ) → Stuck plan log i → Off plan log i → ⊥
    stuck_not_off i w o =
        let k = w.before.config in
        let s = stops_at layout k.left k.choices k.state k.history (get_or log i 0) w.cell w.stops in
        let n = s.aside k.choices k.history in
        let more = log_more carried_on layout (take i log) (begin plan w.before.choices) k (log_carried layout (take i log) (begin plan w.before.choices) k w.before.logs) s.number n.1 in
        o.nowhere (record { choices = w.before.choices; config = n.0; logs = rw (take-suc log i 0 w.inside) more })

    -- of two entries, the earlier one
    apart : (i j : ℕ) → (i < j → ⊥) → (j < i → ⊥) → i ≡ j
    apart i j h l = elim (dec_lt i j) [ yes z ↦ absurd (h z) | no z ↦ elim (dec_lt j i) [ yes y ↦ absurd (l y) | no y ↦ omega arith ] ]

    whole : Begins proper plan log → Begins proper plan (take (length log) log)
    whole b = rw (take_all (length log) log (omega arith)) b

    one_finding : (x y : Finding) → Finds plan log x → Finds plan log y → x ≡ y
    one_finding Finding.accepted Finding.accepted p q = refl
    one_finding Finding.accepted (off j) p q = absurd (past_off j (length log) q q.inside (omega arith) (whole p))
    one_finding Finding.accepted (stuck j) p q = absurd (past_stuck j (length log) q q.inside (omega arith) (whole p))
    one_finding (off i) Finding.accepted p q = absurd (past_off i (length log) p p.inside (omega arith) (whole q))
    one_finding (off i) (off j) p q = ap off (apart i j (λ h. past_off i j p h (omega (arith, q.inside)) q.before) (λ h. past_off j i q h (omega (arith, p.inside)) p.before))
    one_finding (off i) (stuck j) p q =
        let e = apart i j (λ h. past_off i j p h (omega (arith, q.inside)) q.before) (λ h. past_stuck j i q h (omega (arith, p.inside)) p.before) in
        absurd (stuck_not_off j q (rw e at p))
    one_finding (stuck i) Finding.accepted p q = absurd (past_stuck i (length log) p p.inside (omega arith) (whole q))
    one_finding (stuck i) (off j) p q =
        let e = apart i j (λ h. past_stuck i j p h (omega (arith, q.inside)) q.before) (λ h. past_off j i q h (omega (arith, p.inside)) p.before) in
        absurd (stuck_not_off j (rw e at p) q)
    one_finding (stuck i) (stuck j) p q = ap stuck (apart i j (λ h. past_stuck i j p h (omega (arith, q.inside)) q.before) (λ h. past_stuck j i q h (omega (arith, p.inside)) p.before))

accepted_is : (v : Verdict) → accepted v ≡ true → Accepted ≡ v
accepted_is (Ok _) e = refl
accepted_is (Err fault) e = absurd (true≢false (sym e))

pub one_answer : ClaimAnswer
unfolding Answers
one_answer f log r s p q = go (accepted refusal) refl p q
  where
    refusal : Verdict
    refusal = answer_of (log_rows f (eqb (length log % 2) 1))

    go : (b : Bool) → accepted refusal ≡ b → cond b (Says f (entries_of log) r) (r ≡ unplaced refusal) → cond b (Says f (entries_of log) s) (s ≡ unplaced refusal) → r ≡ s
    go true e u v =
        let w = plain_opens f _ (accepted_is refusal e) in
        u.says ∙ ap answer_to (one_finding (plan_of f) (entries_of log) (plan_told f (opened_facts f w.0) w.1) u.finding v.finding u.finds v.finds) ∙ sym v.says
    go false e u v = u ∙ sym v

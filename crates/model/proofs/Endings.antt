-- A run on a list of choices ends, and in one way only.
use Prim.Native.Nat.{ℕ, zero, suc}
use mathlib.Core.Path.{◌≡◌, refl, ap, sym, ◌∙◌, subst}
use mathlib.Core.Logic.{◌⊎◌, inl, inr}
use mathlib.Core.List.{List, [], ◌∷◌}
use mathlib.Core.Bool.{Bool, cond, true≢false}
use mathlib.Core.Option.{Option, none, some}
use Rattle.model.specs.Records.{Action}
use Rattle.model.specs.Effects.{State, start, effect}
use Rattle.model.specs.Blocks.{Block, done, act, branch, loop, fixed, ◌then◌, Plan}
use Rattle.model.specs.Runs.{Event, Config, Ending, finished, stopped, out_of_choices, Step, next, ends, stop_or, lowest_unmet, step, Reached, here, onward, Run, Ends, proper}
use Rattle.model.specs.Claims.{ClaimEnding}
use Rattle.model.proofs.Runs.{config, event, next_same}
use Rattle.model.proofs.Through.{then_done}

-- it ends
module _ (plan : Plan) (all : List Bool) where
  pub record Ended : Type 0 where
    pub last : Config
    pub ending : Ending
    pub ends : Ends plan all last ending

  -- with b and the choices cs left, in every state
  abbrev EndsFrom : Block Action → List Bool → Type 0
  EndsFrom b cs = (σ : State) (l : List Event) → Run proper plan all (config b cs σ l) → Ended

  ended : (k : Config) (e : Ending) → Run proper plan all k → step proper plan.layout k ≡ ends e → Ended
  ended k e h q = record { last = k; ending = e; ends = record { run = h; last = q } }

  end_act : (cs : List Bool) (r : ℕ) (x : Action) (b : Block Action) → EndsFrom b cs → EndsFrom (act r x b) cs
  end_act cs r x b more σ l h = go (lowest_unmet plan.layout x σ) refl
    where
      after : Step
      after = next (config b cs (effect plan.layout x σ) (event r x σ ∷ l))

      go : (o : Option ℕ) → lowest_unmet plan.layout x σ ≡ o → Ended
      go none q = more (effect plan.layout x σ) (event r x σ ∷ l) (onward h (ap (λ o. stop_or r o after) q))
      go (some c) q = ended (config (act r x b) cs σ l) (stopped r c) h (ap (λ o. stop_or r o after) q)

  -- each turn ends if what follows it does
  end_turns : (cs : List Bool) (r n : ℕ) (x b : Block Action) → ((b : Block Action) → EndsFrom b cs → EndsFrom (x then b) cs) →
      EndsFrom b cs → EndsFrom (fixed r n x b) cs
  end_turns cs r zero x b turn f σ l h = turn b f σ l (onward h refl)
  end_turns cs r (suc n) x b turn f σ l h = turn (fixed r n x b) (end_turns cs r n x b turn f) σ l (onward h refl)

  -- whatever is left ends after one choice
  abbrev EndsAfter : List Bool → Type 0
  EndsAfter [] = Unit {0}
  EndsAfter (c ∷ cs) = (b : Block Action) → EndsFrom b cs

  -- then a block ends if what follows it does
  end_then : (x b : Block Action) (cs : List Bool) → EndsAfter cs → EndsFrom b cs → EndsFrom (x then b) cs
  end_then done b cs more f = f
  end_then (act r y x) b cs more f = end_act cs r y (x then b) (end_then x b cs more f)
  end_then (branch r y z x) b [] more f = λ σ l h. ended (config (branch r y z (x then b)) [] σ l) (out_of_choices r) h refl
  end_then (branch r y z x) b (c ∷ cs) more f = λ σ l h. more (cond c y z then (x then b)) σ l (onward h refl)
  end_then (loop r y x) b [] more f = λ σ l h. ended (config (loop r y (x then b)) [] σ l) (out_of_choices r) h refl
  end_then (loop r y x) b (c ∷ cs) more f = λ σ l h. more (cond c (y then loop r y (x then b)) (x then b)) σ l (onward h refl)
  end_then (fixed r n y x) b cs more f = end_turns cs r n y (x then b) (λ b. end_then y b cs more) (end_then x b cs more f)

  end_block : (cs : List Bool) → EndsAfter cs → (b : Block Action) → EndsFrom b cs
  end_block cs more b = rw then_done at (end_then b done cs more (λ σ l h. ended (config done cs σ l) finished h refl))

  end_with : (b : Block Action) (cs : List Bool) → EndsFrom b cs
  end_with b [] = end_block [] tt b
  end_with b (c ∷ cs) = end_block (c ∷ cs) (λ b. end_with b cs) b

  pub run_ends : Ended
  run_ends = end_with plan.body all (start plan.layout) [] here

-- of two configurations that steps of one kind reach, one leads to the other
module _ (one : Config → Step) where
  data First (a b : Config) : Type 0 where
    none_taken : a ≡ b → First a b
    taken : (k : Config) → one a ≡ next k → Reached one k b → First a b

  first_step : {a b : Config} → Reached one a b → First a b
  first_step here = none_taken refl
  first_step {a} {b} (onward {k = k} h e) = go (first_step h)
    where
      go : First a k → First a b
      go (none_taken q) = taken b (rw q e) here
      go (taken m q g) = taken m q (onward g e)

  compare : {a j k : Config} → Reached one a j → Reached one a k → Reached one j k ⊎ Reached one k j
  compare g here = inr g
  compare {a} {j} {k} g (onward {k = m} h e) = go (compare g h)
    where
      later : First m j → Reached one j k ⊎ Reached one k j
      later (none_taken q) = inl (subst (λ (i : Config). Reached one i k) q (onward here e))
      later (taken i q f) = inr (subst (λ (i : Config). Reached one i j) (next_same i k (sym q ∙ e)) f)

      go : Reached one j m ⊎ Reached one m j → Reached one j k ⊎ Reached one k j
      go (inl f) = inl (onward f e)
      go (inr f) = later (first_step f)

  -- nothing follows an end
  at_end : {j k : Config} {e : Ending} → one j ≡ ends e → Reached one j k → j ≡ k
  at_end {j} {k} {e} q h = go (first_step h)
    where
      go : First j k → j ≡ k
      go (none_taken p) = p
      go (taken i p f) = absurd (true≢false (cc))

  pub one_end : {a j k : Config} {d e : Ending} → Reached one a j → one j ≡ ends d → Reached one a k → one k ≡ ends e → (j ≡ k) × (d ≡ e)
  one_end {a} {j} {k} {d} {e} g p h q = (same, cc (ap one same))
    where
      go : Reached one j k ⊎ Reached one k j → j ≡ k
      go (inl f) = at_end p f
      go (inr f) = sym (at_end q f)

      same : j ≡ k
      same = go (compare g h)

ends_once : {plan : Plan} {cs : List Bool} {j k : Config} {d e : Ending} → Ends plan cs j d → Ends plan cs k e → (j ≡ k) × (d ≡ e)
ends_once {plan} g h = one_end (step proper plan.layout) g.run g.last h.run h.last

pub ends_in_one_way : ClaimEnding
ends_in_one_way plan cs = let e = run_ends plan cs in (e.last, e.ending, e.ends, λ j d h. ends_once h e.ends)

-- The ways that one cell can take through a block, by its status, and that they are those of the carried-on runs.
use Prim.Native.Nat.{ℕ, zero, suc, ◌≤◌, ◌<◌}
use mathlib.Core.Path.{◌≡◌, refl, ap, sym, ◌∙◌}
use mathlib.Core.Logic.{◌⊎◌, inl, inr}
use mathlib.Core.List.{List, [], ◌∷◌}
use mathlib.Core.Bool.{Bool, true, false, cond, true≢false}
use native.Mathlib.Omega.{arith}
use Rattle.model.specs.Sides.{Layout, cell_count}
use Rattle.model.specs.Records.{Action}
use Rattle.model.specs.Effects.{State, start, met, effect}
use Rattle.model.specs.Blocks.{Block, done, act, branch, loop, fixed, ◌then◌, Plan}
use Rattle.model.specs.Runs.{Event, Config, next, Reached, here, onward, carried_on, step, Run}
use Rattle.model.specs.Check.{MayStop}
use Rattle.model.proofs.Runs.{config, after_turn, event, next_same, step_turn}
use Rattle.model.proofs.Stamps.{Past, past, past_effect}
pub use Rattle.model.specs.Inner.Stops.{Star, stay, more, Power, Within, Goes, Stops, StopsAt}
use Rattle.model.proofs.Status.{Status, status_of, met_in, status_after, met_status, status_effect}

module _ (layout : Layout) (c : ℕ) where
  -- every stop of a carried-on run is one of these: from the stop back to the start
  module _ (r : ℕ) where
    -- a stop in x, or after it in b
    abbrev InOrAfter : Block Action → Block Action → Status → Type 0
    InOrAfter x b u = Stops layout c x u r ⊎ ((w : Status) × Goes layout c x u w × Stops layout c b w r)

    stops_then : (x b : Block Action) (u : Status) → Stops layout c (x then b) u r → InOrAfter x b u
    stops_then done b u s = inr (u, refl, s)
    stops_then (act k y x) b u (inl s) = inl (inl s)
    stops_then (act k y x) b u (inr s) = elim (stops_then x b (status_after layout c y u) s) [ inl t ↦ inl (inr t) | inr t ↦ inr t ]
    stops_then (branch k y z x) b u (inl s) = inl (inl s)
    stops_then (branch k y z x) b u (inr s) = elim (stops_then x b s.0 s.2) [ inl t ↦ inl (inr (s.0, s.1, t)) | inr t ↦ inr (t.0, (s.0, s.1, t.1), t.2) ]
    stops_then (loop k y x) b u s = elim s.2 [
      | inl t ↦ inl (s.0, s.1, inl t)
      | inr t ↦ elim (stops_then x b s.0 t) [ inl q ↦ inl (s.0, s.1, inr q) | inr q ↦ inr (q.0, (s.0, s.1, q.1), q.2) ]
    ]
    stops_then (fixed k n y x) b u (inl s) = inl (inl s)
    stops_then (fixed k n y x) b u (inr s) = elim (stops_then x b s.0 s.2) [ inl t ↦ inl (inr (s.0, s.1, t)) | inr t ↦ inr (t.0, (s.0, s.1, t.1), t.2) ]

    stops_branch : (k : ℕ) (x y b : Block Action) (d : Bool) (u : Status) → Stops layout c (cond d x y then b) u r → Stops layout c (branch k x y b) u r
    stops_branch k x y b true u s = elim (stops_then x b u s) [ inl t ↦ inl (inl t) | inr t ↦ inr (t.0, inl t.1, t.2) ]
    stops_branch k x y b false u s = elim (stops_then y b u s) [ inl t ↦ inl (inr t) | inr t ↦ inr (t.0, inr t.1, t.2) ]

    stops_loop : (k : ℕ) (x b : Block Action) (d : Bool) (u : Status) → Stops layout c (cond d (x then loop k x b) b) u r → Stops layout c (loop k x b) u r
    stops_loop k x b true u s = elim (stops_then x (loop k x b) u s) [ inl t ↦ (u, stay, inl t) | inr t ↦ (t.2.0, more t.1 t.2.1, t.2.2) ]
    stops_loop k x b false u s = (u, stay, inr s)

    -- in the turn at hand, in a later one, or after all of them
    stops_turn : (k n : ℕ) (x b : Block Action) (u : Status) → Stops layout c (x then after_turn k n x b) u r → Stops layout c (fixed k n x b) u r
    stops_turn k zero x b u s = elim (stops_then x b u s) [ inl t ↦ inl (u, (0, omega arith, refl), t) | inr t ↦ inr (t.0, (t.0, t.1, refl), t.2) ]
    stops_turn k (suc n) x b u s = elim (stops_then x (fixed k n x b) u s) [
      | inl t ↦ inl (u, (0, omega arith, refl), t)
      | inr t ↦ elim t.2 [
        | inl q ↦ let (m, l, p) = q.1 in inl (q.0, (suc m, omega arith, (t.0, t.1, p)), q.2)
        | inr q ↦ inr (q.0, (t.0, t.1, q.1), q.2)
      ]
    ]

    -- a configuration from which the cell can stop
    abbrev StopsFrom : Config → Type 0
    StopsFrom k = Stops layout c k.left (status_of layout c k.state) r

    stops_before : (b : Block Action) (cs : List Bool) (σ : State) (l : List Event) (k : Config) → Past σ →
        step carried_on layout (config b cs σ l) ≡ next k → StopsFrom k → StopsFrom (config b cs σ l)
    stops_before done cs σ l k p e = absurd (true≢false (cc))
    stops_before (act q x b) cs σ l k p e = rw (← next_same _ k e) (λ s. inr (rw (status_effect layout c x σ p) at s))
    stops_before (branch q x y b) [] σ l k p e = absurd (true≢false (cc))
    stops_before (branch q x y b) (d ∷ cs) σ l k p e = rw (← next_same _ k e) (stops_branch q x y b d (status_of layout c σ))
    stops_before (loop q x b) [] σ l k p e = absurd (true≢false (cc))
    stops_before (loop q x b) (d ∷ cs) σ l k p e = rw (← next_same _ k e) (stops_loop q x b d (status_of layout c σ))
    stops_before (fixed q n x b) cs σ l k p e =
        rw (← next_same _ k (sym (step_turn layout carried_on q n x b cs σ l) ∙ e)) (stops_turn q n x b (status_of layout c σ))

  -- each of these is a stop of some carried-on run: the choices are built from the last one to the first
  module _ (r : ℕ) where
    -- with b left, some choices lead to a stop at record r
    record CanStop (b : Block Action) (σ : State) (l : List Event) : Type 0 where
      choices : List Bool
      last : Config
      reached : Reached (step carried_on layout) (config b choices σ l) last
      action : Action
      rest : Block Action
      left : last.left ≡ act r action rest
      unmet : met layout action last.state c ≡ false

    reached_before : {k k' m : Config} → step carried_on layout k ≡ next k' → Reached (step carried_on layout) k' m → Reached (step carried_on layout) k m
    reached_before e here = onward here e
    reached_before e (onward h f) = onward (reached_before e h) f

    can_stop_before : {b b' : Block Action} {σ σ' : State} {l l' : List Event} (taken : List Bool → List Bool) →
        ((cs : List Bool) → step carried_on layout (config b (taken cs) σ l) ≡ next (config b' cs σ' l')) → CanStop b' σ' l' → CanStop b σ l
    can_stop_before taken e m = record {
      choices = taken m.choices;
      last = m.last;
      reached = reached_before (e m.choices) m.reached;
      action = m.action;
      rest = m.rest;
      left = m.left;
      unmet = m.unmet;
    }

    -- so it is in every state in which the cell has status u
    abbrev From : Block Action → Status → Type 0
    From b u = (σ : State) (l : List Event) → Past σ → status_of layout c σ ≡ u → CanStop b σ l

    from_act : (k : ℕ) (x : Action) (b : Block Action) (u : Status) → From b (status_after layout c x u) → From (act k x b) u
    from_act k x b u f σ l p e = can_stop_before (λ cs. cs) (λ cs. refl)
        (f (effect layout x σ) (event k x σ ∷ l) (past_effect layout x σ p) (status_effect layout c x σ p ∙ ap (status_after layout c x) e))

    from_branch : (k : ℕ) (x y b : Block Action) (d : Bool) (u : Status) → From (cond d x y then b) u → From (branch k x y b) u
    from_branch k x y b d u f σ l p e = can_stop_before (λ cs. d ∷ cs) (λ cs. refl) (f σ l p e)

    from_loop : (k : ℕ) (x b : Block Action) (d : Bool) (u : Status) → From (cond d (x then loop k x b) b) u → From (loop k x b) u
    from_loop k x b d u f σ l p e = can_stop_before (λ cs. d ∷ cs) (λ cs. refl) (f σ l p e)

    from_star : (k : ℕ) (x b : Block Action) (u v : Status) → ((u v : Status) → Goes layout c x u v → From (loop k x b) v → From (x then loop k x b) u) →
        Star (Goes layout c x) u v → From (loop k x b) v → From (loop k x b) u
    from_star k x b u v one stay f = f
    from_star k x b u v one (more {w = w} g s) f = from_loop k x b true u (one u w g (from_star k x b w v one s f))

    from_turn : (k n : ℕ) (x b : Block Action) (u : Status) → From (x then after_turn k n x b) u → From (fixed k n x b) u
    from_turn k n x b u f σ l p e = can_stop_before (λ cs. cs) (λ cs. step_turn layout carried_on k n x b cs σ l) (f σ l p e)

    -- through all turns
    from_power : (k n : ℕ) (x b : Block Action) (u v : Status) → ((b : Block Action) (u v : Status) → Goes layout c x u v → From b v → From (x then b) u) →
        Power (Goes layout c x) (suc n) u v → From b v → From (fixed k n x b) u
    from_power k zero x b u v one (w, g, e) f = from_turn k 0 x b u (one b u w g (rw e f))
    from_power k (suc n) x b u v one (w, g, p) f = from_turn k (suc n) x b u (one (fixed k n x b) u w g (from_power k n x b w v one p f))

    -- m turns, with one more to come, which leads to a stop
    from_within : (k n m : ℕ) (x b : Block Action) (u v : Status) → ((b : Block Action) (u v : Status) → Goes layout c x u v → From b v → From (x then b) u) →
        m ≤ n → Power (Goes layout c x) m u v → ((b : Block Action) → From (x then b) v) → From (fixed k n x b) u
    from_within k n zero x b u v one h p f = from_turn k n x b u (rw p (f (after_turn k n x b)))
    from_within k zero (suc m) x b u v one h p f = absurd (omega arith)
    from_within k (suc n) (suc m) x b u v one h (w, g, p) f = from_turn k (suc n) x b u (one (fixed k n x b) u w g (from_within k n m x b w v one (omega arith) p f))

    -- through x, and then whatever b leads to
    from_goes : (x b : Block Action) (u v : Status) → Goes layout c x u v → From b v → From (x then b) u
    from_goes done b u v g f = rw g f
    from_goes (act k y x) b u v g f = from_act k y (x then b) u (from_goes x b (status_after layout c y u) v g f)
    from_goes (branch k y z x) b u v g f = elim g.1 [
      | inl h ↦ from_branch k y z (x then b) true u (from_goes y (x then b) u g.0 h (from_goes x b g.0 v g.2 f))
      | inr h ↦ from_branch k y z (x then b) false u (from_goes z (x then b) u g.0 h (from_goes x b g.0 v g.2 f))
    ]
    from_goes (loop k y x) b u v g f = from_star k y (x then b) u g.0 (from_goes y (loop k y (x then b))) g.1
        (from_loop k y (x then b) false g.0 (from_goes x b g.0 v g.2 f))
    from_goes (fixed k n y x) b u v g f = from_power k n y (x then b) u g.0 (from_goes y) g.1 (from_goes x b g.0 v g.2 f)

    from_stops : (x b : Block Action) (u : Status) → Stops layout c x u r → From (x then b) u
    from_stops done b u s = absurd s
    from_stops (act k y x) b u (inl s) = λ σ l p e. record {
      choices = [];
      last = config (act k y (x then b)) [] σ l;
      reached = here;
      action = y;
      rest = x then b;
      left = ap (λ q. act q y (x then b)) s.0;
      unmet = met_status layout c y σ ∙ (ap (met_in layout c y) e ∙ s.1);
    }
    from_stops (act k y x) b u (inr s) = from_act k y (x then b) u (from_stops x b (status_after layout c y u) s)
    from_stops (branch k y z x) b u (inl (inl s)) = from_branch k y z (x then b) true u (from_stops y (x then b) u s)
    from_stops (branch k y z x) b u (inl (inr s)) = from_branch k y z (x then b) false u (from_stops z (x then b) u s)
    from_stops (branch k y z x) b u (inr s) = elim s.1 [
      | inl h ↦ from_branch k y z (x then b) true u (from_goes y (x then b) u s.0 h (from_stops x b s.0 s.2))
      | inr h ↦ from_branch k y z (x then b) false u (from_goes z (x then b) u s.0 h (from_stops x b s.0 s.2))
    ]
    from_stops (loop k y x) b u s = from_star k y (x then b) u s.0 (from_goes y (loop k y (x then b))) s.1 (elim s.2 [
      | inl t ↦ from_loop k y (x then b) true s.0 (from_stops y (loop k y (x then b)) s.0 t)
      | inr t ↦ from_loop k y (x then b) false s.0 (from_stops x b s.0 t)
    ])
    from_stops (fixed k n y x) b u (inl s) = let (m, h, p) = s.1 in from_within k n m y (x then b) u s.0 (from_goes y) h p (λ b. from_stops y b s.0 s.2)
    from_stops (fixed k n y x) b u (inr s) = from_power k n y (x then b) u s.0 (from_goes y) s.1 (from_stops x b s.0 s.2)

pub then_done : (x : Block Action) → x then done ≡ x
then_done done = refl
then_done (act k y x) = ap (act k y) (then_done x)
then_done (branch k y z x) = ap (branch k y z) (then_done x)
then_done (loop k y x) = ap (loop k y) (then_done x)
then_done (fixed k n y x) = ap (fixed k n y) (then_done x)

module _ (plan : Plan) (r c : ℕ) where
  stops_begin : {cs : List Bool} {k : Config} → Run carried_on plan cs k → StopsFrom plan.layout c r k → StopsAt plan r c
  stops_begin here s = s
  stops_begin (onward {k = k} {k'} h e) s = stops_begin h (stops_before plan.layout c r k.left k.choices k.state k.history k' (past plan h) e s)

  pub sound : MayStop plan r c → StopsAt plan r c
  sound m = stops_begin m.run (rw m.left (inl (refl, sym (met_status plan.layout c m.action m.config.state) ∙ m.unmet)))

  pub complete : c < cell_count plan.layout → StopsAt plan r c → MayStop plan r c
  complete h s =
      let m : CanStop plan.layout c r plan.body (start plan.layout) [] =
      rw then_done at (from_stops plan.layout c r plan.body done _ s (start plan.layout) [] (past plan {cs = []} here) refl) in
      record {
        cell = h;
        choices = m.choices;
        config = m.last;
        run = m.reached;
        action = m.action;
        rest = m.rest;
        left = m.left;
        unmet = m.unmet;
      }

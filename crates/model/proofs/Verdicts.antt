-- Faults: what a `?` hands on, and what is found where an answer accepts.
use mathlib.Core.Path.{◌≡◌, refl, ap}
use Rattle.std.specs.Prelude.{Result, Ok, Err, IsErrAnd}
use Rattle.model.specs.declared.Fault.{Fault}
use Rattle.model.specs.Verdicts.{Verdict, Accepted, where_accepted}

-- a fault, which a `?` hands on, is not accepted
pub faulty : {v : Verdict} {e : Fault} → v ≡ Err e → v ≡ Accepted → ⊥
faulty e h = absurd cc

-- what a `?` returns: the fault of what it was asked of
pub handed : {A : Type 0} {r : Result A Fault} {e : Fault} → IsErrAnd r (λ d. d ≡ e) → r ≡ Err e
handed {r = Ok x} h = absurd h
handed {r = Err d} h = ap Err h

module _ {A : Type 0} where
  pub found_where : (v : Verdict) (x y : A) → Accepted ≡ v → y ≡ x → Ok y ≡ where_accepted v x
  found_where v x y a e = rw (← a, e)

  pub faulty_where : (v : Verdict) (x : A) (e : Fault) → Err e ≡ v → Err e ≡ where_accepted v x
  faulty_where v x e h = rw (← h)

  pub where_accepts : (v : Verdict) (x y : A) → Ok y ≡ where_accepted v x → (Accepted ≡ v) × (y ≡ x)
  where_accepts (Ok u) x y h = (refl, cc)
  where_accepts (Err e) x y h = absurd cc

  pub where_faulty : (v : Verdict) (x : A) (e : Fault) → Err e ≡ where_accepted v x → Err e ≡ v
  where_faulty (Ok u) x e h = absurd cc
  where_faulty (Err d) x e h = cc

-- The check, one cell at a time: the lowest record at which some cell can stop, and the lowest cell that stops there, is the answer of the carried-on runs.
use Prim.Native.Nat.{ℕ, suc, ◌<◌}
use mathlib.Core.Path.{◌≡◌, refl, subst}
use mathlib.Core.Logic.{◌↔◌}
use mathlib.Core.Bool.{Bool, true, false, cond}
use mathlib.Core.Option.{Option, none, some}
use native.Mathlib.Omega.{arith}
use native.Mathlib.Nat.{le_antisymm}
use native.Mathlib.Decide.{dec_lt}
use lib.Dec.{ltb}
use borrow.Author.Tests.{ltb-true, ltb-false}
use Rattle.model.specs.Verdicts.{Verdict, Accepted, Stopped, stopped_at}
use Rattle.model.specs.declared.Fault.{Fault}
use Rattle.std.specs.Prelude.{Ok, Err}
use Rattle.model.specs.Sides.{cell_count}
use Rattle.model.specs.Blocks.{Plan}
use Rattle.model.specs.Check.{Answers}
use Rattle.model.proofs.Through.{StopsAt, sound, complete}
use Rattle.model.specs.Claims.{ClaimAnswer}
pub use Rattle.model.specs.Inner.Lowest.{AtMost, Least, with_cell, Fits}

pub fits_none : (P : ℕ → ℕ → Type 0) → Fits 0 P Accepted
fits_none P = λ r c l p. omega arith

-- what holds below n and at n
below_suc : {A : ℕ → Type 0} (n : ℕ) → ((c : ℕ) → c < n → A c) → A n → (c : ℕ) → c < suc n → A c
below_suc {A} n h a c l = elim (dec_lt c n) [ yes k ↦ h c k | no k ↦ let e : n ≡ c = omega arith in subst A e a ]

-- one cell more, by its lowest stop
pub fits_cell : (n : ℕ) (P : ℕ → ℕ → Type 0) (v : Verdict) (o : Option ℕ) → Fits n P v → Least o (λ r. P r n) → Fits (suc n) P (with_cell v n o)
fits_cell n P (Ok _) none h k = λ r. below_suc n (h r) (k.least r)
fits_cell n P (Err (Fault.Stopped r c)) none h k = (
  (omega (arith, h.0.0), h.0.1),
  λ r'. below_suc n (h.1 r') (λ p. absurd (k.least r' p)),
  below_suc n h.2 (λ p. absurd (k.least r.0 p)),
)
fits_cell n P (Err (Fault.Refused number place)) none h k = h
fits_cell n P (Ok _) (some m) h k = (
  (omega arith, k.named m refl),
  λ r'. below_suc n (λ c' l p. absurd (h r' c' l p)) (k.least r'),
  below_suc n (λ c' l p. absurd (h m c' l p)) (λ p. omega arith),
)
fits_cell n P (Err (Fault.Stopped r c)) (some m) h k = go (ltb m r.0) refl
  where
    go : (b : Bool) → ltb m r.0 ≡ b → Fits (suc n) P (cond b (stopped_at m n) (Stopped r c))
    go true e = let l = ltb-true m r.0 e in (
      (omega arith, k.named m refl),
      λ r'. below_suc n (λ c' l' p. let q = h.1 r' c' l' p in omega arith) (k.least r'),
      below_suc n (λ c' l' p. let q = h.1 m c' l' p in absurd (omega arith)) (λ p. omega arith),
    )
    go false e = let l = ltb-false m r.0 e in (
      (omega (arith, h.0.0), h.0.1),
      λ r'. below_suc n (h.1 r') (λ p. let q = k.least r' p in omega arith),
      below_suc n h.2 (λ p. omega (arith, h.0.0)),
    )
fits_cell n P (Err (Fault.Refused number place)) (some m) h k = absurd h

-- one cell more, which stops only where a cell d before it does
pub fits_alike : (n d : ℕ) (P : ℕ → ℕ → Type 0) (v : Verdict) → d < n → ((r : ℕ) → P r n → P r d) → Fits n P v → Fits (suc n) P v
fits_alike n d P (Ok _) l e h = λ r. below_suc n (h r) (λ p. h r d l (e r p))
fits_alike n d P (Err (Fault.Stopped r c)) l e h = (
  (omega (arith, h.0.0), h.0.1),
  λ r'. below_suc n (h.1 r') (λ p. h.1 r' d l (e r' p)),
  below_suc n h.2 (λ p. omega (arith, h.0.0)),
)
fits_alike n d P (Err (Fault.Refused number place)) l e h = h

module _ (plan : Plan) where
  -- the answer that fits all cells is the one that the plan's carried-on runs give, and none else is
  pub exact : (v : Verdict) → Fits (cell_count plan.layout) (StopsAt plan) v ↔ Answers plan v
  exact (Ok _) = (λ h r c m. h r c m.cell (sound plan r c m), λ h r c l p. h r c (complete plan r c l p))
  exact (Err (Fault.Stopped r c)) = (
    λ h. (
      complete plan r.0 c.0 h.0.0 h.0.1,
      λ r' c' m. h.1 r' c' m.cell (sound plan r' c' m),
      λ c' m. h.2 c' m.cell (sound plan r.0 c' m),
    ),
    λ h. (
      (h.0.cell, sound plan r.0 c.0 h.0),
      λ r' c' l p. h.1 r' c' (complete plan r' c' l p),
      λ c' l p. h.2 c' (complete plan r.0 c' l p),
    ),
  )
  exact (Err (Fault.Refused number place)) = (λ h. h, λ h. h)

  unique : (v w : Verdict) → Answers plan v → Answers plan w → v ≡ w
  unique (Ok _) (Ok _) h k = refl
  unique (Ok _) (Err (Fault.Stopped r c)) h k = absurd (h r.0 c.0 k.0)
  unique (Ok _) (Err (Fault.Refused number place)) h k = absurd k
  unique (Err (Fault.Stopped r c)) (Ok _) h k = absurd (k r.0 c.0 h.0)
  unique (Err (Fault.Stopped r c)) (Err (Fault.Stopped r' c')) h k =
      let q : r.0 ≡ r'.0 = le_antisymm (h.1 r'.0 c'.0 k.0) (k.1 r.0 c.0 h.0) in
      let m : c.0 ≡ c'.0 = le_antisymm (h.2 c'.0 (rw q k.0)) (k.2 c.0 (rw q at h.0)) in
      λ i. stopped_at (q i) (m i)
  unique (Err (Fault.Stopped r c)) (Err (Fault.Refused number place)) h k = absurd k
  unique (Err (Fault.Refused number place)) w h k = absurd h

pub one_answer : ClaimAnswer
one_answer = unique

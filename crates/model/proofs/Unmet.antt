-- The lowest unmet cell of a record is unmet, and a cell that is unmet with all below it met is the lowest; there is one if some cell is unmet, and none exactly if every cell is met.
use Prim.Native.Nat.{ℕ, zero, suc, ◌+◌, ◌≤◌, ◌<◌}
use mathlib.Core.Path.{◌≡◌, refl, sym, ◌∙◌}
use mathlib.Core.Bool.{Bool, true, false, cond, true≢false}
use mathlib.Core.Option.{Option, none, some}
use native.Mathlib.Omega.{arith}
use native.Mathlib.Decide.{dec_lt}
use Rattle.model.specs.Sides.{Layout, cell_count}
use Rattle.model.specs.Records.{Action}
use Rattle.model.specs.Effects.{State, met}
use Rattle.model.specs.Runs.{unmet_from, lowest_unmet}

module _ (layout : Layout) (x : Action) (σ : State) where
  pub unmet_is : (m n d : ℕ) → unmet_from layout x σ m n ≡ some d → (met layout x σ d ≡ false) × (d < m + n)
  unmet_is m zero d e = absurd (true≢false (cc))
  unmet_is m (suc n) d e = go (met layout x σ m) refl (unmet_is (suc m) n d) e
    where
      go : (b : Bool) → met layout x σ m ≡ b → (unmet_from layout x σ (suc m) n ≡ some d → (met layout x σ d ≡ false) × (d < suc m + n)) →
          cond b (unmet_from layout x σ (suc m) n) (some m) ≡ some d → (met layout x σ d ≡ false) × (d < m + suc n)
      go true q above f = let h : d < suc m + n = (above f).1 in ((above f).0, omega arith)
      go false q above f = let p : m ≡ d = cc in (rw (← p) q, omega arith)

  pub unmet_some : (m n c : ℕ) → met layout x σ c ≡ false → m ≤ c → c < m + n → (d : ℕ) × (unmet_from layout x σ m n ≡ some d)
  unmet_some m zero c e h l = absurd (omega arith)
  unmet_some m (suc n) c e h l = go (met layout x σ m) refl (λ k. unmet_some (suc m) n c e k (omega arith))
    where
      go : (b : Bool) → met layout x σ m ≡ b → (m < c → (d : ℕ) × (unmet_from layout x σ (suc m) n ≡ some d)) →
          (d : ℕ) × (cond b (unmet_from layout x σ (suc m) n) (some m) ≡ some d)
      go true q above = elim (dec_lt m c) [ yes k ↦ above k | no k ↦ let p : m ≡ c = omega arith in absurd (true≢false (cc)) ]
      go false q above = (m, refl)

  -- an unmet cell with all below it met is the one found
  pub unmet_first : (m n d : ℕ) → m ≤ d → d < m + n → met layout x σ d ≡ false → ((c : ℕ) → c < d → met layout x σ c ≡ true) → unmet_from layout x σ m n ≡ some d
  unmet_first m zero d h l e f = absurd (omega arith)
  unmet_first m (suc n) d h l e f = go (met layout x σ m) refl (λ k. unmet_first (suc m) n d k (omega arith) e f)
    where
      go : (b : Bool) → met layout x σ m ≡ b → (m < d → unmet_from layout x σ (suc m) n ≡ some d) → cond b (unmet_from layout x σ (suc m) n) (some m) ≡ some d
      go true q above = elim (dec_lt m d) [ yes k ↦ above k | no k ↦ let p : m ≡ d = omega arith in absurd (true≢false (cc)) ]
      go false q above = elim (dec_lt m d) [ yes k ↦ absurd (true≢false (sym (f m k) ∙ q)) | no k ↦ let p : m ≡ d = omega arith in cc ]

  pub none_unmet : ((c : ℕ) → c < cell_count layout → met layout x σ c ≡ true) → lowest_unmet layout x σ ≡ none
  none_unmet f = go (lowest_unmet layout x σ) refl
    where
      go : (o : Option ℕ) → lowest_unmet layout x σ ≡ o → lowest_unmet layout x σ ≡ none
      go none e = e
      go (some d) e = let u = unmet_is 0 (cell_count layout) d e in absurd (true≢false (sym (f d (omega (arith, u.1))) ∙ u.0))

  pub all_met : lowest_unmet layout x σ ≡ none → (c : ℕ) → c < cell_count layout → met layout x σ c ≡ true
  all_met e c h = go (met layout x σ c) refl
    where
      go : (b : Bool) → met layout x σ c ≡ b → met layout x σ c ≡ true
      go true q = q
      go false q = let u = unmet_some 0 (cell_count layout) c q (omega arith) (omega arith) in absurd (true≢false (cc u.1))

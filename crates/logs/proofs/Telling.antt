-- The log tells where the run stands: where each record has a number of its own, two runs with the same log that go on with the same entry have the same left to do,
-- and the same state.
use Prim.Native.Nat.{ℕ, zero, suc}
use mathlib.Core.Path.{◌≡◌, refl, sym, ap, ◌∙◌, subst}
use mathlib.Core.List.{List, [], ◌∷◌}
use mathlib.Core.Bool.{Bool, true, false, cond, true≢false}
use mathlib.Core.Option.{Option, none, some}
use Rattle.model.specs.Sides.{Layout}
use Rattle.model.specs.Records.{Action}
use Rattle.model.specs.Effects.{State}
use Rattle.model.specs.Blocks.{Block, ◌then◌}
use Rattle.model.specs.Runs.{Event, Config, carried_on, Step, step}
use Rattle.model.proofs.Runs.{config, next_same, step_turn, after_turn}
use Rattle.logs.specs.Logs.{next_number, Logs}

-- the number of the first record of a block, and of what follows where the block is empty
abbrev pub first_or : Option ℕ → Block Action → Option ℕ
first_or n Block.done = n
first_or n (Block.act r x b) = some r
first_or n (Block.branch r x y b) = some r
first_or n (Block.loop r x b) = some r
first_or n (Block.fixed r m x b) = some r

-- the next entry tells which way was taken at every test: n is the number of what follows the block
abbrev pub Told : Option ℕ → Block Action → Type 0
Told n Block.done = Unit {0}
Told n (Block.act r x b) = Told n b
Told n (Block.branch r x y b) =
    ((e : ℕ) → first_or (first_or n b) x ≡ some e → first_or (first_or n b) y ≡ some e → x ≡ y)
    × Told (first_or n b) x × Told (first_or n b) y × Told n b
Told n (Block.loop r x b) =
    ((e : ℕ) → first_or (some r) x ≡ some e → first_or n b ≡ some e → ⊥)
    × Told (some r) x × Told n b
Told n (Block.fixed r m x b) = Told (some r) x × Told (first_or n b) x × Told n b

first_then : (n : Option ℕ) (a b : Block Action) → first_or n (a then b) ≡ first_or (first_or n b) a
first_then n Block.done b = refl
first_then n (Block.act r x a) b = refl
first_then n (Block.branch r x y a) b = refl
first_then n (Block.loop r x a) b = refl
first_then n (Block.fixed r m x a) b = refl

first_next : (b : Block Action) → first_or none b ≡ next_number b
first_next Block.done = refl
first_next (Block.act r x b) = refl
first_next (Block.branch r x y b) = refl
first_next (Block.loop r x b) = refl
first_next (Block.fixed r m x b) = refl

told_then : (n : Option ℕ) (a b : Block Action) → Told (first_or n b) a → Told n b → Told n (a then b)
told_then n Block.done b t u = u
told_then n (Block.act r x a) b t u = told_then n a b t u
told_then n (Block.branch r x y a) b t u = rw (first_then n a b) (t.0, t.1, t.2, told_then n a b t.3 u)
told_then n (Block.loop r x a) b t u = rw (first_then n a b) (t.0, t.1, told_then n a b t.2 u)
told_then n (Block.fixed r m x a) b t u = rw (first_then n a b) (t.0, t.1, told_then n a b t.2 u)

-- what follows a turn of a fixed loop
told_turn : (n : Option ℕ) (r m : ℕ) (x b : Block Action) → Told n (Block.fixed r m x b) → Told n (x then after_turn r m x b)
told_turn n r zero x b t = told_then n x b t.1 t.2
told_turn n r (suc m) x b t = told_then n x (Block.fixed r m x b) t.0 t

-- two configurations with the same left to do and the same state
pub record Alike (k j : Config) : Type 0 where
  pub left : k.left ≡ j.left
  pub state : k.state ≡ j.state

module _ (layout : Layout) where
  -- what a step comes to
  pub record Told-on (k j : Config) : Type 0 where
    pub alike : Alike k j
    pub told : Told none k.left

  told_on : (b : Block Action) (cs ds : List Bool) (σ τ : State) (l h : List Event) (k j : Config) → config b cs σ l ≡ k → config b ds τ h ≡ j → σ ≡ τ → Told none b → Told-on k j
  told_on b cs ds σ τ l h k j p q e t = record {
    alike = record { left = ap (λ (m : Config). m.left) (sym p) ∙ ap (λ (m : Config). m.left) q; state = ap (λ (m : Config). m.state) (sym p) ∙ e ∙ ap (λ (m : Config). m.state) q };
    told = subst (λ (c : Block Action). Told none c) (ap (λ (m : Config). m.left) p) t;
  }

  -- two steps from there, which go on with the same entry
  one_step : (b : Block Action) (cs ds : List Bool) (σ : State) (l h : List Event) (k j : Config) → Told none b →
      step carried_on layout (config b cs σ l) ≡ Step.next k → step carried_on layout (config b ds σ h) ≡ Step.next j →
      (e : ℕ) → next_number k.left ≡ some e → next_number j.left ≡ some e → Told-on k j
  one_step Block.done cs ds σ l h k j t p q e m n = absurd (true≢false (cc))
  one_step (Block.act r x b) cs ds σ l h k j t p q e m n = told_on b cs ds _ _ _ _ k j (next_same _ k p) (next_same _ j q) refl t
  one_step (Block.branch r x y b) [] ds σ l h k j t p q e m n = absurd (true≢false (cc))
  one_step (Block.branch r x y b) (c ∷ cs) [] σ l h k j t p q e m n = absurd (true≢false (cc))
  one_step (Block.branch r x y b) (c ∷ cs) (d ∷ ds) σ l h k j t p q e m n = go c d (next_same _ k p) (next_same _ j q)
    where
      is_first : (z : Block Action) (i : Config) (us : List Bool) (v : List Event) → config (z then b) us σ v ≡ i → next_number i.left ≡ some e → first_or (first_or none b) z ≡ some e
      is_first z i us v w u = sym (first_then none z b) ∙ first_next (z then b) ∙ ap (λ (m : Config). next_number m.left) w ∙ u

      go : (c d : Bool) → config (cond c x y then b) cs σ l ≡ k → config (cond d x y then b) ds σ h ≡ j → Told-on k j
      go true true v w = told_on (x then b) cs ds σ σ l h k j v w refl (told_then none x b t.1 t.3)
      go false false v w = told_on (y then b) cs ds σ σ l h k j v w refl (told_then none y b t.2 t.3)
      go true false v w =
          let z : x ≡ y = t.0 e (is_first x k cs l v m) (is_first y j ds h w n) in
          told_on (x then b) cs ds σ σ l h k j v ((λ i. config (z i then b) ds σ h) ∙ w) refl (told_then none x b t.1 t.3)
      go false true v w =
          let z : x ≡ y = t.0 e (is_first x j ds h w n) (is_first y k cs l v m) in
          told_on (y then b) cs ds σ σ l h k j v ((λ i. config (sym z i then b) ds σ h) ∙ w) refl (told_then none y b t.2 t.3)
  one_step (Block.loop r x b) [] ds σ l h k j t p q e m n = absurd (true≢false (cc))
  one_step (Block.loop r x b) (c ∷ cs) [] σ l h k j t p q e m n = absurd (true≢false (cc))
  one_step (Block.loop r x b) (c ∷ cs) (d ∷ ds) σ l h k j t p q e m n = go c d (next_same _ k p) (next_same _ j q)
    where
      turning : (i : Config) (us : List Bool) (v : List Event) → config (x then Block.loop r x b) us σ v ≡ i → next_number i.left ≡ some e → first_or (some r) x ≡ some e
      turning i us v w u = sym (first_then none x (Block.loop r x b)) ∙ first_next (x then Block.loop r x b) ∙ ap (λ (m : Config). next_number m.left) w ∙ u

      leaving : (i : Config) (us : List Bool) (v : List Event) → config b us σ v ≡ i → next_number i.left ≡ some e → first_or none b ≡ some e
      leaving i us v w u = first_next b ∙ ap (λ (m : Config). next_number m.left) w ∙ u

      go : (c d : Bool) → config (cond c (x then Block.loop r x b) b) cs σ l ≡ k → config (cond d (x then Block.loop r x b) b) ds σ h ≡ j → Told-on k j
      go true true v w = told_on (x then Block.loop r x b) cs ds σ σ l h k j v w refl (told_then none x (Block.loop r x b) t.1 t)
      go false false v w = told_on b cs ds σ σ l h k j v w refl t.2
      go true false v w = absurd (t.0 e (turning k cs l v m) (leaving j ds h w n))
      go false true v w = absurd (t.0 e (turning j ds h w n) (leaving k cs l v m))
  one_step (Block.fixed r i x b) cs ds σ l h k j t p q e m n =
      told_on (x then after_turn r i x b) cs ds σ σ l h k j (next_same _ k (sym (step_turn layout carried_on r i x b cs σ l) ∙ p)) (next_same _ j (sym (step_turn layout carried_on r i x b ds σ h) ∙ q)) refl (told_turn none r i x b t)

  -- the entry that comes first, where r comes after the log
  abbrev head_of : List ℕ → ℕ → ℕ
  head_of [] r = r
  head_of (a ∷ l) r = a

  head_is : (l : List ℕ) (r : ℕ) (k k' : Config) → Logs carried_on layout k l k' → next_number k'.left ≡ some r → next_number k.left ≡ some (head_of l r)
  head_is [] r k k' e n = ap (λ (m : Config). next_number m.left) e ∙ n
  head_is (a ∷ l) r k k' w n = w.1

  pub determined : (l : List ℕ) (k j k' j' : Config) → Alike k j → Told none k.left → Logs carried_on layout k l k' → Logs carried_on layout j l j' →
      (r : ℕ) → next_number k'.left ≡ some r → next_number j'.left ≡ some r → Alike k' j'
  determined [] k j k' j' s t p q r m n = record { left = ap (λ (i : Config). i.left) (sym p) ∙ s.left ∙ ap (λ (i : Config). i.left) q; state = ap (λ (i : Config). i.state) (sym p) ∙ s.state ∙ ap (λ (i : Config). i.state) q }
  determined (a ∷ l) k j k' j' s t (k₁, u, p, v) (j₁, u', q, v') r m n =
      let here : step carried_on layout (config k.left j.choices k.state j.history) ≡ Step.next j₁ = (λ i. step carried_on layout (config (s.left i) j.choices (s.state i) j.history)) ∙ q in
      let w = one_step k.left k.choices j.choices k.state k.history j.history k₁ j₁ t p here (head_of l r) (head_is l r k₁ k' v m) (head_is l r j₁ j' v' n) in
      determined l k₁ j₁ k' j' w.alike w.told v v' r m n

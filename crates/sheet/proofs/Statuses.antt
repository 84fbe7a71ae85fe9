-- The sequences counted by the status of the cell: from the run of each to the status that its records leave.
use Prim.Native.Nat.{ℕ, zero, suc, ◌+◌, ◌^◌}
use mathlib.Core.Path.{◌≡◌, refl, ap, sym, ◌∙◌}
use mathlib.Core.Bool.{Bool, true, false, cond}
use mathlib.Core.List.{List, [], ◌∷◌, ◌++◌, map, flat_map}
use mathlib.Core.Option.{Option, none, some}
use native.Mathlib.Omega.{arith}
use native.Mathlib.Nat.{pow-suc}
use lib.ListN.{length}
use Rattle.model.specs.Records.{Action}
use Rattle.model.specs.Effects.{State, met, effect}
use Rattle.model.specs.Runs.{Event, Ending, finished, stopped, next, stop_or}
use Rattle.model.proofs.Runs.{config, event}
use Rattle.model.proofs.Stamps.{Past, past_effect}
use Rattle.model.proofs.Status.{Status, status_of, met_in, status_after, met_status, status_effect}
use Rattle.model.specs.Cases.{single}
use Rattle.sheet.specs.Sheets.{operations, sequences, records, after_step, ending_in, count}

-- the sum over a list
abbrev pub sum : {A : Type 0} → (A → ℕ) → List A → ℕ
sum f [] = 0
sum f (x ∷ l) = f x + sum f l

module _ {A : Type 0} where
  pub sum_same : (f g : A → ℕ) → ((x : A) → f x ≡ g x) → (l : List A) → sum f l ≡ sum g l
  sum_same f g e [] = refl
  sum_same f g e (x ∷ l) = rw (e x, sum_same f g e l)

  pub sum_none : (f : A → ℕ) → ((x : A) → f x ≡ 0) → (l : List A) → sum f l ≡ 0
  sum_none f e [] = refl
  sum_none f e (x ∷ l) = rw (e x, sum_none f e l)

  pub count_same : (f g : A → Bool) → ((x : A) → f x ≡ g x) → (l : List A) → count f l ≡ count g l
  count_same f g e [] = refl
  count_same f g e (x ∷ l) = rw (e x, count_same f g e l)

  count_append : (f : A → Bool) (l m : List A) → count f (l ++ m) ≡ count f l + count f m
  count_append f [] m = omega arith
  count_append f (x ∷ l) m = go (f x) (count_append f l m)
    where
      go : (b : Bool) → count f (l ++ m) ≡ count f l + count f m → cond b (suc (count f (l ++ m))) (count f (l ++ m)) ≡ cond b (suc (count f l)) (count f l) + count f m
      go true e = omega arith
      go false e = e

  -- a test with one outcome
  count_all : (b : Bool) (l : List A) → count (λ x. b) l ≡ cond b (length l) 0
  count_all true [] = refl
  count_all true (x ∷ l) = ap suc (count_all true l)
  count_all false [] = refl
  count_all false (x ∷ l) = count_all false l

module _ {A B : Type 0} where
  count_map : (f : B → Bool) (g : A → B) (l : List A) → count f (map g l) ≡ count (λ x. f (g x)) l
  count_map f g [] = refl
  count_map f g (x ∷ l) = rw (count_map f g l)

  count_flat : (f : B → Bool) (g : A → List B) (l : List A) → count f (flat_map g l) ≡ sum (λ x. count f (g x)) l
  unfolding flat_map
  count_flat f g [] = refl
  count_flat f g (x ∷ l) = count_append f (g x) (flat_map g l) ∙ ap (λ k. count f (g x) + k) (count_flat f g l)

-- the sequences with one operation more, by their first operation
count_first : (f : List Action → Bool) (n : ℕ) → count f (sequences (suc n)) ≡ sum (λ x. count (λ l. f (x ∷ l)) (sequences n)) operations
unfolding sequences
count_first f n = count_flat f (λ x. map (λ l. x ∷ l) (sequences n)) operations ∙ sum_same _ _ (λ x. count_map f (λ l. x ∷ l) (sequences n)) operations

pub length_sequences : (n : ℕ) → length (sequences n) ≡ 6 ^ n
length_sequences zero = unfold sequences in refl
length_sequences (suc n) =
    sym (count_all true (sequences (suc n))) ∙ (count_first (λ l. true) n
    ∙ (sum_same _ _ (λ x. count_all true (sequences n)) operations ∙ rw (length_sequences n, pow-suc) (omega arith)))

module _ (test : Option Ending → Bool) where
  -- how many of the sequences of length n pass the test, where their first record is r and the cell's status before it is u
  abbrev pub by_status : ℕ → ℕ → Status → ℕ
  by_status zero r u = cond (test (some finished)) 1 0
  by_status (suc n) r u = sum (λ x. cond (met_in (single 1) 0 x u) (by_status n (suc r) (status_after (single 1) 0 x u)) (cond (test (some (stopped r 0))) (6 ^ n) 0)) operations

  -- the runs from a state are counted by the status of the cell in it
  pub by_run : (n r : ℕ) (σ : State) (h : List Event) → Past σ →
      count (λ l. test (ending_in (suc (length l)) (config (records r l) [] σ h))) (sequences n) ≡ by_status n r (status_of (single 1) 0 σ)
  unfolding sequences ending_in
  by_run zero r σ h p = refl
  by_run (suc n) r σ h p = count_first _ n ∙ sum_same _ _ (λ x. each x (by_run n (suc r) (effect (single 1) x σ) (event r x σ ∷ h) (past_effect (single 1) x σ p))) operations
    where
      u : Status
      u = status_of (single 1) 0 σ

      -- a sequence that begins with x, by whether x is met
      ending : Action → Bool → List Action → Option Ending
      ending x b l = after_step (ending_in (suc (length l))) (stop_or r (cond b none (some 0)) (next (config (records (suc r) l) [] (effect (single 1) x σ) (event r x σ ∷ h))))

      each : (x : Action) → count (λ l. test (ending x true l)) (sequences n) ≡ by_status n (suc r) (status_of (single 1) 0 (effect (single 1) x σ)) →
          count (λ l. test (ending x (met (single 1) x σ 0) l)) (sequences n) ≡
          cond (met_in (single 1) 0 x u) (by_status n (suc r) (status_after (single 1) 0 x u)) (cond (test (some (stopped r 0))) (6 ^ n) 0)
      each x more = rw (← met_status (single 1) 0 x σ, ← status_effect (single 1) 0 x σ p) (go (met (single 1) x σ 0))
        where
          go : (b : Bool) → count (λ l. test (ending x b l)) (sequences n) ≡ cond b (by_status n (suc r) (status_of (single 1) 0 (effect (single 1) x σ))) (cond (test (some (stopped r 0))) (6 ^ n) 0)
          go true = more
          go false = count_all (test (some (stopped r 0))) (sequences n) ∙ rw (length_sequences n)

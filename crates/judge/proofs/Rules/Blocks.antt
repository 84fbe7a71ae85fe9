-- A test holds of every record of a block, those of its arms included, exactly if it holds of each record of that range.
use mathlib.Core.Path.{◌≡◌, refl}
use mathlib.Core.Logic.{◌↔◌}
use mathlib.Core.Bool.{Bool, true, false}
use mathlib.Core.List.{List}
use Prim.Native.Nat.{ℕ, zero, suc, ◌+◌, ◌≤◌, ◌<◌}
use native.Nat.{ℕᴺ_discrete}
use native.Mathlib.Decide.{dec_lt}
use native.Mathlib.Omega.{arith}
use borrow.Author.Tests.{ne_eqb}
use Rattle.model.specs.Records.{Action}
use Rattle.model.specs.Judging.{every_record}
use Rattle.model.proofs.Booleans.{and_out, and_in}
use Rattle.reading.specs.declared.Fields.{Fields}
use Rattle.reading.specs.Bytes.{fields_at, nests, first_arm, second_arm}
use Rattle.format.specs.Plans.{action_of}
use Rattle.format.specs.Inner.Walks.{Walkable, block_between}
use Rattle.format.proofs.Walking.{steps}
use Rattle.format.proofs.Trees.{is_branch, is_loop, is_fixed, is_leaf, shape, not_nesting, no_arms, block_none, block_branch, block_loop, block_fixed, block_act}

no_second : (x : Fields) → (x.kind ≡ 6 → ⊥) → second_arm x ≡ 0
unfolding second_arm
no_second x h = rw (ne_eqb x.kind 6 h)

module _ (test : Action → Bool) (f : List ℕ) where
  -- record k passes the test, unless it is a branch or a loop
  abbrev pub Passes : ℕ → Type 0
  Passes k = nests (fields_at f k) ≡ false → test (action_of (fields_at f k)) ≡ true

  abbrev pub AllPass : ℕ → ℕ → Type 0
  AllPass r end = (k : ℕ) → r ≤ k → k < end → Passes k

  -- record r, the records of its arms, the others
  joined : (r second next end : ℕ) → second ≤ next → next ≤ end → Passes r → AllPass (r + 1) second → AllPass second next → AllPass next end → AllPass r end
  joined r second next end l m a b c d k h n = elim (ℕᴺ_discrete k r) [
    | yes e ↦ rw e a
    | no e ↦ elim (dec_lt k second) [
      | yes u ↦ b k (omega arith) u
      | no u ↦ elim (dec_lt k next) [ yes v ↦ c k (omega arith) v | no v ↦ d k (omega arith) n ]
    ]
  ]

  every_all : (n r end : ℕ) → end ≤ r + n → Walkable f r end → (every_record test (block_between f r end) ≡ true) ↔ AllPass r end
  every_all zero r end l w = (λ e k h m. absurd (omega arith), λ a. rw (block_none f r end (omega arith)))
  every_all (suc n) r end l w = elim (dec_lt r end) [
    | no h ↦ (λ e k u m. absurd (omega arith), λ a. rw (block_none f r end (omega arith)))
    | yes h ↦
        let x = fields_at f r in
        let s = steps f r end h w x refl in
        let second = r + 1 + first_arm x in
        let next = second + second_arm x in
        let inside : next ≤ end = s.inside in
        let one = every_all n (r + 1) second (omega arith) s.one in
        let rest = every_all n next end (omega arith) s.rest in
        elim (shape x) [
          | is_branch k ↦
              let two = every_all n second next (omega arith) s.two in (
                λ e.
                    let u = and_out (every_record test (block_between f (r + 1) second)) _ (rw (block_branch f r end h w x refl k) at e) in
                    let v = and_out (every_record test (block_between f second next)) _ u.1 in
                    joined r second next end (omega arith) inside (λ p. absurd ((not_nesting x p).0 k)) (one.0 u.0) (two.0 v.0) (rest.0 v.1),
                λ a. rw (block_branch f r end h w x refl k) (and_in _ _ (one.1 (λ k u m. a k (omega arith) (omega arith))) (and_in _ _ (two.1 (λ k u m. a k (omega arith) (omega arith))) (rest.1 (λ k u m. a k (omega arith) m)))),
              )
          | is_loop k ↦
              let none = no_second x (λ z. omega arith) in (
                λ e.
                    let u = and_out (every_record test (block_between f (r + 1) second)) _ (rw (block_loop f r end h w x refl k) at e) in
                    joined r second next end (omega arith) inside (λ p. absurd ((not_nesting x p).1 k)) (one.0 u.0) (λ k p q. absurd (omega arith)) (rest.0 u.1),
                λ a. rw (block_loop f r end h w x refl k) (and_in _ _ (one.1 (λ k u m. a k (omega arith) (omega arith))) (rest.1 (λ k u m. a k (omega arith) m))),
              )
          | is_fixed k ↦
              let none = no_second x (λ z. omega arith) in (
                λ e.
                    let u = and_out (every_record test (block_between f (r + 1) second)) _ (rw (block_fixed f r end h w x refl k) at e) in
                    joined r second next end (omega arith) inside (λ p. absurd ((not_nesting x p).2 k)) (one.0 u.0) (λ k p q. absurd (omega arith)) (rest.0 u.1),
                λ a. rw (block_fixed f r end h w x refl k) (and_in _ _ (one.1 (λ k u m. a k (omega arith) (omega arith))) (rest.1 (λ k u m. a k (omega arith) m))),
              )
          | is_leaf k ↦
              let arms = no_arms x k in (
                λ e.
                    let u = and_out (test (action_of x)) _ (rw (block_act f r end h w x refl k) at e) in
                    joined r second next end (omega arith) inside (λ p. u.0) (λ k p q. absurd (omega arith)) (λ k p q. absurd (omega arith)) (rest.0 u.1),
                λ a. rw (block_act f r end h w x refl k) (and_in _ _ (a r (omega arith) h k) (rest.1 (λ k u m. a k (omega arith) m))),
              )
        ]
  ]

  pub every_each : (r end : ℕ) → Walkable f r end → (every_record test (block_between f r end) ≡ true) ↔ AllPass r end
  every_each r end w = every_all end r end (omega arith) w

-- In a plan file each record has a number of its own, so the next entry of a log tells which way was taken at every test.
use Prim.Native.Nat.{ℕ, zero, suc, ◌+◌, ◌≤◌, ◌<◌}
use mathlib.Core.Path.{◌≡◌, refl, sym, ◌∙◌}
use mathlib.Core.Bool.{true}
use mathlib.Core.List.{List}
use mathlib.Core.Option.{Option, none, some}
use native.Mathlib.Decide.{dec_lt}
use native.Mathlib.Omega.{arith}
use Rattle.reading.specs.Bytes.{is_plain, record_count, fields_at, first_arm, second_arm}
use Rattle.format.specs.Plans.{plan_of}
use Rattle.format.specs.Inner.Walks.{Walkable, block_between}
use Rattle.format.proofs.Walking.{Facts, Steps, steps}
use Rattle.format.proofs.Trees.{is_branch, is_loop, is_fixed, is_leaf, shape, block_none, block_branch, block_loop, block_fixed, block_act, plain_walk, plain_body}
use Rattle.logs.proofs.Telling.{first_or, Told}

pub same_some : (a b : ℕ) → ◌≡◌ {A = Option ℕ} (some a) (some b) → a ≡ b
same_some a b e = cc

-- n is not the number of one of the records r up to `end`
abbrev Clear : Option ℕ → ℕ → ℕ → Type 0
Clear n r end = (e : ℕ) → n ≡ some e → r ≤ e → e < end → ⊥

module _ (f : List ℕ) where
  -- a block begins with its first record, or it is empty
  pub first_there : (n : Option ℕ) (r end : ℕ) → r < end → Walkable f r end → first_or n (block_between f r end) ≡ some r
  first_there n r end h w = elim (shape (fields_at f r)) [
    | is_branch z ↦ rw (block_branch f r end h w (fields_at f r) refl z)
    | is_loop z ↦ rw (block_loop f r end h w (fields_at f r) refl z)
    | is_fixed z ↦ rw (block_fixed f r end h w (fields_at f r) refl z)
    | is_leaf z ↦ rw (block_act f r end h w (fields_at f r) refl z)
  ]

  first_none : (n : Option ℕ) (r end : ℕ) → end ≤ r → first_or n (block_between f r end) ≡ n
  first_none n r end h = rw (block_none f r end h)

  -- what follows the records r up to `next` is none of them
  module _ (n : Option ℕ) (r next end : ℕ) (out : Clear n r end) (order : next ≤ end) (w : Walkable f next end) where
    clear_first : (a b : ℕ) → r ≤ a → b ≤ next → Clear (first_or n (block_between f next end)) a b
    clear_first a b h l e q i j = elim (dec_lt next end) [
      | yes z ↦ let s = same_some next e (sym (first_there n next end z w) ∙ q) in omega arith
      | no z ↦ out e (sym (first_none n next end (omega arith)) ∙ q) (omega arith) (omega arith)
    ]

  -- two arms, one after the other, begin with different records, or both are empty
  arms_apart : (m : Option ℕ) (a b c : ℕ) → a ≤ b → b ≤ c → Walkable f a b → Walkable f b c → Clear m a c → (e : ℕ) → first_or m (block_between f a b) ≡ some e → first_or m (block_between f b c) ≡ some e → block_between f a b ≡ block_between f b c
  arms_apart m a b c h l u v out e p q = elim (dec_lt a b) [
    | yes i ↦ let s = same_some a e (sym (first_there m a b i u) ∙ p) in elim (dec_lt b c) [
      | yes j ↦ let t = same_some b e (sym (first_there m b c j v) ∙ q) in absurd (omega arith)
      | no j ↦ absurd (out e (sym (first_none m b c (omega arith)) ∙ q) (omega arith) (omega arith))
    ]
    | no i ↦ elim (dec_lt b c) [
      | yes j ↦ let t = same_some b e (sym (first_there m b c j v) ∙ q) in absurd (out e (sym (first_none m a b (omega arith)) ∙ p) (omega arith) (omega arith))
      | no j ↦ block_none f a b (omega arith) ∙ sym (block_none f b c (omega arith))
    ]
  ]

  -- a loop's body begins with another record than what follows the loop, and so does the loop itself
  turn_apart : (m : Option ℕ) (r b : ℕ) → r < b → Walkable f (r + 1) b → Clear m r b → (e : ℕ) → first_or (some r) (block_between f (r + 1) b) ≡ some e → m ≡ some e → ⊥
  turn_apart m r b h u out e p q = elim (dec_lt (r + 1) b) [
    | yes i ↦ let s = same_some (r + 1) e (sym (first_there (some r) (r + 1) b i u) ∙ p) in out e q (omega arith) (omega arith)
    | no i ↦ let s = same_some r e (sym (first_none (some r) (r + 1) b (omega arith)) ∙ p) in out e q (omega arith) (omega arith)
  ]

  clear_holder : (r end : ℕ) → Clear (some r) (r + 1) end
  clear_holder r end e q h l = let s = same_some r e q in omega arith

  told_between : (fuel r end : ℕ) → end ≤ r + fuel → Walkable f r end → (n : Option ℕ) → Clear n r end → Told n (block_between f r end)
  told_between zero r end l w n out = rw (block_none f r end (omega arith)) tt
  told_between (suc fuel) r end l w n out = elim (dec_lt r end) [
    | yes h ↦ here h (steps f r end h w (fields_at f r) refl) (told_between fuel)
    | no h ↦ rw (block_none f r end (omega arith)) tt
  ]
    where
      here : r < end → Steps f r end (fields_at f r) → ((a b : ℕ) → b ≤ a + fuel → Walkable f a b → (n : Option ℕ) → Clear n a b → Told n (block_between f a b)) → Told n (block_between f r end)
      here h s on =
          let x = fields_at f r in
          let second = r + 1 + first_arm x in
          let next = second + second_arm x in
          let m = first_or n (block_between f next end) in
          let i = s.inside in
          let clear : (a b : ℕ) → r ≤ a → b ≤ next → Clear m a b = clear_first n r next end out s.inside s.rest in
          let rest : Told n (block_between f next end) = on next end (omega arith) s.rest n (λ e q g j. out e q (omega arith) j) in
          elim (shape x) [
            | is_branch z ↦ rw (block_branch f r end h w x refl z) (
              arms_apart m (r + 1) second next (omega arith) (omega arith) s.one s.two (clear (r + 1) next (omega arith) (omega arith)),
              on (r + 1) second (omega arith) s.one m (clear (r + 1) second (omega arith) (omega arith)),
              on second next (omega arith) s.two m (clear second next (omega arith) (omega arith)),
              rest,
            )
            | is_loop z ↦ rw (block_loop f r end h w x refl z) (
              turn_apart m r second (omega arith) s.one (clear r second (omega arith) (omega arith)),
              on (r + 1) second (omega arith) s.one (some r) (clear_holder r second),
              rest,
            )
            | is_fixed z ↦ rw (block_fixed f r end h w x refl z) (
              on (r + 1) second (omega arith) s.one (some r) (clear_holder r second),
              on (r + 1) second (omega arith) s.one m (clear (r + 1) second (omega arith) (omega arith)),
              rest,
            )
            | is_leaf z ↦ rw (block_act f r end h w x refl z) rest
          ]

  -- the body of a plain plan
  pub plan_told : Facts f → is_plain f ≡ true → Told none (plan_of f).body
  plan_told w k = rw (plain_body f w) (told_between (record_count f) 0 (record_count f) (omega arith) (plain_walk f w k) none (λ e q h l. let z : ◌≡◌ {A = ℕ} 0 1 = cc in omega arith))

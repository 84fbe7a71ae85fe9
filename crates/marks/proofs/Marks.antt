-- Sets of cells, mark by mark.
use mathlib.Core.Path.{◌≡◌, refl, sym, ◌∙◌}
use mathlib.Core.Bool.{Bool, true, false, ◌&&◌, ◌||◌, and-false, or-true, or-false}
use mathlib.Core.List.{List}
use Prim.Native.Nat.{ℕ, zero, suc, ◌+◌, ◌-◌, ◌≤◌, ◌<◌}
use native.Nat.{ℕᴺ_discrete}
use native.Mathlib.Decide.{dec_lt}
use native.Mathlib.Omega.{arith}
use lib.Dec.{ltb, eqb}
use lib.ListN.{length, get_or, set, take, drop, replicate, length-replicate, length-set, length-append, length-take, length-drop}
use lib.Seq.{get_or-set_same, get_or-set_other}
use borrow.Rule.Slice.PartMut.{mid_of, put_mid, mid_len}
use borrow.Author.Tests.{lt-ltb, le-ltb, lt-leb, le-leb, eq-eqb, ne_eqb}
use Rattle.std.specs.List.{list_all}
use Rattle.std.proofs.Common.{rules}
use Rattle.std.proofs.Math.Seq.{drop-cons}
use Rattle.std.proofs.lemmas.List.{places}
use Rattle.model.specs.Records.{stepped}
use Rattle.model.proofs.Numbering.{stepped_first, stepped_next, stepped_none, stepped_one}
use Rattle.reading.specs.declared.Fields.{Fields}
use Rattle.reading.specs.Inner.Cells.{from_of, to_of, step_of}
use Rattle.std.specs.Prelude.{Option, None, Some}
use Rattle.marks.specs.declared.Declaration.{Declaration}
use Rattle.marks.specs.Inner.Marks.{marked, Adds, all_marked, hits, met}

same_below : (k c : ℕ) → (k ≡ c → ⊥) → ltb k c ≡ ltb k (c + 1)
same_below k c e = elim (dec_lt k c) [
  | yes h ↦ rw (lt-ltb k c h, lt-ltb k (c + 1) (omega arith))
  | no h ↦ rw (le-ltb k c (omega arith), le-ltb k (c + 1) (omega arith))
]

-- the set of no cells
pub length_none : length (replicate 4096 false) ≡ 4096
length_none = length-replicate 4096 false

pub none_marked : (c : ℕ) → marked (replicate 4096 false) c ≡ false
unfolding marked
none_marked c = go 4096 c
  where
    go : (n c : ℕ) → get_or (replicate n false) c false ≡ false
    go zero c = refl
    go (suc n) zero = refl
    go (suc n) (suc c) = go n c

-- cell c of a set is stored
module _ (l : List Bool) (n : length l ≡ 4096) (c : ℕ) (h : c < 4096) (v : Bool) where
  stored_size : length (set l c v) ≡ 4096
  stored_size = length-set l c v ∙ n

  stored_here : marked (set l c v) c ≡ v
  unfolding marked
  stored_here = get_or-set_same l c v false (rw n h)

  stored_other : (k : ℕ) → (k ≡ c → ⊥) → marked (set l c v) k ≡ marked l k
  unfolding marked
  stored_other k e = get_or-set_other l c k v false e

-- the cells c, c + k and so on below `to`
module _ (k to c : ℕ) (l : List Bool) (n : length l ≡ 4096) where
  pub steps_none : to ≤ c → Adds l l (stepped k c to)
  steps_none h = record { size = n; marks = λ d g. sym (rw (stepped_none k c to h d) (or-false (marked l d))) }

  -- c, and then the others
  pub steps_next : 1 ≤ k → c < to → to ≤ 4096 → (after : List Bool) → Adds (set l c true) after (stepped k (c + k) to) → Adds l after (stepped k c to)
  steps_next some h low after m = record {
    size = m.size;
    marks = λ d g. m.marks d g ∙ elim (ℕᴺ_discrete d c) [
      | yes e ↦ rw (e, stored_here l n c (omega arith) true, stepped_first k c to h) (sym (or-true (marked l c)))
      | no e ↦ rw (stored_other l n c (omega arith) true d e, stepped_next k c to some d e)
    ];
  }

-- a step of at most 1, which is 1
pub by_ones : (before after : List Bool) (step from to : ℕ) → 1 ≤ step → step ≤ 1 → Adds before after (stepped 1 from to) → Adds before after (stepped step from to)
by_ones before after step from to some one m = let each : step ≡ 1 = omega arith in rw each m

-- the cells that two sets have both
module _ (before one two : List Bool) where
  pub both_none : length before ≡ 4096 → Adds before before (λ c. ltb c 0 && (marked one c && marked two c))
  both_none n = record { size = n; marks = λ c l. sym (rw (le-ltb c 0 (omega arith)) (or-false (marked before c))) }

  pub both_next : (l : List Bool) (c : ℕ) → c < 4096 → Adds before l (λ k. ltb k c && (marked one k && marked two k)) →
      Adds before (set l c (marked l c || (marked one c && marked two c))) (λ k. ltb k (c + 1) && (marked one k && marked two k))
  both_next l c h m = record {
    size = stored_size l m.size c h _;
    marks = λ k g. elim (ℕᴺ_discrete k c) [
      | yes e ↦ rw (e, stored_here l m.size c h (marked l c || (marked one c && marked two c)), m.marks c h, le-ltb c c (omega arith), lt-ltb c (c + 1) (omega arith), or-false (marked before c))
      | no e ↦ stored_other l m.size c h (marked l c || (marked one c && marked two c)) k e ∙ m.marks k g ∙ rw (same_below k c e)
    ];
  }

  pub both_all : (l : List Bool) (c : ℕ) → 4096 ≤ c → Adds before l (λ k. ltb k c && (marked one k && marked two k)) → Adds before l (λ k. marked one k && marked two k)
  both_all l c h m = record { size = m.size; marks = λ k g. m.marks k g ∙ rw (lt-ltb k c (omega arith)) }

-- the cells of a record with the fields x
module _ (starts : List ℕ) (declared : List (Option Declaration)) (x : Fields) (before : List Bool) where
  none : length before ≡ 4096 → ((c : ℕ) → hits starts declared x c ≡ false) → Adds before before (hits starts declared x)
  none n h = record { size = n; marks = λ c l. sym (rw (h c) (or-false (marked before c))) }

  pub hits_other : length before ≡ 4096 → (x.kind ≡ 2 → ⊥) → Adds before before (hits starts declared x)
  unfolding hits
  hits_other n k = none n (λ c. rw (ne_eqb x.kind 2 k))

  pub hits_undeclared : length before ≡ 4096 → get_or declared x.array None ≡ None → Adds before before (hits starts declared x)
  unfolding hits
  hits_undeclared n e = none n (λ c. rw e (and-false (eqb x.kind 2)))

  module _ (d : Declaration) (e : get_or declared x.array None ≡ Some d) where
    pub hits_side : length before ≡ 4096 → (x.side ≡ d.side → ⊥) → Adds before before (hits starts declared x)
    unfolding hits
    hits_side n s = none n (λ c. rw (e, ne_eqb x.side d.side s) (and-false (eqb x.kind 2)))

    pub hits_write : x.kind ≡ 2 → x.side ≡ d.side → (from to : ℕ) → from ≡ from_of x (get_or starts x.array 0) → to ≡ to_of x (get_or starts x.array 0) (get_or starts (x.array + 1) 0) →
        (step : ℕ) → step ≡ step_of x → (after : List Bool) → Adds before after (stepped step from to) → Adds before after (hits starts declared x)
    unfolding hits
    hits_write k s from to a b step t after m = record { size = m.size; marks = λ c l. m.marks c l ∙ rw (e, a, b, t, eq-eqb x.kind 2 k, eq-eqb x.side d.side s) }

-- the cells of a range, marked at once
module _ (l : List Bool) (size : length l ≡ 4096) (from end : ℕ) where
  pub range_none : end ≤ from → Adds l l (stepped 1 from end)
  range_none h = steps_none 1 end from l size h

  pub range_filled : from < end → end ≤ 4096 → (part : List Bool) → part ≡ replicate (length (mid_of from (end - from) l)) true → Adds l (put_mid from (end - from) l part) (stepped 1 from end)
  unfolding marked
  range_filled h low part e =
      let n : length (mid_of from (end - from) l) ≡ end - from = mid_len from end l (omega arith) in
      rw (e, n) (record {
        size = simp (length-append, length-take, length-replicate, length-drop) (omega arith);
        marks = λ c g. rw (stepped_one from end c) (elim (dec_lt c from) [
          | yes u ↦ rw (lt-leb from c u, or-false (get_or l c false)) (search (rules, places))
          | no u ↦ elim (dec_lt c end) [
            | yes v ↦ rw (le-leb from c (omega arith), lt-ltb c end v, or-true (get_or l c false)) (search (rules, places))
            | no v ↦ rw (le-leb from c (omega arith), le-ltb c end (omega arith), or-false (get_or l c false)) (search (rules, places))
          ]
        ]);
      })

-- whether all cells of a part are marked
pub all_between : (l : List Bool) (c n : ℕ) → c + n ≤ length l → all_marked l c n ≡ list_all (λ b. b) (take n (drop c l))
unfolding all_marked marked
all_between l c zero h = refl
all_between l c (suc n) h =
    let low : c < length l = omega arith in
    rw (drop-cons l c false, all_between l (suc c) n (omega arith)) refl

pub all_end : (l : List Bool) (c end : ℕ) → end ≤ c → all_marked l c (end - c) ≡ true
unfolding all_marked
all_end l c end h = let z : end - c ≡ 0 = omega arith in rw z

-- a declaration with the fields x
module _ (starts : List ℕ) (l : List Bool) (x : Fields) where
  pub met_other : (x.kind ≡ 17 → ⊥) → true ≡ met starts l x
  unfolding met
  met_other k = rw (ne_eqb x.kind 17 k)

  pub met_w : x.kind ≡ 17 → (m : Bool) → m ≡ all_marked l (get_or starts x.array 0) (get_or starts (x.array + 1) 0 - get_or starts x.array 0) → m ≡ met starts l x
  unfolding met
  met_w k m e = e ∙ rw (eq-eqb x.kind 17 k)

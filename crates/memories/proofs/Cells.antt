-- The cells of a memory that a loop has passed: those it has stored, and every other as it was.
use mathlib.Core.Path.{◌≡◌, refl, sym, ap, ◌∙◌}
use mathlib.Core.Bool.{Bool, true, false, cond, ◌&&◌, and-false, true≢false}
use mathlib.Core.List.{List}
use Prim.Native.Nat.{ℕ, ◌+◌, ◌-◌, ◌≤◌, ◌<◌}
use native.Nat.{ℕᴺ_discrete}
use native.Mathlib.Decide.{dec_lt}
use native.Mathlib.Omega.{arith}
use lib.Dec.{leb, ltb}
use lib.ListN.{length, get_or, set, take, drop, length-set}
use Rattle.std.proofs.lemmas.List.{get_or-take, get_or-drop, length-take, length-drop}
use lib.Seq.{get_or-set_same, get_or-set_other}
use borrow.Author.Tests.{lt-ltb, le-ltb, le-leb, lt-leb}
use Rattle.model.specs.Records.{distance, stepped}
use Rattle.model.proofs.Booleans.{and_in, and_out}
use Rattle.model.proofs.Numbering.{stepped_first, stepped_next, stepped_none, stepped_bounds, stepped_one}
use Rattle.memories.specs.Inner.Ranges.{Room, AllCurrent, CurrentTo, Passed, FirstStale, Changed, Same, of_side, ChangedOn}

-- how far apart cells are, as a byte says it: 0 and 1 mean each cell
pub distance_each : (step : ℕ) → step ≤ 1 → distance step ≡ 1
distance_each step h = omega arith

pub distance_more : (step : ℕ) → 1 < step → distance step ≡ step
distance_more step h = omega arith

-- the same cells below another end
pub stepped_below : (k from to end n : ℕ) → stepped k from to n ≡ true → n < end → stepped k from end n ≡ true
stepped_below k from to end n e l = rw (lt-ltb n end l) (rw (lt-ltb n to (stepped_bounds k from to n e).1) at e)

-- each cell of a range
pub each : (from to c : ℕ) → from ≤ c → c < to → stepped 1 from to c ≡ true
each from to c h l = stepped_one from to c ∙ and_in (leb from c) (ltb c to) (le-leb from c h) (lt-ltb c to l)

-- nothing is stored from `to` on
pub changed_none : {k from to : ℕ} {new : ℕ → ℕ} {before : List ℕ} → to ≤ from → Changed k from to new before before
changed_none {k} {from} {to} h = record { size = refl; cell = λ c. rw (stepped_none k from to h c) }

module _ {k to : ℕ} {new : ℕ → ℕ} (some : 1 ≤ k) {c : ℕ} (h : c < to) where
  -- cell c is stored, and then those behind it
  changed_next : {before after : List ℕ} → c < length before → Changed k (c + k) to new (set before c (new c)) after → Changed k c to new before after
  changed_next {before} {after} b m = record {
    size = m.size ∙ length-set before c (new c);
    cell = λ n. elim (ℕᴺ_discrete n c) [
      | yes e ↦ rw e (m.cell c ∙ rw (lt-leb (c + k) c (omega arith), stepped_first k c to h) (get_or-set_same before c (new c) 0 b))
      | no e ↦ m.cell n ∙ rw (stepped_next k c to some n e, get_or-set_other before c n (new c) 0 e)
    ];
  }

-- a loop that stores upwards stands at cell c with the memory l: to store those from c on is all that is left
pub record Storing (k from to : ℕ) (new : ℕ → ℕ) (before : List ℕ) (c : ℕ) (l : List ℕ) : Type 0 where
  pub size : length l ≡ length before
  pub rest : (after : List ℕ) → Changed k c to new l after → Changed k from to new before after

pub storing_none : {k from to : ℕ} {new : ℕ → ℕ} {before : List ℕ} → Storing k from to new before from before
storing_none = record { size = refl; rest = λ after m. m }

module _ {k from to : ℕ} {new : ℕ → ℕ} {before l : List ℕ} {c : ℕ} (w : Storing k from to new before c l) where
  pub storing_next : 1 ≤ k → c < to → to ≤ length before → Storing k from to new before (c + k) (set l c (new c))
  storing_next some h b = record {
    size = length-set l c (new c) ∙ w.size;
    rest = λ after m. w.rest after (changed_next some h (omega (arith, w.size)) m);
  }

  pub storing_all : to ≤ c → Changed k from to new before l
  storing_all h = w.rest l (changed_none h)

-- more is stored before what is stored
pub changed_less : {from mid to : ℕ} {new : ℕ → ℕ} {before between after : List ℕ} → from ≤ mid → mid ≤ to → Changed 1 mid to new before between → Changed 1 from mid new between after → Changed 1 from to new before after
changed_less {from} {mid} {to} {new} {before} {between} {after} h g a b = record { size = b.size ∙ a.size; cell = cell }
  where
    cell : (k : ℕ) → get_or after k 0 ≡ cond (stepped 1 from to k) (new k) (get_or before k 0)
    cell k = elim (dec_lt k mid) [
      | yes l ↦ elim (dec_lt k from) [
        | yes m ↦ b.cell k ∙ rw (lt-leb from k m) (a.cell k ∙ rw (lt-leb mid k l))
        | no m ↦ b.cell k ∙ rw (each from mid k (omega arith) l, each from to k (omega arith) (omega arith))
      ]
      | no l ↦ b.cell k ∙ rw (le-ltb k mid (omega arith), and-false (leb from k)) (a.cell k ∙ rw (stepped_one mid to k, stepped_one from to k, le-leb mid k (omega arith), le-leb from k (omega arith)))
    ]

-- and behind it, where each cell gets what `new` says of it
pub changed_behind : {from mid to v : ℕ} {new : ℕ → ℕ} {before between after : List ℕ} → from ≤ mid → mid ≤ to → ((c : ℕ) → mid ≤ c → c < to → v ≡ new c) →
    Changed 1 from mid new before between → Changed 1 mid to (λ c. v) between after → Changed 1 from to new before after
changed_behind {from} {mid} {to} {v} {new} {before} {between} {after} h g e a b = record { size = b.size ∙ a.size; cell = cell }
  where
    cell : (k : ℕ) → get_or after k 0 ≡ cond (stepped 1 from to k) (new k) (get_or before k 0)
    cell k = elim (dec_lt k mid) [
      | yes l ↦ b.cell k ∙ rw (lt-leb mid k l) (a.cell k ∙ rw (stepped_one from mid k, stepped_one from to k, lt-ltb k mid l, lt-ltb k to (omega arith)))
      | no l ↦ elim (dec_lt k to) [
        | yes m ↦ b.cell k ∙ rw (each mid to k (omega arith) m, each from to k (omega arith) m) (e k (omega arith) m)
        | no m ↦ b.cell k ∙ rw (le-ltb k to (omega arith), and-false (leb mid k), and-false (leb from k)) (a.cell k ∙ rw (le-ltb k mid (omega arith), and-false (leb from k)))
      ]
    ]

-- cells that hold a number already have been changed to it
pub changed_held : {from to v : ℕ} {memory : List ℕ} → ((c : ℕ) → from ≤ c → c < to → get_or memory c 0 ≡ v) → Changed 1 from to (λ c. v) memory memory
changed_held {from} {to} {v} {memory} h = record { size = refl; cell = cell }
  where
    cell : (c : ℕ) → get_or memory c 0 ≡ cond (stepped 1 from to c) v (get_or memory c 0)
    cell c = elim (dec_lt c from) [
      | yes l ↦ rw (lt-leb from c l)
      | no l ↦ elim (dec_lt c to) [
        | yes m ↦ rw (each from to c (omega arith) m) (h c (omega arith) m)
        | no m ↦ rw (le-ltb c to (omega arith), and-false (leb from c))
      ]
    ]

-- of two changes of the same cells the later stays
pub changed_again : {k from to : ℕ} {new new' : ℕ → ℕ} {before between after : List ℕ} →
    Changed k from to new before between → Changed k from to new' between after → Changed k from to new' before after
changed_again {k} {from} {to} {new} {new'} {before} {between} {after} a b = record { size = b.size ∙ a.size; cell = λ c. go c (stepped k from to c) (b.cell c) (a.cell c) }
  where
    go : (c : ℕ) (s : Bool) → get_or after c 0 ≡ cond s (new' c) (get_or between c 0) → get_or between c 0 ≡ cond s (new c) (get_or before c 0) →
        get_or after c 0 ≡ cond s (new' c) (get_or before c 0)
    go c true e f = e
    go c false e f = e ∙ f

-- cells that are current: one, and those of two ranges in a row
pub current_one : (copies latest : List ℕ) (c : ℕ) → get_or copies c 0 ≡ get_or latest c 0 → AllCurrent copies latest c (c + 1)
current_one copies latest c e k h l = let q : k ≡ c = omega arith in rw q e

pub current_more : (copies latest : List ℕ) (from mid to : ℕ) → AllCurrent copies latest from mid → AllCurrent copies latest mid to → AllCurrent copies latest from to
current_more copies latest from mid to a b k h l = elim (dec_lt k mid) [
  | yes g ↦ a k h g
  | no g ↦ b k (omega arith) l
]

-- both halves of a block
pub current_halves : (copies latest : List ℕ) (n c : ℕ) (x y : Bool) → (x ≡ true → AllCurrent copies latest c (c + n)) → (y ≡ true → AllCurrent copies latest (c + n) (c + n + n)) → (x && y) ≡ true → AllCurrent copies latest c (c + n + n)
current_halves copies latest n c x y a b e = let p = and_out x y e in current_more copies latest c (c + n) (c + n + n) (a p.0) (b p.1)

-- a cell of a part of a memory
part_at : (l : List ℕ) (from n c : ℕ) → from ≤ c → c < from + n → get_or (take n (drop from l)) (c - from) 0 ≡ get_or l c 0
part_at l from n c h g =
    let e : from + (c - from) ≡ c = omega arith in
    get_or-take n (drop from l) (c - from) 0 (omega arith) ∙ get_or-drop from l (c - from) 0 ∙ ap (λ i. get_or l i 0) e

-- a block more that is the same in both memories
pub block_current : {copies latest : List ℕ} {from to c d : ℕ} → c ≤ d → d ≤ to → to ≤ length copies → CurrentTo copies latest from to c →
    ((k : ℕ) → k < length (take (d - c) (drop c copies)) → get_or (take (d - c) (drop c copies)) k 0 ≡ get_or (take (d - c) (drop c latest)) k 0) → CurrentTo copies latest from to d
block_current {copies} {latest} {from} {to} {c} {d} o e r w same = record {
  low = omega (arith, w.low);
  high = e;
  before = λ k h g. elim (dec_lt k c) [
    | yes l ↦ w.before k h l
    | no l ↦
        let inside : k - c < length (take (d - c) (drop c copies)) = omega (arith, length-take {A = ℕ}, length-drop {A = ℕ}) in
        sym (part_at copies c (d - c) k (omega arith) (omega arith)) ∙ same (k - c) inside ∙ part_at latest c (d - c) k (omega arith) (omega arith)
  ];
}

-- a search that stands where each cell before it is current
pub passed_each : {copies latest : List ℕ} {from to r : ℕ} → CurrentTo copies latest from to r → Passed copies latest 1 from to r
passed_each {from = from} {to = to} {r = r} w = record {
  low = w.low;
  ahead = λ n e. let p = stepped_bounds 1 r to n e in each from to n (omega (arith, w.low, p.0)) p.1;
  behind = λ n e f. let p = stepped_bounds 1 from to n e in elim (dec_lt n r) [
    | yes h ↦ w.before n p.0 h
    | no h ↦ absurd (true≢false (sym (each r to n (omega arith) p.1) ∙ f))
  ];
}

module _ {copies latest : List ℕ} {k from to : ℕ} where
  pub passed_none : Passed copies latest k from to from
  passed_none = record { low = omega arith; ahead = λ n e. e; behind = λ n e f. absurd (true≢false (sym e ∙ f)) }

  module _ {c : ℕ} (w : Passed copies latest k from to c) where
    pub passed_next : 1 ≤ k → c < to → get_or copies c 0 ≡ get_or latest c 0 → Passed copies latest k from to (c + k)
    passed_next some h q = record {
      low = omega (arith, w.low);
      ahead = λ n e. let p = stepped_bounds k (c + k) to n e in w.ahead n (sym (stepped_next k c to some n (λ z. omega (arith, p.0))) ∙ e);
      behind = λ n e f. elim (ℕᴺ_discrete n c) [
        | yes z ↦ rw z q
        | no z ↦ w.behind n e (sym (stepped_next k c to some n z) ∙ f)
      ];
    }

    pub passed_stale : c < to → (get_or copies c 0 ≡ get_or latest c 0 → ⊥) → FirstStale copies latest k from to c
    passed_stale h q = record {
      low = w.low;
      high = omega arith;
      before = λ n e. let p = stepped_bounds k from c n e in w.behind n (stepped_below k from c to n e (omega (arith, p.1))) (rw (lt-leb c n p.1));
      one = λ _. w.ahead c (stepped_first k c to h);
      here = λ _. q;
    }

    pub passed_all : from ≤ to → to ≤ c → FirstStale copies latest k from to to
    passed_all o h = record {
      low = o;
      high = omega arith;
      before = λ n e. w.behind n e (stepped_none k c to h n);
      one = λ l. absurd (omega arith);
      here = λ l. absurd (omega arith);
    }

-- cells past those that were changed are as they were
pub changed_same : {k from to : ℕ} {new : ℕ → ℕ} {before after : List ℕ} → Changed k from to new before after → Same to before after
changed_same {from = from} {to = to} a = record { size = a.size; cell = λ c h. a.cell c ∙ rw (le-ltb c to h, and-false (leb from c)) }

-- cells that are as they were: all of them, those from a later one on, and those that two changes in a row leave
pub same_all : (n : ℕ) (l : List ℕ) → Same n l l
same_all n l = record { size = refl; cell = λ c h. refl }

pub same_more : {n m : ℕ} {a b : List ℕ} → n ≤ m → Same n a b → Same m a b
same_more h s = record { size = s.size; cell = λ c g. s.cell c (omega arith) }

pub same_twice : {n : ℕ} {a b d : List ℕ} → Same n a b → Same n b d → Same n a d
same_twice s t = record { size = t.size ∙ s.size; cell = λ c h. t.cell c h ∙ s.cell c h }

-- the cells past those that were changed on a side are as they were on both
pub changed_on_same : (b : Bool) {k from to : ℕ} {new : ℕ → ℕ} {host card host' card' : List ℕ} → ChangedOn b k from to new host card host' card' → Same to host host' × Same to card card'
changed_on_same true {to = to} {host = host} a = (rw a.others (same_all to host), changed_same a.own)
changed_on_same false {to = to} {card = card} a = (changed_same a.own, rw a.others (same_all to card))

-- a change of one side's memory, and cells inside whichever it is
pub changed_card : (b : Bool) {k from to : ℕ} {new : ℕ → ℕ} {host card card' : List ℕ} → b ≡ true → Changed k from to new card card' → ChangedOn b k from to new host card host card'
changed_card true e a = record { own = a; others = refl }
changed_card false e a = absurd (true≢false (sym e))

pub changed_host : (b : Bool) {k from to : ℕ} {new : ℕ → ℕ} {host card host' : List ℕ} → b ≡ false → Changed k from to new host host' → ChangedOn b k from to new host card host' card
changed_host true e a = absurd (true≢false e)
changed_host false e a = record { own = a; others = refl }

pub copied_card : (b : Bool) (k from to : ℕ) (host card : List ℕ) {card' : List ℕ} → b ≡ true → Changed k from to (λ c. get_or host c 0) card card' → ChangedOn b k from to (λ c. get_or (of_side b card host) c 0) host card host card'
copied_card true k from to host card e a = record { own = a; others = refl }
copied_card false k from to host card e a = absurd (true≢false (sym e))

pub copied_host : (b : Bool) (k from to : ℕ) (host card : List ℕ) {host' : List ℕ} → b ≡ false → Changed k from to (λ c. get_or card c 0) host host' → ChangedOn b k from to (λ c. get_or (of_side b card host) c 0) host card host' card
copied_host true k from to host card e a = absurd (true≢false e)
copied_host false k from to host card e a = record { own = a; others = refl }

pub room_on : (b : Bool) {from to : ℕ} {host card l : List ℕ} → l ≡ of_side b host card → Room from to host → Room from to card → Room from to l
room_on true e h c = rw e c
room_on false e h c = rw e h

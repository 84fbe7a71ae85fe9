-- Places in a plan: what is left there, and how entering an arm, leaving it and a turn of a fixed loop change it.
use mathlib.Core.Path.{◌≡◌, refl, sym, ◌∙◌}
use mathlib.Core.Bool.{Bool, true, false, cond, ◌&&◌, true≢false}
use mathlib.Core.List.{List}
use Prim.Native.Nat.{ℕ, zero, suc, ◌+◌, ◌-◌, ◌≤◌, ◌<◌}
use native.Nat.{ℕᴺ_discrete}
use native.Mathlib.Decide.{dec_lt}
use native.Mathlib.Nat.{sub-zero}
use native.Mathlib.Numerals.{add-one}
use native.Mathlib.Omega.{arith}
use lib.Dec.{ltb, eqb}
use lib.ListN.{get_or, set, length-set}
use lib.Seq.{get_or-set_same, get_or-set_other}
use borrow.Author.Tests.{eq-eqb, eqb-true, eqb-false, lt-ltb}
use Rattle.model.specs.Records.{Action}
use Rattle.model.specs.Blocks.{Block, ◌then◌}
use Rattle.reading.specs.declared.Fields.{Fields}
use Rattle.reading.specs.Bytes.{array_count, fields_at, first_arm, second_arm}
use Rattle.format.specs.Inner.Walks.{Starts, block_between}
use Rattle.format.proofs.Trees.{block_none}
use Rattle.places.specs.Inner.Places.{Spot, entered, skipped, used_one, begun_at, with_begun, into, chosen, turned, left_arm, settled_by, settled, after_turns, left_in, rest_of, left_of, Part, Begun, Parts, Placed}

-- a block of which no turn has begun is as it is
pub no_turns : (b : Block Action) → after_turns 0 b ≡ b
no_turns Block.done = refl
no_turns (Block.act r x b) = refl
no_turns (Block.branch r x y b) = refl
no_turns (Block.loop r x b) = refl
no_turns (Block.fixed r n x b) = rw (sub-zero n)

-- no turn has begun where no fixed loop is at hand
module _ (f : List ℕ) (n r end : ℕ) (w : Begun f n r end) where
  pub none_at_end : r ≡ end → n ≡ 0
  none_at_end z = elim (dec_lt 0 n) [ yes h ↦ absurd (omega (arith, (w h).0)) | no h ↦ omega arith ]

  pub none_elsewhere : ((fields_at f r).kind ≡ 9 → ⊥) → n ≡ 0
  none_elsewhere nay = elim (dec_lt 0 n) [ yes h ↦ absurd (nay (w h).1) | no h ↦ omega arith ]

-- a room that is another one below depth i
pub record Below (i : ℕ) (room other : List ℕ) : Type 0 where
  pub ends : (k : ℕ) → k < i → get_or other (33 + k) 0 ≡ get_or room (33 + k) 0
  pub backs : (k : ℕ) → k < i → get_or other (49 + k) 0 ≡ get_or room (49 + k) 0
  pub begun : (k : ℕ) → k < i → begun_at other k ≡ begun_at room k

module _ (f : List ℕ) (i : ℕ) (room other : List ℕ) (w : Below i room other) where
  rest_below : (d : ℕ) → d ≤ i → rest_of f other d ≡ rest_of f room d
  unfolding rest_of left_in
  rest_below zero h = refl
  rest_below (suc d) h = rw (w.ends d (omega arith), w.backs d (omega arith), w.begun d (omega arith), rest_below d (omega arith))

  parts_below : (d : ℕ) → d ≤ i → Parts f room d → Parts f other d
  unfolding Parts
  parts_below zero h p = tt
  parts_below (suc d) h p = (
    rw (w.ends d (omega arith), w.backs d (omega arith)) p.0,
    rw (w.ends d (omega arith), w.backs d (omega arith), w.begun d (omega arith)) p.1,
    parts_below d (omega arith) p.2,
  )

-- one entry more for an arm
module _ (room : List ℕ) (i v w : ℕ) (low : i < 16) where
  abbrev pushed : List ℕ
  pushed = set (set room (33 + i) v) (49 + i) w

  other_pushed : (k : ℕ) → (k ≡ 33 + i → ⊥) → (k ≡ 49 + i → ⊥) → get_or pushed k 0 ≡ get_or room k 0
  other_pushed k g h = get_or-set_other (set room (33 + i) v) (49 + i) k w 0 h ∙ get_or-set_other room (33 + i) k v 0 g

  begun_pushed : (k : ℕ) → begun_at pushed k ≡ begun_at room k
  begun_pushed k = other_pushed (65 + k) (λ z. omega arith) (λ z. omega arith)

  below_pushed : Below i room pushed
  below_pushed = record {
    ends = λ k h. other_pushed (33 + k) (λ z. omega arith) (λ z. omega arith);
    backs = λ k h. other_pushed (49 + k) (λ z. omega arith) (λ z. omega arith);
    begun = λ k h. begun_pushed k;
  }

-- into an arm
module _ (f : List ℕ) (p : Spot) (a e back : ℕ) (w : Placed f (skipped p back)) (h : p.depth < 16) where
  abbrev after : List ℕ
  after = pushed p.room p.depth p.end back h

  end_there : get_or after (33 + p.depth) 0 ≡ p.end
  end_there = get_or-set_other (set p.room (33 + p.depth) p.end) (49 + p.depth) (33 + p.depth) back 0 (λ z. omega arith) ∙ get_or-set_same p.room (33 + p.depth) p.end 0 (omega (arith, w.size))

  back_there : get_or after (49 + p.depth) 0 ≡ back
  back_there = get_or-set_same (set p.room (33 + p.depth) p.end) (49 + p.depth) back 0 (rw (length-set p.room (33 + p.depth) p.end) (omega (arith, w.size)))

  begun_there : (d : ℕ) → begun_at after d ≡ begun_at p.room d
  begun_there = begun_pushed p.room p.depth p.end back h

  none_there : begun_at after (suc p.depth) ≡ 0
  none_there = begun_there (suc p.depth) ∙ w.fresh (suc p.depth) (omega arith)

  left_entered : left_of f (entered p a e back) ≡ block_between f a e then left_of f (skipped p back)
  unfolding left_of left_in rest_of
  left_entered = rw (add-one p.depth, none_there, no_turns (block_between f a e), end_there, back_there, begun_there p.depth, rest_below f p.depth p.room after (below_pushed p.room p.depth p.end back h) p.depth (omega arith))

  starts_entered : array_count f ≤ 32 → Starts f p.room → Starts f after
  starts_entered few s = record { first = λ i l. other_pushed p.room p.depth p.end back h i (λ z. omega arith) (λ z. omega arith) ∙ s.first i l }

  placed_entered : Part f (p.depth + 1) a e → Placed f (entered p a e back)
  unfolding Parts
  placed_entered one = record {
    size = length-set (set p.room (33 + p.depth) p.end) (49 + p.depth) back ∙ length-set p.room (33 + p.depth) p.end ∙ w.size;
    here = one;
    begun = rw (add-one p.depth, none_there) (λ z. absurd (omega arith));
    behind = rw (add-one p.depth, end_there, back_there, begun_there p.depth) (w.here, w.begun, parts_below f p.depth p.room after (below_pushed p.room p.depth p.end back h) p.depth (omega arith) w.behind);
    shallow = omega arith;
    fresh = λ d l. begun_there d ∙ w.fresh d (omega arith);
  }

-- the same, where an empty arm is passed over
module _ (f : List ℕ) (p : Spot) (a e back : ℕ) (w : Placed f (skipped p back)) (h : p.depth < 16) where
  pub left_into : left_of f (into p a e back) ≡ block_between f a e then left_of f (skipped p back)
  unfolding into
  left_into = go (eqb a e) refl
    where
      go : (b : Bool) → eqb a e ≡ b → left_of f (cond b (skipped p back) (entered p a e back)) ≡ block_between f a e then left_of f (skipped p back)
      go true q = let z = eqb-true a e q in rw (block_none f a e (omega arith))
      go false q = left_entered f p a e back w h

  pub starts_into : array_count f ≤ 32 → Starts f p.room → Starts f (into p a e back).room
  unfolding into
  starts_into few s = go (eqb a e)
    where
      go : (b : Bool) → Starts f (cond b (skipped p back) (entered p a e back)).room
      go true = s
      go false = starts_entered f p a e back w h few s

  pub placed_into : Part f (p.depth + 1) a e → Placed f (into p a e back)
  unfolding into
  placed_into one = go (eqb a e)
    where
      go : (b : Bool) → Placed f (cond b (skipped p back) (entered p a e back))
      go true = w
      go false = placed_entered f p a e back w h one

pub into_used : (p : Spot) (a e back : ℕ) → (into p a e back).used ≡ p.used
unfolding into
into_used p a e back = go (eqb a e)
  where
    go : (b : Bool) → (cond b (skipped p back) (entered p a e back)).used ≡ p.used
    go true = refl
    go false = refl

into_depth : (p : Spot) (a e back : ℕ) → p.depth < 16 → (into p a e back).depth ≤ 16
unfolding into
into_depth p a e back h = go (eqb a e)
  where
    go : (b : Bool) → (cond b (skipped p back) (entered p a e back)).depth ≤ 16
    go true = omega arith
    go false = omega arith

-- on in the same arm, where no turn has begun
module _ (f : List ℕ) (p : Spot) (none : begun_at p.room p.depth ≡ 0) (r : ℕ) where
  pub left_on : left_of f (skipped p r) ≡ block_between f r p.end then rest_of f p.room p.depth
  unfolding left_of left_in
  left_on = rw (none, no_turns (block_between f r p.end))

  pub placed_on : Placed f p → Part f p.depth r p.end → Placed f (skipped p r)
  placed_on w part = record { size = w.size; here = part; begun = rw none (λ z. absurd (omega arith)); behind = w.behind; shallow = w.shallow; fresh = w.fresh }

-- one choice more is used
pub placed_used : {f : List ℕ} {p : Spot} → Placed f p → Placed f (used_one p)
placed_used w = record { size = w.size; here = w.here; begun = w.begun; behind = w.behind; shallow = w.shallow; fresh = w.fresh }

-- n turns of the fixed loop at hand have begun
module _ (f : List ℕ) (p : Spot) (n : ℕ) (w : Placed f p) (h : p.depth < 16) where
  abbrev counted : List ℕ
  counted = set p.room (65 + p.depth) n

  pub begun_counted : begun_at counted p.depth ≡ n
  begun_counted = get_or-set_same p.room (65 + p.depth) n 0 (omega (arith, w.size))

  other_counted : (k : ℕ) → (k ≡ 65 + p.depth → ⊥) → get_or counted k 0 ≡ get_or p.room k 0
  other_counted k g = get_or-set_other p.room (65 + p.depth) k n 0 g

  below_counted : Below p.depth p.room counted
  below_counted = record {
    ends = λ k l. other_counted (33 + k) (λ z. omega arith);
    backs = λ k l. other_counted (49 + k) (λ z. omega arith);
    begun = λ k l. other_counted (65 + k) (λ z. omega arith);
  }

  pub rest_counted : rest_of f counted p.depth ≡ rest_of f p.room p.depth
  rest_counted = rest_below f p.depth p.room counted below_counted p.depth (omega arith)

  pub starts_counted : array_count f ≤ 32 → Starts f p.room → Starts f counted
  starts_counted few s = record { first = λ i l. other_counted i (λ z. omega arith) ∙ s.first i l }

  pub placed_counted : (r : ℕ) → Part f p.depth r p.end → Begun f n r p.end → Placed f (skipped (with_begun p n) r)
  placed_counted r part b = record {
    size = length-set p.room (65 + p.depth) n ∙ w.size;
    here = part;
    begun = rw begun_counted b;
    behind = parts_below f p.depth p.room counted below_counted p.depth (omega arith) w.behind;
    shallow = w.shallow;
    fresh = λ d l. other_counted (65 + d) (λ z. omega arith) ∙ w.fresh d l;
  }

-- out of an arm
module _ (f : List ℕ) (p : Spot) (d : ℕ) (e : p.depth ≡ suc d) (w : Placed f p) (z : p.at ≡ p.end) where
  top : p.depth - 1 ≡ d
  top = omega arith

  pub left_left : left_of f (left_arm p) ≡ left_of f p
  unfolding left_of left_in rest_of
  left_left = rw (top, e, z, block_none f p.end p.end (omega arith))

  fresh_left : (i : ℕ) → d < i → begun_at p.room i ≡ 0
  fresh_left i h = elim (ℕᴺ_discrete i p.depth) [ yes q ↦ rw q (none_at_end f _ p.at p.end w.begun z) | no q ↦ w.fresh i (omega arith) ]

  pub placed_left : Placed f (left_arm p)
  unfolding Parts
  placed_left =
      let b : Part f d (get_or p.room (49 + d) 0) (get_or p.room (33 + d) 0) × Begun f (begun_at p.room d) (get_or p.room (49 + d) 0) (get_or p.room (33 + d) 0) × Parts f p.room d = rw e at w.behind in
      record { size = w.size; here = rw top b.0; begun = rw top b.1; behind = rw top b.2; shallow = omega (arith, w.shallow); fresh = rw top fresh_left }

-- a place q that is p settled: what is left is the same
pub record Settles (f : List ℕ) (p q : Spot) : Type 0 where
  pub placed : Placed f q
  pub left : left_of f q ≡ left_of f p
  pub used : q.used ≡ p.used
  pub room : q.room ≡ p.room
  pub out : q.at ≡ q.end → q.depth ≡ 0

pub settling : (f : List ℕ) (n : ℕ) (p : Spot) → p.depth ≡ n → Placed f p → Settles f p (settled_by n p)
unfolding settled_by
settling f zero p e w = record { placed = w; left = refl; used = refl; room = refl; out = λ z. e }
settling f (suc n) p e w = go (eqb p.at p.end) refl (λ q. settling f n (left_arm p) (omega arith) q)
  where
    go : (b : Bool) → eqb p.at p.end ≡ b → (Placed f (left_arm p) → Settles f (left_arm p) (settled_by n (left_arm p))) → Settles f p (cond b (settled_by n (left_arm p)) p)
    go true t on =
        let z = eqb-true _ _ t in
        let s = on (placed_left f p n e w z) in
        record { placed = s.placed; left = s.left ∙ left_left f p n e w z; used = s.used; room = s.room; out = s.out }
    go false t on = record { placed = w; left = refl; used = refl; room = refl; out = λ z. absurd (eqb-false _ _ t z) }

-- a step of the loop that settles a place, and its end
pub settled_next : (p : Spot) → p.at ≡ p.end → 0 < p.depth → settled (left_arm p) ≡ settled p
unfolding settled_by
settled_next p z h = go p.depth refl
  where
    go : (n : ℕ) → p.depth ≡ n → settled_by (n - 1) (left_arm p) ≡ settled_by n p
    go zero e = absurd (omega arith)
    go (suc n) e = let m : suc n - 1 ≡ n = omega arith in rw (m, eq-eqb _ _ z)

pub settled_last : (p : Spot) → (eqb p.at p.end && ltb 0 p.depth) ≡ false → p ≡ settled p
unfolding settled_by
settled_last p t = go p.depth (eqb p.at p.end) refl refl
  where
    go : (n : ℕ) (b : Bool) → p.depth ≡ n → eqb p.at p.end ≡ b → p ≡ settled_by n p
    go zero b e q = refl
    go (suc n) true e q = absurd (true≢false (sym (lt-ltb 0 p.depth (omega arith)) ∙ rw q at t))
    go (suc n) false e q = rw q

-- a choice leads one arm deeper at most
pub chosen_depth : (p : Spot) (x : Fields) (choice : ℕ) (q : Spot) → q ≡ chosen p x choice → p.depth < 16 → q.depth ≤ 16
unfolding chosen
chosen_depth p x choice q e h = rw e (go (eqb x.kind 6) (eqb choice 0))
  where
    go : (a b : Bool) →
        (cond a (cond b (into (used_one p) (p.at + 1 + first_arm x) (p.at + 1 + first_arm x + second_arm x) (p.at + 1 + first_arm x + second_arm x)) (into (used_one p) (p.at + 1) (p.at + 1 + first_arm x) (p.at + 1 + first_arm x + second_arm x)))
        (cond b (skipped (used_one p) (p.at + 1 + first_arm x + second_arm x)) (into (used_one p) (p.at + 1) (p.at + 1 + first_arm x) p.at))).depth ≤ 16
    go true true = into_depth (used_one p) _ _ _ h
    go true false = into_depth (used_one p) _ _ _ h
    go false true = omega arith
    go false false = into_depth (used_one p) _ _ _ h

-- and so does a turn of a fixed loop
pub turned_depth : (p : Spot) (x : Fields) (q : Spot) → q ≡ turned p x → p.depth < 16 → q.depth ≤ 16
unfolding turned
turned_depth p x q e h = rw e (go (eqb (x.q - begun_at p.room p.depth) 1))
  where
    go : (b : Bool) → (cond b (into (with_begun p 0) (p.at + 1) (p.at + 1 + first_arm x) (p.at + 1 + first_arm x)) (into (with_begun p (begun_at p.room p.depth + 1)) (p.at + 1) (p.at + 1 + first_arm x) p.at)).depth ≤ 16
    go true = into_depth (with_begun p 0) _ _ _ h
    go false = into_depth (with_begun p (begun_at p.room p.depth + 1)) _ _ _ h

-- Where a place in a plan leads: past a record without arms, into an arm on a choice, into the body of a fixed loop. What is left there is what a step of the
-- definition of a run leaves.
use mathlib.Core.Path.{◌≡◌, refl, sym, ap, ◌∙◌}
use mathlib.Core.Bool.{Bool, true, false, cond, not, ◌&&◌}
use mathlib.Core.List.{List, [], ◌∷◌}
use Prim.Native.Nat.{ℕ, suc, ◌+◌, ◌-◌, ◌*◌, ◌≤◌, ◌<◌}
use native.Mathlib.Decide.{dec_lt}
use native.Mathlib.Nat.{mul-le-mul_left}
use native.Nat.{ℕᴺ_discrete}
use native.Mathlib.Omega.{arith}
use lib.Dec.{ltb, leb, eqb}
use lib.ListN.{length}
use borrow.Author.Tests.{eq-eqb, ne_eqb, eqb-true, eqb-false, ltb-false}
use Rattle.model.specs.Sides.{Layout, cell_count, span_of, host}
use Rattle.model.specs.Effects.{State}
use Rattle.model.specs.Records.{Action, distance}
use Rattle.model.specs.Blocks.{Block, ◌then◌}
use Rattle.model.specs.Runs.{Event, Manner, Step, step, out_of_choices}
use Rattle.model.proofs.Booleans.{or_right}
use Rattle.model.proofs.Runs.{config, after_turn, step_turn}
use Rattle.reading.specs.declared.Fields.{Fields}
use Rattle.reading.specs.Bytes.{array_count, layout_of, fields_at, between, nests, first_arm, second_arm, turns_of}
use Rattle.rules.specs.Rules.{fields_fit, deepest}
use Rattle.format.specs.Plans.{action_of}
use Rattle.format.specs.Inner.Walks.{Plain, Starts, Walkable, block_between}
use Rattle.reading.proofs.Ranges.{in_range}
use Rattle.format.proofs.Walking.{Parts, good_parts, opened_facts}
use Rattle.format.proofs.Trees.{is_branch, is_loop, is_fixed, is_leaf, shape, low_leaf, ActsOrNests, acts, block_none, block_branch, block_loop, block_fixed, block_act, walk_of, no_arms}
use Rattle.format.proofs.Acts.{plain_kind, turns_fit}
use Rattle.places.specs.Inner.Places.{Spot, skipped, used_one, begun_at, with_begun, into, chosen, turned, left_in, rest_of, left_of, weight, Part, Begun, Placed}
use Rattle.places.proofs.Places.{none_elsewhere, left_into, starts_into, placed_into, into_used, left_on, placed_on, placed_used, begun_counted, rest_counted, starts_counted, placed_counted}
use Rattle.places.proofs.Weights.{weight_turn}
use Rattle.standing.specs.Inner.Standing.{past_record, next_record}
use Rattle.reading.specs.Inner.Cells.{from_of, to_of}
use Rattle.memories.specs.Inner.Ranges.{Room}
use Rattle.known.specs.Inner.Knowing.{Sure}
use Rattle.known.proofs.Sets.{knows_sure}
use Rattle.acts.specs.declared.Stored.{Stored}
use Rattle.acts.specs.Inner.Acting.{Rooms, Low, CellsAt, ArrayAt, Holds}
use Rattle.machine.proofs.Records.{few_arrays, spans, piece, whole_at, inside}

-- a record of the plan where a place is
module _ (f : List ℕ) (bodies : ℕ) (w : Plain f bodies) (d r end : ℕ) (part : Part f d r end) (h : r < end) (x : Fields) (e : x ≡ fields_at f r) where
  pub walk : Walkable f r end
  walk = walk_of part.good

  parts : Parts f 0 d part.around r end
  parts = good_parts f 0 d part.around r end h part.good

  abbrev second : ℕ
  second = r + 1 + first_arm x

  abbrev next : ℕ
  next = second + second_arm x

  pub fits_inside : next ≤ end
  fits_inside = rw e parts.tests.inside

  pub record_fits : fields_fit f x ≡ true
  record_fits = rw e parts.tests.fits

  pub kind_is : ActsOrNests x
  kind_is = rw e (plain_kind f bodies w r end h walk)

  some_turns : 1 ≤ turns_of x
  unfolding turns_of
  some_turns = elim (ℕᴺ_discrete x.kind 9) [ yes k ↦ rw (eq-eqb x.kind 9 k) (turns_fit f x record_fits k).0 | no k ↦ rw (ne_eqb x.kind 9 k) (omega arith) ]

  some_within : 1 ≤ part.around * turns_of x
  some_within = omega (arith, mul-le-mul_left part.around some_turns, part.some)

  one_part : Part f (d + 1) (r + 1) second
  one_part = record { around = part.around * turns_of x; some = some_within; good = rw e parts.one; order = omega arith; inside = omega (arith, fits_inside, part.inside) }

  two_part : Part f (d + 1) second next
  two_part = record { around = part.around * turns_of x; some = some_within; good = rw e parts.two; order = omega arith; inside = omega (arith, fits_inside, part.inside) }

  rest_part : Part f d next end
  rest_part = record { around = part.around; some = part.some; good = rw e parts.rest; order = fits_inside; inside = part.inside }

  nesting : 6 ≤ x.kind → nests x ≡ true
  nesting k = elim (shape x) [
    | is_branch z ↦ rw (in_range 6 7 x.kind (omega arith) (omega arith)) refl
    | is_loop z ↦ rw (in_range 6 7 x.kind (omega arith) (omega arith)) refl
    | is_fixed z ↦ or_right (between 6 7 x.kind) _ (eq-eqb x.kind 9 z)
    | is_leaf z ↦ absurd (omega (arith, acts x kind_is z))
  ]

  -- "inside at most 15 others"
  pub not_deep : 6 ≤ x.kind → d < 16
  unfolding deepest
  not_deep k =
      let s : (nests x && ltb (deepest f) d) ≡ false = rw e parts.tests.shallow in
      let t : ltb 15 d ≡ false = rw (nesting k, w.plain) at s in
      omega (arith, ltb-false 15 d t)

  -- a fixed loop at hand has turns to begin
  pub turns_left : (room : List ℕ) → Begun f (begun_at room d) r end → x.kind ≡ 9 → begun_at room d < x.q
  turns_left room b k = elim (dec_lt 0 (begun_at room d)) [ yes z ↦ rw e (b z).2 | no z ↦ omega (arith, turns_fit f x record_fits k) ]

  no_second : x.kind ≡ 9 → second_arm x ≡ 0
  unfolding second_arm
  no_second k = rw (ne_eqb x.kind 6 (λ z. omega arith))

-- what the runner knows of a record of kind 1 to 5, whose cells are `from` up to `to` at its step and whose array is `first` up to `next`, before it acts
pub record Able (layout : Layout) (x : Fields) (first next from to : ℕ) (s : Stored) (at : ℕ) (own others latest : List ℕ) : Type 0 where
  pub kind : (1 ≤ x.kind) × (x.kind ≤ 5)
  pub array : x.array < 32
  pub low : Low s
  pub sure : Sure s.known x.array from to own others latest
  pub rooms : x.step < 256 → Rooms x.step from to own others latest
  pub inside : to ≤ cell_count layout
  pub few_cells : to ≤ 4096
  pub spans : CellsAt layout (action_of x) (distance x.step) from to
  pub whole : (eqb from first && eqb to next && leb x.step 1) ≡ true → ArrayAt layout x.array (distance x.step) from to
  pub few : at < 1024

-- at the end of the body nothing is left
pub end_left : (f : List ℕ) (p : Spot) → p.at ≡ p.end → p.depth ≡ 0 → left_of f p ≡ Block.done
unfolding left_of left_in rest_of
end_left f p z o = rw (o, z, block_none f p.end p.end (omega arith))

-- from one place a choice leads to another
pub record Leads (f : List ℕ) (p : Spot) (c : Bool) (q : Spot) : Type 0 where
  pub placed : Placed f q
  pub used : q.used ≡ p.used + 1
  pub starts : Starts f p.room → Starts f q.room
  pub goes : (manner : Manner) (layout : Layout) (cs : List Bool) (σ : State) (l : List Event) →
      step manner layout (config (left_of f p) (c ∷ cs) σ l) ≡ Step.next (config (left_of f q) cs σ l)

-- a turn of a fixed loop does
pub record Turns (f : List ℕ) (p q : Spot) : Type 0 where
  pub placed : Placed f q
  pub used : q.used ≡ p.used
  pub starts : Starts f p.room → Starts f q.room
  pub goes : (manner : Manner) (layout : Layout) (cs : List Bool) (σ : State) (l : List Event) →
      step manner layout (config (left_of f p) cs σ l) ≡ Step.next (config (left_of f q) cs σ l)
  pub lighter : weight (left_of f p) ≡ 1 + weight (left_of f q)

-- a place before the end of its arm, and the record there
module _ (f : List ℕ) (bodies : ℕ) (plain : Plain f bodies) (p : Spot) (placed : Placed f p) (h : p.at < p.end) (x : Fields) (e : x ≡ fields_at f p.at) where
  abbrev here : Part f p.depth p.at p.end
  here = placed.here

  abbrev behind : Block Action
  behind = rest_of f p.room p.depth

  abbrev then_second : ℕ
  then_second = p.at + 1 + first_arm x

  abbrev then_next : ℕ
  then_next = then_second + second_arm x

  few_names : array_count f ≤ 32
  few_names = (opened_facts f plain.opens).bounds.header.arrays.1

  way : Walkable f p.at p.end
  way = walk f bodies plain p.depth p.at p.end here h x e

  -- where no fixed loop is at hand no turn has begun
  not_begun : (x.kind ≡ 9 → ⊥) → begun_at p.room p.depth ≡ 0
  not_begun nay = none_elsewhere f _ p.at p.end placed.begun (rw e at nay)

  -- what is left, by the kind of the record
  plain_left : (x.kind ≡ 9 → ⊥) → left_of f p ≡ block_between f p.at p.end then behind
  plain_left nay = left_on f p (not_begun nay) p.at

  pub branch_left : x.kind ≡ 6 → left_of f p ≡ Block.branch p.at (block_between f (p.at + 1) then_second) (block_between f then_second then_next) (block_between f then_next p.end then behind)
  branch_left y = plain_left (λ z. omega arith) ∙ rw (block_branch f p.at p.end h way x e y)

  pub loop_left : x.kind ≡ 7 → left_of f p ≡ Block.loop p.at (block_between f (p.at + 1) then_second) (block_between f then_next p.end then behind)
  loop_left y = plain_left (λ z. omega arith) ∙ rw (block_loop f p.at p.end h way x e y)

  pub act_left : x.kind ≤ 5 → left_of f p ≡ Block.act p.at (action_of x) (left_of f (past_record p))
  act_left y =
      let a = no_arms x (low_leaf x y) in
      let n : then_next ≡ p.at + 1 = omega (arith, a) in
      plain_left (λ z. omega arith) ∙ (rw (block_act f p.at p.end h way x e (low_leaf x y), n)) ∙ ap (Block.act p.at (action_of x)) (sym (left_on f p (not_begun (λ z. omega arith)) (p.at + 1)))

  deep : 6 ≤ x.kind → p.depth < 16
  deep = not_deep f bodies plain p.depth p.at p.end here h x e

  one : Part f (p.depth + 1) (p.at + 1) then_second
  one = one_part f bodies plain p.depth p.at p.end here h x e

  two : Part f (p.depth + 1) then_second then_next
  two = two_part f bodies plain p.depth p.at p.end here h x e

  rest : Part f p.depth then_next p.end
  rest = rest_part f bodies plain p.depth p.at p.end here h x e

  -- past a record without arms
  pub past_placed : x.kind ≤ 5 → Placed f (past_record p)
  past_placed y =
      let a = no_arms x (low_leaf x y) in
      let n : then_next ≡ p.at + 1 = omega (arith, a) in
      placed_on f p (not_begun (λ z. omega arith)) (p.at + 1) placed (rw n at rest)

  -- into an arm, after which the run goes on at record `back`
  into_leads : 6 ≤ x.kind → (c : Bool) (a end back : ℕ) (b : Block Action) →
      ((manner : Manner) (layout : Layout) (cs : List Bool) (σ : State) (l : List Event) → step manner layout (config (left_of f p) (c ∷ cs) σ l) ≡ Step.next (config (block_between f a end then b) cs σ l)) →
      left_of f (skipped (used_one p) back) ≡ b → Part f (p.depth + 1) a end → Placed f (skipped (used_one p) back) → Leads f p c (into (used_one p) a end back)
  into_leads y c a end back b s l arm there =
      let d = deep y in
      let q = used_one p in
      record {
        placed = placed_into f q a end back there d arm;
        used = into_used q a end back;
        starts = starts_into f q a end back there d few_names;
        goes = λ manner layout cs σ ev. s manner layout cs σ ev ∙ ap (λ r. Step.next (config r cs σ ev)) (sym (left_into f q a end back there d ∙ ap (λ r. block_between f a end then r) l));
      }

  branch_leads : x.kind ≡ 6 → (choice : ℕ) → Leads f p (not (eqb choice 0)) (chosen p x choice)
  unfolding chosen
  branch_leads y choice = rw (eq-eqb x.kind 6 y) (go (eqb choice 0))
    where
      behind_it : left_of f (skipped (used_one p) then_next) ≡ block_between f then_next p.end then behind
      behind_it = left_on f (used_one p) (not_begun (λ z. omega arith)) then_next

      past : Placed f (skipped (used_one p) then_next)
      past = placed_on f (used_one p) (not_begun (λ z. omega arith)) then_next (placed_used placed) rest

      go : (b : Bool) → Leads f p (not b) (cond b (into (used_one p) then_second then_next then_next) (into (used_one p) (p.at + 1) then_second then_next))
      go true = into_leads (omega arith) false then_second then_next then_next (block_between f then_next p.end then behind) (λ manner layout cs σ l. λ i. step manner layout (config (branch_left y i) (false ∷ cs) σ l)) behind_it two past
      go false = into_leads (omega arith) true (p.at + 1) then_second then_next (block_between f then_next p.end then behind) (λ manner layout cs σ l. λ i. step manner layout (config (branch_left y i) (true ∷ cs) σ l)) behind_it one past

  loop_leads : x.kind ≡ 7 → (choice : ℕ) → Leads f p (not (eqb choice 0)) (chosen p x choice)
  unfolding chosen left_of
  loop_leads y choice = rw (ne_eqb x.kind 6 (λ z. omega arith)) (go (eqb choice 0))
    where
      no_turn : begun_at p.room p.depth ≡ 0
      no_turn = not_begun (λ z. omega arith)

      go : (b : Bool) → Leads f p (not b) (cond b (skipped (used_one p) then_next) (into (used_one p) (p.at + 1) then_second p.at))
      go true = record {
        placed = placed_on f (used_one p) no_turn then_next (placed_used placed) rest;
        used = refl;
        starts = λ s. s;
        goes = λ manner layout cs σ l. (λ i. step manner layout (config (loop_left y i) (false ∷ cs) σ l)) ∙ ap (λ r. Step.next (config r cs σ l)) (sym (left_on f (used_one p) no_turn then_next));
      }
      go false = into_leads (omega arith) true (p.at + 1) then_second p.at (Block.loop p.at (block_between f (p.at + 1) then_second) (block_between f then_next p.end then behind)) (λ manner layout cs σ l. λ i. step manner layout (config (loop_left y i) (true ∷ cs) σ l)) (loop_left y) one (placed_used placed)

  -- a branch, or a test of a loop, on a choice
  pub test_leads : 6 ≤ x.kind → (x.kind ≡ 9 → ⊥) → (choice : ℕ) → Leads f p (not (eqb choice 0)) (chosen p x choice)
  test_leads y nay choice =
      let a = kind_is f bodies plain p.depth p.at p.end here h x e in
      elim (ℕᴺ_discrete x.kind 6) [ yes z ↦ branch_leads z choice | no z ↦ loop_leads (omega (arith, a, nay)) choice ]

  -- and with no choice left
  pub test_spent : 6 ≤ x.kind → (x.kind ≡ 9 → ⊥) → (manner : Manner) (layout : Layout) (σ : State) (l : List Event) →
      step manner layout (config (left_of f p) [] σ l) ≡ Step.ends (out_of_choices p.at)
  test_spent y nay manner layout σ l =
      let a = kind_is f bodies plain p.depth p.at p.end here h x e in
      elim (ℕᴺ_discrete x.kind 6) [
        | yes z ↦ λ i. step manner layout (config (branch_left z i) [] σ l)
        | no z ↦ λ i. step manner layout (config (loop_left (omega (arith, a, nay)) i) [] σ l)
      ]

  -- a turn of a fixed loop begins
  module _ (y : x.kind ≡ 9) where
    abbrev body : Block Action
    body = block_between f (p.at + 1) then_second

    abbrev after_loop : Block Action
    after_loop = block_between f then_next p.end then behind

    abbrev begun : ℕ
    begun = begun_at p.room p.depth

    shallow : p.depth < 16
    shallow = deep (omega arith)

    next_is : then_next ≡ then_second
    next_is = omega (arith, no_second f bodies plain p.depth p.at p.end here h x e y)

    more : begun < x.q
    more = turns_left f bodies plain p.depth p.at p.end here h x e p.room placed.begun y

    pub fixed_left : left_of f p ≡ Block.fixed p.at (x.q - 1 - begun) body after_loop
    unfolding left_of left_in
    fixed_left = rw (block_fixed f p.at p.end h way x e y)

    counted_left : (n : ℕ) → left_of f (with_begun p n) ≡ Block.fixed p.at (x.q - 1 - n) body after_loop
    unfolding left_of left_in
    counted_left n = rw (block_fixed f p.at p.end h way x e y, begun_counted f p n placed shallow, rest_counted f p n placed shallow)

    abbrev then_left : Block Action
    then_left = body then after_turn p.at (x.q - 1 - begun) body after_loop

    -- into the body, after which the run goes on at record `back`
    into_turns : (n back : ℕ) → left_of f (skipped (with_begun p n) back) ≡ after_turn p.at (x.q - 1 - begun) body after_loop → Placed f (skipped (with_begun p n) back) →
        Turns f p (into (with_begun p n) (p.at + 1) then_second back)
    into_turns n back l there =
        let q = with_begun p n in
        let c = into q (p.at + 1) then_second back in
        let left_there : left_of f c ≡ then_left = left_into f q (p.at + 1) then_second back there shallow ∙ ap (λ r. body then r) l in
        record {
          placed = placed_into f q (p.at + 1) then_second back there shallow one;
          used = into_used q (p.at + 1) then_second back;
          starts = λ s. starts_into f q (p.at + 1) then_second back there shallow few_names (starts_counted f p n placed shallow few_names s);
          goes = λ manner layout cs σ ev. (λ i. step manner layout (config (fixed_left i) cs σ ev)) ∙ step_turn layout manner p.at (x.q - 1 - begun) body after_loop cs σ ev ∙ ap (λ r. Step.next (config r cs σ ev)) (sym left_there);
          lighter = ap weight fixed_left ∙ weight_turn p.at (x.q - 1 - begun) body after_loop ∙ sym (ap (λ b. 1 + weight b) left_there);
        }

    pub turn_leads : Turns f p (turned p x)
    unfolding turned
    turn_leads = go (eqb (x.q - begun) 1) refl
      where
        go : (b : Bool) → eqb (x.q - begun) 1 ≡ b →
            Turns f p (cond b (into (with_begun p 0) (p.at + 1) then_second then_second) (into (with_begun p (begun + 1)) (p.at + 1) then_second p.at))
        go true q =
            let z = eqb-true (x.q - begun) 1 q in
            let last : x.q - 1 - begun ≡ 0 = omega arith in
            let after : Part f p.depth then_second p.end = rw next_is at rest in
            into_turns 0 then_second
            (left_on f (with_begun p 0) (begun_counted f p 0 placed shallow) then_second ∙ rw (rest_counted f p 0 placed shallow, last, next_is))
            (placed_counted f p 0 placed shallow then_second after (λ z. absurd (omega arith)))
        go false q =
            let z = eqb-false (x.q - begun) 1 q in
            let enough : begun + 1 < x.q = omega (arith, more) in
            let fewer : x.q - 1 - begun ≡ suc (x.q - 1 - (begun + 1)) = omega (arith, more) in
            into_turns (begun + 1) p.at
            (counted_left (begun + 1) ∙ rw fewer)
            (placed_counted f p (begun + 1) placed shallow p.at here (λ l. (h, rw e at y, rw e at enough)))

  -- the number of the record
  pub number_here : next_record (left_of f p) ≡ p.at
  number_here =
      let a = kind_is f bodies plain p.depth p.at p.end here h x e in
      elim (shape x) [
        | is_branch z ↦ ap next_record (branch_left z)
        | is_loop z ↦ ap next_record (loop_left z)
        | is_fixed z ↦ ap next_record (fixed_left z)
        | is_leaf z ↦ ap next_record (act_left (acts x a z).1)
      ]

  -- before a record without arms acts
  module _ (y : x.kind ≤ 5) (first next : ℕ) (a : first ≡ (span_of (layout_of f) x.array).first) (b : next ≡ (span_of (layout_of f) (x.array + 1)).first) where
    kinds : (1 ≤ x.kind) × (x.kind ≤ 5)
    kinds = ((kind_is f bodies plain p.depth p.at p.end here h x e).0, y)

    fit : fields_fit f x ≡ true
    fit = record_fits f bodies plain p.depth p.at p.end here h x e

    pub able_here : {s : Stored} {own others latest : List ℕ} {σ : State} {l : List Event} → Holds (layout_of f) host s own others latest σ l → Low s →
        Able (layout_of f) x first next (from_of x first) (to_of x first next) s p.at own others latest
    able_here {own = own} {others = others} {latest = latest} held low =
        let layout = layout_of f in
        let from = from_of x first in
        let to = to_of x first next in
        let i = inside f bodies plain x fit kinds first next a b in
        let room : (l : List ℕ) → cell_count layout ≤ length l → Room from to l = λ l g. record { order = i.0; inside = omega (arith, i.1, g) } in
        record {
          kind = kinds;
          array = few_arrays f bodies plain x fit kinds;
          sure = knows_sure (piece f bodies plain x fit kinds first next a b) held.knows;
          low = low;
          rooms = λ z. record { step = z; few = i.2; in_own = room own held.own_room; in_others = room others held.others_room; in_latest = room latest held.latest_room };
          inside = i.1;
          few_cells = i.2;
          spans = spans f bodies plain x fit kinds first next a b;
          whole = whole_at f bodies plain x fit kinds first next a b x.step from to;
          few = omega (arith, here.inside, (opened_facts f plain.opens).bounds.records);
        }

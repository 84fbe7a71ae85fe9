-- A record of kind 1 to 5 of an opened plain plan, as the runner meets it: its cells, the room for them, and the room for what it counts.
use mathlib.Core.Path.{◌≡◌, refl, sym, ap, ◌∙◌}
use mathlib.Core.Bool.{true, false, ◌&&◌, true≢false}
use mathlib.Core.List.{List, [], ◌∷◌}
use Prim.Native.Nat.{ℕ, suc, ◌+◌, ◌-◌, ◌/◌, ◌≤◌, ◌<◌}
use native.Mathlib.Decide.{dec_lt}
use native.Mathlib.Numerals.{add-one}
use native.Mathlib.Omega.{arith}
use lib.Dec.{leb, ltb, eqb}
use lib.ListN.{length}
use borrow.Author.Tests.{le-leb, lt-leb, leb-true, eqb-true}
use Rattle.model.specs.Sides.{Side, Layout, cell_count, span_of}
use Rattle.model.specs.Records.{Verb, read, write, copy, need, mark, whole, Action, distance, cover_count}
use Rattle.model.specs.Effects.{State, Deed, nothing, gets, puts, moves, counted, deed}
use Rattle.model.specs.Runs.{Event, tally}
use Rattle.model.proofs.Booleans.{and_out}
use Rattle.model.proofs.Numbering.{array_from, array_ends, stepped_one, covers_whole, covers_range, ranged_count, whole_count}
use Rattle.model.proofs.Runs.{event}
use Rattle.reading.specs.declared.Fields.{Fields}
use Rattle.reading.specs.Bytes.{array_count, length_at, layout_of}
use Rattle.rules.specs.Rules.{fields_fit}
use Rattle.rules.proofs.Fields.{fit_array}
use Rattle.format.specs.Plans.{action_of}
use Rattle.format.specs.Inner.Walks.{Plain}
use Rattle.reading.proofs.Tables.{arrays_counted, array_length, next_cell}
use Rattle.format.proofs.Walking.{opened_facts}
use Rattle.format.proofs.Acts.{cells_fit, array_fits, acting, by_kind}
use Rattle.memories.proofs.Cells.{distance_each}
use Rattle.known.proofs.Sets.{Piece}
use Rattle.acts.specs.declared.Stored.{Stored}
use Rattle.acts.specs.Inner.Acting.{CellsAt, ArrayAt, Holds}
use Rattle.acts.proofs.Stale.{each_counted, few_between, range_piece}
use Rattle.reading.specs.Inner.Cells.{from_of, to_of, step_of}

module _ (f : List ℕ) (bodies : ℕ) (w : Plain f bodies) (x : Fields) (fit : fields_fit f x ≡ true) (kind : (1 ≤ x.kind) × (x.kind ≤ 5)) where
  abbrev layout : Layout
  layout = layout_of f

  pub on_array : (x.side ≤ 1) × (x.array < array_count f)
  on_array = elim (dec_lt 3 x.kind) [ yes h ↦ array_fits f x fit (omega arith) kind.1 | no h ↦ (cells_fit f x fit kind.0 (omega arith)).0 ]

  pub few_arrays : x.array < 32
  few_arrays = omega (arith, on_array.1, (opened_facts f w.opens).bounds.header.arrays)

  -- "Unused fields are zero.": the byte of a need or a mark means each cell
  each_is : 3 < x.kind → distance x.step ≡ 1
  each_is k =
      let on = ltb x.side 2 && ltb x.array (array_count f) in
      let w₁ = and_out (on && eqb x.step 0 && eqb x.p 0) _ (fit_array f x _ _ _ (record { arrays_are = refl; bodies_are = refl; size_is = refl }) (omega arith) kind.1 ∙ fit) in
      let w₂ = and_out (on && eqb x.step 0) (eqb x.p 0) w₁.0 in
      distance_each x.step (omega (arith, eqb-true x.step 0 (and_out on (eqb x.step 0) w₂.0).1))

  pub step_is : distance x.step ≡ step_of x
  step_is = elim (dec_lt 3 x.kind) [ yes k ↦ rw (lt-leb x.kind 3 k) (each_is k) | no k ↦ rw (le-leb x.kind 3 (omega arith)) ]

  module _ (first next : ℕ) (e : first ≡ (span_of layout x.array).first) (g : next ≡ (span_of layout (x.array + 1)).first) where
    next_is : next ≡ (span_of layout x.array).first + (span_of layout x.array).length
    next_is =
        let n : (span_of layout (x.array + 1)).first ≡ (span_of layout x.array).first + length_at f x.array = rw (add-one x.array) (next_cell f x.array on_array.1) in
        g ∙ (n ∙ rw (array_length f x.array on_array.1))

    module _ (k : x.kind ≤ 3) where
      from_is : from_of x first ≡ (span_of layout x.array).first + x.p
      from_is = rw (le-leb x.kind 3 k, e)

      to_is : to_of x first next ≡ (span_of layout x.array).first + x.q
      to_is = rw (le-leb x.kind 3 k, e)

      fits : x.q ≤ (span_of layout x.array).length
      fits = rw (array_length f x.array on_array.1) (cells_fit f x fit kind.0 k).2

      some : x.p < x.q
      some = (cells_fit f x fit kind.0 k).1

      ranged : (v : Verb) → whole v ≡ false → CellsAt layout (acting v x) (distance x.step) (from_of x first) (to_of x first next)
      ranged v w = record {
        one = rw (arrays_counted f) on_array.1;
        some = omega arith;
        cells = λ c. rw (from_is, to_is) (covers_range layout (acting v x) c w fits);
        own = λ c i j. array_from layout x.array c (omega (arith, from_is)) (omega (arith, to_is, fits));
        ends = omega (arith, to_is, fits, array_ends layout x.array);
        count = ranged_count layout (acting v x) w fits ∙ ap (λ n. (n + (distance x.step - 1)) / distance x.step) (omega (arith, from_is, to_is));
      }

    module _ (k : 3 < x.kind) where
      from_first : from_of x first ≡ (span_of layout x.array).first
      from_first = rw (lt-leb x.kind 3 k) e

      to_next : to_of x first next ≡ (span_of layout x.array).first + (span_of layout x.array).length
      to_next = rw (lt-leb x.kind 3 k) next_is

      full : (v : Verb) → whole v ≡ true → CellsAt layout (acting v x) (distance x.step) (from_of x first) (to_of x first next)
      full v w = record {
        one = rw (arrays_counted f) on_array.1;
        some = omega (arith, each_is k);
        cells = λ c. rw (each_is k, from_first, to_next) (covers_whole layout (acting v x) c w ∙ sym (stepped_one _ _ c));
        own = λ c i j. array_from layout x.array c (omega (arith, from_first)) (omega (arith, to_next));
        ends = omega (arith, to_next, array_ends layout x.array);
        count = whole_count layout (acting v x) w ∙ (omega (arith, from_first, to_next) ∙ each_counted (distance x.step) _ _ (each_is k));
      }

    pub spans : CellsAt layout (action_of x) (distance x.step) (from_of x first) (to_of x first next)
    spans = by_kind x kind (λ y. CellsAt layout y (distance x.step) (from_of x first) (to_of x first next))
        (λ z. ranged (omega arith) read refl) (λ z. ranged (omega arith) write refl) (λ z. ranged (omega arith) copy refl) (λ z. full (omega arith) need refl) (λ z. full (omega arith) mark refl)

    -- they are cells of its array
    pub piece : Piece layout x.array false (distance x.step) (from_of x first) (to_of x first next)
    unfolding action_of
    piece = range_piece {x = action_of x} (record { range = spans; array = refl; all = λ z. absurd (true≢false (sym z)) })

    -- each cell from the array's first to its last is the whole of it
    pub whole_at : (step from to : ℕ) → (eqb from first && eqb to next && leb step 1) ≡ true → ArrayAt layout x.array (distance step) from to
    whole_at step from to z =
        let q = and_out (eqb from first && eqb to next) (leb step 1) z in
        let p = and_out (eqb from first) (eqb to next) q.0 in
        record { one = rw (arrays_counted f) on_array.1; each = distance_each step (leb-true step 1 q.1); begins = eqb-true from first p.0 ∙ e; ends = eqb-true to next p.1 ∙ next_is }

    -- the cells are of the plan
    pub inside : (from_of x first ≤ to_of x first next) × (to_of x first next ≤ cell_count layout) × (to_of x first next ≤ 4096)
    inside = (
      elim (dec_lt 3 x.kind) [ yes h ↦ omega (arith, from_first h, to_next h) | no h ↦ omega (arith, from_is (omega arith), to_is (omega arith), some (omega arith)) ],
      spans.ends,
      omega (arith, spans.ends, (opened_facts f w.opens).bounds.cells_below),
    )

-- a record counts as one more read or write at most, and moves no more cells than it has
module _ (layout : Layout) where
  pub few_counted : (l : List Event) → ((tally layout l).reads ≤ length l) × ((tally layout l).writes ≤ length l)
  few_counted [] = (omega arith, omega arith)
  few_counted (e ∷ l) = go e.deed (few_counted l)
    where
      go : (d : Deed) → ((tally layout l).reads ≤ length l) × ((tally layout l).writes ≤ length l) →
          ((counted d (cover_count layout e.action) (tally layout l)).reads ≤ suc (length l)) × ((counted d (cover_count layout e.action) (tally layout l)).writes ≤ suc (length l))
      go nothing h = (omega (arith, h), omega (arith, h))
      go (gets s) h = (omega (arith, h), omega (arith, h))
      go (puts s) h = (omega (arith, h), omega (arith, h))
      go (moves s t) h = (omega (arith, h), omega (arith, h))

  pub few_moved : (y : Action) (k from to : ℕ) → CellsAt layout y k from to → to ≤ 4096 → (σ : State) (l : List Event) → (tally layout (event 0 y σ ∷ l)).moved ≤ (tally layout l).moved + 4096
  few_moved y k from to h b σ l = go (deed y σ)
    where
      go : (d : Deed) → (counted d (cover_count layout y) (tally layout l)).moved ≤ (tally layout l).moved + 4096
      go nothing = omega arith
      go (gets s) = omega arith
      go (puts s) = omega arith
      go (moves s t) = omega (arith, h.count, few_between k from to h.some b)

  -- the number of a record makes no difference to what memories, flags and tally hold
  pub renumbered : (q r : ℕ) (y : Action) (σ : State) {t : Side} {s : Stored} {own others latest : List ℕ} {τ : State} {l : List Event} →
      Holds layout t s own others latest τ (event q y σ ∷ l) → Holds layout t s own others latest τ (event r y σ ∷ l)
  renumbered q r y σ h = record {
    own_room = h.own_room;
    others_room = h.others_room;
    latest_room = h.latest_room;
    own_held = h.own_held;
    others_held = h.others_held;
    latest_held = h.latest_held;
    own_flags = h.own_flags;
    others_flags = h.others_flags;
    reads = h.reads;
    writes = h.writes;
    moved = h.moved;
    counted = h.counted;
    past = h.past;
    knows = h.knows;
  }

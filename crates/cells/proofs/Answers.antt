-- The answer over the cells, one cell at a time.
use Prim.Native.Nat.{ℕ, zero, suc, ◌+◌, ◌-◌, ◌≤◌, ◌<◌}
use mathlib.Core.Path.{◌≡◌, refl, sym, subst}
use mathlib.Core.Logic.{inl, inr}
use mathlib.Core.Option as maybe
use mathlib.Core.List.{List}
use native.Mathlib.Numerals.{add-one}
use native.Mathlib.Omega.{arith}
use lib.Dec.{eqb}
use lib.ListN.{get_or}
use Rattle.model.specs.Verdicts.{Verdict}
use Rattle.model.specs.Sides.{span_of, is_scratch}
use Rattle.model.proofs.Status.{Status, at_start}
use Rattle.model.proofs.Through.{Stops, StopsAt}
use Rattle.model.proofs.Check.{AtMost, Least, with_cell, Fits, fits_cell, fits_alike}
use Rattle.reading.specs.Bytes.{array_count, layout_of, record_count, lengths_of}
use Rattle.format.specs.Plans.{plan_of}
use Rattle.format.specs.Inner.Walks.{Plain, Starts, block_between}
use Rattle.reading.proofs.Tables.{first_more, first_rises, all_cells}
use Rattle.format.proofs.Walking.{opened_facts}
use Rattle.std.specs.Prelude.{Option, None, Some}
use Rattle.model.specs.declared.Record.{Record}
use Rattle.summary.specs.declared.Row.{Row}
use Rattle.statuses.specs.declared.acts.Found.{Found}
use Rattle.statuses.specs.Inner.Sets.{statuses, index, bit, In, record_of, number_of}
use Rattle.statuses.specs.Inner.Ran.{Below, Ran}
use Rattle.lookahead.specs.Inner.Ahead.{cell_at}
use Rattle.summary.specs.Inner.Ways.{cell_of, Passed}
use Rattle.summary.proofs.Ways.{Begins, start_in}
use Rattle.classes.specs.Inner.Marks.{Marked}
use Rattle.cells.specs.Inner.Spans.{Span}
use Rattle.cells.proofs.Alike.{first_status, stop_alike}

-- what is found from one status is the lowest stop from it
least_found : {G : Status → Status → Type 0} {S : Status → ℕ → Type 0} (w : Status) (set : ℕ) → Begins w set → (t : Found) → Ran G S (In set) None t → Least (record_of t.low) (S w)
least_found {S = S} w set b t m = record { named = λ n e. go t.low refl n e; least = λ r s. below t.low r (m.least w r ((start_in w set b w).1 refl) s) }
  where
    go : (o : Option Record) → t.low ≡ o → (n : ℕ) → record_of o ≡ maybe.some n → S w n
    go None q n e = absurd (cc)
    go (Some k) q n e = let z : number_of t.low ≡ n = rw q (cc) in elim m.named [
      | inl d ↦ absurd (cc)
      | inr p ↦ rw (← z) (subst (λ u. S u (number_of t.low)) ((start_in w set b p.0).0 p.1) p.2)
    ]

    below : (o : Option Record) (r : ℕ) → Below (number_of o) r → AtMost (record_of o) r
    below None r h = absurd (omega (arith, h.1))
    below (Some k) r h = h.0

pub stop_is : (f : List ℕ) (array offset c class : ℕ) (rows : List Row) (set : ℕ) (t : Found) → offset < (span_of (layout_of f) array).length → c ≡ cell_at f array offset →
    (start : ℕ) → start ≡ index (at_start (is_scratch (layout_of f) array)) → ((i : ℕ) → i < statuses → bit set i ≡ eqb i start) → class ≡ c + 1 → Passed f (cell_of class) class (block_between f 0 (record_count f)) (In set) None rows t →
    Least (record_of t.low) (λ r. StopsAt (plan_of f) r c)
unfolding plan_of block_between
stop_is f array offset c class rows set t inside is start first only e p =
    let z : cell_of class ≡ cell_at f array offset = omega arith in
    let u = at_start (is_scratch (layout_of f) array) in
    let b : Begins u set = rw first at only in
    let l : Least (record_of t.low) (Stops (layout_of f) (cell_at f array offset) (plan_of f).body u) = least_found u set b t (rw z at p.ran) in
    rw is (subst (λ v. Least (record_of t.low) (Stops (layout_of f) (cell_at f array offset) (plan_of f).body v)) (sym (first_status f array offset inside)) l)

-- the first cell of an array is a small number
pub start_low : {f starts : List ℕ} {bodies : ℕ} → Plain f bodies → Starts f starts → (a : ℕ) → a ≤ array_count f → get_or starts a 0 ≤ 4096
start_low {f} w s a h = omega (arith, s.first a h, first_rises (lengths_of f) a (array_count f) h, all_cells f, (opened_facts f w.opens).bounds.cells_below)

-- where the cells of an array end
pub record Ends (f : List ℕ) (array first next : ℕ) : Type 0 where
  pub size : next ≡ first + (span_of (layout_of f) array).length
  pub limit : next ≤ 4096

module _ (f : List ℕ) (bodies : ℕ) (w : Plain f bodies) (array first next : ℕ) (s : Span f array first next) where
  pub ends : Ends f array first next
  ends =
      let m : (span_of (layout_of f) (array + 1)).first ≡ (span_of (layout_of f) array).first + (span_of (layout_of f) array).length = rw add-one (first_more (lengths_of f) array) in
      let l : (span_of (layout_of f) (array + 1)).first ≤ (span_of (layout_of f) (array_count f)).first = first_rises (lengths_of f) (array + 1) (array_count f) (omega (arith, s.one)) in
      record { size = omega (arith, s.begins, s.ends); limit = omega (arith, s.ends, all_cells f, (opened_facts f w.opens).bounds.cells_below) }

  -- a cell with its own stop
  pub looked : (c : ℕ) (v : Verdict) → Fits c (StopsAt (plan_of f)) v → (u : Verdict) (k : Option Record) → Least (record_of k) (λ r. StopsAt (plan_of f) r c) → u ≡ with_cell v c (record_of k) → Fits (c + 1) (StopsAt (plan_of f)) u
  looked c v fits u k l e = rw (e, add-one) (fits_cell c (StopsAt (plan_of f)) v (record_of k) fits l)

  -- those without a mark, each with that of the cell before it
  module _ (m : List ℕ) (k : Marked f (record_count f) m) (v : Verdict) (n : ℕ) (h : n ≤ next) where
    pub shared : (d c : ℕ) → first < c → n ≡ c + d → ((i : ℕ) → c ≤ i → i < n → get_or m i 0 ≡ 1 → ⊥) → Fits c (StopsAt (plan_of f)) v → Fits n (StopsAt (plan_of f)) v
    shared zero c low e nm fits = let z : n ≡ c = omega arith in rw z fits
    shared (suc d) c low e nm fits =
        let o : ℕ = c - first - 1 in
        let inside : suc o < (span_of (layout_of f) array).length = omega (arith, ends.size) in
        let z : cell_at f array (suc o) ≡ c = omega (arith, s.begins) in
        shared d (suc c) (omega arith) (omega arith) (λ i l. nm i (omega arith)) (fits_alike c (cell_at f array o) (StopsAt (plan_of f)) v (omega (arith, s.begins))
        (λ r p. stop_alike f bodies w array o inside (k.alike array o inside (rw z (nm c (omega arith) (omega arith)))) r (rw z p)) fits)

-- "Where W is declared, every way through the pass, stops aside, writes every cell of the array on that side": said of the array's cells one by one.
use mathlib.Core.Path.{◌≡◌, refl, sym, ◌∙◌}
use mathlib.Core.Logic.{◌⊎◌, inl, inr, ◌↔◌}
use mathlib.Core.List.{List, []}
use mathlib.Core.Bool.{Bool, true, false, true≢false}
use Prim.Native.Nat.{ℕ, zero, suc, ◌+◌, ◌-◌, ◌<◌}
use native.Mathlib.Nat.{add-zero}
use native.Mathlib.Omega.{arith}
use Rattle.model.specs.Lists.{any}
use Rattle.model.specs.Sides.{Side, Layout, span_of, in_span}
use Rattle.model.specs.Records.{Action}
use Rattle.model.specs.Blocks.{Block}
use Rattle.model.specs.Judging.{Declaration, Written, Way, Itself, writes_cell, always_writes, all_written}
use Rattle.model.proofs.Booleans.{and_in, and_out, and_none}
use Rattle.model.proofs.Numbering.{in_bounds, bounds_in}
use Rattle.model.proofs.Written.{unwritten, always_written}

-- all cells are written exactly if each of them is
module _ (layout : Layout) (s : Side) (body : Block Action) where
  abbrev always : ℕ → Bool
  always c = always_writes layout s c body

  all_true : (c n : ℕ) → ((k : ℕ) → k < n → always (c + k) ≡ true) → all_written layout s body c n ≡ true
  unfolding all_written
  all_true c zero h = refl
  all_true c (suc n) h = and_in (always c) _ (rw add-zero at (h 0 (omega arith))) (all_true (suc c) n (λ k l. let z : suc c + k ≡ c + suc k = omega arith in rw z (h (suc k) (omega arith))))

  each_true : (c n k : ℕ) → all_written layout s body c n ≡ true → k < n → always (c + k) ≡ true
  unfolding all_written
  each_true c zero k e l = absurd (omega arith)
  each_true c (suc n) zero e l = rw add-zero (and_out (always c) _ e).0
  each_true c (suc n) (suc k) e l = let z : c + suc k ≡ suc c + k = omega arith in rw z (each_true (suc c) n k (and_out (always c) _ e).1 (omega arith))

pub written_cells : (layout : Layout) (body : Block Action) (d : Declaration) → (all_written layout d.side body (span_of layout d.array).first (span_of layout d.array).length ≡ true) ↔ Written layout body d
written_cells layout body d = (
  λ e c l cs ds w h.
      let first = (span_of layout d.array).first in
      let i = in_bounds layout d.array c l in
      let z : first + (c - first) ≡ c = omega (arith, i.0) in
      rw z at ((always_written layout d.side (first + (c - first)) body).0 (each_true layout d.side body first _ (c - first) e (omega (arith, i.0, i.1)))) cs ds w h,
  λ f. all_true layout d.side body _ _ (λ k l.
      let c = (span_of layout d.array).first + k in
      (always_written layout d.side c body).1 (f c (bounds_in layout d.array c (omega arith) (omega arith)))),
)

-- one that is not written on every way, where not all are
record Missed (layout : Layout) (s : Side) (body : Block Action) (c n : ℕ) : Type 0 where
  index : ℕ
  low : index < n
  missed : always_writes layout s (c + index) body ≡ false

first_missed : (layout : Layout) (s : Side) (body : Block Action) (c n : ℕ) → all_written layout s body c n ≡ false → Missed layout s body c n
unfolding all_written
first_missed layout s body c zero e = absurd (true≢false e)
first_missed layout s body c (suc n) e = go (and_none (always_writes layout s c body) _ e) (first_missed layout s body (suc c) n)
  where
    go : (always_writes layout s c body ≡ false) ⊎ (all_written layout s body (suc c) n ≡ false) →
        (all_written layout s body (suc c) n ≡ false → Missed layout s body (suc c) n) → Missed layout s body c (suc n)
    go (inl f) ih = record { index = 0; low = omega arith; missed = rw add-zero f }
    go (inr f) ih =
        let m = ih f in
        let z : c + suc m.index ≡ suc c + m.index = omega arith in
        record { index = suc m.index; low = omega (arith, m.low); missed = rw z m.missed }

-- some way through a block leaves a cell of the declared array unwritten on the declared side
abbrev pub Leaves : Layout → Block Action → Declaration → Type 0
Leaves layout b d = (c : ℕ) × (in_span (span_of layout d.array) c ≡ true) × (cs : List Bool) × (ds : List Bool) × (w : List Action) × Way Itself b cs ds w × (any (writes_cell layout d.side c) w ≡ false)

pub left_cells : (layout : Layout) (body : Block Action) (d : Declaration) → (all_written layout d.side body (span_of layout d.array).first (span_of layout d.array).length ≡ false) ↔ Leaves layout body d
left_cells layout body d = (
  λ e.
      let first = (span_of layout d.array).first in
      let m = first_missed layout d.side body first _ e in
      let c = first + m.index in
      let u = unwritten layout d.side c body [] m.missed in
      (c, bounds_in layout d.array c (omega arith) (omega (arith, m.low)), u.choices, [], u.records, u.way, u.none),
  λ l. go l (all_written layout d.side body (span_of layout d.array).first (span_of layout d.array).length) refl,
)
  where
    go : Leaves layout body d → (z : Bool) → all_written layout d.side body (span_of layout d.array).first (span_of layout d.array).length ≡ z → z ≡ false
    go l false e = refl
    go (c, inside, cs, ds, w, way, none) true e = absurd (true≢false (sym ((written_cells layout body d).0 e c inside cs ds w way) ∙ none))

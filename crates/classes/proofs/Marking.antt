-- Cells that no record tells apart: the marks at all others.
use Prim.Native.Nat.{ℕ, zero, suc, ◌+◌, ◌≤◌, ◌<◌}
use mathlib.Core.Path.{◌≡◌, refl, sym, ap, ◌∙◌}
use mathlib.Core.Bool.{Bool, true, false, ◌&&◌, ◌||◌, true≢false}
use mathlib.Core.List.{List}
use native.Nat.{ℕᴺ_discrete}
use native.Mathlib.Decide.{dec_lt}
use native.Mathlib.Numerals.{add-one}
use native.Mathlib.Omega.{arith}
use lib.Dec.{eqb, leb}
use lib.ListN.{length, length-set, get_or, set}
use lib.Seq.{get_or-set_same, get_or-set_other}
use borrow.Author.Tests.{eqb-true, le-leb}
use Rattle.model.specs.Sides.{span_of}
use Rattle.model.specs.Records.{distance, stepped}
use Rattle.model.proofs.Numbering.{stepped_one, stepped_next, stepped_none}
use Rattle.reading.specs.declared.Fields.{Fields}
use Rattle.reading.specs.Bytes.{first_arm, second_arm, array_count, layout_of, record_count, fields_at, lengths_of}
use Rattle.reading.specs.Inner.Cells.{from_of, to_of, step_of}
use Rattle.format.specs.Inner.Walks.{Plain, Walkable, Starts}
use Rattle.reading.proofs.Tables.{first_rises, next_cell, all_cells}
use Rattle.format.proofs.Walking.{opened_facts, steps}
use Rattle.format.proofs.Trees.{plain_walk}
use Rattle.format.proofs.Acts.{here, cells_fit}
use Rattle.statuses.proofs.Tests.{same_test, stepped_shift, leb_before, ltb_before}
use Rattle.lookahead.specs.Inner.Ahead.{covers}
use Rattle.classes.specs.Inner.Marks.{Edged, Marked}

-- every record of a walkable range begins one
pub record Begins (f : List ℕ) (k limit : ℕ) : Type 0 where
  pub end : ℕ
  pub less : k < end
  pub below : end ≤ limit
  pub walk : Walkable f k end

begins : (f : List ℕ) (limit n r end : ℕ) → Walkable f r end → end ≤ r + n → end ≤ limit → (k : ℕ) → r ≤ k → k < end → Begins f k limit
begins f limit zero r end w l m k h j = absurd (omega arith)
begins f limit (suc n) r end w l m k h j = elim (dec_lt r k) [
  | no z ↦ let q : r ≡ k = omega arith in record { end = end; less = j; below = m; walk = rw q at w }
  | yes z ↦ let s = steps f r end (omega arith) w (fields_at f r) refl in
      elim (dec_lt k (r + 1 + first_arm (fields_at f r))) [
        | yes y ↦ begins f limit n _ _ s.one (omega (arith, s.inside)) (omega (arith, s.inside)) k (omega arith) y
        | no y ↦ elim (dec_lt k (r + 1 + first_arm (fields_at f r) + second_arm (fields_at f r))) [
          | yes x ↦ begins f limit n _ _ s.two (omega (arith, s.inside)) (omega (arith, s.inside)) k (omega arith) x
          | no x ↦ begins f limit n _ _ s.rest (omega (arith, s.inside)) m k (omega arith) j
        ]
      ]
]

-- the first cell of a record's array
abbrev first_cell : List ℕ → Fields → ℕ
first_cell f x = (span_of (layout_of f) x.array).first

-- where the cells of a record begin and end
pub record Edges (f : List ℕ) (x : Fields) : Type 0 where
  pub array : x.array < array_count f
  pub few : array_count f ≤ 32
  pub order : x.p < x.q
  pub inside : first_cell f x + x.q ≤ 4096

-- its cells
pub record Cells (f : List ℕ) (x : Fields) (from to step : ℕ) : Type 0 where
  pub from_is : from ≡ first_cell f x + x.p
  pub to_is : to ≡ first_cell f x + x.q
  pub step_is : step ≡ distance x.step

pub cells : (f : List ℕ) (x : Fields) → x.kind ≤ 3 → (first : ℕ) → first ≡ first_cell f x → (next from to step : ℕ) → from ≡ from_of x first → to ≡ to_of x first next → step ≡ step_of x → Cells f x from to step
cells f x h first e next from to step a b s =
    let k = le-leb x.kind 3 h in
    record { from_is = rw (← e) (rw k at a); to_is = rw (← e) (rw k at b); step_is = rw k at s }

module _ (f : List ℕ) (bodies : ℕ) (w : Plain f bodies) (r : ℕ) (h : r < record_count f) where
  pub edges : (x : Fields) → x ≡ fields_at f r → x.kind ≤ 3 → Edges f x
  edges x e k =
      let o = opened_facts f w.opens in
      let b = begins f (record_count f) (record_count f) 0 (record_count f) (plain_walk f o w.plain) (omega arith) (omega arith) r (omega arith) h in
      let n = here f bodies r b.end w b.less b.below b.walk x e in
      let t = cells_fit f x n.steps.fits n.low k in
      let a : (span_of (layout_of f) (suc x.array)).first ≤ (span_of (layout_of f) (array_count f)).first = first_rises (lengths_of f) _ _ (omega (arith, t.0.1)) in
      record {
        array = t.0.1;
        few = o.bounds.header.arrays.1;
        order = t.1;
        inside = omega (arith, t.2, a, next_cell f x.array t.0.1, all_cells f, o.bounds.cells_below);
      }

-- one mark more, at place a
module _ (m : List ℕ) (size : length m ≡ 4097) (a : ℕ) (inside : a < 4097) where
  more_size : length (set m a 1) ≡ 4097
  more_size = length-set m a 1 ∙ size

  more_here : get_or (set m a 1) a 0 ≡ 1
  more_here = get_or-set_same m a 1 0 (rw size inside)

  more_kept : (n : ℕ) → get_or m n 0 ≡ 1 → get_or (set m a 1) n 0 ≡ 1
  more_kept n e = elim (ℕᴺ_discrete n a) [ yes z ↦ rw z more_here | no z ↦ get_or-set_other m a n 1 0 z ∙ e ]

-- marks at places a and b
module _ (m : List ℕ) (size : length m ≡ 4097) (a b : ℕ) (a-inside : a < 4097) (b-inside : b < 4097) where
  two_size : length (set (set m a 1) b 1) ≡ 4097
  two_size = more_size (set m a 1) (more_size m size a a-inside) b b-inside

  two_kept : (n : ℕ) → get_or m n 0 ≡ 1 → get_or (set (set m a 1) b 1) n 0 ≡ 1
  two_kept n e = more_kept (set m a 1) (more_size m size a a-inside) b b-inside n (more_kept m size a a-inside n e)

  two_first : get_or (set (set m a 1) b 1) a 0 ≡ 1
  two_first = more_kept (set m a 1) (more_size m size a a-inside) b b-inside a (more_here m size a a-inside)

  two_second : get_or (set (set m a 1) b 1) b 0 ≡ 1
  two_second = more_here (set m a 1) (more_size m size a a-inside) b b-inside

  -- without a step they are told apart from those before them, and no others
  pub edged_range : Edged 1 a b m (set (set m a 1) b 1)
  edged_range = record {
    size = two_size;
    kept = two_kept;
    alike = λ n u. stepped_one a b (suc n) ∙ rw (leb_before a n (λ z. u (rw z two_first)), ltb_before b n (λ z. u (rw z two_second))) (sym (stepped_one a b n));
  }

-- the same where the step is a number that can only be 1
pub edged_each : (m : List ℕ) (a b step : ℕ) → length m ≡ 4097 → 1 ≤ step → step ≤ 1 → a < 4097 → b < 4097 → Edged step a b m (set (set m a 1) b 1)
edged_each m a b step size some few a-inside b-inside = let e : step ≡ 1 = omega arith in rw e (edged_range m size a b a-inside b-inside)

-- at number c of `from`, `from` + k and so on below `to`: those before c are marked, and the numbers after them
pub record Behind (k from to c : ℕ) (before after : List ℕ) : Type 0 where
  pub size : length after ≡ 4097
  pub kept : (n : ℕ) → get_or before n 0 ≡ 1 → get_or after n 0 ≡ 1
  pub both : (n : ℕ) → stepped k from to n ≡ true → stepped k c to n ≡ false → (get_or after n 0 ≡ 1) × (get_or after (n + 1) 0 ≡ 1)

module _ (k from to : ℕ) (before : List ℕ) where
  pub behind_none : length before ≡ 4097 → Behind k from to from before before
  behind_none e = record { size = e; kept = λ n z. z; both = λ n y z. absurd (true≢false (sym y ∙ z)) }

  module _ (c : ℕ) (m : List ℕ) (w : Behind k from to c before m) where
    pub behind_next : 1 ≤ k → c < to → to ≤ 4096 → Behind k from to (c + k) before (set (set m c 1) (c + 1) 1)
    behind_next some h l =
        let l₀ : c < 4097 = omega arith in
        let l₁ : c + 1 < 4097 = omega arith in
        let still = two_kept m w.size c (c + 1) l₀ l₁ in
        record {
          size = two_size m w.size c (c + 1) l₀ l₁;
          kept = λ n z. still n (w.kept n z);
          both = λ n y z. elim (ℕᴺ_discrete n c) [
            | yes e ↦ rw e (two_first m w.size c (c + 1) l₀ l₁, two_second m w.size c (c + 1) l₀ l₁)
            | no e ↦ let b = w.both n y (sym (stepped_next k c to some n e) ∙ z) in (still n b.0, still (n + 1) b.1)
          ];
        }

    -- at the end each is told apart from the number before it, and so is the number after it
    pub behind_all : to ≤ c → Edged k from to before m
    behind_all h = record {
      size = w.size;
      kept = w.kept;
      alike = λ n u. same_test (stepped k from to (suc n)) (stepped k from to n)
          (λ e. absurd (u (w.both (suc n) e (stepped_none k c to h (suc n))).0))
          (λ e. absurd (u (rw (add-one n) at (w.both n e (stepped_none k c to h n)).1)));
    }

-- a record covers neighbouring cells alike if it speaks of the whole array, or steps on both offsets or neither
abbrev on : Fields → ℕ → Bool
on x = stepped (distance x.step) x.p x.q

module _ (x : Fields) (array offset : ℕ) where
  covers_all : 3 < x.kind → covers x array (suc offset) ≡ covers x array offset
  unfolding covers
  covers_all k = rw (le-leb 4 x.kind (omega arith))

  covers_alike : (array ≡ x.array → on x (suc offset) ≡ on x offset) → covers x array (suc offset) ≡ covers x array offset
  unfolding covers
  covers_alike h = go (eqb array x.array) refl
    where
      go : (b : Bool) → eqb array x.array ≡ b → (b && (leb 4 x.kind || on x (suc offset))) ≡ (b && (leb 4 x.kind || on x offset))
      go true e = ap (λ b. leb 4 x.kind || b) (h (eqb-true array x.array e))
      go false e = refl

-- the marks of one record more
module _ (f : List ℕ) (m : List ℕ) (r : ℕ) (x : Fields) (e : x ≡ fields_at f r) (h : Marked f r m) where
  pub marked_skip : 3 < x.kind → Marked f (r + 1) m
  marked_skip k = record {
    size = h.size;
    alike = λ a o l n j i. elim (dec_lt j r) [
      | yes z ↦ h.alike a o l n j z
      | no z ↦ let q : j ≡ r = omega arith in rw (q, ← e) (covers_all x a o k)
    ];
  }

  module _ (from to step : ℕ) (z : Cells f x from to step) (after : List ℕ) (w : Edged step from to m after) where
    on_alike : (offset : ℕ) → (get_or after (first_cell f x + suc offset) 0 ≡ 1 → ⊥) → on x (suc offset) ≡ on x offset
    on_alike offset u =
        let first = first_cell f x in
        let next : first + suc offset ≡ suc (first + offset) = omega arith in
        let shifted = stepped_shift (distance x.step) first x.p x.q in
        sym (shifted (suc offset)) ∙ rw (next, ← z.from_is, ← z.to_is, ← z.step_is) (w.alike (first + offset) (rw next at u)) ∙ shifted offset

    pub marked_more : Marked f (r + 1) after
    marked_more = record {
      size = w.size;
      alike = λ a o l n j i. elim (dec_lt j r) [
        | yes y ↦ h.alike a o l (λ v. n (w.kept _ v)) j y
        | no y ↦ let q : j ≡ r = omega arith in rw (q, ← e) (covers_alike x a o (λ u. on_alike o (rw u at n)))
      ];
    }

-- the marks of one record more, by the cells that were found for it
pub marked_next : (f : List ℕ) (bodies : ℕ) (starts : List ℕ) → Plain f bodies → Starts f starts → (r : ℕ) → r < record_count f → (x : Fields) → x ≡ fields_at f r → x.kind ≤ 3 →
    (from to step : ℕ) → from ≡ from_of x (get_or starts x.array 0) → to ≡ to_of x (get_or starts x.array 0) (get_or starts (x.array + 1) 0) → step ≡ step_of x →
    (m after : List ℕ) → Marked f r m → Edged step from to m after → Marked f (r + 1) after
marked_next f bodies starts w s r h x e k from to step a b d m after z i =
    let edge = edges f bodies w r h x e k in
    marked_more f m r x e z from to step (cells f x k (get_or starts x.array 0) (s.first x.array (omega (arith, edge.array))) _ from to step a b d) after i

pub marked_none : (f m : List ℕ) → length m ≡ 4097 → Marked f 0 m
marked_none f m e = record { size = e; alike = λ a o l n k i. absurd (omega arith) }

-- The declarations of a pass by array: whether an array is declared before, and whether a read or write is declared.
use mathlib.Core.Path.{◌≡◌, refl, sym, ◌∙◌}
use mathlib.Core.Bool.{Bool, true, false, cond, not, ◌&&◌, ◌||◌, and-true, and-false, or-true, or-false}
use mathlib.Core.List.{List, [], ◌∷◌}
use Prim.Native.Nat.{ℕ, zero, suc, ◌+◌, ◌≤◌, ◌<◌}
use native.Nat.{ℕᴺ_discrete}
use native.Mathlib.Decide.{dec_lt}
use native.Mathlib.Numerals.{add-one}
use native.Mathlib.Omega.{arith}
use lib.Dec.{eqb}
use lib.ListN.{get_or, set, replicate, length-set, length-replicate}
use lib.Seq.{get_or-set_same, get_or-set_other}
use Rattle.std.specs.Prelude.{Option, None, Some, is_some}
use Rattle.marks.specs.declared.Declaration.{Declaration as Declared}
use borrow.Author.Tests.{lt-ltb, le-ltb, eq-eqb, ne_eqb, eqb-true}
use Rattle.model.specs.Verdicts.{Accepted, Refused}
use Rattle.model.specs.Lists.{any}
use Rattle.model.specs.Sides.{same_side}
use Rattle.model.specs.Records.{read, write}
use Rattle.model.specs.Judging.{Mode, R, W, RW, R_or_RW, W_or_RW, Declaration, allowed_by, permits}
use Rattle.model.specs.Inner.Declared.{declares}
use Rattle.model.proofs.Booleans.{any_append}
use Rattle.reading.specs.declared.Fields.{Fields}
use Rattle.model.specs.Rows.{row, answer_of}
use Rattle.reading.specs.Bytes.{table, declarations_in, fields_at, between}
use Rattle.format.specs.Plans.{side_of, action_of, declaration_of, pass_at}
use Rattle.contents.specs.Found.{found}
use Rattle.format.proofs.Walking.{array_start}
use Rattle.reading.proofs.Ranges.{out_of_range}
use Rattle.model.proofs.Rows.{holds, skips, skipped, empty, each_passed}
use Rattle.passes.specs.declared.Extent.{Extent}
use Rattle.permits.specs.Permits.{declared_before, permit_rows}
use Rattle.passes.specs.Inner.Passes.{PassAt}
use Rattle.permits.specs.Inner.Uses.{last_declared, Says, ByArray, permitted, use_rows}
use Rattle.marks.specs.Inner.Marks.{Tables}
use Rattle.marks.proofs.Walks.{sides_agree}
use Rattle.passes.proofs.Records.{facts, arrays_low, declaration_kind, declaration_array, other_kind, other_array, other_side}

-- the declarations from record r on
abbrev declared : List ℕ → ℕ → ℕ → Declaration
declared f r i = declaration_of (fields_at f (r + i))

-- what a declaration with the fields x says of its array
abbrev said : Fields → Option Declared
said x = Some (record { kind = x.kind; side = x.side })

abbrev no_declaration : Option Declared
no_declaration = None

none_at : (n a : ℕ) → get_or (replicate n no_declaration) a no_declaration ≡ no_declaration
none_at zero a = refl
none_at (suc n) zero = refl
none_at (suc n) (suc a) = none_at n a

-- before the first declaration no array has one
pub none_declared : (f : List ℕ) (r : ℕ) (l : List (Option Declared)) → l ≡ replicate 32 None → Says f r 0 l
unfolding last_declared
none_declared f r l e = record { size = rw e (length-replicate 32 no_declaration); each = λ a h. rw e (none_at 32 a) }

module _ (f : List ℕ) (r : ℕ) where
  -- an array has a declaration exactly if it is declared
  any_declared : (n a : ℕ) → any (λ (d : Declaration). eqb d.array a) (table (declared f r) n) ≡ is_some (last_declared f r n a)
  unfolding table last_declared declaration_of
  any_declared zero a = refl
  any_declared (suc n) a = any_append (λ (d : Declaration). eqb d.array a) (table (declared f r) n) _ ∙ go (eqb (fields_at f (r + n)).array a) _ (any_declared n a)
    where
      go : (b earlier : Bool) → earlier ≡ is_some (last_declared f r n a) → (earlier || (b || false)) ≡ is_some (cond b (said (fields_at f (r + n))) (last_declared f r n a))
      go true earlier ih = or-true earlier
      go false earlier ih = or-false earlier ∙ ih

  -- where no array is declared twice: what the declaration of array a says is what some declaration says
  module _ (fits : Mode → Bool) (test : ℕ → Bool) (a s : ℕ) (low : s < 2) where
    by_one : Option Declared → Bool
    by_one None = false
    by_one (Some d) = test d.kind && eqb d.side s

    declares_is : (n : ℕ) → ((i : ℕ) → i < n → (fits (declared f r i).mode ≡ test (fields_at f (r + i)).kind) × ((fields_at f (r + i)).side < 2) × (last_declared f r i (fields_at f (r + i)).array ≡ None)) →
        declares fits (side_of s) a (table (declared f r) n) ≡ by_one (last_declared f r n a)
    unfolding table last_declared declaration_of by_one
    declares_is zero k = refl
    declares_is (suc n) k =
        any_append (λ (d : Declaration). fits d.mode && (same_side d.side (side_of s) && eqb d.array a)) (table (declared f r) n) _
        ∙ go (eqb (fields_at f (r + n)).array a) refl _ (declares_is n (λ i h. k i (omega arith)))
      where
        go : (b : Bool) → eqb (fields_at f (r + n)).array a ≡ b → (earlier : Bool) → earlier ≡ by_one (last_declared f r n a) →
            (earlier || ((fits (declared f r n).mode && (same_side (side_of (fields_at f (r + n)).side) (side_of s) && b)) || false))
            ≡ by_one (cond b (said (fields_at f (r + n))) (last_declared f r n a))
        go true e earlier ih =
            let z : last_declared f r n a ≡ None = rw (eqb-true (fields_at f (r + n)).array a e) at (k n (omega arith)).2 in
            let x = fields_at f (r + n) in
            let no : earlier ≡ false = ih ∙ rw z in
            rw (no, (k n (omega arith)).0, sides_agree x.side s (k n (omega arith)).1 low, and-true (eqb x.side s)) (or-false (test x.kind && eqb x.side s))
        go false e earlier ih = rw (and-false (same_side (side_of (fields_at f (r + n)).side) (side_of s)), and-false (fits (declared f r n).mode)) (or-false earlier ∙ ih)

-- the kinds that permit a read or write with the fields x
abbrev permitting : Fields → ℕ → Bool
permitting x k = (eqb x.kind 1 && eqb k 16) || (eqb x.kind 2 && eqb k 17) || eqb k 18

by_kind : (P : ℕ → Type 0) → P 16 → P 17 → P 18 → (k : ℕ) → 16 ≤ k → k ≤ 18 → P k
by_kind P a b c k h l = elim (ℕᴺ_discrete k 16) [
  | yes z ↦ rw z a
  | no z ↦ elim (ℕᴺ_discrete k 17) [ yes y ↦ rw y b | no y ↦ let w : k ≡ 18 = omega arith in rw w c ]
]

some_none : {d : Declared} → Some d ≡ None → ⊥
some_none e = absurd cc

none_is : (o : Option Declared) → is_some o ≡ false → o ≡ None
none_is None e = refl
none_is (Some d) e = absurd cc

module _ (f : List ℕ) (e : Extent) (p : PassAt f e) where
  -- declaration i, with the fields x
  module _ (i : ℕ) (h : i < e.declarations) (x : Fields) (ex : x ≡ fields_at f (e.from + i)) where
    before_is : declared_before f e.body i ≡ is_some (last_declared f e.from i x.array)
    unfolding declared_before declaration_of
    before_is = rw (← p.from_is, ex) (any_declared f e.from i _)

    rows_are : permit_rows f e.body i ≡ (row (is_some (last_declared f e.from i x.array)) 12 (e.from + i) ∷ [])
    unfolding permit_rows
    rows_are = rw (lt-ltb i (declarations_in f e.body) (rw (← p.declarations_are) h), before_is, ← p.from_is)

    pub array_fits : x.array < 32
    array_fits = rw ex (omega (arith, (declaration_array f e p i h).1, arrays_low f e p))

    module _ (l : List (Option Declared)) (s : Says f e.from i l) where
      pub twice : is_some (get_or l x.array None) ≡ true → Refused 12 (e.from + i) ≡ answer_of (permit_rows f e.body i)
      twice z = rw rows_are (holds _ _ _ _ (rw (s.each x.array array_fits) at z))

      pub once : is_some (get_or l x.array None) ≡ false → Accepted ≡ answer_of (permit_rows f e.body i)
      once z = rw rows_are (skips _ _ _ _ _ (rw (s.each x.array array_fits) at z) empty)

      pub stored : Says f e.from (i + 1) (set l x.array (said x))
      unfolding last_declared
      stored = record {
        size = length-set l x.array (said x) ∙ s.size;
        each = λ a b. rw (add-one, ← ex) (elim (ℕᴺ_discrete a x.array) [
          | yes z ↦ rw (z, eq-eqb x.array x.array refl) (get_or-set_same l x.array (said x) None (rw s.size array_fits))
          | no z ↦ rw (ne_eqb x.array a (λ w. z (sym w))) (get_or-set_other l x.array a (said x) None z ∙ s.each a b)
        ]);
      }

    undeclared : Accepted ≡ answer_of (permit_rows f e.body i) → last_declared f e.from i x.array ≡ None
    undeclared a = none_is _ (skipped _ _ _ _ (rw rows_are at a)).0

  -- where no array is declared twice, the entry of a declaration's array is its own
  module _ (l : List (Option Declared)) (b : ByArray f e l) where
    undeclared_at : (i : ℕ) → i < e.declarations → last_declared f e.from i (fields_at f (e.from + i)).array ≡ None
    undeclared_at i h = undeclared i h _ refl (each_passed (permit_rows f e.body) e.declarations i b.once h)

    kept : (i n : ℕ) → i < n → n ≤ e.declarations → last_declared f e.from n (fields_at f (e.from + i)).array ≡ said (fields_at f (e.from + i))
    unfolding last_declared
    kept i zero h l = absurd (omega arith)
    kept i (suc n) h l = elim (ℕᴺ_discrete i n) [
      | yes z ↦ rw (z, eq-eqb (fields_at f (e.from + n)).array (fields_at f (e.from + n)).array refl)
      | no z ↦
          let earlier = kept i n (omega arith) (omega arith) in
          rw (ne_eqb (fields_at f (e.from + n)).array (fields_at f (e.from + i)).array (λ same. some_none (sym earlier ∙ rw same at (undeclared_at n (omega arith))))) earlier
    ]

    pub declared_kept : (i : ℕ) → i < e.declarations → get_or l (fields_at f (e.from + i)).array None ≡ said (fields_at f (e.from + i))
    declared_kept i h = b.says.each _ (omega (arith, (declaration_array f e p i h).1, arrays_low f e p)) ∙ kept i e.declarations h (omega arith)

    side_low : (n a : ℕ) → n ≤ e.declarations → (d : Declared) → last_declared f e.from n a ≡ Some d → d.side < 2
    unfolding last_declared
    side_low zero a l d q = absurd cc
    side_low (suc n) a l d q = go (eqb (fields_at f (e.from + n)).array a) (λ k. side_low n a (omega arith) d k) q
      where
        go : (same : Bool) → (last_declared f e.from n a ≡ Some d → d.side < 2) → cond same (said (fields_at f (e.from + n))) (last_declared f e.from n a) ≡ Some d → d.side < 2
        go true h q = let s : (fields_at f (e.from + n)).side ≡ d.side = cc in rw s at (declaration_array f e p n (omega arith)).0
        go false h q = h q

    -- the first cells that opening found, and the declarations by array
    pub tables : (starts : List ℕ) → starts ≡ (found f).array_starts → Tables f starts l
    tables starts es = record {
      starts_are = λ a h. rw es (array_start f (found f) refl (facts f e p).bounds a h);
      arrays_low = arrays_low f e p;
      cells_low = (facts f e p).bounds.cells_below;
      sides_low = λ a h d q. side_low e.declarations a (omega arith) d (sym (b.says.each a h) ∙ q);
    }

  -- a read or write with the fields x, where no array is declared twice
  module _ (l : List (Option Declared)) (b : ByArray f e l) (x : Fields) (low : x.side < 2) where
    declared_at : Option Declared
    declared_at = last_declared f e.from e.declarations x.array

    by_one_is : (d : Option Declared) → by_one f e.from (λ m. true) (permitting x) x.array x.side low d ≡ permitted x d
    unfolding permitted by_one
    by_one_is None = refl
    by_one_is (Some d) = refl

    declares_at : (fits : Mode → Bool) → ((k : ℕ) → 16 ≤ k → k ≤ 18 → fits (cond (eqb k 16) R (cond (eqb k 17) W RW)) ≡ permitting x k) →
        declares fits (side_of x.side) x.array (pass_at f e.body).declarations ≡ permitted x declared_at
    unfolding pass_at permitted declaration_of declared_at by_one
    declares_at fits m = rw (← p.from_is, ← p.declarations_are) (declares_is f e.from fits (permitting x) x.array x.side low e.declarations each_one) ∙ by_one_is declared_at
      where
        each_one : (i : ℕ) → i < e.declarations → (fits (declared f e.from i).mode ≡ permitting x (fields_at f (e.from + i)).kind) × ((fields_at f (e.from + i)).side < 2) × (last_declared f e.from i (fields_at f (e.from + i)).array ≡ None)
        each_one i h =
            let k = declaration_kind f e p i h in
            (m _ k.0 k.1, (declaration_array f e p i h).0, undeclared_at l b i h)

    permits_is : 1 ≤ x.kind → x.kind ≤ 2 → permits (pass_at f e.body).declarations (action_of x) ≡ permitted x declared_at
    unfolding action_of
    permits_is h l = elim (ℕᴺ_discrete x.kind 1) [
      | yes k ↦ rw (eq-eqb x.kind 1 k) (declares_at (allowed_by read) (by_kind (λ j. R_or_RW (cond (eqb j 16) R (cond (eqb j 17) W RW)) ≡ permitting x j) (rw k) (rw k) (rw k)))
      | no n ↦ let k : x.kind ≡ 2 = omega arith in rw (ne_eqb x.kind 1 n, eq-eqb x.kind 2 k) (declares_at (allowed_by write) (by_kind (λ j. W_or_RW (cond (eqb j 16) R (cond (eqb j 17) W RW)) ≡ permitting x j) (rw k) (rw k) (rw k)))
    ]

  -- record i after the declarations: its numbers by the declaration of its array
  module _ (i : ℕ) (h : e.declarations ≤ i) (l : i < e.records) (x : Fields) (ex : x ≡ fields_at f (e.from + i)) (t : List (Option Declared)) (b : ByArray f e t) where
    pub array_low : x.array < 32
    array_low = rw ex (omega (arith, other_array f e p i h l, arrays_low f e p))

    condition : (between 1 2 x.kind && not (permitted x (get_or t x.array None))) ≡ (between 1 2 x.kind && not (permits (pass_at f e.body).declarations (action_of x)))
    unfolding declared_at
    condition = elim (dec_lt 2 x.kind) [
      | yes k ↦ rw (out_of_range 1 2 x.kind (λ u v. omega arith))
      | no k ↦
          let low : x.side < 2 = rw ex (other_side f e p i h l (rw (← ex) (omega arith))) in
          rw (b.says.each x.array array_low, permits_is t b x low (rw ex (other_kind f e p i h l).0) (omega arith))
    ]

    pub uses_are : use_rows (e.from + i) x (get_or t x.array None) ≡ permit_rows f e.body i
    unfolding use_rows permit_rows
    uses_are = rw (condition, le-ltb i (declarations_in f e.body) (rw (← p.declarations_are) h), ← p.from_is, ex)

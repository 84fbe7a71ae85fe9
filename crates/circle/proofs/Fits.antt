-- The expansion of a file that opens as a declared plan has a file that opens too, where it has at most 1,024 records: the fields of each
-- of its records fit.
use mathlib.Core.Path.{◌≡◌, refl, sym, ap, ◌∙◌}
use mathlib.Core.Bool.{Bool, true, false, ◌&&◌}
use mathlib.Core.List.{List, [], ◌∷◌, ◌++◌}
use Prim.Native.Nat.{ℕ, zero, suc, ◌+◌, ◌-◌, ◌*◌, ◌≤◌, ◌<◌}
use native.Mathlib.Decide.{dec_lt}
use native.Mathlib.Omega.{arith}
use lib.Dec.{ltb, leb, eqb}
use lib.ListN.{length, get_or}
use borrow.Author.Tests.{ltb-true, ltb-false, le-leb, eq-eqb}
use Rattle.model.specs.Verdicts.{Accepted}
use Rattle.model.specs.Sides.{Side, host, card, side_number, Layout, span_of}
use Rattle.model.specs.Records.{Verb, read, write, copy, need, mark, Action, whole_of}
use Rattle.model.specs.Blocks.{Block, size, largest}
use Rattle.model.specs.Judging.{Declaration, Pass, pass_of}
use Rattle.model.specs.Inner.Declared.{no_pass}
use Rattle.model.specs.Expanding.{expand}
use Rattle.model.proofs.Booleans.{and_out, and_in}
use Rattle.model.proofs.Stamps.{as_verb}
use Rattle.reading.specs.declared.Fields.{Fields}
use Rattle.reading.specs.Bytes.{is_declared, array_count, body_count, table, length_at, layout_of, records_in, declarations_in, first_record, fields_at, between, lengths_of, nests, turns_of}
use Rattle.rules.specs.Rules.{fields_fit, deepest}
use Rattle.format.specs.Opening.{opening}
use Rattle.format.specs.Plans.{action_of, declaration_of, pass_at, plan_of, declared_plan_of}
use Rattle.files.specs.Files.{action_fields}
use Rattle.files.specs.Bounds.{all_pass, arrays_fit, nested_within, numbered_plan}
use Rattle.format.specs.Inner.Walks.{Good, block_between, body0_between}
use Rattle.reading.proofs.Ranges.{in_range}
use Rattle.reading.proofs.Tables.{length_table, arrays_counted, scratch_counted, array_length, next_record}
use Rattle.reading.proofs.FileKinds.{not_plain}
use Rattle.rules.proofs.Fields.{fit_declaration}
use Rattle.rules.proofs.Rules.{Tests}
use Rattle.format.proofs.Walking.{Facts, opened_facts, good_parts}
use Rattle.format.proofs.Trees.{shape, is_branch, is_loop, is_fixed, is_leaf, acts, block_none, block_branch, block_loop, block_fixed, block_act, body0_none, body0_branch, body0_loop, body0_fixed, body0_call, walk_of, body0_good, body0_body, pass_kind, pass_good, pass_declaration, pass_body}
use Rattle.files.specs.Expansions.{expansion_of, expansion_file}
use Rattle.files.proofs.RoundTrip.{plain_layout, plain_opens}
use Rattle.sizes.proofs.Fields.{action_again}
use Rattle.sizes.proofs.Walks.{second, next}
use Rattle.circle.proofs.Levels.{more_levels, branch_fits, loop_fits, fixed_fits, then_fits, declared_fits, numbered_fits}

-- a test that each entry of a table passes
module _ {A : Type 0} (test : A → Bool) where
  all_append : (l m : List A) → all_pass test l ≡ true → all_pass test m ≡ true → all_pass test (l ++ m) ≡ true
  all_append [] m e h = h
  all_append (x ∷ l) m e h = let k = and_out (test x) (all_pass test l) e in and_in _ _ k.0 (all_append l m k.1 h)

  all_table : (g : ℕ → A) (n : ℕ) → ((i : ℕ) → i < n → test (g i) ≡ true) → all_pass test (table g n) ≡ true
  unfolding table
  all_table g zero h = refl
  all_table g (suc n) h = all_append (table g n) (g n ∷ []) (all_table g n (λ i k. h i (omega arith))) (and_in _ _ (h n (omega arith)) refl)

-- a test that all passes and the one of no records pass: whatever a call calls passes it
all_called : (test : Pass → Bool) → test no_pass ≡ true → (ps : List Pass) (i : ℕ) → all_pass test ps ≡ true → test (get_or ps i no_pass) ≡ true
all_called test e [] i h = e
all_called test e (p ∷ ps) zero h = (and_out (test p) (all_pass test ps) h).0
all_called test e (p ∷ ps) (suc i) h = all_called test e ps i (and_out (test p) (all_pass test ps) h).1

-- whether the fields of an action fit a file
abbrev fits_in : List ℕ → Action → Bool
fits_in f x = fields_fit f (action_fields x)

-- what a declaration gives, and a record whose fields fit, as an action and as a declaration
module _ (f : List ℕ) where
  whole_fits : (s : Side) (a : ℕ) → ltb a (array_count f) ≡ true → (fits_in f (whole_of need s a) ≡ true) × (fits_in f (whole_of mark s a) ≡ true)
  unfolding fields_fit
  whole_fits host a e = (rw e, rw e)
  whole_fits card a e = (rw e, rw e)

  module _ (x : Fields) (fits : fields_fit f x ≡ true) where
    action_fit : 1 ≤ x.kind → x.kind ≤ 5 → fits_in f (action_of x) ≡ true
    action_fit h k = rw (action_again f x fits h k) fits

    declaration_fit : 16 ≤ x.kind → x.kind ≤ 18 → ltb (declaration_of x).array (array_count f) ≡ true
    unfolding declaration_of
    declaration_fit h k =
        let on_array = ltb x.side 2 && ltb x.array (array_count f) in
        let w₁ = and_out (on_array && eqb x.step 0 && eqb x.p 0) _ (fit_declaration f x _ _ _ (record { arrays_are = refl; bodies_are = refl; size_is = refl }) h k ∙ fits) in
        let w₂ = and_out (on_array && eqb x.step 0) _ w₁.0 in
        (and_out (ltb x.side 2) _ (and_out on_array _ w₂.0).0).1

-- what fits a file fits another of the same arrays
module _ (f g : List ℕ) (same : layout_of g ≡ layout_of f) where
  counted : array_count g ≡ array_count f
  counted = sym (arrays_counted g) ∙ ap (λ (l : Layout). length l.lengths) same ∙ arrays_counted f

  measured : (a : ℕ) → a < array_count f → length_at g a ≡ length_at f a
  measured a h = sym (array_length g a (rw counted h)) ∙ ap (λ (l : Layout). (span_of l a).length) same ∙ array_length f a h

  fits_too : (x : Action) → fits_in f x ≡ true → fits_in g x ≡ true
  unfolding fields_fit
  fits_too x e = go x.verb e
    where
      ranged : (ltb (side_number x.side) 2 && ltb x.name (array_count f) && ltb x.p x.q && leb x.q (length_at f x.name)) ≡ true →
          (ltb (side_number x.side) 2 && ltb x.name (array_count g) && ltb x.p x.q && leb x.q (length_at g x.name)) ≡ true
      ranged u =
          let on_array = ltb (side_number x.side) 2 && ltb x.name (array_count f) in
          let w₁ = and_out (on_array && ltb x.p x.q) _ u in
          let w₂ = and_out (ltb (side_number x.side) 2) _ (and_out on_array _ w₁.0).0 in
          rw (counted, measured x.name (ltb-true _ _ w₂.1)) u

      unused : (ltb (side_number x.side) 2 && ltb x.name (array_count f) && eqb x.step 0 && eqb x.p 0 && eqb x.q 0) ≡ true →
          (ltb (side_number x.side) 2 && ltb x.name (array_count g) && eqb x.step 0 && eqb x.p 0 && eqb x.q 0) ≡ true
      unused u = rw counted u

      go : (v : Verb) → fits_in f (as_verb v x) ≡ true → fits_in g (as_verb v x) ≡ true
      go read u = ranged u
      go write u = ranged u
      go copy u = ranged u
      go need u = unused u
      go mark u = unused u

-- the blocks made of the records of body b of a declared plan, from record `low` on, record by record; `most` levels are allowed in all
module _ (f : List ℕ) (declared : is_declared f ≡ true) (b low most : ℕ) (enough : 8 ≤ most) (block : ℕ → ℕ → Block Action) where
  record Parted : Type 0 where
    none : (r end : ℕ) → end ≤ r → block r end ≡ Block.done
    branch : (depth around r end : ℕ) → r < end → Good f b depth around r end → (fields_at f r).kind ≡ 6
        → (n : ℕ) × (block r end ≡ Block.branch n (block (r + 1) (second f r)) (block (second f r) (next f r)) (block (next f r) end))
    loop : (depth around r end : ℕ) → r < end → Good f b depth around r end → (fields_at f r).kind ≡ 7
        → (n : ℕ) × (block r end ≡ Block.loop n (block (r + 1) (second f r)) (block (next f r) end))
    fixed : (depth around r end : ℕ) → r < end → Good f b depth around r end → (fields_at f r).kind ≡ 9
        → (n : ℕ) × (q : ℕ) × (block r end ≡ Block.fixed n q (block (r + 1) (second f r)) (block (next f r) end))
    other : (levels depth around r end : ℕ) → depth + levels ≡ most → depth ≤ 8 → low ≤ r → r < end → Good f b depth around r end → nests (fields_at f r) ≡ false
        → nested_within (fits_in f) levels (block (next f r) end) ≡ true → nested_within (fits_in f) levels (block r end) ≡ true

  -- "in a body of a declared plan inside at most 7"
  shallow : (depth around r end : ℕ) → Tests f b depth around r end → nests (fields_at f r) ≡ true → depth < 8
  unfolding deepest
  shallow depth around r end t k = let l : depth ≤ 7 = ltb-false 7 depth (rw (k, not_plain f declared) at t.shallow) in omega arith

  module _ (parted : Parted) where
    parts_fit : (fuel levels depth around r end : ℕ) → end ≤ r + fuel → depth + levels ≡ most → depth ≤ 8 → low ≤ r → Good f b depth around r end → nested_within (fits_in f) levels (block r end) ≡ true
    parts_fit zero levels depth around r end n d e l g = rw (parted.none r end (omega arith))
    parts_fit (suc fuel) levels depth around r end n d e l g = elim (dec_lt r end) [
      | no m ↦ rw (parted.none r end (omega arith))
      | yes m ↦
          let p = good_parts f b depth around r end m g in
          let i = p.tests.inside in
          let within = around * turns_of (fields_at f r) in
          let rest = parts_fit fuel levels depth around (next f r) end (omega arith) d e (omega arith) p.rest in
          elim (shape (fields_at f r)) [
            | is_branch k ↦
                let s = shallow depth around r end p.tests (rw k) in
                branch_fits (fits_in f) most depth (omega arith) (parted.branch depth around r end m g k).1 levels d
                (λ q u. parts_fit fuel q (depth + 1) within (r + 1) (second f r) (omega arith) u (omega arith) (omega arith) p.one)
                (λ q u. parts_fit fuel q (depth + 1) within (second f r) (next f r) (omega arith) u (omega arith) (omega arith) p.two) rest
            | is_loop k ↦
                let s = shallow depth around r end p.tests (rw k) in
                loop_fits (fits_in f) most depth (omega arith) (parted.loop depth around r end m g k).1 levels d
                (λ q u. parts_fit fuel q (depth + 1) within (r + 1) (second f r) (omega arith) u (omega arith) (omega arith) p.one) rest
            | is_fixed k ↦
                let s = shallow depth around r end p.tests (rw k) in
                fixed_fits (fits_in f) most depth (omega arith) (parted.fixed depth around r end m g k).2 levels d
                (λ q u. parts_fit fuel q (depth + 1) within (r + 1) (second f r) (omega arith) u (omega arith) (omega arith) p.one) rest
            | is_leaf k ↦ parted.other levels depth around r end d e l m g k rest
          ]
    ]

    -- the records of a good block that stands inside no other
    body_fits : (r end : ℕ) → low ≤ r → Good f b 0 1 r end → nested_within (fits_in f) most (block r end) ≡ true
    body_fits r end l g = parts_fit end most 0 1 r end (omega arith) (omega arith) (omega arith) l g

-- a file that opens as a declared plan
module _ (f : List ℕ) (w : Facts f) (declared : is_declared f ≡ true) where
  arrays_within : arrays_fit (layout_of f) ≡ true
  unfolding lengths_of
  arrays_within =
      let few = w.bounds.header.arrays in
      let lengths = all_table (between 1 4096) (length_at f) (array_count f) (λ a h. let n = w.bounds.lengths a h in in_range 1 4096 _ n.0 n.1) in
      and_in (between 1 32 (length (table (length_at f) (array_count f)))) _ (rw (length_table (length_at f) (array_count f)) (in_range 1 32 _ few.0 few.1))
      (and_in _ _ lengths (and_in _ _ (le-leb _ _ w.bounds.cells_below) (eq-eqb _ _ (scratch_counted f ∙ sym (arrays_counted f)))))

  -- a pass whose declarations are of the plan's arrays and whose other records fit 8 levels
  abbrev called_fits : Pass → Bool
  called_fits p = all_pass (λ (d : Declaration). ltb d.array (array_count f)) p.declarations && nested_within (fits_in f) 8 p.body

  module _ (b : ℕ) (p : 1 ≤ b) (l : b < body_count f) where
    abbrev until : ℕ
    until = first_record f b + declarations_in f b

    pass_parted : Parted f declared b until 8 (omega arith) (block_between f)
    pass_parted = record {
      none = block_none f;
      branch = λ depth around r end m g k. (r, block_branch f r end m (walk_of g) (fields_at f r) refl k);
      loop = λ depth around r end m g k. (r, block_loop f r end m (walk_of g) (fields_at f r) refl k);
      fixed = λ depth around r end m g k. (r, (fields_at f r).q - 1, block_fixed f r end m (walk_of g) (fields_at f r) refl k);
      other = λ levels depth around r end d e h m g k rest.
          let t = (good_parts f b depth around r end m g).tests in
          let kinds = acts (fields_at f r) (pass_kind f w declared b p l r h t.allows) k in
          rw (block_act f r end m (walk_of g) (fields_at f r) refl k) (and_in _ _ (action_fit f (fields_at f r) t.fits kinds.0 kinds.1) rest);
    }

    declarations_fit : all_pass (λ (d : Declaration). ltb d.array (array_count f)) (pass_at f b).declarations ≡ true
    unfolding pass_at
    declarations_fit = all_table _ _ (declarations_in f b) λ i h.
        let g = pass_good f w declared b p l i (omega arith) in
        let d = pass_declaration f w declared b p l i h in
        declaration_fit f (fields_at f (first_record f b + i)) (good_parts f b 0 1 _ _ (omega (arith, w.bounds.declared b l, next_record f b l)) g).tests.fits d.0 d.1

    others_fit : nested_within (fits_in f) 8 (pass_at f b).body ≡ true
    others_fit = rw (pass_body f w declared b p l) (body_fits f declared b until 8 (omega arith) (block_between f) pass_parted until _ (omega arith) (rw (next_record f b l) at (pass_good f w declared b p l (declarations_in f b) (omega arith))))

    pass_fits : called_fits (pass_at f b) ≡ true
    pass_fits = and_in _ _ declarations_fit others_fit

  abbrev passes : List Pass
  passes = (declared_plan_of f).passes

  passes_fit : all_pass called_fits passes ≡ true
  unfolding declared_plan_of
  passes_fit = all_table called_fits (λ b. pass_at f (suc b)) (body_count f - 1) (λ b h. pass_fits (suc b) (omega arith) (omega arith))

  -- body 0, each call with what stands for it
  body0_parted : Parted f declared 0 0 16 (omega arith) (λ r end. expand passes (body0_between f r end))
  body0_parted = record {
    none = λ r end h. ap (expand passes) (body0_none f r end h);
    branch = λ depth around r end m g k. (r, ap (expand passes) (body0_branch f r end m (walk_of g) (fields_at f r) refl k));
    loop = λ depth around r end m g k. (r, ap (expand passes) (body0_loop f r end m (walk_of g) (fields_at f r) refl k));
    fixed = λ depth around r end m g k. (r, (fields_at f r).q - 1, ap (expand passes) (body0_fixed f r end m (walk_of g) (fields_at f r) refl k));
    other = λ levels depth around r end d e h m g k rest.
        let called = pass_of passes (fields_at f r).p in
        let fit = and_out (all_pass (λ (c : Declaration). ltb c.array (array_count f)) called.declarations) (nested_within (fits_in f) 8 called.body) (all_called called_fits refl passes ((fields_at f r).p - 1) passes_fit) in
        rw (ap (expand passes) (body0_call f r end m (walk_of g) (fields_at f r) refl k))
        (declared_fits (fits_in f) (array_count f) (whole_fits f) called.declarations _ levels fit.0 (then_fits (fits_in f) called.body _ levels (more_levels (fits_in f) called.body 8 levels (omega arith) fit.1) rest));
  }

  block_within : nested_within (fits_in f) 16 (expansion_of f).body ≡ true
  block_within =
      numbered_fits (fits_in f) 0 (expand passes (declared_plan_of f).body0) 16
      ∙ rw (body0_body f w) (body_fits f declared 0 0 16 (omega arith) (λ r end. expand passes (body0_between f r end)) body0_parted 0 (records_in f 0) (omega arith) (body0_good f w))

-- the expansion's file opens, and is the expansion, numbered as the file numbers it
pub expansion_read : (f : List ℕ) → opening f ≡ Accepted → is_declared f ≡ true → size (expansion_of f).body ≤ 1024 → largest (expansion_of f).body ≤ 4096
    → (opening (expansion_file f) ≡ Accepted) × (plan_of (expansion_file f) ≡ numbered_plan (expansion_of f))
unfolding declared_plan_of
expansion_read f e declared few low =
    let w = opened_facts f (sym e) in
    let arrays-in = arrays_within f w declared in
    plain_opens (expansion_of f) arrays-in (fits_in f) (fits_too f (expansion_file f) (plain_layout (expansion_of f) arrays-in)) (block_within f w declared) low few

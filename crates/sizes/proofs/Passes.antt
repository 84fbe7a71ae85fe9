-- What stands for a call of a pass: what its declarations give, and its other records.
use mathlib.Core.Path.{◌≡◌, refl, ap, ◌∙◌}
use mathlib.Core.Bool.{true}
use mathlib.Core.List.{List, ◌++◌, append_assoc}
use Prim.Native.Nat.{ℕ, suc, ◌+◌, ◌-◌, ◌≤◌, ◌<◌}
use native.Mathlib.Numerals.{add-one}
use native.Mathlib.Omega.{arith}
use lib.ListN.{length, length-append}
use Rattle.model.specs.Blocks.{size}
use Rattle.model.specs.Judging.{pass_of}
use Rattle.model.specs.Inner.Declared.{no_pass}
use Rattle.reading.specs.Bytes.{is_declared, body_count, table, records_in, declarations_in, sizes_of, first_record, fields_at, first_arm, second_arm}
use Rattle.contents.specs.declared.Opened.{Opened}
use Rattle.contents.specs.Found.{found}
use Rattle.passes.specs.declared.Extent.{Extent}
use Rattle.passes.specs.Inner.Passes.{extent_of, PassAt}
use Rattle.passes.proofs.Records.{stands}
use Rattle.format.specs.Plans.{pass_at, declared_plan_of}
use Rattle.files.specs.Inner.Short.{block_fields}
use Rattle.format.specs.Inner.Walks.{block_between}
use Rattle.reading.proofs.Tables.{getD_table, length_table, next_record, first_rises}
use Rattle.format.proofs.Walking.{Facts, opened_facts, good_parts}
use Rattle.format.proofs.Trees.{acts, block_none, block_branch, block_loop, block_fixed, block_act, walk_of, no_arms, pass_kind, pass_good, pass_body}
use Rattle.files.proofs.Files.Records.{fields_count}
use Rattle.files.specs.Inner.Given.{declared_from}
use Rattle.files.proofs.Blocks.{same_size, declared_fields}
use Rattle.files.proofs.Given.{declared_low}
use Rattle.sizes.specs.Inner.Sizes.{DeclaredFile, called}
use Rattle.sizes.proofs.Fields.{action_again, nested_again}
use Rattle.sizes.proofs.Walks.{second, next, Made, made_between}

-- the pass that a call of body b calls
pub call_pass : (f : List ℕ) (b : ℕ) → 1 ≤ b → b < body_count f → pass_of (declared_plan_of f).passes b ≡ pass_at f b
unfolding declared_plan_of
call_pass f b h l =
    let n : suc (b - 1) ≡ b = omega arith in
    getD_table (λ c. pass_at f (suc c)) (body_count f - 1) (b - 1) no_pass (omega arith) ∙ ap (pass_at f) n

-- a pass of a file that opens
module _ (f : List ℕ) (file : DeclaredFile f) (b : ℕ) (p : 1 ≤ b) (l : b < body_count f) where
  abbrev w : Facts f
  w = opened_facts f file.opened

  abbrev k : is_declared f ≡ true
  k = file.declared

  abbrev until : ℕ
  until = first_record f b + declarations_in f b

  abbrev end : ℕ
  end = first_record f b + records_in f b

  pass_made : Made f b until (table (fields_at f)) (block_between f)
  unfolding table
  pass_made = record {
    none = block_none f;
    branches = λ r end m g. block_branch f r end m g (fields_at f r) refl;
    loops = λ r end m g. block_loop f r end m g (fields_at f r) refl;
    fixed_loops = λ r end m g. block_fixed f r end m g (fields_at f r) refl;
    grows = λ r h t n.
        let x = fields_at f r in
        let one : length (table (fields_at f) (second f r)) - length (table (fields_at f) (r + 1)) ≡ first_arm x = simp length_table (omega arith) in
        let two : length (table (fields_at f) (next f r)) - length (table (fields_at f) (second f r)) ≡ second_arm x = simp length_table (omega arith) in
        rw (one, two, ← nested_again f x t.fits n, add-one);
    other = λ depth around r end h m g n.
        let x = fields_at f r in
        let q = good_parts f b depth around r end m g in
        let kind = acts x (pass_kind f w k b p l r h q.tests.allows) n in
        let a = no_arms x n in
        let e : next f r ≡ r + 1 = omega (arith, a) in
        rw (block_act f r end m (walk_of g) x refl n, e, action_again f x q.tests.fits kind.0 kind.1, add-one, append_assoc);
  }

  -- the records of a call
  pub called_fields : block_fields (called f b) ≡ block_fields (declared_from f (first_record f b) (declarations_in f b)) ++ block_fields (block_between f until end)
  unfolding called declared_from pass_at
  called_fields = declared_fields (pass_at f b).declarations (pass_at f b).body ∙ rw (pass_body f w k b p l)

  pub others : table (fields_at f) until ++ block_fields (block_between f until end) ≡ table (fields_at f) end
  others = made_between f b until (table (fields_at f)) (block_between f) pass_made 0 1 until end (omega arith) (omega (arith, w.bounds.declared b l)) (rw (next_record f b l) at (pass_good f w k b p l (declarations_in f b) (omega arith)))

  pub called_size : size (called f b) ≡ size (declared_from f (first_record f b) (declarations_in f b)) + (end - until)
  called_size =
      let d = declared_from f (first_record f b) (declarations_in f b) in
      let x = block_between f until end in
      same_size (called f b) _ called_fields
      ∙ omega (
        arith,
        length-append (block_fields d) (block_fields x),
        fields_count d,
        simp (length-append, length_table) at (ap length others),
      )

  pub called_low : size (called f b) ≤ 2048
  called_low =
      omega (arith, called_size, declared_low f (first_record f b) (declarations_in f b), w.bounds.declared b l, w.bounds.records, next_record f b l, first_rises (sizes_of f) (suc b) (body_count f) l)

-- a pass where it stands, by what opening found
module _ (f : List ℕ) (e : Extent) (p : PassAt f e) where
  pub called_at : size (called f e.body) ≡ size (declared_from f e.from e.declarations) + (e.records - e.declarations)
  called_at = rw (p.from_is, p.declarations_are, p.records_are) (called_size f (record { opened = p.opens; declared = p.declared }) e.body p.low p.high ∙ omega arith)

pub pass_stands : (f : List ℕ) → DeclaredFile f → (o : Opened) → o ≡ found f → (b : ℕ) → 1 ≤ b → b < body_count f → (e : Extent) → e ≡ extent_of o b → PassAt f e
pass_stands f file o w b l h e is = stands f file.opened o w b h file.declared l e is

-- The file of a plan within the bounds opens, and as that plan: `plain_round_trip`, `declared_round_trip`.
use mathlib.Core.Path.{◌≡◌, refl, ◌∙◌}
use mathlib.Core.Bool.{Bool, true}
use mathlib.Core.List.{List, [], ◌∷◌, map}
use Prim.Native.Nat.{ℕ, suc, ◌+◌, ◌*◌, ◌-◌, ◌≤◌}
use native.Mathlib.Omega.{arith}
use native.Mathlib.Nat.{zero-add, one-mul}
use lib.ListN.{length, length-map}
use lib.Dec.{leb}
use borrow.Author.Tests.{eq-eqb, leb-true, le-leb}
use Rattle.model.specs.Verdicts.{Accepted}
use Rattle.model.specs.Records.{Action}
use Rattle.model.specs.Blocks.{size, largest, Plan}
use Rattle.model.specs.Judging.{DeclaredPlan}
use Rattle.model.proofs.Booleans.{and_out, and_in}
use Rattle.reading.specs.Bytes.{is_declared, is_plain, body_count, table, layout_of, records_in, first_record, record_count, fields_at, between}
use Rattle.rules.specs.Rules.{fields_fit, allowed, deepest}
use Rattle.records.specs.Records.{body_rows}
use Rattle.format.specs.Opening.{opening}
use Rattle.format.specs.Plans.{pass_at, plan_of, declared_plan_of}
use Rattle.files.specs.Files.{action_fields, fields_of, Body, plain_file}
use Rattle.files.specs.Inner.Short.{block_fields, block_fits, passes_size}
use Rattle.files.specs.Bounds.{all_pass, arrays_fit, action_fits, nested_within, products_fit, plain_fits, pass_fits, declared_fits, numbered_passes, numbered_plan, numbered_declared, call_fields, pass_body, declared_file}
use Rattle.files.proofs.Files.Holding.{Along, none, more, Holds, head_of, tail_of, down, table_is}
use Rattle.files.proofs.Files.Places.{Placed, Laid, file_kind, whole_length, laid}
use Rattle.files.proofs.Files.Accepting.{arrays_told, Passes, opens}
use Rattle.files.proofs.Files.Records.{count_of, fields_count, action_fit, block_walks}
use Rattle.files.proofs.Files.Reading.{block_reads, body0_reads}
use Rattle.files.proofs.Files.Calling.{body0_walks}
use Rattle.files.proofs.Files.Declaring.{passes_count, passes_entries, passes_walk, passes_read, numbered_count}

-- a plain plan
module _ (plan : Plan) where
  abbrev plain_body : Body
  plain_body = record { declarations = 0; records = block_fields plan.body }

  abbrev plain : List ℕ
  plain = plain_file plan

  pub plain_is_plain : is_plain (plain_file plan) ≡ true
  plain_is_plain = eq-eqb _ 2 (file_kind 2 plan.layout (plain_body ∷ []))

  pub plain_length : length (plain_file plan) ≡ 4 + 2 * length plan.layout.lengths + 4 + 8 * size plan.body + 2
  plain_length = omega (arith, whole_length 2 plan.layout (plain_body ∷ []), fields_count plan.body)

-- with arrays within the bounds
module _ (plan : Plan) (arrays-in : arrays_fit plan.layout ≡ true) where
  abbrev only_body : Body
  only_body = plain_body plan

  plain_laid : Laid (plain plan) 2 plan.layout (only_body ∷ [])
  plain_laid = laid 2 plan.layout (only_body ∷ []) (arrays_told plan.layout arrays-in)

  pub plain_layout : layout_of (plain_file plan) ≡ plan.layout
  plain_layout = plain_laid.arrays_are

  -- all records are those of the one body
  plain_count : record_count (plain plan) ≡ size plan.body
  plain_count = plain_laid.count_is ∙ omega (arith, fields_count plan.body)

  plain_placed : Placed (plain plan) 0 only_body
  plain_placed = head_of plain_laid.placed

  plain_held : Holds (fields_at (plain plan)) 0 (block_fields plan.body)
  plain_held = rw plain_laid.start_is at plain_placed.held

  -- a test of actions that lets through only those whose fields fit this file
  module _ (fits : Action → Bool) (fit : (x : Action) → fits x ≡ true → fields_fit (plain_file plan) (action_fields x) ≡ true) where
    plain_records : nested_within fits 16 plan.body ≡ true → largest plan.body ≤ 4096 → Passes (body_rows (plain plan) 0)
    unfolding body_rows deepest allowed
    plain_records block_in product =
        let end : first_record (plain plan) 1 ≡ 0 + size plan.body = rw (plain_laid.start_is, fields_count plan.body) at plain_placed.next in
        let deep : deepest (plain plan) ≡ 15 = rw plain_laid.kind_is in
        rw (end, plain_laid.start_is)
        (block_walks (plain plan) 0 0 (λ r x k e. rw (plain_laid.kind_is, e)) fits fit plan.body 16 0 1 0 block_in (omega arith) (omega arith) (rw one-mul product) (omega arith) plain_held (records_in (plain plan) 0))

    pub plain_opens : nested_within fits 16 plan.body ≡ true → largest plan.body ≤ 4096 → size plan.body ≤ 1024 →
        (opening (plain_file plan) ≡ Accepted) × (plan_of (plain_file plan) ≡ numbered_plan plan)
    unfolding plan_of
    plain_opens block_in product few =
        let read_back = rw zero-add at (block_reads (fields_at (plain plan)) plan.body (size plan.body) 0 (omega arith) plain_held) in (
          opens (plain plan) 2 plan.layout (only_body ∷ []) plain_laid refl arrays-in refl refl (omega (arith, fields_count plan.body))
              (more (record { declared = omega arith; none_first = refl }) none) (more (plain_records block_in product) none),
          rw (plain_count, plain_laid.arrays_are, read_back),
        )

pub plain_round_trip : (plan : Plan) → plain_fits plan ≡ true → (opening (plain_file plan) ≡ Accepted) × (plan_of (plain_file plan) ≡ numbered_plan plan)
plain_round_trip plan fits =
    let (arrays-in, h) = and_out (arrays_fit plan.layout) _ fits in
    let (block_in, h') = and_out (block_fits plan.layout 16 plan.body) _ h in
    let (products-in, few_records) = and_out (products_fit plan.body) _ h' in
    plain_opens plan arrays-in (action_fits plan.layout) (action_fit (plain plan) plan.layout (plain_laid plan arrays-in).arrayed) block_in (leb-true _ _ products-in) (leb-true _ _ few_records)

pub declared_is_declared : (plan : DeclaredPlan) → is_declared (declared_file plan) ≡ true
declared_is_declared plan = eq-eqb _ 1 (file_kind 1 plan.layout (record { declarations = 0; records = fields_of call_fields plan.body0 } ∷ map pass_body plan.passes))

-- a declared plan, its arrays within the bounds
module _ (plan : DeclaredPlan) (arrays-in : arrays_fit plan.layout ≡ true) where
  abbrev first_body : Body
  first_body = record { declarations = 0; records = fields_of call_fields plan.body0 }

  abbrev bodies : List Body
  bodies = first_body ∷ map pass_body plan.passes

  abbrev declared : List ℕ
  declared = declared_file plan

  declared_laid : Laid declared 1 plan.layout bodies
  declared_laid = laid 1 plan.layout bodies (arrays_told plan.layout arrays-in)

  placed0 : Placed declared 0 first_body
  placed0 = head_of declared_laid.placed

  placed_passes : Along (Placed declared) 1 (map pass_body plan.passes)
  placed_passes = tail_of declared_laid.placed

  held0 : Holds (fields_at declared) 0 (fields_of call_fields plan.body0)
  held0 = rw declared_laid.start_is at placed0.held

  -- the passes begin after body 0
  passes_start : first_record declared 1 ≡ 0 + size plan.body0
  passes_start = rw (declared_laid.start_is, count_of call_fields plan.body0) at placed0.next

  counted_bodies : body_count declared ≡ suc (length plan.passes)
  counted_bodies = rw (length-map plan.passes pass_body) at declared_laid.body_count_is

  body0_records : nested_within (between 1 (length plan.passes)) 8 plan.body0 ≡ true → largest plan.body0 ≤ 4096 → Passes (body_rows declared 0)
  unfolding body_rows deepest allowed
  body0_records fits product =
      let deep : deepest declared ≡ 7 = rw declared_laid.kind_is in
      rw (passes_start, declared_laid.start_is)
      (body0_walks declared (length plan.passes) counted_bodies (λ r x e. rw (declared_laid.kind_is, e)) plan.body0 8 0 1 0 fits (omega arith) (omega arith) (rw one-mul product) (omega arith) held0 (records_in declared 0))

  passes_back : table (λ b. pass_at declared (suc b)) (body_count declared - 1) ≡ numbered_passes (size plan.body0) plan.passes
  passes_back =
      let r = size plan.body0 in
      let count : body_count declared - 1 ≡ length (numbered_passes r plan.passes) = omega (arith, counted_bodies, numbered_count plan.passes r) in
      let start : first_record declared 1 ≡ r = rw zero-add at passes_start in
      rw count (table_is (λ b. pass_at declared (suc b)) (numbered_passes r plan.passes) (down (passes_read declared plan.passes 1 r start placed_passes)))

  round_trip : declared_fits plan ≡ true → (opening (declared_file plan) ≡ Accepted) × (declared_plan_of (declared_file plan) ≡ numbered_declared plan)
  unfolding declared_plan_of
  round_trip fits =
      let (_, h) = and_out (arrays_fit plan.layout) _ fits in
      let (few-passes, h') = and_out (leb (length plan.passes) 31) _ h in
      let (body0-in, h'') = and_out (nested_within (between 1 (length plan.passes)) 8 plan.body0) _ h' in
      let (products-in, h''') = and_out (products_fit plan.body0) _ h'' in
      let (passes-in, few_records) = and_out (all_pass (pass_fits plan.layout) plan.passes) _ h''' in
      let few_bodies : length bodies ≤ 32 = omega (arith, leb-true (length plan.passes) 31 few-passes, length-map plan.passes pass_body) in
      let few : size plan.body0 + passes_size plan.passes ≤ 1024 = leb-true _ _ few_records in
      let records_are : records_in declared 0 ≡ size plan.body0 = placed0.entry.records_are ∙ count_of call_fields plan.body0 in
      let read_back = rw zero-add at (body0_reads (fields_at declared) plan.body0 (size plan.body0) 0 (omega arith) held0) in (
        opens declared 1 plan.layout bodies declared_laid refl arrays-in (and_in _ _ (le-leb 1 (length bodies) (omega arith)) (le-leb (length bodies) 32 few_bodies)) refl
            (omega (arith, count_of call_fields plan.body0, passes_count plan.passes))
            (more (record { declared = omega arith; none_first = refl }) (passes_entries plan.passes 1 refl))
            (more (body0_records body0-in (leb-true _ _ products-in))
            (passes_walk declared plan.layout declared_laid.kind_is declared_laid.arrayed plan.passes 1 refl passes-in placed_passes)),
        rw (records_are, declared_laid.arrays_are, read_back, passes_back),
      )

pub declared_round_trip : (plan : DeclaredPlan) → declared_fits plan ≡ true → (opening (declared_file plan) ≡ Accepted) × (declared_plan_of (declared_file plan) ≡ numbered_declared plan)
declared_round_trip plan fits = round_trip plan (and_out (arrays_fit plan.layout) _ fits).0 fits

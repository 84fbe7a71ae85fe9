-- The expansion is what stands for the records of body 0, one after the other.
use mathlib.Core.Path.{◌≡◌, refl, sym, ap, ◌∙◌}
use mathlib.Core.Bool.{true, true≢false}
use mathlib.Core.List.{List, ◌++◌, append_assoc}
use Prim.Native.Nat.{ℕ, ◌+◌, ◌≤◌, ◌<◌}
use native.Mathlib.Omega.{arith}
use lib.ListN.{get_or}
use Rattle.model.specs.Records.{Action}
use Rattle.model.specs.Blocks.{Block, size, ◌then◌, numbered}
use Rattle.model.specs.Judging.{Pass, pass_of}
use Rattle.model.specs.Expanding.{expand}
use Rattle.model.specs.Inner.Declared.{declared}
use Rattle.reading.specs.declared.Fields.{Fields}
use Rattle.reading.specs.Bytes.{is_declared, body_count, records_in, fields_at, nests}
use Rattle.format.specs.Plans.{pass_at, declared_plan_of}
use Rattle.files.specs.Inner.Short.{block_fields}
use Rattle.format.specs.Inner.Walks.{body0_between}
use Rattle.format.proofs.Walking.{Facts, opened_facts, good_parts}
use Rattle.format.proofs.Trees.{no_nesting, not_nesting, no_arms, body0_none, body0_branch, body0_loop, body0_fixed, body0_call, walk_of, body0_good, body0_body}
use Rattle.files.specs.Expansions.{expansion_of}
use Rattle.sizes.specs.Inner.Sizes.{DeclaredFile, called, place, Places}
use Rattle.writer.specs.Inner.Pieces.{pieces}
use Rattle.files.proofs.Blocks.{same_size, then_fields, declared_fields, numbered_fields}
use Rattle.sizes.proofs.Fields.{call_body}
use Rattle.sizes.proofs.Passes.{call_pass}
use Rattle.sizes.proofs.Walks.{next, Made, made_between}
use Rattle.sizes.proofs.Body0.{body0_kind}
use Rattle.writer.proofs.Pieces.{piece_call, piece_nested, pieces_none, pieces_more, pieces_length}

-- a branch or a loop is no call
no_call : (x : Fields) → nests x ≡ true → x.kind ≡ 8 → ⊥
no_call x n e = true≢false (sym n ∙ no_nesting x (λ z. omega arith) (λ z. omega arith) (λ z. omega arith))

module _ (f : List ℕ) (file : DeclaredFile f) where
  abbrev w : Facts f
  w = opened_facts f file.opened

  abbrev k : is_declared f ≡ true
  k = file.declared

  abbrev passes : List Pass
  passes = (declared_plan_of f).passes

  abbrev end : ℕ
  end = records_in f 0

  called_then : (b : ℕ) → 1 ≤ b → b < body_count f → (rest : Block Action) → block_fields (declared (pass_of passes b).declarations ((pass_of passes b).body then rest)) ≡ block_fields (called f b) ++ block_fields rest
  unfolding called
  called_then b h l rest =
      let d = pass_at f b in
      rw (call_pass f b h l) (declared_fields d.declarations (d.body then rest) ∙ rw (then_fields d.body rest, declared_fields d.declarations d.body, append_assoc))

  -- the expansion of a part of body 0
  part : ℕ → ℕ → Block Action
  part r end = expand passes (body0_between f r end)

  pieces_made : Made f 0 0 (pieces f) part
  unfolding part
  pieces_made = record {
    none = λ r end h. ap (expand passes) (body0_none f r end h);
    branches = λ r end m g e. ap (expand passes) (body0_branch f r end m g (fields_at f r) refl e);
    loops = λ r end m g e. ap (expand passes) (body0_loop f r end m g (fields_at f r) refl e);
    fixed_loops = λ r end m g e. ap (expand passes) (body0_fixed f r end m g (fields_at f r) refl e);
    grows = λ r h t n. simp pieces_length (pieces_more f r ∙ rw (piece_nested f r (no_call (fields_at f r) n)));
    other = λ depth around r end h m g z.
        let x = fields_at f r in
        let q = good_parts f 0 depth around r end m g in
        let n = body0_kind f file r q.tests.allows in
        let i = not_nesting x z in
        let e : x.kind ≡ 8 = omega (arith, i) in
        let a = no_arms x z in
        let step : next f r ≡ r + 1 = omega (arith, a) in
        let c = call_body f x q.tests.fits e in
        ap (λ (b : Block ℕ). pieces f r ++ block_fields (expand passes b)) (body0_call f r end m (walk_of g) x refl z)
        ∙ rw (pieces_more f r, piece_call f r e, append_assoc, step, called_then x.p c.0 c.1 (expand passes (body0_between f (r + 1) end)));
  }

  body0_pieces : block_fields (part 0 end) ≡ pieces f end
  body0_pieces = rw (pieces_none f) at (made_between f 0 0 (pieces f) part pieces_made 0 1 0 end (omega arith) (omega arith) (body0_good f w))

  expanded_body : (expansion_of f).body ≡ numbered 0 (part 0 end)
  unfolding part
  expanded_body = rw (body0_body f w)

  pub expansion_fields : block_fields (expansion_of f).body ≡ pieces f end
  expansion_fields = rw (expanded_body, numbered_fields 0 (part 0 end)) body0_pieces

  pub expansion_size : size (expansion_of f).body ≡ place f end
  expansion_size = same_size (expansion_of f).body _ expansion_fields ∙ pieces_length f end

  pub size_read_off : (last : ℕ) (places : List ℕ) → last ≡ end → Places f places → get_or places last 0 ≡ size (expansion_of f).body
  size_read_off last places e t = t.each last (omega arith) ∙ ap (place f) e ∙ sym expansion_size

-- The judge accepts a file exactly if it opens as a declared plan that keeps the model's rules.
use mathlib.Core.Path.{◌≡◌, refl, sym, ◌∙◌}
use mathlib.Core.Logic.{◌↔◌}
use mathlib.Core.Bool.{Bool, true, false, cond, not, ◌&&◌, true≢false, and-false}
use mathlib.Core.List.{List, [], ◌∷◌}
use Prim.Native.Nat.{ℕ, suc, ◌+◌, ◌-◌, ◌≤◌, ◌<◌}
use native.Nat.{ℕᴺ_discrete}
use native.Mathlib.Decide.{dec_lt}
use native.Mathlib.Omega.{arith}
use lib.Dec.{eqb}
use borrow.Author.Tests.{lt-ltb, le-ltb, eq-eqb, ne_eqb, eqb-true, not-false, not-true}
use Rattle.model.specs.Verdicts.{Accepted}
use Rattle.model.specs.Lists.{All}
use Rattle.model.specs.Sides.{span_of}
use Rattle.model.specs.Records.{copy, need, mark}
use Rattle.model.specs.Judging.{R, W, RW, Declaration, permits, every_record, declared_once, Written, Rules, all_written}
use Rattle.model.specs.Inner.Declared.{declares}
use Rattle.reading.specs.declared.Fields.{Fields}
use Rattle.model.specs.Rows.{row, answer_of, all_rows}
use Rattle.reading.specs.Bytes.{is_declared, body_count, layout_of, records_in, declarations_in, first_record, bodies_at, fields_at, between, nests}
use Rattle.format.specs.Opening.{open_rows, opening}
use Rattle.format.specs.Plans.{side_of, action_of, declaration_of, pass_at, declared_plan_of}
use Rattle.format.proofs.Acts.{acting}
use Rattle.format.proofs.Trees.{ActsOrNests, acts, low_leaf}
use Rattle.reading.proofs.Ranges.{in_range, out_of_range}
use Rattle.model.proofs.Booleans.{and_out}
use Rattle.model.proofs.Demand.Declarations.{barred}
use Rattle.model.proofs.Rows.{holds, held, skips, skipped, empty, pass, passed}
use Rattle.passes.specs.declared.Extent.{Extent}
use Rattle.permits.specs.Permits.{declared_before, permit_rows}
use Rattle.judge.specs.Judged.{w_rows, pass_rows, judge_rows, judged}
use Rattle.judge.specs.Claims.{ClaimAccepts, Claim15}
use Rattle.passes.specs.Inner.Passes.{PassAt}
use Rattle.passes.proofs.Records.{declared_low, other_kind, others_walk, others_block}
use Rattle.judge.proofs.Laws.Passes.{judged_passes}
use Rattle.judge.proofs.Rules.Tables.{each_accepts, all_table}
use Rattle.judge.proofs.Rules.Declarations.{once_table}
use Rattle.judge.proofs.Rules.Blocks.{Passes, every_each}
use Rattle.judge.proofs.Rules.Ways.{written_cells, left_cells}
pub mod Tables
pub mod Declarations
pub mod Blocks
pub mod Ways

-- "Kinds 3, 4, 5 are barred."
kind_barred : (ds : List Declaration) (x : Fields) → 3 ≤ x.kind → permits ds (action_of x) ≡ false
unfolding action_of
kind_barred ds x h = rw (ne_eqb x.kind 1 (λ z. omega arith), ne_eqb x.kind 2 (λ z. omega arith)) (go (eqb x.kind 3) (eqb x.kind 4))
  where
    none : declares (λ m. false) (side_of x.side) x.array ds ≡ false
    none = barred (side_of x.side) x.array ds

    go : (i j : Bool) → permits ds (acting (cond i copy (cond j need mark)) x) ≡ false
    go true j = none
    go false true = none
    go false false = none

w_kind : (k : ℕ) → (cond (eqb k 16) R (cond (eqb k 17) W RW) ≡ W) ↔ (k ≡ 17)
w_kind k = elim (ℕᴺ_discrete k 17) [
  | yes e ↦ (λ z. e, λ z. rw e)
  | no e ↦ (λ z. absurd (other (eqb k 16) (rw (ne_eqb k 17 e) at z)), λ z. absurd (e z))
]
  where
    other : (b : Bool) → cond b R RW ≡ W → ⊥
    other true z = let n : ◌≡◌ {A = ℕ} 0 1 = cc in omega arith
    other false z = let n : ◌≡◌ {A = ℕ} 0 1 = cc in omega arith

-- numbers 13 and 14 of a record with the fields x
use_kept : (ds : List Declaration) (x : Fields) (r : ℕ) → ActsOrNests x →
    (Accepted ≡ answer_of (row (between 1 2 x.kind && not (permits ds (action_of x))) 13 r ∷ row (between 3 5 x.kind) 14 r ∷ []))
    ↔ (nests x ≡ false → permits ds (action_of x) ≡ true)
use_kept ds x r kind = elim (dec_lt x.kind 3) [
  | yes h ↦ (
    λ e p. not-false _ (rw (in_range 1 2 x.kind kind.0 (omega arith)) at (skipped _ _ _ _ e).0),
    λ t. skips _ _ _ _ _ (rw (t (low_leaf x (omega arith))) (and-false (between 1 2 x.kind))) (skips _ _ _ _ _ (out_of_range 3 5 x.kind (λ u v. omega arith)) empty),
  )
  | no h ↦ (
    λ e p. absurd (true≢false (sym (in_range 3 5 x.kind (omega arith) (acts x kind p).1) ∙ (skipped _ _ _ _ (skipped _ _ _ _ e).1).0)),
    λ t. skips _ _ _ _ _ (rw (out_of_range 1 2 x.kind (λ u v. omega arith))) (skips _ _ _ _ _ (out_of_range 3 5 x.kind (λ u v. true≢false (sym (t (low_leaf x v)) ∙ kind_barred ds x u))) empty),
  )
]

-- pass b of a declared plan that opens, number by number
module _ (f : List ℕ) (a : Accepted ≡ opening f) (k : is_declared f ≡ true) (b : ℕ) (low : 1 ≤ b) (high : b < body_count f) where
  abbrev extent : Extent
  extent = record { bodies = bodies_at f; body = b; from = first_record f b; declarations = declarations_in f b; records = records_in f b }

  here : PassAt f extent
  here = record { opens = a; declared = k; place = refl; low = low; high = high; from_is = refl; declarations_are = refl; records_are = refl }

  -- 12
  once_kept : ((i : ℕ) → i < declarations_in f b → Accepted ≡ answer_of (permit_rows f b i)) ↔ (declared_once (pass_at f b).declarations ≡ true)
  unfolding pass_at permit_rows declared_before
  once_kept =
      let same = once_table (λ i. declaration_of (fields_at f (first_record f b + i))) (declarations_in f b) in
      (λ r. same.1 (λ i l. (skipped _ _ _ _ (rw (lt-ltb i (declarations_in f b) l) at (r i l))).0), λ o i l. rw (lt-ltb i (declarations_in f b) l) (skips _ _ _ _ _ (same.0 o i l) empty))

  -- 13 and 14
  record_kept : (i : ℕ) → declarations_in f b ≤ i → i < records_in f b → (Accepted ≡ answer_of (permit_rows f b i)) ↔ Passes (permits (pass_at f b).declarations) f (first_record f b + i)
  unfolding permit_rows
  record_kept i h l =
      let k = other_kind f extent here i h l in
      rw (le-ltb i (declarations_in f b) h) (use_kept (pass_at f b).declarations (fields_at f (first_record f b + i)) (first_record f b + i) k)

  uses_kept : ((i : ℕ) → declarations_in f b ≤ i → i < records_in f b → Accepted ≡ answer_of (permit_rows f b i)) ↔ (every_record (permits (pass_at f b).declarations) (pass_at f b).body ≡ true)
  uses_kept =
      let from = first_record f b in
      let same = every_each (permits (pass_at f b).declarations) f (from + declarations_in f b) (from + records_in f b) (others_walk f extent here) in
      rw (others_block f extent here) (
        λ r. same.1 (λ k h l.
            let z : from + (k - from) ≡ k = omega arith in
            rw z at ((record_kept (k - from) (omega arith) (omega arith)).0 (r (k - from) (omega arith) (omega arith)))),
        λ e i h l. (record_kept i h l).1 (same.0 e (from + i) (omega arith) (omega arith)),
      )

  -- 15
  w_kept : (i : ℕ) → (Accepted ≡ answer_of (w_rows f b i)) ↔ ((declaration_of (fields_at f (first_record f b + i))).mode ≡ W → Written (layout_of f) (pass_at f b).body (declaration_of (fields_at f (first_record f b + i))))
  unfolding w_rows declaration_of
  w_kept i =
      let x = fields_at f (first_record f b + i) in
      let cells = written_cells (layout_of f) (pass_at f b).body (declaration_of x) in (
        λ e w. cells.0 (not-false _ (rw (eq-eqb x.kind 17 ((w_kind x.kind).0 w)) at (skipped _ _ _ _ e).0)),
        λ h. skips _ _ _ _ _ (elim (ℕᴺ_discrete x.kind 17) [
          | yes k ↦ rw (cells.1 (h ((w_kind x.kind).1 k))) (and-false (eqb x.kind 17))
          | no k ↦ rw (ne_eqb x.kind 17 k)
        ]) empty,
      )

  ws_kept : ((i : ℕ) → i < declarations_in f b → Accepted ≡ answer_of (w_rows f b i)) ↔ All (λ (d : Declaration). d.mode ≡ W → Written (layout_of f) (pass_at f b).body d) (pass_at f b).declarations
  unfolding pass_at
  ws_kept =
      let same = all_table (λ (d : Declaration). d.mode ≡ W → Written (layout_of f) (pass_at f b).body d) (λ i. declaration_of (fields_at f (first_record f b + i))) (declarations_in f b) in
      (λ r. same.1 (λ i l. (w_kept i).0 (r i l)), λ w i l. (w_kept i).1 (same.0 w i l))

  pass_accepts : (Accepted ≡ answer_of (pass_rows f b)) ↔ Rules (layout_of f) (pass_at f b)
  unfolding pass_rows
  pass_accepts =
      let n = declarations_in f b in
      let m = records_in f b in
      let records = each_accepts (permit_rows f b) m in
      let declarations = each_accepts (w_rows f b) n in (
        λ e.
            let q = passed (all_rows m (permit_rows f b)) _ e in
            record {
              once = once_kept.0 (λ i l. records.0 q.0 i (omega (arith, declared_low f extent here)));
              permitted = uses_kept.0 (λ i h l. records.0 q.0 i l);
              written = ws_kept.0 (declarations.0 q.1);
            },
        λ r. pass (all_rows m (permit_rows f b)) _ Accepted
            (records.1 (λ i l. elim (dec_lt i n) [ yes h ↦ once_kept.1 r.once i h | no h ↦ uses_kept.1 r.permitted i (omega arith) l ]))
            (declarations.1 (ws_kept.1 r.written)),
      )

pub accepted_rules : ClaimAccepts
unfolding judged judge_rows opening declared_plan_of
accepted_rules f =
    let n = body_count f - 1 in
    let passes = each_accepts (λ b. pass_rows f (suc b)) n in
    let rules = all_table (Rules (layout_of f)) (λ b. pass_at f (suc b)) n in (
      λ e.
          let q = passed (open_rows f) _ (sym e) in
          let s = skipped _ _ _ _ q.1 in
          let d = not-false (is_declared f) s.0 in
          (sym q.0, d, rules.1 (λ b l. (pass_accepts f q.0 d (suc b) (omega arith) (omega arith)).0 (passes.0 s.1 b l))),
      λ w. sym (judged_passes f (sym w.0) w.1 Accepted (passes.1 (λ b l. (pass_accepts f (sym w.0) w.1 (suc b) (omega arith) (omega arith)).1 (rules.0 w.2 b l)))),
    )

-- the row of 15, whatever the file
pub fifteen : Claim15
unfolding w_rows declaration_of
fifteen f b i =
    let x = fields_at f (first_record f b + i) in
    let these = span_of (layout_of f) x.array in
    let left = left_cells (layout_of f) (pass_at f b).body (declaration_of x) in (
      λ e.
          let h = and_out (eqb x.kind 17) _ (held _ _ _ e) in
          let all = all_written (layout_of f) (declaration_of x).side (pass_at f b).body these.first these.length in
          let (c, inside, cs, ds, w, way, none) = left.0 (not-true all h.1) in
          ((w_kind x.kind).1 (eqb-true x.kind 17 h.0), c, inside, cs, ds, w, way, none),
      λ (k, c, inside, cs, ds, w, way, none). sym (holds _ _ _ _ (rw (eq-eqb x.kind 17 ((w_kind x.kind).0 k), left.1 (c, inside, cs, ds, w, way, none)))),
    )

use mathlib.Core.Path.{◌≡◌, refl, sym, ap, ◌∙◌}
use Prim.Native.Nat.{◌<◌}
use native.Mathlib.Omega.{arith}
use Rattle.model.specs.Lists.{sum_before}
use Rattle.reading.specs.Bytes.{body_count, table, declarations_in, sizes_of, first_record}
use Rattle.model.proofs.Rows.{each_none, each_more, each_stop}
use Rattle.model.proofs.Verdicts.{faulty, handed, faulty_where, where_accepts, where_faulty, found_where}
use Rattle.reading.proofs.Tables.{filled_first, filled_next, stored_next, first_zero}
use Rattle.contents.proofs.Entries.{records_more}
use Rattle.std.proofs.Common.{rules}
use Rattle.contents.proofs.body_entries.Goals as goal

pub loop-b-init : goal.loop-b-init
unfolding table
loop-b-init c =
    let l = sizes_of c.args.plan.now in
    (sym (first_zero l), search rules, each_none _, search rules, search rules, filled_first (sum_before l) (first_zero l), refl)

pub returns-in_err-e-clause-bodies : goal.returns-in_err-e-clause-bodies
returns-in_err-e-clause-bodies c =
    let below : c.loop-b.b < body_count c.args.plan.now = omega arith in
    handed c.from_residual.ensures.1 ∙ faulty_where _ _ _ (each_stop _ _ _ _ (faulty refl) c.loop-b.invariant.2 (where_faulty _ _ _ c.in_err-e.ensures.entry) below)

pub loop-b-preserved : goal.loop-b-preserved
loop-b-preserved c =
    let below : c.loop-b.b < body_count c.args.plan.now = omega arith in
    let l = c.loop-b in
    let f = c.args.plan.now in
    let e = where_accepts _ _ _ c.in_ok-e.ensures.entry in
    let m = records_more f l.b _ _ below (ap (λ x. x.records) e.1) l.invariant.0 in (
      m,
      c.in_ok-e.ensures.low,
      each_more _ _ l.invariant.2 e.0,
      search rules,
      search rules,
      rw l.invariant.5 (filled_next (first_record f) 33 l.b _ (omega arith) m),
      rw l.invariant.6 (stored_next (declarations_in f) 32 l.b _ (omega arith) (ap (λ x. x.declarations) e.1)),
    )

pub returns : goal.returns
returns c =
    let f = c.args.plan.now in
    let l = c.loop-b in
    let all : l.b ≡ body_count f = omega arith in
    record { bodies = found_where _ _ _ (rw all at l.invariant.2) (rw (l.invariant.0, l.invariant.5, l.invariant.6, all)); low = l.invariant.1 }

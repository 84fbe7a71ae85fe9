use Rattle.std.proofs.Common.{rules, ◌≡◌, refl, sym, ◌∙◌, Ok, Err}
use Rattle.model.proofs.Booleans.{and_out}
use Rattle.acts.proofs.Turning.{flags_held, copy_acts, need_idle_on, need_acts}
use Rattle.acts.proofs.act_move.Goals as goal

pub returns-then-needs-flag_set-clause-needed : goal.returns-then-needs-flag_set-clause-needed
returns-then-needs-flag_set-clause-needed c = λ y layout x k σ l h.
    need_idle_on h c.requires.low c.args.on_card x k (sym (c.flag_set.ensures _ _ (rw k.array at k.range.one) (c.flags_on.ensures ∙ flags_held h c.args.on_card)) ∙ (and_out _ _ c.if-needs-flag_set.true).1)

pub returns-in_err-copied-clause-copies : goal.returns-in_err-copied-clause-copies
returns-in_err-copied-clause-copies c =
    let e : c.from_residual.result ≡ Err c.in_err-copied.field-0.0 = search rules in
    λ n layout x k σ l h. rw e (copy_acts h c.requires.low c.args.on_card x k _ c.in_err-copied.ensures)

pub returns-in_err-copied-clause-needed : goal.returns-in_err-copied-clause-needed
returns-in_err-copied-clause-needed c =
    let u = c.in_err-copied in
    let e : c.from_residual.result ≡ Err u.field-0.0 = search rules in
    λ y layout x k σ l h. rw e (need_acts h c.requires.low c.args.on_card x k (Err u.field-0.0) (Err u.field-0.0) (sym (c.flag_set.ensures _ _ (rw k.array at k.range.one) (c.flags_on.ensures ∙ flags_held h c.args.on_card)) ∙ rw y at c.if-needs-flag_set.false) u.ensures refl)

pub returns-then-needs-clause-needed : goal.returns-then-needs-clause-needed
returns-then-needs-clause-needed c = λ y layout x k σ l h.
    need_acts h c.requires.low c.args.on_card x k (Ok c.in_ok-copied.copied) (Ok c.both_set.result) (sym (c.flag_set.ensures _ _ (rw k.array at k.range.one) (c.flags_on.ensures ∙ flags_held h c.args.on_card)) ∙ rw y at c.if-needs-flag_set.false) c.in_ok-copied.ensures c.both_set.ensures

pub returns-clause-copies : goal.returns-clause-copies
returns-clause-copies c = λ n layout x k σ l h. copy_acts h c.requires.low c.args.on_card x k (Ok c.in_ok-copied.copied) c.in_ok-copied.ensures

use Rattle.std.proofs.Common.{rules, ◌≡◌, refl, Err, arith}
use Rattle.acts.proofs.Turning.{read_done_on, read_unmet_on}
use Rattle.acts.proofs.act_read.Goals as goal

pub returns-in_err-all_current : goal.returns-in_err-all_current
returns-in_err-all_current c =
    let u = c.in_err-all_current in
    let e : c.from_residual.result ≡ Err u.field-0.0 = search rules in
    λ layout x k σ l h. rw e (read_unmet_on h c.requires.low c.args.on_card x k u.ensures.0 u.ensures.1, refl, refl, refl)

pub returns : goal.returns
returns c = λ layout x k σ l h. read_done_on h c.requires.low c.args.on_card x k c.in_ok-all_current.ensures (omega arith)

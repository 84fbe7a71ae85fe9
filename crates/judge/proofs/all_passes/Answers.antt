use mathlib.Core.Path.{◌≡◌, refl, ap, ◌∙◌}
use Prim.Native.Nat.{◌<◌}
use native.Mathlib.Omega.{arith}
use Rattle.model.specs.Rows.{answer_of}
use Rattle.reading.specs.Bytes.{body_count}
use Rattle.model.proofs.Rows.{each_none}
use Rattle.model.proofs.Verdicts.{faulty, handed}
use Rattle.format.proofs.Walking.{opened_facts}
use Rattle.passes.proofs.Records.{readable, stands}
use Rattle.judge.specs.Judged.{pass_rows}
use Rattle.judge.proofs.Laws.Passes.{passes_more, passes_stop}
use Rattle.judge.proofs.all_passes.Goals as goal

pub loop-b-init : goal.loop-b-init
loop-b-init c = each_none _

pub extent_of-requires : goal.extent_of-requires
extent_of-requires c =
    let below : c.loop-b.b < body_count c.args.plan.now = rw (ap (λ o. o.bodies) c.requires.2) at c.loop-b-test.true in
    let w = c.requires in readable _ w.0 _ w.2 _ below

pub judge_pass-requires : goal.judge_pass-requires
judge_pass-requires c =
    let below : c.loop-b.b < body_count c.args.plan.now = rw (ap (λ o. o.bodies) c.requires.2) at c.loop-b-test.true in
    let w = c.requires in (stands _ w.0 _ w.2 _ below w.1 (omega arith) _ c.extent_of.ensures, ap (λ o. o.array_starts) w.2)

pub returns-in_err-judge_pass : goal.returns-in_err-judge_pass
returns-in_err-judge_pass c =
    let below : c.loop-b.b < body_count c.args.plan.now = rw (ap (λ o. o.bodies) c.requires.2) at c.loop-b-test.true in
    let rows = c.in_err-judge_pass.ensures ∙ ap (λ e. answer_of (pass_rows c.args.plan.now e.body)) c.extent_of.ensures in
    handed c.from_residual.ensures.1 ∙ passes_stop _ _ (omega arith) c.loop-b.invariant _ rows (faulty refl) _ below

pub loop-b-preserved : goal.loop-b-preserved
loop-b-preserved c =
    let rows = c.in_ok-judge_pass.ensures ∙ ap (λ e. answer_of (pass_rows c.args.plan.now e.body)) c.extent_of.ensures in
    passes_more _ _ (omega arith) c.loop-b.invariant _ rows refl

pub returns : goal.returns
returns c =
    let w = c.requires in
    let n : c.loop-b.b ≡ body_count c.args.plan.now = omega (arith, ap (λ o. o.bodies) w.2, (opened_facts _ w.0).bounds.header.bodies) in
    rw n at c.loop-b.invariant

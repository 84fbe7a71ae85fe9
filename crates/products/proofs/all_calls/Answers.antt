-- `products::all_calls` answers number 26 of the calls of body 0.
use mathlib.Core.Path.{◌≡◌, ◌∙◌}
use native.Mathlib.Omega.{arith}
use Rattle.reading.specs.Bytes.{records_in}
use Rattle.format.proofs.Walking.{opened_facts}
use Rattle.format.proofs.Trees.{body0_body}
use Rattle.sizes.proofs.Body0.{end_read, body0_few}
use Rattle.products.proofs.Counts.{body0_within}
use Rattle.products.proofs.all_calls.Goals as goal

pub body0_end-requires : goal.body0_end-requires
body0_end-requires c = let u = c.requires in omega (arith, end_read _ u.0 _ u.1, body0_few _ u.0)

pub calls_between-requires : goal.calls_between-requires
calls_between-requires c =
    let ends : c.body0_end.result ≡ records_in c.args.plan.now 0 = let u = c.requires in c.body0_end.ensures ∙ end_read _ u.0 _ u.1 in
    let u = c.requires in (u.0, u.1, omega arith, omega (arith, ends), rw ends (body0_within _ u.0))

pub returns : goal.returns
returns c =
    let ends : c.body0_end.result ≡ records_in c.args.plan.now 0 = let u = c.requires in c.body0_end.ensures ∙ end_read _ u.0 _ u.1 in
    let u = c.requires in c.calls_between.ensures ∙ rw (ends, body0_body _ (opened_facts _ u.0.opened))

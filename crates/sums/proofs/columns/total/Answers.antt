-- The chain gives the columns, whose sum as the library has it is the plain one.
use Rattle.std.proofs.Common.{◌≡◌, ◌<◌, ◌≤◌, ◌*◌, ◌∙◌, length, arith, rules, tests}
use Rattle.std.specs.List.{sum}
use Rattle.std.proofs.lemmas.Iterator.{YieldsList-from_slice, YieldsList-from_map}
use Rattle.std.proofs.lemmas.Iterator.Consumers.{sum_by_from_yields_List, fits_by_from_yields_list}
use Rattle.sums.specs.Sums.{plain_sum}
use Rattle.sums.proofs.Parts.{plain_is, plain_most}
use Rattle.sums.proofs.columns.total.Goals as goal

pub sum-requires-clause-fits : goal.sum-requires-clause-fits
sum-requires-clause-fits c =
    let columns = c.args.columns.now in
    let low : plain_sum columns ≤ 4294967295 * length columns = plain_most 4294967295 columns (λ i. omega (arith, c.fits-columns i)) in
    let fits : sum columns < 18446744073709551616 = omega (arith, plain_is columns) in
    fits_by_from_yields_list (λ x. x) columns c.map.result _ (YieldsList-from_map _ (λ x. x) (YieldsList-from_slice columns cc) c.map.ensures.closure (λ x r q k. search (rules, tests))) fits

pub returns : goal.returns
returns c =
    let columns = c.args.columns.now in
    let is : c.sum.result ≡ plain_sum columns = sum_by_from_yields_List (λ x. x) columns c.map.result _ c.sum.ensures.ran (YieldsList-from_map _ (λ x. x) (YieldsList-from_slice columns cc) c.map.ensures.closure (λ x r q k. search (rules, tests))) ∙ plain_is columns in
    record { sum = is; low = omega (arith, plain_most 4294967295 columns (λ i. omega (arith, c.fits-columns i))) }

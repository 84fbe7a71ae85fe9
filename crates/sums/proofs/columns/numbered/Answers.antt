-- One column more in front: it adds one to the number of each after it.
use Rattle.std.proofs.Common.{◌≡◌, [], ◌∷◌, length, ◌∙◌, arith, ap, length-append}
use Rattle.sums.specs.Sums.{plain_sum, weighted_sum}
use Rattle.sums.proofs.Parts.{passed_none, passed_next, left_within, behind_all}
use Rattle.sums.proofs.columns.numbered.Goals as goal

pub loop-n-init : goal.loop-n-init
loop-n-init c =
    let e : c.into_iter-n-iterator.result.iter.rest.now ≡ c.args.columns.now = cc in
    record { finite = tt; passed = rw e (passed_none _); plain_low = omega arith; weighted_low = omega arith }

pub loop-n-preserved : goal.loop-n-preserved
loop-n-preserved c =
    let l = c.loop-n in
    let v = l.invariant in
    let last = c.in-Some.ensures.steps in
    let within = left_within c.args.columns.now l.n-iterator.iter.rest.now v.passed.whole in
    let one_less = ap length last ∙ length-append c.next.new.self.iter.rest.now (c.in-Some.n.now ∷ []) in
    record {
      finite = tt;
      passed = passed_next _ _ _ _ _ _ _ _ last (omega arith) (omega arith) v.passed;
      plain_low = omega arith;
      weighted_low = omega arith;
    }

pub returns : goal.returns
returns c =
    let v = c.loop-n.invariant in
    let e = behind_all _ _ c.in-None.ensures.steps.0 in
    record { plain = v.passed.plain_so_far ∙ ap plain_sum e; sum = v.passed.weighted_so_far ∙ ap (weighted_sum 1) e; low = (omega arith, omega arith) }

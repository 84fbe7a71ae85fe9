use mathlib.Core.Path.{◌≡◌, refl, ap, ◌∙◌}
use Prim.Native.Nat.{◌+◌, ◌-◌}
use native.Mathlib.Nat.{add_comm}
use native.Mathlib.Omega.{arith}
use Rattle.format.specs.Views.{body_at}
use Rattle.model.proofs.Verdicts.{faulty}
use Rattle.format.proofs.Views.{part_refuses, none_viewed, part_begins, part_viewed}
use Rattle.format.proofs.body_view.Goals as goal

pub returns-in_default : goal.returns-in_default
returns-in_default c =
    let e = c.in_default.ensures.part in
    record { bytes = none_viewed _ _ _ e; own = λ a. absurd (faulty refl (part_refuses _ _ _ e ∙ a)) }

pub returns : goal.returns
returns c =
    let p = c.in-Ok.ensures.part in
    let from = c.from-from.ensures in
    let n : c.from-from.result + c.from.result - c.from-from.result ≡ c.in-Ok.part.size = omega (arith, c.from.ensures) in
    record { bytes = rw (n, from) (part_viewed _ _ _ p); own = λ a. rw (from, part_begins _ _ _ p) (ap (λ n. (c.args.plan.ref_ptr.0, n)) (add_comm (body_at c.args.plan.now c.args.body) c.args.plan.ref_ptr.1)) }

use mathlib.Core.Path.{◌≡◌, sym, ap, ◌∙◌}
use Rattle.logs.specs.Inner.Following.{stood}
use mathlib.Core.List.{[], ◌∷◌}
use native.Mathlib.Omega.{arith}
use lib.ListN.{length}
use Rattle.logs.specs.Logged.{entries_of}
use Rattle.logs.proofs.Following.{count_is}
use Rattle.logs.proofs.Parts.{said_refused, said_accepted, refused_at}
use Rattle.logs.proofs.Stage.end.Goals as goal

-- the entry that is read more, whichever it is
one : length (entries_of (0 ∷ 0 ∷ [])) ≡ 1
one = count_is (0 ∷ 0 ∷ [])

pub overflow_sub-result : goal.overflow_sub-result
overflow_sub-result c = let v = c.args in let w = c.follow.ensures.led in omega (arith, ((w.more c.requires.0.entries c.requires.0.holds).ends (refused_at _ _ c.in-Err.is)).some_read)

pub returns-in-Ok : goal.returns-in-Ok
returns-in-Ok c = let v = c.args in let w = c.follow.ensures.led in λ l h. rw c.unplaced.ensures (said_accepted v.plan.now v.bodies l _ one _ (w.more l h) (ap stood c.in-Ok.is))

pub returns-in-Err : goal.returns-in-Err
returns-in-Err c =
    let v = c.args in
    let w = c.follow.ensures.led in
    λ l h. rw (c.number.ensures ∙ sym (ap stood c.in-Err.is)) (said_refused v.plan.now v.bodies l _ one _ (w.more l h) (refused_at _ _ c.in-Err.is))

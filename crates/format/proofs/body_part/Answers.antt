use mathlib.Core.Path.{◌≡◌, refl, ap, ◌∙◌}
use mathlib.Core.List.{List}
use Rattle.std.specs.Prelude.{Ok, Err}
use Rattle.model.specs.declared.Fault.{Fault}
use Rattle.reading.specs.Bytes.{body_count}
use Rattle.format.specs.Opening.{opened}
use Rattle.format.specs.Views.{body_part}
use Rattle.contents.specs.declared.Opened.{Opened}
use Rattle.model.proofs.Verdicts.{faulty, handed}
use Rattle.format.proofs.Views.{view_unopened, view_none, part_none, Range, body_range, part_there}
use Rattle.format.proofs.Walking.{opens, found_is, unopened}
use Prim.Native.Nat.{ℕ, ◌+◌, ◌≤◌, ◌<◌}
use native.Mathlib.Omega.{arith}
use lib.ListN.{get_or}
use Rattle.std.proofs.Common.{rules}
use Rattle.format.proofs.body_part.Goals as goal

-- what was found of body b in a file that opens, and which has n bodies
module _ (f : List ℕ) (b : ℕ) (o : Opened) (n : ℕ) (e : Ok o ≡ opened f) (k : n ≡ o.bodies) where
  bodies_are : n ≡ body_count f
  bodies_are = k ∙ ap (λ x. x.bodies) (found_is f o e)

  past : n ≤ b → Err (Fault.Refused 25 0) ≡ body_part f b
  past h = part_none f b _ (view_none f b (opens f o e) (rw bodies_are at h))

  module _ (h : b < n) where
    below : b < body_count f
    below = rw bodies_are at h

    range : Range f b o.offset (get_or o.body_starts b 0) (get_or o.body_starts (b + 1) 0)
    range = body_range f b (opens f o e) below o (found_is f o e)

pub returns-in_err-o-clause-part : goal.returns-in_err-o-clause-part
returns-in_err-o-clause-part c = handed c.from_residual.ensures.1 ∙ part_none _ _ _ (view_unopened _ _ _ (faulty refl) (unopened _ _ c.in_err-o.ensures))

pub returns-then-from-body-clause-part : goal.returns-then-from-body-clause-part
returns-then-from-body-clause-part c = past _ _ _ _ c.in_ok-o.ensures c.from.ensures c.if-from-body.true

pub bounds-starts-b : goal.bounds-starts-b
bounds-starts-b c = let p = range _ _ _ _ c.in_ok-o.ensures c.from.ensures c.if-from-body.false in search rules

pub bounds-starts-b-2 : goal.bounds-starts-b-2
bounds-starts-b-2 c = let p = range _ _ _ _ c.in_ok-o.ensures c.from.ensures c.if-from-body.false in search rules

pub overflow_mul-result : goal.overflow_mul-result
overflow_mul-result c = let p = range _ _ _ _ c.in_ok-o.ensures c.from.ensures c.if-from-body.false in search rules

pub overflow_add-result : goal.overflow_add-result
overflow_add-result c = let p = range _ _ _ _ c.in_ok-o.ensures c.from.ensures c.if-from-body.false in search rules

pub overflow_sub-result : goal.overflow_sub-result
overflow_sub-result c = let p = range _ _ _ _ c.in_ok-o.ensures c.from.ensures c.if-from-body.false in search rules

pub overflow_mul-result-2 : goal.overflow_mul-result-2
overflow_mul-result-2 c = let p = range _ _ _ _ c.in_ok-o.ensures c.from.ensures c.if-from-body.false in search rules

pub returns : goal.returns
returns c =
    let p = range _ _ _ _ c.in_ok-o.ensures c.from.ensures c.if-from-body.false in
    let h = below _ _ _ _ c.in_ok-o.ensures c.from.ensures c.if-from-body.false in
    record { part = part_there _ _ (opens _ _ c.in_ok-o.ensures) h _ _ _ p; inside = omega (arith, p.inside, p.size) }

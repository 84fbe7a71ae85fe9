use mathlib.Core.Path.{refl}
use mathlib.Core.List.{[]}
use Prim.Native.Nat.{ℕ}
use native.Mathlib.Omega.{arith}
use lib.ListN.{replicate, length-replicate}
use Rattle.logs.proofs.Following.{cells_room, opens_counted, none_begun, at_start}
use Rattle.logs.proofs.Parts.{holds_none}
use Rattle.logs.proofs.Stage.first.Goals as goal

pub write_statuses-requires : goal.write_statuses-requires
write_statuses-requires c = let w = c.requires in (rw c.from.ensures (opens_counted _ _ w), cells_room _ _ w (replicate {A = ℕ} 4096 0) (omega (arith, length-replicate {A = ℕ} 4096 0)))

pub returns-clause-led : goal.returns-clause-led
returns-clause-led c = let v = c.args in holds_none v.plan.now v.o.offset _ refl refl refl (λ l. at_start v.plan.now v.o c.requires l _ _ c.put_starts.ensures none_begun _ c.write_statuses.ensures _ c.first.ensures)

pub returns-clause-underway : goal.returns-clause-underway
returns-clause-underway c = (record { entries = []; holds = returns-clause-led c }, refl)

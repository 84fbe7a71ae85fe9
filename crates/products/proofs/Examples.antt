-- Calls inside fixed loops: what number 26 of the expander answers.
use mathlib.Core.Path.{◌≡◌, refl}
use mathlib.Core.List.{List, [], ◌∷◌}
use Prim.Native.Nat.{ℕ}
use Rattle.model.specs.Verdicts.{Verdict, Accepted, Refused}
use Rattle.model.specs.Blocks.{Block}
use Rattle.model.specs.Judging.{Pass}
use Rattle.model.specs.Rows.{answer_of}
use Rattle.products.specs.Products.{call_rows}

-- a pass whose body is a loop of 64 turns, and one whose body is a loop of 4,096
passes : List Pass
passes = record { declarations = []; body = Block.fixed 0 63 Block.done Block.done } ∷ record { declarations = []; body = Block.fixed 0 4095 Block.done Block.done } ∷ []

answer : Block ℕ → Verdict
unfolding passes
answer body0 = answer_of (call_rows passes 1 body0)

-- 64 turns around a call of the first are allowed, whatever the second has and whatever stands beside
allowed : answer (Block.fixed 0 63 (Block.act 1 1 Block.done) (Block.fixed 2 63 (Block.act 3 1 Block.done) (Block.act 4 2 Block.done))) ≡ Accepted
unfolding answer call_rows answer_of passes
allowed = refl

-- 65 are not, also by two loops and with a free loop between them; the place is the call's, the lowest one's
over : answer (Block.act 0 2 (Block.fixed 1 4 (Block.loop 2 (Block.fixed 3 12 (Block.act 4 1 Block.done) Block.done) Block.done) (Block.fixed 5 1 (Block.act 6 2 Block.done) Block.done))) ≡ Refused 26 4
unfolding answer call_rows answer_of passes
over = refl

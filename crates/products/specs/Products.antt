-- Number 26 of the expander (document 02, request a): the products of the counts around a call and inside the pass that it calls.
use Rattle.std.specs.Prelude.{ℕ, suc, ◌*◌, List, [], ◌∷◌, ◌++◌, ltb}
use Rattle.model.specs.Blocks.{Block, largest}
use Rattle.model.specs.Judging.{Pass, pass_of}
use Rattle.model.specs.Rows.{Row, row}

-- "the expander tests the expansion too, after 16, place the call": the calls of a part of body 0 around which the counts of fixed loops
-- have the product `around`
unfoldable pub call_rows : List Pass → ℕ → Block ℕ → List Row
call_rows passes around Block.done = []
call_rows passes around (Block.act r b t) = row (ltb 4096 (around * largest (pass_of passes b).body)) 26 r ∷ call_rows passes around t
call_rows passes around (Block.branch r x y t) = call_rows passes around x ++ (call_rows passes around y ++ call_rows passes around t)
call_rows passes around (Block.loop r x t) = call_rows passes around x ++ call_rows passes around t
call_rows passes around (Block.fixed r n x t) = call_rows passes (around * suc n) x ++ call_rows passes around t

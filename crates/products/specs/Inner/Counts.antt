-- No promise of an entry point rests on this text: records inside fixed loops whose counts have a product, and a call against it.
use Rattle.std.specs.Prelude.{ℕ, ◌*◌, ◌≤◌, Bool, ◌&&◌, List, ltb, eqb}
use Rattle.model.specs.Blocks.{largest}
use Rattle.reading.specs.declared.Fields.{Fields}
use Rattle.format.specs.Plans.{pass_at}
use Rattle.format.specs.Inner.Walks.{Good}

-- the records r up to `end` of body b pass their tests inside fixed loops whose counts have the product `around`
pub record Within (f : List ℕ) (b around r end : ℕ) : Type 0 where
  pub depth : ℕ
  pub some : 1 ≤ around
  pub few : around ≤ 4096
  pub good : Good f b depth around r end

-- the same, whatever their body and that product
pub record Counted (f : List ℕ) (r end : ℕ) : Type 0 where
  pub body : ℕ
  pub around : ℕ
  pub within : Within f body around r end

-- whether a record with the fields x is a call inside `around` turns whose pass has a product with which they pass 4,096
unfoldable pub too_many : List ℕ → ℕ → Fields → Bool
too_many f around x = eqb x.kind 8 && ltb 4096 (around * largest (pass_at f x.p).body)

-- No promise of an entry point rests on this text: the lowest stop as the code stores it.
use Rattle.std.specs.Prelude.{ℕ, ◌≡◌, refl, Bool, true, false, cond, eqb, Option, None, Some}
use mathlib.Core.Path.{sym}
use borrow.Author.Tests.{eqb-true}
use Rattle.model.specs.declared.Record.{Record}
use Rattle.statuses.specs.Inner.Sets.{number_of}

-- the record with this number, none for 65535
abbrev pub lowest_of : ℕ → Option Record
lowest_of n = cond (eqb n 65535) None (Some (record { 0 = n }))

-- which has it
pub stored : (n : ℕ) → number_of (lowest_of n) ≡ n
stored n = go (eqb n 65535) refl
  where
    go : (b : Bool) → eqb n 65535 ≡ b → number_of (lowest_of n) ≡ n
    go true e = rw e (sym (eqb-true n 65535 e))
    go false e = rw e refl

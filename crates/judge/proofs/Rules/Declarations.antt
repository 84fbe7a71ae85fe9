-- "In a pass each array is declared at most once": said of each declaration and those before it.
use mathlib.Core.Path.{◌≡◌, refl, sym, ◌∙◌}
use mathlib.Core.Logic.{◌↔◌}
use mathlib.Core.Bool.{Bool, true, false, not, ◌&&◌, ◌||◌}
use mathlib.Core.List.{List, [], ◌∷◌, ◌++◌}
use Prim.Native.Nat.{ℕ, zero, suc, ◌<◌}
use native.Mathlib.Omega.{arith}
use lib.Dec.{eqb}
use borrow.Author.Tests.{not-true}
use Rattle.model.specs.Lists.{any}
use Rattle.model.specs.Judging.{Declaration, declared_once}
use Rattle.model.proofs.Booleans.{and_out, and_in, eqb_swap, any_append}
use Rattle.reading.specs.Bytes.{table}
use Rattle.judge.proofs.Rules.Tables.{up_to}

abbrev same : Declaration → Declaration → Bool
same d e = eqb e.array d.array

once_more : (l : List Declaration) (d : Declaration) → declared_once (l ++ (d ∷ [])) ≡ (declared_once l && not (any (same d) l))
once_more [] d = refl
once_more (c ∷ l) d = rw (any_append (same c) l (d ∷ []), once_more l d, eqb_swap d.array c.array) (go (any (same c) l) (eqb c.array d.array) (declared_once l) (any (same d) l))
  where
    go : (x y o z : Bool) → (not (x || (y || false)) && (o && not z)) ≡ ((not x && o) && not (y || z))
    go true y o z = refl
    go false true true z = refl
    go false true false z = refl
    go false false o z = refl

pub once_table : (g : ℕ → Declaration) (n : ℕ) → (declared_once (table g n) ≡ true) ↔ ((i : ℕ) → i < n → any (same (g i)) (table g i) ≡ false)
unfolding table
once_table g zero = (λ e i l. absurd (omega arith), λ h. refl)
once_table g (suc n) = (
  λ e. let w = and_out (declared_once (table g n)) _ (sym (once_more (table g n) (g n)) ∙ e) in up_to (λ i. any (same (g i)) (table g i) ≡ false) n ((once_table g n).0 w.0) (not-true _ w.1),
  λ h. once_more (table g n) (g n) ∙ and_in _ _ ((once_table g n).1 (λ i l. h i (omega arith))) (rw (h n (omega arith))),
)

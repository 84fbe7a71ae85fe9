use mathlib.Core.Path.{◌≡◌, refl, ◌∙◌}
use mathlib.Core.List.{List}
use Prim.Native.Nat.{ℕ}
use native.Mathlib.Omega.{arith}
use Rattle.reading.specs.declared.Fields.{Fields}
use Rattle.reading.specs.Bytes.{array_count, body_count, length_at}
use Rattle.rules.proofs.Fields.{Sizes, fit_cells_read, fit_array, fit_declaration, fit_branch, fit_loop, fit_call, fit_fixed, fit_unknown}
use Rattle.rules.proofs.fields_fit.Goals as goal
use Rattle.rules.proofs.fields_fit.Goals.{then-kind-lt6, else-kind-lt6+else-kind-lt16+then-kind-lt19}

sized : (f : List ℕ) (x : Fields) (n m : ℕ) → n ≡ array_count f → m ≡ body_count f → Sizes f x n m (length_at f x.array)
sized f x n m p q = record { arrays_are = p; bodies_are = q; size_is = refl }

pub returns-in-6 : goal.returns-in-6
returns-in-6 c = fit_branch _ _ _ _ _ (sized _ _ _ _ c.header_byte-arrays.ensures (c.from-bodies.ensures ∙ c.header_byte.ensures)) c.in-6.is

pub returns-in-7 : goal.returns-in-7
returns-in-7 c = fit_loop _ _ _ _ _ (sized _ _ _ _ c.header_byte-arrays.ensures (c.from-bodies.ensures ∙ c.header_byte.ensures)) c.in-7.is

pub returns-in-8 : goal.returns-in-8
returns-in-8 c = fit_call _ _ _ _ _ (sized _ _ _ _ c.header_byte-arrays.ensures (c.from-bodies.ensures ∙ c.header_byte.ensures)) c.in-8.is

pub returns-in-9 : goal.returns-in-9
returns-in-9 c = fit_fixed _ _ _ _ _ (sized _ _ _ _ c.header_byte-arrays.ensures (c.from-bodies.ensures ∙ c.header_byte.ensures)) c.in-9.is

pub returns-in-1 : goal.returns-in-1
returns-in-1 c = fit_cells_read _ _ _ _ _ (sized _ _ _ _ c.header_byte-arrays.ensures (c.from-bodies.ensures ∙ c.header_byte.ensures)) _ c.array_size-size.ensures (omega arith) (omega arith)

pub returns-in-4 : goal.returns-in-4
returns-in-4 c =
    elim c.in-4-1.branch [
      | then-kind-lt6 w ↦ fit_array _ _ _ _ _ (sized _ _ _ _ c.header_byte-arrays.ensures (c.from-bodies.ensures ∙ c.header_byte.ensures)) (omega arith) (omega arith)
      | else-kind-lt6+else-kind-lt16+then-kind-lt19 w ↦ fit_declaration _ _ _ _ _ (sized _ _ _ _ c.header_byte-arrays.ensures (c.from-bodies.ensures ∙ c.header_byte.ensures)) (omega arith) (omega arith)
    ]

pub returns-in-0 : goal.returns-in-0
returns-in-0 c = fit_unknown _ _ _ _ _ (sized _ _ _ _ c.header_byte-arrays.ensures (c.from-bodies.ensures ∙ c.header_byte.ensures)) (λ u v. omega arith) (λ u v. omega arith)

pub returns-in-0-2 : goal.returns-in-0-2
returns-in-0-2 c = fit_unknown _ _ _ _ _ (sized _ _ _ _ c.header_byte-arrays.ensures (c.from-bodies.ensures ∙ c.header_byte.ensures)) (λ u v. omega arith) (λ u v. omega arith)

pub returns-in-0-3 : goal.returns-in-0-3
returns-in-0-3 c = fit_unknown _ _ _ _ _ (sized _ _ _ _ c.header_byte-arrays.ensures (c.from-bodies.ensures ∙ c.header_byte.ensures)) (λ u v. omega arith) (λ u v. omega arith)

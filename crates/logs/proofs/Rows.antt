-- The answer to a plan file and a log: that of opening, 11, 29, then what is found of the log.
use Prim.Native.Nat.{ℕ, ◌%◌}
use mathlib.Core.Path.{◌≡◌, refl, sym, ap, ◌∙◌}
use mathlib.Core.Bool.{Bool, false, true, not}
use mathlib.Core.List.{List, [], ◌∷◌}
use lib.Dec.{eqb}
use lib.ListN.{length}
use borrow.Author.Tests.{eq-eqb, ne_eqb, not-false}
use Rattle.std.specs.Prelude.{Ok, Err}
use Rattle.model.specs.declared.Fault.{Fault}
use Rattle.model.specs.Verdicts.{Accepted, Refused, where_accepted}
use Rattle.model.specs.Rows.{row, answer_of}
use Rattle.model.proofs.Rows.{holds, skips, empty, stop, pass, passed, skipped}
use Rattle.model.proofs.Verdicts.{faulty, found_where, faulty_where, where_accepts, where_faulty}
use Rattle.reading.specs.Bytes.{kind_of, is_plain}
use Rattle.contents.specs.declared.Opened.{Opened}
use Rattle.format.specs.Opening.{open_rows, opening, opened}
use Rattle.contents.specs.Found.{found}
use Rattle.format.proofs.Walking.{opens, found_is, unopened}
use Rattle.logs.specs.declared.Logged.{Logged}
use Rattle.logs.specs.Logged.{entries_of, log_rows, unplaced, Says, Answers}
use Rattle.logs.specs.Inner.Following.{Opens}

-- where no row holds, the file is a plain plan
pub plain_opens : (f : List ℕ) (odd : Bool) → Accepted ≡ answer_of (log_rows f odd) → (Accepted ≡ opening f) × (is_plain f ≡ true)
unfolding log_rows opening
plain_opens f odd e = let w = passed (open_rows f) _ e in (w.0, not-false _ (skipped _ _ _ _ w.1).0)

-- the answer of the rows, from what opening has found
module _ (f : List ℕ) (odd : Bool) where
  pub rows_unopened : (e : Fault) → Err e ≡ opened f → Err e ≡ where_accepted (answer_of (log_rows f odd)) (found f)
  unfolding log_rows opening
  rows_unopened e h = faulty_where _ _ e (stop (open_rows f) _ (Err e) (faulty refl) (unopened f e h))

  module _ (o : Opened) (e : Ok o ≡ opened f) where
    kind_same : o.kind ≡ kind_of f
    kind_same = ap (λ (x : Opened). x.kind) (found_is f o e)

    pub rows_declared : (o.kind ≡ 2 → ⊥) → Err (Fault.Refused 11 0) ≡ where_accepted (answer_of (log_rows f odd)) (found f)
    unfolding log_rows opening
    rows_declared nay = faulty_where _ _ _ (pass (open_rows f) _ (Refused 11 0) (opens f o e) (holds (not (is_plain f)) 11 0 (row odd 29 0 ∷ []) (rw (ne_eqb (kind_of f) 2 (λ k. nay (kind_same ∙ k))))))

    module _ (k : o.kind ≡ 2) where
      plain : not (is_plain f) ≡ false
      plain = rw (eq-eqb (kind_of f) 2 (sym kind_same ∙ k))

      pub rows_odd : odd ≡ true → Err (Fault.Refused 29 0) ≡ where_accepted (answer_of (log_rows f odd)) (found f)
      unfolding log_rows opening
      rows_odd h = faulty_where _ _ _ (pass (open_rows f) _ (Refused 29 0) (opens f o e) (skips (not (is_plain f)) 11 0 (row odd 29 0 ∷ []) (Refused 29 0) plain (holds odd 29 0 [] h)))

      pub rows_none : odd ≡ false → Ok o ≡ where_accepted (answer_of (log_rows f odd)) (found f)
      unfolding log_rows opening
      rows_none h = found_where _ _ _ (pass (open_rows f) _ Accepted (opens f o e) (skips (not (is_plain f)) 11 0 (row odd 29 0 ∷ []) Accepted plain (skips odd 29 0 [] Accepted h empty))) (found_is f o e)

-- the plan over which a log is followed
module _ (f : List ℕ) (odd : Bool) (o : Opened) (e : Ok o ≡ where_accepted (answer_of (log_rows f odd)) (found f)) where
  pub to_hold : Opens f o
  unfolding opened
  to_hold =
      let w = where_accepts _ _ _ e in
      let p = plain_opens f odd w.0 in
      record { found = found_where _ _ _ p.0 w.1; plain = p.1 }

-- the answer to the log
module _ (f log : List ℕ) where
  pub answers_refused : (e : Fault) → Err e ≡ where_accepted (answer_of (log_rows f (eqb (length log % 2) 1))) (found f) → (r : Logged) → r ≡ unplaced (Err e) → Answers f log r
  unfolding Answers
  answers_refused e h r q = rw (← where_faulty _ _ e h) q

  pub answers_held : (o : Opened) → Ok o ≡ where_accepted (answer_of (log_rows f (eqb (length log % 2) 1))) (found f) → (r : Logged) → Says f (entries_of log) r → Answers f log r
  unfolding Answers
  answers_held o e r q = rw (← (where_accepts _ _ _ e).0) q

-- What header and tail decide.
use mathlib.Core.Path.{◌≡◌, ap, sym, ◌∙◌}
use mathlib.Core.Bool.{true, false, not, ◌&&◌}
use mathlib.Core.List.{List}
use Prim.Native.Nat.{ℕ, ◌<◌, ◌≤◌, ◌+◌, ◌*◌, ◌-◌, ◌%◌}
use lib.Dec.{eqb}
use lib.ListN.{length, take}
use borrow.Author.Tests.{eq-eqb, ne_eqb, lt-ltb, le-ltb}
use Rattle.model.specs.Verdicts.{Accepted, Refused}
use Rattle.model.specs.Rows.{answer_of}
use Rattle.reading.specs.Bytes.{byte_at, record_count, bodies_at}
use Rattle.sums.specs.Sums.{plain_sum, weighted_sum}
use Rattle.frame.specs.Frame.{header_fits, header_rows, checks_fit, tail_rows}
use Rattle.model.proofs.Rows.{holds, skips, empty}

-- numbers 1 and 2
module _ (f : List ℕ) where
  pub short_stop : length f < 4 → Refused 1 0 ≡ answer_of (header_rows f)
  unfolding header_rows
  short_stop t = holds _ _ _ _ (lt-ltb _ _ t)

  pub header_stop : 4 ≤ length f → header_fits f ≡ false → Refused 2 0 ≡ answer_of (header_rows f)
  unfolding header_rows
  header_stop t e = skips _ _ _ _ _ (le-ltb _ _ t) (holds _ _ _ _ (ap not e))

  pub header_pass : 4 ≤ length f → header_fits f ≡ true → Accepted ≡ answer_of (header_rows f)
  unfolding header_rows
  header_pass t e = skips _ _ _ _ _ (le-ltb _ _ t) (skips _ _ _ _ _ (ap not e) empty)

-- numbers 6 and 7
module _ (f : List ℕ) (offset records : ℕ) (eo : offset ≡ bodies_at f) (er : records ≡ record_count f) where
  pub length_stop : (length f ≡ offset + 8 * records + 2 → ⊥) → Refused 6 0 ≡ answer_of (tail_rows f)
  unfolding tail_rows
  length_stop t = holds _ _ _ _ (rw (eo, er) at (ap not (ne_eqb (length f) (offset + 8 * records + 2) t)))

  module _ (t : length f ≡ offset + 8 * records + 2) (a w p q : ℕ) (ea : a ≡ byte_at f (length f - 2)) (ew : w ≡ byte_at f (length f - 2 + 1)) (ep : p ≡ plain_sum (take (length f - 2) f) % 251) (eq : q ≡ weighted_sum 1 (take (length f - 2) f) % 251) where
    length_fits : not (eqb (length f) (bodies_at f + 8 * record_count f + 2)) ≡ false
    length_fits = ap not (eq-eqb _ _ (rw (eo, er) at t))

    checks_are : not (eqb a p && eqb w q) ≡ not (checks_fit f)
    unfolding checks_fit
    checks_are = rw (ea, ew, ep, eq)

    pub check_stop : not (eqb a p && eqb w q) ≡ true → Refused 7 0 ≡ answer_of (tail_rows f)
    unfolding tail_rows
    check_stop u = skips _ _ _ _ _ length_fits (holds _ _ _ _ (sym checks_are ∙ u))

    pub tail_pass : not (eqb a p && eqb w q) ≡ false → Accepted ≡ answer_of (tail_rows f)
    unfolding tail_rows
    tail_pass u = skips _ _ _ _ _ length_fits (skips _ _ _ _ _ (sym checks_are ∙ u) empty)

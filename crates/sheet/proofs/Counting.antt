-- The figures by two counts: of the sequences so far that pass, how many leave the cell current on one side, and how many on both.
use Prim.Native.Nat.{ℕ, zero, suc, ◌+◌, ◌*◌, ◌^◌, ◌≤◌}
use mathlib.Core.Path.{◌≡◌, refl, ap, ap₂, ◌∙◌}
use mathlib.Core.Bool.{Bool, true, false, cond}
use mathlib.Core.List.{List, [], ◌∷◌, ◌++◌, map}
use mathlib.Core.Option.{Option, some}
use native.Mathlib.Omega.{arith}
use native.Mathlib.Nat.{pow-suc}
use lib.Dec.{eqb}
use borrow.Author.Tests.{eq-eqb, ne_eqb}
use Rattle.model.specs.Lists.{sum_before}
use Rattle.model.specs.Inner.Holders.{holder}
use Rattle.model.specs.Records.{Action, covers}
use Rattle.model.specs.Effects.{start}
use Rattle.model.specs.Runs.{Ending, stopped, here}
use Rattle.model.proofs.Stamps.{past}
use Rattle.model.proofs.Status.{Status, met_in, status_after}
use Rattle.model.specs.Cases.{single}
use Rattle.sheet.specs.Sheets.{operations, sequences, sequence_plan, ending_of, stops_at, passes, count, places, figures}
use Rattle.sheet.specs.Claims.{EachCounted}
use Rattle.model.specs.Lists.{sum}
use Rattle.sheet.proofs.Statuses.{sum_none, by_status, by_run, length_sequences}

-- the three statuses that runs reach: the flags stay as at the start
abbrev on_host : Status
on_host = record { host_current = true; card_current = false; host_flag = true; card_flag = false }

abbrev on_card : Status
on_card = record { host_current = false; card_current = true; host_flag = true; card_flag = false }

abbrev on_both : Status
on_both = record { host_current = true; card_current = true; host_flag = true; card_flag = false }

module _ (test : Option Ending → Bool) where
  -- those that stop at their first record
  abbrev stop : ℕ → ℕ → ℕ
  stop n r = cond (test (some (stopped r 0))) (6 ^ n) 0

  -- the card alone is as good as the host alone
  mirrored : (n r : ℕ) → by_status test n r on_card ≡ by_status test n r on_host
  unfolding covers holder sum_before
  mirrored zero r = refl
  mirrored (suc n) r = let e = mirrored n (suc r) in omega arith

  from_one : (n r : ℕ) → by_status test (suc n) r on_host ≡ 3 * by_status test n (suc r) on_host + by_status test n (suc r) on_both + 2 * stop n r
  unfolding covers holder sum_before
  from_one n r = let e = mirrored n (suc r) in omega arith

  from_both : (n r : ℕ) → by_status test (suc n) r on_both ≡ 2 * by_status test n (suc r) on_host + 4 * by_status test n (suc r) on_both
  unfolding covers holder sum_before
  from_both n r = let e = mirrored n (suc r) in omega arith

  -- so many sequences that leave the cell current on one side, so many that leave it on both, and all that follows them
  abbrev weighed : ℕ → ℕ → ℕ → ℕ → ℕ
  weighed n r one both = one * by_status test n r on_host + both * by_status test n r on_both

  weighed_more : (n r one both : ℕ) → weighed (suc n) r one both ≡ 2 * one * stop n r + weighed n (suc r) (3 * one + 2 * both) (one + 4 * both)
  weighed_more n r one both = rw (from_one n r, from_both n r) (omega arith)

-- a run does not stop at a place before its first record
not_before : (p n r : ℕ) (u : Status) → p ≤ r → by_status (stops_at p) n r u ≡ 0
not_before p zero r u h = refl
not_before p (suc n) r u h = sum_none _ (λ x. go x (met_in (single 1) 0 x u) (not_before p n (suc r) (status_after (single 1) 0 x u) (omega arith))) operations
  where
    go : (x : Action) (b : Bool) → by_status (stops_at p) n (suc r) (status_after (single 1) 0 x u) ≡ 0 →
        cond b (by_status (stops_at p) n (suc r) (status_after (single 1) 0 x u)) (cond (eqb (suc r) p) (6 ^ n) 0) ≡ 0
    go x true e = e
    go x false e = rw (ne_eqb (suc r) p (λ q. omega arith))

-- the figures that follow: n operations are still to come
abbrev pub counted : ℕ → ℕ → ℕ → List ℕ
counted zero one both = (one + both) ∷ []
counted (suc n) one both = (2 * one * 6 ^ n) ∷ counted n (3 * one + 2 * both) (one + 4 * both)

map_from : (f g : ℕ → ℕ) (m n : ℕ) → ((p : ℕ) → m ≤ p → f p ≡ g p) → map f (places m n) ≡ map g (places m n)
map_from f g m zero e = refl
map_from f g m (suc n) e = rw (e m (omega arith), map_from f g (suc m) n (λ p h. e p (omega arith)))

all_weighed : (n r one both : ℕ) →
    map (λ p. weighed (stops_at p) n r one both) (places (suc r) n) ++ (weighed passes n r one both ∷ []) ≡ counted n one both
all_weighed zero r one both = ap (λ k. k ∷ []) (omega arith)
all_weighed (suc n) r one both =
    ap₂ (λ k l. k ∷ l)
    (weighed_more (stops_at (suc r)) n r one both ∙ now)
    (ap₂ ◌++◌ (map_from _ _ (suc (suc r)) n later) (ap (λ k. k ∷ []) (weighed_more passes n r one both ∙ omega arith)) ∙ all_weighed n (suc r) (3 * one + 2 * both) (one + 4 * both))
  where
    now : 2 * one * stop (stops_at (suc r)) n r + weighed (stops_at (suc r)) n (suc r) (3 * one + 2 * both) (one + 4 * both) ≡ 2 * one * 6 ^ n
    now = rw (eq-eqb (suc r) (suc r) refl, not_before (suc r) n (suc r) on_host (omega arith), not_before (suc r) n (suc r) on_both (omega arith)) (omega arith)

    later : (p : ℕ) → suc (suc r) ≤ p → weighed (stops_at p) (suc n) r one both ≡ weighed (stops_at p) n (suc r) (3 * one + 2 * both) (one + 4 * both)
    later p h = weighed_more (stops_at p) n r one both ∙ rw (ne_eqb (suc r) p (λ q. omega arith)) (omega arith)

pub figures_counted : (n : ℕ) → figures n ≡ counted n 1 0
unfolding figures holder
figures_counted n = ap₂ ◌++◌ (map_from _ _ 1 n (λ p h. run (stops_at p))) (ap (λ k. k ∷ []) (run passes)) ∙ all_weighed n 0 1 0
  where
    run : (test : Option Ending → Bool) → count (λ l. test (ending_of l)) (sequences n) ≡ weighed test n 0 1 0
    run test = by_run test n 0 (start (single 1)) [] (past (sequence_plan []) {cs = []} here) ∙ omega arith

sum_counted : (n one both : ℕ) → sum (counted n one both) ≡ (one + both) * 6 ^ n
sum_counted zero one both = omega arith
sum_counted (suc n) one both = rw (sum_counted n (3 * one + 2 * both) (one + 4 * both), pow-suc 6 n) (omega arith)

pub each_counted : EachCounted
each_counted n = (length_sequences n, rw (figures_counted n, sum_counted n 1 0) (omega arith))

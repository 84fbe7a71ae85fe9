-- The cases: the trial, computed over their tables, settles each row and gives its answer.
use mathlib.Core.Path.{◌≡◌, refl, sym}
use Prim.Native.Nat.{ℕ, zero, suc, ◌<◌}
use native.Mathlib.Omega.{arith}
use mathlib.Core.Bool.{Bool, true, false, true≢false, ◌&&◌}
use mathlib.Core.List.{List, [], ◌∷◌, map}
use Rattle.model.specs.Lists.{sum_before}
use Rattle.model.specs.Sides.{card}
use Rattle.model.specs.Records.{write, covers}
use Rattle.model.specs.Blocks.{done, fixed, ◌⨾◌}
use Rattle.model.specs.Runs.{here, onward}
use Rattle.model.specs.Judging.{at_end, passing, leaving, itself, always_writes}
use Rattle.model.specs.Cases.{Case, every, ◌on◌, twelve, AllAnswer, StopsFirstAt2, nearly, fixed_counts, single, MetInside, steps, MetTogether, unfilled}
use Rattle.model.specs.Claims.{ClaimCases}
use Rattle.model.specs.Inner.Holders.{holder}
use Rattle.model.proofs.Numbering.{span_within}
use Rattle.model.proofs.Written.{always_written}
use Rattle.model.proofs.Booleans.{and_out}
use Rattle.model.proofs.Bits.{equal}
use Rattle.model.proofs.Trial.{has, has_all, unmet, lower, tried, settles, tried_answers}

abbrev all_settle : List Case → Bool
all_settle [] = true
all_settle (row ∷ rows) = settles row.plan && all_settle rows

all_answer : (rows : List Case) → all_settle rows ≡ true → map (λ (row : Case). tried row.plan) rows ≡ map (λ (row : Case). row.answer) rows → AllAnswer rows
all_answer [] s e = tt
all_answer (row ∷ rows) s e =
    let p = and_out (settles row.plan) (all_settle rows) s in
    let q : tried row.plan ≡ row.answer = cc in
    (rw q at (tried_answers row.plan p.0), all_answer rows p.1 (cc))

stops_first : StopsFirstAt2
unfolding covers sum_before
stops_first cs = (_, record { run = onward (onward here refl) refl; last = refl })

covered : (c : ℕ) → c < 1 → covers (single 1) (write on card) c ≡ true
unfolding covers sum_before
covered zero h = refl
covered (suc c) h = absurd (omega arith)

met_inside : MetInside
unfolding covers sum_before
met_inside = (
  record { once = refl; permitted = refl; written = (λ m c i. (always_written (single 1) card c (fixed 0 1 (write on card ⨾ done) done)).0 (rw (covered c (span_within (single 1) 0 c i))), tt) },
  λ r. true≢false (sym (r.written.0 refl 0 refl (false ∷ []) [] [] (leaving at_end))),
)

together : (c : ℕ) → c < 4 → always_writes (single 4) card c (every 2 0 4 write card ⨾ every 2 1 4 write card ⨾ done) ≡ true
unfolding covers sum_before
together zero h = refl
together (suc zero) h = refl
together (suc (suc zero)) h = refl
together (suc (suc (suc zero))) h = refl
together (suc (suc (suc (suc c)))) h = absurd (omega arith)

met_together : MetTogether
unfolding covers sum_before
met_together = (
  record { once = refl; permitted = refl; written = (λ m c i. (always_written (single 4) card c (every 2 0 4 write card ⨾ every 2 1 4 write card ⨾ done)).0 (together c (span_within (single 4) 0 c i)), tt) },
  λ r. true≢false (sym (r.written.0 refl 1 refl [] [] (every 2 0 4 write card ∷ []) (passing itself at_end))),
)

pub cases : ClaimCases
unfolding has has_all unmet lower equal covers sum_before holder
cases = (all_answer twelve refl refl, stops_first, all_answer nearly refl refl, all_answer fixed_counts refl refl, met_inside, all_answer steps refl refl, met_together, all_answer unfilled refl refl)

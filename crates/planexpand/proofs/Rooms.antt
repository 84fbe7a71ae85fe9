-- The output has room for every expansion: 17 is never the answer, and what is written is the expansion's file.
use mathlib.Core.Path.{◌≡◌, refl, sym, ap, ◌∙◌}
use mathlib.Core.Bool.{false, cond}
use mathlib.Core.List.{List, [], ◌++◌, append_assoc, append-nil}
use Prim.Native.Nat.{ℕ, ◌≤◌}
use native.Mathlib.Omega.{arith}
use lib.Dec.{ltb}
use lib.ListN.{length, take, drop, length-append}
use lib.Seq.{take_at}
use borrow.Author.Tests.{le-ltb}
use Rattle.input.specs.Counts.{IsPrefixLen}
use Rattle.model.specs.Verdicts.{Verdict, Accepted, accepted, where_accepted}
use Rattle.std.specs.Prelude.{Ok, Err}
use Rattle.std.specs.Result.{result_unwrap_or}
use Rattle.model.specs.Blocks.{size}
use Rattle.model.specs.Rows.{Row, answer_of}
use Rattle.format.specs.Plans.{declared_plan_of}
use Rattle.format.proofs.Walking.{opened_facts}
use Rattle.model.proofs.Rows.{passed, unheld}
use Rattle.reading.proofs.Tables.{arrays_counted}
use Rattle.files.proofs.RoundTrip.{plain_length}
use Rattle.judge.specs.Judged.{judge_rows, judged}
use Rattle.files.specs.Expansions.{expansion_of, expansion_file}
use Rattle.expand.specs.Expanded.{expansion_rows, expand_answer, expanded, length_answer, length_of_expansion}
use Rattle.expand.proofs.Laws.Answers.{accepted_file, both_passed}

module _ (f : List ℕ) where
  -- an expansion has at most 1,024 records and at most 32 arrays
  short : Accepted ≡ judged f → size (expansion_of f).body ≤ 1024 → length (expansion_file f) ≤ 8266
  unfolding declared_plan_of
  short e few = omega (arith, plain_length (expansion_of f), arrays_counted f, (opened_facts f (accepted_file f e).opened).bounds.header.arrays)

  abbrev rows : List Row
  rows = judge_rows f ++ expansion_rows f

  module _ (out : List ℕ) (room : 8266 ≤ length out) where
    fits : Accepted ≡ answer_of rows → ltb (length out) (length (expansion_file f)) ≡ false
    unfolding judged
    fits e =
        let p = passed (judge_rows f) _ e in
        le-ltb (length out) (length (expansion_file f)) (omega (arith, short p.0 (both_passed f p.1).0))

    pub roomy : expand_answer f out ≡ length_answer f
    unfolding expand_answer length_answer
    roomy = simp (append_assoc, append-nil) at (unheld rows [] (ltb (length out) (length (expansion_file f))) 17 0 fits)

-- a length where an answer accepts, else 0
where_length : (v : Verdict) (n : ℕ) → result_unwrap_or (where_accepted v n) 0 ≡ cond (accepted v) n 0
where_length (Ok _) n = refl
where_length (Err e) n = refl

-- so many bytes of the output are written, by the answer
module _ (f out : List ℕ) where
  abbrev shown : Verdict → List ℕ
  shown v = cond (accepted v) (expansion_file f) []

  record Writes (v : Verdict) : Type 0 where
    counts : IsPrefixLen (cond (accepted v) (length (expansion_file f)) 0) (cond (accepted v) (expansion_file f ++ drop (length (expansion_file f)) out) out)
    shows : take (cond (accepted v) (length (expansion_file f)) 0) (cond (accepted v) (expansion_file f ++ drop (length (expansion_file f)) out) out) ≡ shown v

  writes : (v : Verdict) → Writes v
  writes (Ok _) =
      let e : take (length (expansion_file f)) (expansion_file f ++ drop (length (expansion_file f)) out) ≡ expansion_file f = take_at (expansion_file f) _ _ refl in
      record { counts = (simp length-append (omega arith), ap length (sym e)); shows = e }
  writes (Err e) = record { counts = (omega arith, refl); shows = refl }

  pub written_out : 8266 ≤ length out → (n : ℕ) → n ≡ result_unwrap_or (length_of_expansion f) 0 → IsPrefixLen n (expanded f out) × (take n (expanded f out) ≡ shown (expand_answer f out))
  unfolding expanded length_of_expansion
  written_out room n e =
      let w = writes (expand_answer f out) in
      let size : n ≡ cond (accepted (expand_answer f out)) (length (expansion_file f)) 0 = e ∙ (where_length (length_answer f) (length (expansion_file f)) ∙ ap (λ v. cond (accepted v) (length (expansion_file f)) 0) (sym (roomy f out room))) in
      rw size (w.counts, w.shows)

-- How long an output the expansion needs: the judge's refusals, 16, 26, or the length of its file.
use mathlib.Core.Path.{◌≡◌, refl}
use mathlib.Core.List.{List}
use Prim.Native.Nat.{ℕ}
use lib.ListN.{length}
use Rattle.std.specs.Prelude.{Ok, Err}
use Rattle.model.specs.declared.Fault.{Fault}
use Rattle.model.specs.Verdicts.{Accepted}
use Rattle.model.specs.Rows.{answer_of}
use Rattle.model.proofs.Rows.{stop, pass}
use Rattle.model.proofs.Verdicts.{faulty, faulty_where, found_where}
use Rattle.judge.specs.Judged.{judge_rows, judged}
use Rattle.files.specs.Expansions.{expansion_file}
use Rattle.expand.specs.Expanded.{expansion_rows, length_answer, length_of_expansion}

module _ (f : List ℕ) where
  pub no_judgement : (e : Fault) → Err e ≡ judged f → Err e ≡ length_of_expansion f
  unfolding judged length_answer length_of_expansion
  no_judgement e h = faulty_where _ _ _ (stop (judge_rows f) _ _ (faulty refl) h)

  module _ (accepted : Accepted ≡ judged f) where
    pub no_file : (e : Fault) → Err e ≡ answer_of (expansion_rows f) → Err e ≡ length_of_expansion f
    unfolding judged length_answer length_of_expansion
    no_file e h = faulty_where _ _ _ (pass (judge_rows f) _ _ accepted h)

    pub file_length : Accepted ≡ answer_of (expansion_rows f) → (n : ℕ) → n ≡ length (expansion_file f) → Ok n ≡ length_of_expansion f
    unfolding judged length_answer length_of_expansion
    file_length h n m = found_where _ _ _ (pass (judge_rows f) _ _ accepted h) m

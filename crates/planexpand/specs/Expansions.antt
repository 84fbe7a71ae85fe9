-- What planexpand writes (document 01, 'Judging and expanding').
use Rattle.std.specs.Prelude.{ℕ, ◌≡◌, cond, List, [], take}
use Rattle.input.specs.Counts.{IsPrefixLen}
use Rattle.model.specs.Verdicts.{accepted, values_of}
use Rattle.format.specs.Opening.{opened, kind_of_opened}
use Rattle.files.specs.Expansions.{expansion_file}
use Rattle.expand.specs.Expanded.{expand_answer, expanded, length_answer}
use Rattle.planexpand.specs.declared.Expansion.{Expansion}

-- of a plan file f, with the output before and after
pub record ExpansionOf (f before after : List ℕ) (e : Expansion) : Type 0 where
  -- "kind (0 if not opened)"
  pub kind : e.kind ≡ kind_of_opened (opened f)
  -- the expander's answer, of which a stop is none
  pub values : e.values ≡ values_of 0 (expand_answer f before)
  -- number 17 is never the answer: the output has room for every expansion
  pub roomy : expand_answer f before ≡ length_answer f
  -- the output is the expander's, and so many bytes of it are written: the expansion's file, at a refusal nothing
  pub output : after ≡ expanded f before
  pub size : IsPrefixLen e.size after
  pub writes : take e.size after ≡ cond (accepted (expand_answer f before)) (expansion_file f) []

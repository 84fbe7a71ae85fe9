-- What is proved of the sheets, besides the contract of `sheet`.
use Rattle.std.specs.Prelude.{ℕ, ◌^◌, ◌≡◌, List, [], ◌∷◌, length}
use Rattle.std.proofs.Math.Option.{some}
use Rattle.model.specs.Lists.{sum}
use Rattle.model.specs.Records.{Action}
use Rattle.model.specs.Runs.{Config, Ending, Ends}
use Rattle.sheet.specs.Sheets.{sequences, sequence_plan, ending_of, figures}

-- CLAIM (proofs/Examples, `sheet_0`): "For length n from 0": the empty sequence passes
abbrev pub Sheet0 : Type 0
Sheet0 = figures 0 ≡ 1 ∷ []

-- CLAIM (proofs/Examples, `sheet_1`): "For n = 1: 2, 4."
abbrev pub Sheet1 : Type 0
Sheet1 = figures 1 ≡ 2 ∷ 4 ∷ []

-- CLAIM (proofs/Examples, `sheet_2`): "For n = 2: 12, 6, 18."
abbrev pub Sheet2 : Type 0
Sheet2 = figures 2 ≡ 12 ∷ 6 ∷ 18 ∷ []

-- the run of a sequence ends by the definition of a run, and so only in this way (model, `Endings`), as it is counted
pub record EndsSo (l : List Action) : Type 0 where
  pub last : Config
  pub ending : Ending
  pub ends : Ends (sequence_plan l) [] last ending
  pub counted : ending_of l ≡ some ending

-- CLAIM (proofs/Endings, `ends_so`): "Each figure equals the number of sequences that the definition of a run puts there."
abbrev pub AllEndSo : Type 0
AllEndSo = (l : List Action) → EndsSo l

-- CLAIM (proofs/Counting, `each_counted`): "the 6^n sequences": there are so many, and each is counted in one figure
abbrev pub EachCounted : Type 0
EachCounted = (n : ℕ) → (length (sequences n) ≡ 6 ^ n) × (sum (figures n) ≡ 6 ^ n)

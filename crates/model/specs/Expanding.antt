-- The expansion of a declared plan (document 01, 'Judging and expanding').
use Rattle.std.specs.Prelude.{ℕ}
use mathlib.Core.List.{List, [], ◌∷◌, map, foldr}
use Rattle.model.specs.Records.{Verb, need, mark, Action, whole_of}
use Rattle.model.specs.Blocks.{Block, act, branch, loop, fixed, ◌then◌, numbered, ◌⨾◌, Plan}
use Rattle.model.specs.Judging.{Mode, R, W, RW, Declaration, Pass, DeclaredPlan, pass_of}

-- "R gives need; W gives mark; RW gives need, mark"
abbrev pub verbs_of : Mode → List Verb
verbs_of R = need ∷ []
verbs_of W = mark ∷ []
verbs_of RW = need ∷ (mark ∷ [])

-- the records that a declaration gives
abbrev pub inserted : Declaration → List Action
inserted d = map (λ v. whole_of v d.side d.array) (verbs_of d.mode)

-- these records, and then the rest
abbrev pub given : Declaration → Block Action → Block Action
given d rest = foldr ◌⨾◌ rest (inserted d)

-- "body 0 with each call replaced by the pass's declarations in order .. and then its other records"
abbrev pub expand : List Pass → Block ℕ → Block Action
expand passes Block.done = Block.done
expand passes (act r b t) = foldr given ((pass_of passes b).body then expand passes t) (pass_of passes b).declarations
expand passes (branch r x y t) = branch r (expand passes x) (expand passes y) (expand passes t)
expand passes (loop r x t) = loop r (expand passes x) (expand passes t)
expand passes (fixed r n x t) = fixed r n (expand passes x) (expand passes t)

-- "The expansion has the same arrays and one body"
abbrev pub expansion : DeclaredPlan → Plan
expansion plan = record { layout = plan.layout; body = numbered 0 (expand plan.passes plan.body0) }

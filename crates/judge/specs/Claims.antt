-- What is proved of the judge's rows, besides the contract of `judge`.
use Rattle.std.specs.Prelude.{ℕ, ◌+◌, ◌≡◌, ◌↔◌, Bool, true, false, List}
use Rattle.model.specs.Verdicts.{Accepted, Refused}
use Rattle.model.specs.Lists.{any}
use Rattle.model.specs.Sides.{span_of, in_span}
use Rattle.model.specs.Records.{Action}
use Rattle.model.specs.Rows.{answer_of}
use Rattle.model.specs.Judging.{W, Way, Itself, writes_cell, Accepts}
use Rattle.reading.specs.Bytes.{is_declared, layout_of, first_record, fields_at}
use Rattle.format.specs.Opening.{opening}
use Rattle.format.specs.Plans.{declared_plan_of, declaration_of, pass_at}
use Rattle.judge.specs.Judged.{w_rows, judged}

-- CLAIM (proofs/Rules, `accepted_rules`): the judge accepts exactly the files that open as declared plans whose passes all keep the rules
abbrev pub ClaimAccepts : Type 0
ClaimAccepts = (f : List ℕ) → (judged f ≡ Accepted) ↔ ((opening f ≡ Accepted) × (is_declared f ≡ true) × Accepts (declared_plan_of f))

-- CLAIM (proofs/Rules, `fifteen`): "15 a W unmet (place: its declaration)", of declaration i of pass b: the row holds exactly if the
-- declaration is a W and some way through the pass leaves a cell of its array unwritten on its side
abbrev pub Claim15 : Type 0
Claim15 = (f : List ℕ) (b i : ℕ) →
    let r = first_record f b + i in
    let d = declaration_of (fields_at f r) in
    (answer_of (w_rows f b i) ≡ Refused 15 r)
    ↔ ((d.mode ≡ W)
    × (c : ℕ) × (in_span (span_of (layout_of f) d.array) c ≡ true)
    × (cs : List Bool) × (ds : List Bool) × (w : List Action) × Way Itself (pass_at f b).body cs ds w
    × (any (writes_cell (layout_of f) d.side c) w ≡ false))

-- The bytes are a front with nothing behind it.
use Rattle.std.proofs.Common.{◌≡◌, ◌∙◌, ap}
use Rattle.check_bytes.specs.Checks.{onto, sums_of}
use Rattle.check_bytes.proofs.Joins.{alike, nothing_behind}
use Rattle.check_bytes.proofs.check_sums.Goals as goal

pub returns : goal.returns
returns c =
    let e : c.joined_sums.result ≡ sums_of c.args.s.now = c.joined_sums.ensures ∙ (ap (onto c.args.s.now) (alike 0 0 c.default.ensures.0 c.default.ensures.1) ∙ nothing_behind _) in
    record { plain = ap (λ r. r.plain) e; weighted = ap (λ r. r.weighted) e }

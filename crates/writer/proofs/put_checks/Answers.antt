-- `writer::put_checks` writes the check bytes behind the bytes that they are of.
use Rattle.writer.proofs.Over.{over_checks}
use Rattle.writer.proofs.put_checks.Goals as goal

pub returns : goal.returns
returns c = over_checks _ _ _ _ _ c.requires c.check_sums-s.ensures.plain c.check_sums-s.ensures.weighted c.put_bytes.ensures

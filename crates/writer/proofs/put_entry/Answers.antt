-- `writer::put_entry` writes the entry of a plain plan's body.
use mathlib.Core.Path.{◌∙◌}
use native.Mathlib.Omega.{arith}
use Rattle.given.proofs.Records.{high_byte}
use Rattle.writer.proofs.put_entry.Goals as goal

pub returns : goal.returns
returns c = c.put_bytes.ensures ∙ rw (c.to_le_bytes.ensures, high_byte c.args.records (omega arith))

-- What was found of the four bytes.
use Rattle.std.proofs.Common.{◌∙◌, sym, arith}
use Rattle.frame.proofs.Frame.{header_stop, header_pass}
use Rattle.frame.proofs.header.Goals as goal

pub returns-then-not-header_fits : goal.returns-then-not-header_fits
returns-then-not-header_fits c = header_stop _ (omega arith) (sym (c.header_fits.ensures c.args.plan.now (c.byte.ensures, c.byte-2.ensures, c.byte-3.ensures, c.byte-4.ensures)) ∙ c.if-not-header_fits.true)

pub returns : goal.returns
returns c = header_pass _ (omega arith) (sym (c.header_fits.ensures c.args.plan.now (c.byte.ensures, c.byte-2.ensures, c.byte-3.ensures, c.byte-4.ensures)) ∙ c.if-not-header_fits.false)

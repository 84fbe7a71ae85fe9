-- `expand::file_length` is the length of the expansion's file.
use native.Mathlib.Omega.{arith}
use Rattle.writer.proofs.Expansions.{expansion_size}
use Rattle.writer.proofs.Files.{expansion_length}
use Rattle.expand.proofs.file_length.Goals as goal

pub returns : goal.returns
returns c = omega (arith, expansion_length _ c.requires.0, expansion_size _ c.requires.0, c.byte.ensures, c.requires.1)

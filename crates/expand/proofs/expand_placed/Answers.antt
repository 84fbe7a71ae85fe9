-- `expand::expand_placed` answers 16, 26, 17, or accepted with the expansion's file written.
use mathlib.Core.Path.{◌≡◌, refl, ◌∙◌}
use native.Mathlib.Omega.{arith}
use Rattle.model.proofs.Verdicts.{faulty, handed}
use Rattle.model.specs.Blocks.{size}
use Rattle.files.specs.Expansions.{expansion_of}
use Rattle.sizes.specs.Inner.Sizes.{DeclaredFile}
use Rattle.sizes.proofs.Body0.{end_read, body0_few}
use Rattle.writer.proofs.Expansions.{expansion_size, size_read_off}
use Rattle.expand.proofs.Laws.Answers.{accepted_file, both_passed, untested, too_short, expands}
use Rattle.expand.proofs.expand_placed.Goals as goal

pub expansion_size-records-requires : goal.expansion_size-records-requires
expansion_size-records-requires c =
    let file : DeclaredFile c.args.plan.now = accepted_file _ c.requires.0 in
    omega (arith, end_read _ file _ c.requires.1, body0_few _ file)

pub expansion_tests-requires : goal.expansion_tests-requires
expansion_tests-requires c =
    let file : DeclaredFile c.args.plan.now = accepted_file _ c.requires.0 in
    let counted : c.expansion_size-records.result ≡ size (expansion_of c.args.plan.now).body = c.expansion_size-records.ensures ∙ size_read_off _ file _ _ (end_read _ file _ c.requires.1) c.requires.2 in
    (file, c.requires.1, counted)

pub returns-in_err-expansion_tests : goal.returns-in_err-expansion_tests
returns-in_err-expansion_tests c =
    let w = untested c.args.plan.now c.args.out.now c.requires.0 _ (faulty refl) c.in_err-expansion_tests.ensures in
    record { answer = handed c.from_residual.ensures.1 ∙ w.0; output = w.1 }

pub file_length-requires : goal.file_length-requires
file_length-requires c =
    let file : DeclaredFile c.args.plan.now = accepted_file _ c.requires.0 in
    let counted : c.expansion_size-records.result ≡ size (expansion_of c.args.plan.now).body = c.expansion_size-records.ensures ∙ size_read_off _ file _ _ (end_read _ file _ c.requires.1) c.requires.2 in
    (file, counted, omega (arith, counted, (both_passed _ c.in_ok-expansion_tests.ensures).0))

pub returns-then-out-file_length : goal.returns-then-out-file_length
returns-then-out-file_length c =
    let w = too_short c.args.plan.now c.args.out.now c.requires.0 c.in_ok-expansion_tests.ensures (omega (arith, c.file_length.ensures)) in
    record { answer = w.0; output = w.1 }

pub invariant_of-put_file-clause-declared : goal.invariant_of-put_file-clause-declared
invariant_of-put_file-clause-declared c = accepted_file _ c.requires.0

pub put_file-requires : goal.put_file-requires
put_file-requires c =
    let file : DeclaredFile c.args.plan.now = accepted_file _ c.requires.0 in
    let counted : c.expansion_size-records.result ≡ size (expansion_of c.args.plan.now).body = c.expansion_size-records.ensures ∙ size_read_off _ file _ _ (end_read _ file _ c.requires.1) c.requires.2 in
    let n = counted in (n ∙ expansion_size _ file, omega (arith, n, (both_passed _ c.in_ok-expansion_tests.ensures).0), omega (arith, c.file_length.ensures))

pub returns : goal.returns
returns c =
    let w = expands c.args.plan.now c.args.out.now c.requires.0 c.in_ok-expansion_tests.ensures (omega (arith, c.file_length.ensures)) _ c.put_file.ensures in
    record { answer = w.0; output = w.1 }

-- Case 3 of document 01, byte for byte: it opens, it is that plan, and the plan's file is those bytes. The same of a plan with fixed loops
-- (document 02, request a), and one whose product passes 4,096; and of a plan whose array is scratch (request f), and one of length 0.
use mathlib.Core.Path.{◌≡◌, refl}
use mathlib.Core.List.{List, [], ◌∷◌}
use mathlib.Core.Bool.{true, false}
use Prim.Native.Nat.{ℕ}
use Rattle.model.specs.Lists.{sum_before}
use Rattle.model.specs.Verdicts.{Accepted, Refused}
use Rattle.model.specs.Sides.{host, card}
use Rattle.model.specs.Records.{read, write}
use Rattle.model.specs.Blocks.{Block, Plan}
use Rattle.model.specs.Rows.{answer_of, all_rows}
use Rattle.reading.specs.Bytes.{u16_at, table, length_at, scratch_at, entry_at, sizes_of, fields_at, first_arm, second_arm, turns_of, lengths_of, scratch_of}
use Rattle.sums.specs.Sums.{plain_sum, weighted_sum, check_bytes}
use Rattle.frame.specs.Frame.{header_fits, header_rows, checks_fit, tail_rows}
use Rattle.contents.specs.Contents.{array_rows, entry_rows, contents_rows, front_rows}
use Rattle.rules.specs.Rules.{fields_fit, allowed, deepest, record_rows}
use Rattle.records.specs.Records.{block_rows, body_rows}
use Rattle.format.specs.Opening.{open_rows, opening}
use Rattle.format.specs.Plans.{action_of, block_of, plan_of}
use Rattle.files.specs.Files.{file, plain_file}

-- "Case 3 is, in hexadecimal, 02 01 01 00 01 00 01 00 00 00 01 01 00 00 00 00 01 00 09 3B"
bytes : List ℕ
bytes = 0x02 ∷ 0x01 ∷ 0x01 ∷ 0x00 ∷ 0x01 ∷ 0x00 ∷ 0x01 ∷ 0x00 ∷ 0x00 ∷ 0x00 ∷ 0x01 ∷ 0x01 ∷ 0x00 ∷ 0x00 ∷ 0x00 ∷ 0x00 ∷ 0x01 ∷ 0x00 ∷ 0x09 ∷ 0x3B ∷ []

plan : Plan
plan = record { layout = record { lengths = 1 ∷ []; scratch = false ∷ [] }; body = Block.act 0 (record { verb = read; side = card; name = 0; step = 0; p = 0; q = 1 }) Block.done }

opens : opening bytes ≡ Accepted
unfolding bytes answer_of all_rows u16_at length_at table lengths_of entry_at sizes_of fields_at sum_before plain_sum weighted_sum header_fits header_rows array_rows entry_rows contents_rows checks_fit tail_rows fields_fit allowed first_arm second_arm turns_of deepest record_rows block_rows body_rows front_rows open_rows opening
opens = refl

is_plan : plan_of bytes ≡ plan
unfolding bytes plan u16_at length_at scratch_at table lengths_of scratch_of entry_at sizes_of fields_at sum_before first_arm second_arm action_of block_of plan_of
is_plan = refl

is_file : plain_file plan ≡ bytes
unfolding bytes plan table file check_bytes plain_sum weighted_sum
is_file = refl

-- 64 turns that hold n turns that write the one cell on the host; the check bytes
filling : ℕ → ℕ → ℕ → List ℕ
filling n c d =
    0x02 ∷ 0x01 ∷ 0x01 ∷ 0x00 ∷ 0x01 ∷ 0x00 ∷ 0x03 ∷ 0x00 ∷ 0x00 ∷ 0x00
    ∷ 0x09 ∷ 0x00 ∷ 0x00 ∷ 0x00 ∷ 0x02 ∷ 0x00 ∷ 0x40 ∷ 0x00
    ∷ 0x09 ∷ 0x00 ∷ 0x00 ∷ 0x00 ∷ 0x01 ∷ 0x00 ∷ n ∷ 0x00
    ∷ 0x02 ∷ 0x00 ∷ 0x00 ∷ 0x00 ∷ 0x00 ∷ 0x00 ∷ 0x01 ∷ 0x00
    ∷ c ∷ d ∷ []

fill : Plan
fill = record {
  layout = record { lengths = 1 ∷ []; scratch = false ∷ [] };
  body = Block.fixed 0 63 (Block.fixed 1 63 (Block.act 2 (record { verb = write; side = host; name = 0; step = 0; p = 0; q = 1 }) Block.done) Block.done) Block.done;
}

-- 64 × 64 is 4,096
fill_opens : opening (filling 0x40 0xA0 0x77) ≡ Accepted
unfolding filling answer_of all_rows u16_at length_at table lengths_of entry_at sizes_of fields_at sum_before plain_sum weighted_sum header_fits header_rows array_rows entry_rows contents_rows checks_fit tail_rows fields_fit allowed first_arm second_arm turns_of deepest record_rows block_rows body_rows front_rows open_rows opening
fill_opens = refl

fill_is_plan : plan_of (filling 0x40 0xA0 0x77) ≡ fill
unfolding filling fill u16_at length_at scratch_at table lengths_of scratch_of entry_at sizes_of fields_at sum_before first_arm second_arm action_of block_of plan_of
fill_is_plan = refl

fill_is_file : plain_file fill ≡ filling 0x40 0xA0 0x77
unfolding filling fill table file check_bytes plain_sum weighted_sum
fill_is_file = refl

-- 64 × 65 passes it, at record 1
fill_refused : opening (filling 0x41 0xA1 0x90) ≡ Refused 26 1
unfolding filling answer_of all_rows u16_at length_at table lengths_of entry_at sizes_of fields_at sum_before plain_sum weighted_sum header_fits header_rows array_rows entry_rows contents_rows checks_fit tail_rows fields_fit allowed first_arm second_arm turns_of deepest record_rows block_rows body_rows front_rows open_rows opening
fill_refused = refl

-- one array whose highest bit marks it scratch, of n cells, and a read of cell 0 on the host; the check bytes
unfilled : ℕ → ℕ → ℕ → List ℕ
unfilled n c d =
    0x02 ∷ 0x01 ∷ 0x01 ∷ 0x00 ∷ n ∷ 0x80 ∷ 0x01 ∷ 0x00 ∷ 0x00 ∷ 0x00
    ∷ 0x01 ∷ 0x00 ∷ 0x00 ∷ 0x00 ∷ 0x00 ∷ 0x00 ∷ 0x01 ∷ 0x00
    ∷ c ∷ d ∷ []

scratch_read : Plan
scratch_read = record {
  layout = record { lengths = 1 ∷ []; scratch = true ∷ [] };
  body = Block.act 0 (record { verb = read; side = host; name = 0; step = 0; p = 0; q = 1 }) Block.done;
}

unfilled_opens : opening (unfilled 0x01 0x88 0x3E) ≡ Accepted
unfolding unfilled answer_of all_rows u16_at length_at table lengths_of entry_at sizes_of fields_at sum_before plain_sum weighted_sum header_fits header_rows array_rows entry_rows contents_rows checks_fit tail_rows fields_fit allowed first_arm second_arm turns_of deepest record_rows block_rows body_rows front_rows open_rows opening
unfilled_opens = refl

unfilled_is_plan : plan_of (unfilled 0x01 0x88 0x3E) ≡ scratch_read
unfolding unfilled scratch_read u16_at length_at scratch_at table lengths_of scratch_of entry_at sizes_of fields_at sum_before first_arm second_arm action_of block_of plan_of
unfilled_is_plan = refl

unfilled_is_file : plain_file scratch_read ≡ unfilled 0x01 0x88 0x3E
unfolding unfilled scratch_read table file check_bytes plain_sum weighted_sum
unfilled_is_file = refl

-- "Number 4 reads the length without that bit.": 0x8000 is length 0
unfilled_refused : opening (unfilled 0x00 0x87 0x39) ≡ Refused 4 0
unfolding unfilled answer_of all_rows u16_at length_at table lengths_of entry_at sizes_of fields_at sum_before plain_sum weighted_sum header_fits header_rows array_rows entry_rows contents_rows checks_fit tail_rows fields_fit allowed first_arm second_arm turns_of deepest record_rows block_rows body_rows front_rows open_rows opening
unfilled_refused = refl

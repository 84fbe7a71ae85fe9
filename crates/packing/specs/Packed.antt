-- Answers packed into 64 bits, for callers in C and Rust.
use Rattle.std.specs.Prelude.{ℕ, ◌+◌, ◌*◌, ◌^◌, List, [], ◌∷◌, get_or, Result, Ok, Err}
use Rattle.model.specs.declared.Values.{Values}
use Rattle.model.specs.declared.Tally.{Tally}
use Rattle.model.specs.declared.Fault.{Fault}
use Rattle.model.specs.declared.Part.{Part}
use Rattle.model.specs.declared.End.{End}
use Rattle.model.specs.declared.Side.{Side}
use Rattle.model.specs.declared.Side.TheVariants.{Host, Card}
use Rattle.model.specs.Verdicts.{Verdict, values_of}

-- number in bits 0 to 15, place or record in 16 to 31, cell in 32 to 47, the file's kind (0 if it does not open) in 48 to 55
abbrev pub packed : ℕ → Values → ℕ
packed kind v = v.number + 2 ^ 16 * v.place + 2 ^ 32 * v.cell + 2 ^ 48 * kind

-- an answer about a file of this kind: "An answer is accepted, stopped with record and cell, or refused with number and place", a stop with
-- the number `stop`
unfoldable pub packed_answer : ℕ → ℕ → Verdict → ℕ
packed_answer kind stop v = packed kind (values_of stop v)

-- a part of the plan: number in bits 0 to 15, where it begins in the file in 16 to 31, how many bytes it has in 32 to 47; at a refusal the
-- number alone
unfoldable pub packed_part : Result Part Fault → ℕ
packed_part (Ok p) = packed 0 (record { number = 0; place = p.from; cell = p.size })
packed_part (Err e) = (values_of 0 (Err e)).number

-- the length of an expansion's file: number in bits 0 to 15, the length in 16 to 47, at a refusal the place there, the file's kind in 48 to
-- 55
unfoldable pub packed_length : ℕ → Result ℕ Fault → ℕ
packed_length kind (Ok bytes) = 2 ^ 16 * bytes + 2 ^ 48 * kind
packed_length kind (Err e) = let v = values_of 0 (Err e) in v.number + 2 ^ 16 * v.place + 2 ^ 48 * kind

-- a view of a memory: number in bits 0 to 15, the side in 16 to 31, "Side 0 is the host, side 1 the card."; at a refusal the number alone
unfoldable pub packed_view : Result Side Fault → ℕ
packed_view (Ok Host) = 0
packed_view (Ok Card) = 2 ^ 16
packed_view (Err e) = (values_of 0 (Err e)).number

-- a lent tally of three numbers: reads, writes, moved
abbrev pub tally_of : List ℕ → Tally
tally_of t = record { reads = get_or t 0 0; writes = get_or t 1 0; moved = get_or t 2 0 }

-- the five figures of a run that is done: choices used, host flags, card flags, arrays current on the host, on the card; else as they were
unfoldable pub figures_of : Result End Fault → List ℕ → List ℕ
figures_of (Ok e) before = e.used ∷ e.host_flags ∷ e.card_flags ∷ e.on_host ∷ e.on_card ∷ []
figures_of (Err e) before = before

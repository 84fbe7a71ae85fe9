-- No promise of an entry point rests on this text: what a run answers by its verdict.
use Rattle.std.specs.Prelude.{ℕ, Bool, Result}
use Rattle.model.specs.declared.Fault.{Fault}
use Rattle.model.specs.Verdicts.{Verdict, where_accepted}
use Rattle.model.specs.Lists.{how_many}
use Rattle.memories.specs.Flags.{mask}
use Rattle.model.specs.declared.End.{End}

-- what a run answers that has ended with a verdict, where the flags of n arrays are those
abbrev pub end_with : ℕ → (ℕ → Bool) → (ℕ → Bool) → ℕ → Verdict → Result End Fault
end_with n on_host on_card used v = where_accepted v (record {
  used = used;
  host_flags = mask n on_host;
  card_flags = mask n on_card;
  on_host = how_many on_host n;
  on_card = how_many on_card n;
})

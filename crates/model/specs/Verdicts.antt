-- The answers of document 01, by their numbers and values ('Numbers by the place where each is checked').
use Rattle.std.specs.Prelude.{ℕ, Bool, is_ok, Result, Ok, Err}
use Rattle.model.specs.declared.Values.{Values}
use Rattle.model.specs.declared.Fault.{Fault}
use Rattle.model.specs.declared.Record.{Record}
use Rattle.model.specs.declared.Cell.{Cell}

-- "accepted", or why not: "stopped with record and cell, or refused with number and place"
abbrev pub Verdict : Type 0
Verdict = Result Unit Fault

abbrev pub Accepted : Verdict
Accepted = Ok tt

abbrev pub Refused : ℕ → ℕ → Verdict
Refused number place = Err (Fault.Refused number place)

abbrev pub Stopped : Record → Cell → Verdict
Stopped r c = Err (Fault.Stopped r c)

-- "stopped with record and cell", by their numbers
abbrev pub stopped_at : ℕ → ℕ → Verdict
stopped_at r c = Stopped (record { 0 = r }) (record { 0 = c })

-- whether an answer is "accepted"
abbrev pub accepted : Verdict → Bool
accepted v = is_ok v

-- what is found where an answer accepts
abbrev pub where_accepted : {A : Type 0} → Verdict → A → Result A Fault
where_accepted (Ok u) x = Ok x
where_accepted (Err e) x = Err e

-- "accepted, stopped with record and cell, or refused with number and place": 0 is accepted, `stop` is 18 of the check and 21 of the run
abbrev pub values_of : ℕ → Verdict → Values
values_of stop (Ok u) = record { number = 0; place = 0; cell = 0 }
values_of stop (Err (Fault.Stopped r c)) = record { number = stop; place = r.0; cell = c.0 }
values_of stop (Err (Fault.Refused number place)) = record { number = number; place = place; cell = 0 }

use mathlib.Core.Path.{◌≡◌, ap, ◌∙◌}
use mathlib.Core.List.{List}
use Prim.Native.Nat.{ℕ, ◌+◌, ◌≤◌, ◌<◌}
use native.Mathlib.Omega.{arith}
use Rattle.reading.specs.Bytes.{body_count, first_record, byte_at, u16_at, entry_at}
use Rattle.model.proofs.Verdicts.{faulty_where, found_where}
use Rattle.contents.proofs.Entries.{BodyEntry, body_stop, body_pass}
use Rattle.contents.proofs.body_entry.Goals as goal

pub number_at-n-requires : goal.number_at-n-requires
unfolding entry_at
number_at-n-requires c = omega arith

-- the entry that was read at its place
read : {f : List ℕ} {b at n d last records : ℕ} → b < body_count f → at ≡ entry_at f b → n ≡ u16_at f at → d ≡ byte_at f (at + 2) → last ≡ byte_at f (at + 3) → records ≡ first_record f b → records ≤ 1024 → BodyEntry f b n d last records
read {f} one at size declared ends before low =
    record { one = one; size = size ∙ ap (u16_at f) at; declared = declared ∙ ap (λ (i : ℕ). byte_at f (i + 2)) at; ends = ends ∙ ap (λ (i : ℕ). byte_at f (i + 3)) at; before = before; low = low }

pub returns-then-fails-clause-entry : goal.returns-then-fails-clause-entry
returns-then-fails-clause-entry c =
    let e = read c.requires.0 c.entry_at-at.ensures.place c.number_at-n.ensures c.byte-d.ensures c.byte-zero.ensures c.requires.3 c.requires.4 in
    faulty_where _ _ _ (body_stop _ _ _ _ _ _ e c.if-fails.true)

pub returns : goal.returns
returns c =
    let e = read c.requires.0 c.entry_at-at.ensures.place c.number_at-n.ensures c.byte-d.ensures c.byte-zero.ensures c.requires.3 c.requires.4 in
    let p = body_pass _ _ _ _ _ _ e c.if-fails.false in
    record { entry = found_where _ _ _ p.0 (rw (e.size, e.declared)); low = p.1 }

-- The body view: its answer after an opening, and the bytes of a body.
use mathlib.Core.Path.{◌≡◌, ap, ◌∙◌}
use Prim.Native.Nat.{ℕ, suc, ◌+◌, ◌*◌, ◌-◌, ◌≤◌, ◌<◌}
use native.Mathlib.Numerals.{add-one}
use native.Mathlib.Omega.{arith}
use lib.ListN.{length, take, drop, get_or}
use borrow.Author.Tests.{le-leb, lt-leb}
use Rattle.std.specs.Prelude.{Ok, Err, [], List}
use Rattle.model.specs.declared.Fault.{Fault}
use Rattle.model.specs.declared.Part.{Part}
use Rattle.model.specs.Verdicts.{Verdict, Accepted, Refused}
use Rattle.model.proofs.Verdicts.{faulty_where, found_where, where_accepts, where_faulty}
use Rattle.contents.specs.declared.Opened.{Opened}
use Rattle.reading.specs.Bytes.{array_count, entry_at, body_count, records_in, sizes_of, first_record, record_count, bodies_at}
use Rattle.format.specs.Opening.{open_rows, opening}
use Rattle.contents.specs.Found.{found}
use Rattle.format.specs.Views.{body_view_answer, body_at, body_view, body_part}
use Rattle.model.proofs.Rows.{holds, skips, empty, stop, pass}
use Rattle.reading.proofs.Tables.{first_rises, next_record}
use Rattle.format.proofs.Walking.{opened_facts, body_start}

entry_low : (f : List ℕ) → bodies_at f ≤ 4 + 2 * array_count f + 4 * body_count f
unfolding entry_at
entry_low f = omega arith

module _ (f : List ℕ) (b : ℕ) where
  pub view_unopened : (v : Verdict) → (v ≡ Accepted → ⊥) → v ≡ opening f → v ≡ body_view_answer f b
  unfolding body_view_answer opening
  view_unopened v nay e = stop (open_rows f) _ v nay e

  pub view_none : Accepted ≡ opening f → body_count f ≤ b → Refused 25 0 ≡ body_view_answer f b
  unfolding body_view_answer opening
  view_none e h = pass (open_rows f) _ _ e (holds _ _ _ _ (le-leb _ _ h))

  pub view_some : Accepted ≡ opening f → b < body_count f → Accepted ≡ body_view_answer f b
  unfolding body_view_answer opening
  view_some e h = pass (open_rows f) _ _ e (skips _ _ _ _ _ (lt-leb _ _ h) empty)

  -- where the bytes of body b stand: from record `first` up to record `next`, after `offset` bytes
  pub record Range (offset first next : ℕ) : Type 0 where
    pub below : b < 32
    pub start : offset + 8 * first ≡ body_at f b
    pub size : 8 * next ≡ 8 * first + 8 * records_in f b
    pub inside : offset + 8 * next ≤ length f
    pub few : next ≤ 1024
    pub low : offset ≤ 256

  module _ (e : Accepted ≡ opening f) (h : b < body_count f) where
    pub body_range : (o : Opened) → o ≡ found f → Range o.offset (get_or o.body_starts b 0) (get_or o.body_starts (b + 1) 0)
    body_range o eo =
        let w = (opened_facts f e).bounds in
        let s = body_start f o eo w b (omega arith) in
        let n : get_or o.body_starts (b + 1) 0 ≡ first_record f b + records_in f b = body_start f o eo w (b + 1) (omega arith) ∙ rw add-one (next_record f b h) in
        let at : o.offset ≡ bodies_at f = ap (λ x. x.offset) eo in
        let offset_low : bodies_at f ≤ 4 + 2 * array_count f + 4 * body_count f = entry_low f in
        let l : first_record f b + records_in f b ≤ record_count f = rw (← next_record f b h) (first_rises (sizes_of f) (suc b) (body_count f) (omega arith)) in
        record {
          below = omega (arith, w.header.bodies);
          start = rw (s, at);
          size = omega arith;
          inside = omega (arith, w.long);
          few = omega (arith, w.records);
          low = omega (arith, ap (λ x. x.offset) eo, offset_low, w.header.arrays, w.header.bodies);
        }

    pub part_there : (offset first next : ℕ) → Range offset first next → Ok (record { from = offset + 8 * first; size = 8 * (next - first) }) ≡ body_part f b
    unfolding body_part
    part_there offset first next r =
        let n : 8 * (next - first) ≡ 8 * records_in f b = omega (arith, r.size) in
        found_where _ _ _ (view_some e h) (rw (n, r.start))

  -- a refused part
  pub part_none : (e : Fault) → Err e ≡ body_view_answer f b → Err e ≡ body_part f b
  unfolding body_part
  part_none e h = faulty_where _ _ _ h

  -- and the other way round: the answer and the view, by the part
  module _ (e : Fault) (h : Err e ≡ body_part f b) where
    pub part_refuses : Err e ≡ body_view_answer f b
    unfolding body_part
    part_refuses = where_faulty _ _ _ h

    pub none_viewed : [] ≡ body_view f b
    unfolding body_view
    none_viewed = rw (← part_refuses)

  module _ (p : Part) (h : Ok p ≡ body_part f b) where
    pub part_accepts : Accepted ≡ body_view_answer f b
    unfolding body_part
    part_accepts = (where_accepts _ _ _ h).0

    pub part_begins : p.from ≡ body_at f b
    unfolding body_part
    part_begins = ap (λ x. x.from) (where_accepts _ _ _ h).1

    pub part_viewed : take p.size (drop p.from f) ≡ body_view f b
    unfolding body_part body_view
    part_viewed = rw ((where_accepts _ _ _ h).1, ← part_accepts)

use Rattle.std.proofs.Common.{rules, ◌≡◌, ◌∙◌, ap, sym, length, ◌+◌, ◌-◌, arith, length-append, length-drop, length-take-le}
use lib.ListN.{get_or, get_or-append, drop}
use lib.Seq.{get_or-append-add, get_or-drop}
use Rattle.steps.proofs.put_starts.Goals as goal

pub slice_bounds-copy_from_slice-end-2 : goal.slice_bounds-copy_from_slice-end-2
slice_bounds-copy_from_slice-end-2 c = sym (length-take-le 33 c.args.room.now (omega (arith, c.requires)))

pub copy_from_slice-requires : goal.copy_from_slice-requires
copy_from_slice-requires c = length-take-le 33 c.args.room.now (omega (arith, c.requires)) ∙ search rules

pub returns : goal.returns
returns c =
    let room = c.args.room.now in
    let front = c.copy_from_slice.new.self in
    let many : length front ≡ 33 = c.copy_from_slice.ensures.len ∙ length-take-le 33 room (omega (arith, c.requires)) in
    record {
      size = omega (arith, length-append front (drop 33 room), length-drop 33 room, many, c.requires);
      front = λ a h. get_or-append front (drop 33 room) 0 a (omega (arith, many)) ∙ ap (λ l. get_or l a 0) c.copy_from_slice.ensures.after;
      behind = λ a h.
          let i : length front + (a - 33) ≡ a = omega (arith, many) in
          let j : 33 + (a - 33) ≡ a = omega arith in
          rw i at (get_or-append-add front (drop 33 room) (a - 33) 0) ∙ rw j at (get_or-drop 33 room (a - 33) 0);
    }

-- Where the machine stands at the start.
use mathlib.Core.Path.{◌≡◌, refl, sym, ap, ◌∙◌}
use mathlib.Core.Bool.{true, cond, not}
use mathlib.Core.List.{List}
use Prim.Native.Nat.{ℕ, zero, suc, ◌≤◌, ◌<◌}
use native.Mathlib.Omega.{arith}
use lib.ListN.{length, get_or, replicate}
use Rattle.model.specs.Sides.{never, at, cell_count, is_scratch}
use Rattle.model.specs.Inner.Holders.{array_of}
use Rattle.model.specs.Runs.{begin, here}
use Rattle.model.proofs.Numbering.{scratch_own}
use Rattle.model.proofs.Stamps.{past}
use Rattle.model.proofs.Through.{then_done}
use Rattle.reading.specs.Bytes.{is_plain, layout_of, array_count, scratch_at, entry_at, record_count, lengths_of}
use Rattle.contents.specs.declared.Opened.{Opened}
use Rattle.contents.specs.Found.{found}
use Rattle.format.specs.Plans.{plan_of}
use Rattle.format.specs.Inner.Walks.{Plain, Starts, block_between}
use Rattle.reading.proofs.Tables.{arrays_counted, scratch_is}
use Rattle.format.proofs.Walking.{opens, found_is, array_start, Facts, opened_facts}
use Rattle.format.proofs.Trees.{plain_good, plain_body}
use Rattle.standing.specs.Choices.{choices_of}
use Rattle.memories.specs.Memories.{number_of}
use Rattle.memories.specs.Flags.{mask}
use Rattle.memories.specs.Inner.Ranges.{Changed}
use Rattle.places.specs.Inner.Places.{spot, started, begun_at, rest_of, left_of, Parts, Placed}
use Rattle.places.proofs.Places.{left_on}
use Rattle.places.proofs.Weights.{light}
use Rattle.standing.specs.Inner.Standing.{runner, Reaches}
use Rattle.steps.specs.Inner.Beginning.{Fronted, Counted, first_host, first_machine, Ready}
use Rattle.memories.proofs.Masks.{mask_same, none}
use Rattle.memories.proofs.Cells.{each}
use Rattle.known.proofs.Sets.{start_known}

-- the start
module _ (f choices : List ℕ) (facts : Facts f) (kind : is_plain f ≡ true) where
  module _ (room : List ℕ) (size : length room ≡ 81) (fresh : (d : ℕ) → begun_at room d ≡ 0) where
    pub start_left : (plan_of f).body ≡ left_of f (spot (started (record_count f)) room)
    unfolding rest_of
    start_left = plain_body f facts ∙ sym (left_on f (spot (started (record_count f)) room) (fresh 0) 0 ∙ then_done (block_between f 0 (record_count f)))

    pub start_placed : Placed f (spot (started (record_count f)) room)
    unfolding Parts
    start_placed = record {
      size = size;
      here = record { around = 1; some = omega arith; good = plain_good f facts kind; order = omega arith; inside = omega arith };
      begun = rw (fresh 0) (λ z. absurd (omega arith));
      behind = tt;
      shallow = omega arith;
      fresh = λ d l. fresh d;
    }

  module _ (n : ℕ) (q : n ≡ cell_count (layout_of f)) (h c l own others latest : List ℕ)
      (rh : n ≤ length h) (rc : n ≤ length c) (rl : n ≤ length l)
      (on_host : Changed 1 0 n (first_host f) h own) (on_card : Changed 1 0 n (λ i. 18446744073709551615) c others) (on-latest : Changed 1 0 n (λ i. 0) l latest) where
    filled : (v : ℕ → ℕ) (a b : List ℕ) → Changed 1 0 n v a b → (i : ℕ) → i < cell_count (layout_of f) → get_or b i 0 ≡ v i
    filled v a b w i k = w.cell i ∙ rw (each 0 n i (omega arith) (omega arith))

    -- an array that is flagged on the host is current there
    flagged_current : (c : ℕ) → c < cell_count (layout_of f) → not (is_scratch (layout_of f) (array_of (layout_of f) c)) ≡ true → get_or own c 0 ≡ get_or latest c 0
    unfolding first_host
    flagged_current c i e =
        filled (first_host f) h own on_host c i
        ∙ (ap (λ b. number_of (cond (not b) (at 0) never)) (scratch_own (layout_of f) c i)
        ∙ (ap (λ b. number_of (cond b (at 0) never)) e
        ∙ sym (filled (λ i. 0) l latest on-latest c i)))

    module _ (flags : ℕ) (flagged : flags ≡ mask (array_count f) (λ a. not (scratch_at f a))) where
      host_flags : flags ≡ mask (length (lengths_of f)) (λ a. not (is_scratch (layout_of f) a))
      host_flags = rw (arrays_counted f) (flagged ∙ mask_same (array_count f) _ _ (λ a k. ap not (sym (scratch_is f a k))))

      pub reaches_start : (bodies : ℕ) → Plain f bodies → length choices ≤ 65536 → (room : List ℕ) → length room ≡ 81 → Starts f room → ((d : ℕ) → begun_at room d ≡ 0) →
          Reaches f choices (runner (first_machine (record_count f) flags bodies) room) own others latest (record { reads = 0; writes = 0; moved = 0 })
      unfolding plan_of first_host
      reaches_start bodies plain many room e starts fresh = record {
        config = begin (plan_of f) (choices_of choices);
        run = here;
        stands = record {
          plain = plain;
          many = many;
          starts = starts;
          placed = start_placed room e fresh;
          settles = λ z. refl;
          left = start_left room e fresh;
          used = omega arith;
          choices_left = refl;
          holds = record {
            own_room = omega (arith, on_host.size);
            others_room = omega (arith, on_card.size);
            latest_room = omega (arith, on-latest.size);
            own_held = filled (first_host f) h own on_host;
            others_held = filled (λ i. 18446744073709551615) c others on_card;
            latest_held = filled (λ i. 0) l latest on-latest;
            own_flags = host_flags;
            others_flags = sym (none (length (lengths_of f)));
            reads = refl;
            writes = refl;
            moved = refl;
            counted = refl;
            past = past (plan_of f) {cs = choices_of choices} here;
            knows = start_known (layout_of f) flags (λ a. not (is_scratch (layout_of f) a)) host_flags own others latest flagged_current;
          };
          few = omega (arith, light f facts.bounds.records _ (start_placed room e fresh));
          few_moved = omega arith;
        };
        ended = tt;
      }

-- a room of zeros
pub all_zero : (n i : ℕ) → get_or (replicate {A = ℕ} n 0) i 0 ≡ 0
all_zero zero i = refl
all_zero (suc n) zero = refl
all_zero (suc n) (suc i) = all_zero n i

-- what opening found in a file of which the run may begin
module _ (f : List ℕ) (o : Opened) (choices own others latest : List ℕ) (r : Ready f o choices own others latest) where
  pub ready_found : o ≡ found f
  ready_found = found_is f o r.found

  pub ready_facts : Facts f
  ready_facts = opened_facts f (opens f o r.found)

  pub ready_plain : (bodies : ℕ) → bodies ≡ o.offset → Plain f bodies
  ready_plain bodies e = record { opens = opens f o r.found; plain = r.plain; place = e ∙ ap (λ (x : Opened). x.offset) ready_found }

  ready_starts : Starts f o.array_starts
  ready_starts = record { first = array_start f o ready_found ready_facts.bounds }

  pub ready_front : (before room : List ℕ) → Fronted o.array_starts before room → Starts f room
  ready_front before room w = record { first = λ a h. w.front a (omega (arith, ready_facts.bounds.header.arrays.1)) ∙ ready_starts.first a h }

  pub ready_arrays : (arrays : ℕ) → arrays ≡ o.arrays → Counted f arrays
  unfolding entry_at
  ready_arrays arrays e =
      let n : arrays ≡ array_count f = e ∙ ap (λ (x : Opened). x.arrays) ready_found in
      record { count = n; few = omega (arith, ready_facts.bounds.header.arrays.1); inside = omega (arith, ready_facts.bounds.long) }

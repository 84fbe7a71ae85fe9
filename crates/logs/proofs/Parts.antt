-- A log that is read part by part: one entry more, the entries of a part, and the end.
use Prim.Native.Nat.{ℕ, suc, ◌+◌, ◌-◌, ◌/◌, ◌≤◌, ◌<◌}
use mathlib.Core.Path.{◌≡◌, subst, refl, sym, ap, ◌∙◌}
use Rattle.std.specs.Prelude.{Result, Ok, Err, Option, None, Some, is_ok}
use Rattle.places.specs.Inner.Places.{spot}
use mathlib.Core.Bool.{true, false, true≢false}
use mathlib.Core.List.{List, [], ◌∷◌, ◌++◌, append_assoc, append-nil}
use native.Mathlib.Numerals.{add-one}
use native.Mathlib.Omega.{arith}
use lib.ListN.{length, get_or, take, drop, length-append, take-append-drop, get_or-append}
use lib.Seq.{length-take-le, take_all, take-suc, take-append-le, take_at, get_or_at, get_or-take, take-take}
use Rattle.model.specs.Verdicts.{Accepted, Refused}
use Rattle.model.specs.Blocks.{Plan}
use Rattle.model.specs.Runs.{proper, Step, stopped}
use Rattle.format.specs.Plans.{plan_of}
use Rattle.logs.specs.declared.Logged.{Logged}
use Rattle.logs.specs.declared.Refusal.{Refusal}
use Rattle.places.specs.declared.Place.{Place}
use Rattle.logs.specs.declared.Stage.{Stage}
use Rattle.logs.specs.Logs.{Begins, Finding, off, stuck, Off, Stuck, Finds}
use Rattle.logs.specs.Logged.{entries_of, answer_to, unplaced, Says}
use Rattle.logs.proofs.Following.{count_is}
use Rattle.logs.specs.Inner.Following.{Trail, trail, stood, moved_to, number_of, staged, held_at, held_after, At, Comes, Followed, Awaits, Waits, HaveLed, Underway, LedOn}

-- a refusal goes by the entries up to the refused one
module _ (plan : Plan) (l k : List ℕ) (i : ℕ) (same : take (suc i) l ≡ take (suc i) k) (inside : i < length k) where
  before_same : take i l ≡ take i k
  before_same = sym (take-take i (suc i) l (omega arith)) ∙ ap (take i) same ∙ take-take i (suc i) k (omega arith)

  entry_same : get_or l i 0 ≡ get_or k i 0
  entry_same = sym (get_or-take (suc i) l i 0 (omega arith)) ∙ ap (λ (j : List ℕ). get_or j i 0) same ∙ get_or-take (suc i) k i 0 (omega arith)

  begins_same : Begins proper plan (take i l) → Begins proper plan (take i k)
  begins_same b = record { choices = b.choices; config = b.config; logs = rw before_same at b.logs }

  off_same : Off plan l i → Off plan k i
  off_same w = record { inside = inside; before = begins_same w.before; nowhere = λ b. w.nowhere (rw same b) }

  stuck_same : Stuck plan l i → Stuck plan k i
  unfolding begins_same
  stuck_same w = record { inside = inside; before = begins_same w.before; cell = w.cell; stops = w.stops ∙ ap (λ n. Step.ends (stopped n w.cell)) entry_same }

-- the same of the answer
pub says_same : (f l k : List ℕ) (number i : ℕ) → take (suc i) l ≡ take (suc i) k → i < length k →
    Says f l (record { verdict = Refused number 0; entry = i }) → Says f k (record { verdict = Refused number 0; entry = i })
says_same f l k number i same inside w = go w.finding w.finds w.says
  where
    answer : Logged
    answer = record { verdict = Refused number 0; entry = i }

    go : (x : Finding) → Finds (plan_of f) l x → answer ≡ answer_to x → Says f k answer
    go Finding.accepted p q = let z : ◌≡◌ {A = ℕ} 0 1 = cc (ap (λ (a : Logged). a.verdict) q) in absurd (omega arith)
    go (off j) p q = let e : j ≡ i = sym (ap (λ (a : Logged). a.entry) q) in record { finding = off j; finds = off_same (plan_of f) l k j (rw e same) (rw e inside) p; says = q }
    go (stuck j) p q = let e : j ≡ i = sym (ap (λ (a : Logged). a.entry) q) in record { finding = stuck j; finds = stuck_same (plan_of f) l k j (rw e same) (rw e inside) p; says = q }

-- a refusal has a number, and a log that has no place is refused
some_number : (e : Refusal) → number_of e ≡ 0 → ⊥
some_number Refusal.NoRun z = absurd (omega arith)
some_number Refusal.Stops z = absurd (omega arith)

pub refused_at : (r : Result Place Refusal) (e : Refusal) → r ≡ Err e → stood r ≡ 0 → ⊥
refused_at r e q z = some_number e (sym (ap stood q) ∙ z)

pub no_place : (r : Result Place Refusal) → ((p : Place) → r ≡ Ok p → ⊥) → stood r ≡ 0 → ⊥
no_place (Ok p) nay z = nay p refl
no_place (Err e) nay z = some_number e z

pub none_waits : (w : Option ℕ) → ((n : ℕ) → w ≡ Some n → ⊥) → w ≡ None
none_waits None nay = refl
none_waits (Some n) nay = absurd (nay n refl)

pub goes_there : (r : Result Place Refusal) → is_ok r ≡ true → stood r ≡ 0
goes_there (Ok p) h = refl
goes_there (Err e) h = absurd (true≢false (sym h))

pub goes_nowhere : (r : Result Place Refusal) → is_ok r ≡ false → stood r ≡ 0 → ⊥
goes_nowhere (Ok p) h z = true≢false h
goes_nowhere (Err e) h z = some_number e z

module _ (f : List ℕ) (bodies : ℕ) where
  module _ (t : Stage) (p : Place) (goes : t.place ≡ Ok p) (next : ℕ) where
    going : stood t.place ≡ 0
    going = ap stood goes

    there : trail t.place t.room ≡ moved_to (spot p t.room)
    there = ap (λ (r : Result Place Refusal). trail r t.room) goes

    -- the entry that is read waits
    waits_now : (l : List ℕ) → Awaits (l ++ (next ∷ [])) (Some next)
    waits_now l = (omega (arith, length-append l (next ∷ [])), sym (get_or_at l next [] 0 (length (l ++ (next ∷ [])) - 1) (omega (arith, length-append l (next ∷ [])))))

    -- the first entry
    pub first_read : t.waiting ≡ None → (read : ℕ) → read ≡ t.read + 1 → LedOn f bodies (next ∷ []) t (record { place = t.place; waiting = Some next; read = read; cells = t.cells; room = t.room })
    first_read z read e = record {
      more = λ l w.
          let u = w.goes_on going in
          let none : length l ≡ 0 = subst (Awaits l) z u.last in
          let same : t.read - 1 ≡ read - 1 = omega (arith, u.count) in
          record {
            goes_on = λ _. record { count = omega (arith, length-append l (next ∷ []), u.count); last = waits_now l; stands = λ k. rw append_assoc (rw same at (u.stands (next ∷ k))) };
            ends = λ nay. absurd (nay going);
          };
      counts = omega arith;
    }

    -- the entry that waited comes next, and behind it the one that was read
    module _ (this : ℕ) (waited : t.waiting ≡ Some this) where
      awaits : (l : List ℕ) → Waits f l bodies t → Awaits l (Some this)
      awaits l u = subst (Awaits l) waited u.last

      pub comes : (l more : List ℕ) → Waits f l bodies t → Comes f (l ++ (next ∷ more)) bodies (moved_to (spot p t.room)) t.cells (t.read - 1) this next
      comes l more u =
          let some_read : 0 < t.read = omega (arith, u.count, (awaits l u).0) in
          record {
            stands = subst (λ (m : Trail). At f (l ++ (next ∷ more)) bodies m t.cells (t.read - 1)) there (u.stands (next ∷ more));
            inside = omega (arith, length-append l (next ∷ more), u.count);
            this_is = (awaits l u).1 ∙ ap (λ n. get_or l (n - 1) 0) (sym u.count) ∙ sym (get_or-append l (next ∷ more) 0 (t.read - 1) (omega (arith, u.count)));
            next_is = λ _. sym (get_or_at l next more 0 (t.read - 1 + 1) (omega (arith, u.count)));
          }

      module _ (n : Result Place Refusal) (room' cells' : List ℕ) (followed : (l : List ℕ) (i : ℕ) → Comes f l bodies (moved_to (spot p t.room)) t.cells i this next → Followed f l bodies (trail n room') cells' i) where
        -- it is followed, and the other waits
        pub followed_on : stood n ≡ 0 → (read : ℕ) → read ≡ t.read + 1 → LedOn f bodies (next ∷ []) t (record { place = n; waiting = Some next; read = read; cells = cells'; room = room' })
        followed_on z read e = record {
          more = λ l w.
              let u = w.goes_on going in
              let some_read : 0 < t.read = omega (arith, u.count, (awaits l u).0) in
              let same : t.read - 1 + 1 ≡ read - 1 = omega arith in
              record {
                goes_on = λ _. record {
                  count = omega (arith, length-append l (next ∷ []), u.count);
                  last = waits_now l;
                  stands = λ k. rw append_assoc (rw same at ((followed (l ++ (next ∷ k)) (t.read - 1) (comes l k u)).goes_on z));
                };
                ends = λ nay. absurd (nay z);
              };
          counts = omega arith;
        }

        -- it is refused
        pub refused_there : (stood n ≡ 0 → ⊥) → LedOn f bodies (next ∷ []) t (record { place = n; waiting = t.waiting; read = t.read; cells = cells'; room = room' })
        refused_there nay = record {
          more = λ l w.
              let u = w.goes_on going in
              record {
                goes_on = λ z. absurd (nay z);
                ends = λ _. record {
                  some_read = omega (arith, u.count, (awaits l u).0);
                  early = omega (arith, length-append l (next ∷ []), u.count);
                  says = (followed (l ++ (next ∷ [])) (t.read - 1) (comes l [] u)).ends nay;
                };
              };
          counts = omega arith;
        }

  -- either, where the log goes on from a place
  pub led_after : (p : Place) (waiting : Option ℕ) (read : ℕ) (cells room : List ℕ) (next this : ℕ) → waiting ≡ Some this →
      (n : Result Place Refusal) (room' cells' : List ℕ) →
      ((l : List ℕ) (i : ℕ) → Comes f l bodies (moved_to (spot p room)) cells i this next → Followed f l bodies (trail n room') cells' i) →
      LedOn f bodies (next ∷ []) (staged (held_at p waiting read) cells room) (staged (held_after n waiting read next) cells' room')
  led_after p waiting read cells room next this waited (Ok q) room' cells' followed = followed_on (staged (held_at p waiting read) cells room) p refl next this waited (Ok q) room' cells' followed refl (read + 1) refl
  led_after p waiting read cells room next this waited (Err e) room' cells' followed = refused_there (staged (held_at p waiting read) cells room) p refl next this waited (Err e) room' cells' followed (some_number e)

  -- and which of the two it is
  pub on_after : (t : Stage) (n : Result Place Refusal) (q : Place) → n ≡ Ok q → (waiting : Option ℕ) (read next : ℕ) (cells room : List ℕ) →
      LedOn f bodies (next ∷ []) t (staged (held_after n waiting read next) cells room) → LedOn f bodies (next ∷ []) t (staged (held_at q (Some next) (read + 1)) cells room)
  on_after t n q is waiting read next cells room = subst (λ (r : Result Place Refusal). LedOn f bodies (next ∷ []) t (staged (held_after r waiting read next) cells room)) is

  pub off_after : (t : Stage) (n : Result Place Refusal) (e : Refusal) → n ≡ Err e → (waiting : Option ℕ) (read next : ℕ) (cells room : List ℕ) →
      LedOn f bodies (next ∷ []) t (staged (held_after n waiting read next) cells room) → LedOn f bodies (next ∷ []) t (record { place = Err e; waiting = waiting; read = read; cells = cells; room = room })
  off_after t n e is waiting read next cells room = subst (λ (r : Result Place Refusal). LedOn f bodies (next ∷ []) t (staged (held_after r waiting read next) cells room)) is

  -- the entries of a part, of which i are read
  module _ (part : List ℕ) (t : Stage) where
    pub none_read : LedOn f bodies (take 0 part) t t
    none_read = record { more = λ l w. rw append-nil w; counts = omega arith }

    module _ (i : ℕ) (n : Stage) (led : LedOn f bodies (take i part) t n) where
      pub still_underway : Underway f bodies t → Underway f bodies n
      still_underway w = record { entries = w.entries ++ take i part; holds = led.more w.entries w.holds }

      pub read_so_far : i ≤ length part → n.read ≤ t.read + i
      read_so_far inside = omega (arith, led.counts, length-take-le i part inside)

      pub one_more : i < length part → (next : ℕ) → next ≡ get_or part i 0 → (r : Stage) → LedOn f bodies (next ∷ []) n r →
          LedOn f bodies (take (i + 1) part) t r
      one_more inside next e r w =
          let firsts : take (i + 1) part ≡ take i part ++ (next ∷ []) = ap (λ k. take k part) (add-one i) ∙ take-suc part i 0 inside ∙ ap (λ (k : ℕ). take i part ++ (k ∷ [])) (sym e) in
          record {
            more = λ l u. rw (firsts, ← append_assoc) (w.more (l ++ take i part) (led.more l u));
            counts = omega (arith, w.counts, led.counts, length-take-le i part (omega arith), length-take-le (i + 1) part (omega arith));
          }

      pub all_read : length part ≤ i → LedOn f bodies part t n
      all_read over = rw (take_all i part over) at led

      -- one is refused, and those behind it change nothing
      pub refused_early : i ≤ length part → (stood n.place ≡ 0 → ⊥) → LedOn f bodies part t n
      refused_early inside nay = record {
        more = λ l u.
            let w = (led.more l u).ends nay in
            let shorter : length (l ++ take i part) ≡ length l + i = length-append l (take i part) ∙ ap (λ k. length l + k) (length-take-le i part inside) in
            let longer = length-append l part in
            let last : n.read - 1 < length (l ++ part) = omega (arith, w.early, w.some_read) in
            record {
              goes_on = λ z. absurd (nay z);
              ends = λ _. record {
                some_read = w.some_read;
                early = omega (arith, w.early);
                says = says_same f (l ++ take i part) (l ++ part) (stood n.place) (n.read - 1) (same l (suc (n.read - 1)) (omega (arith, w.early, w.some_read))) last w.says;
              };
            };
        counts = omega (arith, led.counts, length-take-le i part inside);
      }
        where
          same : (l : List ℕ) (k : ℕ) → k ≤ length (l ++ take i part) → take k (l ++ take i part) ≡ take k (l ++ part)
          same l k h = sym (take-append-le k (l ++ take i part) (drop i part) h) ∙ rw append_assoc (ap (λ (j : List ℕ). take k (l ++ j)) (take-append-drop i part))

  -- a part has led on
  pub led_there : (part : List ℕ) (t r : Stage) → LedOn f bodies (entries_of part) t r → Underway f bodies t → Underway f bodies r × (r.read ≤ t.read + length part / 2)
  led_there part t r led w = (record { entries = w.entries ++ entries_of part; holds = led.more w.entries w.holds }, omega (arith, led.counts, count_is part))

  -- before the first entry
  pub holds_none : (t : Stage) → stood t.place ≡ 0 → t.waiting ≡ None → t.read ≡ 0 → ((l : List ℕ) → At f l bodies (trail t.place t.room) t.cells 0) → HaveLed f [] bodies t
  holds_none t z none e first = record {
    goes_on = λ _. record { count = e; last = subst (Awaits []) (sym none) refl; stands = λ more. rw (ap (λ n. n - 1) e) (first more) };
    ends = λ nay. absurd (nay z);
  }

  -- the end: one entry more has been read
  module _ (l part : List ℕ) (one : length part ≡ 1) (n : Stage) (w : HaveLed f (l ++ part) bodies n) where
    count : length (l ++ part) ≡ length l + 1
    count = length-append l part ∙ ap (λ k. length l + k) one

    pub said_refused : (stood n.place ≡ 0 → ⊥) → Says f l (record { verdict = Refused (stood n.place) 0; entry = n.read - 1 })
    said_refused nay =
        let u = w.ends nay in
        let inside : n.read - 1 < length l = omega (arith, u.early, u.some_read, count) in
        says_same f (l ++ part) l (stood n.place) (n.read - 1) (take-append-le (suc (n.read - 1)) l part inside) inside u.says

    pub said_accepted : stood n.place ≡ 0 → Says f l (unplaced Accepted)
    unfolding plan_of
    said_accepted z =
        let u = w.goes_on z in
        let a = u.stands [] in
        let all : take (n.read - 1) ((l ++ part) ++ []) ≡ l = rw append_assoc (take_at l (part ++ []) (n.read - 1) (omega (arith, u.count, count))) in
        record { finding = Finding.accepted; finds = record { choices = a.choices; config = a.config; logs = rw all at a.logs }; says = refl }

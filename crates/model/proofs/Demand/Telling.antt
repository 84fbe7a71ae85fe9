-- From what a run did, its records without their numbers, to the declarations that it made, with their needs and marks as executed.
use Prim.Native.Nat.{ℕ, suc, ◌+◌}
use mathlib.Core.Path.{◌≡◌, refl, ap, ap₂, sym, ◌∙◌}
use mathlib.Core.List.{List, [], ◌∷◌, ◌++◌, map}
use mathlib.Core.Bool.{Bool, true, false, cond, ◌&&◌, ◌||◌, and-false}
use native.Mathlib.Omega.{arith}
use lib.Dec.{eqb}
use lib.ListN.{length}
use Rattle.model.specs.Lists.{any, keep, chain, All}
use Rattle.model.specs.Sides.{Side, same_side}
use Rattle.model.specs.Records.{Action}
use Rattle.model.specs.Runs.{Event}
use Rattle.model.specs.Judging.{Mode, R, W, RW, R_or_RW, W_or_RW, Declaration}
use Rattle.model.specs.Expanding.{inserted}
use Rattle.model.specs.Demand.{Made, declares_write, declares_read, copies_to, events_of, moves_to, interval, MovesOnce}
use Rattle.model.proofs.Demand.Numbers.{unnumbered_event, unnumbered_events}
use Rattle.model.proofs.Demand.Stages.{declaration, Did, executed_as, executed}
use Rattle.model.proofs.Demand.Moves.{did_write, did_read, did_copy, copies, interval_from, CopiesOnce}

-- entry by entry the same declaration, and the same records but for their numbers
abbrev pub Alike : List Did → List Made → Type 0
Alike [] [] = Unit {0}
Alike [] (m ∷ made) = ⊥
Alike (d ∷ ds) [] = ⊥
Alike (d ∷ ds) (m ∷ made) = (m.declaration ≡ d.declaration) × (unnumbered_events m.events ≡ executed d) × Alike ds made

-- a list cut in two, as it is cut without its numbers
record Cut (xs ys l : List Event) : Type 0 where
  front : List Event
  back : List Event
  both : l ≡ front ++ back
  front_is : unnumbered_events front ≡ xs
  back_is : unnumbered_events back ≡ ys

cut : (xs ys l : List Event) → unnumbered_events l ≡ xs ++ ys → Cut xs ys l
cut [] ys l e = record { front = []; back = l; both = refl; front_is = refl; back_is = e }
cut (x ∷ xs) ys [] e = let z : ◌≡◌ {A = ℕ} 0 1 = cc in absurd (omega arith)
cut (x ∷ xs) ys (y ∷ l) e =
    let first : unnumbered_event y ≡ x = cc in
    let c = cut xs ys l (cc) in
    record { front = y ∷ c.front; back = c.back; both = ap (◌∷◌ y) c.both; front_is = ap₂ ◌∷◌ first c.front_is; back_is = c.back_is }

pub record Told (ds : List Did) (l : List Event) : Type 0 where
  pub made : List Made
  pub alike : Alike ds made
  pub all : l ≡ events_of made

pub tell : (ds : List Did) (l : List Event) → unnumbered_events l ≡ chain executed ds → Told ds l
tell [] [] e = record { made = []; alike = tt; all = refl }
tell [] (y ∷ l) e = let z : ◌≡◌ {A = ℕ} 0 1 = cc in absurd (omega arith)
tell (d ∷ ds) l e =
    let c = cut (executed d) (chain executed ds) l e in
    let t = tell ds c.back c.back_is in
    record {
      made = record { declaration = d.declaration; events = c.front } ∷ t.made;
      alike = (refl, c.front_is, t.alike);
      all = c.both ∙ ap (λ m. c.front ++ m) t.all;
    }

pub told_declarations : (ds : List Did) (made : List Made) → Alike ds made → map (λ (m : Made). m.declaration) made ≡ map (λ (d : Did). d.declaration) ds
told_declarations [] [] a = refl
told_declarations [] (m ∷ made) a = absurd a
told_declarations (d ∷ ds) [] a = absurd a
told_declarations (d ∷ ds) (m ∷ made) (e, q, a) = ap₂ ◌∷◌ e (told_declarations ds made a)

-- each gave its needs and marks
abbrev actions : List Event → List Action
actions l = map (λ (e : Event). e.action) l

actions_unnumbered : (l : List Event) → actions (unnumbered_events l) ≡ actions l
actions_unnumbered [] = refl
actions_unnumbered (e ∷ l) = ap (◌∷◌ e.action) (actions_unnumbered l)

executed_actions : (d : Did) → actions (executed d) ≡ inserted d.declaration
executed_actions d = go d.declaration.mode
  where
    go : (m : Mode) → actions (executed_as m d.declaration.side d.declaration.array d.copied) ≡ inserted (declaration m d.declaration.side d.declaration.array)
    go R = refl
    go W = refl
    go RW = refl

pub told_gave : (ds : List Did) (made : List Made) → Alike ds made → All (λ (m : Made). actions m.events ≡ inserted m.declaration) made
told_gave [] [] a = tt
told_gave [] (m ∷ made) a = absurd a
told_gave (d ∷ ds) [] a = absurd a
told_gave (d ∷ ds) (m ∷ made) (e, q, a) =
    (sym (actions_unnumbered m.events) ∙ (ap actions q ∙ (executed_actions d ∙ ap inserted (sym e))), told_gave ds made a)

-- what follows a declaration made
record Split (m : Made) (after : List Made) (ds : List Did) : Type 0 where
  before : List Did
  did : Did
  rest : List Did
  all : ds ≡ before ++ (did ∷ rest)
  same : m.declaration ≡ did.declaration
  alike : Alike rest after

split : (before after : List Made) (m : Made) (ds : List Did) → Alike ds (before ++ (m ∷ after)) → Split m after ds
split [] after m [] a = absurd a
split [] after m (d ∷ ds) (e, q, a) = record { before = []; did = d; rest = ds; all = refl; same = e; alike = a }
split (x ∷ before) after m [] a = absurd a
split (x ∷ before) after m (d ∷ ds) (e, q, a) =
    let s = split before after m ds a in
    record { before = d ∷ s.before; did = s.did; rest = s.rest; all = ap (◌∷◌ d) s.all; same = s.same; alike = s.alike }

module _ (a : ℕ) where
  -- whether an executed record moves the array to side t
  abbrev moves_there : Side → Event → Bool
  moves_there t e = eqb e.action.name a && copies_to t e.deed

  keep_unnumbered : (t : Side) (l : List Event) → length (keep (moves_there t) (unnumbered_events l)) ≡ length (keep (moves_there t) l)
  keep_unnumbered t [] = refl
  keep_unnumbered t (e ∷ l) = go (moves_there t e) (keep_unnumbered t l)
    where
      go : (b : Bool) → length (keep (moves_there t) (unnumbered_events l)) ≡ length (keep (moves_there t) l) →
          length (cond b (unnumbered_event e ∷ keep (moves_there t) (unnumbered_events l)) (keep (moves_there t) (unnumbered_events l))) ≡ length (cond b (e ∷ keep (moves_there t) l) (keep (moves_there t) l))
      go true i = ap suc i
      go false i = i

  keep_append : (t : Side) (l m : List Event) → length (keep (moves_there t) (l ++ m)) ≡ length (keep (moves_there t) l) + length (keep (moves_there t) m)
  keep_append t [] m = omega arith
  keep_append t (e ∷ l) m = go (moves_there t e) (keep_append t l m)
    where
      go : (b : Bool) → length (keep (moves_there t) (l ++ m)) ≡ length (keep (moves_there t) l) + length (keep (moves_there t) m) →
          length (cond b (e ∷ keep (moves_there t) (l ++ m)) (keep (moves_there t) (l ++ m))) ≡ length (cond b (e ∷ keep (moves_there t) l) (keep (moves_there t) l)) + length (keep (moves_there t) m)
      go true i = omega (arith, i)
      go false i = i

  one_copy : (t : Side) (d : Did) → length (keep (moves_there t) (executed d)) ≡ cond (did_copy a t d) 1 0
  one_copy t d = go d.declaration.mode d.copied
    where
      s : Side
      s = d.declaration.side

      n : ℕ
      n = d.declaration.array

      one : (b : Bool) (e : Event) → length (cond b (e ∷ []) []) ≡ cond b 1 0
      one true e = refl
      one false e = refl

      go : (m : Mode) (c : Bool) → length (keep (moves_there t) (executed_as m s n c)) ≡ cond (eqb n a && (c && same_side s t)) 1 0
      go R true = one (eqb n a && same_side s t) _
      go R false = one (eqb n a && false) _
      go W true = one (eqb n a && same_side s t) _
      go W false = one (eqb n a && false) _
      go RW true = rw (and-false (eqb n a)) (one (eqb n a && same_side s t) _)
      go RW false = rw (and-false (eqb n a))

  told_copies : (t : Side) (ds : List Did) (made : List Made) → Alike ds made → moves_to a t made ≡ copies a t ds
  told_copies t [] [] l = refl
  told_copies t [] (m ∷ made) l = absurd l
  told_copies t (d ∷ ds) [] l = absurd l
  told_copies t (d ∷ ds) (m ∷ made) (e, q, l) =
      keep_append t m.events (events_of made)
      ∙ (rw (sym (keep_unnumbered t m.events) ∙ (ap (λ x. length (keep (moves_there t) x)) q ∙ one_copy t d), told_copies t ds made l) (add (did_copy a t d) (copies a t ds)))
    where
      add : (b : Bool) (k : ℕ) → cond b 1 0 + k ≡ cond b (suc k) k
      add true k = omega arith
      add false k = omega arith

  told_interval : (ds : List Did) (made : List Made) → Alike ds made → Alike (interval_from a ds) (interval a made)
  told_interval [] [] l = tt
  told_interval [] (m ∷ made) l = absurd l
  told_interval (d ∷ ds) [] l = absurd l
  told_interval (d ∷ ds) (m ∷ made) (e, q, l) = rw same (go (did_write a d) (told_interval ds made l))
    where
      same : declares_write a m ≡ did_write a d
      same = ap (λ (x : Declaration). eqb x.array a && W_or_RW x.mode) e

      go : (b : Bool) → Alike (interval_from a ds) (interval a made) →
          Alike (cond b (d ∷ []) (d ∷ interval_from a ds)) (cond b (m ∷ []) (m ∷ interval a made))
      go true i = (e, q, tt)
      go false i = (e, q, i)

  -- the moves of the first interval
  pub told_moves : (t : Side) (ds : List Did) (made : List Made) → Alike ds made → moves_to a t (interval a made) ≡ copies a t (interval_from a ds)
  told_moves t ds made l = told_copies t (interval_from a ds) (interval a made) (told_interval ds made l)

  told_reads : (t : Side) (ds : List Did) (made : List Made) → Alike ds made → any (declares_read a t) made ≡ any (did_read a t) ds
  told_reads t [] [] l = refl
  told_reads t [] (m ∷ made) l = absurd l
  told_reads t (d ∷ ds) [] l = absurd l
  told_reads t (d ∷ ds) (m ∷ made) (e, q, l) = ap₂ ◌||◌ (ap (λ (x : Declaration). eqb x.array a && (R_or_RW x.mode && same_side x.side t)) e) (told_reads t ds made l)

  pub told_once : (w : Side) (ds : List Did) (made : List Made) → Alike ds made → CopiesOnce a w (interval_from a ds) → MovesOnce a w (interval a made)
  told_once w ds made l c t =
      let i = told_interval ds made l in
      told_moves t ds made l ∙ (c t ∙ rw (told_reads t (interval_from a ds) (interval a made) i))

  -- the interval after a declared write
  pub told_after : (ds : List Did) (made before after : List Made) (m : Made) → Alike ds made → made ≡ before ++ (m ∷ after) → declares_write a m ≡ true →
      ((earlier later : List Did) (d : Did) → ds ≡ earlier ++ (d ∷ later) → did_write a d ≡ true → CopiesOnce a d.declaration.side (interval_from a later)) →
      MovesOnce a m.declaration.side (interval a after)
  told_after ds made before after m l e w once =
      let s = split before after m ds (rw e at l) in
      let d = s.did in
      let wrote : did_write a d ≡ true = ap (λ (x : Declaration). eqb x.array a && W_or_RW x.mode) (sym s.same) ∙ w in
      rw s.same (told_once d.declaration.side s.rest after s.alike (once s.before s.rest d s.all wrote))

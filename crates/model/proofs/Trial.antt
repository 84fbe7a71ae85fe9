-- Small plans decided by trial: one cell followed through a block by lists of statuses, each free loop turned once, with a test that another turn would bring no status more, and each fixed loop turned as often as it says.
-- The cases pass the test; the check of a file does not use it.
use Prim.Native.Nat.{ℕ, zero, suc, ◌<◌}
use mathlib.Core.Path.{◌≡◌, refl, subst}
use mathlib.Core.Logic.{◌⊎◌, inl, inr}
use mathlib.Core.Bool.{Bool, true, false, cond, ◌&&◌, ◌||◌, true≢false, false≢true}
use mathlib.Core.List.{List, [], ◌∷◌, ◌++◌, map}
use mathlib.Core.Option.{Option, none, some}
use native.Mathlib.Omega.{arith}
use lib.Dec.{leb}
use borrow.Author.Tests.{leb-true, leb-false}
use Rattle.model.specs.Verdicts.{Verdict, Accepted}
use Rattle.model.specs.Sides.{Layout, cell_count}
use Rattle.model.specs.Records.{Action}
use Rattle.model.specs.Effects.{start}
use Rattle.model.specs.Blocks.{Block, done, act, branch, loop, fixed, Plan}
use Rattle.model.specs.Check.{Answers}
use Rattle.model.proofs.Booleans.{and_out, or_out}
use Rattle.model.proofs.Status.{Status, status_of, met_in, status_after, alike, alike_true}
use Rattle.model.proofs.Through.{Star, stay, more, Power, Goes, Stops, StopsAt}
use Rattle.model.proofs.Check.{Least, with_cell, Fits, fits_none, fits_cell, exact}

-- the entries of a list
module _ {A : Type 0} where
  abbrev Has : List A → A → Type 0
  Has [] v = ⊥
  Has (u ∷ l) v = (u ≡ v) ⊎ Has l v

  has_left : (l m : List A) (v : A) → Has l v → Has (l ++ m) v
  has_left [] m v h = absurd h
  has_left (u ∷ l) m v (inl e) = inl e
  has_left (u ∷ l) m v (inr h) = inr (has_left l m v h)

  has_right : (l m : List A) (v : A) → Has m v → Has (l ++ m) v
  has_right [] m v h = h
  has_right (u ∷ l) m v h = inr (has_right l m v h)

  has_out : (l m : List A) (v : A) → Has (l ++ m) v → Has l v ⊎ Has m v
  has_out [] m v h = inr h
  has_out (u ∷ l) m v (inl e) = inl (inl e)
  has_out (u ∷ l) m v (inr h) = elim (has_out l m v h) [ inl k ↦ inl (inr k) | inr k ↦ inr k ]

module _ (f : Status → Status) where
  map_in : (l : List Status) (u : Status) → Has l u → Has (map f l) (f u)
  map_in [] u h = absurd h
  map_in (w ∷ l) u (inl e) = inl (λ i. f (e i))
  map_in (w ∷ l) u (inr h) = inr (map_in l u h)

  map_out : (l : List Status) (v : Status) → Has (map f l) v → (u : Status) × Has l u × (f u ≡ v)
  map_out [] v h = absurd h
  map_out (w ∷ l) v (inl e) = (w, inl refl, e)
  map_out (w ∷ l) v (inr h) = let p = map_out l v h in (p.0, inr p.1, p.2)

-- whether a list has a status, and whether it has all of another
unfoldable pub has : List Status → Status → Bool
has [] v = false
has (u ∷ l) v = alike u v || has l v

has_true : (l : List Status) (v : Status) → has l v ≡ true → Has l v
unfolding has
has_true [] v e = absurd (false≢true e)
has_true (u ∷ l) v e = elim (or_out (alike u v) (has l v) e) [ inl p ↦ inl (alike_true u v p) | inr p ↦ inr (has_true l v p) ]

unfoldable pub has_all : List Status → List Status → Bool
has_all m [] = true
has_all m (v ∷ l) = has m v && has_all m l

has_all_true : (m l : List Status) → has_all m l ≡ true → (v : Status) → Has l v → Has m v
unfolding has_all
has_all_true m [] e v h = absurd h
has_all_true m (w ∷ l) e v (inl p) = subst (Has m) p (has_true m w (and_out (has m w) (has_all m l) e).0)
has_all_true m (w ∷ l) e v (inr h) = has_all_true m l (and_out (has m w) (has_all m l) e).1 v h

-- what each step keeps, any number of steps keep
star_keeps : {R : Status → Status → Type 0} (P : Status → Type 0) → ((u w : Status) → P u → R u w → P w) → {u v : Status} → Star R u v → P u → P v
star_keeps P k stay p = p
star_keeps P k {u} (more {w = w} r s) p = star_keeps P k s (k u w p r)

-- n turns, where f is what one turn makes of a list: the list after them, what all of them give, and whether all pass a test
abbrev pub turned : (List Status → List Status) → ℕ → List Status → List Status
turned f zero l = l
turned f (suc n) l = turned f n (f l)

module _ (f : List Status → List Status) where
  abbrev pub all_turns : (List Status → List ℕ) → ℕ → List Status → List ℕ
  all_turns g zero l = []
  all_turns g (suc n) l = g l ++ all_turns g n (f l)

  abbrev pub each_turn : (List Status → Bool) → ℕ → List Status → Bool
  each_turn t zero l = true
  each_turn t (suc n) l = t l && each_turn t n (f l)

  all_turns_in : (g : List Status → List ℕ) (n m : ℕ) (l : List Status) (r : ℕ) → m < n → Has (g (turned f m l)) r → Has (all_turns g n l) r
  all_turns_in g zero m l r h p = absurd (omega arith)
  all_turns_in g (suc n) zero l r h p = has_left (g l) _ r p
  all_turns_in g (suc n) (suc m) l r h p = has_right (g l) _ r (all_turns_in g n m (f l) r (omega arith) p)

  all_turns_out : (g : List Status → List ℕ) (n : ℕ) (l : List Status) (r : ℕ) → Has (all_turns g n l) r → (m : ℕ) × (m < n) × Has (g (turned f m l)) r
  all_turns_out g zero l r h = absurd h
  all_turns_out g (suc n) l r h = elim (has_out (g l) _ r h) [ inl p ↦ (0, omega arith, p) | inr p ↦ let (m, i, q) = all_turns_out g n (f l) r p in (suc m, omega arith, q) ]

  each_turn_out : (t : List Status → Bool) (n : ℕ) (l : List Status) → each_turn t n l ≡ true → (m : ℕ) → m < n → t (turned f m l) ≡ true
  each_turn_out t zero l e m h = absurd (omega arith)
  each_turn_out t (suc n) l e zero h = (and_out (t l) _ e).0
  each_turn_out t (suc n) l e (suc m) h = each_turn_out t n (f l) (and_out (t l) _ e).1 m (omega arith)

module _ (layout : Layout) (c : ℕ) where
  -- the statuses in which the cell can leave a block, from those of a list
  abbrev pub exits : Block Action → List Status → List Status
  exits done l = l
  exits (act k x b) l = exits b (map (status_after layout c x) l)
  exits (branch k x y b) l = exits b (exits x l ++ exits y l)
  exits (loop k x b) l = exits b (l ++ exits x l)
  exits (fixed k n x b) l = exits b (turned (exits x) (suc n) l)

  -- whether no free loop can bring more
  abbrev pub settled : Block Action → List Status → Bool
  settled done l = true
  settled (act k x b) l = settled b (map (status_after layout c x) l)
  settled (branch k x y b) l = settled x l && (settled y l && settled b (exits x l ++ exits y l))
  settled (loop k x b) l = let m = l ++ exits x l in settled x m && (has_all m (exits x m) && settled b m)
  settled (fixed k n x b) l = each_turn (exits x) (settled x) (suc n) l && settled b (turned (exits x) (suc n) l)

  -- the records at which it can stop
  unfoldable pub unmet : ℕ → Action → List Status → List ℕ
  unmet k x [] = []
  unmet k x (u ∷ l) = cond (met_in layout c x u) (unmet k x l) (k ∷ unmet k x l)

  abbrev pub stops : Block Action → List Status → List ℕ
  stops done l = []
  stops (act k x b) l = unmet k x l ++ stops b (map (status_after layout c x) l)
  stops (branch k x y b) l = (stops x l ++ stops y l) ++ stops b (exits x l ++ exits y l)
  stops (loop k x b) l = let m = l ++ exits x l in stops x m ++ stops b m
  stops (fixed k n x b) l = all_turns (exits x) (stops x) (suc n) l ++ stops b (turned (exits x) (suc n) l)

  -- each is reached from the list
  abbrev From : {X : Type 0} → List Status → (Status → X → Type 0) → X → Type 0
  From l R v = (u : Status) × Has l u × R u v

  -- after one turn of a free loop or none
  once_from : (x : Block Action) (l : List Status) (w : Status) → (Has (exits x l) w → From l (Goes layout c x) w) → Has (l ++ exits x l) w → From l (Star (Goes layout c x)) w
  once_from x l w f h = elim (has_out l (exits x l) w h) [ inl e ↦ (w, e, stay) | inr e ↦ let q = f e in (q.0, q.1, more q.2 stay) ]

  -- after n turns of a fixed one
  turned_from : (x : Block Action) (n : ℕ) (l : List Status) (w : Status) → ((l : List Status) (w : Status) → Has (exits x l) w → From l (Goes layout c x) w) →
      Has (turned (exits x) n l) w → From l (Power (Goes layout c x) n) w
  turned_from x zero l w f h = (w, h, refl)
  turned_from x (suc n) l w f h = let p = turned_from x n (exits x l) w f h in let q = f l p.0 p.1 in (q.0, q.1, (p.0, q.2, p.2))

  exits_from : (b : Block Action) (l : List Status) (v : Status) → Has (exits b l) v → From l (Goes layout c b) v
  exits_from done l v h = (v, h, refl)
  exits_from (act k x b) l v h = let p = exits_from b _ v h in let q = map_out (status_after layout c x) l p.0 p.1 in (q.0, q.1, rw q.2 p.2)
  exits_from (branch k x y b) l v h = let p = exits_from b (exits x l ++ exits y l) v h in elim (has_out (exits x l) (exits y l) p.0 p.1) [
    | inl e ↦ let q = exits_from x l p.0 e in (q.0, q.1, (p.0, inl q.2, p.2))
    | inr e ↦ let q = exits_from y l p.0 e in (q.0, q.1, (p.0, inr q.2, p.2))
  ]
  exits_from (loop k x b) l v h = let p = exits_from b (l ++ exits x l) v h in let q = once_from x l p.0 (exits_from x l p.0) p.1 in (q.0, q.1, (p.0, q.2, p.2))
  exits_from (fixed k n x b) l v h =
      let p = exits_from b (turned (exits x) (suc n) l) v h in
      let q = turned_from x (suc n) l p.0 (exits_from x) p.1 in
      (q.0, q.1, (p.0, q.2, p.2))

  -- and nothing is missing where all is settled
  turned_all : (x : Block Action) (n : ℕ) (l : List Status) →
      ((l : List Status) → settled x l ≡ true → (u v : Status) → Has l u → Goes layout c x u v → Has (exits x l) v) →
      ((m : ℕ) → m < n → settled x (turned (exits x) m l) ≡ true) → (u v : Status) → Has l u → Power (Goes layout c x) n u v → Has (turned (exits x) n l) v
  turned_all x zero l f s u v h p = subst (Has l) p h
  turned_all x (suc n) l f s u v h (w, g, p) = turned_all x n (exits x l) f (λ m i. s (suc m) (omega arith)) w v (f l (s 0 (omega arith)) u w h g) p

  exits_all : (b : Block Action) (l : List Status) → settled b l ≡ true → (u v : Status) → Has l u → Goes layout c b u v → Has (exits b l) v
  exits_all done l s u v h g = subst (Has l) g h
  exits_all (act k x b) l s u v h g = exits_all b (map (status_after layout c x) l) s (status_after layout c x u) v (map_in (status_after layout c x) l u h) g
  exits_all (branch k x y b) l s u v h g =
      let s₁ = and_out (settled x l) _ s in
      let s₂ = and_out (settled y l) _ s₁.1 in
      exits_all b (exits x l ++ exits y l) s₂.1 g.0 v (elim g.1 [
        | inl p ↦ has_left (exits x l) (exits y l) g.0 (exits_all x l s₁.0 u g.0 h p)
        | inr p ↦ has_right (exits x l) (exits y l) g.0 (exits_all y l s₂.0 u g.0 h p)
      ]) g.2
  exits_all (loop k x b) l s u v h g =
      let m : List Status = l ++ exits x l in
      let s₁ = and_out (settled x m) _ s in
      let s₂ = and_out (has_all m (exits x m)) _ s₁.1 in
      exits_all b m s₂.1 g.0 v (star_keeps (Has m) (λ u w h r. has_all_true m (exits x m) s₂.0 w (exits_all x m s₁.0 u w h r)) g.1 (has_left l (exits x l) u h)) g.2
  exits_all (fixed k n x b) l s u v h g =
      let s₁ = and_out (each_turn (exits x) (settled x) (suc n) l) _ s in
      exits_all b (turned (exits x) (suc n) l) s₁.1 g.0 v (turned_all x (suc n) l (exits_all x) (each_turn_out (exits x) (settled x) (suc n) l s₁.0) u g.0 h g.1) g.2

  unmet_from : (k : ℕ) (x : Action) (l : List Status) (r : ℕ) → Has (unmet k x l) r → From l (λ u r. (k ≡ r) × (met_in layout c x u ≡ false)) r
  unfolding unmet
  unmet_from k x [] r h = absurd h
  unmet_from k x (w ∷ l) r h = go (met_in layout c x w) refl (unmet_from k x l r) h
    where
      go : (b : Bool) → met_in layout c x w ≡ b → (Has (unmet k x l) r → From l (λ u r. (k ≡ r) × (met_in layout c x u ≡ false)) r) →
          Has (cond b (unmet k x l) (k ∷ unmet k x l)) r → From (w ∷ l) (λ u r. (k ≡ r) × (met_in layout c x u ≡ false)) r
      go true e f h = let p = f h in (p.0, inr p.1, p.2)
      go false e f (inl q) = (w, inl refl, (q, e))
      go false e f (inr h) = let p = f h in (p.0, inr p.1, p.2)

  unmet_all : (k : ℕ) (x : Action) (l : List Status) (u : Status) → Has l u → met_in layout c x u ≡ false → Has (unmet k x l) k
  unfolding unmet
  unmet_all k x [] u h m = absurd h
  unmet_all k x (w ∷ l) u (inl e) m = rw (e, m) (inl refl)
  unmet_all k x (w ∷ l) u (inr h) m = go (met_in layout c x w) (unmet_all k x l u h m)
    where
      go : (b : Bool) → Has (unmet k x l) k → Has (cond b (unmet k x l) (k ∷ unmet k x l)) k
      go true h = h
      go false h = inr h

  stops_from : (b : Block Action) (l : List Status) (r : ℕ) → Has (stops b l) r → From l (Stops layout c b) r
  stops_from done l r h = absurd h
  stops_from (act k x b) l r h = elim (has_out (unmet k x l) _ r h) [
    | inl e ↦ let p = unmet_from k x l r e in (p.0, p.1, inl p.2)
    | inr e ↦ let p = stops_from b _ r e in let q = map_out (status_after layout c x) l p.0 p.1 in (q.0, q.1, inr (rw q.2 p.2))
  ]
  stops_from (branch k x y b) l r h = elim (has_out (stops x l ++ stops y l) _ r h) [
    | inl e ↦ elim (has_out (stops x l) (stops y l) r e) [
      | inl d ↦ let p = stops_from x l r d in (p.0, p.1, inl (inl p.2))
      | inr d ↦ let p = stops_from y l r d in (p.0, p.1, inl (inr p.2))
    ]
    | inr e ↦ let p = stops_from b (exits x l ++ exits y l) r e in elim (has_out (exits x l) (exits y l) p.0 p.1) [
      | inl d ↦ let q = exits_from x l p.0 d in (q.0, q.1, inr (p.0, inl q.2, p.2))
      | inr d ↦ let q = exits_from y l p.0 d in (q.0, q.1, inr (p.0, inr q.2, p.2))
    ]
  ]
  stops_from (loop k x b) l r h = elim (has_out (stops x (l ++ exits x l)) _ r h) [
    | inl e ↦ let p = stops_from x (l ++ exits x l) r e in let q = once_from x l p.0 (exits_from x l p.0) p.1 in (q.0, q.1, (p.0, q.2, inl p.2))
    | inr e ↦ let p = stops_from b (l ++ exits x l) r e in let q = once_from x l p.0 (exits_from x l p.0) p.1 in (q.0, q.1, (p.0, q.2, inr p.2))
  ]
  stops_from (fixed k n x b) l r h = elim (has_out (all_turns (exits x) (stops x) (suc n) l) _ r h) [
    | inl e ↦
        let (m, i, d) = all_turns_out (exits x) (stops x) (suc n) l r e in
        let p = stops_from x (turned (exits x) m l) r d in
        let q = turned_from x m l p.0 (exits_from x) p.1 in
        (q.0, q.1, inl (p.0, (m, omega arith, q.2), p.2))
    | inr e ↦
        let p = stops_from b (turned (exits x) (suc n) l) r e in
        let q = turned_from x (suc n) l p.0 (exits_from x) p.1 in
        (q.0, q.1, inr (p.0, q.2, p.2))
  ]

  stops_all : (b : Block Action) (l : List Status) → settled b l ≡ true → (u : Status) (r : ℕ) → Has l u → Stops layout c b u r → Has (stops b l) r
  stops_all done l s u r h t = absurd t
  stops_all (act k x b) l s u r h (inl t) = has_left (unmet k x l) _ r (subst (Has (unmet k x l)) t.0 (unmet_all k x l u h t.1))
  stops_all (act k x b) l s u r h (inr t) = has_right (unmet k x l) _ r (stops_all b (map (status_after layout c x) l) s (status_after layout c x u) r (map_in (status_after layout c x) l u h) t)
  stops_all (branch k x y b) l s u r h (inl t) = has_left (stops x l ++ stops y l) _ r (elim t [
    | inl p ↦ has_left (stops x l) (stops y l) r (stops_all x l (and_out (settled x l) _ s).0 u r h p)
    | inr p ↦ has_right (stops x l) (stops y l) r (stops_all y l (and_out (settled y l) _ (and_out (settled x l) _ s).1).0 u r h p)
  ])
  stops_all (branch k x y b) l s u r h (inr t) =
      let s₁ = and_out (settled x l) _ s in
      let s₂ = and_out (settled y l) _ s₁.1 in
      has_right (stops x l ++ stops y l) _ r (stops_all b (exits x l ++ exits y l) s₂.1 t.0 r (elim t.1 [
        | inl p ↦ has_left (exits x l) (exits y l) t.0 (exits_all x l s₁.0 u t.0 h p)
        | inr p ↦ has_right (exits x l) (exits y l) t.0 (exits_all y l s₂.0 u t.0 h p)
      ]) t.2)
  stops_all (loop k x b) l s u r h t =
      let m : List Status = l ++ exits x l in
      let s₁ = and_out (settled x m) _ s in
      let s₂ = and_out (has_all m (exits x m)) _ s₁.1 in
      let w : Has m t.0 = star_keeps (Has m) (λ u w h r. has_all_true m (exits x m) s₂.0 w (exits_all x m s₁.0 u w h r)) t.1 (has_left l (exits x l) u h) in
      elim t.2 [
        | inl p ↦ has_left (stops x m) (stops b m) r (stops_all x m s₁.0 t.0 r w p)
        | inr p ↦ has_right (stops x m) (stops b m) r (stops_all b m s₂.1 t.0 r w p)
      ]
  stops_all (fixed k n x b) l s u r h (inl t) =
      let s₁ = each_turn_out (exits x) (settled x) (suc n) l (and_out (each_turn (exits x) (settled x) (suc n) l) _ s).0 in
      let (m, i, p) = t.1 in
      has_left (all_turns (exits x) (stops x) (suc n) l) _ r (all_turns_in (exits x) (stops x) (suc n) m l r (omega arith)
      (stops_all x (turned (exits x) m l) (s₁ m (omega arith)) t.0 r (turned_all x m l (exits_all x) (λ j z. s₁ j (omega arith)) u t.0 h p) t.2))
  stops_all (fixed k n x b) l s u r h (inr t) =
      let s₁ = and_out (each_turn (exits x) (settled x) (suc n) l) _ s in
      has_right (all_turns (exits x) (stops x) (suc n) l) _ r
      (stops_all b (turned (exits x) (suc n) l) s₁.1 t.0 r (turned_all x (suc n) l (exits_all x) (each_turn_out (exits x) (settled x) (suc n) l s₁.0) u t.0 h t.1) t.2)

-- the lowest of a list of records
unfoldable pub lower : ℕ → Option ℕ → Option ℕ
lower k none = some k
lower k (some m) = cond (leb k m) (some k) (some m)

abbrev pub lowest : List ℕ → Option ℕ
lowest [] = none
lowest (k ∷ l) = lower k (lowest l)

least_lowest : (l : List ℕ) → Least (lowest l) (Has l)
unfolding lower
least_lowest [] = record { named = λ m e. absurd (true≢false (cc)); least = λ r h. h }
least_lowest (k ∷ l) = go (lowest l) (least_lowest l)
  where
    go : (o : Option ℕ) → Least o (Has l) → Least (lower k o) (Has (k ∷ l))
    go none h = record { named = λ m e. inl (cc); least = λ r. elim [ inl e ↦ omega arith | inr p ↦ absurd (h.least r p) ] }
    go (some m) h = at (leb k m) refl
      where
        at : (b : Bool) → leb k m ≡ b → Least (cond b (some k) (some m)) (Has (k ∷ l))
        at true e = record { named = λ n q. inl (cc); least = λ r. elim [ inl q ↦ omega arith | inr p ↦ let z = h.least r p in omega (arith, leb-true k m e) ] }
        at false e = record { named = λ n q. inr (h.named n q); least = λ r. elim [ inl q ↦ omega (arith, leb-false k m e) | inr p ↦ h.least r p ] }

-- the answer for n cells, where f says at which record each can stop
abbrev pub over_cells : (ℕ → Option ℕ) → ℕ → Verdict
over_cells f zero = Accepted
over_cells f (suc c) = with_cell (over_cells f c) c (f c)

-- whether all cells below n pass a test
abbrev pub each_cell : (ℕ → Bool) → ℕ → Bool
each_cell f zero = true
each_cell f (suc c) = f c && each_cell f c

fits_over : (P : ℕ → ℕ → Type 0) (f : ℕ → Option ℕ) (t : ℕ → Bool) → ((c : ℕ) → t c ≡ true → Least (f c) (λ r. P r c)) → (n : ℕ) → each_cell t n ≡ true → Fits n P (over_cells f n)
fits_over P f t h zero e = fits_none P
fits_over P f t h (suc n) e = let p = and_out (t n) (each_cell t n) e in fits_cell n P (over_cells f n) (f n) (fits_over P f t h n p.1) (h n p.0)

module _ (plan : Plan) where
  -- at the start
  abbrev pub begins : ℕ → List Status
  begins c = status_of plan.layout c (start plan.layout) ∷ []

  abbrev pub tried : Verdict
  tried = over_cells (λ c. lowest (stops plan.layout c plan.body (begins c))) (cell_count plan.layout)

  abbrev pub settles : Bool
  settles = each_cell (λ c. settled plan.layout c plan.body (begins c)) (cell_count plan.layout)

  pub tried_answers : settles ≡ true → Answers plan tried
  tried_answers e = (exact plan tried).0 (fits_over (StopsAt plan) _ _ least (cell_count plan.layout) e)
    where
      least : (c : ℕ) → settled plan.layout c plan.body (begins c) ≡ true → Least (lowest (stops plan.layout c plan.body (begins c))) (λ r. StopsAt plan r c)
      least c s = let l = least_lowest (stops plan.layout c plan.body (begins c)) in record {
        named = λ m q. let p = stops_from plan.layout c plan.body (begins c) m (l.named m q) in elim p.1 [ inl d ↦ rw d p.2 | inr d ↦ absurd d ];
        least = λ r t. l.least r (stops_all plan.layout c plan.body (begins c) s _ r (inl refl) t);
      }

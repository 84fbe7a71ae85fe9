-- A cell that no record tells apart from the cell before it in its array stops only where that one does.
use Prim.Native.Nat.{ℕ, zero, suc, ◌+◌, ◌≤◌, ◌<◌}
use mathlib.Core.Path.{◌≡◌, refl, sym, ap, ◌∙◌, subst}
use mathlib.Core.Logic.{inl, inr}
use mathlib.Core.List.{List}
use native.Mathlib.Decide.{dec_lt}
use native.Mathlib.Omega.{arith}
use Rattle.model.specs.Sides.{Layout, span_of, is_scratch}
use Rattle.model.specs.Records.{Action, covers as covers-cell}
use Rattle.model.specs.Blocks.{Block, done, act, branch, loop, fixed}
use Rattle.model.specs.Inner.Holders.{array_of}
use Rattle.model.specs.Effects.{start}
use Rattle.model.proofs.Numbering.{array_from, array_ends}
use Rattle.model.proofs.Status.{Status, at_start, status_of, met_in, status_after, start_status}
use Rattle.model.proofs.Through.{Star, stay, more, Power, Goes, Stops, StopsAt}
use Rattle.reading.specs.Bytes.{layout_of, record_count, fields_at}
use Rattle.format.specs.Plans.{plan_of}
use Rattle.format.specs.Inner.Walks.{Plain, Walkable, block_between}
use Rattle.format.proofs.Walking.{opened_facts}
use Rattle.format.proofs.Trees.{is_branch, is_loop, is_fixed, is_leaf, shape, acts, block_none, block_branch, block_loop, block_fixed, block_act, plain_walk, plain_body}
use Rattle.format.proofs.Acts.{here}
use Rattle.lookahead.specs.Inner.Ahead.{cell_at, covers}
use Rattle.summary.proofs.Actions.{act_covers}

star_map : {R T : Status → Status → Type 0} → ((u v : Status) → R u v → T u v) → {u v : Status} → Star R u v → Star T u v
star_map h stay = stay
star_map h {u} (more {w = w} r s) = more (h u w r) (star_map h s)

-- two cells of one array that each record of a block covers both or neither
module _ (layout : Layout) (c d : ℕ) (own : array_of layout c ≡ array_of layout d) where
  abbrev Alike : Block Action → Type 0
  Alike done = Unit {0}
  Alike (act k x b) = (covers-cell layout x c ≡ covers-cell layout x d) × Alike b
  Alike (branch k x y b) = Alike x × Alike y × Alike b
  Alike (loop k x b) = Alike x × Alike b
  Alike (fixed k n x b) = Alike x × Alike b

  -- a record leaves them in the same status, and needs the same of them
  module _ (x : Action) (e : covers-cell layout x c ≡ covers-cell layout x d) (u : Status) where
    status_alike : status_after layout c x u ≡ status_after layout d x u
    status_alike = rw (e, own)

    met_alike : met_in layout c x u ≡ met_in layout d x u
    met_alike = rw e

  power_alike : (x : Block Action) → ((u v : Status) → Goes layout c x u v → Goes layout d x u v) → (n : ℕ) (u v : Status) → Power (Goes layout c x) n u v → Power (Goes layout d x) n u v
  power_alike x h zero u v p = p
  power_alike x h (suc n) u v p = (p.0, h u p.0 p.1, power_alike x h n p.0 v p.2)

  goes_alike : (b : Block Action) → Alike b → (u v : Status) → Goes layout c b u v → Goes layout d b u v
  goes_alike done a u v g = g
  goes_alike (act k x b) a u v g = rw (status_alike x a.0 u) at (goes_alike b a.1 (status_after layout c x u) v g)
  goes_alike (branch k x y b) a u v g = (
    g.0,
    elim g.1 [ inl p ↦ inl (goes_alike x a.0 u g.0 p) | inr p ↦ inr (goes_alike y a.1 u g.0 p) ],
    goes_alike b a.2 g.0 v g.2,
  )
  goes_alike (loop k x b) a u v g = (g.0, star_map (goes_alike x a.0) g.1, goes_alike b a.1 g.0 v g.2)
  goes_alike (fixed k n x b) a u v g = (g.0, power_alike x (goes_alike x a.0) (suc n) u g.0 g.1, goes_alike b a.1 g.0 v g.2)

  stops_alike : (b : Block Action) → Alike b → (u : Status) (r : ℕ) → Stops layout c b u r → Stops layout d b u r
  stops_alike done a u r s = s
  stops_alike (act k x b) a u r (inl s) = inl (s.0, sym (met_alike x a.0 u) ∙ s.1)
  stops_alike (act k x b) a u r (inr s) = inr (rw (status_alike x a.0 u) at (stops_alike b a.1 (status_after layout c x u) r s))
  stops_alike (branch k x y b) a u r (inl s) = inl (elim s [ inl p ↦ inl (stops_alike x a.0 u r p) | inr p ↦ inr (stops_alike y a.1 u r p) ])
  stops_alike (branch k x y b) a u r (inr s) = inr (
    s.0,
    elim s.1 [ inl p ↦ inl (goes_alike x a.0 u s.0 p) | inr p ↦ inr (goes_alike y a.1 u s.0 p) ],
    stops_alike b a.2 s.0 r s.2,
  )
  stops_alike (loop k x b) a u r s = (
    s.0,
    star_map (goes_alike x a.0) s.1,
    elim s.2 [ inl p ↦ inl (stops_alike x a.0 s.0 r p) | inr p ↦ inr (stops_alike b a.1 s.0 r p) ],
  )
  stops_alike (fixed k n x b) a u r (inl s) =
      let (m, l, p) = s.1 in
      inl (s.0, (m, l, power_alike x (goes_alike x a.0) m u s.0 p), stops_alike x a.0 s.0 r s.2)
  stops_alike (fixed k n x b) a u r (inr s) =
      inr (s.0, power_alike x (goes_alike x a.0) (suc n) u s.0 s.1, stops_alike b a.1 s.0 r s.2)

-- a cell starts as its array does
pub first_status : (f : List ℕ) (array offset : ℕ) → offset < (span_of (layout_of f) array).length →
    status_of (layout_of f) (cell_at f array offset) (start (layout_of f)) ≡ at_start (is_scratch (layout_of f) array)
first_status f array offset inside =
    start_status (layout_of f) (cell_at f array offset) (omega (arith, array_ends (layout_of f) array))
    ∙ ap (λ a. at_start (is_scratch (layout_of f) a)) (array_from (layout_of f) array (cell_at f array offset) (omega arith) (omega arith))

-- a cell that no record tells apart from the cell before it in its array
module _ (f : List ℕ) (bodies : ℕ) (w : Plain f bodies) (array offset : ℕ) (inside : suc offset < (span_of (layout_of f) array).length)
    (alike : (k : ℕ) → k < record_count f → covers (fields_at f k) array (suc offset) ≡ covers (fields_at f k) array offset) where
  -- they are of one array
  own : array_of (layout_of f) (cell_at f array (suc offset)) ≡ array_of (layout_of f) (cell_at f array offset)
  own = array_from (layout_of f) array _ (omega arith) (omega arith) ∙ sym (array_from (layout_of f) array _ (omega arith) (omega arith))

  abbrev These : Block Action → Type 0
  These = Alike (layout_of f) (cell_at f array (suc offset)) (cell_at f array offset) own

  block_alike : (n r end : ℕ) → Walkable f r end → end ≤ r + n → end ≤ record_count f → These (block_between f r end)
  block_alike zero r end g l m = rw (block_none f r end (omega arith)) tt
  block_alike (suc n) r end g l m = elim (dec_lt r end) [
    | no z ↦ rw (block_none f r end (omega arith)) tt
    | yes h ↦ let x = fields_at f r in
        let k = here f bodies r end w h m g x refl in
        let s = k.steps in
        let rest = block_alike n _ _ s.rest (omega (arith, s.inside)) m in
        let one = block_alike n _ _ s.one (omega (arith, s.inside)) (omega (arith, s.inside)) in
        elim (shape x) [
          | is_branch z ↦ rw (block_branch f r end h g x refl z) (one, block_alike n _ _ s.two (omega (arith, s.inside)) (omega (arith, s.inside)), rest)
          | is_loop z ↦ rw (block_loop f r end h g x refl z) (one, rest)
          | is_fixed z ↦ rw (block_fixed f r end h g x refl z) (one, rest)
          | is_leaf z ↦ let j = acts x (k.low, k.high, k.no_call) z in
              rw (block_act f r end h g x refl z) (act_covers x j f array (suc offset) inside ∙ (alike r (omega arith) ∙ sym (act_covers x j f array offset (omega arith))), rest)
        ]
  ]

  -- it stops only where that one does
  pub stop_alike : (r : ℕ) → StopsAt (plan_of f) r (cell_at f array (suc offset)) → StopsAt (plan_of f) r (cell_at f array offset)
  unfolding plan_of
  stop_alike r s =
      let o = opened_facts f w.opens in
      let u = at_start (is_scratch (layout_of f) array) in
      let same : Stops (layout_of f) (cell_at f array (suc offset)) (plan_of f).body u r → Stops (layout_of f) (cell_at f array offset) (plan_of f).body u r =
      rw (plain_body f) (stops_alike (layout_of f) (cell_at f array (suc offset)) (cell_at f array offset) own (block_between f 0 (record_count f))
      (block_alike (record_count f) 0 (record_count f) (plain_walk f o w.plain) (omega arith) (omega arith)) u r) in
      subst (λ v. Stops (layout_of f) (cell_at f array offset) (plan_of f).body v r) (sym (first_status f array offset (omega arith)))
      (same (subst (λ v. Stops (layout_of f) (cell_at f array (suc offset)) (plan_of f).body v r) (first_status f array (suc offset) inside) s))

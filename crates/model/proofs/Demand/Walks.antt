-- Ways through one block and then another; the choices determine a way.
use Prim.Native.Nat.{ℕ, zero, suc}
use mathlib.Core.Path.{◌≡◌, refl, ap, ap₂, sym, ◌∙◌, subst}
use mathlib.Core.List.{List, [], ◌∷◌, ◌++◌, append_assoc}
use mathlib.Core.Bool.{Bool, true, false, cond}
use Rattle.model.specs.Records.{Action}
use Rattle.model.specs.Blocks.{Block, act, branch, loop, fixed, ◌then◌}
use Rattle.model.specs.Judging.{Pass, Way, at_end, passing, choosing, leaving, turning, last_turn, earlier_turn, Itself, itself}
use Rattle.model.specs.Demand.{Called, called}
use Rattle.model.specs.Inner.Events.{after_turn}

module _ {A B : Type 0} (Leaf : A → List Bool → List Bool → List B → Type 0) where
  -- the two parts of a way through one block and then another
  record Parted (a b : Block A) (cs es : List Bool) (w : List B) : Type 0 where
    between : List Bool
    front : List B
    back : List B
    first : Way Leaf a cs between front
    second : Way Leaf b between es back
    whole : front ++ back ≡ w

  -- with more in front
  longer : {a d b : Block A} {cs ds es : List Bool} {w : List B} (v : List B) (m : Parted a b ds es w) →
      Way Leaf d cs m.between (v ++ m.front) → Parted d b cs es (v ++ w)
  longer v m h = record {
    between = m.between;
    front = v ++ m.front;
    back = m.back;
    first = h;
    second = m.second;
    whole = append_assoc v m.front m.back ∙ ap (λ l. v ++ l) m.whole;
  }

  part_loop : {r : ℕ} {x a b c : Block A} {cs es : List Bool} {w : List B} → ((cs es : List Bool) (w : List B) → Way Leaf c cs es w → Parted a b cs es w) →
      Way Leaf (loop r x c) cs es w → Parted (loop r x a) b cs es w
  part_loop parts (leaving {cs = cs} {ds} {w} h) =
      let m = parts cs ds w h in
      record { between = m.between; front = m.front; back = m.back; first = leaving m.first; second = m.second; whole = m.whole }
  part_loop parts (turning {v = v} h k) = let m = part_loop parts k in longer v m (turning h m.first)

  part_turns : {r n : ℕ} {x a b c : Block A} {cs es : List Bool} {w : List B} → ((cs es : List Bool) (w : List B) → Way Leaf c cs es w → Parted a b cs es w) →
      Way Leaf (fixed r n x c) cs es w → Parted (fixed r n x a) b cs es w
  part_turns parts (last_turn {v = v} h k) = let m = parts _ _ _ k in longer v m (last_turn h m.first)
  part_turns parts (earlier_turn {v = v} h k) = let m = part_turns parts k in longer v m (earlier_turn h m.first)

  part : (a b : Block A) (cs es : List Bool) (w : List B) → Way Leaf (a then b) cs es w → Parted a b cs es w
  part Block.done b cs es w h = record { between = cs; front = []; back = w; first = at_end; second = h; whole = refl }
  part (act r x a) b cs es w (passing {ds = ds} {v = u} {w = v} h k) = let m = part a b ds es v k in longer u m (passing h m.first)
  part (branch r x y a) b cs es w (choosing {ds = ds} {v = u} {w = v} h k) = let m = part a b ds es v k in longer u m (choosing h m.first)
  part (loop r x a) b cs es w h = part_loop (part a b) h
  part (fixed r n x a) b cs es w h = part_turns (part a b) h

  pub way_branch : (r : ℕ) (c : Bool) (x y b : Block A) {cs es : List Bool} {w : List B} → Way Leaf (cond c x y then b) cs es w → Way Leaf (branch r x y b) (c ∷ cs) es w
  way_branch r c x y b {cs} {es} {w} h =
      let m = part (cond c x y) b cs es w h in
      subst (λ l. Way Leaf (branch r x y b) (c ∷ cs) es l) m.whole (choosing m.first m.second)

  pub way_loop : (r : ℕ) (c : Bool) (x b : Block A) {cs es : List Bool} {w : List B} → Way Leaf (cond c (x then loop r x b) b) cs es w → Way Leaf (loop r x b) (c ∷ cs) es w
  way_loop r true x b {cs} {es} {w} h =
      let m = part x (loop r x b) cs es w h in
      subst (λ l. Way Leaf (loop r x b) (true ∷ cs) es l) m.whole (turning m.first m.second)
  way_loop r false x b h = leaving h

  pub way_turn : (r n : ℕ) (x b : Block A) {cs es : List Bool} {w : List B} → Way Leaf (x then after_turn r n x b) cs es w → Way Leaf (fixed r n x b) cs es w
  way_turn r zero x b {cs} {es} {w} h =
      let m = part x b cs es w h in
      subst (λ l. Way Leaf (fixed r zero x b) cs es l) m.whole (last_turn m.first m.second)
  way_turn r (suc n) x b {cs} {es} {w} h =
      let m = part x (fixed r n x b) cs es w h in
      subst (λ l. Way Leaf (fixed r (suc n) x b) cs es l) m.whole (earlier_turn m.first m.second)

  -- the choices determine a way, if they determine what one record comes to
  module _ (leaf-same : (x : A) (cs ds es : List Bool) (v w : List B) → Leaf x cs ds v → Leaf x cs es w → (ds ≡ es) × (v ≡ w)) where
    both : (b : Block A) {ds ds' es es' : List Bool} {v v' w w' : List B} → (ds ≡ ds') × (v ≡ v') → Way Leaf b ds' es' w' →
        ((es'' : List Bool) (u : List B) → Way Leaf b ds es'' u → (es ≡ es'') × (w ≡ u)) → (es ≡ es') × (v ++ w ≡ v' ++ w')
    both b {es' = es'} {w' = w'} (e, f) k go =
        let m = go es' w' (subst (λ z. Way Leaf b z es' w') (sym e) k) in
        (m.0, ap₂ ◌++◌ f m.1)

    pub way_same : {b : Block A} {cs ds es : List Bool} {v w : List B} → Way Leaf b cs ds v → Way Leaf b cs es w → (ds ≡ es) × (v ≡ w)
    way_same at_end at_end = (refl, refl)
    way_same (passing {b = b} h h') (passing k k') = both b (leaf-same _ _ _ _ _ _ h k) k' (λ es u m. way_same h' m)
    way_same (choosing {b = b} h h') (choosing k k') = both b (way_same h k) k' (λ es u m. way_same h' m)
    way_same (leaving h) (leaving k) = way_same h k
    way_same (turning {r = r} {x} {b} h h') (turning k k') = both (loop r x b) (way_same h k) k' (λ es u m. way_same h' m)
    way_same (last_turn {b = b} h h') (last_turn k k') = both b (way_same h k) k' (λ es u m. way_same h' m)
    way_same (earlier_turn {r = r} {n} {x} {b} h h') (earlier_turn k k') = both (fixed r n x b) (way_same h k) k' (λ es u m. way_same h' m)

itself_same : (x : Action) (cs ds es : List Bool) (v w : List Action) → Itself x cs ds v → Itself x cs es w → (ds ≡ es) × (v ≡ w)
itself_same x cs ds es v w itself itself = (refl, refl)

pub called_same : (passes : List Pass) (b : ℕ) (cs ds es : List Bool) (v w : List Pass) → Called passes b cs ds v → Called passes b cs es w → (ds ≡ es) × (v ≡ w)
called_same passes b cs ds es v w (called h) (called k) = ((way_same Itself itself_same h k).0, refl)

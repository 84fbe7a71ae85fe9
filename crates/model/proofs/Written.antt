-- The test `always_writes` of one cell says exactly that every way through a block writes it.
use Prim.Native.Nat.{ℕ, zero, suc}
use mathlib.Core.Path.{◌≡◌, refl, sym, ◌∙◌}
use mathlib.Core.Logic.{◌⊎◌, inl, inr}
use mathlib.Core.List.{List, [], ◌∷◌, ◌++◌}
use mathlib.Core.Bool.{Bool, true, false, cond, ◌&&◌, ◌||◌, false≢true, true≢false}
use Rattle.model.specs.Lists.{any}
use Rattle.model.specs.Sides.{Side, Layout}
use Rattle.model.specs.Records.{Action}
use Rattle.model.specs.Blocks.{Block, act, branch, loop, fixed}
use Rattle.model.specs.Judging.{Way, at_end, passing, choosing, leaving, turning, last_turn, earlier_turn, Itself, itself, writes_cell, always_writes}
use Rattle.model.specs.Claims.{ClaimWritten}
use Rattle.model.proofs.Booleans.{or_out, or_left, or_right, or_none, and_out, and_none, any_append}

module _ (layout : Layout) (s : Side) (c : ℕ) where
  abbrev writes : Action → Bool
  writes = writes_cell layout s c

  abbrev always : Block Action → Bool
  always = always_writes layout s c

  arm : (z : Bool) (x y : Block Action) → always x ≡ true → always y ≡ true → always (cond z x y) ≡ true
  arm true x y e f = e
  arm false x y e f = f

  way_writes : {b : Block Action} {cs ds : List Bool} {w : List Action} → Way Itself b cs ds w → always b ≡ true → any writes w ≡ true
  way_writes at_end e = absurd (false≢true e)
  way_writes (passing {x = x} {b} {w = w} itself h) e = go (λ f. way_writes h f) (or_out (writes x) (always b) e)
    where
      go : (always b ≡ true → any writes w ≡ true) → (writes x ≡ true) ⊎ (always b ≡ true) → (writes x || any writes w) ≡ true
      go ih (inl f) = or_left (writes x) (any writes w) f
      go ih (inr f) = or_right (writes x) (any writes w) (ih f)
  way_writes (choosing {x = x} {y} {b} {c = z} {v = v} {w} h k) e = rw (any_append writes v w) (go (λ f. way_writes h f) (λ f. way_writes k f) (or_out _ (always b) e))
    where
      go : (always (cond z x y) ≡ true → any writes v ≡ true) → (always b ≡ true → any writes w ≡ true) →
          ((always x && always y) ≡ true) ⊎ (always b ≡ true) → (any writes v || any writes w) ≡ true
      go ih jh (inl f) = let g = and_out (always x) (always y) f in or_left (any writes v) (any writes w) (ih (arm z x y g.0 g.1))
      go ih jh (inr f) = or_right (any writes v) (any writes w) (jh f)
  way_writes (leaving h) e = way_writes h e
  way_writes (turning {v = v} {w} h k) e = rw (any_append writes v w) (or_right (any writes v) (any writes w) (way_writes k e))
  way_writes (last_turn {x = x} {b} {v = v} {w} h k) e = rw (any_append writes v w) (go (λ f. way_writes h f) (λ f. way_writes k f) (or_out (always x) (always b) e))
    where
      go : (always x ≡ true → any writes v ≡ true) → (always b ≡ true → any writes w ≡ true) →
          (always x ≡ true) ⊎ (always b ≡ true) → (any writes v || any writes w) ≡ true
      go ih jh (inl f) = or_left (any writes v) (any writes w) (ih f)
      go ih jh (inr f) = or_right (any writes v) (any writes w) (jh f)
  way_writes (earlier_turn {v = v} {w} h k) e = rw (any_append writes v w) (or_right (any writes v) (any writes w) (way_writes k e))

  -- a way to the choices ds that does not write the cell
  pub record Unwritten (b : Block Action) (ds : List Bool) : Type 0 where
    pub choices : List Bool
    pub records : List Action
    pub way : Way Itself b choices ds records
    pub none : any (writes_cell layout s c) records ≡ false

  -- two of them in one block
  join : {x b d : Block Action} {cs ds : List Bool} (i : Unwritten b ds) (j : Unwritten x i.choices) → Way Itself d cs ds (j.records ++ i.records) → Unwritten d ds
  join {cs = cs} i j h = record {
    choices = cs;
    records = j.records ++ i.records;
    way = h;
    none = rw (any_append writes j.records i.records, j.none) i.none;
  }

  unwritten_turns : (r n : ℕ) (x b : Block Action) (ds : List Bool) → ((ds : List Bool) → Unwritten x ds) → Unwritten b ds → Unwritten (fixed r n x b) ds
  unwritten_turns r zero x b ds f i = let j = f i.choices in join i j (last_turn j.way i.way)
  unwritten_turns r (suc n) x b ds f i =
      let more = unwritten_turns r n x b ds f i in
      let j = f more.choices in
      join more j (earlier_turn j.way more.way)

  pub unwritten : (b : Block Action) (ds : List Bool) → always_writes layout s c b ≡ false → Unwritten b ds
  unwritten Block.done ds e = record { choices = ds; records = []; way = at_end; none = refl }
  unwritten (act r x b) ds e = let f = or_none (writes x) (always b) e in go f.0 (unwritten b ds f.1)
    where
      go : writes x ≡ false → Unwritten b ds → Unwritten (act r x b) ds
      go f i = record { choices = i.choices; records = x ∷ i.records; way = passing itself i.way; none = rw f i.none }
  unwritten (branch r x y b) ds e =
      let f = or_none (always x && always y) (always b) e in
      go (unwritten x) (unwritten y) (unwritten b ds f.1) (and_none (always x) (always y) f.0)
    where
      arms : (z : Bool) (i : Unwritten b ds) → Unwritten (cond z x y) i.choices → Unwritten (branch r x y b) ds
      arms z i j = join i j (choosing {c = z} j.way i.way)

      go : ((ds : List Bool) → always x ≡ false → Unwritten x ds) → ((ds : List Bool) → always y ≡ false → Unwritten y ds) →
          Unwritten b ds → (always x ≡ false) ⊎ (always y ≡ false) → Unwritten (branch r x y b) ds
      go jx jy i (inl f) = arms true i (jx i.choices f)
      go jx jy i (inr f) = arms false i (jy i.choices f)
  unwritten (loop r x b) ds e =
      let i = unwritten b ds e in
      record { choices = false ∷ i.choices; records = i.records; way = leaving i.way; none = i.none }
  unwritten (fixed r n x b) ds e = let f = or_none (always x) (always b) e in unwritten_turns r n x b ds (λ es. unwritten x es f.0) (unwritten b ds f.1)

  written_back : (b : Block Action) → ((cs ds : List Bool) (w : List Action) → Way Itself b cs ds w → any writes w ≡ true) → (z : Bool) → always b ≡ z → always b ≡ true
  written_back b f true e = e
  written_back b f false e = let i = unwritten b [] e in absurd (true≢false (sym (f i.choices [] i.records i.way) ∙ i.none))

pub always_written : ClaimWritten
always_written layout s c b = (λ e cs ds w h. way_writes layout s c h e, λ f. written_back layout s c b f (always_writes layout s c b) refl)

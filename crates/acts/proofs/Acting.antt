-- What a record of each kind does to memories, flags and tally that hold a state, path by path: it follows the model, or it is unmet and changes nothing.
use Prim.Native.Nat.{ℕ, suc, ◌+◌, ◌≤◌, ◌<◌}
use mathlib.Core.Path.{◌≡◌, refl, ap, sym, ◌∙◌, subst}
use mathlib.Core.Bool.{Bool, true, false, cond, not, ◌||◌, or-true}
use mathlib.Core.List.{List, ◌∷◌}
use mathlib.Core.Option.{none, some}
use native.Mathlib.Omega.{arith}
use lib.Dec.{eqb}
use lib.ListN.{length, get_or}
use borrow.Author.Tests.{eqb-true}
use Rattle.model.specs.Sides.{Side, other, same_side, Stamp, at, Layout, cell_count}
use Rattle.model.specs.Records.{read, write, copy, need, mark, same_verb, Action, stepped, covers}
use Rattle.model.specs.Effects.{Stamps, Flags, State, current, Deed, nothing, gets, puts, moves, comes_to, needs, does, deed, met, effect}
use Rattle.model.specs.Runs.{Event, lowest_unmet}
use Rattle.model.proofs.Booleans.{is_same, is_other}
use Rattle.model.proofs.Runs.{event}
use Rattle.model.proofs.Stamps.{Past, past_effect}
use Rattle.model.proofs.Needs.{flag_set, flag_clear}
use Rattle.model.proofs.Unmet.{none_unmet}
use Rattle.std.specs.Prelude.{Ok, Err}
use Rattle.acts.specs.declared.Stored.{Stored}
use Rattle.memories.specs.Memories.{number_of}
use Rattle.memories.specs.Flags.{mask}
use Rattle.memories.specs.Inner.Ranges.{FirstStale, Changed}
use Rattle.known.specs.declared.Known.{Known}
use Rattle.known.specs.Inner.Knowing.{Knows, Wrote, Copied}
use Rattle.known.proofs.Sets.{Piece, added_sound, dropped_sound}
use Rattle.memories.proofs.Masks.{mask_same}
use Rattle.acts.specs.Inner.Acting.{Acted, Low, with_verb, CellsAt, CellsOf, Holds, BothSetAs, FollowsAs, MovesCells}
use Rattle.acts.proofs.Stale.{range_piece, Sees, all_fine, stale_at}

chosen_number : (b : Bool) (i j : ℕ) (x y : Stamp) → i ≡ number_of x → j ≡ number_of y → cond b i j ≡ number_of (cond b x y)
chosen_number true i j x y p q = p
chosen_number false i j x y p q = q

chosen_stamp : (b : Bool) (i j k m : ℕ) → i ≡ k → j ≡ m → cond b i j ≡ cond b k m
chosen_stamp b i j k m p q = rw (p, q)

-- whatever the test says
kept : {A : Type 0} (b : Bool) (u : A) → cond b u u ≡ u
kept true u = refl
kept false u = refl

-- a cell after a write on side t, and after a copy to it
module _ (t : Side) (k : ℕ) (u : Stamps) where
  put_own : (b : Bool) → (cond b (does k (puts t) u) u).held t ≡ cond b (at k) (u.held t)
  put_own true = rw (is_same t)
  put_own false = refl

  put_others : (b : Bool) → (cond b (does k (puts t) u) u).held (other t) ≡ u.held (other t)
  put_others true = rw (is_other t)
  put_others false = refl

  put_latest : (b : Bool) → (cond b (does k (puts t) u) u).latest ≡ cond b k u.latest
  put_latest true = refl
  put_latest false = refl

  move_own : (b : Bool) → (cond b (does k (moves (other t) t) u) u).held t ≡ cond b (u.held (other t)) (u.held t)
  move_own true = rw (is_same t)
  move_own false = refl

  move_others : (b : Bool) → (cond b (does k (moves (other t) t) u) u).held (other t) ≡ u.held (other t)
  move_others true = rw (is_other t)
  move_others false = refl

  move_latest : (b : Bool) → (cond b (does k (moves (other t) t) u) u).latest ≡ u.latest
  move_latest true = refl
  move_latest false = refl

-- a cell of the range is as `new` says, and every other as it was
new_here : {k from to : ℕ} {new : ℕ → ℕ} {before after : List ℕ} → Changed k from to new before after → (c : ℕ) → stepped k from to c ≡ true → get_or after c 0 ≡ new c
new_here a c e = rw e at (a.cell c)

kept_there : {k from to : ℕ} {new : ℕ → ℕ} {before after : List ℕ} → Changed k from to new before after → (c : ℕ) → stepped k from to c ≡ false → get_or after c 0 ≡ get_or before c 0
kept_there a c e = rw e at (a.cell c)

-- what is known after a write, seen from its side
written_known : {layout : Layout} {a : ℕ} {whole : Bool} {k from to n : ℕ} {known known' : Known} {own own' others latest latest' : List ℕ} → Piece layout a whole k from to → Wrote false whole a known known' →
    Changed k from to (λ c. n) own own' → Changed k from to (λ c. n) latest latest' → Knows layout known own others latest → Knows layout known' own' others latest'
written_known p w x y m = record {
  on_host = added_sound p w.own (λ c e. new_here x c e ∙ sym (new_here y c e)) (kept_there x) (kept_there y) m.on_host;
  on_card = dropped_sound p w.others (kept_there y) m.on_card;
}

-- and after a copy
copied_known : {layout : Layout} {a : ℕ} {whole : Bool} {k from to : ℕ} {known known' : Known} {own own' others latest : List ℕ} → Piece layout a whole k from to → Copied whole a known known' →
    FirstStale others latest k from to to → Changed k from to (λ c. get_or others c 0) own own' → Knows layout known own others latest → Knows layout known' own' others latest
copied_known p w f x m = record {
  on_host = added_sound p w.on_host (λ c e. new_here x c e ∙ f.before c e) (kept_there x) (λ c e. refl) m.on_host;
  on_card = added_sound p w.on_card f.before (λ c e. refl) (λ c e. refl) m.on_card;
}

-- memories, flags and tally that hold the state σ, seen from side t
module _ {layout : Layout} {t : Side} {s : Stored} {own others latest : List ℕ} {σ : State} {l : List Event} (h : Holds layout t s own others latest σ l) where
  sees_own : Low s → Sees layout t own latest σ
  sees_own low = record { held = h.own_held; latest_is = h.latest_held; small = λ c. omega (arith, h.past.latest c, h.counted, low.writes) }

  sees_others : Low s → Sees layout (other t) others latest σ
  sees_others low = record { held = h.others_held; latest_is = h.latest_held; small = λ c. omega (arith, h.past.latest c, h.counted, low.writes) }

  -- the state after a record that comes to a deed and leaves such flags
  abbrev after : Action → Deed × (ℕ → Flags) → State
  after y z = record {
    cell = λ c. cond (covers layout y c) (does (suc σ.writes) z.0 (σ.cell c)) (σ.cell c);
    flags = z.1;
    writes = cond (same_verb y.verb write) (suc σ.writes) σ.writes;
  }

  -- memories, flags and tally that hold it hold the state after the record
  as_deed : (y : Action) (d : Deed) (f : ℕ → Flags) {s' : Stored} {own' others' latest' : List ℕ} → deed y σ ≡ d → ((a : ℕ) → (effect layout y σ).flags a ≡ f a) →
      (Past (after y (d, f)) → Holds layout t s' own' others' latest' (after y (d, f)) (record { number = 0; action = y; deed = d } ∷ l)) →
      Holds layout t s' own' others' latest' (effect layout y σ) (event 0 y σ ∷ l)
  as_deed y d f {s'} {own'} {others'} {latest'} p q g =
      let e : ◌≡◌ {A = Deed × (ℕ → Flags)} (deed y σ, (effect layout y σ).flags) (d, f) = λ i. (p i, λ a. q a i) in
      subst (λ (z : Deed × (ℕ → Flags)). Holds layout t s' own' others' latest' (after y z) (record { number = 0; action = y; deed = z.0 } ∷ l)) (sym e)
      (g (subst (λ (z : Deed × (ℕ → Flags)). Past (after y z)) e (past_effect layout y σ h.past)))

  -- the cells of y, which are those from `from` up to `to` at step k, get new copies on side t
  own_changed : {y : Action} {k from to : ℕ} → CellsAt layout y k from to → (new : ℕ → ℕ) (own' : List ℕ) → Changed k from to new own own' →
      (c : ℕ) → c < cell_count layout → (v : Stamp) → new c ≡ number_of v → get_or own' c 0 ≡ number_of (cond (covers layout y c) v ((σ.cell c).held t))
  own_changed {k = k} {from = from} {to = to} y new own' a c z v n = rw (y.cells c) (a.cell c ∙ chosen_number (stepped k from to c) (new c) (get_or own c 0) v ((σ.cell c).held t) n (h.own_held c z))

  -- what a record does to no flag
  same_flags : (x : Action) (f : ℕ → Flags) (a : ℕ) → cond (eqb a x.name) (f a) (f a) ≡ f a
  same_flags x f a = kept (eqb a x.name) (f a)

  module _ (x : Action) {k from to : ℕ} (z : CellsAt layout (with_verb read t x) k from to) where
    pub read_done : Low s → {r : ℕ} → FirstStale own latest k from to r → to ≤ r →
        FollowsAs layout (with_verb read t x) t σ l own others latest (Ok (record s { tally = record s.tally { reads = s.tally.reads + 1 } })) own latest
    read_done low {r} f m = (
      all_fine layout t own latest σ (sees_own low) (covers layout (with_verb read t x)) k from to (λ c i. z.cells c) (with_verb read t x) (λ c. refl) r f m,
      as_deed (with_verb read t x) (gets t) σ.flags refl (same_flags x σ.flags) λ past. record {
        own_room = h.own_room;
        others_room = h.others_room;
        latest_room = h.latest_room;
        own_held = λ c z. h.own_held c z ∙ ap (λ (u : Stamps). number_of (u.held t)) (sym (kept (covers layout (with_verb read t x) c) (σ.cell c)));
        others_held = λ c z. h.others_held c z ∙ ap (λ (u : Stamps). number_of (u.held (other t))) (sym (kept (covers layout (with_verb read t x) c) (σ.cell c)));
        latest_held = λ c z. h.latest_held c z ∙ ap (λ (u : Stamps). u.latest) (sym (kept (covers layout (with_verb read t x) c) (σ.cell c)));
        own_flags = h.own_flags;
        others_flags = h.others_flags;
        reads = omega (arith, h.reads);
        writes = h.writes;
        moved = h.moved;
        counted = h.counted;
        past = past;
        knows = h.knows;
      },
    )

    pub read_unmet : Low s → {r : ℕ} → FirstStale own latest k from to r → r < to → lowest_unmet layout (with_verb read t x) σ ≡ some r
    read_unmet low {r} f m =
        stale_at layout t own latest σ (sees_own low) (covers layout (with_verb read t x)) k from to (λ c i. z.cells c) (with_verb read t x) (λ c. refl) r f m z.ends

  module _ (x : Action) {a : ℕ} {whole : Bool} {k from to : ℕ} (z : CellsOf layout (with_verb write t x) a whole k from to) where
    pub write_done : (n : Known) → Wrote false whole a s.known n → {own' latest' : List ℕ} → Changed k from to (λ c. s.tally.writes + 1) own own' → Changed k from to (λ c. s.tally.writes + 1) latest latest' →
        FollowsAs layout (with_verb write t x) t σ l own others latest (Ok (record s { tally = record s.tally { writes = s.tally.writes + 1 }; known = n })) own' latest'
    write_done n w {own'} a b = (
      none_unmet layout (with_verb write t x) σ (λ c i. or-true (not (covers layout (with_verb write t x) c))),
      as_deed (with_verb write t x) (puts t) σ.flags refl (same_flags x σ.flags) λ past. record {
        own_room = omega (arith, h.own_room, a.size);
        others_room = h.others_room;
        latest_room = omega (arith, h.latest_room, b.size);
        own_held = λ c i. own_changed z.range _ own' a c i (at (suc σ.writes)) (omega (arith, h.counted)) ∙ ap number_of (sym (put_own t (suc σ.writes) (σ.cell c) (covers layout (with_verb write t x) c)));
        others_held = λ c i. h.others_held c i ∙ ap number_of (sym (put_others t (suc σ.writes) (σ.cell c) (covers layout (with_verb write t x) c)));
        latest_held = λ c i. b.cell c ∙ (chosen_stamp (stepped k from to c) (s.tally.writes + 1) (get_or latest c 0) (suc σ.writes) (σ.cell c).latest (omega (arith, h.counted)) (h.latest_held c i) ∙ rw (← z.range.cells c) (sym (put_latest t (suc σ.writes) (σ.cell c) (covers layout (with_verb write t x) c))));
        own_flags = h.own_flags;
        others_flags = h.others_flags;
        reads = h.reads;
        writes = omega (arith, h.writes);
        moved = h.moved;
        counted = omega (arith, h.counted);
        past = past;
        knows = written_known (range_piece z) w a b h.knows;
      },
    )

  -- a copy of the cells of y, whatever becomes of the flags
  module _ {y : Action} {a : ℕ} {whole : Bool} {k from to : ℕ} (z : CellsOf layout y a whole k from to) (still : same_verb y.verb write ≡ false) where
    moved_cells : {s' s'' : Stored} {own' : List ℕ} (f : ℕ → Flags) → MovesCells a whole k from to s own others latest (Ok s') own' →
        s''.host_flags ≡ mask (length layout.lengths) (λ b. (f b).flag t) → s''.card_flags ≡ mask (length layout.lengths) (λ b. (f b).flag (other t)) →
        s''.tally.reads ≡ s'.tally.reads → s''.tally.writes ≡ s'.tally.writes → s''.tally.moved ≡ s'.tally.moved → s''.known ≡ s'.known →
        Past (after y (moves (other t) t, f)) → Holds layout t s'' own' others latest (after y (moves (other t) t, f)) (record { number = 0; action = y; deed = moves (other t) t } ∷ l)
    moved_cells {own' = own'} f (g, m, e, n) own_flags others_flags r w v q past = record {
      own_room = omega (arith, h.own_room, m.size);
      others_room = h.others_room;
      latest_room = h.latest_room;
      own_held = λ c i. own_changed z.range _ own' m c i ((σ.cell c).held (other t)) (h.others_held c i) ∙ ap number_of (sym (move_own t (suc σ.writes) (σ.cell c) (covers layout y c)));
      others_held = λ c i. h.others_held c i ∙ ap number_of (sym (move_others t (suc σ.writes) (σ.cell c) (covers layout y c)));
      latest_held = λ c i. h.latest_held c i ∙ sym (move_latest t (suc σ.writes) (σ.cell c) (covers layout y c));
      own_flags = own_flags;
      others_flags = others_flags;
      reads = r ∙ (ap (λ (z : Stored). z.tally.reads) e ∙ h.reads);
      writes = w ∙ (ap (λ (z : Stored). z.tally.writes) e ∙ h.writes);
      moved = omega (arith, v, ap (λ (z : Stored). z.tally.moved) e, h.moved, z.range.count);
      counted = rw still (w ∙ (ap (λ (z : Stored). z.tally.writes) e ∙ h.counted));
      past = past;
      knows = rw q (copied_known (range_piece z) n g m h.knows);
    }

    stale_source : Low s → ((c : ℕ) → met layout y σ c ≡ (not (covers layout y c) || current (σ.cell c) (other t))) → {r : ℕ} → FirstStale others latest k from to r → r < to → lowest_unmet layout y σ ≡ some r
    stale_source low e {r} f m = stale_at layout (other t) others latest σ (sees_others low) (covers layout y) k from to (λ c i. z.range.cells c) y e r f m z.range.ends

    fine_source : Low s → ((c : ℕ) → met layout y σ c ≡ (not (covers layout y c) || current (σ.cell c) (other t))) → FirstStale others latest k from to to → lowest_unmet layout y σ ≡ none
    fine_source low e f = all_fine layout (other t) others latest σ (sees_others low) (covers layout y) k from to (λ c i. z.range.cells c) y e to f (omega arith)

  -- a copy
  pub copy_follows : (x : Action) {a : ℕ} {whole : Bool} {k from to : ℕ} → CellsOf layout (with_verb copy t x) a whole k from to → Low s → (r : Acted) (own' : List ℕ) →
      MovesCells a whole k from to s own others latest r own' → FollowsAs layout (with_verb copy t x) t σ l own others latest r own' latest
  copy_follows x z low (Ok s') own' m = (
    fine_source z refl low (λ c. refl) m.0,
    as_deed (with_verb copy t x) (moves (other t) t) σ.flags refl (same_flags x σ.flags)
        (moved_cells z refl σ.flags m (ap (λ (z : Stored). z.host_flags) m.2 ∙ h.own_flags) (ap (λ (z : Stored). z.card_flags) m.2 ∙ h.others_flags) refl refl refl refl),
  )
  copy_follows x z low (Err c) own' (f, m, e) = (stale_source z refl low (λ c. refl) f m, e, refl)

  module _ (x : Action) {a : ℕ} {whole : Bool} {k from to : ℕ} (z : CellsOf layout (with_verb need t x) a whole k from to) where
    abbrev y : Action
    y = with_verb need t x

    own_flag : (b : Bool) → (σ.flags a).flag t ≡ b → (σ.flags x.name).flag t ≡ b
    own_flag b e = rw z.array e

    -- a need of an array whose flag is set
    pub need_idle : (σ.flags a).flag t ≡ true → FollowsAs layout y t σ l own others latest (Ok s) own latest
    need_idle e = (
      none_unmet layout y σ (λ c i. ap (λ (r : Deed × Flags). not (covers layout y c) || needs r.0 (σ.cell c)) (flag_set t (σ.flags x.name) (own_flag true e)) ∙ or-true (not (covers layout y c))),
      as_deed y nothing σ.flags (ap (λ (r : Deed × Flags). r.0) (flag_set t (σ.flags x.name) (own_flag true e))) idle λ past. record {
        own_room = h.own_room;
        others_room = h.others_room;
        latest_room = h.latest_room;
        own_held = λ c i. h.own_held c i ∙ ap (λ (u : Stamps). number_of (u.held t)) (sym (kept (covers layout y c) (σ.cell c)));
        others_held = λ c i. h.others_held c i ∙ ap (λ (u : Stamps). number_of (u.held (other t))) (sym (kept (covers layout y c) (σ.cell c)));
        latest_held = λ c i. h.latest_held c i ∙ ap (λ (u : Stamps). u.latest) (sym (kept (covers layout y c) (σ.cell c)));
        own_flags = h.own_flags;
        others_flags = h.others_flags;
        reads = h.reads;
        writes = h.writes;
        moved = h.moved;
        counted = h.counted;
        past = past;
        knows = h.knows;
      },
    )
      where
        idle : (b : ℕ) → (effect layout y σ).flags b ≡ σ.flags b
        idle b = go (eqb b x.name) refl
          where
            go : (o : Bool) → eqb b x.name ≡ o → cond o (comes_to need t (σ.flags b)).1 (σ.flags b) ≡ σ.flags b
            go true q = ap (λ (r : Deed × Flags). r.1) (flag_set t (σ.flags b) (rw (eqb-true b x.name q) (own_flag true e)))
            go false q = refl

    -- a need that copies
    module _ (low : Low s) (e : (σ.flags a).flag t ≡ false) where
      -- what it needs, and the flags that it leaves
      met_source : (c : ℕ) → met layout y σ c ≡ (not (covers layout y c) || current (σ.cell c) (other t))
      met_source c = ap (λ (r : Deed × Flags). not (covers layout y c) || needs r.0 (σ.cell c)) (flag_clear t (σ.flags x.name) (own_flag false e))

      abbrev both : ℕ → Flags
      both b = cond (eqb b a) (record { flag = λ u. true }) (σ.flags b)

      both_set : (b : ℕ) → (effect layout y σ).flags b ≡ both b
      both_set b = rw (← z.array) (go (eqb b x.name) refl)
        where
          go : (o : Bool) → eqb b x.name ≡ o → cond o (comes_to need t (σ.flags b)).1 (σ.flags b) ≡ cond o (record { flag = λ u. true }) (σ.flags b)
          go true q = ap (λ (r : Deed × Flags). r.1) (flag_clear t (σ.flags b) (rw (eqb-true b x.name q) (own_flag false e)))
          go false q = refl

      flag_both : (u : Side) (b : ℕ) → cond (eqb b a) true ((σ.flags b).flag u) ≡ (both b).flag u
      flag_both u b = go (eqb b a)
        where
          go : (o : Bool) → cond o true ((σ.flags b).flag u) ≡ (cond {A = Flags} o (record { flag = λ u. true }) (σ.flags b)).flag u
          go true = refl
          go false = refl

      pub need_follows : (r q : Acted) (own' : List ℕ) → MovesCells a whole k from to s own others latest r own' → BothSetAs r a q → FollowsAs layout y t σ l own others latest q own' latest
      need_follows (Ok s') (Ok s'') own' m b =
          let n = length layout.lengths in
          let one : a < n = rw z.array at z.range.one in (
            fine_source z refl low met_source m.0,
            as_deed y (moves (other t) t) both (ap (λ (r : Deed × Flags). r.0) (flag_clear t (σ.flags x.name) (own_flag false e))) both_set
                (moved_cells z refl both m
                (b.own n (λ b. (σ.flags b).flag t) one (ap (λ (z : Stored). z.host_flags) m.2 ∙ h.own_flags) ∙ mask_same n _ _ (λ d i. flag_both t d))
                (b.others n (λ b. (σ.flags b).flag (other t)) one (ap (λ (z : Stored). z.card_flags) m.2 ∙ h.others_flags) ∙ mask_same n _ _ (λ d i. flag_both (other t) d))
                b.reads b.writes b.moved b.known),
          )
      need_follows (Ok s') (Err c) own' m b = absurd b
      need_follows (Err c) (Ok s'') own' m b = absurd b
      need_follows (Err c) (Err c') own' m b = rw b (stale_source z refl low met_source m.0 m.1, m.2, refl)

  pub mark_done : (x : Action) (s' : Stored) →
      s'.host_flags ≡ mask (length layout.lengths) (λ b. cond (eqb b x.name) true ((σ.flags b).flag t)) →
      s'.card_flags ≡ mask (length layout.lengths) (λ b. cond (eqb b x.name) false ((σ.flags b).flag (other t))) →
      s'.tally.reads ≡ s.tally.reads → s'.tally.writes ≡ s.tally.writes → s'.tally.moved ≡ s.tally.moved → s'.known ≡ s.known →
      FollowsAs layout (with_verb mark t x) t σ l own others latest (Ok s') own latest
  mark_done x s' f g i j k w = (
    none_unmet layout (with_verb mark t x) σ (λ c i. or-true (not (covers layout (with_verb mark t x) c))),
    record {
      own_room = h.own_room;
      others_room = h.others_room;
      latest_room = h.latest_room;
      own_held = λ c i. h.own_held c i ∙ ap (λ (u : Stamps). number_of (u.held t)) (sym (kept (covers layout (with_verb mark t x) c) (σ.cell c)));
      others_held = λ c i. h.others_held c i ∙ ap (λ (u : Stamps). number_of (u.held (other t))) (sym (kept (covers layout (with_verb mark t x) c) (σ.cell c)));
      latest_held = λ c i. h.latest_held c i ∙ ap (λ (u : Stamps). u.latest) (sym (kept (covers layout (with_verb mark t x) c) (σ.cell c)));
      own_flags = f ∙ mask_same (length layout.lengths) _ _ (λ d z. marked d t true (is_same t));
      others_flags = g ∙ mask_same (length layout.lengths) _ _ (λ d z. marked d (other t) false (is_other t));
      reads = i ∙ h.reads;
      writes = j ∙ h.writes;
      moved = k ∙ h.moved;
      counted = j ∙ h.counted;
      past = past_effect layout (with_verb mark t x) σ h.past;
      knows = rw w h.knows;
    },
  )
    where
      marked : (d : ℕ) (u : Side) (v : Bool) → same_side u t ≡ v → cond (eqb d x.name) v ((σ.flags d).flag u) ≡ (cond {A = Flags} (eqb d x.name) (record { flag = λ u. same_side u t }) (σ.flags d)).flag u
      marked d u v e = go (eqb d x.name)
        where
          go : (o : Bool) → cond o v ((σ.flags d).flag u) ≡ (cond {A = Flags} o (record { flag = λ u. same_side u t }) (σ.flags d)).flag u
          go true = sym e
          go false = refl

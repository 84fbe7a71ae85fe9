-- A record acts on the memories of its side: the laws of each kind hold seen from that side, and so from the host; then by the record's kind.
use Prim.Native.Nat.{ℕ, ◌+◌, ◌≤◌, ◌<◌}
use mathlib.Core.Path.{◌≡◌, refl, ap}
use mathlib.Core.Bool.{Bool, true, false, cond, not, true≢false}
use mathlib.Core.List.{List}
use mathlib.Core.Option.{some}
use native.Mathlib.Omega.{arith}
use lib.Dec.{eqb}
use lib.ListN.{length}
use borrow.Author.Tests.{eq-eqb, ne_eqb}
use Rattle.model.specs.Sides.{Side, host, card, other, Layout}
use Rattle.model.specs.Records.{Verb, read, write, copy, need, mark, Action}
use Rattle.model.specs.Effects.{State}
use Rattle.model.specs.Runs.{Event, lowest_unmet}
use Rattle.reading.specs.declared.Fields.{Fields}
use Rattle.format.specs.Plans.{side_of, action_of}
use Rattle.format.proofs.Acts.{acting, by_kind}
use Rattle.memories.specs.Flags.{mask}
use Rattle.memories.specs.Inner.Ranges.{FirstStale, Changed, of_side, ChangedOn}
use Rattle.known.specs.declared.Known.{Known}
use Rattle.known.specs.Inner.Knowing.{Wrote}
use Rattle.std.specs.Prelude.{Ok, Err}
use Rattle.acts.specs.declared.Stored.{Stored}
use Rattle.acts.specs.Inner.Acting.{Acted, Low, with_verb, CellsAt, ArrayAt, CellsOf, Holds, BothSetAs, FollowsAs, ActsAs, Acts, side_on, flags_on, MovesCells, MovesOn}
use Rattle.acts.proofs.Acting.{read_done, read_unmet, write_done, copy_follows, need_idle, need_follows, mark_done}

-- what is known, seen from the other side
abbrev turned : Known → Known
turned k = record { host = k.card; card = k.host }

-- what is stored, seen from the other side
abbrev swapped : Stored → Stored
swapped s = record { host_flags = s.card_flags; card_flags = s.host_flags; tally = s.tally; known = turned s.known }

-- and seen from a side
abbrev seen : Bool → Stored → Stored
seen true s = swapped s
seen false s = s

abbrev seen_as : Bool → Acted → Acted
seen_as b (Ok s) = Ok (seen b s)
seen_as b (Err c) = Err c

low_seen : (b : Bool) {s : Stored} → Low s → Low (seen b s)
low_seen true low = record { reads = low.reads; writes = low.writes; moved = low.moved }
low_seen false low = low

moves_seen : (b : Bool) (a : ℕ) (whole : Bool) (k from to : ℕ) (s : Stored) (own others latest own' : List ℕ) (r : Acted) → MovesCells a whole k from to s own others latest r own' → MovesCells a whole k from to (seen b s) own others latest (seen_as b r) own'
moves_seen true a whole k from to s own others latest own' (Ok s') (f, m, e, n) = (f, m, ap swapped e, record { on_host = n.on_card; on_card = n.on_host })
moves_seen true a whole k from to s own others latest own' (Err c) m = m
moves_seen false a whole k from to s own others latest own' (Ok s') m = m
moves_seen false a whole k from to s own others latest own' (Err c) m = m

both_seen : (b : Bool) (a : ℕ) (r q : Acted) → BothSetAs r a q → BothSetAs (seen_as b r) a (seen_as b q)
both_seen true a (Ok s) (Ok s') m = record { own = m.others; others = m.own; reads = m.reads; writes = m.writes; moved = m.moved; known = ap turned m.known }
both_seen false a (Ok s) (Ok s') m = m
both_seen b a (Ok s) (Err c) m = absurd m
both_seen b a (Err c) (Ok s) m = absurd m
both_seen b a (Err c) (Err c') m = m

-- the same state seen from the other side
seen_from : (layout : Layout) (t u : Side) (s : Stored) (own others latest : List ℕ) (σ : State) (l : List Event) → other t ≡ u → other u ≡ t →
    Holds layout t s own others latest σ l → Holds layout u (swapped s) others own latest σ l
seen_from layout t u s own others latest σ l e f h = record {
  own_room = h.others_room;
  others_room = h.own_room;
  latest_room = h.latest_room;
  own_held = rw e at h.others_held;
  others_held = rw f h.own_held;
  latest_held = h.latest_held;
  own_flags = rw e at h.others_flags;
  others_flags = rw f h.own_flags;
  reads = h.reads;
  writes = h.writes;
  moved = h.moved;
  counted = h.counted;
  past = h.past;
  knows = record { on_host = h.knows.on_card; on_card = h.knows.on_host };
}

-- what a record did, seen from its side, is what it did, where the other side is as it was
module _ (layout : Layout) (y : Action) (σ : State) (l : List Event) (hs cs latest : List ℕ) where
  acts_on : (b : Bool) (r : Acted) (hs' cs' latest' : List ℕ) → of_side b cs' hs' ≡ of_side b cs hs →
      FollowsAs layout y (side_on b) σ l (of_side b hs cs) (of_side b cs hs) latest (seen_as b r) (of_side b hs' cs') latest' → ActsAs layout y σ l hs cs latest r hs' cs' latest'
  acts_on true (Ok s) hs' cs' latest' q (e, h) = (e, rw q (seen_from layout card host (swapped s) cs' hs latest' _ _ refl refl h))
  acts_on true (Err c) hs' cs' latest' q (e, f, g) = (e, q, f, g)
  acts_on false (Ok s) hs' cs' latest' q (e, h) = (e, rw q h)
  acts_on false (Err c) hs' cs' latest' q (e, f, g) = (e, f, q, g)

module _ {layout : Layout} {s : Stored} {hs cs latest : List ℕ} {σ : State} {l : List Event} (h : Holds layout host s hs cs latest σ l) where
  holds_on : (b : Bool) → Holds layout (side_on b) (seen b s) (of_side b hs cs) (of_side b cs hs) latest σ l
  holds_on true = seen_from layout host card s hs cs latest σ l refl refl h
  holds_on false = h

  -- the flags of a side
  pub flags_held : (b : Bool) → flags_on b s ≡ mask (length layout.lengths) (λ a. (σ.flags a).flag (side_on b))
  flags_held true = h.others_flags
  flags_held false = h.own_flags

  module _ (low : Low s) where
    pub read_done_on : (b : Bool) (x : Action) {k from to : ℕ} → CellsAt layout (with_verb read (side_on b) x) k from to → {r : ℕ} → FirstStale (of_side b hs cs) latest k from to r → to ≤ r →
        ActsAs layout (with_verb read (side_on b) x) σ l hs cs latest (Ok (record s { tally = record s.tally { reads = s.tally.reads + 1 } })) hs cs latest
    read_done_on true x z f m = acts_on layout (with_verb read card x) σ l hs cs latest true (Ok (record s { tally = record s.tally { reads = s.tally.reads + 1 } })) hs cs latest refl (read_done (holds_on true) x z (low_seen true low) f m)
    read_done_on false x z f m = acts_on layout (with_verb read host x) σ l hs cs latest false (Ok (record s { tally = record s.tally { reads = s.tally.reads + 1 } })) hs cs latest refl (read_done h x z low f m)

    pub read_unmet_on : (b : Bool) (x : Action) {k from to : ℕ} → CellsAt layout (with_verb read (side_on b) x) k from to → {r : ℕ} → FirstStale (of_side b hs cs) latest k from to r → r < to →
        lowest_unmet layout (with_verb read (side_on b) x) σ ≡ some r
    read_unmet_on b x z f m = read_unmet (holds_on b) x z (low_seen b low) f m

    pub write_done_on : (b : Bool) (x : Action) {a : ℕ} {whole : Bool} {k from to : ℕ} → CellsOf layout (with_verb write (side_on b) x) a whole k from to →
        (n : Known) → Wrote b whole a s.known n → {hs' cs' latest' : List ℕ} → ChangedOn b k from to (λ c. s.tally.writes + 1) hs cs hs' cs' → Changed k from to (λ c. s.tally.writes + 1) latest latest' →
        ActsAs layout (with_verb write (side_on b) x) σ l hs cs latest (Ok (record s { tally = record s.tally { writes = s.tally.writes + 1 }; known = n })) hs' cs' latest'
    write_done_on true x z n w {hs'} {cs'} {latest'} c d = acts_on layout (with_verb write card x) σ l hs cs latest true (Ok (record s { tally = record s.tally { writes = s.tally.writes + 1 }; known = n })) hs' cs' latest' c.others (write_done (holds_on true) x z (turned n) (record { own = w.own; others = w.others }) c.own d)
    write_done_on false x z n w {hs'} {cs'} {latest'} c d = acts_on layout (with_verb write host x) σ l hs cs latest false (Ok (record s { tally = record s.tally { writes = s.tally.writes + 1 }; known = n })) hs' cs' latest' c.others (write_done h x z n w c.own d)

    pub copy_acts : (b : Bool) (x : Action) {a : ℕ} {whole : Bool} {k from to : ℕ} → CellsOf layout (with_verb copy (side_on b) x) a whole k from to →
        {hs' cs' : List ℕ} (r : Acted) → MovesOn b a whole k from to s hs cs latest r hs' cs' → ActsAs layout (with_verb copy (side_on b) x) σ l hs cs latest r hs' cs' latest
    copy_acts b x {a} {whole} {k} {from} {to} z {hs'} {cs'} r m = acts_on layout (with_verb copy (side_on b) x) σ l hs cs latest b r hs' cs' latest m.others
        (copy_follows (holds_on b) x z (low_seen b low) (seen_as b r) (of_side b hs' cs') (moves_seen b a whole k from to s (of_side b hs cs) (of_side b cs hs) latest (of_side b hs' cs') r m.moves))

    module _ (b : Bool) (x : Action) {a : ℕ} {whole : Bool} {k from to : ℕ} (z : CellsOf layout (with_verb need (side_on b) x) a whole k from to) where
      pub need_idle_on : (σ.flags a).flag (side_on b) ≡ true → ActsAs layout (with_verb need (side_on b) x) σ l hs cs latest (Ok s) hs cs latest
      need_idle_on e = acts_on layout (with_verb need (side_on b) x) σ l hs cs latest b (Ok s) hs cs latest refl (need_idle (holds_on b) x z e)

      pub need_acts : {hs' cs' : List ℕ} (r q : Acted) → (σ.flags a).flag (side_on b) ≡ false → MovesOn b a whole k from to s hs cs latest r hs' cs' → BothSetAs r a q →
          ActsAs layout (with_verb need (side_on b) x) σ l hs cs latest q hs' cs' latest
      need_acts {hs'} {cs'} r q e m n = acts_on layout (with_verb need (side_on b) x) σ l hs cs latest b q hs' cs' latest m.others
          (need_follows (holds_on b) x z (low_seen b low) e (seen_as b r) (seen_as b q) (of_side b hs' cs') (moves_seen b a whole k from to s (of_side b hs cs) (of_side b cs hs) latest (of_side b hs' cs') r m.moves) (both_seen b a r q n))

  -- a mark
  pub mark_card : (b : Bool) (x : Action) (s' : Stored) → b ≡ true →
      s'.host_flags ≡ mask (length layout.lengths) (λ d. cond (eqb d x.name) false ((σ.flags d).flag host)) → s'.card_flags ≡ mask (length layout.lengths) (λ d. cond (eqb d x.name) true ((σ.flags d).flag card)) →
      s'.tally.reads ≡ s.tally.reads → s'.tally.writes ≡ s.tally.writes → s'.tally.moved ≡ s.tally.moved → s'.known ≡ s.known → ActsAs layout (with_verb mark (side_on b) x) σ l hs cs latest (Ok s') hs cs latest
  mark_card true x s' e f g i j m n = acts_on layout (with_verb mark card x) σ l hs cs latest true (Ok s') hs cs latest refl (mark_done (holds_on true) x (swapped s') g f i j m (ap turned n))
  mark_card false x s' e f g i j m n = absurd (true≢false (rw e refl))

  pub mark_host : (b : Bool) (x : Action) (s' : Stored) → b ≡ false →
      s'.host_flags ≡ mask (length layout.lengths) (λ d. cond (eqb d x.name) true ((σ.flags d).flag host)) → s'.card_flags ≡ mask (length layout.lengths) (λ d. cond (eqb d x.name) false ((σ.flags d).flag card)) →
      s'.tally.reads ≡ s.tally.reads → s'.tally.writes ≡ s.tally.writes → s'.tally.moved ≡ s.tally.moved → s'.known ≡ s.known → ActsAs layout (with_verb mark (side_on b) x) σ l hs cs latest (Ok s') hs cs latest
  mark_host false x s' e f g i j m n = acts_on layout (with_verb mark host x) σ l hs cs latest false (Ok s') hs cs latest refl (mark_done h x s' f g i j m n)
  mark_host true x s' e f g i j m n = absurd (true≢false e)

-- a record's side
side_same : (n : ℕ) (b : Bool) → eqb n 0 ≡ b → side_on (not b) ≡ side_of n
side_same n true e = rw e refl
side_same n false e = rw e refl

carry : (P : Side → Type 0) {t u : Side} → t ≡ u → P t → P u
carry P e p = rw e at p

-- what a record with the fields x, whose cells are `from` up to `to` at step k, does
module _ (x : Fields) (whole : Bool) (k from to : ℕ) (s : Stored) (hs cs latest : List ℕ) (r : Acted) where
  abbrev on : Bool
  on = not (eqb x.side 0)

  -- the array and the cells that it names
  abbrev named : Action
  named = acting read x

  abbrev As : List ℕ → List ℕ → List ℕ → Action → Type 0
  As hs' cs' latest' y = (layout : Layout) → CellsAt layout y k from to → (whole ≡ true → ArrayAt layout x.array k from to) → Acts layout y s hs cs latest r hs' cs' latest'

  same : side_on on ≡ side_of x.side
  same = side_same x.side (eqb x.side 0) refl

  -- of any verb, seen from its side
  by_verb : (v : Verb) (hs' cs' latest' : List ℕ) →
      ((layout : Layout) → CellsOf layout (with_verb v (side_on on) named) x.array whole k from to → Acts layout (with_verb v (side_on on) named) s hs cs latest r hs' cs' latest') →
      As hs' cs' latest' (acting v x)
  by_verb v hs' cs' latest' p = carry (λ t. As hs' cs' latest' (with_verb v t named)) same (λ layout z w. p layout (record { range = z; array = refl; all = w }))

  pub here_read : x.kind ≡ 1 →
      ((layout : Layout) (z : Action) → CellsAt layout (with_verb read (side_on on) z) k from to → Acts layout (with_verb read (side_on on) z) s hs cs latest r hs cs latest) →
      As hs cs latest (action_of x)
  here_read e p =
      by_kind x (omega arith, omega arith) (As hs cs latest)
      (λ _. by_verb read hs cs latest (λ layout z. p layout named z.range))
      (λ z. absurd (omega arith)) (λ z. absurd (omega arith)) (λ z. absurd (omega arith)) (λ z. absurd (omega arith))

  pub here_write : x.kind ≡ 2 → (hs' cs' latest' : List ℕ) →
      ((layout : Layout) (z : Action) → CellsOf layout (with_verb write (side_on on) z) x.array whole k from to → Acts layout (with_verb write (side_on on) z) s hs cs latest r hs' cs' latest') →
      As hs' cs' latest' (action_of x)
  here_write e hs' cs' latest' p =
      by_kind x (omega arith, omega arith) (As hs' cs' latest') (λ z. absurd (omega arith))
      (λ _. by_verb write hs' cs' latest' (λ layout. p layout named))
      (λ z. absurd (omega arith)) (λ z. absurd (omega arith)) (λ z. absurd (omega arith))

  pub here_move : (1 ≤ x.kind) × (x.kind ≤ 5) → (x.kind ≡ 1 → ⊥) → (x.kind ≡ 2 → ⊥) → (x.kind ≡ 5 → ⊥) → (hs' cs' : List ℕ) →
      (eqb x.kind 4 ≡ false → (layout : Layout) (z : Action) → CellsOf layout (with_verb copy (side_on on) z) x.array whole k from to → Acts layout (with_verb copy (side_on on) z) s hs cs latest r hs' cs' latest) →
      (eqb x.kind 4 ≡ true → (layout : Layout) (z : Action) → CellsOf layout (with_verb need (side_on on) z) x.array whole k from to → Acts layout (with_verb need (side_on on) z) s hs cs latest r hs' cs' latest) →
      As hs' cs' latest (action_of x)
  here_move b n1 n2 n5 hs' cs' m p =
      by_kind x b (As hs' cs' latest) (λ z. absurd (n1 z)) (λ z. absurd (n2 z))
      (λ e. by_verb copy hs' cs' latest (λ layout. m (ne_eqb x.kind 4 (λ z. omega arith)) layout named))
      (λ e. by_verb need hs' cs' latest (λ layout. p (eq-eqb x.kind 4 e) layout named))
      (λ z. absurd (n5 z))

  pub here_mark : x.kind ≡ 5 →
      ((layout : Layout) (z : Action) (hs cs latest : List ℕ) → z.name ≡ x.array → x.array < length layout.lengths → Acts layout (with_verb mark (side_on on) z) s hs cs latest r hs cs latest) →
      As hs cs latest (action_of x)
  here_mark e p =
      by_kind x (omega arith, omega arith) (As hs cs latest)
      (λ z. absurd (omega arith)) (λ z. absurd (omega arith)) (λ z. absurd (omega arith)) (λ z. absurd (omega arith))
      (λ _. by_verb mark hs cs latest (λ layout z. p layout named hs cs latest refl z.range.one))

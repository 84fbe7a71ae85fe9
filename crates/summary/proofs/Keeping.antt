-- The rows that a walk keeps, and what is known of a row that it finds.
use Prim.Native.Nat.{ℕ, ◌+◌, ◌-◌, ◌*◌, ◌≤◌, ◌<◌}
use mathlib.Core.Path.{◌≡◌, sym, ◌∙◌}
use mathlib.Core.Logic.{inl}
use mathlib.Core.List.{List}
use native.Nat.{ℕᴺ_discrete}
use native.Mathlib.Omega.{arith}
use native.Mathlib.Decide.{dec_lt}
use lib.Dec.{eqb}
use lib.ListN.{length, length-set, get_or, set, replicate, length-replicate, get_or-replicate, get_or-eq_default}
use lib.Seq.{get_or-set_same, get_or-set_other}
use borrow.Author.Tests.{eqb-true, eq-eqb, ne_eqb}
use Rattle.model.specs.Records.{Action}
use Rattle.model.specs.Blocks.{Block, done, loop, fixed}
use Rattle.model.proofs.Status.{Status}
use Rattle.reading.specs.declared.Fields.{Fields}
use Rattle.reading.specs.Bytes.{layout_of, record_count}
use Rattle.format.specs.Inner.Walks.{block_between}
use Rattle.std.specs.Prelude.{Option}
use Rattle.model.specs.declared.Record.{Record}
use Rattle.statuses.specs.declared.acts.Found.{Found}
use Rattle.statuses.specs.Inner.Sets.{statuses, index, bit, In, Union, number_of}
use Rattle.summary.specs.declared.Arm.{Arm}
use Rattle.summary.specs.declared.Row.{Row}
use Rattle.summary.specs.declared.Walk.{Walk}
use Rattle.summary.specs.Inner.Ways.{blank, Kept, Room, Exact, cell_of, Ready, Body, nest, Passed}
use Rattle.statuses.proofs.Statuses.{index_below}
use Rattle.summary.proofs.Ways.{Found_in, ran_from, ran_branch}

module _ (f : List ℕ) where
  -- a table of blank rows
  pub room_none : (n : ℕ) → 16 * record_count f ≤ n → Room f 0 (replicate n blank)
  room_none n h = record { long = rw (length-replicate {A = Row} n blank) h; old = λ i. rw (none i) (omega arith) }
    where
      none : (i : ℕ) → ◌≡◌ {A = Row} (get_or (replicate n blank) i blank) blank
      none i = elim (dec_lt i n) [
        | yes l ↦ get_or-replicate n i blank blank l
        | no l ↦ get_or-eq_default (replicate n blank) blank (rw (length-replicate {A = Row} n blank) (omega arith))
      ]

  pub room_later : (rows : List Row) (class later : ℕ) → class ≤ later → Room f class rows → Room f later rows
  room_later rows class later h m = record { long = m.long; old = λ i. let l = m.old i in omega arith }

-- a walk that was ready still is, with the rows that another walk left
pub ready_again : {walk : Walk} {rows rows' : List Row} {low low' : Option Record} → Ready walk rows low → Exact walk.plan.file.now (cell_of walk.class) walk.class rows' (number_of low') → Ready walk rows' low'
ready_again p x = record {
  plain = p.plain;
  array = p.array;
  offset = p.offset;
  is = p.is;
  inside = p.inside;
  leads = p.leads;
  exact = x;
}

module _ (f : List ℕ) (c class : ℕ) where
  -- no row is of a class that begins
  pub exact_none : (rows : List Row) (before low : ℕ) → before < class → Room f before rows → Exact f c class rows low
  exact_none rows before low h m = record {
    row = λ k w l e. let z = m.old (16 * k + w) in absurd (omega arith);
    room = room_later f rows before class (omega arith) m;
  }

  pub exact_lower : (rows : List Row) (low low' : ℕ) → low' ≤ low → Exact f c class rows low → Exact f c class rows low'
  exact_lower rows low low' h x = record {
    row = λ k w l p. let q = x.row k w l p in record {
      exits = q.exits;
      least = λ u r e s. let b = q.least u r e s in (omega arith, omega arith);
    };
    room = x.room;
  }

  module _ (arm : Arm) (w : ℕ) (h : w < statuses) (b : Body f arm) where
    -- the row is there
    pub row_known : (rows : List Row) (low : Option Record) (t : Found) → Exact f c class rows (number_of low) → (get_or rows (16 * arm.r + w) blank).class ≡ class → t.set ≡ (get_or rows (16 * arm.r + w) blank).exits → t.low ≡ low →
        Passed f c class (block_between f (arm.r + 1) arm.second) (λ u. index u ≡ w) low rows t
    row_known rows low t x ec es el =
        let q = x.row arm.r w h ec in
        record {
          ran = rw b.ends (record {
            exits = rw (← es) at q.exits;
            lower = rw el (omega arith);
            named = inl el;
            least = rw el q.least;
          });
          exact = rw el x;
        }

    -- it is found and kept
    pub row_kept : (rows : List Row) (low : Option Record) (y : Row) (one : ℕ) (t : Found) → y.class ≡ class → y.exits ≡ t.set →
        ((i : ℕ) → i < statuses → bit one i ≡ eqb i w) →
        Passed f c class (block_between f (arm.r + 1) arm.second) (In one) low rows t →
        Passed f c class (block_between f (arm.r + 1) arm.second) (λ u. index u ≡ w) low (set rows (16 * arm.r + w) y) t
    row_kept rows low y one t ec es o p = record { ran = ran; exact = record { row = row; room = record { long = simp length-set p.exact.room.long; old = old } } }
      where
        to : (u : Status) → In one u → index u ≡ w
        to u e = eqb-true _ _ (sym (o (index u) (index_below u)) ∙ e)

        back : (u : Status) → index u ≡ w → In one u
        back u e = o (index u) (index_below u) ∙ eq-eqb _ _ e

        ran : Found_in (layout_of f) c (block_between f (arm.r + 1) arm.second) (λ u. index u ≡ w) low t
        ran = ran_from (λ u. (to u, back u)) p.ran

        past : (j : ℕ) → length rows ≤ j → ◌≡◌ {A = Row} (get_or (set rows (16 * arm.r + w) y) j blank) blank
        past j l = get_or-eq_default (set rows (16 * arm.r + w) y) blank (simp length-set l)

        old : (j : ℕ) → (get_or (set rows (16 * arm.r + w) y) j blank).class ≤ class
        old j = elim (ℕᴺ_discrete j (16 * arm.r + w)) [
          | yes e ↦ elim (dec_lt j (length rows)) [
            | yes l ↦ rw (e, get_or-set_same rows (16 * arm.r + w) y blank (rw e at l)) (omega arith)
            | no l ↦ rw (past j (omega arith)) (omega arith)
          ]
          | no n ↦ rw (get_or-set_other rows (16 * arm.r + w) j y blank n) (p.exact.room.old j)
        ]

        row : (k v : ℕ) → v < statuses → (get_or (set rows (16 * arm.r + w) y) (16 * k + v) blank).class ≡ class → Kept f c (number_of t.low) k v (get_or (set rows (16 * arm.r + w) y) (16 * k + v) blank).exits
        row k v j g = elim (ℕᴺ_discrete (16 * k + v) (16 * arm.r + w)) [
          | yes e ↦ let ek : k ≡ arm.r = omega arith in
              let ev : v ≡ w = omega arith in
              let l : 16 * arm.r + w < length rows = omega (arith, b.ends, b.below, p.exact.room.long) in
              rw (ek, ev, get_or-set_same rows (16 * arm.r + w) y blank l, es) (record { exits = rw b.ends at ran.exits; least = rw b.ends at ran.least })
          | no n ↦ let z = get_or-set_other rows (16 * arm.r + w) (16 * k + v) y blank n in rw z (p.exact.row k v j (rw z at g))
        ]

  -- what stands at record r, by its fields x
  module _ (x : Fields) (r : ℕ) (a b : Block Action) (from : Status → Type 0) (low : Option Record) where
    -- a branch: its arms one after the other, each from the same statuses
    pub passed_branch : (rows rows' : List Row) (one two t : Found) → x.kind ≡ 6 → Union t.set one.set two.set → t.low ≡ two.low →
        Passed f c class a from low rows one → Passed f c class b from one.low rows' two → Passed f c class (nest x r a b) from low rows' t
    passed_branch rows rows' one two t e ts tl p q = record {
      ran = rw (eq-eqb x.kind 6 e) (ran_branch (layout_of f) c a b from low one two p.ran r q.ran t ts tl);
      exact = rw tl q.exact;
    }

    pub passed_fixed : (rows : List Row) (t : Found) → x.kind ≡ 9 → Passed f c class (fixed r (x.q - 1) a done) from low rows t → Passed f c class (nest x r a b) from low rows t
    passed_fixed rows t e p = rw (ne_eqb x.kind 6 (λ z. omega arith), eq-eqb x.kind 9 e) p

    pub passed_loop : (rows : List Row) (t : Found) → (x.kind ≡ 6 → ⊥) → (x.kind ≡ 9 → ⊥) → Passed f c class (loop r a done) from low rows t → Passed f c class (nest x r a b) from low rows t
    passed_loop rows t n m p = rw (ne_eqb x.kind 6 n, ne_eqb x.kind 9 m) p

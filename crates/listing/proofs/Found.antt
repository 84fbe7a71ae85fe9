-- The arrays and the bodies of a file that opens, as opening found them: their entries, and that their records can be walked in the body's own bytes.
use mathlib.Core.Path.{◌≡◌, refl, ap, ◌∙◌}
use mathlib.Core.List.{List}
use Prim.Native.Nat.{ℕ, ◌+◌, ◌*◌, ◌-◌, ◌≤◌, ◌<◌}
use native.Mathlib.Numerals.{add-one}
use native.Mathlib.Omega.{arith}
use lib.ListN.{length, get_or, take, drop, length-drop}
use lib.Seq.{get_or-take, get_or-drop, length-take-le}
use borrow.Author.Tests.{leb-false}
use Rattle.std.specs.Prelude.{Ok}
use Rattle.model.specs.Verdicts.{Accepted}
use Rattle.model.specs.Sides.{span_of}
use Rattle.reading.specs.declared.Fields.{Fields}
use Rattle.contents.specs.declared.Opened.{Opened}
use Rattle.reading.specs.Bytes.{byte_at, u16_at, array_count, body_count, length_at, layout_of, records_in, sizes_of, first_record, bodies_at, fields_at, first_arm, second_arm}
use Rattle.format.specs.Opening.{open_rows, opening, opened}
use Rattle.contents.specs.Found.{found}
use Rattle.format.specs.Views.{body_view_answer, body_at, body_part, body_view}
use Rattle.format.specs.Inner.Walks.{Walkable}
use Rattle.model.proofs.Rows.{skipped, passed}
use Rattle.reading.proofs.Tables.{next_cell, next_record, first_rises}
use Rattle.contents.proofs.Bounds.{entry_inside}
use Rattle.format.proofs.Views.{view_some}
use Rattle.format.proofs.Walking.{opens, found_is, steps, opened_facts, array_start, body_start}
use Rattle.format.proofs.Acts.{arms}
use Rattle.listing.specs.Inner.Bodies.{fields_in, Listable}

-- entry a of a table of first numbers: it is one of 32, and the next entry is no smaller
pub record Entry (starts : List ℕ) (a : ℕ) : Type 0 where
  pub low : a < 32
  pub rises : get_or starts a 0 ≤ get_or starts (a + 1) 0

-- a body: its entry, and its records in its own bytes
pub record Stands (f starts : List ℕ) (b : ℕ) : Type 0 where
  pub entry : Entry starts b
  pub few : get_or starts (b + 1) 0 ≤ 1024
  pub lists : Listable (body_view f b) (get_or starts b 0) 0 (get_or starts (b + 1) 0 - get_or starts b 0)

-- the plan has a body that the body view accepts
pub viewed_body : (f : List ℕ) (b : ℕ) → Accepted ≡ body_view_answer f b → (Accepted ≡ opening f) × (b < body_count f)
unfolding body_view_answer opening
viewed_body f b e = let p = passed (open_rows f) _ e in (p.0, leb-false _ _ (skipped _ _ _ _ p.1).0)

-- the same records of a plan, from one number to another
moved : {f : List ℕ} {r end : ℕ} (s t : ℕ) → r ≡ s → end ≡ t → Walkable f r end → Walkable f s t
moved s t p q w = rw (p, q) at w

-- eight bytes that are the same give the same fields
module _ (g f : List ℕ) (a c : ℕ) (near : (m n k : ℕ) → m ≡ a + k → n ≡ c + k → k < 8 → byte_at g m ≡ byte_at f n) where
  same_fields : ◌≡◌ {A = Fields} (record { kind = byte_at g a; side = byte_at g (a + 1); array = byte_at g (a + 2); step = byte_at g (a + 3); p = u16_at g (a + 4); q = u16_at g (a + 6) }) (record { kind = byte_at f c; side = byte_at f (c + 1); array = byte_at f (c + 2); step = byte_at f (c + 3); p = u16_at f (c + 4); q = u16_at f (c + 6) })
  unfolding u16_at
  same_fields =
      let e₀ = near a c 0 (omega arith) (omega arith) (omega arith) in
      let e₁ = near (a + 1) (c + 1) 1 refl refl (omega arith) in
      let e₂ = near (a + 2) (c + 2) 2 refl refl (omega arith) in
      let e₃ = near (a + 3) (c + 3) 3 refl refl (omega arith) in
      let e₄ = near (a + 4) (c + 4) 4 refl refl (omega arith) in
      let e₅ = near (a + 4 + 1) (c + 4 + 1) 5 (omega arith) (omega arith) (omega arith) in
      let e₆ = near (a + 6) (c + 6) 6 refl refl (omega arith) in
      let e₇ = near (a + 6 + 1) (c + 6 + 1) 7 (omega arith) (omega arith) (omega arith) in
      rw (e₀, e₁, e₂, e₃, e₄, e₅, e₆, e₇)

-- the bytes of body b, one after the other, and its records
module _ (f : List ℕ) (b : ℕ) where
  abbrev body_bytes : List ℕ
  body_bytes = take (8 * records_in f b) (drop (body_at f b) f)

  near : (k : ℕ) → k < 8 * records_in f b → byte_at body_bytes k ≡ byte_at f (bodies_at f + 8 * first_record f b + k)
  near k h = get_or-take (8 * records_in f b) (drop (body_at f b) f) k 0 h ∙ get_or-drop (body_at f b) f k 0

  record_near : (i : ℕ) → i < records_in f b → fields_in body_bytes i ≡ fields_at f (first_record f b + i)
  unfolding fields_in fields_at
  record_near i h = same_fields body_bytes f (8 * i) (bodies_at f + 8 * (first_record f b + i)) (λ m n k p q l. rw (p, q) (near (8 * i + k) (omega arith) ∙ ap (byte_at f) (omega arith)))

module _ (f : List ℕ) (o : Opened) (open_as : Ok o ≡ opened f) where
  abbrev a : Accepted ≡ opening f
  a = opens f o open_as

  abbrev e : o ≡ found f
  e = found_is f o open_as

  pub counted : o.bodies ≡ body_count f
  counted = ap (λ x. x.bodies) e

  pub array_at : (k : ℕ) → k < o.arrays → Entry o.array_starts k
  array_at k h =
      let w = (opened_facts f a).bounds in
      let l : k < array_count f = rw (ap (λ x. x.arrays) e) at h in
      let n : (span_of (layout_of f) (k + 1)).first ≡ (span_of (layout_of f) k).first + length_at f k = rw add-one (next_cell f k l) in
      let here = array_start f o e w k (omega arith) in
      let next = array_start f o e w (k + 1) (omega arith) in
      record { low = omega (arith, w.header.arrays); rises = omega arith }

  pub array_inside : (k : ℕ) → k < o.arrays → 4 + 2 * k + 2 ≤ length f
  array_inside k h = entry_inside f (opened_facts f a).bounds k (rw (ap (λ x. x.arrays) e) at h)

  module _ (b : ℕ) (l : b < body_count f) where
    is_body : body_view f b ≡ body_bytes f b
    unfolding body_view body_part
    is_body = rw (← view_some f b a l)

    pub body_stands : Stands f o.body_starts b
    body_stands =
        let w = (opened_facts f a).bounds in
        let n : first_record f (b + 1) ≡ first_record f b + records_in f b = rw add-one (next_record f b l) in
        let here = body_start f o e w b (omega arith) in
        let next = body_start f o e w (b + 1) (omega arith) in
        let inside : body_at f b + 8 * records_in f b ≤ length f = omega (arith, w.long, first_rises (sizes_of f) (b + 1) (body_count f) (omega arith)) in
        let long : 8 * records_in f b ≤ length (body_bytes f b) = omega (arith, length-take-le (8 * records_in f b) (drop (body_at f b) f) (simp length-drop (omega arith))) in
        let size : get_or o.body_starts (b + 1) 0 - get_or o.body_starts b 0 ≡ records_in f b = omega arith in
        record {
          entry = record { low = omega (arith, w.header.bodies); rises = omega arith };
          few = omega (arith, w.records, first_rises (sizes_of f) (b + 1) (body_count f) (omega arith));
          lists = rw (is_body, size, here) (record { long = long; plan = f; walks = moved (first_record f b + 0) (first_record f b + records_in f b) (omega arith) (next_record f b l) (record { body = b; depth = 0; around = 1; good = (opened_facts f a).good b l }); same = record_near f b });
        }

-- what is known of record r's arms once they are read
pub record Parts (body : List ℕ) (first r end i j : ℕ) : Type 0 where
  pub inside : r + 1 + i + j ≤ end
  pub one : Listable body first (r + 1) (r + 1 + i)
  pub two : Listable body first (r + 1 + i) (r + 1 + i + j)
  pub rest : Listable body first (r + 1 + i + j) end

pub parts : {body : List ℕ} {first r end : ℕ} {x : Fields} → Listable body first r end → r < end → x ≡ fields_in body r → (i j : ℕ) → i ≡ first_arm x → j ≡ second_arm x → Parts body first r end i j
parts {first = first} {r = r} {end = end} w h e i j p q =
    let a = arms (steps w.plan (first + r) (first + end) (omega arith) w.walks _ (e ∙ w.same r h)) i j p q in
    let n : r + 1 + i + j ≤ end = omega (arith, a.inside) in
    record {
      inside = n;
      one = record { long = omega (arith, w.long); plan = w.plan; walks = moved (first + (r + 1)) (first + (r + 1 + i)) (omega arith) (omega arith) a.one; same = λ k l. w.same k (omega arith) };
      two = record { long = omega (arith, w.long); plan = w.plan; walks = moved (first + (r + 1 + i)) (first + (r + 1 + i + j)) (omega arith) (omega arith) a.two; same = λ k l. w.same k (omega arith) };
      rest = record { long = w.long; plan = w.plan; walks = moved (first + (r + 1 + i + j)) (first + end) (omega arith) refl a.rest; same = w.same };
    }

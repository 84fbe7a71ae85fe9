-- Where the parts of a plan's file stand: the readers of `Bytes` give back what `Files` wrote.
use mathlib.Core.Path.{◌≡◌, refl, sym, ap, ◌∙◌}
use mathlib.Core.Bool.{true, false}
use mathlib.Core.List.{List, [], ◌∷◌, ◌++◌, map}
use Prim.Native.Nat.{ℕ, zero, suc, ◌+◌, ◌*◌, ◌-◌, ◌/◌, ◌%◌, ◌^◌, ◌≤◌, ◌<◌}
use native.Mathlib.Omega.{arith}
use native.Mathlib.Numerals.{add-one, add-two, add-three, add-four, add_six}
use native.Mathlib.Nat.{add-zero, zero-add, add_assoc}
use lib.ListN.{length, get_or, length-append, length-map, get_or-map}
use lib.Dec.{leb}
use lib.Seq.{take_at, get_or-append_seam, get_or-append-add}
use borrow.Author.Tests.{eq-eqb}
use Rattle.model.specs.Lists.{sum_before, sum, chain}
use Rattle.model.specs.Sides.{span_of, Layout, is_scratch}
use Rattle.model.proofs.Booleans.{and_in}
use Rattle.reading.specs.declared.Fields.{Fields}
use Rattle.reading.specs.Bytes.{byte_at, u16_at, table, kind_of, array_count, body_count, length_at, scratch_at, scratch_of, layout_of, entry_at, records_in, declarations_in, sizes_of, first_record, record_count, bodies_at, fields_at, lengths_of}
use Rattle.reading.proofs.Tables.{length_table, getD_table, first_zero, first_more, cells_first, sums_within, length_again, scratch_again}
use Rattle.sums.specs.Sums.{plain_sum, weighted_sum, check_bytes}
use Rattle.frame.specs.Frame.{checks_fit}
use Rattle.files.specs.Files.{u16_bytes, record_bytes, Body, entry_bytes, array_entry, front, file}
use Rattle.files.proofs.Files.Holding.{Along, none, more, Holds, front_part, back_part, at_place, along_of, each_so, along_map, itself, joined_length, pieces, table_is}

-- numbers of two bytes
u16_back : (n : ℕ) → n % 256 + n / 256 * 256 ≡ n
u16_back n = omega arith

u16_is : (f : List ℕ) (i n : ℕ) → Holds (byte_at f) i (u16_bytes n) → u16_at f i ≡ n
unfolding u16_at
u16_is f i n (more low (more high none)) = rw (add-one, low, high) (u16_back n)

-- how long the parts are
lengths_length : (l : List ℕ) → length (chain u16_bytes l) ≡ 2 * length l
lengths_length = joined_length u16_bytes 2 (λ n. refl)

entries_length : (bodies : List Body) → length (chain entry_bytes bodies) ≡ 4 * length bodies
entries_length = joined_length entry_bytes 4 (λ b. refl)

abbrev pub array_entries : Layout → List ℕ
array_entries layout = table (array_entry layout) (length layout.lengths)

arrays_length : (layout : Layout) → length (chain u16_bytes (array_entries layout)) ≡ 2 * length layout.lengths
arrays_length layout = lengths_length (array_entries layout) ∙ rw (length_table (array_entry layout) (length layout.lengths))

front_length : (kind : ℕ) (layout : Layout) (bodies : List Body) → length (front kind layout bodies) ≡ 4 + 2 * length layout.lengths + 4 * length bodies
front_length kind layout bodies =
    omega (arith, length-append (chain u16_bytes (array_entries layout)) (chain entry_bytes bodies), arrays_length layout, entries_length bodies)

abbrev pub body_size : Body → ℕ
body_size b = length b.records

abbrev pub sizes : List Body → List ℕ
sizes bodies = map body_size bodies

abbrev body_bytes : Body → List ℕ
body_bytes b = chain record_bytes b.records

body_length : (b : Body) → length (body_bytes b) ≡ 8 * body_size b
body_length b = joined_length record_bytes 8 (λ x. refl) b.records

bodies_length : (bodies : List Body) → length (chain body_bytes bodies) ≡ 8 * sum (sizes bodies)
bodies_length [] = refl
bodies_length (b ∷ bodies) = omega (arith, length-append (body_bytes b) (chain body_bytes bodies), body_length b, bodies_length bodies)

-- the parts of a file, in order
record Parts (f : List ℕ) (kind : ℕ) (layout : Layout) (bodies : List Body) : Type 0 where
  kind_is : kind_of f ≡ kind
  array_count_is : array_count f ≡ length layout.lengths
  body_count_is : body_count f ≡ length bodies
  zero_is : byte_at f 3 ≡ 0
  lengths : Holds (byte_at f) 4 (chain u16_bytes (array_entries layout))
  entries : Holds (byte_at f) (4 + 2 * length layout.lengths) (chain entry_bytes bodies)
  records : Holds (byte_at f) (4 + 2 * length layout.lengths + 4 * length bodies) (chain body_bytes bodies)

parts : (f : List ℕ) (kind : ℕ) (layout : Layout) (bodies : List Body) → Holds (byte_at f) 0 (front kind layout bodies ++ chain body_bytes bodies) → Parts f kind layout bodies
parts f kind layout bodies (more e0 (more e1 (more e2 (more e3 h)))) =
    let lengths = chain u16_bytes (array_entries layout) in
    let entries = chain entry_bytes bodies in
    let contents = front_part (lengths ++ entries) (chain body_bytes bodies) h in
    let start : 4 + length (lengths ++ entries) ≡ 4 + 2 * length layout.lengths + 4 * length bodies = omega (arith, front_length kind layout bodies) in
    record {
      kind_is = e0;
      array_count_is = e1;
      body_count_is = e2;
      zero_is = e3;
      lengths = front_part lengths entries contents;
      entries = rw (arrays_length layout) at (back_part lengths contents);
      records = rw start at (back_part (lengths ++ entries) h);
    }

-- one entry and one record
module _ (f : List ℕ) where
  pub record Entry (b : ℕ) (x : Body) : Type 0 where
    pub records_are : records_in f b ≡ body_size x
    pub declarations_are : declarations_in f b ≡ x.declarations
    pub last_is : byte_at f (entry_at f b + 3) ≡ 0

  entry_is : (b : ℕ) (x : Body) → Holds (byte_at f) (entry_at f b) (entry_bytes x) → Entry b x
  entry_is b x (more e0 (more e1 (more e2 (more e3 none)))) =
      record {
        records_are = u16_is f (entry_at f b) (body_size x) (more e0 (more e1 none));
        declarations_are = rw add-two e2;
        last_is = rw add-three e3;
      }

  fields_are : (r : ℕ) (x : Fields) → Holds (byte_at f) (bodies_at f + 8 * r) (record_bytes x) → fields_at f r ≡ x
  unfolding fields_at
  fields_are r x (more e0 (more e1 (more e2 (more e3 (more e4 (more e5 (more e6 (more e7 none)))))))) =
      let i = bodies_at f + 8 * r in
      let p_is : u16_at f (i + 4) ≡ x.p = u16_is f (i + 4) x.p (rw add-four (more e4 (more e5 none))) in
      let q_is : u16_at f (i + 6) ≡ x.q = u16_is f (i + 6) x.q (rw add_six (more e6 (more e7 none))) in
      let side_is : byte_at f (i + 1) ≡ x.side = rw add-one e1 in
      let array_is : byte_at f (i + 2) ≡ x.array = rw add-two e2 in
      let step_is : byte_at f (i + 3) ≡ x.step = rw add-three e3 in
      λ j. record { kind = e0 j; side = side_is j; array = array_is j; step = step_is j; p = p_is j; q = q_is j }

abbrev no_body : Body
no_body = record { declarations = 0; records = [] }

-- arrays that their entries can tell of: each length leaves the highest bit free, and each array is scratch or not
pub record ArraysTold (layout : Layout) : Type 0 where
  pub short : (a : ℕ) → get_or layout.lengths a 0 < 2 ^ 15
  pub marked : length layout.scratch ≡ length layout.lengths

module _ (f : List ℕ) (kind : ℕ) (layout : Layout) (bodies : List Body) (p : Parts f kind layout bodies) where
  words_held : Holds (λ a. u16_at f (4 + 2 * a)) 0 (array_entries layout)
  words_held = each_so (λ a n h. u16_is f (4 + 2 * a) n h) (pieces u16_bytes 2 (λ n. refl) (byte_at f) 4 (array_entries layout) 0 p.lengths)

  word_is : (a : ℕ) → a < length layout.lengths → u16_at f (4 + 2 * a) ≡ array_entry layout a
  word_is a h =
      let n = length layout.lengths in
      let e : u16_at f (4 + 2 * (0 + a)) ≡ get_or (array_entries layout) a 0 = at_place words_held 0 a (rw (length_table (array_entry layout) n) h) in
      (rw zero-add at e) ∙ getD_table (array_entry layout) n a 0 h

  module _ (told : ArraysTold layout) where
    length_is : (a : ℕ) → a < length layout.lengths → length_at f a ≡ get_or layout.lengths a 0
    unfolding length_at
    length_is a h = ap (λ n. n % 2 ^ 15) (word_is a h) ∙ length_again (get_or layout.lengths a 0) (is_scratch layout a) (told.short a)

    mark_is : (a : ℕ) → a < length layout.lengths → scratch_at f a ≡ is_scratch layout a
    unfolding scratch_at
    mark_is a h = ap (leb (2 ^ 15)) (word_is a h) ∙ scratch_again (get_or layout.lengths a 0) (is_scratch layout a) (told.short a)

    lengths_held : Holds (length_at f) 0 layout.lengths
    lengths_held = along_of layout.lengths 0 0 (λ a h. rw zero-add (length_is a h))

    marks_held : Holds (scratch_at f) 0 layout.scratch
    marks_held = along_of layout.scratch 0 false (λ a h. rw zero-add (mark_is a (rw told.marked at h)))

    lengths_are : lengths_of f ≡ layout.lengths
    unfolding lengths_of
    lengths_are = rw p.array_count_is (table_is (length_at f) layout.lengths lengths_held)

    marks_are : scratch_of f ≡ layout.scratch
    unfolding scratch_of
    marks_are = rw (p.array_count_is, ← told.marked) (table_is (scratch_at f) layout.scratch marks_held)

    arrays_are : layout_of f ≡ layout
    arrays_are = λ i. record { lengths = lengths_are i; scratch = marks_are i }

  entries_held : Along (Entry f) 0 bodies
  unfolding entry_at
  entries_held =
      each_so (entry_is f)
      (pieces entry_bytes 4 (λ b. refl) (byte_at f) (4 + 2 * array_count f) bodies 0 (rw (add-zero, p.array_count_is) p.entries))

  bodies_start : bodies_at f ≡ 4 + 2 * length layout.lengths + 4 * length bodies
  unfolding entry_at
  bodies_start = rw (p.array_count_is, p.body_count_is)

  sizes_are : sizes_of f ≡ sizes bodies
  unfolding sizes_of
  sizes_are =
      rw (p.body_count_is, ← length-map bodies body_size)
      (table_is (records_in f) (sizes bodies) (along_map body_size (each_so (λ b x e. e.records_are) entries_held)))

  records_held : (l : List Fields) (r : ℕ) → Holds (byte_at f) (bodies_at f + 8 * r) (chain record_bytes l) → Holds (fields_at f) r l
  records_held l r h = each_so (fields_are f) (pieces record_bytes 8 (λ x. refl) (byte_at f) (bodies_at f) l r h)

  bodies_held : (l : List Body) (r b : ℕ) → Holds (byte_at f) (bodies_at f + 8 * r) (chain body_bytes l) → b < length l → Holds (fields_at f) (r + sum_before (sizes l) b) (get_or l b no_body).records
  unfolding sum_before
  bodies_held [] r b h k = absurd (omega arith)
  bodies_held (x ∷ l) r zero h k = rw add-zero (records_held x.records r (front_part (body_bytes x) (chain body_bytes l) h))
  bodies_held (x ∷ l) r (suc b) h k =
      let next : bodies_at f + 8 * r + length (body_bytes x) ≡ bodies_at f + 8 * (r + body_size x) = omega (arith, body_length x) in
      rw (← add_assoc) (bodies_held l (r + body_size x) b (rw next at (back_part (body_bytes x) h)) (omega arith))

-- a file with such arrays
pub record Arrayed (f : List ℕ) (layout : Layout) : Type 0 where
  pub counted : array_count f ≡ length layout.lengths
  pub held : Holds (length_at f) 0 layout.lengths

pub array_length : (f : List ℕ) (layout : Layout) → Arrayed f layout → (a : ℕ) → a < length layout.lengths → length_at f a ≡ (span_of layout a).length
array_length f layout p a h = rw zero-add at (at_place p.held 0 a h)

-- body b of a file
pub record Placed (f : List ℕ) (b : ℕ) (x : Body) : Type 0 where
  pub entry : Entry f b x
  pub next : first_record f (suc b) ≡ first_record f b + body_size x
  pub held : Holds (fields_at f) (first_record f b) x.records

-- a file with such contents
pub record Laid (f : List ℕ) (kind : ℕ) (layout : Layout) (bodies : List Body) : Type 0 where
  pub kind_is : kind_of f ≡ kind
  pub arrayed : Arrayed f layout
  pub body_count_is : body_count f ≡ length bodies
  pub zero_is : byte_at f 3 ≡ 0
  pub arrays_are : layout_of f ≡ layout
  pub start_is : first_record f 0 ≡ 0
  pub count_is : record_count f ≡ sum (sizes bodies)
  pub within : (b : ℕ) → first_record f b ≤ sum (sizes bodies)
  pub placed : Along (Placed f) 0 bodies
  pub bodies_start : bodies_at f ≡ 4 + 2 * length layout.lengths + 4 * length bodies
  pub long : length f ≡ bodies_at f + 8 * record_count f + 2
  pub checked : checks_fit f ≡ true

-- "Last two check bytes"
checks_of : (s : List ℕ) → checks_fit (s ++ check_bytes s) ≡ true
unfolding checks_fit check_bytes
checks_of s =
    let n_is : length (s ++ check_bytes s) - 2 ≡ length s = omega (arith, length-append s (check_bytes s)) in
    rw (n_is, take_at s (check_bytes s) (length s) refl, get_or-append_seam, get_or-append-add s (check_bytes s) 1 0)
    (and_in _ _ (eq-eqb (plain_sum s % 251) _ refl) (eq-eqb (weighted_sum 1 s % 251) _ refl))

module _ (kind : ℕ) (layout : Layout) (bodies : List Body) where
  abbrev f : List ℕ
  f = file kind layout bodies

  -- all but the check bytes
  abbrev summed : List ℕ
  summed = front kind layout bodies ++ chain body_bytes bodies

  summed_length : length summed ≡ 4 + 2 * length layout.lengths + 4 * length bodies + 8 * sum (sizes bodies)
  summed_length = omega (arith, length-append (front kind layout bodies) (chain body_bytes bodies), front_length kind layout bodies, bodies_length bodies)

  whole : Holds (byte_at f) 0 (summed ++ check_bytes summed)
  unfolding file
  whole = itself f

  file_length : length f ≡ length summed + 2
  unfolding file check_bytes
  file_length = length-append summed (check_bytes summed)

  checked : checks_fit f ≡ true
  unfolding file
  checked = checks_of summed

  -- the parts of it, and how long it is
  all_parts : Parts f kind layout bodies
  all_parts = parts f kind layout bodies (front_part summed (check_bytes summed) whole)

  pub file_kind : kind_of (file kind layout bodies) ≡ kind
  file_kind = all_parts.kind_is

  pub whole_length : length (file kind layout bodies) ≡ 4 + 2 * length layout.lengths + 4 * length bodies + 8 * sum (sizes bodies) + 2
  whole_length = omega (arith, file_length, summed_length)

  placed : Parts f kind layout bodies → Along (Placed f) 0 bodies
  placed p = along_of bodies 0 no_body (λ b h. rw zero-add (at_body b h))
    where
      at_body : (b : ℕ) → b < length bodies → Placed f b (get_or bodies b no_body)
      at_body b h =
          let sizes_is : sizes_of f ≡ sizes bodies = sizes_are f kind layout bodies p in
          let start : Holds (byte_at f) (bodies_at f + 8 * 0) (chain body_bytes bodies) = rw (add-zero, bodies_start f kind layout bodies p) p.records in
          record {
            entry = rw zero-add at (at_place (entries_held f kind layout bodies p) no_body b h);
            next = rw (sizes_is, ← get_or-map body_size bodies b no_body) (first_more (sizes bodies) b);
            held = rw sizes_is (rw zero-add at (bodies_held f kind layout bodies p bodies 0 b start h));
          }

  pub laid : ArraysTold layout → Laid f kind layout bodies
  laid told =
      let p = all_parts in
      let sizes_is : sizes_of f ≡ sizes bodies = sizes_are f kind layout bodies p in
      let count : record_count f ≡ sum (sizes bodies) = rw (sizes_is, p.body_count_is, ← length-map bodies body_size) (sym (cells_first (sizes bodies))) in
      record {
        kind_is = p.kind_is;
        arrayed = record { counted = p.array_count_is; held = lengths_held f kind layout bodies p told };
        body_count_is = p.body_count_is;
        zero_is = p.zero_is;
        arrays_are = arrays_are f kind layout bodies p told;
        start_is = first_zero (sizes_of f);
        count_is = count;
        within = λ b. rw sizes_is (sums_within (sizes bodies) b);
        placed = placed p;
        bodies_start = bodies_start f kind layout bodies p;
        long = omega (arith, file_length, summed_length, bodies_start f kind layout bodies p);
        checked = checked;
      }

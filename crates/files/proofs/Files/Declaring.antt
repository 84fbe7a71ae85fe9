-- The passes of a declared plan: their rows pass where they are within the bounds, and their records read as they are, numbered.
use mathlib.Core.Path.{◌≡◌, refl, ap, ◌∙◌}
use mathlib.Core.Bool.{true, false, cond, ◌&&◌}
use mathlib.Core.List.{List, [], ◌∷◌, map}
use Prim.Native.Nat.{ℕ, suc, ◌+◌, ◌≤◌, ◌<◌}
use native.Mathlib.Omega.{arith}
use native.Mathlib.Nat.{add-zero, one-mul}
use lib.ListN.{length, length-append, length-map}
use lib.Dec.{ltb, leb, eqb}
use borrow.Author.Tests.{lt-ltb, le-ltb, leb-true, ne_eqb}
use Rattle.model.specs.Lists.{sum}
use Rattle.model.specs.Sides.{Side, side_number, Layout}
use Rattle.model.specs.Blocks.{size, largest, numbered}
use Rattle.model.specs.Judging.{Mode, R, W, RW, Declaration, Pass}
use Rattle.model.proofs.Booleans.{and_out}
use Rattle.reading.specs.declared.Fields.{Fields}
use Rattle.reading.specs.Bytes.{kind_of, array_count, table, records_in, declarations_in, first_record, fields_at, between, nests}
use Rattle.rules.specs.Rules.{fields_fit, allowed, deepest}
use Rattle.records.specs.Records.{body_rows}
use Rattle.format.specs.Plans.{declaration_of, pass_at}
use Rattle.files.specs.Files.{fields}
use Rattle.files.specs.Inner.Short.{block_fields, block_fits, passes_size}
use Rattle.files.specs.Bounds.{all_pass, action_fits, products_fit, pass_fits, pass_size, numbered_passes, mode_kind, declaration_fields, pass_body}
use Rattle.files.proofs.Files.Holding.{Along, none, more, Holds, front_part, back_at, each_so, along_unmap, from_place, table_is}
use Rattle.files.proofs.Files.Places.{body_size, sizes, Arrayed, Placed}
use Rattle.files.proofs.Files.Accepting.{Passes, EntryFits}
use Rattle.files.proofs.Files.Records.{Walks, at_plain, side_fits, fields_count, action_fit, block_walks}
use Rattle.files.proofs.Files.Reading.{side_back, block_reads}

-- the records of declarations
declaration_kind : (m : Mode) → between 16 18 (mode_kind m) ≡ true
declaration_kind R = refl
declaration_kind W = refl
declaration_kind RW = refl

declaration_leaf : (m : Mode) (s a : ℕ) → nests (fields (mode_kind m) s a 0 0) ≡ false
declaration_leaf R s a = refl
declaration_leaf W s a = refl
declaration_leaf RW s a = refl

declaration_fit : (f : List ℕ) (m : Mode) (s : Side) (a : ℕ) → ltb a (array_count f) ≡ true → fields_fit f (fields (mode_kind m) (side_number s) a 0 0) ≡ true
unfolding fields_fit
declaration_fit f R s a e = rw (side_fits s, e)
declaration_fit f W s a e = rw (side_fits s, e)
declaration_fit f RW s a e = rw (side_fits s, e)

mode_back : (m : Mode) → cond (eqb (mode_kind m) 16) R (cond (eqb (mode_kind m) 17) W RW) ≡ m
mode_back R = refl
mode_back W = refl
mode_back RW = refl

declaration_back : (d : Declaration) → declaration_of (declaration_fields d) ≡ d
unfolding declaration_of
declaration_back d = rw (mode_back d.mode, side_back d.side)

-- the declarations in front of a pass's other records
declarations_walk : (f : List ℕ) (b end : ℕ) (ds : List Declaration) (r : ℕ) → all_pass (λ (d : Declaration). ltb d.array (array_count f)) ds ≡ true
    → ((s : ℕ) (x : Fields) → s < r + length ds → between 16 18 x.kind ≡ true → allowed f b s x ≡ true) → r + length ds ≤ end
    → Holds (fields_at f) r (map declaration_fields ds) → Walks f b 0 1 (r + length ds) end → Walks f b 0 1 r end
declarations_walk f b end [] r e may inside h rest = rw add-zero at rest
declarations_walk f b end (d ∷ ds) r e may inside (more x-is h) rest =
    let fit = and_out (ltb d.array (array_count f)) (all_pass (λ (c : Declaration). ltb c.array (array_count f)) ds) e in
    let next : suc r + length ds ≡ r + suc (length ds) = omega arith in
    at_plain f b 0 1 r end (declaration_fields d) x-is (declaration_fit f d.mode d.side d.array fit.0)
    (may r (declaration_fields d) (omega arith) (declaration_kind d.mode)) (declaration_leaf d.mode (side_number d.side) d.array) (omega arith) (omega arith)
    (declarations_walk f b end ds (suc r) fit.1 (rw next may) (omega arith) h (rw next rest))

pub pass_count : (p : Pass) → body_size (pass_body p) ≡ pass_size p
pass_count p =
    omega (arith, length-append (map declaration_fields p.declarations) (block_fields p.body), length-map p.declarations declaration_fields, fields_count p.body)

-- pass p as body b of a file
module _ (f : List ℕ) (b : ℕ) (p : Pass) (placed : Placed f b (pass_body p)) where
  abbrev r : ℕ
  r = first_record f b

  abbrev declared : ℕ
  declared = length p.declarations

  declarations_held : Holds (fields_at f) r (map declaration_fields p.declarations)
  declarations_held = front_part (map declaration_fields p.declarations) (block_fields p.body) placed.held

  block_held : Holds (fields_at f) (r + declared) (block_fields p.body)
  block_held = back_at (map declaration_fields p.declarations) declared (length-map p.declarations declaration_fields) placed.held

  records_are : records_in f b ≡ pass_size p
  records_are = placed.entry.records_are ∙ pass_count p

  pass_walks : (layout : Layout) → kind_of f ≡ 1 → eqb b 0 ≡ false → Arrayed f layout
      → pass_fits layout p ≡ true → Passes (body_rows f b)
  unfolding body_rows allowed deepest
  pass_walks layout kind_is later arrayed fits =
      let fit = (and_out (leb declared 255) (all_pass (λ (d : Declaration). ltb d.array (length layout.lengths)) p.declarations && (block_fits layout 8 p.body && products_fit p.body)) fits).1 in
      let fit' = and_out (all_pass (λ (d : Declaration). ltb d.array (length layout.lengths)) p.declarations) (block_fits layout 8 p.body && products_fit p.body) fit in
      let (block_in, products) = and_out (block_fits layout 8 p.body) (products_fit p.body) fit'.1 in
      let few : largest p.body ≤ 4096 = leb-true _ _ products in
      let declarations_are : declarations_in f b ≡ declared = placed.entry.declarations_are in
      let end : first_record f (suc b) ≡ r + declared + size p.body = omega (arith, placed.next, pass_count p) in
      let deep : deepest f ≡ 7 = rw kind_is in
      rw end
      (declarations_walk f b (r + declared + size p.body) p.declarations r (rw arrayed.counted fit'.0)
      (λ s x k e. rw (kind_is, later, declarations_are, lt-ltb s (r + declared) k, e)) (omega arith) declarations_held
      (block_walks f b (r + declared) (λ s x k e. rw (kind_is, later, declarations_are, le-ltb s (r + declared) k, e)) (action_fits layout) (action_fit f layout arrayed)
      p.body 8 0 1 (r + declared) block_in (omega arith) (omega arith) (rw one-mul few) (omega arith) block_held) (records_in f b))

  declarations_read : table (λ i. declaration_of (fields_at f (r + i))) declared ≡ p.declarations
  declarations_read =
      let held : Holds (fields_at f) (r + 0) (map declaration_fields p.declarations) = rw add-zero declarations_held in
      let read_held = along_unmap declaration_fields p.declarations (from_place r 0 (map declaration_fields p.declarations) held) in
      table_is (λ i. declaration_of (fields_at f (r + i))) p.declarations (each_so (λ i d e. ap declaration_of e ∙ declaration_back d) read_held)

  pass_reads : pass_at f b ≡ record { declarations = p.declarations; body = numbered (r + declared) p.body }
  unfolding pass_at
  pass_reads =
      let declarations_are : declarations_in f b ≡ declared = placed.entry.declarations_are in
      let end : r + pass_size p ≡ r + declared + size p.body = omega arith in
      rw (declarations_are, records_are, end, declarations_read, block_reads (fields_at f) p.body (pass_size p) (r + declared) (omega arith) block_held)

-- all passes, from body b on
pub passes_count : (ps : List Pass) → sum (sizes (map pass_body ps)) ≡ passes_size ps
passes_count [] = refl
passes_count (p ∷ ps) = omega (arith, pass_count p, passes_count ps)

pub passes_entries : (ps : List Pass) (b : ℕ) → eqb b 0 ≡ false → Along EntryFits b (map pass_body ps)
passes_entries [] b later = none
passes_entries (p ∷ ps) b later =
    let fits : EntryFits b (pass_body p) = record { declared = omega (arith, pass_count p); none_first = rw later } in
    more fits (passes_entries ps (suc b) (ne_eqb (suc b) 0 (λ e. omega arith)))

module _ (f : List ℕ) where
  pub passes_walk : (layout : Layout) → kind_of f ≡ 1 → Arrayed f layout
      → (ps : List Pass) (b : ℕ) → eqb b 0 ≡ false → all_pass (pass_fits layout) ps ≡ true → Along (Placed f) b (map pass_body ps) → Along (λ c x. Passes (body_rows f c)) b (map pass_body ps)
  passes_walk layout kind_is arrayed [] b later fits h = none
  passes_walk layout kind_is arrayed (p ∷ ps) b later fits (more q h) =
      let fit = and_out (pass_fits layout p) (all_pass (pass_fits layout) ps) fits in
      more (pass_walks f b p q layout kind_is later arrayed fit.0)
      (passes_walk layout kind_is arrayed ps (suc b) (ne_eqb (suc b) 0 (λ e. omega arith)) fit.1 h)

  pub passes_read : (ps : List Pass) (b r : ℕ) → first_record f b ≡ r → Along (Placed f) b (map pass_body ps) → Holds (pass_at f) b (numbered_passes r ps)
  passes_read [] b r e h = none
  passes_read (p ∷ ps) b r e (more q h) =
      let next : first_record f (suc b) ≡ r + pass_size p = omega (arith, q.next, pass_count p) in
      more (rw e at (pass_reads f b p q)) (passes_read ps (suc b) (r + pass_size p) next h)

pub numbered_count : (ps : List Pass) (r : ℕ) → length (numbered_passes r ps) ≡ length ps
numbered_count [] r = refl
numbered_count (p ∷ ps) r = ap suc (numbered_count ps (r + pass_size p))

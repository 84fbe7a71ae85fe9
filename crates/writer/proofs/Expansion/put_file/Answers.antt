-- `writer::Expansion::put_file` writes the expansion's file.
use mathlib.Core.Path.{◌≡◌, refl, ap}
use mathlib.Core.List.{List}
use Prim.Native.Nat.{ℕ, ◌+◌, ◌*◌, ◌≤◌}
use native.Mathlib.Omega.{arith}
use lib.ListN.{length}
use Rattle.reading.specs.Bytes.{array_count, records_in}
use Rattle.contents.specs.declared.Opened.{Opened}
use Rattle.contents.specs.Found.{found}
use Rattle.files.specs.Expansions.{expansion_file}
use Rattle.sizes.specs.Inner.Sizes.{DeclaredFile, place}
use Rattle.given.proofs.Over.{lent_room}
use Rattle.writer.proofs.Files.{arrays_low, contents_within, expansion_length, contents_length, records_over, file_over}
use Rattle.writer.proofs.Expansion.put_file.Goals as goal

-- the arrays that opening found, and the room of the expansion's file
module _ (f : List ℕ) (o : Opened) (is : o ≡ found f) where
  arrays_are : o.arrays ≡ array_count f
  arrays_are = ap (λ (x : Opened). x.arrays) is

  room : DeclaredFile f → (8 + 2 * o.arrays + 8 * place f (records_in f 0) + 2 ≡ length (expansion_file f)) × (o.arrays ≤ 32)
  room file = (omega (arith, expansion_length f file, arrays_are), omega (arith, arrays_are, arrays_low f file))

pub put_contents-requires : goal.put_contents-requires
put_contents-requires c =
    (arrays_are _ _ c.args.self.now.finds, omega (arith, arrays_are _ _ c.args.self.now.finds, contents_within _ c.args.self.now.declared), omega (arith, room _ _ c.args.self.now.finds c.args.self.now.declared))

pub slice_bounds-put_body-count : goal.slice_bounds-put_body-count
slice_bounds-put_body-count c = omega (arith, room _ _ c.args.self.now.finds c.args.self.now.declared)

pub slice_bounds-put_body-start : goal.slice_bounds-put_body-start
slice_bounds-put_body-start c = omega (arith, room _ _ c.args.self.now.finds c.args.self.now.declared)

pub put_body-requires : goal.put_body-requires
put_body-requires c =
    let x = c.args.self.now in
    let f = x.plan.now in
    (omega (arith, c.requires.0), lent_room _ c.args.out.now _ (8 + 2 * x.o.arrays) (8 * place f (records_in f 0)) c.put_contents.ensures.written (omega (arith, room _ _ x.finds x.declared, arrays_are _ _ x.finds, contents_length f (contents_within f x.declared) c.args.records)) (omega (arith, room _ _ x.finds x.declared)))

pub put_checks-requires : goal.put_checks-requires
put_checks-requires c = omega (arith, room _ _ c.args.self.now.finds c.args.self.now.declared)

pub returns : goal.returns
returns c =
    let x = c.args.self.now in
    let f = x.plan.now in
    let old = c.args.out.now in
    let bodies = 8 + 2 * x.o.arrays in
    let records = records_over f x.declared old _ _ bodies _ _ (omega (arith, arrays_are _ _ x.finds)) refl c.requires.0 (omega (arith, room _ _ x.finds x.declared)) c.put_contents.ensures.written c.put_body.ensures in
    file_over f x.declared old _ _ c.put_contents.ensures.bytes (bodies + 8 * c.args.records) (omega (arith, arrays_are _ _ x.finds)) records c.put_checks.ensures

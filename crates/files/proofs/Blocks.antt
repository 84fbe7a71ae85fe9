-- The records of a block that is made of others: one after the other, declarations in front, numbered anew.
use mathlib.Core.Path.{◌≡◌, refl, ap, sym, ◌∙◌}
use mathlib.Core.List.{List, [], ◌∷◌, ◌++◌, append_assoc}
use Prim.Native.Nat.{ℕ, suc, ◌+◌}
use lib.ListN.{length}
use Rattle.model.specs.Sides.{Side}
use Rattle.model.specs.Records.{Action}
use Rattle.model.specs.Blocks.{Block, size, numbered, ◌then◌}
use Rattle.model.specs.Judging.{Mode, R, W, RW, Declaration}
use Rattle.model.specs.Expanding.{given}
use Rattle.model.specs.Inner.Declared.{declaration, declared}
use Rattle.reading.specs.declared.Fields.{Fields}
use Rattle.files.specs.Inner.Short.{block_fields}
use Rattle.files.proofs.Files.Records.{fields_count}

-- blocks of the same records have the same size
pub same_size : (a : Block Action) (l : List Fields) → block_fields a ≡ l → size a ≡ length l
same_size a l e = sym (fields_count a) ∙ ap length e

pub then_fields : (a b : Block Action) → block_fields (a then b) ≡ block_fields a ++ block_fields b
then_fields Block.done b = refl
then_fields (Block.act r x a) b = rw (then_fields a b)
then_fields (Block.branch r x y a) b = rw (then_fields a b, append_assoc, append_assoc)
then_fields (Block.loop r x a) b = rw (then_fields a b, append_assoc)
then_fields (Block.fixed r n x a) b = rw (then_fields a b, append_assoc)

given_fields : (m : Mode) (s : Side) (a : ℕ) (b : Block Action) → block_fields (given (declaration m s a) b) ≡ block_fields (given (declaration m s a) Block.done) ++ block_fields b
given_fields R s a b = refl
given_fields W s a b = refl
given_fields RW s a b = refl

pub declared_fields : (ds : List Declaration) (b : Block Action) → block_fields (declared ds b) ≡ block_fields (declared ds Block.done) ++ block_fields b
declared_fields [] b = refl
declared_fields (d ∷ ds) b =
    let g = given_fields d.mode d.side d.array in
    rw (g (declared ds b), g (declared ds Block.done), declared_fields ds b, append_assoc)

declared_append : (ds es : List Declaration) (b : Block Action) → declared (ds ++ es) b ≡ declared ds (declared es b)
declared_append [] es b = refl
declared_append (d ∷ ds) es b = rw (declared_append ds es b)

-- one declaration more
pub declared_next : (ds : List Declaration) (d : Declaration) → block_fields (declared (ds ++ (d ∷ [])) Block.done) ≡ block_fields (declared ds Block.done) ++ block_fields (given d Block.done)
declared_next ds d = ap block_fields (declared_append ds (d ∷ []) Block.done) ∙ declared_fields ds (given d Block.done)

pub numbered_size : (r : ℕ) (b : Block Action) → size (numbered r b) ≡ size b
numbered_size r Block.done = refl
numbered_size r (Block.act q x b) = rw (numbered_size (suc r) b)
numbered_size r (Block.branch q x y b) = rw (numbered_size (suc r) x, numbered_size (suc r + size x) y, numbered_size (suc r + size x + size y) b)
numbered_size r (Block.loop q x b) = rw (numbered_size (suc r) x, numbered_size (suc r + size x) b)
numbered_size r (Block.fixed q n x b) = rw (numbered_size (suc r) x, numbered_size (suc r + size x) b)

pub numbered_fields : (r : ℕ) (b : Block Action) → block_fields (numbered r b) ≡ block_fields b
numbered_fields r Block.done = refl
numbered_fields r (Block.act q x b) = rw (numbered_fields (suc r) b)
numbered_fields r (Block.branch q x y b) = rw (numbered_size (suc r) x, numbered_size (suc r + size x) y, numbered_fields (suc r) x, numbered_fields (suc r + size x) y, numbered_fields (suc r + size x + size y) b)
numbered_fields r (Block.loop q x b) = rw (numbered_size (suc r) x, numbered_fields (suc r) x, numbered_fields (suc r + size x) b)
numbered_fields r (Block.fixed q n x b) = rw (numbered_size (suc r) x, numbered_fields (suc r) x, numbered_fields (suc r + size x) b)

-- The file of a plan within the bounds is a list of bytes: each entry is below 256.
use mathlib.Core.Path.{◌≡◌}
use mathlib.Core.Bool.{Bool, true, false, cond, ◌&&◌, false≢true}
use mathlib.Core.List.{List, [], ◌∷◌, ◌++◌, map}
use Prim.Native.Nat.{ℕ, zero, suc, ◌+◌, ◌*◌, ◌^◌, max, ◌≤◌, ◌<◌}
use native.Mathlib.Omega.{arith}
use native.Mathlib.Nat.{mul-le-mul_left, mul-le-mul_right, le-max_left, le-max_right}
use lib.ListN.{length, get_or, length-map}
use lib.Dec.{ltb, leb, eqb}
use borrow.Author.Tests.{ltb-true, leb-true, eqb-true}
use Rattle.model.specs.Lists.{All, chain}
use Rattle.model.specs.Sides.{Side, host, card, side_number, span_of, Layout, cell_count, is_scratch}
use Rattle.model.specs.Records.{Verb, read, write, copy, need, mark, kind, whole, Action}
use Rattle.model.specs.Blocks.{Block, size, largest, Plan}
use Rattle.model.specs.Judging.{Mode, R, W, RW, Declaration, Pass, DeclaredPlan}
use Rattle.model.proofs.Booleans.{and_out}
use Rattle.model.proofs.Products.{largest_some}
use Rattle.model.proofs.Numbering.{array_ends}
use Rattle.reading.specs.declared.Fields.{Fields}
use Rattle.sums.specs.Sums.{check_bytes}
use Rattle.reading.specs.Bytes.{table, between}
use Rattle.files.specs.Files.{u16_bytes, record_bytes, fields, action_fields, fields_of, Body, entry_bytes, array_entry, front, file, plain_file}
use Rattle.files.specs.Inner.Short.{block_fields, block_fits, passes_size}
use Rattle.files.specs.Bounds.{all_pass, arrays_fit, cells_fit, action_fits, nested_within, products_fit, plain_fits, pass_fits, declared_fits, call_fields, mode_kind, declaration_fields, pass_body, declared_file}
use Rattle.files.specs.Claims.{Bytes}
use Rattle.files.proofs.Files.Places.{body_size, ArraysTold, array_entries}
use Rattle.files.proofs.Files.Accepting.{within_bounds, arrays_parts, arrays_told}
use Rattle.files.proofs.Files.Records.{count_of, fields_count}
use Rattle.files.proofs.Files.Declaring.{pass_count}

module _ {A : Type 0} (P : A → Type 0) where
  all_append : (l m : List A) → All P l → All P m → All P (l ++ m)
  all_append [] m h k = k
  all_append (x ∷ l) m h k = (h.0, all_append l m h.1 k)

  all_table : (g : ℕ → A) (n : ℕ) → ((i : ℕ) → P (g i)) → All P (table g n)
  unfolding table
  all_table g zero h = tt
  all_table g (suc n) h = all_append (table g n) (g n ∷ []) (all_table g n h) (h n, tt)

bytes_append : (l m : List ℕ) → Bytes l → Bytes m → Bytes (l ++ m)
bytes_append = all_append (λ x. x < 256)

joined_bytes : {A : Type 0} (P : A → Type 0) (g : A → List ℕ) → ((x : A) → P x → Bytes (g x)) → (l : List A) → All P l → Bytes (chain g l)
joined_bytes P g k [] h = tt
joined_bytes P g k (x ∷ l) h = bytes_append (g x) (chain g l) (k x h.0) (joined_bytes P g k l h.1)

u16_fits : (n : ℕ) → n < 65536 → Bytes (u16_bytes n)
u16_fits n h = (omega arith, (omega arith, tt))

-- fields that eight bytes can hold
record Small (x : Fields) : Type 0 where
  kind : x.kind < 256
  side : x.side < 256
  array : x.array < 256
  step : x.step < 256
  p : x.p < 65536
  q : x.q < 65536

record_fits : (x : Fields) → Small x → Bytes (record_bytes x)
record_fits x h = (h.kind, (h.side, (h.array, (h.step, bytes_append (u16_bytes x.p) (u16_bytes x.q) (u16_fits x.p h.p) (u16_fits x.q h.q)))))

-- a body that its entry can tell of
record Told (b : Body) : Type 0 where
  few_declarations : b.declarations < 256
  few_records : body_size b < 65536
  small : All Small b.records

entry_fits : (b : Body) → Told b → Bytes (entry_bytes b)
entry_fits b h = bytes_append (u16_bytes (body_size b)) (b.declarations ∷ 0 ∷ []) (u16_fits (body_size b) h.few_records) (h.few_declarations, (omega arith, tt))

body_fits : (b : Body) → Told b → Bytes (chain record_bytes b.records)
body_fits b h = joined_bytes Small record_bytes record_fits b.records h.small

checks_small : (s : List ℕ) → Bytes (check_bytes s)
unfolding check_bytes
checks_small s = (omega arith, (omega arith, tt))

-- an array's entry, with the bit that marks scratch
array_small : (layout : Layout) → ArraysTold layout → (a : ℕ) → array_entry layout a < 65536
array_small layout told a = go (is_scratch layout a) (told.short a)
  where
    go : (b : Bool) → get_or layout.lengths a 0 < 2 ^ 15 → get_or layout.lengths a 0 + cond b (2 ^ 15) 0 < 65536
    go true h = omega arith
    go false h = omega arith

file_bytes : (kind : ℕ) (layout : Layout) (bodies : List Body) → kind < 256 → length layout.lengths < 256 → length bodies < 256 → ArraysTold layout → All Told bodies → Bytes (file kind layout bodies)
unfolding file
file_bytes kind layout bodies k n m arrays told =
    let small = all_table (λ x. x < 65536) (array_entry layout) (length layout.lengths) (array_small layout arrays) in
    let lengths-fit = joined_bytes (λ x. x < 65536) u16_bytes u16_fits (array_entries layout) small in
    let entries_fit = joined_bytes Told entry_bytes entry_fits bodies told in
    let contents = bytes_append (chain u16_bytes (array_entries layout)) (chain entry_bytes bodies) lengths-fit entries_fit in
    let bodies-fit = joined_bytes Told (λ b. chain record_bytes b.records) body_fits bodies told in
    let summed = front kind layout bodies ++ chain (λ (b : Body). chain record_bytes b.records) bodies in
    bytes_append summed (check_bytes summed)
    (bytes_append (front kind layout bodies) (chain (λ (b : Body). chain record_bytes b.records) bodies) (k, (n, (m, (omega arith, contents)))) bodies-fit)
    (checks_small summed)

side_small : (s : Side) → side_number s < 256
side_small host = omega arith
side_small card = omega arith

kind_small : (v : Verb) → kind v < 256
kind_small read = omega arith
kind_small write = omega arith
kind_small copy = omega arith
kind_small need = omega arith
kind_small mark = omega arith

mode_small : (m : Mode) → mode_kind m < 256
mode_small R = omega arith
mode_small W = omega arith
mode_small RW = omega arith

-- an array is no longer than all arrays together
length_small : (layout : Layout) (a : ℕ) → (span_of layout a).length ≤ cell_count layout
length_small layout a = omega (arith, array_ends layout a)

small : (kind side array p q : ℕ) → kind < 256 → side < 256 → array < 256 → p < 65536 → q < 65536 → Small (fields kind side array p q)
small kind side array p q h0 h1 h2 h3 h4 = record { kind = h0; side = h1; array = h2; step = omega arith; p = h3; q = h4 }

-- step, P and Q, of the whole array or not
cells_small : (w : Bool) (k p q n : ℕ) → n ≤ 4096 → cond w (eqb k 0 && (eqb p 0 && eqb q 0)) (ltb k 256 && (ltb p q && leb q n)) ≡ true → (k < 256) × (p < 65536) × (q < 65536)
cells_small true k p q n h e =
    let (none, e') = and_out (eqb k 0) (eqb p 0 && eqb q 0) e in
    let (p-none, q-none) = and_out (eqb p 0) (eqb q 0) e' in
    (omega (arith, eqb-true k 0 none), omega (arith, eqb-true p 0 p-none), omega (arith, eqb-true q 0 q-none))
cells_small false k p q n h e =
    let (byte, e') = and_out (ltb k 256) (ltb p q && leb q n) e in
    let (order, within) = and_out (ltb p q) (leb q n) e' in
    let below = leb-true q n within in
    (ltb-true k 256 byte, omega (arith, ltb-true p q order), omega arith)

-- the records of a block whose leaves are small
small_of : {A : Type 0} (leaf : A → Fields) (fits : A → Bool) → ((x : A) → fits x ≡ true → Small (leaf x)) →
    (x : Block A) (levels : ℕ) → nested_within fits levels x ≡ true → largest x ≤ 4096 → size x ≤ 1024 → All Small (fields_of leaf x)
small_of leaf fits one Block.done levels e q h = tt
small_of leaf fits one (Block.act _ x t) levels e q h =
    let fit = and_out (fits x) (nested_within fits levels t) e in
    (one x fit.0, small_of leaf fits one t levels fit.1 q (omega arith))
small_of leaf fits one (Block.branch _ x y t) zero e q h = absurd (false≢true e)
small_of leaf fits one (Block.branch _ x y t) (suc levels) e q h =
    let left = le-max_left (largest x) (max (largest y) (largest t)) in
    let right = le-max_right (largest x) (max (largest y) (largest t)) in
    let middle = le-max_left (largest y) (largest t) in
    let last = le-max_right (largest y) (largest t) in
    let fit = and_out (nested_within fits levels x) (nested_within fits levels y && nested_within fits (suc levels) t) e in
    let fit' = and_out (nested_within fits levels y) (nested_within fits (suc levels) t) fit.1 in (
      small 6 0 0 (size x) (size y) (omega arith) (omega arith) (omega arith) (omega arith) (omega arith),
      all_append Small (fields_of leaf x) (fields_of leaf y ++ fields_of leaf t) (small_of leaf fits one x levels fit.0 (omega arith) (omega arith))
          (all_append Small (fields_of leaf y) (fields_of leaf t) (small_of leaf fits one y levels fit'.0 (omega arith) (omega arith)) (small_of leaf fits one t (suc levels) fit'.1 (omega arith) (omega arith))),
    )
small_of leaf fits one (Block.loop _ x t) zero e q h = absurd (false≢true e)
small_of leaf fits one (Block.loop _ x t) (suc levels) e q h =
    let left = le-max_left (largest x) (largest t) in
    let right = le-max_right (largest x) (largest t) in
    let fit = and_out (nested_within fits levels x) (nested_within fits (suc levels) t) e in (
      small 7 0 0 (size x) 0 (omega arith) (omega arith) (omega arith) (omega arith) (omega arith),
      all_append Small (fields_of leaf x) (fields_of leaf t) (small_of leaf fits one x levels fit.0 (omega arith) (omega arith)) (small_of leaf fits one t (suc levels) fit.1 (omega arith) (omega arith)),
    )
small_of leaf fits one (Block.fixed _ n x t) zero e q h = absurd (false≢true e)
small_of leaf fits one (Block.fixed _ n x t) (suc levels) e q h =
    let left = le-max_left (suc n * largest x) (largest t) in
    let right = le-max_right (suc n * largest x) (largest t) in
    let some : 1 ≤ suc n = omega arith in
    -- the product is at least each factor
    let turns = mul-le-mul_left (suc n) (largest_some x) in
    let inner = mul-le-mul_right (largest x) some in
    let fit = and_out (nested_within fits levels x) (nested_within fits (suc levels) t) e in (
      small 9 0 0 (size x) (suc n) (omega arith) (omega arith) (omega arith) (omega arith) (omega arith),
      all_append Small (fields_of leaf x) (fields_of leaf t) (small_of leaf fits one x levels fit.0 (omega arith) (omega arith)) (small_of leaf fits one t (suc levels) fit.1 (omega arith) (omega arith)),
    )

module _ (layout : Layout) (few : length layout.lengths ≤ 32) (total : cell_count layout ≤ 4096) where
  action_small : (x : Action) → action_fits layout x ≡ true → Small (action_fields x)
  action_small x e =
      let h = and_out (ltb x.name (length layout.lengths)) (cells_fit layout x) e in
      let c = cells_small (whole x.verb) x.step x.p x.q (span_of layout x.name).length (omega (arith, length_small layout x.name)) h.1 in
      let a : x.name < length layout.lengths = ltb-true _ _ h.0 in
      record { kind = kind_small x.verb; side = side_small x.side; array = omega arith; step = c.0; p = c.1; q = c.2 }

  block_small : (x : Block Action) (levels : ℕ) → block_fits layout levels x ≡ true → largest x ≤ 4096 → size x ≤ 1024 → All Small (block_fields x)
  block_small = small_of action_fields (action_fits layout) action_small

  declarations_small : (ds : List Declaration) → all_pass (λ (d : Declaration). ltb d.array (length layout.lengths)) ds ≡ true → All Small (map declaration_fields ds)
  declarations_small [] e = tt
  declarations_small (d ∷ ds) e =
      let fit = and_out (ltb d.array (length layout.lengths)) (all_pass (λ (c : Declaration). ltb c.array (length layout.lengths)) ds) e in
      let a : d.array < length layout.lengths = ltb-true _ _ fit.0 in
      (small (mode_kind d.mode) (side_number d.side) d.array 0 0 (mode_small d.mode) (side_small d.side) (omega arith) (omega arith) (omega arith), declarations_small ds fit.1)

  passes_told : (ps : List Pass) → all_pass (pass_fits layout) ps ≡ true → passes_size ps ≤ 1024 → All Told (map pass_body ps)
  passes_told [] e h = tt
  passes_told (p ∷ ps) e h =
      let (one, others) = and_out (pass_fits layout p) (all_pass (pass_fits layout) ps) e in
      let (few_declarations, fit) = and_out (leb (length p.declarations) 255) _ one in
      let (of-arrays, fit') = and_out (all_pass (λ (d : Declaration). ltb d.array (length layout.lengths)) p.declarations) _ fit in
      let (block_fit, products) = and_out (block_fits layout 8 p.body) _ fit' in
      let told : Told (pass_body p) = record {
        few_declarations = omega (arith, leb-true (length p.declarations) 255 few_declarations);
        few_records = omega (arith, pass_count p);
        small =
            all_append Small (map declaration_fields p.declarations) (block_fields p.body) (declarations_small p.declarations of-arrays)
            (block_small p.body 8 block_fit (leb-true _ _ products) (omega arith));
      } in
      (told, passes_told ps others (omega arith))

body0_small : (last : ℕ) → last ≤ 31 → (x : Block ℕ) (levels : ℕ) → nested_within (between 1 last) levels x ≡ true → largest x ≤ 4096 → size x ≤ 1024 → All Small (fields_of call_fields x)
body0_small last l = small_of call_fields (between 1 last) (λ b e. let h = within_bounds 1 last b e in small 8 0 0 b 0 (omega arith) (omega arith) (omega arith) (omega (arith, h.1)) (omega arith))

arrays_small : (layout : Layout) → arrays_fit layout ≡ true → (length layout.lengths ≤ 32) × (cell_count layout ≤ 4096)
arrays_small layout e =
    let h = arrays_parts layout e in
    ((within_bounds 1 32 (length layout.lengths) h.some).1, leb-true _ _ h.total)

pub plain_bytes : (plan : Plan) → plain_fits plan ≡ true → Bytes (plain_file plan)
plain_bytes plan fits =
    let (arrays-in, h) = and_out (arrays_fit plan.layout) _ fits in
    let (block_in, h') = and_out (block_fits plan.layout 16 plan.body) _ h in
    let (products, few_records) = and_out (products_fit plan.body) _ h' in
    let (few, total) = arrays_small plan.layout arrays-in in
    let sized : size plan.body ≤ 1024 = leb-true _ _ few_records in
    file_bytes 2 plan.layout _ (omega arith) (omega arith) (omega arith) (arrays_told plan.layout arrays-in) (
      record {
        few_declarations = omega arith;
        few_records = omega (arith, fields_count plan.body);
        small = block_small plan.layout few total plan.body 16 block_in (leb-true _ _ products) sized;
      },
      tt,
    )

pub declared_bytes : (plan : DeclaredPlan) → declared_fits plan ≡ true → Bytes (declared_file plan)
declared_bytes plan fits =
    let (arrays-in, h) = and_out (arrays_fit plan.layout) _ fits in
    let (few-passes, h') = and_out (leb (length plan.passes) 31) _ h in
    let (body0-in, h'') = and_out (nested_within (between 1 (length plan.passes)) 8 plan.body0) _ h' in
    let (products, h''') = and_out (products_fit plan.body0) _ h'' in
    let (passes-in, few_records) = and_out (all_pass (pass_fits plan.layout) plan.passes) _ h''' in
    let (few, total) = arrays_small plan.layout arrays-in in
    let last : length plan.passes ≤ 31 = leb-true _ _ few-passes in
    let sized : size plan.body0 + passes_size plan.passes ≤ 1024 = leb-true _ _ few_records in
    file_bytes 1 plan.layout _ (omega arith) (omega arith) (omega (arith, length-map plan.passes pass_body)) (arrays_told plan.layout arrays-in) (
      record {
        few_declarations = omega arith;
        few_records = omega (arith, count_of call_fields plan.body0);
        small = body0_small (length plan.passes) last plan.body0 8 body0-in (leb-true _ _ products) (omega arith);
      },
      passes_told plan.layout few total plan.passes passes-in (omega arith),
    )

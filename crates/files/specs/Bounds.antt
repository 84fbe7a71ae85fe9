-- What only the claims cite: the file of a declared plan, and the plans that a file can hold (document 01, 'The plan file'; document 02).
use Rattle.std.specs.Prelude.{ℕ, zero, suc, ◌+◌, Bool, true, false, cond, ◌&&◌, List, [], ◌∷◌, ◌++◌, map, length, ltb, leb, eqb}
use Rattle.model.specs.Lists.{sum}
use Rattle.model.specs.Sides.{side_number, Layout, cell_count, span_of}
use Rattle.model.specs.Records.{whole, Action}
use Rattle.model.specs.Blocks.{Block, size, largest, numbered, Plan}
use Rattle.model.specs.Judging.{Mode, R, W, RW, Declaration, Pass, DeclaredPlan}
use Rattle.reading.specs.declared.Fields.{Fields}
use Rattle.reading.specs.Bytes.{between}
use Rattle.files.specs.Files.{fields, action_fields, fields_of, Body, file}

-- "8 call: P is a body"
abbrev pub call_fields : ℕ → Fields
call_fields b = fields 8 0 0 b 0

-- "16 R, 17 W, 18 RW"
abbrev pub mode_kind : Mode → ℕ
mode_kind R = 16
mode_kind W = 17
mode_kind RW = 18

-- "side and array"
abbrev pub declaration_fields : Declaration → Fields
declaration_fields d = fields (mode_kind d.mode) (side_number d.side) d.array 0 0

-- a pass: "declarations first .. then kinds 1 to 7", and kind 9 "wherever kind 7 may stand"
abbrev pub pass_body : Pass → Body
pass_body p =
    record { declarations = length p.declarations; records = map declaration_fields p.declarations ++ fields_of action_fields p.body }

-- the file of a declared plan
abbrev pub declared_file : DeclaredPlan → List ℕ
declared_file plan =
    file 1 plan.layout (record { declarations = 0; records = fields_of call_fields plan.body0 } ∷ map pass_body plan.passes)

-- whether each of the list passes the test
abbrev pub all_pass : {A : Type 0} → (A → Bool) → List A → Bool
all_pass g [] = true
all_pass g (x ∷ l) = g x && all_pass g l

-- "arrays, 1 to 32", "per array its length .., 1 to 4,096, together at most 4,096", and each is scratch or not
abbrev pub arrays_fit : Layout → Bool
arrays_fit layout =
    between 1 32 (length layout.lengths)
    && (all_pass (between 1 4096) layout.lengths
    && (leb (cell_count layout) 4096 && eqb (length layout.scratch) (length layout.lengths)))

-- a record's step, a byte, and its P and Q: "cells P to Q − 1 of the array, P < Q ≤ its length"; where it speaks of the whole array,
-- "Unused fields are zero."
abbrev pub cells_fit : Layout → Action → Bool
cells_fit layout x =
    cond (whole x.verb) (eqb x.step 0 && (eqb x.p 0 && eqb x.q 0))
    (ltb x.step 256 && (ltb x.p x.q && leb x.q (span_of layout x.name).length))

-- the fields of kinds 1 to 5: the array, then step, P and Q
abbrev pub action_fits : Layout → Action → Bool
action_fits layout x = ltb x.name (length layout.lengths) && cells_fit layout x

-- a block in which branches and loops stand at most `levels` deep, and whose other records pass the test
abbrev pub nested_within : {A : Type 0} → (A → Bool) → ℕ → Block A → Bool
nested_within fits levels Block.done = true
nested_within fits levels (Block.act r x b) = fits x && nested_within fits levels b
nested_within fits zero (Block.branch r x y b) = false
nested_within fits (suc levels) (Block.branch r x y b) =
    nested_within fits levels x && (nested_within fits levels y && nested_within fits (suc levels) b)
nested_within fits zero (Block.loop r x b) = false
nested_within fits (suc levels) (Block.loop r x b) = nested_within fits levels x && nested_within fits (suc levels) b
nested_within fits zero (Block.fixed r n x b) = false
nested_within fits (suc levels) (Block.fixed r n x b) = nested_within fits levels x && nested_within fits (suc levels) b

-- along no nesting "the product of the counts passes 4,096"
abbrev pub products_fit : {A : Type 0} → Block A → Bool
products_fit b = leb (largest b) 4096

-- a plain plan: branches and loops stand "inside at most 15 others", "records .. together at most 1,024"
abbrev pub plain_fits : Plan → Bool
plain_fits plan =
    arrays_fit plan.layout
    && (nested_within (action_fits plan.layout) (suc 15) plan.body && (products_fit plan.body && leb (size plan.body) 1024))

-- a pass: "its declarations (one byte)"; in a body of a declared plan branches and loops stand "inside at most 7" others
abbrev pub pass_fits : Layout → Pass → Bool
pass_fits layout p =
    leb (length p.declarations) 255
    && (all_pass (λ (d : Declaration). ltb d.array (length layout.lengths)) p.declarations
    && (nested_within (action_fits layout) (suc 7) p.body && products_fit p.body))

-- the records of a pass, its declarations among them
abbrev pub pass_size : Pass → ℕ
pass_size p = length p.declarations + size p.body

-- a declared plan: "bodies, 1 to 32", "records .. together at most 1,024"
abbrev pub declared_fits : DeclaredPlan → Bool
declared_fits plan =
    arrays_fit plan.layout
    && (leb (length plan.passes) 31
    && (nested_within (between 1 (length plan.passes)) (suc 7) plan.body0
    && (products_fit plan.body0
    && (all_pass (pass_fits plan.layout) plan.passes && leb (size plan.body0 + sum (map pass_size plan.passes)) 1024))))

-- "Records are numbered from 0 through all bodies in order": the passes with their records numbered from r on
abbrev pub numbered_passes : ℕ → List Pass → List Pass
numbered_passes r [] = []
numbered_passes r (p ∷ ps) =
    record { declarations = p.declarations; body = numbered (r + length p.declarations) p.body } ∷ numbered_passes (r + pass_size p) ps

-- a plan as its file numbers its records
abbrev pub numbered_plan : Plan → Plan
numbered_plan plan = record { layout = plan.layout; body = numbered 0 plan.body }

-- a declared plan as its file numbers its records: body 0 first, then the passes
abbrev pub numbered_declared : DeclaredPlan → DeclaredPlan
numbered_declared plan =
    record { layout = plan.layout; body0 = numbered 0 plan.body0; passes = numbered_passes (size plan.body0) plan.passes }

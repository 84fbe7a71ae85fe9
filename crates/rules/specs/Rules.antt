-- Numbers 8 to 10 (document 01, 'Numbers by the place where each is checked') and 26 (document 02): the rows of one record, in order.
use Rattle.std.specs.Prelude.{ℕ, ◌+◌, ◌*◌, Bool, true, cond, not, ◌&&◌, ◌||◌, List, [], ◌∷◌, ltb, leb, eqb}
use Rattle.model.specs.Rows.{Row, row}
use Rattle.reading.specs.declared.Fields.{Fields}
use Rattle.reading.specs.Bytes.{is_plain, array_count, body_count, length_at, declarations_in, first_record, fields_at, between, nests, first_arm, second_arm, turns_of}

-- EACH RECORD. "8 a field against its rule"; "Unused fields are zero."
unfoldable pub fields_fit : List ℕ → Fields → Bool
fields_fit f x =
    let on_side = ltb x.side 2 in
    let on_array = ltb x.array (array_count f) in
    let names_none = eqb x.side 0 && eqb x.array 0 in
    let no_step = eqb x.step 0 in
    -- "1 read, 2 write, 3 copy: cells P to Q − 1 of the array, P < Q ≤ its length."; "Number 8 no longer covers that byte there." (document 02)
    cond (between 1 3 x.kind) (on_side && on_array && ltb x.p x.q && leb x.q (length_at f x.array))
    -- "4 need, 5 mark: side and array." "16 R, 17 W, 18 RW: side and array."
    (cond (between 4 5 x.kind || between 16 18 x.kind) (on_side && on_array && no_step && eqb x.p 0 && eqb x.q 0)
    -- "6 branch: P records of the first arm, then Q of the second."
    (cond (eqb x.kind 6) (names_none && no_step)
    -- "7 loop: P records."
    (cond (eqb x.kind 7) (names_none && no_step && eqb x.q 0)
    -- "8 call: P is a body, 1 to the last."
    (cond (eqb x.kind 8) (names_none && no_step && eqb x.q 0 && leb 1 x.p && ltb x.p (body_count f))
    -- "P records, Q turns from 1 to 4,096" (document 02)
    (cond (eqb x.kind 9) (names_none && no_step && between 1 4096 x.q)
    -- kinds 0, 10 to 15 "and 19 to 255 are unknown: number 9, no field tested."
    true)))))

-- "kinds 1 to 7", and kind 9 "wherever kind 7 may stand"
abbrev pub acts_or_nests : Fields → Bool
acts_or_nests x = between 1 7 x.kind || eqb x.kind 9

-- "9 kind not allowed there", of record r in body b: "A plain plan holds kinds 1 to 7", "Body 0 of a declared plan .. holds kinds 6, 7, 8",
-- a pass "declarations first, as many as the contents say, then kinds 1 to 7"; kind 9 "wherever kind 7 may stand"
unfoldable pub allowed : List ℕ → ℕ → ℕ → Fields → Bool
allowed f b r x =
    cond (is_plain f) (acts_or_nests x)
    (cond (eqb b 0) (between 6 9 x.kind)
    (cond (ltb r (first_record f b + declarations_in f b)) (between 16 18 x.kind)
    (acts_or_nests x)))

-- "In a plain plan each stands inside at most 15 others, in a body of a declared plan inside at most 7."
unfoldable pub deepest : List ℕ → ℕ
deepest f = cond (is_plain f) 15 7

-- the rows of record r of body b, which stands inside `depth` branches and loops, in an arm or body that ends before record `end`,
-- and `around` is the product of the counts of the fixed loops that hold it: 8, 9,
-- "10 arm past the end of what holds it, or nested too deep", "26: along some nesting the product of the counts passes 4,096"
unfoldable pub record_rows : List ℕ → ℕ → ℕ → ℕ → ℕ → ℕ → List Row
record_rows f b depth around r end =
    let x = fields_at f r in
    row (not (fields_fit f x)) 8 r
    ∷ row (not (allowed f b r x)) 9 r
    ∷ row (ltb end (r + 1 + first_arm x + second_arm x) || (nests x && ltb (deepest f) depth)) 10 r
    ∷ row (ltb 4096 (around * turns_of x)) 26 r ∷ []

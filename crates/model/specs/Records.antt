-- Records that act, and the cells that they cover (document 01, 'The plan file'; document 02, request c).
use Rattle.std.specs.Prelude.{ℕ, ◌+◌, ◌-◌, ◌%◌, max, Bool, ◌&&◌, ◌||◌, ltb, leb, eqb}
use Rattle.model.specs.Lists.{how_many}
use Rattle.model.specs.Sides.{Side, Layout, cell_count, span_of, in_span}

-- "1 read, 2 write, 3 copy", "4 need, 5 mark"
pub data Verb : Type 0 where
  read write copy need mark : Verb

-- a verb's kind in the file
abbrev pub kind : Verb → ℕ
kind read = 1
kind write = 2
kind copy = 3
kind need = 4
kind mark = 5

-- whether two verbs are the same
abbrev pub same_verb : Verb → Verb → Bool
same_verb v w = eqb (kind v) (kind w)

-- whether a verb speaks of the whole array: "4 need, 5 mark: side and array"; 1 to 3 speak of "cells P to Q − 1 of the array"
abbrev pub whole : Verb → Bool
whole v = leb 4 (kind v)

-- "A record: kind, side, array, zero, then two numbers of two bytes, P and Q."; "Byte 3 of kinds 1 to 3 becomes a step"
pub record Action : Type 0 where
  pub verb : Verb
  pub side : Side
  pub name : ℕ
  pub step : ℕ
  pub p : ℕ
  pub q : ℕ

-- a need or a mark of an array on a side; "Unused fields are zero."
abbrev pub whole_of : Verb → Side → ℕ → Action
whole_of v s n = record { verb = v; side = s; name = n; step = 0; p = 0; q = 0 }

-- "0 and 1 mean each cell, k means P, P + k and so on below Q": how far apart the cells are
abbrev pub distance : ℕ → ℕ
distance step = max 1 step

-- the numbers `from`, `from` + k and so on below `to`: whether n is one of them
abbrev pub stepped : ℕ → ℕ → ℕ → ℕ → Bool
stepped k from to n = leb from n && (ltb n to && eqb ((n - from) % k) 0)

-- whether a record covers cell c: of "cells P to Q − 1 of the array" those on its step, or all cells of the array
unfoldable pub covers : Layout → Action → ℕ → Bool
covers layout x c =
    let these = span_of layout x.name in
    in_span these c && (whole x.verb || stepped (distance x.step) (these.first + x.p) (these.first + x.q) c)

-- how many cells it covers
unfoldable pub cover_count : Layout → Action → ℕ
cover_count layout x = how_many (covers layout x) (cell_count layout)

-- The memory view (document 01, 'Running and viewing').
use Rattle.std.specs.Prelude.{ℕ, zero, suc, ◌*◌, ◌-◌, min, Bool, true, cond, not, ◌&&◌, ◌||◌, List, [], ◌∷◌, ltb, leb, eqb, length, get_or, take, drop, Result}
use Rattle.model.specs.Verdicts.{Verdict, accepted, where_accepted}
use Rattle.model.specs.Lists.{further}
use Rattle.model.specs.declared.Fault.{Fault}
use Rattle.model.specs.declared.Side.{Side}
use Rattle.model.specs.declared.Side.TheVariants.{Host, Card}
use Rattle.model.specs.Rows.{row, answer_of}

-- "A copy is current if it equals the latest stamp": n cells from cell c on are all current in a memory
unfoldable pub all_current : List ℕ → List ℕ → ℕ → ℕ → Bool
all_current copies latest c zero = true
all_current copies latest c (suc n) = eqb (get_or copies c 0) (get_or latest c 0) && all_current copies latest (suc c) n

-- "a companion answer gives its number": "23 first not below end, or end past the shortest memory; 24 neither side wholly current"
unfoldable pub memory_view_answer : List ℕ → List ℕ → List ℕ → ℕ → ℕ → Verdict
memory_view_answer host card latest from end =
    answer_of (row (leb end from || ltb (min (length host) (min (length card) (length latest))) end) 23 0
    ∷ row (not (all_current host latest from (end - from)) && not (all_current card latest from (end - from))) 24 0 ∷ [])

-- what is the host's, or the card's
abbrev pub of_side : {A : Type 0} → Side → A → A → A
of_side Host x y = x
of_side Card x y = y

-- "a part of the host memory or of the card memory, the host's if all its cells are current, else the card's": the side
unfoldable pub viewed_side : List ℕ → List ℕ → ℕ → ℕ → Side
viewed_side host latest from end = cond (all_current host latest from (end - from)) Host Card

-- where the part begins: in that side's own memory, `from` cells of 8 bytes after the place where that memory begins
abbrev pub viewed_place : ℕ × ℕ → ℕ × ℕ → Side → ℕ → ℕ × ℕ
viewed_place host_begins card_begins side from = further (of_side side host_begins card_begins) (8 * from)

-- the memory view, whatever the memories and the cells; "A refused view is empty"
unfoldable pub memory_view : List ℕ → List ℕ → List ℕ → ℕ → ℕ → List ℕ
memory_view host card latest from end =
    cond (accepted (memory_view_answer host card latest from end))
    (take (end - from) (drop from (of_side (viewed_side host latest from end) host card))) []

-- the side, where the answer accepts
unfoldable pub memory_side : List ℕ → List ℕ → List ℕ → ℕ → ℕ → Result Side Fault
memory_side host card latest from end = where_accepted (memory_view_answer host card latest from end) (viewed_side host latest from end)

-- What is packed where the values of an answer are known.
use Prim.Native.Nat.{ℕ}
use mathlib.Core.Path.{◌≡◌, refl}
use mathlib.Core.List.{List}
use native.Mathlib.Omega.{arith}
use Rattle.std.specs.Prelude.{Ok, Err}
use Rattle.model.specs.declared.Fault.{Fault}
use Rattle.model.specs.declared.Side.{Side}
use Rattle.model.specs.declared.Side.TheVariants.{Host, Card}
use Rattle.model.specs.declared.Values.{Values}
use Rattle.model.specs.Verdicts.{values_of}
use Rattle.packing.specs.Packed.{packed, packed_view, figures_of}

-- the figures of a run that is not done are as they were
pub figures_kept : (l : List ℕ) (e : Fault) → l ≡ figures_of (Err e) l
unfolding figures_of
figures_kept l e = refl

-- the number of a side
abbrev pub side_number : Side → ℕ
side_number Host = 0
side_number Card = 1

-- of a view: its number and its side
pub view_packs : (s : Side) → packed 0 (record { number = 0; place = side_number s; cell = 0 }) ≡ packed_view (Ok s)
unfolding packed_view
view_packs Host = refl
view_packs Card = refl

-- of a refused one: its number alone
pub view_refused : (e : Fault) (v : Values) → v ≡ values_of 0 (Err e) → packed 0 (record { number = v.number; place = 0; cell = 0 }) ≡ packed_view (Err e)
unfolding packed_view
view_refused e v h = rw h (omega arith)

-- The places one after the other: what each adds to the answer, and what is found where none of them stops.
use mathlib.Core.Path.{◌≡◌}
use mathlib.Core.List.{List}
use Prim.Native.Nat.{ℕ, ◌≤◌, ◌<◌}
use lib.ListN.{length}
use borrow.Author.Tests.{lt-ltb, le-ltb}
use Rattle.model.specs.Verdicts.{Verdict, Accepted, Refused}
use Rattle.contents.specs.declared.Opened.{Opened}
use Rattle.model.specs.Rows.{answer_of, all_rows}
use Rattle.reading.specs.Bytes.{array_count, body_count, bodies_at}
use Rattle.frame.specs.Frame.{header_rows, tail_rows}
use Rattle.contents.specs.Contents.{array_rows, entry_rows, contents_rows, front_rows}
use Rattle.contents.specs.Found.{found}
use Rattle.model.proofs.Rows.{holds, skips, stop, pass}

-- the answer of header, contents and tail, as far as it is known
module _ (f : List ℕ) where
  pub front_header : (v : Verdict) → (v ≡ Accepted → ⊥) → v ≡ answer_of (header_rows f) → v ≡ answer_of (front_rows f)
  unfolding front_rows
  front_header v nay e = stop _ _ v nay e

  module _ (h : Accepted ≡ answer_of (header_rows f)) where
    pub front_short : length f < bodies_at f → Refused 3 0 ≡ answer_of (front_rows f)
    unfolding front_rows contents_rows
    front_short l = pass (header_rows f) _ _ h (holds _ _ _ _ (lt-ltb _ _ l))

    module _ (l : bodies_at f ≤ length f) where
      arrays_are : (v : Verdict) → (v ≡ Accepted → ⊥) → v ≡ answer_of (all_rows (array_count f) (array_rows f)) → v ≡ answer_of (contents_rows f)
      unfolding contents_rows
      arrays_are v nay e = skips _ _ _ _ v (le-ltb _ _ l) (stop (all_rows (array_count f) (array_rows f)) _ v nay e)

      pub front_arrays : (v : Verdict) → (v ≡ Accepted → ⊥) → v ≡ answer_of (all_rows (array_count f) (array_rows f)) → v ≡ answer_of (front_rows f)
      unfolding front_rows
      front_arrays v nay e = pass (header_rows f) _ v h (stop (contents_rows f) _ v nay (arrays_are v nay e))

      module _ (a : Accepted ≡ answer_of (all_rows (array_count f) (array_rows f))) where
        bodies_are : (v : Verdict) → v ≡ answer_of (all_rows (body_count f) (entry_rows f)) → v ≡ answer_of (contents_rows f)
        unfolding contents_rows
        bodies_are v e = skips _ _ _ _ v (le-ltb _ _ l) (pass (all_rows (array_count f) (array_rows f)) _ v a e)

        pub front_bodies : (v : Verdict) → (v ≡ Accepted → ⊥) → v ≡ answer_of (all_rows (body_count f) (entry_rows f)) → v ≡ answer_of (front_rows f)
        unfolding front_rows
        front_bodies v nay e = pass (header_rows f) _ v h (stop (contents_rows f) _ v nay (bodies_are v e))

        pub front_tail : Accepted ≡ answer_of (all_rows (body_count f) (entry_rows f)) → (v : Verdict) → v ≡ answer_of (tail_rows f) → v ≡ answer_of (front_rows f)
        unfolding front_rows
        front_tail b v e = pass (header_rows f) _ v h (pass (contents_rows f) _ v (bodies_are _ b) e)

  -- what is found, part by part
  pub all : (kind arrays bodies cells records offset : ℕ) (array-starts body-starts declarations : List ℕ)
      → kind ≡ (found f).kind → arrays ≡ (found f).arrays → bodies ≡ (found f).bodies → cells ≡ (found f).cells → records ≡ (found f).records → offset ≡ (found f).offset
      → array-starts ≡ (found f).array_starts → body-starts ≡ (found f).body_starts → declarations ≡ (found f).declarations
      → ◌≡◌ {A = Opened} (record { kind = kind; arrays = arrays; bodies = bodies; cells = cells; records = records; offset = offset; array_starts = array-starts; body_starts = body-starts; declarations = declarations }) (found f)
  all kind arrays bodies cells records offset array-starts body-starts declarations e₁ e₂ e₃ e₄ e₅ e₆ e₇ e₈ e₉ = rw (e₁, e₂, e₃, e₄, e₅, e₆, e₇, e₈, e₉)

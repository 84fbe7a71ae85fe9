-- Header, contents and tail, then the records: what each adds to the opening's answer.
use mathlib.Core.Path.{◌≡◌, refl}
use mathlib.Core.List.{List}
use Prim.Native.Nat.{ℕ}
use Rattle.std.specs.Prelude.{Ok, Err}
use Rattle.model.specs.declared.Fault.{Fault}
use Rattle.model.specs.Verdicts.{Verdict, Accepted, where_accepted}
use Rattle.model.proofs.Verdicts.{faulty, faulty_where, found_where, where_accepts, where_faulty}
use Rattle.contents.specs.declared.Opened.{Opened}
use Rattle.contents.specs.Found.{found}
use Rattle.model.specs.Rows.{answer_of, all_rows}
use Rattle.model.proofs.Rows.{stop, pass, passed}
use Rattle.reading.specs.Bytes.{body_count}
use Rattle.contents.specs.Contents.{front_rows}
use Rattle.records.specs.Records.{body_rows}
use Rattle.format.specs.Opening.{open_rows, opening, opened}

module _ (f : List ℕ) where
  pub open_front : (v : Verdict) → (v ≡ Accepted → ⊥) → v ≡ answer_of (front_rows f) → v ≡ opening f
  unfolding opening open_rows
  open_front v nay e = stop (front_rows f) _ v nay e

  pub open_records : Accepted ≡ answer_of (front_rows f) → (v : Verdict) → v ≡ answer_of (all_rows (body_count f) (body_rows f)) → v ≡ opening f
  unfolding opening open_rows
  open_records h v e = pass (front_rows f) _ v h e

  pub open_parts : Accepted ≡ opening f → (Accepted ≡ answer_of (front_rows f)) × (Accepted ≡ answer_of (all_rows (body_count f) (body_rows f)))
  unfolding opening open_rows
  open_parts e = passed (front_rows f) _ e

-- the whole result: a fault of the front, a fault of the records, what is found
module _ (f : List ℕ) where
  pub opened_front : (e : Fault) → Err e ≡ where_accepted (answer_of (front_rows f)) (found f) → Err e ≡ opened f
  unfolding opened
  opened_front e h = faulty_where _ _ _ (open_front f _ (faulty refl) (where_faulty _ _ _ h))

  module _ (o : Opened) (h : Ok o ≡ where_accepted (answer_of (front_rows f)) (found f)) where
    pub opened_records : (e : Fault) → Err e ≡ answer_of (all_rows (body_count f) (body_rows f)) → Err e ≡ opened f
    unfolding opened
    opened_records e t = faulty_where _ _ _ (open_records f (where_accepts _ _ _ h).0 _ t)

    pub opened_found : Accepted ≡ answer_of (all_rows (body_count f) (body_rows f)) → Ok o ≡ opened f
    unfolding opened
    opened_found t = let w = where_accepts _ _ _ h in found_where _ _ _ (open_records f w.0 _ t) w.1

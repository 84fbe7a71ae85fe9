-- The run of a sequence ends, by the definition of a run, as it is counted.
use Prim.Native.Nat.{ℕ, suc}
use mathlib.Core.Path.{◌≡◌, refl, ap, ◌∙◌}
use mathlib.Core.List.{List, [], ◌∷◌}
use mathlib.Core.Option.{Option, none, some}
use lib.ListN.{length}
use Rattle.model.specs.Records.{Action}
use Rattle.model.specs.Effects.{State, effect}
use Rattle.model.specs.Runs.{Event, Config, Ending, finished, stopped, next, stop_or, lowest_unmet, here, onward, Run, Ends, proper}
use Rattle.model.proofs.Runs.{config, event}
use Rattle.model.specs.Cases.{single}
use Rattle.sheet.specs.Sheets.{records, sequence_plan, after_step, ending_in}
use Rattle.sheet.specs.Claims.{AllEndSo}

module _ (all : List Action) where
  -- what is left ends so
  record Left (l : List Action) (k : Config) : Type 0 where
    last : Config
    ending : Ending
    ends : Ends (sequence_plan all) [] last ending
    counted : ending_in (suc (length l)) k ≡ some ending

  left : (l : List Action) (r : ℕ) (σ : State) (h : List Event) → Run proper (sequence_plan all) [] (config (records r l) [] σ h) → Left l (config (records r l) [] σ h)
  unfolding ending_in
  left [] r σ h run = record { last = _; ending = finished; ends = record { run = run; last = refl }; counted = refl }
  left (x ∷ l) r σ h run = go (lowest_unmet (single 1) x σ) refl (left l (suc r) (effect (single 1) x σ) (event r x σ ∷ h))
    where
      after : Config
      after = config (records (suc r) l) [] (effect (single 1) x σ) (event r x σ ∷ h)

      go : (o : Option ℕ) → lowest_unmet (single 1) x σ ≡ o → (Run proper (sequence_plan all) [] after → Left l after) → Left (x ∷ l) (config (records r (x ∷ l)) [] σ h)
      go none q more =
          let m = more (onward run (ap (λ o. stop_or r o (next after)) q)) in
          record { last = m.last; ending = m.ending; ends = m.ends; counted = ap (λ o. after_step (ending_in (suc (length l))) (stop_or r o (next after))) q ∙ m.counted }
      go (some c) q more = record { last = _; ending = stopped r c; ends = record { run = run; last = ap (λ o. stop_or r o (next after)) q }; counted = ap (λ o. after_step (ending_in (suc (length l))) (stop_or r o (next after))) q }

pub ends_so : AllEndSo
ends_so l = let m = left l l 0 _ [] here in record { last = m.last; ending = m.ending; ends = m.ends; counted = m.counted }

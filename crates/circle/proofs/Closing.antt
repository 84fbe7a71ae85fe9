-- No run of what the expander writes is stopped, where it has no scratch or passes the check, and at done the cells moved are those that
-- demand 3's moves come to.
use Prim.Native.Nat.{ℕ, ◌≤◌, ◌<◌}
use mathlib.Core.Path.{◌≡◌, refl, ap, sym, ◌∙◌, subst}
use mathlib.Core.Logic.{◌⊎◌, inl, inr}
use mathlib.Core.Bool.{Bool, true, false, ◌||◌, true≢false}
use mathlib.Core.List.{List, [], ◌∷◌}
use native.Mathlib.Omega.{arith}
use lib.Dec.{ltb}
use lib.ListN.{length, get_or, drop, get_or-append}
use borrow.Author.Tests.{le-ltb}
use Rattle.std.specs.Prelude.{Result}
use Rattle.model.specs.declared.Fault.{Fault}
use Rattle.model.specs.Verdicts.{Verdict, Accepted, Refused, stopped_at}
use Rattle.model.specs.Sides.{Side, host, card, at, Layout, cell_count}
use Rattle.model.specs.Blocks.{size, largest, Plan}
use Rattle.model.specs.Runs.{Config, Ending, finished, stopped, out_of_choices, Ends, tally}
use Rattle.model.specs.Demand.{latest_write, ScratchPasses}
use Rattle.model.proofs.Runs.{carried}
use Rattle.model.proofs.Stamps.{tracked}
use Rattle.model.proofs.Rows.{skips, pass}
use Rattle.model.proofs.Demand3.{moves_add}
use Rattle.reading.specs.Bytes.{table, layout_of}
use Rattle.reading.proofs.Tables.{length_table, getD_table}
use Rattle.format.specs.Opening.{open_rows, opening}
use Rattle.memories.specs.Memories.{number_of}
use Rattle.model.specs.Rows.{row, answer_of}
use Rattle.format.specs.Plans.{plan_of, declared_plan_of}
use Rattle.judge.specs.Judged.{judged}
use Rattle.judge.proofs.Rules.{accepted_rules}
use Rattle.files.specs.Expansions.{expansion_of, expansion_file}
use Rattle.circle.proofs.Opens.{expansion_opens}
use Rattle.circle.proofs.Runs.{file_demand3}
use Rattle.expand.proofs.Laws.Answers.{written}
use Rattle.model.specs.declared.End.{End}
use Rattle.run.specs.Running.{Lent, Roomy, run_rows, memory, holding, end_of, verdict_of, Ran, RunsWhere, Runs}
use Rattle.standing.specs.Choices.{choices_of}
use Rattle.circle.specs.Claims.{ClaimRuns}
use Rattle.circle.specs.Closing.{Adds, DoneOrSpent, Kept, ExpansionRun}

-- a cell of a memory that holds the cells of a plan
held_at : (n : ℕ) (held : ℕ → ℕ) (old : List ℕ) (c : ℕ) → c < n → get_or (memory n held old) c 0 ≡ held c
unfolding memory
held_at n held old c l = get_or-append (table held n) (drop n old) 0 c (rw (length_table held n) l) ∙ getD_table held n c 0 l

module _ (f : List ℕ) (judges : judged f ≡ Accepted) (small : size (expansion_of f).body ≤ 1024) (low : largest (expansion_of f).body ≤ 4096) (choices : List ℕ) (before after : Lent) (answer : Result End Fault) where
  same_plan : plan_of (expansion_file f) ≡ expansion_of f
  same_plan = (expansion_opens f judges small low).2

  -- a run that is done, and what its tally then is
  adds : (k : Config) → Ends (expansion_of f) (choices_of choices) k finished → after.tally.moved ≡ (tally (layout_of f) k.history).moved → Adds f choices after
  unfolding declared_plan_of
  adds k h t =
      let m = moves_add (declared_plan_of f) ((accepted_rules f).0 judges).2 (choices_of choices) k h in
      record { config = k; ends = h; exact = m.0; adds = t ∙ m.1 }

  same_layout : layout_of (expansion_file f) ≡ layout_of f
  unfolding plan_of declared_plan_of
  same_layout = ap (λ (p : Plan). p.layout) same_plan

  -- memories that hold a configuration of the run, and the reads before it
  module _ (k : Config) (x : Ending) (h : Ends (expansion_of f) (choices_of choices) k x) (m : after ≡ holding (layout_of f) k before) where
    latest_held : (c : ℕ) → c < cell_count (layout_of f) → get_or after.latest c 0 ≡ latest_write (layout_of f) k.history c
    unfolding declared_plan_of
    latest_held c l =
        ap (λ (y : Lent). get_or y.latest c 0) m
        ∙ (held_at (cell_count (layout_of f)) (λ c. (k.state.cell c).latest) before.latest c l
        ∙ (tracked (expansion_of f) (carried (expansion_of f) h.run)).latest c)

    one_current : (s : Side) (c : ℕ) → c < cell_count (layout_of f) → (k.state.cell c).held s ≡ at (latest_write (layout_of f) k.history c) →
        (get_or after.host c 0 ≡ get_or after.latest c 0) ⊎ (get_or after.card c 0 ≡ get_or after.latest c 0)
    one_current s c l e = go s e (latest_held c l)
      where
        go : (s : Side) → (k.state.cell c).held s ≡ at (latest_write (layout_of f) k.history c) → get_or after.latest c 0 ≡ latest_write (layout_of f) k.history c →
            (get_or after.host c 0 ≡ get_or after.latest c 0) ⊎ (get_or after.card c 0 ≡ get_or after.latest c 0)
        go host e u = inl (ap (λ (y : Lent). get_or y.host c 0) m ∙ held_at _ (λ i. number_of ((k.state.cell i).held host)) before.host c l ∙ ap number_of e ∙ sym u)
        go card e u = inr (ap (λ (y : Lent). get_or y.card c 0) m ∙ held_at _ (λ i. number_of ((k.state.cell i).held card)) before.card c l ∙ ap number_of e ∙ sym u)

    kept : Kept f choices before after
    unfolding declared_plan_of
    kept =
        let d = file_demand3 f judges (choices_of choices) in
        record {
          config = k;
          ending = x;
          ends = h;
          holds = m;
          side_current = λ c l written. let w = d.always_current k h.run c l (λ z e. written z (latest_held c l ∙ e)) in one_current w.0 c l w.1;
        }

  neither : {n p : ℕ} → verdict_of answer ≡ Refused n p → (n ≡ 22 → ⊥) → DoneOrSpent (verdict_of answer) → ⊥
  neither h other (inl e) = let z : ◌≡◌ {A = ℕ} 0 1 = cc in omega arith
  neither h other (inr (r, e)) = other (cc)

  not_stopped : {n c : ℕ} → verdict_of answer ≡ stopped_at n c → DoneOrSpent (verdict_of answer) → ⊥
  not_stopped h (inl e) = let z : ◌≡◌ {A = ℕ} 0 1 = cc in omega arith
  not_stopped h (inr (r, e)) = let z : ◌≡◌ {A = ℕ} 0 1 = cc in omega arith

  -- a refusal before the run is 19 or 20
  refused : (n p : ℕ) → verdict_of answer ≡ Refused n p → (n ≡ 22 → ⊥) → (Roomy (cell_count (layout_of f)) before → length choices ≤ 65536 → ⊥) → ExpansionRun f choices before after answer
  refused n p h other short = record {
    unstopped = λ free r c u. let z : ◌≡◌ {A = ℕ} 0 1 = cc in omega arith;
    ended = λ free r l. absurd (short r l);
    kept = λ w. absurd (neither h other w);
    done = λ u. let z : ◌≡◌ {A = ℕ} 0 1 = cc in absurd (omega arith);
  }

  ran : Ran (expansion_file f) choices before after answer → ExpansionRun f choices before after answer
  unfolding plan_of declared_plan_of
  ran r =
      go r.ending (subst (λ (p : Plan). Ends p (choices_of choices) r.config r.ending) same_plan r.ends)
      (subst (λ (a : Layout). after ≡ holding a r.config before) same_layout r.holds) (ap verdict_of r.answers)
    where
      go : (x : Ending) → Ends (expansion_of f) (choices_of choices) r.config x → after ≡ holding (layout_of f) r.config before →
          verdict_of answer ≡ verdict_of (end_of (layout_of (expansion_file f)) (choices_of choices) r.config x) → ExpansionRun f choices before after answer
      go finished h m u = record {
        unstopped = λ free n c v. let z : ◌≡◌ {A = ℕ} 0 1 = cc in omega arith;
        ended = λ free w l. inl u;
        kept = λ w. kept r.config finished h m;
        done = λ v. adds r.config h (ap (λ (x : Lent). x.tally.moved) m);
      }
      go (stopped n c) h m u =
          let stuck : ScratchPasses (declared_plan_of f) → ⊥ = λ free. (file_demand3 f judges (choices_of choices)).never_stuck free r.config n c h in
          record {
            unstopped = λ free i d v. stuck free;
            ended = λ free w l. absurd (stuck free);
            kept = λ w. absurd (not_stopped u w);
            done = λ v. let z : ◌≡◌ {A = ℕ} 0 1 = cc in absurd (omega arith);
          }
      go (out_of_choices n) h m u = record {
        unstopped = λ free n c v. let z : ◌≡◌ {A = ℕ} 0 1 = cc in omega arith;
        ended = λ free w l. inr (n, u);
        kept = λ w. kept r.config (out_of_choices n) h m;
        done = λ v. let z : ◌≡◌ {A = ℕ} 0 1 = cc in absurd (omega arith);
      }

  -- what 19 and 20 say of the expansion's file
  short : Bool
  short = let n = cell_count (layout_of (expansion_file f)) in ltb (length before.host) n || ltb (length before.card) n || ltb (length before.latest) n

  rows : answer_of (run_rows (expansion_file f) choices before) ≡ answer_of (row short 19 0 ∷ row (ltb 65536 (length choices)) 20 0 ∷ [])
  unfolding run_rows opening short
  rows =
      let o = expansion_opens f judges small low in
      sym (pass (open_rows (expansion_file f)) _ _ (sym o.0) (skips _ _ _ _ _ (rw o.1) refl))

  long : Roomy (cell_count (layout_of f)) before → short ≡ false
  unfolding short
  long w = rw (ap (λ (y : Layout). y.lengths) same_layout, le-ltb _ _ w.0, le-ltb _ _ w.1, le-ltb _ _ w.2)

  -- what the run promises, by what the rows say
  abbrev promised : Verdict → Type 0
  promised v = RunsWhere v (expansion_file f) choices before after answer

  runs_as : promised (answer_of (run_rows (expansion_file f) choices before)) → ExpansionRun f choices before after answer
  unfolding answer_of
  runs_as r = go short refl (ltb 65536 (length choices)) refl (subst promised rows r)
    where
      go : (s : Bool) → short ≡ s → (t : Bool) → ltb 65536 (length choices) ≡ t → promised (answer_of (row s 19 0 ∷ row t 20 0 ∷ [])) → ExpansionRun f choices before after answer
      go true e t d r = refused 19 0 (ap verdict_of r.1) (λ z. omega arith) (λ w l. true≢false (sym e ∙ long w))
      go false e true d r = refused 20 0 (ap verdict_of r.1) (λ z. omega arith) (λ w l. true≢false (sym d ∙ le-ltb _ _ l))
      go false e false d r = ran r

-- whatever the choices and the lent memories
pub closed : ClaimRuns
unfolding Runs
closed f out e choices before after answer r =
    let g = written f out e in
    runs_as f g.0 g.1 g.2 choices before after answer r

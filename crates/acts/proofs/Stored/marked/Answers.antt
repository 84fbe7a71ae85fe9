use mathlib.Core.Path.{refl}
use Rattle.acts.proofs.Turning.{mark_card, mark_host}
use Rattle.acts.proofs.Stored.marked.Goals as goal

pub returns-then-on_card : goal.returns-then-on_card
returns-then-on_card c = λ layout x hs cs latest q one σ l h.
    mark_card h _ x _ c.if-on_card.true (rw q (c.without_flag.ensures _ _ one h.own_flags)) (rw q (c.with_flag.ensures _ _ one h.others_flags)) refl refl refl refl

pub returns : goal.returns
returns c = λ layout x hs cs latest q one σ l h.
    mark_host h _ x _ c.if-on_card.false (rw q (c.with_flag-2.ensures _ _ one h.own_flags)) (rw q (c.without_flag-2.ensures _ _ one h.others_flags)) refl refl refl refl

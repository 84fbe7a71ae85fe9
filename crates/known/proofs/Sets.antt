-- What is known of arrays stays true: of the array of a record, and of every other.
use Prim.Native.Nat.{ℕ, ◌≤◌, ◌<◌}
use mathlib.Core.Path.{◌≡◌, refl, sym, ◌∙◌}
use mathlib.Core.Bool.{Bool, true, false, cond, ◌&&◌, ◌||◌, true≢false}
use mathlib.Core.List.{List}
use native.Mathlib.Omega.{arith}
use lib.Dec.{eqb}
use lib.ListN.{length, get_or}
use borrow.Author.Tests.{eq-eqb, eqb-true}
use Rattle.model.specs.Inner.Holders.{array_of}
use Rattle.model.specs.Sides.{Layout, cell_count}
use Rattle.model.specs.Records.{stepped}
use Rattle.model.proofs.Numbering.{stepped_bounds}
use Rattle.memories.specs.Flags.{mask}
use Rattle.memories.proofs.Masks.{none}
use Rattle.known.specs.declared.Known.{Known}
use Rattle.known.specs.Inner.Knowing.{at_start, Sound, Knows, Tells, Sure, Added, Dropped}

-- the cells `from` up to `to` are cells of array a; those at step k are all of them where it is the whole of it
pub record Piece (layout : Layout) (a : ℕ) (whole : Bool) (k from to : ℕ) : Type 0 where
  pub one : a < length layout.lengths
  pub ends : to ≤ cell_count layout
  pub own : (c : ℕ) → from ≤ c → c < to → array_of layout c ≡ a
  pub all : whole ≡ true → (c : ℕ) → c < cell_count layout → array_of layout c ≡ a → stepped k from to c ≡ true

-- what is known of an array is known of these cells
sound_tells : {layout : Layout} {known a : ℕ} {whole : Bool} {k from to : ℕ} {copies latest : List ℕ} → Piece layout a whole k from to → Sound layout known copies latest → Tells known a from to copies latest
sound_tells {layout} {a = a} {from = from} {to = to} p s = record {
  many = length layout.lengths;
  these = s.these;
  low = p.one;
  masked = s.masked;
  current = λ e c i j.
      let z : c < cell_count layout = omega (arith, p.ends) in
      s.current c z (rw (p.own c i j) e);
}

pub knows_sure : {layout : Layout} {known : Known} {a : ℕ} {whole : Bool} {k from to : ℕ} {host card latest : List ℕ} → Piece layout a whole k from to → Knows layout known host card latest → Sure known a from to host card latest
knows_sure p w = record { on_host = sound_tells p w.on_host; on_card = sound_tells p w.on_card }

-- the cells at step k have become current, and every other is as it was
pub added_sound : {layout : Layout} {known known' a : ℕ} {whole : Bool} {k from to : ℕ} {copies copies' latest latest' : List ℕ} →
    Piece layout a whole k from to → Added whole a known known' →
    ((c : ℕ) → stepped k from to c ≡ true → get_or copies' c 0 ≡ get_or latest' c 0) →
    ((c : ℕ) → stepped k from to c ≡ false → get_or copies' c 0 ≡ get_or copies c 0) →
    ((c : ℕ) → stepped k from to c ≡ false → get_or latest' c 0 ≡ get_or latest c 0) →
    Sound layout known copies latest → Sound layout known' copies' latest'
added_sound {layout} {a = a} {whole = whole} {k = k} {from = from} {to = to} {copies = copies} {copies' = copies'} {latest = latest} {latest' = latest'} p added new kept latest-kept s = record {
  these = λ b. whole && eqb b a || s.these b;
  masked = added (length layout.lengths) s.these p.one s.masked;
  current = λ c z e. go c z e (stepped k from to c) refl;
}
  where
    -- outside the range the array is not the one that was added
    before : (c : ℕ) → c < cell_count layout → (w g : Bool) → whole ≡ w → eqb (array_of layout c) a ≡ g → stepped k from to c ≡ false → (w && g || s.these (array_of layout c)) ≡ true → s.these (array_of layout c) ≡ true
    before c z true true u v q e = absurd (true≢false (sym (p.all u c z (eqb-true _ _ v)) ∙ q))
    before c z true false u v q e = e
    before c z false g u v q e = e

    go : (c : ℕ) → c < cell_count layout → (whole && eqb (array_of layout c) a || s.these (array_of layout c)) ≡ true → (b : Bool) → stepped k from to c ≡ b → get_or copies' c 0 ≡ get_or latest' c 0
    go c z e true q = new c q
    go c z e false q = kept c q ∙ s.current c z (before c z whole (eqb (array_of layout c) a) refl refl q e) ∙ sym (latest-kept c q)

-- they have become stale
pub dropped_sound : {layout : Layout} {known known' a : ℕ} {whole : Bool} {k from to : ℕ} {copies latest latest' : List ℕ} →
    Piece layout a whole k from to → Dropped a known known' →
    ((c : ℕ) → stepped k from to c ≡ false → get_or latest' c 0 ≡ get_or latest c 0) →
    Sound layout known copies latest → Sound layout known' copies latest'
dropped_sound {layout} {a = a} {k = k} {from = from} {to = to} {copies = copies} {latest = latest} {latest' = latest'} p dropped kept s = record {
  these = λ b. cond (eqb b a) false (s.these b);
  masked = dropped (length layout.lengths) s.these p.one s.masked;
  current = λ c z e. go c z (eqb (array_of layout c) a) refl e (stepped k from to c) refl;
}
  where
    go : (c : ℕ) → c < cell_count layout → (g : Bool) → eqb (array_of layout c) a ≡ g → cond g false (s.these (array_of layout c)) ≡ true → (b : Bool) → stepped k from to c ≡ b → get_or copies c 0 ≡ get_or latest' c 0
    go c z true v e b q = absurd (true≢false (sym e))
    go c z false v e true q = absurd (true≢false (sym (eq-eqb _ _ (let i = stepped_bounds k from to c q in p.own c i.0 i.1)) ∙ v))
    go c z false v e false q = s.current c z e ∙ sym (kept c q)

-- at the start
pub start_known : (layout : Layout) (flags : ℕ) (these : ℕ → Bool) → flags ≡ mask (length layout.lengths) these → (host card latest : List ℕ) →
    ((c : ℕ) → c < cell_count layout → these (array_of layout c) ≡ true → get_or host c 0 ≡ get_or latest c 0) → Knows layout (at_start flags) host card latest
start_known layout flags these e host card latest h = record {
  on_host = record { these = these; masked = e; current = h };
  on_card = record { these = λ a. false; masked = sym (none (length layout.lengths)); current = λ c z e. absurd (true≢false (sym e)) };
}

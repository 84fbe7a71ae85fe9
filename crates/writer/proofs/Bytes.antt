-- The bytes of a file, read and written again: the entries of its arrays and its records are the bytes that stand there.
use mathlib.Core.Path.{◌≡◌, refl, sym, ap, ◌∙◌}
use mathlib.Core.List.{List, [], ◌∷◌, ◌++◌, append-nil}
use Prim.Native.Nat.{ℕ, zero, suc, ◌+◌, ◌*◌, ◌-◌, ◌/◌, ◌%◌, ◌^◌, ◌≤◌, ◌<◌}
use native.Mathlib.Nat.{add-zero, mul-zero, mul-suc}
use native.Mathlib.Omega.{arith}
use lib.ListN.{length, take, drop, length-drop}
use lib.Seq.{take-suc, get_or-drop, take-add, drop-drop, drop_at, length-take-le}
use Rattle.reading.specs.declared.Fields.{Fields}
use Rattle.reading.specs.Bytes.{byte_at, u16_at, table, array_count, length_at, scratch_at, layout_of, bodies_at, fields_at}
use Rattle.reading.proofs.Tables.{array_length, scratch_is, entry_again}
use Rattle.files.specs.Files.{u16_bytes, record_bytes, array_entry}
use Rattle.model.specs.Lists.{chain}
use Rattle.given.specs.Inner.Over.{bytes_of}
use Rattle.given.proofs.Records.{joined_append, bytes_append}

-- the n bytes from place i on
bytes_from : (f : List ℕ) (i n : ℕ) → i + n ≤ length f → table (λ k. byte_at f (i + k)) n ≡ take n (drop i f)
unfolding table
bytes_from f i zero h = refl
bytes_from f i (suc n) h =
    rw (bytes_from f i n (omega arith), take-suc (drop i f) n 0 (simp length-drop (omega arith)), get_or-drop i f n 0)

-- entries of equal width, each with the bytes that stand at its place
module _ {A : Type 0} (f : List ℕ) (g : A → List ℕ) (h : ℕ → A) (w s : ℕ) where
  joined_table : (n : ℕ) → ((i : ℕ) → i < n → g (h i) ≡ take w (drop (s + w * i) f)) → chain g (table h n) ≡ take (w * n) (drop s f)
  unfolding table
  joined_table zero e = rw mul-zero
  joined_table (suc n) e =
      rw (joined_append g (table h n) (h n ∷ []), joined_table n (λ i l. e i (omega arith)), append-nil, e n (omega arith), mul-suc, take-add (w * n) w (drop s f), drop-drop (w * n) s f)

module _ (f : List ℕ) (small : (i : ℕ) → byte_at f i < 256) where
  u16_low : (i : ℕ) → u16_at f i % 256 ≡ byte_at f i
  unfolding u16_at
  u16_low i = let l = small i in omega arith

  u16_high : (i : ℕ) → u16_at f i / 256 ≡ byte_at f (i + 1)
  unfolding u16_at
  u16_high i = let l = small i in omega arith

  u16_small : (i : ℕ) → u16_at f i < 2 ^ 16
  unfolding u16_at
  u16_small i = omega (arith, small i, small (i + 1))

  -- the bit that marks scratch is kept
  entry_is : (a : ℕ) → a < array_count f → array_entry (layout_of f) a ≡ u16_at f (4 + 2 * a)
  unfolding length_at scratch_at
  entry_is a l = rw (array_length f a l, scratch_is f a l) (entry_again (u16_at f (4 + 2 * a)) (u16_small (4 + 2 * a)))

  array_again : (a : ℕ) → a < array_count f → 4 + 2 * a + 2 ≤ length f → u16_bytes (array_entry (layout_of f) a) ≡ take 2 (drop (4 + 2 * a) f)
  unfolding table
  array_again a l h = ap u16_bytes (entry_is a l) ∙ rw (u16_low (4 + 2 * a), u16_high (4 + 2 * a)) (rw add-zero at (bytes_from f (4 + 2 * a) 2 h))

  pub arrays_again : 4 + 2 * array_count f ≤ length f → chain u16_bytes (table (array_entry (layout_of f)) (array_count f)) ≡ take (2 * array_count f) (drop 4 f)
  arrays_again h = joined_table f u16_bytes (array_entry (layout_of f)) 2 4 (array_count f) (λ a l. array_again a l (omega arith))

  record_again : (r : ℕ) → bodies_at f + 8 * r + 8 ≤ length f → record_bytes (fields_at f r) ≡ take 8 (drop (bodies_at f + 8 * r) f)
  unfolding fields_at table
  record_again r h =
      let i = bodies_at f + 8 * r in
      let p : i + 4 + 1 ≡ i + 5 = omega arith in
      let q : i + 6 + 1 ≡ i + 7 = omega arith in
      rw (u16_low (i + 4), u16_high (i + 4), u16_low (i + 6), u16_high (i + 6), p, q) (rw add-zero at (bytes_from f i 8 h))

  records_again : (n : ℕ) → bodies_at f + 8 * n ≤ length f → bytes_of (table (fields_at f) n) ≡ take (8 * n) (drop (bodies_at f) f)
  unfolding bytes_of
  records_again n h = joined_table f record_bytes (fields_at f) 8 (bodies_at f) n (λ r l. record_again r (omega arith))

  -- the records r up to `end`
  pub between_again : (l : List Fields) (r end : ℕ) → r ≤ end → bodies_at f + 8 * end ≤ length f → table (fields_at f) r ++ l ≡ table (fields_at f) end → bytes_of l ≡ take (8 * (end - r)) (drop (bodies_at f + 8 * r) f)
  between_again l r end k h e =
      let x = drop (bodies_at f) f in
      let n : 8 * end ≡ 8 * r + 8 * (end - r) = omega arith in
      let long : length (take (8 * r) x) ≡ 8 * r = length-take-le (8 * r) x (simp length-drop (omega arith)) in
      let both : take (8 * r) x ++ bytes_of l ≡ take (8 * r) x ++ take (8 * (end - r)) (drop (8 * r) x) =
      rw (← records_again r (omega arith)) (sym (bytes_append (table (fields_at f) r) l) ∙ ap bytes_of e ∙ records_again end h ∙ rw (n, take-add (8 * r) (8 * (end - r)) x, records_again r (omega arith))) in
      sym (drop_at (take (8 * r) x) (bytes_of l) (8 * r) long) ∙ ap (drop (8 * r)) both ∙ drop_at (take (8 * r) x) _ (8 * r) long ∙ rw (drop-drop (8 * r) (bodies_at f) f)

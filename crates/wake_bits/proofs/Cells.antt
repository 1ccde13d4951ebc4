-- The places of a mask and the wake cells of a process.
use Rattle.std.proofs.Common.{◌≡◌, ◌∙◌, ℕ, zero, suc, ◌+◌, ◌-◌, ◌^◌, ◌<◌, ◌≤◌, ◌&&◌, ◌||◌, Bool, true, false, not, if◌then◌else◌, List, [], ◌∷◌, map, length, bit_and, refl, sym, ap, ap₂, arith}
use Rattle.std.specs.Prelude.{nat_lt}
use Rattle.std.specs.List.{list_all, list_any, range_with_len}
use Rattle.std.proofs.lemmas.Bool.{lt-ltb, ltb-false, ltb-true}
use Rattle.std.proofs.lemmas.Bool.Decides.{nat_tests}
use Rattle.std.proofs.lemmas.List.Folds.{list_all-map}
use Rattle.event_machine.specs.Cell.{Cell}
use Rattle.four_state.specs.Masks.{is_set}
use Rattle.four_state.proofs.Places.{is_set-and, is_set-not}
use Rattle.design_model.specs.BodyLaws.{all_cells, word_indexes, words_cells}
use Rattle.design_model.specs.Design.{Design, body_at, cell, signal_at, signal_cells}
use Rattle.design_model.specs.Mentions.{blocking_target}
use Rattle.process_order.specs.replay_model.Step.{not_assigned, wake_cells}
use Rattle.wake_bits.specs.Laws.{EachWakeLaw, IsWakeOf, SomeWakeLaw}
use Rattle.wake_bits.specs.declared.wakes.Wake.{Wake}

-- the places of a width that are not in a mask
pub left_places : (all own n i : ℕ) (writes : Bool) → n ≤ 128 → own < 2 ^ 128 → is_set all i ≡ nat_lt i n → is_set own i ≡ writes → is_set (bit_and all (2 ^ 128 - 1 - own)) i ≡ (nat_lt i n && not writes)
left_places all own n i writes narrow below a o = is_set-and all (2 ^ 128 - 1 - own) i ∙ go (nat_lt i 128) refl
  where
    go : (b : Bool) → nat_lt i 128 ≡ b → (is_set all i && is_set (2 ^ 128 - 1 - own) i) ≡ (nat_lt i n && not writes)
    go true e = ap₂ (λ p q. p && q) a (is_set-not 128 own i below (ltb-true i 128 e) ∙ ap not o)
    go false e =
        let past : nat_lt i n ≡ false = grind (arith, nat_tests, ltb-false i 128 e, narrow) in
        ap (λ p. p && is_set (2 ^ 128 - 1 - own) i) (a ∙ past) ∙ sym (ap (λ p. p && not writes) past)

module _ (d : Design) (p : ℕ) (test : Cell → Bool) where
  abbrev writes : Cell → Bool
  writes = blocking_target d (body_at d p)

  some_left : (cs : List Cell) → list_any test (not_assigned d p cs) ≡ list_any (λ c. not (writes c) && test c) cs
  some_left [] = refl
  some_left (c ∷ cs) = go (writes c) (some_left cs)
    where
      go : (b : Bool) → list_any test (not_assigned d p cs) ≡ list_any (λ c. not (writes c) && test c) cs → list_any test (if b then not_assigned d p cs else c ∷ not_assigned d p cs) ≡ ((not b && test c) || list_any (λ c. not (writes c) && test c) cs)
      go true e = e
      go false e = ap (λ b. test c || b) e

  each_left : (cs : List Cell) → list_all test (not_assigned d p cs) ≡ list_all (λ c. writes c || test c) cs
  each_left [] = refl
  each_left (c ∷ cs) = go (writes c) (each_left cs)
    where
      go : (b : Bool) → list_all test (not_assigned d p cs) ≡ list_all (λ c. writes c || test c) cs → list_all test (if b then not_assigned d p cs else c ∷ not_assigned d p cs) ≡ ((b || test c) && list_all (λ c. writes c || test c) cs)
      go true e = e
      go false e = ap (λ b. test c && b) e

any_cells : (f : Cell → Bool) (x : ℕ) (ks : List ℕ) → list_any f (map (cell x) ks) ≡ list_any (λ k. f (cell x k)) ks
any_cells f x [] = refl
any_cells f x (k ∷ ks) = ap (λ b. f (cell x k) || b) (any_cells f x ks)

-- tests that agree in a range
some_same : (f g : ℕ → Bool) (a n : ℕ) → ((k : ℕ) → k < a + n → f k ≡ g k) → list_any f (range_with_len a n) ≡ list_any g (range_with_len a n)
some_same f g a zero h = refl
some_same f g a (suc n) h = ap₂ (λ p q. p || q) (h a (omega arith)) (some_same f g (a + 1) n (λ k l. h k (omega (arith, l))))

each_same : (f g : ℕ → Bool) (a n : ℕ) → ((k : ℕ) → k < a + n → f k ≡ g k) → list_all f (range_with_len a n) ≡ list_all g (range_with_len a n)
each_same f g a zero h = refl
each_same f g a (suc n) h = ap₂ (λ p q. p && q) (h a (omega arith)) (each_same f g (a + 1) n (λ k l. h k (omega (arith, l))))

cells_of_signal : (d : Design) (x : ℕ) → x < length d.signals → all_cells d x ≡ signal_cells d x
cells_of_signal d x l = ap (λ b. if b then signal_cells d x else words_cells d x (word_indexes d x)) (lt-ltb x (length d.signals) l)

not_not : (b : Bool) → not (not b) ≡ b
not_not true = refl
not_not false = refl

module _ (d : Design) (p : ℕ) (w : Wake) (test : Cell → Bool) (is : IsWakeOf d p w) where
  -- within the signal a place of the mask is one that the process does not write
  place_is : (k : ℕ) → k < 0 + (signal_at d w.thing).width → is_set w.mask k ≡ not (blocking_target d (body_at d p) (cell w.thing k))
  place_is k l = is.places k ∙ ap (λ b. b && not (blocking_target d (body_at d p) (cell w.thing k))) (lt-ltb k (signal_at d w.thing).width (omega (arith, l)))

  pub some_wake : w.thing < length d.signals → list_any test (wake_cells d p w.thing) ≡ list_any (λ k. is_set w.mask k && test (cell w.thing k)) (range_with_len 0 (signal_at d w.thing).width)
  some_wake l =
      ap (λ cs. list_any test (not_assigned d p cs)) (cells_of_signal d w.thing l)
      ∙ some_left d p test (signal_cells d w.thing)
      ∙ any_cells (λ c. not (blocking_target d (body_at d p) c) && test c) w.thing (range_with_len 0 (signal_at d w.thing).width)
      ∙ some_same _ _ 0 (signal_at d w.thing).width (λ k m. ap (λ b. b && test (cell w.thing k)) (sym (place_is k m)))

  pub each_wake : w.thing < length d.signals → list_all test (wake_cells d p w.thing) ≡ list_all (λ k. not (is_set w.mask k) || test (cell w.thing k)) (range_with_len 0 (signal_at d w.thing).width)
  each_wake l =
      ap (λ cs. list_all test (not_assigned d p cs)) (cells_of_signal d w.thing l)
      ∙ each_left d p test (signal_cells d w.thing)
      ∙ list_all-map (λ c. blocking_target d (body_at d p) c || test c) (cell w.thing) (range_with_len 0 (signal_at d w.thing).width)
      ∙ each_same _ _ 0 (signal_at d w.thing).width (λ k m. ap (λ b. b || test (cell w.thing k)) (sym (ap not (place_is k m) ∙ not_not (blocking_target d (body_at d p) (cell w.thing k)))))

pub some_wake_law : (d : Design) → SomeWakeLaw d
some_wake_law d p w test is l = some_wake d p w test is l

pub each_wake_law : (d : Design) → EachWakeLaw d
each_wake_law d p w test is l = each_wake d p w test is l

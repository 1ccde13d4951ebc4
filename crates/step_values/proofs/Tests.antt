-- What is forgotten one test after the other.
use Rattle.std.proofs.Common.{◌≡◌, ℕ, ◌+◌, ◌<◌, ◌&&◌, ◌||◌, Bool, true, false, not, ◌==◌, if◌then◌else◌, List, Option, get_or, length, take, None, refl, sym, ap, ◌∙◌}
use Rattle.std.proofs.Math.Path.{fun_ext}
use Rattle.std.proofs.lemmas.Bool.{eqb-true}
use Rattle.std.proofs.lemmas.List.Folds.{list_any_more}
use Rattle.event_machine.specs.Cell.{Cell}
use Rattle.four_state.specs.Masks.{is_set}
use Rattle.store_knowledge.specs.body_replay.Store.{Kept}
use Rattle.index_sets.specs.Rows.{row_at}
use Rattle.process_targets.specs.Targets.{has_bit, row_has}
use Rattle.process_targets.specs.declared.bits.Bits.{Bits}
use Rattle.step_values.specs.Loose.{forgetting, has_code, some_row_has, uncoded}

-- ---- equal tests forget the same

pub same_test : (t u : Cell → Bool) (k : Kept) → ((c : Cell) → t c ≡ u c) → forgetting t k ≡ forgetting u k
same_test t u k same = fun_ext (λ c. ap (λ b. if b then None else k c) (same c))

pub no_test : (t : Cell → Bool) (k : Kept) → ((c : Cell) → t c ≡ false) → forgetting t k ≡ k
no_test t k same = fun_ext (λ c. ap (λ b. if b then None else k c) (same c))

module _ (t u v : Cell → Bool) (k : Kept) (same : (c : Cell) → v c ≡ (u c || t c)) where
  both_at : (c : Cell) (a b : Bool) → (if a then None else (if b then None else k c)) ≡ (if b || a then None else k c)
  both_at c true true = refl
  both_at c true false = refl
  both_at c false true = refl
  both_at c false false = refl

  pub both_tests : forgetting t (forgetting u k) ≡ forgetting v k
  both_tests = fun_ext (λ c. both_at c (t c) (u c) ∙ ap (λ b. if b then None else k c) (sym (same c)))

-- ---- tests of cells that the dump does not have

or_and : (a b e : Bool) → ((a || b) && e) ≡ ((a && e) || (b && e))
or_and true true true = refl
or_and true true false = refl
or_and true false true = refl
or_and true false false = refl
or_and false b e = refl

pub uncoded_or : (codes : List (Option ℕ)) (t u v : Cell → Bool) (c : Cell) → v c ≡ (u c || t c) → uncoded codes v c ≡ (uncoded codes u c || uncoded codes t c)
uncoded_or codes t u v c same = ap (λ b. b && not (has_code codes c.thing)) same ∙ or_and (u c) (t c) (not (has_code codes c.thing))

pub uncoded_none : (codes : List (Option ℕ)) (t : Cell → Bool) (c : Cell) → t c ≡ false → uncoded codes t c ≡ false
uncoded_none codes t c none = ap (λ b. b && not (has_code codes c.thing)) none

module _ (codes : List (Option ℕ)) (b : Bits) (c : Cell) where
  -- a signal that has a code
  coded_at : (t : Bool) → (b.signal == c.thing) ≡ t → has_code codes b.signal ≡ true → ((t && is_set b.mask c.place) && not (has_code codes c.thing)) ≡ false
  coded_at false e coded = refl
  coded_at true e coded = ap (λ x. is_set b.mask c.place && not x) (ap (has_code codes) (sym (eqb-true b.signal c.thing e)) ∙ coded) ∙ and_no (is_set b.mask c.place)
    where
      and_no : (x : Bool) → (x && false) ≡ false
      and_no true = refl
      and_no false = refl

  pub coded_bits : has_code codes b.signal ≡ true → uncoded codes (has_bit b) c ≡ false
  coded_bits coded = coded_at (b.signal == c.thing) refl coded

  -- one that has no code
  free_at : (t : Bool) → (b.signal == c.thing) ≡ t → has_code codes b.signal ≡ false → ((t && is_set b.mask c.place) && not (has_code codes c.thing)) ≡ (t && is_set b.mask c.place)
  free_at false e free = refl
  free_at true e free = ap (λ x. is_set b.mask c.place && not x) (ap (has_code codes) (sym (eqb-true b.signal c.thing e)) ∙ free) ∙ and_yes (is_set b.mask c.place)
    where
      and_yes : (x : Bool) → (x && true) ≡ x
      and_yes true = refl
      and_yes false = refl

  pub free_bits : has_code codes b.signal ≡ false → uncoded codes (has_bit b) c ≡ has_bit b c
  free_bits free = free_at (b.signal == c.thing) refl free

-- ---- one more of a list

pub row_more : (row : List Bits) (i : ℕ) (e : Bits) (c : Cell) → i < length row → row_has (take (i + 1) row) c ≡ (row_has (take i row) c || has_bit (get_or row i e) c)
row_more row i e c l = list_any_more (λ y. has_bit y c) row i e l

pub rows_more : (rows : List (List Bits)) (ps : List ℕ) (i e : ℕ) (c : Cell) → i < length ps → some_row_has rows (take (i + 1) ps) c ≡ (some_row_has rows (take i ps) c || row_has (row_at rows (get_or ps i e)) c)
rows_more rows ps i e c l = list_any_more (λ q. row_has (row_at rows q) c) ps i e l

-- What a store knows once bits are forgotten, bits after bits and row after row.
use Rattle.std.proofs.Common.{◌≡◌, ℕ, ◌+◌, ◌<◌, ◌||◌, ◌==◌, ◌&&◌, Bool, true, false, List, length, map, take, get_or, Option, None, refl, sym, ap, subst, ◌∙◌}
use Rattle.std.specs.List.{range_with_len}
use Rattle.std.proofs.Math.Path.{fun_ext}
use Rattle.std.proofs.lemmas.Bool.{eqb-true, false_from_ne_true, false≢true}
use Rattle.std.proofs.lemmas.List.{length-map}
use Rattle.std.proofs.lemmas.List.FromFn.{length-map-range_with_len}
use Rattle.event_machine.specs.Cell.{Cell}
use Rattle.four_state.specs.Masks.{is_set}
use Rattle.known_state.specs.Partly.{Partly}
use Rattle.design_model.specs.Design.{Design, cell, signal_at, signal_cells}
use Rattle.design_model.specs.View.{design_view}
use Rattle.store_knowledge.specs.body_replay.Store.{Kept}
use Rattle.store_knowledge.specs.body_store.declared.store.Store.{Store}
use Rattle.index_sets.specs.Rows.{row_at}
use Rattle.process_targets.specs.Rows.{IsInside}
use Rattle.process_targets.specs.Targets.{has_bit, row_has}
use Rattle.process_targets.specs.declared.bits.Bits.{Bits}
use Rattle.store_knowledge.specs.Knows.{Knows, with_bits}
use Rattle.step_values.specs.Loose.{forgetting, has_code, some_row_has, uncoded}
use Rattle.step_values.specs.Loosens.{Loosens}
use Rattle.step_values.specs.Vectors.{StepVectors, vector_at}
use Rattle.step_values.proofs.Bits.{bits_forgotten, left, row_kept}
use Rattle.step_values.proofs.Tests.{both_tests, coded_bits, free_bits, no_test, row_more, rows_more, same_test, uncoded_none, uncoded_or}

-- what a store knows of a signal is as wide as the signal
pub known_width : (d : Design) (k : Kept) (x : Store) (s : ℕ) (q : Partly) → Knows d k x → q.bits ≡ map k (signal_cells d s) → length q.bits ≡ (signal_at (design_view x.design.now) s).width
known_width d k x s q h e = ap length e ∙ length-map (signal_cells d s) k ∙ length-map-range_with_len (cell s) 0 (signal_at d s).width ∙ ap (λ e. (signal_at e s).width) (sym h.design)

-- what is known of the store's design holds of the design of what it knows
pub here : (P : Design → Type 0) (d : Design) (k : Kept) (x : Store) → Knows d k x → P (design_view x.design.now) → P d
here P d k x h p = subst P h.design p

module _ (x y : Store) (b : Bits) (q r : Partly) (inside : IsInside (design_view x.design.now) b) (known : (d : Design) (k : Kept) → Knows d k x → q.bits ≡ map k (signal_cells d b.signal)) (size : length r.bits ≡ length q.bits) (bits : (i : ℕ) → i < length q.bits → get_or r.bits i None ≡ left b.mask q.bits i) (knows : (d : Design) (k : Kept) → Knows d k x → Knows d (with_bits b.signal r.bits k) y) where
  pub forgotten_knows : (d : Design) (k : Kept) → Knows d k x → Knows d (forgetting (has_bit b) k) y
  forgotten_knows d k h =
      let l = (here (λ e. IsInside e b) d k x h inside).0 in
      let width : length r.bits ≡ (signal_at d b.signal).width = size ∙ known_width d k x b.signal q h (known d k h) ∙ ap (λ e. (signal_at e b.signal).width) h.design in
      subst (λ j. Knows d j y) (bits_forgotten d k b q.bits r.bits h.blank l (known d k h) width bits size) (knows d k h)

-- ---- bits of a signal that the dump has, or not

module _ (codes : List (Option ℕ)) (b : Bits) where
  pub knows_coded : (x : Store) (d : Design) (k : Kept) → has_code codes b.signal ≡ true → Knows d k x → Knows d (forgetting (uncoded codes (has_bit b)) k) x
  knows_coded x d k coded h = subst (λ j. Knows d j x) (sym (no_test (uncoded codes (has_bit b)) k (λ c. coded_bits codes b c coded))) h

  pub knows_free : (x : Store) (d : Design) (k : Kept) → has_code codes b.signal ≡ false → Knows d (forgetting (has_bit b) k) x → Knows d (forgetting (uncoded codes (has_bit b)) k) x
  knows_free x d k free h = subst (λ j. Knows d j x) (same_test (has_bit b) (uncoded codes (has_bit b)) k (λ c. sym (free_bits codes b c free))) h

  -- what was made of a signal that the dump has stays
  pub made_free : (d : Design) (m : Kept) (s : ℕ) → has_code codes b.signal ≡ false → has_code codes s ≡ true → map (forgetting (has_bit b) m) (signal_cells d s) ≡ map m (signal_cells d s)
  made_free d m s free coded = row_kept (has_bit b) m s (range_with_len 0 (signal_at d s).width) (λ j. ap (λ t. t && is_set b.mask j) other)
    where
      other : (b.signal == s) ≡ false
      other = false_from_ne_true _ (λ e. false≢true (sym free ∙ ap (has_code codes) (eqb-true b.signal s e) ∙ coded))

-- ---- the bits of a row so far, and of the rows of processes so far

module _ (codes : List (Option ℕ)) (x : Store) (d : Design) (k : Kept) where
  pub knows_none : (t : Cell → Bool) → ((c : Cell) → t c ≡ false) → Knows d k x → Knows d (forgetting (uncoded codes t) k) x
  knows_none t none h = subst (λ j. Knows d j x) (sym (no_test (uncoded codes t) k (λ c. uncoded_none codes t c (none c)))) h

  pub knows_more : (t u v : Cell → Bool) → ((c : Cell) → v c ≡ (u c || t c)) → Knows d (forgetting (uncoded codes t) (forgetting (uncoded codes u) k)) x → Knows d (forgetting (uncoded codes v) k) x
  knows_more t u v both h = subst (λ j. Knows d j x) (both_tests (uncoded codes t) (uncoded codes u) (uncoded codes v) k (λ c. uncoded_or codes t u v c (both c))) h

pub made_more : (d : Design) (m : Kept) (s : ℕ) (q : Partly) (t u v : Cell → Bool) → ((c : Cell) → v c ≡ (u c || t c)) → q.bits ≡ map (forgetting t (forgetting u m)) (signal_cells d s) → q.bits ≡ map (forgetting v m) (signal_cells d s)
made_more d m s q t u v both e = e ∙ ap (λ j. map j (signal_cells d s)) (both_tests t u v m both)

pub made_none : (d : Design) (m : Kept) (s : ℕ) (q : Partly) (t : Cell → Bool) → ((c : Cell) → t c ≡ false) → q.bits ≡ map m (signal_cells d s) → q.bits ≡ map (forgetting t m) (signal_cells d s)
made_none d m s q t none e = e ∙ ap (λ j. map j (signal_cells d s)) (sym (no_test t m none))

pub nothing_yet : (codes : List (Option ℕ)) (t : Cell → Bool) (x : Store) (v : StepVectors) → ((c : Cell) → t c ≡ false) → Loosens codes t x x v v
nothing_yet codes t x v none = record {
  design = refl;
  before = refl;
  fits = λ d f. f;
  knows = λ d k h. knows_none codes x d k t none h;
  made = λ d m s f l coded e. made_none d m s (vector_at v.made s) t none e;
}

pub one_more : (codes : List (Option ℕ)) (t u all : Cell → Bool) (x y z : Store) (v w a : StepVectors) → ((c : Cell) → all c ≡ (u c || t c)) → Loosens codes u x y v w → Loosens codes t y z w a → Loosens codes all x z v a
one_more codes t u all x y z v w a both first second = record {
  design = second.design ∙ first.design;
  before = second.before ∙ first.before;
  fits = λ d f. second.fits d (first.fits d f);
  knows = λ d k h. knows_more codes z d k t u all both (second.knows d (forgetting (uncoded codes u) k) (first.knows d k h));
  made = λ d m s f l coded e. made_more d m s (vector_at a.made s) t u all both (second.made d (forgetting u m) s (first.fits d f) l coded (first.made d m s f l coded e));
}

pub all_of : (codes : List (Option ℕ)) (t u : Cell → Bool) (x y : Store) (v w : StepVectors) → ((c : Cell) → t c ≡ u c) → Loosens codes t x y v w → Loosens codes u x y v w
all_of codes t u x y v w same f = subst (λ a. Loosens codes a x y v w) (fun_ext same) f

-- ---- the steps of the loops

pub row_step : (codes : List (Option ℕ)) (row : List Bits) (i : ℕ) (e : Bits) (x y z : Store) (v w a : StepVectors) → i < length row → Loosens codes (row_has (take i row)) x y v w → Loosens codes (has_bit (get_or row i e)) y z w a → Loosens codes (row_has (take (i + 1) row)) x z v a
row_step codes row i e x y z v w a l = one_more codes (has_bit (get_or row i e)) (row_has (take i row)) (row_has (take (i + 1) row)) x y z v w a (λ c. row_more row i e c l)

pub rows_step : (codes : List (Option ℕ)) (rows : List (List Bits)) (ps : List ℕ) (i e : ℕ) (x y z : Store) (v w a : StepVectors) → i < length ps → Loosens codes (some_row_has rows (take i ps)) x y v w → Loosens codes (row_has (row_at rows (get_or ps i e))) y z w a → Loosens codes (some_row_has rows (take (i + 1) ps)) x z v a
rows_step codes rows ps i e x y z v w a l = one_more codes (row_has (row_at rows (get_or ps i e))) (some_row_has rows (take i ps)) (some_row_has rows (take (i + 1) ps)) x y z v w a (λ c. rows_more rows ps i e c l)

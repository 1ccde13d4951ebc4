-- What was made of signals that are overwritten is taken, one after the other.
use Rattle.std.proofs.Common.{◌≡◌, ℕ, ◌+◌, ◌<◌, ◌==◌, ◌&&◌, ◌||◌, Bool, true, false, if◌then◌else◌, List, [], ◌∷◌, ◌++◌, length, map, take, get_or, Option, refl, sym, ap, subst, ◌∙◌, eq-eqb, inl, inr}
use Rattle.std.specs.Prelude.{slice_set}
use Rattle.std.specs.List.{All, Contains}
use Rattle.std.proofs.lemmas.Bool.{and_from, and_parts, eqb-true, false≢true, or_parts}
use Rattle.std.proofs.lemmas.List.Elements.{All-cons, All-nil}
use Rattle.std.proofs.lemmas.List.Folds.{list_any-append, list_any_at, list_any_more}
use Rattle.known_state.specs.Partly.{Partly}
use Rattle.design_model.specs.Design.{Design, In, signal_cells}
use Rattle.store_knowledge.specs.body_replay.Store.{Kept}
use Rattle.store_knowledge.specs.body_calls.Own.{is_in}
use Rattle.store_knowledge.specs.body_store.declared.store.Store.{Store}
use Rattle.index_sets.specs.Rows.{row_at}
use Rattle.replay_steps.specs.replay_model.Step.{Closing}
use Rattle.replay_steps.proofs.replay_model.Bits.{any_in, in_any}
use Rattle.store_knowledge.specs.Knows.{Knows}
use Rattle.step_values.specs.Dumped.{HaveCodes}
use Rattle.step_values.specs.Loose.{has_code}
use Rattle.step_values.specs.Starts.{AreTaken}
use Rattle.step_values.specs.Taken.{AreOfRows, Takes, TakesKnown, some_row_lists}
use Rattle.step_values.specs.Vectors.{FitsSignals, StepVectors, vector_at}
use Rattle.step_values.proofs.Aside.{known_width, one_known, set_there, set_wide}

-- ---- tests of numbers

or_none : (b : Bool) → b ≡ (b || false)
or_none true = refl
or_none false = refl

-- a number that has a code
coded_number : (codes : List (Option ℕ)) (x s : ℕ) (t : Bool) → (x == s) ≡ t → has_code codes x ≡ true → t ≡ (t && has_code codes s)
coded_number codes x s false e coded = refl
coded_number codes x s true e coded = sym (ap (has_code codes) (sym (eqb-true x s e)) ∙ coded)

-- one that has no code
free_number : (codes : List (Option ℕ)) (x s : ℕ) (t : Bool) → (x == s) ≡ t → has_code codes x ≡ false → (t && has_code codes s) ≡ false
free_number codes x s false e free = refl
free_number codes x s true e free = ap (has_code codes) (sym (eqb-true x s e)) ∙ free

-- the list after a number was put into a set
pub one_in : (xs ys : List ℕ) (x : ℕ) (r : Bool) → (r ≡ false → Contains xs x) → ys ≡ (if r then xs ++ x ∷ [] else xs) → (s : ℕ) → is_in ys s ≡ (is_in xs s || x == s)
one_in xs ys x true there is s = ap (λ zs. is_in zs s) is ∙ list_any-append (λ y. y == s) xs (x ∷ []) ∙ ap (λ b. is_in xs s || b) (sym (or_none (x == s)))
one_in xs ys x false there is s = ap (λ zs. is_in zs s) is ∙ again (x == s) refl
  where
    has : is_in xs x ≡ true
    has = let c = there refl in list_any_at (λ y. y == x) xs c.0 x c.1 (ap (λ y. y == x) c.2 ∙ eq-eqb x x refl)

    again : (t : Bool) → (x == s) ≡ t → is_in xs s ≡ (is_in xs s || t)
    again false e = or_none (is_in xs s)
    again true e = let same : is_in xs s ≡ true = subst (λ y. is_in xs y ≡ true) (eqb-true x s e) has in same ∙ sym (ap (λ b. b || true) same)

-- ---- one number

-- it has a code, so it is a signal, of which what the store knows was put in
pub coded_takes : (codes : List (Option ℕ)) (x : Store) (xs ys : List ℕ) (thing : ℕ) (v w : StepVectors) (q : Partly) (r : Bool) → has_code codes thing ≡ true → thing < length v.made → w ≡ record v { made = slice_set v.made thing q } → ((d : Design) (k : Kept) → Knows d k x → q.bits ≡ map k (signal_cells d thing)) → (r ≡ false → Contains xs thing) → ys ≡ (if r then xs ++ thing ∷ [] else xs) → Takes codes (λ s. thing == s) x xs ys v w
coded_takes codes x xs ys thing v w q r coded inside set bits there is = subst (λ u. Takes codes (λ s. thing == s) x xs ys v u) (sym set) (record {
  before = refl;
  fits = λ d k h fits. record { before = fits.before; made = set_wide d.signals v.made thing q inside (known_width d k thing q (bits d k h)) fits.made };
  listed = λ s. one_in xs ys thing r there is s ∙ ap (λ b. is_in xs s || b) (coded_number codes thing s (thing == s) refl coded);
  known = λ d k h fits so_far. one_known d k xs ys thing v.made q (one_in xs ys thing r there is) inside (bits d k h) so_far;
  others = λ s out. set_there v.made thing q s false inside (or_parts (is_in xs s) (thing == s) (sym (one_in xs ys thing r there is s) ∙ out)).1;
})

-- ---- none, and some after others

pub nothing_taken : (codes : List (Option ℕ)) (t : ℕ → Bool) (x : Store) (xs : List ℕ) (v : StepVectors) → ((s : ℕ) → (t s && has_code codes s) ≡ false) → Takes codes t x xs xs v v
nothing_taken codes t x xs v none = record {
  before = refl;
  fits = λ d k h fits. fits;
  listed = λ s. or_none (is_in xs s) ∙ ap (λ b. is_in xs s || b) (sym (none s));
  known = λ d k h fits so_far. so_far;
  others = λ s out. refl;
}

pub free_takes : (codes : List (Option ℕ)) (x : Store) (xs : List ℕ) (thing : ℕ) (v : StepVectors) → has_code codes thing ≡ false → Takes codes (λ s. thing == s) x xs xs v v
free_takes codes x xs thing v free = nothing_taken codes (λ s. thing == s) x xs v (λ s. free_number codes thing s (thing == s) refl free)

or_both : (a u t c : Bool) → ((a || (u && c)) || (t && c)) ≡ (a || ((u || t) && c))
or_both true u t c = refl
or_both false true true true = refl
or_both false true true false = refl
or_both false true false true = refl
or_both false true false false = refl
or_both false false t c = refl

pub more_taken : (codes : List (Option ℕ)) (t u all : ℕ → Bool) (x : Store) (xs ys zs : List ℕ) (v w a : StepVectors) → ((s : ℕ) → all s ≡ (u s || t s)) → Takes codes u x xs ys v w → Takes codes t x ys zs w a → Takes codes all x xs zs v a
more_taken codes t u all x xs ys zs v w a both first second = record {
  before = second.before ∙ first.before;
  fits = λ d k h fits. second.fits d k h (first.fits d k h fits);
  listed = λ s. second.listed s ∙ ap (λ b. b || (t s && has_code codes s)) (first.listed s) ∙ or_both (is_in xs s) (u s) (t s) (has_code codes s) ∙ ap (λ b. is_in xs s || (b && has_code codes s)) (sym (both s));
  known = λ d k h fits so_far. second.known d k h (first.fits d k h fits) (first.known d k h fits so_far);
  others = λ s out. second.others s out ∙ first.others s (or_parts (is_in ys s) (t s && has_code codes s) (sym (second.listed s) ∙ out)).0;
}

-- ---- the steps of the loops

pub row_step : (codes : List (Option ℕ)) (row : List ℕ) (i e : ℕ) (x : Store) (xs ys zs : List ℕ) (v w a : StepVectors) → i < length row → Takes codes (is_in (take i row)) x xs ys v w → Takes codes (λ s. get_or row i e == s) x ys zs w a → Takes codes (is_in (take (i + 1) row)) x xs zs v a
row_step codes row i e x xs ys zs v w a l = more_taken codes (λ s. get_or row i e == s) (is_in (take i row)) (is_in (take (i + 1) row)) x xs ys zs v w a (λ s. list_any_more (λ y. y == s) row i e l)

pub rows_step : (codes : List (Option ℕ)) (rows : List (List ℕ)) (ps : List ℕ) (i e : ℕ) (x : Store) (xs ys zs : List ℕ) (v w a : StepVectors) → i < length ps → Takes codes (some_row_lists rows (take i ps)) x xs ys v w → Takes codes (is_in (row_at rows (get_or ps i e))) x ys zs w a → Takes codes (some_row_lists rows (take (i + 1) ps)) x xs zs v a
rows_step codes rows ps i e x xs ys zs v w a l = more_taken codes (is_in (row_at rows (get_or ps i e))) (some_row_lists rows (take i ps)) (some_row_lists rows (take (i + 1) ps)) x xs ys zs v w a (λ s. list_any_more (λ p. is_in (row_at rows p) s) ps i e l)

-- ---- all

-- a number of a list passes its test
in_is : (xs : List ℕ) (s : ℕ) → In s xs → is_in xs s ≡ true
in_is xs s i = in_any (λ y. y == s) xs s i (eq-eqb s s refl)

is_in_list : (xs : List ℕ) (s : ℕ) → is_in xs s ≡ true → In s xs
is_in_list xs s h = let x = any_in (λ y. y == s) xs h in subst (λ y. In y xs) (eqb-true x.0 s x.2) x.1

all_listed : (P : ℕ → Type 0) (xs : List ℕ) → ((s : ℕ) → In s xs → P s) → All P xs
all_listed P [] each = All-nil P
all_listed P (x ∷ xs) each = All-cons P x xs (each x (inl refl)) (all_listed P xs (λ s i. each s (inr i)))

module _ (codes : List (Option ℕ)) (rows : List (List ℕ)) (ps : List ℕ) (x : Store) (ys : List ℕ) (v w : StepVectors) (takes : Takes codes (some_row_lists rows ps) x [] ys v w) where
  pub of_rows : AreOfRows codes rows ps ys
  of_rows s = (
    λ i.
        let both = and_parts (some_row_lists rows ps s) (has_code codes s) (sym (takes.listed s) ∙ in_is ys s i) in
        let p = any_in (λ q. is_in (row_at rows q) s) ps both.0 in
        (both.1, p.0, p.1, p.2),
    λ h. is_in_list ys s (takes.listed s ∙ and_from (some_row_lists rows ps s) (has_code codes s) (in_any (λ q. is_in (row_at rows q) s) ps h.1 h.2 h.3) h.0),
  )

  pub all_coded : (d : Design) → ((s : ℕ) → has_code codes s ≡ true → s < length d.signals) → HaveCodes d codes ys
  all_coded d inside = all_listed (λ s. (s < length d.signals) × (has_code codes s ≡ true)) ys (λ s i. let coded = ((of_rows s).0 i).0 in (inside s coded, coded))

  pub takes_known : (d : Design) (k : Kept) → Knows d k x → FitsSignals d v → TakesKnown d k ys v w
  takes_known d k h fits = record { known = takes.known d k h fits (λ s l none. absurd (false≢true none)); others = takes.others }

  pub taken : (st : Closing) (k : Kept) → Knows st.design k x → AreTaken st k [] v → AreTaken st k ys w
  taken st k h old = record {
    fits = takes.fits st.design k h old.fits;
    before = λ s l m. ap (λ qs. (vector_at qs s).bits) takes.before ∙ old.before s l m;
    made = λ s l m b. at s (is_in ys s) refl l m b;
  }
    where
      at : (s : ℕ) (t : Bool) → is_in ys s ≡ t → s < length st.design.signals → st.sets.moves s ≡ true → st.bound s ≡ true → (vector_at w.made s).bits ≡ map (if t then k else st.start.kept) (signal_cells st.design s)
      at s true e l m b = (takes_known st.design k h old.fits).known s l e
      at s false e l m b = ap (λ (p : Partly). p.bits) (takes.others s e) ∙ old.made s l m b

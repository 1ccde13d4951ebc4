-- What is known of signals is set aside one after the other.
use Rattle.std.proofs.Common.{◌≡◌, ℕ, zero, suc, ◌+◌, ◌<◌, ◌≤◌, ◌==◌, ◌||◌, Bool, true, false, if◌then◌else◌, List, [], ◌∷◌, ◌++◌, length, map, take, get_or, refl, sym, ap, subst, ◌∙◌, arith, length-set, ⊎_elim}
use Rattle.std.specs.Prelude.{slice_set}
use Rattle.std.proofs.lemmas.Bool.{cases_eq, eqb-true, false≢true}
use Rattle.std.proofs.lemmas.Bool.Decides.{nat_tests}
use Rattle.std.proofs.lemmas.List.{get_or-set_other, get_or-set_same, get_or_append_left, get_or_push, length-map, take_all}
use Rattle.std.proofs.lemmas.List.FromFn.{length-map-range_with_len}
use Rattle.std.proofs.lemmas.List.Folds.{list_any_more}
use Rattle.known_state.specs.Partly.{Partly}
use Rattle.design_model.specs.Design.{Design, cell, no_signal, signal_at, signal_cells}
use Rattle.design_model.specs.declared.design.Signal.{Signal}
use Rattle.design_model.specs.View.{design_view}
use Rattle.store_knowledge.specs.body_replay.Store.{Kept}
use Rattle.store_knowledge.specs.body_calls.Own.{is_in}
use Rattle.store_knowledge.specs.value_store.Signals.{no_value}
use Rattle.store_knowledge.specs.body_store.declared.store.Store.{Store}
use Rattle.store_knowledge.specs.Knows.{Knows}
use Rattle.step_values.specs.Vectors.{AreKnownBits, AreOpened, AreWide, FitsSignals, IsSetAside, StepVectors, vector_at}

-- ---- a vector for each signal

-- there is one for each of the first signals
pub record Wide (i : ℕ) (ss : List Signal) (qs : List Partly) : Type 0 where
  pub count : length qs ≡ i
  pub width : (s : ℕ) → s < i → length (vector_at qs s).bits ≡ (get_or ss s no_signal).width

pub one_wide : (i : ℕ) (ss : List Signal) (qs us : List Partly) (x : Signal) (q : Partly) → x ≡ get_or ss i no_signal → us ≡ qs ++ q ∷ [] → length us ≡ i + 1 → length q.bits ≡ x.width → Wide i ss qs → Wide (i + 1) ss us
one_wide i ss qs us x q is pushed size width w =
    record {
      count = size;
      width = λ s l. ⊎_elim
          (λ e. ap (λ ps. length (vector_at ps s).bits) pushed ∙ ap (λ (p : Partly). length p.bits) (ap (λ k. get_or (qs ++ q ∷ []) k no_value) e ∙ get_or_push qs q no_value i w.count) ∙ width ∙ ap (λ (y : Signal). y.width) is ∙ ap (λ k. (get_or ss k no_signal).width) (sym e))
          (λ ne. let less : s < i = omega (arith, l, ne) in
          let count = w.count in
          ap (λ ps. length (vector_at ps s).bits) pushed ∙ ap (λ (p : Partly). length p.bits) (get_or_append_left qs (q ∷ []) no_value s (omega (arith, less, count))) ∙ w.width s less)
          (cases_eq s i);
    }

pub all_wide : (i : ℕ) (ss : List Signal) (qs : List Partly) → i ≡ length ss → Wide i ss qs → AreWide ss qs
all_wide i ss qs e w = record { count = w.count ∙ e; width = λ s l. w.width s (omega (arith, e, l)) }

-- a list with another vector of a signal
pub set_there : (qs : List Partly) (x : ℕ) (q : Partly) (s : ℕ) (t : Bool) → x < length qs → (x == s) ≡ t → vector_at (slice_set qs x q) s ≡ (if t then q else vector_at qs s)
set_there qs x q s true l e = let is : s ≡ x = sym (eqb-true x s e) in ap (λ y. vector_at (slice_set qs x q) y) is ∙ get_or-set_same qs x q no_value l
set_there qs x q s false l e = get_or-set_other qs x s q no_value (λ is. false≢true (sym e ∙ eqb_is (sym is)))
  where
    eqb_is : x ≡ s → (x == s) ≡ true
    eqb_is is = grind (arith, nat_tests, is)

-- a vector at a place of a list
other_default : (qs : List Partly) (i : ℕ) (a b : Partly) → i < length qs → get_or qs i a ≡ get_or qs i b
other_default [] i a b l = absurd (omega (arith, l))
other_default (q ∷ qs) zero a b l = refl
other_default (q ∷ qs) (suc i) a b l = other_default qs i a b (omega (arith, l))

pub in_list : (qs : List Partly) (i : ℕ) (q : Partly) → i < length qs → q ≡ get_or qs i q → q ≡ vector_at qs i
in_list qs i q l is = is ∙ other_default qs i q no_value l

pub set_wide : (ss : List Signal) (qs : List Partly) (x : ℕ) (q : Partly) → x < length qs → length q.bits ≡ (get_or ss x no_signal).width → AreWide ss qs → AreWide ss (slice_set qs x q)
set_wide ss qs x q l width w = record { count = length-set qs x q ∙ w.count; width = λ s m. ap (λ (p : Partly). length p.bits) (set_there qs x q s (x == s) l refl) ∙ at s (x == s) refl m }
  where
    at : (s : ℕ) (t : Bool) → (x == s) ≡ t → s < length ss → length (if t then q else vector_at qs s).bits ≡ (get_or ss s no_signal).width
    at s true e m = width ∙ ap (λ y. (get_or ss y no_signal).width) (eqb-true x s e)
    at s false e m = w.width s m

-- ---- what is known of signals

pub known_width : (d : Design) (k : Kept) (s : ℕ) (q : Partly) → q.bits ≡ map k (signal_cells d s) → length q.bits ≡ (signal_at d s).width
known_width d k s q e = ap length e ∙ length-map (signal_cells d s) k ∙ length-map-range_with_len (cell s) 0 (signal_at d s).width

-- a signal more
pub one_known : (d : Design) (k : Kept) (xs ys : List ℕ) (x : ℕ) (qs : List Partly) (q : Partly) → ((s : ℕ) → is_in ys s ≡ (is_in xs s || x == s)) → x < length qs → q.bits ≡ map k (signal_cells d x) → AreKnownBits d k xs qs → AreKnownBits d k ys (slice_set qs x q)
one_known d k xs ys x qs q more inside bits so_far s m h = ap (λ (p : Partly). p.bits) (set_there qs x q s (x == s) inside refl) ∙ at (x == s) (is_in xs s) refl (sym (more s) ∙ h) (λ e. so_far s m e)
  where
    at : (t u : Bool) → (x == s) ≡ t → (u || t) ≡ true → (u ≡ true → (vector_at qs s).bits ≡ map k (signal_cells d s)) → (if t then q else vector_at qs s).bits ≡ map k (signal_cells d s)
    at true u e h old = bits ∙ ap (λ y. map k (signal_cells d y)) (eqb-true x s e)
    at false true e h old = old refl
    at false false e h old = absurd (false≢true h)

module _ (d : Design) (k : Kept) (things : List ℕ) (i e : ℕ) (l : i < length things) where
  abbrev x : ℕ
  x = get_or things i e

  more : (s : ℕ) → is_in (take (i + 1) things) s ≡ (is_in (take i things) s || x == s)
  more s = list_any_more (λ y. y == s) things i e l

  -- a memory is passed over
  passed : (qs : List Partly) → length d.signals ≤ x → AreKnownBits d k (take i things) qs → AreKnownBits d k (take (i + 1) things) qs
  passed qs past so_far s m h = so_far s m (or_no (is_in (take i things) s) (sym (more s ∙ ap (λ b. is_in (take i things) s || b) (apart s m)) ∙ h))
    where
      apart : (s : ℕ) → s < length d.signals → (x == s) ≡ false
      apart s m = grind (arith, nat_tests, m, past)

      or_no : (b : Bool) → (b || false) ≡ true → b ≡ true
      or_no true e = refl
      or_no false e = e

  pub memory_opened : (v : StepVectors) → FitsSignals d v × AreOpened d k (take i things) v → length v.before ≤ x → FitsSignals d v × AreOpened d k (take (i + 1) things) v
  memory_opened v so_far past =
      let count = so_far.0.before.count in
      let above : length d.signals ≤ x = omega (arith, count, past) in
      (so_far.0, record { before = passed v.before above so_far.1.before; made = passed v.made above so_far.1.made })

  pub signal_opened : (v w : StepVectors) (q : Partly) → x < length v.before → w ≡ record { before = slice_set v.before x q; made = slice_set v.made x q } → q.bits ≡ map k (signal_cells d x) → FitsSignals d v × AreOpened d k (take i things) v → FitsSignals d w × AreOpened d k (take (i + 1) things) w
  signal_opened v w q inside set bits so_far =
      let fits = so_far.0 in
      let a = fits.before.count in
      let b = fits.made.count in
      let also : x < length v.made = omega (arith, inside, a, b) in
      subst (λ u. FitsSignals d u × AreOpened d k (take (i + 1) things) u) (sym set) (
        record { before = set_wide d.signals v.before x q inside (known_width d k x q bits) fits.before; made = set_wide d.signals v.made x q also (known_width d k x q bits) fits.made },
        record { before = one_known d k (take i things) (take (i + 1) things) x v.before q more inside bits so_far.1.before; made = one_known d k (take i things) (take (i + 1) things) x v.made q more also bits so_far.1.made },
      )

-- none
pub none_opened : (d : Design) (k : Kept) (things : List ℕ) (v : StepVectors) → AreOpened d k (take 0 things) v
none_opened d k things v = record { before = λ s m h. absurd (false≢true h); made = λ s m h. absurd (false≢true h) }

-- ---- one more thing

-- the vectors that are set aside so far, of the things of a list up to a place
pub record SoFar (x : Store) (v : StepVectors) (things : List ℕ) (i : ℕ) (w : StepVectors) : Type 0 where
  pub before : length w.before ≡ length v.before
  pub made : length w.made ≡ length v.made
  pub known : (d : Design) (k : Kept) → Knows d k x → FitsSignals d v → FitsSignals d w × AreOpened d k (take i things) w

pub none_so_far : (x : Store) (v : StepVectors) (things : List ℕ) → SoFar x v things 0 v
none_so_far x v things = record { before = refl; made = refl; known = λ d k h fits. (fits, none_opened d k things v) }

pub memory_so_far : (x : Store) (v : StepVectors) (things : List ℕ) (i e : ℕ) (w : StepVectors) → i < length things → length w.before ≤ get_or things i e → SoFar x v things i w → SoFar x v things (i + 1) w
memory_so_far x v things i e w l past f = record { before = f.before; made = f.made; known = λ d k h fits. memory_opened d k things i e l w (f.known d k h fits) past }

pub signal_so_far : (x : Store) (v : StepVectors) (things : List ℕ) (i e : ℕ) (w u : StepVectors) → i < length things → get_or things i e < length w.before → IsSetAside x (get_or things i e) w u → SoFar x v things i w → SoFar x v things (i + 1) u
signal_so_far x v things i e w u l inside aside f =
    let q = aside.0 in
    record {
      before = ap (λ y. length y.before) aside.1 ∙ length-set w.before (get_or things i e) q ∙ f.before;
      made = ap (λ y. length y.made) aside.1 ∙ length-set w.made (get_or things i e) q ∙ f.made;
      known = λ d k h fits. signal_opened d k things i e l w u q inside aside.1 (aside.2 d k h) (f.known d k h fits);
    }

-- all
pub all_so_far : (x : Store) (v : StepVectors) (things : List ℕ) (i : ℕ) (w : StepVectors) → length things ≤ i → FitsSignals (design_view x.design.now) v → SoFar x v things i w → (d : Design) (k : Kept) → Knows d k x → FitsSignals d w × AreOpened d k things w
all_so_far x v things i w past fits f d k h =
    subst (λ ts. FitsSignals d w × AreOpened d k ts w) (take_all i things past) (f.known d k h (subst (λ e. FitsSignals e v) h.design fits))

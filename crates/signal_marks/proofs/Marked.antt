-- Points that are marked one after the other.
use Rattle.std.proofs.Common.{◌≡◌, ◌≢◌, ◌⊎◌, inl, inr, ⊎_elim, ◌∙◌, ℕ, ◌+◌, ◌/◌, ◌%◌, ◌^◌, ◌==◌, ◌<◌, ◌≤◌, bit_and, true, false, List, Option, Some, None, length, set, refl, sym, ap, subst, arith}
use Rattle.std.proofs.lemmas.Bool.{cases_lt, eq-eqb, eqb-true, false_from_ne_true, true≢false}
use Rattle.std.proofs.lemmas.List.{get_or-set_same, get_or-set_other, length-set}
use Rattle.std.proofs.lemmas.Nat.Bits.{shr_and_one}
use Rattle.four_state.specs.Masks.{is_set}
use Rattle.four_state.proofs.Places.{is_set-zero}
use Rattle.design_model.specs.declared.design.Signal.{Signal}
use Rattle.cover_marks.specs.cover_points.Visits.{IsVisitOf}
use Rattle.cover_marks.specs.cover_points.declared.listing.Points.{Points}
use Rattle.cover_marks.specs.cover_points.declared.visit.Visit.{Visit}
use Rattle.cover_marks.specs.Marks.{AreMarksOf}
use Rattle.cover_marks.specs.declared.marks.Marks.{Marks}
use Rattle.point_marks.specs.declared.verdict.Verdict.{Verdict}
use Rattle.point_marks.specs.declared.verdict.Verdict.TheVariants.{Hit, Missed, Undetermined}
use Rattle.signal_marks.specs.declared.places.Toggling.{Toggling}
use Rattle.signal_marks.specs.Toggled.{MarksBit, MarksPlaces, marked_by, verdict_of, visit_at}

cases_same : (m n : ℕ) → (m ≡ n) ⊎ (m ≢ n)
cases_same m n = ⊎_elim (λ l. inr (λ e. absurd (omega arith))) (λ l. ⊎_elim (λ k. inr (λ e. absurd (omega arith))) (λ k. inl (omega arith)) (cases_lt n m)) (cases_lt m n)

-- a point that is marked again has the same verdict
twice : (s : ℕ) (doubt : Option ℕ) (v : Verdict) → marked_by s doubt (marked_by s doubt v) ≡ marked_by s doubt v
twice s None v = refl
twice s (Some time) Hit = refl
twice s (Some time) Missed = refl
twice s (Some time) (Undetermined y) = refl

-- the points of the bits below a place are marked
pub record MarksSoFar (ps : Points) (x : Signal) (t : Toggling) (mask place : ℕ) (before now : List Verdict) : Type 0 where
  pub count : length now ≡ length before
  pub marked : (i k : ℕ) → i < place → is_set mask i ≡ true → IsVisitOf ps k (visit_at x t i) → verdict_of now k ≡ marked_by t.signal t.doubt (verdict_of before k)
  pub others : (k : ℕ) → ((i : ℕ) → i < place → is_set mask i ≡ true → IsVisitOf ps k (visit_at x t i) → ⊥) → verdict_of now k ≡ verdict_of before k
  pub either : (k : ℕ) → (verdict_of now k ≡ verdict_of before k) ⊎ (verdict_of now k ≡ marked_by t.signal t.doubt (verdict_of before k))

pub none_marked : (ps : Points) (x : Signal) (t : Toggling) (mask : ℕ) (vs : List Verdict) → MarksSoFar ps x t mask 0 vs vs
none_marked ps x t mask vs = record { count = refl; marked = λ i k l. absurd (omega arith); others = λ k h. refl; either = λ k. inl refl }

-- a place that the mask lacks
pub passed : (ps : Points) (x : Signal) (t : Toggling) (mask place : ℕ) (before now : List Verdict) → is_set mask place ≡ false → MarksSoFar ps x t mask place before now → MarksSoFar ps x t mask (place + 1) before now
passed ps x t mask place before now lacks h =
    record {
      count = h.count;
      marked = λ i k l is. ⊎_elim (λ m. h.marked i k m is) (λ m. let e : i ≡ place = omega (arith, l, m) in absurd (true≢false (sym is ∙ ap (is_set mask) e ∙ lacks))) (cases_lt i place);
      others = λ k none. h.others k (λ i l. none i (omega (arith, l)));
      either = h.either;
    }

-- one bit more is marked
pub one_marked : (ps : Points) (x : Signal) (t : Toggling) (mask place m : ℕ) (before now after : List Verdict) → is_set mask place ≡ true → IsVisitOf ps m (visit_at x t place) → ((k : ℕ) → IsVisitOf ps k (visit_at x t place) → k < length now)
    → ((k : ℕ) → IsVisitOf ps k (visit_at x t place) → MarksBit t k now after) → MarksSoFar ps x t mask place before now → MarksSoFar ps x t mask (place + 1) before after
one_marked ps x t mask place m before now after has at inside bit h =
    let new = marked_by t.signal t.doubt (verdict_of now m) in
    let is : after ≡ set now m new = bit m at in
    let here : verdict_of after m ≡ new = ap (λ vs. verdict_of vs m) is ∙ get_or-set_same now m new Missed (inside m at) in
    let there : (k : ℕ) → k ≢ m → verdict_of after k ≡ verdict_of now k = λ k differ. ap (λ vs. verdict_of vs k) is ∙ get_or-set_other now m k new Missed differ in
    let again : (k : ℕ) → verdict_of after k ≡ marked_by t.signal t.doubt (verdict_of now k) → verdict_of after k ≡ marked_by t.signal t.doubt (verdict_of before k) = λ k e. ⊎_elim (λ f. e ∙ ap (marked_by t.signal t.doubt) f) (λ f. e ∙ ap (marked_by t.signal t.doubt) f ∙ twice t.signal t.doubt (verdict_of before k)) (h.either k) in
    let at_m : (k : ℕ) → k ≡ m → verdict_of after k ≡ marked_by t.signal t.doubt (verdict_of before k) = λ k e. again k (subst (λ j. verdict_of after j ≡ marked_by t.signal t.doubt (verdict_of now j)) (sym e) here) in
    record {
      count = ap length is ∙ length-set now m new ∙ h.count;
      marked = λ i k l set_i visit. ⊎_elim (λ e. at_m k e) (λ differ. ⊎_elim (λ j. there k differ ∙ h.marked i k j set_i visit) (λ j. let e : i ≡ place = omega (arith, l, j) in
          let same : after ≡ set now k (marked_by t.signal t.doubt (verdict_of now k)) = bit k (subst (λ n. IsVisitOf ps k (visit_at x t n)) e visit) in
          again k (ap (λ vs. verdict_of vs k) same ∙ get_or-set_same now k (marked_by t.signal t.doubt (verdict_of now k)) Missed (inside k (subst (λ n. IsVisitOf ps k (visit_at x t n)) e visit)))) (cases_lt i place)) (cases_same k m);
      others = λ k none. ⊎_elim (λ e. absurd (none place (omega arith) has (subst (λ j. IsVisitOf ps j (visit_at x t place)) (sym e) at))) (λ differ. there k differ ∙ h.others k (λ i l. none i (omega (arith, l)))) (cases_same k m);
      either = λ k. ⊎_elim (λ e. inr (at_m k e)) (λ differ. ⊎_elim (λ f. inl (there k differ ∙ f)) (λ f. inr (there k differ ∙ f)) (h.either k)) (cases_same k m);
    }

-- all of them are
pub all_marked : (ps : Points) (x : Signal) (t : Toggling) (mask place : ℕ) (before now : List Verdict) → x.width ≤ place → place ≤ x.width → MarksSoFar ps x t mask place before now → MarksPlaces ps x t mask before now
all_marked ps x t mask place before now end least h =
    record {
      count = h.count;
      marked = λ i k l. h.marked i k (omega (arith, l, end));
      others = λ k none. h.others k (λ i l. none i (omega (arith, l, least)));
    }

-- an empty mask marks nothing
pub empty_marked : (ps : Points) (x : Signal) (t : Toggling) (vs : List Verdict) → MarksPlaces ps x t 0 vs vs
empty_marked ps x t vs = record { count = refl; marked = λ i k l is. absurd (true≢false (sym is ∙ is_set-zero i)); others = λ k none. refl }

-- ---- in the code

-- the number of a point is that of a verdict
pub point_inside : (ps : Points) (m : Marks) (v : Visit) (k p : ℕ) → AreMarksOf ps m → IsVisitOf ps k v → p ≡ k → p < length m.verdicts
point_inside ps m v k p of visit e = omega (arith, e, visit.0, of.count)

pub set_at : (n p : ℕ) → bit_and (n / 2 ^ p) 1 ≡ 1 → is_set n p ≡ true
unfolding is_set
set_at n p e = eq-eqb (n / 2 ^ p % 2) 1 (sym (shr_and_one n p) ∙ e)

pub lacks_at : (n p : ℕ) → bit_and (n / 2 ^ p) 1 ≢ 1 → is_set n p ≡ false
unfolding is_set
lacks_at n p ne = false_from_ne_true (n / 2 ^ p % 2 == 1) (λ t. ne (shr_and_one n p ∙ eqb-true (n / 2 ^ p % 2) 1 t))

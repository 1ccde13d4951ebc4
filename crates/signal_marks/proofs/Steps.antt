-- The toggles of a step, one mask after the other.
use Rattle.std.proofs.Common.{◌≡◌, ◌∙◌, ℕ, ◌+◌, ◌-◌, ◌<◌, ◌≤◌, Bool, true, false, if◌then◌else◌, nat_le, List, Some, None, refl, sym, ap, arith}
use Rattle.std.proofs.lemmas.Bool.{true≢false}
use Rattle.four_state.specs.Masks.{is_set}
use Rattle.design_model.specs.declared.design.Signal.{Signal}
use Rattle.cover_marks.specs.cover_points.Visits.{IsVisitOf}
use Rattle.cover_marks.specs.cover_points.declared.listing.Points.{Points}
use Rattle.cover_marks.specs.cover_points.declared.visit.Visit.TheVariants.{Toggle}
use Rattle.point_marks.specs.declared.verdict.Verdict.{Verdict}
use Rattle.bit_changes.specs.declared.toggles.Toggles.{Toggles}
use Rattle.signal_marks.specs.declared.places.Toggling.{Toggling}
use Rattle.signal_marks.specs.Toggled.{IsIndexed, MarksPlaces, MarksToggles, index_at, marked_by, toggled, verdict_of, visit_at}

-- two bits that toggle in one point are the same bit, in the same direction
same_place : (low i j : ℕ) (r b : Bool) (w : ℕ) → i < w → j < w → (r ≡ false → i ≤ low) → (r ≡ false → j ≤ low) → (b ≡ false → w ≤ 1)
    → (if b then (if r then low + i else low - i) else 0) ≡ (if b then (if r then low + j else low - j) else 0) → i ≡ j
same_place low i j true true w l m h k n e = omega arith
same_place low i j false true w l m h k n e = let p = h refl in let q = k refl in omega arith
same_place low i j r false w l m h k n e = let p = n refl in omega arith

same_visit : (s a b : ℕ) (r q : Bool) → Some (Toggle s a r) ≡ Some (Toggle s b q) → (a ≡ b) × (r ≡ q)
same_visit s a b r q e = (cc, cc)

module _ (ps : Points) (x : Signal) (indexed : IsIndexed x) (plain : x.ranged ≡ false → x.width ≤ 1) where
  one_bit : (s i j k : ℕ) (r q : Bool) → i < x.width → j < x.width → IsVisitOf ps k (Toggle s (index_at x i) r) → IsVisitOf ps k (Toggle s (index_at x j) q) → (i ≡ j) × (r ≡ q)
  one_bit s i j k r q l m v u =
      let same = same_visit s (index_at x i) (index_at x j) r q (sym v.1 ∙ u.1) in
      (same_place x.low i j (nat_le x.low x.high) x.ranged x.width l m (indexed i l).1 (indexed j m).1 plain same.0, same.1)

  -- a mask of this direction
  at_mask : (t : Toggling) (mask i k : ℕ) (before after : List Verdict) → MarksPlaces ps x t mask before after → i < x.width → IsVisitOf ps k (visit_at x t i)
      → verdict_of after k ≡ (if is_set mask i then marked_by t.signal t.doubt (verdict_of before k) else verdict_of before k)
  at_mask t mask i k before after h l v = go (is_set mask i) refl
    where
      go : (b : Bool) → is_set mask i ≡ b → verdict_of after k ≡ (if b then marked_by t.signal t.doubt (verdict_of before k) else verdict_of before k)
      go true e = h.marked i k l e v
      go false e = h.others k (λ j m has u. true≢false (sym has ∙ ap (is_set mask) (one_bit t.signal j i k t.rise t.rise m l u v).0 ∙ e))

  -- a mask of the other direction
  past_mask : (t : Toggling) (rise : Bool) (mask i k : ℕ) (before after : List Verdict) → MarksPlaces ps x t mask before after → (t.rise ≡ rise → ⊥) → i < x.width → IsVisitOf ps k (Toggle t.signal (index_at x i) rise)
      → verdict_of after k ≡ verdict_of before k
  past_mask t rise mask i k before after h differ l v = h.others k (λ j m has u. differ (one_bit t.signal j i k t.rise rise m l u v).1)

  both : (s time : ℕ) (sure possible : Bool) (v : Verdict) → (if possible then marked_by s (Some time) (if sure then marked_by s None v else v) else (if sure then marked_by s None v else v)) ≡ toggled s time sure possible v
  both s time true true v = refl
  both s time true false v = refl
  both s time false true v = refl
  both s time false false v = refl

  -- the four masks of a step
  pub all_toggles : (s time : ℕ) (t : Toggles) (v0 v1 v2 v3 v4 : List Verdict)
      → MarksPlaces ps x (record { signal = s; rise = true; doubt = None }) t.rises v0 v1 → MarksPlaces ps x (record { signal = s; rise = false; doubt = None }) t.falls v1 v2
      → MarksPlaces ps x (record { signal = s; rise = true; doubt = Some time }) t.may_rise v2 v3 → MarksPlaces ps x (record { signal = s; rise = false; doubt = Some time }) t.may_fall v3 v4
      → MarksToggles ps x s time t v0 v4
  all_toggles s time t v0 v1 v2 v3 v4 a b c d =
      record {
        count = d.count ∙ c.count ∙ b.count ∙ a.count;
        rises = λ i k l v. past_mask (record { signal = s; rise = false; doubt = Some time }) true t.may_fall i k v3 v4 d (λ e. true≢false (sym e)) l v ∙ at_mask (record { signal = s; rise = true; doubt = Some time }) t.may_rise i k v2 v3 c l v ∙ ap (λ y. if is_set t.may_rise i then marked_by s (Some time) y else y) (past_mask (record { signal = s; rise = false; doubt = None }) true t.falls i k v1 v2 b (λ e. true≢false (sym e)) l v ∙ at_mask (record { signal = s; rise = true; doubt = None }) t.rises i k v0 v1 a l v) ∙ both s time (is_set t.rises i) (is_set t.may_rise i) (verdict_of v0 k);
        falls = λ i k l v. at_mask (record { signal = s; rise = false; doubt = Some time }) t.may_fall i k v3 v4 d l v ∙ ap (λ y. if is_set t.may_fall i then marked_by s (Some time) y else y) (past_mask (record { signal = s; rise = true; doubt = Some time }) false t.may_rise i k v2 v3 c (λ e. true≢false e) l v ∙ at_mask (record { signal = s; rise = false; doubt = None }) t.falls i k v1 v2 b l v ∙ ap (λ y. if is_set t.falls i then marked_by s None y else y) (past_mask (record { signal = s; rise = true; doubt = None }) false t.rises i k v0 v1 a (λ e. true≢false e) l v)) ∙ both s time (is_set t.falls i) (is_set t.may_fall i) (verdict_of v0 k);
        others = λ k none. d.others k (λ i l h v. none false i l v) ∙ c.others k (λ i l h v. none true i l v) ∙ b.others k (λ i l h v. none false i l v) ∙ a.others k (λ i l h v. none true i l v);
      }

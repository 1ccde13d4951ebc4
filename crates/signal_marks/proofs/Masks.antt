-- What the masks of what is marked already say, before a step and after it.
use Rattle.std.proofs.Common.{◌≡◌, ◌≢◌, ⊎_elim, ◌∙◌, ℕ, ◌-◌, ◌^◌, ◌<◌, ◌≤◌, Bool, true, false, not, ◌&&◌, ◌||◌, List, Option, Some, length, replicate, set, bit_and, bit_or, refl, sym, ap, subst, arith, lt_of_lt_of_le}
use Rattle.std.proofs.lemmas.Bool.{cases_eq, cases_lt, true≢false}
use Rattle.std.proofs.lemmas.List.{get_or-replicate, get_or-set_same, get_or-set_other, length-replicate}
use Rattle.std.proofs.Math.ListN.{get_or-eq_default}
use Rattle.four_state.specs.Masks.{is_set}
use Rattle.four_state.specs.declared.bit.Bit.{Bit}
use Rattle.four_state.proofs.Places.{is_set-and, is_set-not, is_set-or, is_set-zero}
use Rattle.design_model.specs.Design.{Design, signal_at}
use Rattle.design_model.specs.declared.design.Signal.{Signal}
use Rattle.cover_marks.specs.cover_points.Visits.{IsVisitOf}
use Rattle.cover_marks.specs.cover_points.declared.listing.Points.{Points}
use Rattle.cover_marks.specs.cover_points.declared.visit.Visit.TheVariants.{Toggle}
use Rattle.point_marks.specs.Marking.{with_doubt}
use Rattle.point_marks.specs.declared.verdict.Doubt.{Doubt}
use Rattle.point_marks.specs.declared.verdict.Verdict.{Verdict}
use Rattle.point_marks.specs.declared.verdict.Verdict.TheVariants.{Hit, Missed, Undetermined}
use Rattle.bit_changes.specs.Changes.{bit_at, may_fall, may_rise, surely_falls, surely_rises}
use Rattle.bit_changes.specs.declared.toggles.Toggles.{Toggles}
use Rattle.signal_marks.specs.Toggled.{MarksToggles, index_at, toggled, verdict_of}
use Rattle.signal_marks.specs.Seen.{AreSeen, HasBoth, IsSeen, IsWithout, MarksChange, masks_of, no_toggles}

-- the places of a mask that another one lacks
pub without_at : (a b : ℕ) → b < 2 ^ 128 → IsWithout a b (bit_and a (2 ^ 128 - 1 - b))
without_at a b below i l = is_set-and a (2 ^ 128 - 1 - b) i ∙ ap (λ p. is_set a i && p) (is_set-not 128 b i below l)

pub both_at : (a b : ℕ) → HasBoth a b (bit_or a b)
both_at a b i = is_set-or a b i

-- the masks of signals of which nothing is marked
pub nothing_at : (n s : ℕ) (ms : List Toggles) → ms ≡ replicate n no_toggles → masks_of ms s ≡ no_toggles
nothing_at n s ms e = ap (λ xs. masks_of xs s) e ∙ ⊎_elim
    (λ l. get_or-replicate n s no_toggles no_toggles l)
    (λ k. get_or-eq_default (replicate n no_toggles) no_toggles {n = s} (omega (arith, length-replicate n no_toggles, k))) (cases_lt s n)

-- ---- one verdict

pub keeps_hit : (y : Doubt) (v : Verdict) → v ≡ Hit → with_doubt y v ≡ Hit
keeps_hit y v e = ap (with_doubt y) e

pub keeps_open : (y : Doubt) (v : Verdict) → with_doubt y v ≢ Missed
keeps_open y Hit = λ e. (let no : Hit ≡ Missed = e in cc)
keeps_open y Missed = λ e. (let no : Undetermined y ≡ Missed = e in cc)
keeps_open y (Undetermined z) = λ e. (let no : Undetermined z ≡ Missed = e in cc)

keeps_marked : (y : Doubt) (v : Verdict) → v ≢ Missed → with_doubt y v ≡ v
keeps_marked y Hit h = refl
keeps_marked y Missed h = absurd (h refl)
keeps_marked y (Undetermined z) h = refl

module _ (s time : ℕ) where
  hit_stays : (possible : Bool) → toggled s time false possible Hit ≡ Hit
  hit_stays true = refl
  hit_stays false = refl

  -- a toggle that is marked already may be left out
  pub left_out : (sure possible hit marked : Bool) (v : Verdict) → (hit ≡ true → v ≡ Hit) → (marked ≡ true → v ≢ Missed) → toggled s time (sure && not hit) (possible && not marked) v ≡ toggled s time sure possible v
  left_out true possible false marked v h k = refl
  left_out true possible true marked v h k = ap (toggled s time false (possible && not marked)) (h refl) ∙ hit_stays (possible && not marked)
  left_out false false hit marked v h k = refl
  left_out false true hit false v h k = refl
  left_out false true hit true v h k = sym (keeps_marked (record { thing = s; time = time }) v (k refl))

  pub hit_after : (sure possible hit : Bool) (v : Verdict) → (hit || sure) ≡ true → (hit ≡ true → v ≡ Hit) → toggled s time sure possible v ≡ Hit
  hit_after true possible hit v e h = refl
  hit_after false possible true v e h = ap (toggled s time false possible) (h refl) ∙ hit_stays possible
  hit_after false possible false v e h = absurd (true≢false (sym e))

  pub open_after : (sure possible marked : Bool) (v : Verdict) → (marked || possible) ≡ true → (marked ≡ true → v ≢ Missed) → toggled s time sure possible v ≢ Missed
  open_after true possible marked v e h = λ n. (let no : Hit ≡ Missed = n in cc)
  open_after false true marked v e h = keeps_open (record { thing = s; time = time }) v
  open_after false false true v e h = h refl
  open_after false false false v e h = absurd (true≢false (sym e))

same_signal : (s q a b : ℕ) (r u : Bool) → Some (Toggle s a r) ≡ Some (Toggle q b u) → s ≡ q
same_signal s q a b r u e = cc

-- ---- the points of one signal

module _ (ps : Points) (x : Signal) (s time : ℕ) (t : Toggles) (v0 v1 : List Verdict) where
  -- what is left out changes nothing
  pub whole_toggles : (m l : Toggles) → x.width ≤ 128 → IsWithout t.rises m.rises l.rises → IsWithout t.falls m.falls l.falls → IsWithout t.may_rise m.may_rise l.may_rise → IsWithout t.may_fall m.may_fall l.may_fall
      → IsSeen ps x s m v0 → MarksToggles ps x s time l v0 v1 → MarksToggles ps x s time t v0 v1
  whole_toggles m l narrow a b c d seen h =
      record {
        count = h.count;
        rises = λ i k w visit. h.rises i k w visit ∙ rw (a i (lt_of_lt_of_le w narrow), c i (lt_of_lt_of_le w narrow)) (left_out s time (is_set t.rises i) (is_set t.may_rise i) (is_set m.rises i) (is_set m.may_rise i) (verdict_of v0 k) (λ e. seen.rises i k w e visit) (λ e. seen.may_rise i k w e visit));
        falls = λ i k w visit. h.falls i k w visit ∙ rw (b i (lt_of_lt_of_le w narrow), d i (lt_of_lt_of_le w narrow)) (left_out s time (is_set t.falls i) (is_set t.may_fall i) (is_set m.falls i) (is_set m.may_fall i) (verdict_of v0 k) (λ e. seen.falls i k w e visit) (λ e. seen.may_fall i k w e visit));
        others = h.others;
      }

  -- the toggles are those from some bits to others
  pub change_of : (old new : List (Option Bit)) → length old ≡ x.width → ((i : ℕ) → i < length old → is_set t.rises i ≡ surely_rises (bit_at old i) (bit_at new i)) → ((i : ℕ) → i < length old → is_set t.falls i ≡ surely_falls (bit_at old i) (bit_at new i))
      → ((i : ℕ) → i < length old → is_set t.may_rise i ≡ may_rise (bit_at old i) (bit_at new i)) → ((i : ℕ) → i < length old → is_set t.may_fall i ≡ may_fall (bit_at old i) (bit_at new i))
      → MarksToggles ps x s time t v0 v1 → MarksChange ps x s time old new v0 v1
  change_of old new e a b c d h =
      record {
        count = h.count;
        rises = λ i k w visit. h.rises i k w visit ∙ ap (λ p. toggled s time p (is_set t.may_rise i) (verdict_of v0 k)) (a i (rw e w)) ∙ ap (λ p. toggled s time (surely_rises (bit_at old i) (bit_at new i)) p (verdict_of v0 k)) (c i (rw e w));
        falls = λ i k w visit. h.falls i k w visit ∙ ap (λ p. toggled s time p (is_set t.may_fall i) (verdict_of v0 k)) (b i (rw e w)) ∙ ap (λ p. toggled s time (surely_falls (bit_at old i) (bit_at new i)) p (verdict_of v0 k)) (d i (rw e w));
        others = h.others;
      }

  -- the masks with the toggles of the step
  pub seen_after : (m n : Toggles) → HasBoth m.rises t.rises n.rises → HasBoth m.falls t.falls n.falls → HasBoth m.may_rise t.may_rise n.may_rise → HasBoth m.may_fall t.may_fall n.may_fall
      → IsSeen ps x s m v0 → MarksToggles ps x s time t v0 v1 → IsSeen ps x s n v1
  seen_after m n a b c d seen h =
      record {
        rises = λ i k w has visit. h.rises i k w visit ∙ hit_after s time (is_set t.rises i) (is_set t.may_rise i) (is_set m.rises i) (verdict_of v0 k) (sym (a i) ∙ has) (λ e. seen.rises i k w e visit);
        falls = λ i k w has visit. h.falls i k w visit ∙ hit_after s time (is_set t.falls i) (is_set t.may_fall i) (is_set m.falls i) (verdict_of v0 k) (sym (b i) ∙ has) (λ e. seen.falls i k w e visit);
        may_rise = λ i k w has visit e. open_after s time (is_set t.rises i) (is_set t.may_rise i) (is_set m.may_rise i) (verdict_of v0 k) (sym (c i) ∙ has) (λ f. seen.may_rise i k w f visit) (sym (h.rises i k w visit) ∙ e);
        may_fall = λ i k w has visit e. open_after s time (is_set t.falls i) (is_set t.may_fall i) (is_set m.may_fall i) (verdict_of v0 k) (sym (d i) ∙ has) (λ f. seen.may_fall i k w f visit) (sym (h.falls i k w visit) ∙ e);
      }

  -- the masks of another signal
  pub other_seen : (z : Signal) (q : ℕ) (m : Toggles) → q ≢ s → IsSeen ps z q m v0 → MarksToggles ps x s time t v0 v1 → IsSeen ps z q m v1
  other_seen z q m differ seen h =
      record {
        rises = λ i k w has visit. same (index_at z i) k true visit ∙ seen.rises i k w has visit;
        falls = λ i k w has visit. same (index_at z i) k false visit ∙ seen.falls i k w has visit;
        may_rise = λ i k w has visit e. seen.may_rise i k w has visit (sym (same (index_at z i) k true visit) ∙ e);
        may_fall = λ i k w has visit e. seen.may_fall i k w has visit (sym (same (index_at z i) k false visit) ∙ e);
      }
    where
      same : (a k : ℕ) (r : Bool) → IsVisitOf ps k (Toggle q a r) → verdict_of v1 k ≡ verdict_of v0 k
      same a k r visit = h.others k (λ rise i l own. differ (same_signal q s a (index_at x i) r rise (sym visit.1 ∙ own.1)))

-- ---- all signals

pub all_seen : (d : Design) (ps : Points) (s time : ℕ) (t n : Toggles) (ms : List Toggles) (v0 v1 : List Verdict) → s < length ms → IsSeen ps (signal_at d s) s n v1 → MarksToggles ps (signal_at d s) s time t v0 v1 → AreSeen d ps ms v0 → AreSeen d ps (set ms s n) v1
all_seen d ps s time t n ms v0 v1 l own h seen q = ⊎_elim
    (λ e. subst (λ j. IsSeen ps (signal_at d j) j (masks_of (set ms s n) j) v1) (sym e) (subst (λ m. IsSeen ps (signal_at d s) s m v1) (sym (get_or-set_same ms s n no_toggles l)) own))
    (λ differ. subst (λ m. IsSeen ps (signal_at d q) q m v1) (sym (get_or-set_other ms s q n no_toggles differ)) (other_seen ps (signal_at d s) s time t v0 v1 (signal_at d q) q (masks_of ms q) differ (seen q) h))
    (cases_eq q s)

-- what is said of one signal
pub own_seen : (d : Design) (ps : Points) (x : Signal) (s : ℕ) (ms : List Toggles) (m : Toggles) (vs : List Verdict) → x ≡ signal_at d s → masks_of ms s ≡ m → AreSeen d ps ms vs → IsSeen ps x s m vs
own_seen d ps x s ms m vs is has seen = subst (λ y. IsSeen ps y s m vs) (sym is) (subst (λ n. IsSeen ps (signal_at d s) s n vs) has (seen s))

-- nothing is said
pub none_seen : (d : Design) (ps : Points) (ms : List Toggles) (vs : List Verdict) → ((s : ℕ) → masks_of ms s ≡ no_toggles) → AreSeen d ps ms vs
none_seen d ps ms vs none s = subst (λ m. IsSeen ps (signal_at d s) s m vs) (sym (none s))
    (record {
      rises = λ i k w has visit. absurd (true≢false (sym has ∙ is_set-zero i));
      falls = λ i k w has visit. absurd (true≢false (sym has ∙ is_set-zero i));
      may_rise = λ i k w has visit. absurd (true≢false (sym has ∙ is_set-zero i));
      may_fall = λ i k w has visit. absurd (true≢false (sym has ∙ is_set-zero i));
    })

-- ---- other marks

module _ (vs : List Verdict) (k : ℕ) (v : Verdict) (l : k < length vs) where
  hit_kept : (verdict_of vs k ≡ Hit → v ≡ Hit) → (j : ℕ) → verdict_of vs j ≡ Hit → verdict_of (set vs k v) j ≡ Hit
  hit_kept h j is = ⊎_elim
      (λ e. ap (verdict_of (set vs k v)) e ∙ get_or-set_same vs k v Missed l ∙ h (ap (verdict_of vs) (sym e) ∙ is))
      (λ differ. get_or-set_other vs k j v Missed differ ∙ is) (cases_eq j k)

  open_kept : (verdict_of vs k ≢ Missed → v ≢ Missed) → (j : ℕ) → verdict_of vs j ≢ Missed → verdict_of (set vs k v) j ≢ Missed
  open_kept h j is = ⊎_elim
      (λ e n. h (λ m. is (ap (verdict_of vs) e ∙ m)) (sym (get_or-set_same vs k v Missed l) ∙ ap (verdict_of (set vs k v)) (sym e) ∙ n))
      (λ differ n. is (sym (get_or-set_other vs k j v Missed differ) ∙ n)) (cases_eq j k)

  -- a point is marked, in whichever way
  pub set_seen : (d : Design) (ps : Points) (ms : List Toggles) → (verdict_of vs k ≡ Hit → v ≡ Hit) → (verdict_of vs k ≢ Missed → v ≢ Missed) → AreSeen d ps ms vs → AreSeen d ps ms (set vs k v)
  set_seen d ps ms h o seen s =
      record {
        rises = λ i j w has visit. hit_kept h j ((seen s).rises i j w has visit);
        falls = λ i j w has visit. hit_kept h j ((seen s).falls i j w has visit);
        may_rise = λ i j w has visit. open_kept o j ((seen s).may_rise i j w has visit);
        may_fall = λ i j w has visit. open_kept o j ((seen s).may_fall i j w has visit);
      }

pub hit_open : Hit ≢ Missed
hit_open e = (let no : Hit ≡ Missed = e in cc)

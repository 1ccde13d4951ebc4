-- States and arcs that are marked one after the other.
use Rattle.std.proofs.Common.{◌≡◌, ◌≢◌, ◌∙◌, ◌⊎◌, inl, inr, ⊎_elim, ℕ, ◌<◌, ◌||◌, Bool, true, false, List, length, set, refl, sym, ap, subst, arith}
use Rattle.std.proofs.lemmas.Bool.{cases_lt, true≢false}
use Rattle.std.proofs.lemmas.List.{get_or-set_same, get_or-set_other, length-set}
use Rattle.std.specs.Prelude.{slice_index_or}
use Rattle.cover_points.specs.Listed.{points_of}
use Rattle.cover_points.specs.Visits.{IsMachinePointAt}
use Rattle.cover_points.specs.declared.listing.Points.{Points}
use Rattle.cover_points.specs.declared.machine_point.MachinePoint.{MachinePoint}
use Rattle.cover_points.specs.declared.machine_point.MachinePoint.TheVariants.{State}
use Rattle.cover_points.proofs.Places.{length_is}
use Rattle.point_marks.specs.declared.verdict.Verdict.{Verdict}
use Rattle.point_marks.specs.declared.verdict.Verdict.TheVariants.{Missed}
use Rattle.signal_marks.specs.Toggled.{toggled, verdict_of}
use Rattle.machine_marks.specs.Marked.{Chances, MarksThose, is_point, marked_if}
use Rattle.machine_marks.proofs.Tests.{is_itself, is_same}

cases_same : (m n : ℕ) → (m ≡ n) ⊎ (m ≢ n)
cases_same m n = ⊎_elim (λ l. inr (λ e. absurd (omega arith))) (λ l. ⊎_elim (λ k. inr (λ e. absurd (omega arith))) (λ k. inl (omega arith)) (cases_lt n m)) (cases_lt m n)

-- neither sure nor possible
abbrev pub never : Chances
never = record { sure = false; possible = false }

module _ (ps : Points) where
  -- the point of a state or an arc is one of the list
  pub inside : (k : ℕ) (p : MachinePoint) → IsMachinePointAt ps k p → k < length (points_of ps)
  inside k p (j, l, is, at) = omega (arith, length_is ps, l, at)

  -- one point is of one state or arc
  pub one_at : (k : ℕ) (p q : MachinePoint) → IsMachinePointAt ps k p → IsMachinePointAt ps k q → p ≡ q
  one_at k p q (i, l, e, a) (j, m, f, b) =
      let same : i ≡ j = omega (arith, a, b) in
      sym e ∙ ap (λ n. slice_index_or ps.states.items n (State 0 0)) same ∙ f

  module _ (s time : ℕ) where
    marked_never : (b : Bool) (v : Verdict) → marked_if b s time never v ≡ v
    marked_never true v = refl
    marked_never false v = refl

    -- what surely was not is not marked
    pub unmarked : (test : MachinePoint → Bool) (chances : MachinePoint → Chances) (vs : List Verdict) → ((q : MachinePoint) → test q ≡ true → chances q ≡ never) → MarksThose ps s time test chances vs vs
    unmarked test chances vs none = record {
      count = refl;
      each = λ n q at. sym (go q (verdict_of vs n) (test q) refl);
      others = λ n no. refl;
    }
      where
        go : (q : MachinePoint) (v : Verdict) (b : Bool) → test q ≡ b → marked_if (test q) s time (chances q) v ≡ v
        go q v true e = ap (λ c. marked_if (test q) s time c v) (none q e) ∙ marked_never (test q) v
        go q v false e = ap (λ b. marked_if b s time (chances q) v) e

    -- where there is no such point nothing is
    pub no_such : (p : MachinePoint) (c : Chances) (vs : List Verdict) → ((k : ℕ) → IsMachinePointAt ps k p → ⊥) → MarksThose ps s time (is_point p) (λ q. c) vs vs
    no_such p c vs none = record {
      count = refl;
      each = λ n q at. sym (go n q at (is_point p q) refl);
      others = λ n no. refl;
    }
      where
        go : (n : ℕ) (q : MachinePoint) → IsMachinePointAt ps n q → (b : Bool) → is_point p q ≡ b → marked_if (is_point p q) s time c (verdict_of vs n) ≡ verdict_of vs n
        go n q at true e = absurd (none n (subst (λ r. IsMachinePointAt ps n r) (sym (is_same p q e)) at))
        go n q at false e = ap (λ b. marked_if b s time c (verdict_of vs n)) e

    -- one point is marked
    pub one_marked : (p : MachinePoint) (c : Chances) (k : ℕ) (vs : List Verdict) (new : Verdict) → IsMachinePointAt ps k p → ((n : ℕ) → IsMachinePointAt ps n p → n ≡ k) → length vs ≡ length (points_of ps)
        → new ≡ toggled s time c.sure c.possible (verdict_of vs k) → MarksThose ps s time (is_point p) (λ q. c) vs (set vs k new)
    one_marked p c k vs new at only count is = record {
      count = length-set vs k new;
      each = λ n q here. go n q here (is_point p q) refl;
      others = λ n no. get_or-set_other vs k n new Missed (λ e. no p (subst (λ m. IsMachinePointAt ps m p) (sym e) at));
    }
      where
        within : k < length vs
        within = omega (arith, inside k p at, count)

        go : (n : ℕ) (q : MachinePoint) → IsMachinePointAt ps n q → (b : Bool) → is_point p q ≡ b → verdict_of (set vs k new) n ≡ marked_if (is_point p q) s time c (verdict_of vs n)
        go n q here true e =
            let same : n ≡ k = only n (subst (λ r. IsMachinePointAt ps n r) (sym (is_same p q e)) here) in
            ap (λ m. verdict_of (set vs k new) m) same ∙ get_or-set_same vs k new Missed within ∙ is ∙ ap (λ m. toggled s time c.sure c.possible (verdict_of vs m)) (sym same) ∙ ap (λ b. marked_if b s time c (verdict_of vs n)) (sym e)
        go n q here false e =
            let other : n ≢ k = λ same. true≢false (sym (is_itself p) ∙ ap (is_point p) (one_at k p q at (subst (λ m. IsMachinePointAt ps m q) same here)) ∙ e) in
            get_or-set_other vs k n new Missed other ∙ ap (λ b. marked_if b s time c (verdict_of vs n)) (sym e)

    -- it is the same by chances that are the same where the test is passed
    pub same_marks : (test : MachinePoint → Bool) (c d : MachinePoint → Chances) (before after : List Verdict) → ((q : MachinePoint) → test q ≡ true → c q ≡ d q) → MarksThose ps s time test c before after → MarksThose ps s time test d before after
    same_marks test c d before after same marks = record {
      count = marks.count;
      each = λ n q at. marks.each n q at ∙ go q (verdict_of before n) (test q) refl;
      others = marks.others;
    }
      where
        go : (q : MachinePoint) (v : Verdict) (b : Bool) → test q ≡ b → marked_if (test q) s time (c q) v ≡ marked_if (test q) s time (d q) v
        go q v true e = ap (λ k. marked_if (test q) s time k v) (same q e)
        go q v false e = ap (λ b. marked_if b s time (c q) v) e ∙ ap (λ b. marked_if b s time (d q) v) (sym e)

    -- those of one test are marked, and then those of another one
    pub both_marked : (t u next : MachinePoint → Bool) (c d chances : MachinePoint → Chances) (before middle after : List Verdict) → MarksThose ps s time t c before middle → MarksThose ps s time u d middle after
        → ((q : MachinePoint) → t q ≡ true → u q ≡ true → ⊥) → ((q : MachinePoint) → next q ≡ (t q || u q)) → ((q : MachinePoint) → t q ≡ true → c q ≡ chances q) → ((q : MachinePoint) → u q ≡ true → d q ≡ chances q)
        → MarksThose ps s time next chances before after
    both_marked t u next c d chances before middle after a b apart is left right = record {
      count = b.count ∙ a.count;
      each = λ n q at. b.each n q at ∙ ap (marked_if (u q) s time (d q)) (a.each n q at) ∙ go q (verdict_of before n) (t q) (u q) refl refl;
      others = λ n no. b.others n no ∙ a.others n no;
    }
      where
        go : (q : MachinePoint) (v : Verdict) (x y : Bool) → t q ≡ x → u q ≡ y → marked_if (u q) s time (d q) (marked_if (t q) s time (c q) v) ≡ marked_if (next q) s time (chances q) v
        go q v true true e f = absurd (apart q e f)
        go q v true false e f =
            ap (λ b. marked_if b s time (d q) (marked_if (t q) s time (c q) v)) f ∙ ap (λ b. marked_if b s time (c q) v) e ∙ ap (λ k. marked_if true s time k v) (left q e)
            ∙ ap (λ b. marked_if b s time (chances q) v) (sym (is q ∙ ap (λ b. b || u q) e))
        go q v false y e f =
            ap (λ b. marked_if (u q) s time (d q) (marked_if b s time (c q) v)) e ∙ second q v (u q) refl ∙ ap (λ b. marked_if b s time (chances q) v) (sym (is q ∙ ap (λ b. b || u q) e))
          where
            second : (q : MachinePoint) (v : Verdict) (z : Bool) → u q ≡ z → marked_if (u q) s time (d q) v ≡ marked_if (u q) s time (chances q) v
            second q v true g = ap (λ k. marked_if (u q) s time k v) (right q g)
            second q v false g = ap (λ b. marked_if b s time (d q) v) g ∙ ap (λ b. marked_if b s time (chances q) v) (sym g)

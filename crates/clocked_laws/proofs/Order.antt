-- Which Clocked run, in what order, and what they leave alone.
use Rattle.std.proofs.Common.{◌≡◌, ◌++◌, ◌||◌, ◌&&◌, ℕ, Bool, true, false, List, [], ◌∷◌, Option, Some, None, inl, inr, refl, sym, ap, ◌∙◌, append_assoc}
use Rattle.std.proofs.lemmas.Bool.{both_ways, or_left, or_right}
use Rattle.std.proofs.lemmas.List.{append-nil}
use Rattle.std.specs.Prelude.{if◌then◌else◌, is_none, is_some}
use Rattle.std.specs.List.{filter}
use Rattle.replay_steps.specs.replay_model.design_model.Design.{cell}
use Rattle.replay_steps.specs.replay_model.Marks.{Marking}
use Rattle.replay_steps.specs.replay_model.Step.{Closing, Working, clean_order, clocked_run, in_rounds, opened, run_all_clean, run_all_weak, run_clean, run_weak}
use Rattle.replay_steps.proofs.replay_model.Rounds.{in_order}
use Rattle.clocked_laws.specs.Clocked.{is_clean, is_weak}
use Rattle.clocked_laws.proofs.Rounds.{order_filtered}
use Rattle.clocked_laws.specs.Laws.{CleanAppendLaw, CleanFilterLaw, CleanOrderLaw, ClockedFilterLaw, ClockedNotesLaw, ClockedRunningLaw, ClockedUnmadeLaw, WeakAppendLaw, WeakFilterLaw}

-- ---- those that do not run

module _ (st : Closing) where
  -- what is not clean does not run clean
  unclean : (o : Option ℕ) (p : ℕ) (w : Working) → is_some o ≡ false → run_clean st o p w ≡ w
  unclean None p w e = refl
  unclean (Some s) p w e = absurd (both_ways true e refl)

  -- what is not weak does not run weak
  unweak : (o n : Option ℕ) (p : ℕ) (w : Working) → (is_none o && is_some n) ≡ false → run_weak st o n p w ≡ w
  unweak (Some s) n p w e = refl
  unweak None None p w e = refl
  unweak None (Some x) p w e = absurd (both_ways true e refl)

-- where a test is false, what implies it is
not_either : (a b : Bool) → (a ≡ true → b ≡ true) → b ≡ false → a ≡ false
not_either true b to e = absurd (both_ways b e (to refl))
not_either false b to e = refl

pub clean_filtered : CleanFilterLaw
clean_filtered st f [] w all = refl
clean_filtered st f (p ∷ ps) w all = go (f p) refl (λ z. clean_filtered st f ps z (λ q i. all q (inr i)))
  where
    go : (b : Bool) → f p ≡ b → ((z : Working) → run_all_clean st ps z ≡ run_all_clean st (filter f ps) z)
        → run_all_clean st ps (run_clean st (st.sets.trigger p) p w) ≡ run_all_clean st (if b then p ∷ filter f ps else filter f ps) w
    go true e rest = rest (run_clean st (st.sets.trigger p) p w)
    go false e rest =
        rest (run_clean st (st.sets.trigger p) p w)
        ∙ ap (λ z. run_all_clean st (filter f ps) z) (unclean st (st.sets.trigger p) p w (not_either (is_clean st p) (f p) (all p (inl refl)) e))

pub weak_filtered : WeakFilterLaw
weak_filtered st f [] w all = refl
weak_filtered st f (p ∷ ps) w all = go (f p) refl (λ z. weak_filtered st f ps z (λ q i. all q (inr i)))
  where
    go : (b : Bool) → f p ≡ b → ((z : Working) → run_all_weak st ps z ≡ run_all_weak st (filter f ps) z)
        → run_all_weak st ps (run_weak st (st.sets.trigger p) (st.sets.wakes p) p w) ≡ run_all_weak st (if b then p ∷ filter f ps else filter f ps) w
    go true e rest = rest (run_weak st (st.sets.trigger p) (st.sets.wakes p) p w)
    go false e rest =
        rest (run_weak st (st.sets.trigger p) (st.sets.wakes p) p w)
        ∙ ap (λ z. run_all_weak st (filter f ps) z) (unweak st (st.sets.trigger p) (st.sets.wakes p) p w (not_either (is_weak st p) (f p) (all p (inl refl)) e))

pub clean_ordered : CleanOrderLaw
clean_ordered st round f ps w all =
    clean_filtered st f (in_rounds round ps) w (λ p i e. all p (in_order round p ps i) e)
    ∙ ap (λ qs. run_all_clean st qs w) (order_filtered round f ps)

pub clocked_filtered : ClockedFilterLaw
clocked_filtered st f all =
    weak_filtered st f st.tables.clocked (run_all_clean st (clean_order st) (opened st)) (λ p i e. all p i (or_right (is_clean st p) (is_weak st p) e))
    ∙ ap (λ z. run_all_weak st (filter f st.tables.clocked) z) (clean_ordered st st.sets.round f st.tables.clocked (opened st) (λ p i e. all p i (or_left (is_clean st p) (is_weak st p) e)))

-- ---- two lists

pub clean_appended : CleanAppendLaw
clean_appended st [] qs w = refl
clean_appended st (p ∷ ps) qs w = clean_appended st ps qs (run_clean st (st.sets.trigger p) p w)

pub weak_appended : WeakAppendLaw
weak_appended st [] qs w = refl
weak_appended st (p ∷ ps) qs w = weak_appended st ps qs (run_weak st (st.sets.trigger p) (st.sets.wakes p) p w)

-- ---- which of them run

pub running : ClockedRunningLaw
running d h dump run tables sets t a are p = go (sets.trigger p) (sets.wakes p) refl refl
  where
    go : (o n : Option ℕ) → sets.trigger p ≡ o → sets.wakes p ≡ n → (is_some o || (is_none o && is_some n)) ≡ is_some n
    go None n e f = refl
    go (Some s) (Some x) e f = refl
    go (Some s) None e f = absurd (are.no_wakes p f (cell s 0, (are.trigger p s e).can_wake))

-- ---- what they leave alone

module _ (st : Closing) where
  one_clean_unmade : (o : Option ℕ) (p : ℕ) (w : Working) → (run_clean st o p w).made ≡ w.made
  one_clean_unmade None p w = refl
  one_clean_unmade (Some s) p w = refl

  clean_unmade : (ps : List ℕ) (w : Working) → (run_all_clean st ps w).made ≡ w.made
  clean_unmade [] w = refl
  clean_unmade (p ∷ ps) w = clean_unmade ps (run_clean st (st.sets.trigger p) p w) ∙ one_clean_unmade (st.sets.trigger p) p w

  one_weak_unmade : (o n : Option ℕ) (p : ℕ) (w : Working) → (run_weak st o n p w).made ≡ w.made
  one_weak_unmade (Some s) n p w = refl
  one_weak_unmade None None p w = refl
  one_weak_unmade None (Some x) p w = refl

  weak_unmade : (ps : List ℕ) (w : Working) → (run_all_weak st ps w).made ≡ w.made
  weak_unmade [] w = refl
  weak_unmade (p ∷ ps) w = weak_unmade ps (run_weak st (st.sets.trigger p) (st.sets.wakes p) p w) ∙ one_weak_unmade (st.sets.trigger p) (st.sets.wakes p) p w

pub clocked_unmade : ClockedUnmadeLaw
clocked_unmade st = weak_unmade st st.tables.clocked (run_all_clean st (clean_order st) (opened st)) ∙ clean_unmade st (clean_order st) (opened st)

-- ---- what they report

-- the second list begins with the first
abbrev Extends : List Marking → List Marking → Type 0
Extends ns ms = (more : List Marking) × (ms ≡ ns ++ more)

same : (ns : List Marking) → Extends ns ns
same ns = ([], sym (append-nil ns))

both : (a b c : List Marking) → Extends a b → Extends b c → Extends a c
both a b c f g = (f.0 ++ g.0, g.1 ∙ ap (λ (ns : List Marking). ns ++ g.0) f.1 ∙ append_assoc a f.0 g.0)

module _ (st : Closing) where
  one_clean_adds : (o : Option ℕ) (p : ℕ) (w : Working) → Extends w.notes (run_clean st o p w).notes
  one_clean_adds None p w = same w.notes
  one_clean_adds (Some s) p w = (_, refl)

  clean_adds : (ps : List ℕ) (w : Working) → Extends w.notes (run_all_clean st ps w).notes
  clean_adds [] w = same w.notes
  clean_adds (p ∷ ps) w = both w.notes (run_clean st (st.sets.trigger p) p w).notes _ (one_clean_adds (st.sets.trigger p) p w) (clean_adds ps (run_clean st (st.sets.trigger p) p w))

  one_weak_adds : (o n : Option ℕ) (p : ℕ) (w : Working) → Extends w.notes (run_weak st o n p w).notes
  one_weak_adds (Some s) n p w = same w.notes
  one_weak_adds None None p w = same w.notes
  one_weak_adds None (Some x) p w = (_, refl)

  weak_adds : (ps : List ℕ) (w : Working) → Extends w.notes (run_all_weak st ps w).notes
  weak_adds [] w = same w.notes
  weak_adds (p ∷ ps) w =
      both w.notes (run_weak st (st.sets.trigger p) (st.sets.wakes p) p w).notes _ (one_weak_adds (st.sets.trigger p) (st.sets.wakes p) p w) (weak_adds ps (run_weak st (st.sets.trigger p) (st.sets.wakes p) p w))

pub clocked_adds : ClockedNotesLaw
clocked_adds st =
    both st.start.notes (run_all_clean st (clean_order st) (opened st)).notes (clocked_run st).notes (clean_adds st (clean_order st) (opened st))
    (weak_adds st st.tables.clocked (run_all_clean st (clean_order st) (opened st)))

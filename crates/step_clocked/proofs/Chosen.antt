-- What is early was found for each clean process so far.
use Rattle.std.proofs.Common.{◌≡◌, ◌⊎◌, inl, inr, ⊎_elim, ◌∙◌, ◌==◌, ℕ, Bool, true, false, if◌then◌else◌, List, [], ◌∷◌, Option, Some, None, refl, sym, subst, eq-eqb}
use Rattle.std.proofs.lemmas.Bool.{both_ways, eqb-true}
use Rattle.design_model.specs.Design.{In}
use Rattle.clocked_marks.specs.chosen_runs.chosen_early.Shared.{IsEarlyList}
use Rattle.clocked_marks.specs.chosen_runs.chosen_early.early_sets.WakeState.{WakeState, trigger_of}
use Rattle.clocked_marks.specs.chosen_runs.chosen_early.early_sets.declared.habit.Habit.{Habit}
use Rattle.step_clocked.specs.Runs.{AreChosenOf}

-- it was for each of all these that is not in the rest
abbrev pub AreChosenBut : WakeState → Habit → List ℕ → List ℕ → (ℕ → List ℕ) → Type 0
AreChosenBut w h all rest early = (p s : ℕ) → In p all → trigger_of w p ≡ Some s → In p rest ⊎ IsEarlyList w h p s (early p)

-- the same, with these for one process
abbrev with_early : ℕ → List ℕ → (ℕ → List ℕ) → ℕ → List ℕ
with_early p xs early q = if q == p then xs else early q

same_some : (s t : ℕ) (o : Option ℕ) → o ≡ Some s → o ≡ Some t → t ≡ s
same_some s t o a b = let e : Some t ≡ Some s = sym b ∙ a in let r : t ≡ s = cc in r

module _ (w : WakeState) (h : Habit) (all : List ℕ) where
  pub chosen_start : AreChosenBut w h all all (λ p. [])
  chosen_start p s i trigger = inl i

  -- one more
  pub chosen_more : (p t : ℕ) (rest xs : List ℕ) (early : ℕ → List ℕ) → trigger_of w p ≡ Some t → IsEarlyList w h p t xs → AreChosenBut w h all (p ∷ rest) early → AreChosenBut w h all rest (with_early p xs early)
  chosen_more p t rest xs early has is old q s i trigger = go (q == p) refl (old q s i trigger)
    where
      go : (b : Bool) → (q == p) ≡ b → In q (p ∷ rest) ⊎ IsEarlyList w h q s (early q) → In q rest ⊎ IsEarlyList w h q s (if b then xs else early q)
      go true e found =
          let same = eqb-true q p e in
          let one = same_some s t (trigger_of w p) (subst (λ z. trigger_of w z ≡ Some s) same trigger) has in
          inr (subst (λ z. IsEarlyList w h z s xs) (sym same) (subst (λ z. IsEarlyList w h p z xs) one is))
      go false e (inl (inl same)) = absurd (both_ways (q == p) e (eq-eqb q p (sym same)))
      go false e (inl (inr j)) = inl j
      go false e (inr found) = inr found

  pub chosen_end : (rest : List ℕ) (early : ℕ → List ℕ) → rest ≡ [] → AreChosenBut w h all rest early → AreChosenOf w h all early
  chosen_end rest early none old p s i trigger = ⊎_elim (λ j. absurd (subst (In p) none j)) (λ found. found) (old p s i trigger)

  -- those of a list are those of its clean ones
  pub chosen_all : (listed : List ℕ) (early : ℕ → List ℕ) → ((p s : ℕ) → In p listed → trigger_of w p ≡ Some s → In p all) → AreChosenOf w h all early → AreChosenOf w h listed early
  chosen_all listed early in_all chosen p s i trigger = chosen p s (in_all p s i trigger) trigger

-- The runs of the Clocked change nothing of what has acted.
use Rattle.std.proofs.Common.{◌≡◌, ℕ, List, [], ◌∷◌, refl, ◌∙◌, Option, Some, None}
use Rattle.replay_model.specs.Step.{Closing, Working, clean_order, clocked_run, opened, run_all_clean, run_all_weak, run_clean, run_weak}

module _ (st : Closing) where
  clean_acted : (o : Option ℕ) (p : ℕ) (wk : Working) → (run_clean st o p wk).acted ≡ wk.acted
  clean_acted None p wk = refl
  clean_acted (Some s) p wk = refl

  all_clean_acted : (ps : List ℕ) (wk : Working) → (run_all_clean st ps wk).acted ≡ wk.acted
  all_clean_acted [] wk = refl
  all_clean_acted (p ∷ ps) wk = all_clean_acted ps (run_clean st (st.sets.trigger p) p wk) ∙ clean_acted (st.sets.trigger p) p wk

  weak_acted : (o n : Option ℕ) (p : ℕ) (wk : Working) → (run_weak st o n p wk).acted ≡ wk.acted
  weak_acted (Some s) n p wk = refl
  weak_acted None None p wk = refl
  weak_acted None (Some x) p wk = refl

  all_weak_acted : (ps : List ℕ) (wk : Working) → (run_all_weak st ps wk).acted ≡ wk.acted
  all_weak_acted [] wk = refl
  all_weak_acted (p ∷ ps) wk = all_weak_acted ps (run_weak st (st.sets.trigger p) (st.sets.wakes p) p wk) ∙ weak_acted (st.sets.trigger p) (st.sets.wakes p) p wk

  pub clocked_acted : (clocked_run st).acted ≡ st.start.acted
  clocked_acted = all_weak_acted st.tables.clocked (run_all_clean st (clean_order st) (opened st)) ∙ all_clean_acted (clean_order st) (opened st)

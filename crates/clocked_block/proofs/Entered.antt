-- The run of a block on what it is shown is that on what a clean block meets.
use Rattle.std.proofs.Common.{◌≡◌, ℕ, subst}
use Rattle.clocked_runs.specs.run_views.body_replay.Contract.{Certainty}
use Rattle.clocked_runs.specs.run_views.body_replay.Runs.{StoreView, runs_of}
use Rattle.clocked_runs.specs.run_views.body_store.declared.store.Store.{Store}
use Rattle.clocked_runs.specs.run_views.design_model.Design.{body_at}
use Rattle.clocked_runs.specs.run_views.design_model.Tree.{Stmt}
use Rattle.entry_values.specs.Entering.{MeetsFor}
use Rattle.entry_values.specs.replay_model.Step.{Closing, Working, clean_store}
use Rattle.local_runs.specs.Narrowed.{Covers, narrowed}
use Rattle.local_runs.proofs.Narrow.{narrow_law}

module _ (st : Closing) (p trigger : ℕ) (w : Working) (s : Stmt) (x : Store) (m : MeetsFor s st.design (clean_store st p trigger w) x) where
  -- what it is shown
  abbrev pub shown_view : StoreView
  shown_view = narrowed m.test (clean_store st p trigger w)

  pub runs_same : (how : Certainty) → s ≡ body_at st.design p → runs_of st.design p shown_view how ≡ runs_of st.design p (clean_store st p trigger w) how
  runs_same how is = narrow_law st.design p (clean_store st p trigger w) m.test how (subst (Covers m.test) is m.covers)

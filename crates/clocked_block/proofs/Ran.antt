-- What the run of one block leaves is the next state of the definition.
use Rattle.std.proofs.Common.{◌≡◌, ℕ, List, [], ◌∷◌, ◌++◌, refl, sym, ap, ap₂, subst, ◌∙◌, append_assoc}
use Rattle.clocked_runs.specs.CanRun.{CanRun, HasRoomInTurn}
use Rattle.clocked_runs.specs.run_views.body_replay.Contract.{Certainty, Outcome}
use Rattle.clocked_runs.specs.run_views.body_replay.Runs.{StoreView, runs_of}
use Rattle.clocked_runs.specs.run_views.body_replay.Store.{KnownWrite}
use Rattle.clocked_runs.specs.run_views.body_store.declared.store.Store.{Store}
use Rattle.clocked_runs.specs.run_views.body_store.Bodies.{rooms_of}
use Rattle.clocked_runs.specs.run_views.body_store.Updates.{queued_writes}
use Rattle.clocked_runs.specs.run_views.design_model.Design.{Design}
use Rattle.clocked_runs.specs.run_views.design_model.View.{design_view}
use Rattle.clocked_runs.specs.run_views.Meets.{Meets}
use Rattle.clocked_runs.specs.store_knowledge.scene_laws.At.{flat}
use Rattle.entry_values.specs.replay_model.Step.{Closing, Working, plain_store}
use Rattle.clocked_block.specs.OneRun.{AtRuns, IsRunBy}

flat_append : (us vs : List (List KnownWrite)) → flat (us ++ vs) ≡ flat us ++ flat vs
flat_append [] vs = refl
flat_append (u ∷ us) vs = ap (λ ws. u ++ ws) (flat_append us vs) ∙ sym (append_assoc u (flat us) (flat vs))

-- the runs of the step are those of its design
pub run_is : (st : Closing) (time p : ℕ) (v : StoreView) (way : ℕ → Certainty) → IsRunBy st time → runs_of st.design p v (way time) ≡ st.run p v (way st.time)
run_is st time p v way by = ap₂ (λ r t. r p v (way t)) (sym by.runs) (sym by.time_is)

-- with what it kept and queued the next process can run
pub run_next : (d : Design) (queue : List (List KnownWrite)) (ps : List ℕ) (x : Store) (o q : Outcome) → o ≡ q → CanRun d (plain_store o.kept) (flat queue ++ flat o.queue) ps x → CanRun d (plain_store q.kept) (flat (queue ++ q.queue)) ps x
run_next d queue ps x o q same h =
    subst (λ (z : Outcome). CanRun d (plain_store z.kept) (flat (queue ++ z.queue)) ps x) same
    (subst (λ ws. CanRun d (plain_store o.kept) ws ps x) (sym (flat_append queue o.queue)) h)

-- what is met changes, and all else stays
pub met_anew : (d : Design) (v u : StoreView) (ws : List KnownWrite) (ps : List ℕ) (x y : Store) → CanRun d v ws ps x → Meets d u y → y.design ≡ x.design → y.updates ≡ x.updates → rooms_of y ≡ rooms_of x → CanRun d u ws ps y
met_anew d v u ws ps x y h meets design updates rooms =
    record {
      meets = meets;
      queued = ap₂ (λ e us. queued_writes (design_view e.now) us.items) design updates ∙ h.queued;
      rooms = subst (HasRoomInTurn d ps) (sym rooms) h.rooms;
    }

use Rattle.std.proofs.Common.{◌≡◌, ℕ, take}
use Rattle.run_views.specs.body_store.Bodies.{rooms_of}
use Rattle.run_views.specs.Meets.{Meets}
use Rattle.step_values.specs.replay_model.Step.{Closing, Working, plain_store}
use Rattle.entry_values.specs.Entry.{IsEntryOf, entered}
use Rattle.entry_values.proofs.entry.show_entry.Given as goal

-- what is early so far is hidden
abbrev pub invariant-loop-thing : goal.invariant-loop-thing
invariant-loop-thing l =
    (l.store.design ≡ l.fn.store.design) × (l.store.updates ≡ l.fn.store.updates) × (rooms_of l.store ≡ rooms_of l.fn.store)
    × ((st : Closing) (p : ℕ) (w : Working) → IsEntryOf st p l.trigger l.early l.codes l.values → Meets st.design (plain_store w.kept) l.fn.store → Meets st.design (entered st l.trigger (take l.thing-index l.early) w.kept) l.store)

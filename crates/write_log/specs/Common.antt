-- What the end of an undecided test leaves, as the definition of a run has it.
use Rattle.std.specs.Prelude.{ℕ}
use Rattle.known_state.specs.Partly.{Partly}
use Rattle.value_store.specs.design_model.Design.{Design}
use Rattle.value_store.specs.body_replay.Replay.{State, join_blame, join_kept}
use Rattle.value_store.specs.Held.{IsSignal}
use Rattle.write_log.specs.Entries.{IsCommon}

-- of each signal, what both ways leave in common is what is known of it after an undecided test, with its blame
abbrev pub CommonLaw : Type 0
CommonLaw =
    (d : Design) (test : ℕ) (left right : State) (s : ℕ) (a b q : Partly) → IsSignal d left.kept left.blames.blame s a → IsSignal d right.kept right.blames.blame s b
    → IsCommon test a b q → IsSignal d (join_kept left.kept right.kept) (join_blame d test left right) s q

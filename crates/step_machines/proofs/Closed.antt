-- The parts of the code after a step.
use Rattle.std.proofs.Common.{◌≡◌, ◌||◌, not, Bool, true, false, refl, sym}
use Rattle.std.proofs.lemmas.Bool.{false≢true}
use Rattle.step_parts.specs.replay_model.Step.{all_run}
use Rattle.step_parts.proofs.Noted.{noted}
use Rattle.step_parts.proofs.mark_laws.Signals.{signals_marked}
use Rattle.toggle_laws.proofs.Turns.{all_follow}
use Rattle.machine_laws.proofs.Followed.{follows, stay_seen}
use Rattle.machine_laws.proofs.Told.{tells_all}
use Rattle.step_machines.specs.Marked.{ClosedLaw}

-- when the states of all machines were reported
told_now : (listed told : Bool) → (not listed || told) ≡ true → listed ≡ true → told ≡ true
told_now true told e l = e
told_now false told e l = absurd (false≢true l)

told_hidden : (listed told : Bool) → listed ≡ false → (not listed || told) ≡ true
told_hidden true told l = absurd (false≢true (sym l))
told_hidden false told l = refl

pub closes : ClosedLaw
closes st machines ps told x v sets acted before middle after seen lawful list once at are_told turns done of marks =
    let toggles = all_follow st ps lawful sets.moves before.verdicts middle.verdicts (λ s l. at.moves s) turns machines list in (
      record {
        knows = at.values.knows;
        acted = at.acted;
        points = of;
        marks = signals_marked st ps (all_run st).notes before.verdicts after.verdicts once at.marks (follows st machines ps (not st.listed || told) before.verdicts middle.verdicts after.verdicts lawful list once at.marks at.still (noted st)
            (λ e l. are_told (told_now st.listed told e l)) (told_hidden st.listed told) toggles marks);
        seen = stay_seen st ps seen (not st.listed || told) middle.verdicts after.verdicts done.seen marks;
      },
      tells_all st ps,
    )

-- What holds of the replay holds over times that the dump does not list.
use Rattle.std.proofs.Common.{◌≡◌, ◌<◌, ◌≤◌, ◌+◌, inr, ⊎_elim, ℕ, zero, suc, List, subst, arith}
use Rattle.std.proofs.lemmas.Bool.{cases_eq}
use Rattle.event_machine.specs.Habit.{Habit}
use Rattle.replay_model.specs.design_model.Design.{Design}
use Rattle.replay_model.specs.design_model.Shows.{BoundDump, IsListed, IsWindow}
use Rattle.replay_model.specs.design_model.declared.point.Point.{Point}
use Rattle.replay_model.specs.hidden_times.Hidden.{IsCalm}
use Rattle.replay_model.specs.model_laws.Own.{HasOwnWakes}
use Rattle.replay_model.specs.body_replay.Runs.{Runs}
use Rattle.replay_model.specs.Laws.{IsReplayOf}
use Rattle.replay_model.specs.Stands.{Stands}
use Rattle.replay_model.specs.Step.{Replay}
use Rattle.replay_model.specs.Tables.{Tables}
use Rattle.replay_model.proofs.StandsLaws.{rest_stands_law}

pub rests : (d : Design) (h : Habit) (dump : BoundDump) (run : Runs) (tables : Tables) (points : List Point) → IsReplayOf d h dump run tables points → HasOwnWakes d
    → (t n : ℕ) (a : Replay) → IsCalm d dump t → ((u : ℕ) → t < u → u ≤ t + n → IsWindow dump u × (IsListed dump u → ⊥)) → Stands d h dump tables points t a → Stands d h dump tables points (t + n) a
rests d h dump run tables points is wakes t zero a calm gap s = subst (λ (u : ℕ). Stands d h dump tables points u a) (let same : t ≡ t + 0 = omega arith in same) s
rests d h dump run tables points is wakes t (suc n) a calm gap s =
    let before = rests d h dump run tables points is wakes t n a calm (λ u after within. gap u after (omega (arith, within))) s in
    let still : IsCalm d dump (t + n) = ⊎_elim (λ e. subst (IsCalm d dump) e calm) (λ other. inr (gap (t + n) (omega (arith, other)) (omega arith)).1) (cases_eq t (t + n)) in
    let next = gap (suc (t + n)) (omega arith) (omega arith) in
    let same : suc (t + n) ≡ t + suc n = omega arith in
    subst (λ (u : ℕ). Stands d h dump tables points u a) same (rest_stands_law d h dump run tables points is wakes (t + n) a still next.0 next.1 before)

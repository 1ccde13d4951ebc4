-- What may move is an input, or is written by a process that runs.
use Rattle.std.proofs.Common.{◌≡◌, ◌⊎◌, ◌<◌, ◌≤◌, ◌++◌, ◌&&◌, not, inl, inr, ⊎_elim, ℕ, suc, true, false, length, Option, Some, None, refl, sym, subst, ◌∙◌}
use Rattle.std.specs.Prelude.{is_some}
use Rattle.std.proofs.lemmas.Bool.{and_parts, both_ways, cases_lt, not-true}
use Rattle.std.proofs.lemmas.List.{get_or_past}
use Rattle.event_machine.specs.Cell.{Cell}
use Rattle.event_machine.specs.Habit.{Habit}
use Rattle.event_machine.specs.Machine.{IsTarget}
use Rattle.event_machine.specs.MayMove.{MayWake, of_input, of_target}
use Rattle.design_model.proofs.Lawful.{any_weaker}
use Rattle.replay_steps.specs.replay_model.design_model.Design.{Design, In, IsClocked, body, no_process, process_at, signal_at}
use Rattle.replay_steps.specs.replay_model.design_model.Lawful.{IsLawfulDesign, target_once}
use Rattle.replay_steps.specs.replay_model.design_model.Machine.{is_level, machine}
use Rattle.replay_steps.specs.replay_model.design_model.MayMove.{CanWakeSome, IsSingleAt, MayMoveAt, told_at}
use Rattle.replay_steps.specs.replay_model.design_model.Mentions.{may_write, nonblocking_target}
use Rattle.replay_steps.specs.replay_model.design_model.Shows.{BoundDump}
use Rattle.replay_steps.specs.replay_model.design_model.Tree.{Process, assign, clocked, comb}
use Rattle.replay_steps.specs.replay_model.body_replay.Runs.{Runs}
use Rattle.replay_steps.specs.replay_model.Laws.{closing_at}
use Rattle.replay_steps.specs.replay_model.Sets.{AreSets, Sets}
use Rattle.replay_steps.specs.replay_model.Step.{Closing, Replay}
use Rattle.replay_steps.specs.replay_model.Tables.{AreTables, Tables}
use Rattle.replay_steps.proofs.replay_model.Bits.{in_any, in_left, in_right}
use Rattle.replay_steps.proofs.replay_model.Hits.{edge_clocked, level_settles}
use Rattle.replay_steps.proofs.replay_model.Targets.{clocked_or, is_target-of}
use Rattle.clocked_laws.specs.Clocked.{IsInputOrWritten}
use Rattle.clocked_laws.specs.Laws.{ClockedMovesLaw}
use Rattle.clocked_laws.proofs.Order.{running}

-- what is no Clocked has no nonblocking assignment
unqueued : (d : Design) (x : Process) (c : Cell) → (IsClocked x → ⊥) → target_once x d ≡ true → nonblocking_target d (body x) c ≡ true → ⊥
unqueued d (assign i y t counted) c settles once e = both_ways false refl e
unqueued d (comb i wakes s) c settles once e = both_ways _ (not-true _ once) (any_weaker (λ b y t. not b && may_write d y c) (λ b y t. not b) (λ b y t h. (and_parts (not b) _ h).0) s e)
unqueued d (clocked i events s) c settles once e = settles tt

module _ (d : Design) (h : Habit) (dump : BoundDump) (run : Runs) (tables : Tables) (sets : Sets) (t : ℕ) (a : Replay) (lawful : IsLawfulDesign d) (tabled : AreTables d dump.bound tables) (are : AreSets d h dump (suc t) sets) where
  abbrev st : Closing
  st = closing_at d dump run tables sets t a

  -- in place of a process that the design does not have
  past : (p : ℕ) → length d.processes ≤ p → process_at d p ≡ no_process
  past p most = get_or_past d.processes p no_process most

  clocked_below : (p : ℕ) → IsClocked (process_at d p) → p < length d.processes
  clocked_below p is = ⊎_elim (λ less. less) (λ most. absurd (subst IsClocked (past p most) is)) (cases_lt p (length d.processes))

  level_below : (p x : ℕ) → is_level (process_at d p) x ≡ true → p < length d.processes
  level_below p x level = ⊎_elim (λ less. less) (λ most. absurd (both_ways false refl (subst (λ q. is_level q x ≡ true) (past p most) level))) (cases_lt p (length d.processes))

  -- a target of a Clocked that a member may wake
  by_clocked : (x p : ℕ) (c : Cell) → IsClocked (process_at d p) → MayMoveAt d dump (suc t) x → MayWake (machine d) (told_at dump (suc t)) (IsSingleAt d dump (suc t)) x p → IsTarget (machine d) p c → IsInputOrWritten st c.thing
  by_clocked x p c is may (inl level) target = absurd (level_settles (process_at d p) x level is)
  by_clocked x p c is may (inr edge) target =
      inr (inr (p, c, refl, (tabled.clocked p).1 (clocked_below p is, is), running d h dump run tables sets t a are p ∙ wakes (sets.wakes p) refl, is_target-of d p c target))
    where
      woken : CanWakeSome d dump (suc t) p
      woken = (edge.0, (edge.2, subst (MayMoveAt d dump (suc t)) (sym edge.1) may))

      wakes : (o : Option ℕ) → sets.wakes p ≡ o → is_some o ≡ true
      wakes None e = absurd (are.no_wakes p e woken)
      wakes (Some s) e = refl

  -- a target of another process
  by_other : (x p : ℕ) (c : Cell) → (IsClocked (process_at d p) → ⊥) → MayMoveAt d dump (suc t) x → MayWake (machine d) (told_at dump (suc t)) (IsSingleAt d dump (suc t)) x p → IsTarget (machine d) p c → IsInputOrWritten st c.thing
  by_other x p c settles may (inr edge) target = absurd (settles (edge_clocked (process_at d p) edge.2.0 edge.0 edge.2.1))
  by_other x p c settles may (inl level) (inr queued) = absurd (unqueued d (process_at d p) c settles (lawful.targets p) queued)
  by_other x p c settles may (inl level) (inl blocking) =
      inr (inl (p, c, refl, listed ((tabled.others p).1 (level_below p x level, settles)), in_any sets.moves (tables.watched p) x ((tabled.watched p x).1 level) ((are.moves x).1 may), blocking))
    where
      listed : In p tables.order ⊎ In p tables.last → In p (tables.order ++ tables.last)
      listed (inl i) = in_left p tables.order tables.last i
      listed (inr i) = in_right p tables.order tables.last i

  moved : (s : ℕ) → MayMoveAt d dump (suc t) s → IsInputOrWritten st s
  moved s (of_input c moving) = inl (and_parts (signal_at d c.thing).input _ moving.0).0
  moved s (of_target x p c may wakes target) = ⊎_elim (λ is. by_clocked x p c is may wakes target) (λ settles. by_other x p c settles may wakes target) (clocked_or (process_at d p))

pub moves_are : ClockedMovesLaw
moves_are d h dump run tables sets t a lawful tabled are s m = moved d h dump run tables sets t a lawful tabled are s ((are.moves s).0 m)

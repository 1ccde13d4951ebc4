-- The answers of a step are the sets that the replay asks for.
use Rattle.std.proofs.Common.{◌≡◌, ◌↔◌, ℕ, true, List, Option, Some, None, refl, subst, sym}
use Rattle.std.specs.List.{Contains}
use Rattle.wake_laws.specs.event_machine.Cell.{Cell}
use Rattle.replay_model.specs.design_model.Design.{Design, cell}
use Rattle.replay_model.specs.design_model.Lawful.{IsLawfulDesign}
use Rattle.replay_model.specs.design_model.Shows.{BoundDump}
use Rattle.replay_model.specs.design_model.Early.{IsEarlyAt}
use Rattle.replay_model.specs.design_model.MayMove.{IsCleanAt}
use Rattle.wake_laws.specs.early_sets.declared.habit.Habit.{Habit}
use Rattle.wake_laws.specs.early_sets.WakeState.{WakeState, trigger_of}
use Rattle.wake_laws.specs.early_sets.Has.{is_in}
use Rattle.wake_laws.specs.early_sets.Rounds.{round_at}
use Rattle.wake_laws.proofs.early_sets.Membership.{is_in_from, is_in_gives}
use Rattle.wake_laws.specs.Laws.{AreInRounds, AreNotes, AreSingle, AreWakes, IsSettled, habit_of}
use Rattle.wake_laws.specs.OfDesign.{AreTablesOf}
use Rattle.wake_laws.proofs.EarlyLaw.{early_law}
use Rattle.wake_laws.proofs.MovesLaw.{moves_by, reached_below}
use Rattle.wake_laws.proofs.WakesLaw.{wakes_law}
use Rattle.replay_model.specs.Sets.{IsFirstRound}
use Rattle.replay_sets.specs.SetsOf.{AreChosen, SetsLaw, round_by, round_of}

-- a test of a list is its members
tested : (xs : List ℕ) (x : ℕ) (P : Type 0) → Contains xs x ↔ P → (is_in xs x ≡ true) ↔ P
tested xs x P h = (λ t. h.0 (is_in_gives xs x t), λ p. let c = h.1 p in is_in_from xs x c.0 c.1 c.2)

module _ (d : Design) (lawful : IsLawfulDesign d) (dump : BoundDump) (t : ℕ) (w : WakeState) (h : Habit) (early : ℕ → List ℕ) (tables : AreTablesOf d w.tables) (notes : AreNotes d dump t w) (rounds : AreInRounds d dump t w) (settled : IsSettled w) (chosen : AreChosen w h early) where
  single : AreSingle d dump t w
  single = rounds.single

  wakes : AreWakes d dump t w
  wakes = wakes_law d lawful dump t w tables notes single settled

  early_by : (p : ℕ) (c : Cell) → IsCleanAt d dump t p c → (o : Option ℕ) → trigger_of w p ≡ o → (x : ℕ) → Contains (early p) x ↔ IsEarlyAt d (habit_of h) dump t p c x
  early_by p c clean None is x = absurd (wakes.no_trigger p is c clean)
  early_by p c clean (Some s) is x =
      let at_s : IsCleanAt d dump t p (cell s 0) = wakes.trigger p s is in
      let same : cell s 0 ≡ c = clean.alone (cell s 0) at_s.can_wake in
      let law = early_law d lawful dump t w tables notes single h p s at_s x in
      subst (λ b. Contains (early p) x ↔ IsEarlyAt d (habit_of h) dump t p b x) same (λ m. law.0 ((chosen p s is x).0 m), λ e. (chosen p s is x).1 (law.1 e))

  -- the number of a clean process is that of the round in which its trigger became single
  first_round : (p s : ℕ) → trigger_of w p ≡ Some s → IsFirstRound d dump t (cell s 0) (round_of w p)
  first_round p s is =
      let clean = wakes.trigger p s is in
      let moved = moves_by d lawful dump t w tables notes single s clean.can_wake.1 in
      let first = rounds.first s (reached_below d lawful dump t w tables notes s moved) (single.complete s moved clean.is_single) in
      let now : IsFirstRound d dump t (cell s 0) (round_at w s) = record { single = first.is_single; not_before = first.not_before } in
      subst (λ o. IsFirstRound d dump t (cell s 0) (round_by w o)) (sym is) now

pub sets_law : (d : Design) → IsLawfulDesign d → SetsLaw d
sets_law d lawful dump t w h early tables notes rounds settled chosen =
    let k = wakes d lawful dump t w h early tables notes rounds settled chosen in
    record {
      moves = λ x. tested w.moves x _ (k.moves x);
      trigger = k.trigger;
      no_trigger = k.no_trigger;
      round = first_round d lawful dump t w h early tables notes rounds settled chosen;
      wakes = k.wakes;
      no_wakes = k.no_wakes;
      early = λ p c clean x. tested (early p) x _ (early_by d lawful dump t w h early tables notes rounds settled chosen p c clean (trigger_of w p) refl x);
    }

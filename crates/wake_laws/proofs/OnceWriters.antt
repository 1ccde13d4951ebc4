-- What is written once by the definitions is what becomes single by the tables.
use Rattle.std.proofs.Common.{◌≡◌, ◌⊎◌, inl, inr, ⊎_elim, ◌∙◌, ℕ, true, false, not, Option, Some, None, is_none, is_some, refl, ap}
use Rattle.std.specs.List.{Contains}
use Rattle.std.proofs.lemmas.Bool.{and_from, and_parts, false≢true, not_from_false, not-true, or_cases, or_left, or_right}
use Rattle.event_machine.specs.Cell.{Cell}
use Rattle.event_machine.specs.MayMove.{CanWake, IsClean}
use Rattle.event_machine.specs.Single.{IsWrittenOnce}
use Rattle.design_model.specs.Design.{Design, cell}
use Rattle.design_model.specs.Lawful.{IsLawfulDesign}
use Rattle.design_model.specs.Machine.{machine}
use Rattle.design_model.specs.MayMove.{IsSingleAt, told_at}
use Rattle.design_model.specs.Shows.{BoundDump}
use Rattle.early_sets.specs.Has.{is_in}
use Rattle.early_sets.specs.Reached.{Reached}
use Rattle.early_sets.specs.Rounds.{HasMoves, becomes_single, is_written_by, runs_at_most_once, writer_at}
use Rattle.early_sets.specs.WakeState.{WakeState, edges_at, is_single, nothing_left, trigger_of, waker_of}
use Rattle.early_sets.proofs.Membership.{is_in_from, is_in_gives}
use Rattle.wake_laws.specs.OfDesign.{AreTablesOf, AreWritersOf, IsOnceWriter}
use Rattle.wake_laws.specs.Laws.{AreNotes, AreSingle, AreWakes}
use Rattle.wake_laws.proofs.MovesLaw.{reached_below}
use Rattle.wake_laws.proofs.WakesLaw.{wakes_law}

none_is : (o : Option ℕ) → is_none o ≡ true → o ≡ None
none_is None h = refl
none_is (Some s) h = absurd (false≢true h)

some_is : (o : Option ℕ) → is_some o ≡ true → (s : ℕ) × (o ≡ Some s)
some_is None h = absurd (false≢true h)
some_is (Some s) h = (s, refl)

module _ (d : Design) (lawful : IsLawfulDesign d) (dump : BoundDump) (t : ℕ) (w : WakeState) (tables : AreTablesOf d w.tables) (notes : AreNotes d dump t w) (single : AreSingle d dump t w) (moves : HasMoves w) (writers : AreWritersOf d dump.bound w.tables.things w.writers) where
  abbrev R : ℕ → Type 0
  R x = Reached w.tables (edges_at w) nothing_left (Contains w.noted) x

  abbrev IsOnce : ℕ → Type 0
  IsOnce x = IsWrittenOnce (machine d) (told_at dump t) (IsSingleAt d dump t) (cell x 0)

  abbrev CannotOrClean : ℕ → Type 0
  CannotOrClean p = ((c : Cell) → CanWake (machine d) (told_at dump t) (IsSingleAt d dump t) c p → ⊥) ⊎ ((c : Cell) × IsClean (machine d) (told_at dump t) (IsSingleAt d dump t) p c)

  wakes : AreWakes d dump t w
  wakes = wakes_law d lawful dump t w tables notes single (record { moves_are = moves.moves })

  -- a process that cannot wake or is clean
  runs_of : (p : ℕ) → runs_at_most_once w p ≡ true → CannotOrClean p
  runs_of p h =
      ⊎_elim
      (λ none. inl (λ c can. wakes.no_wakes p (none_is (waker_of w p) none) (c, can)))
      (λ some. let k = some_is (trigger_of w p) some in inr (cell k.0 0, wakes.trigger p k.0 k.1))
      (or_cases (is_none (waker_of w p)) (is_some (trigger_of w p)) h)

  cannot_by : (p : ℕ) (o : Option ℕ) → waker_of w p ≡ o → ((c : Cell) → CanWake (machine d) (told_at dump t) (IsSingleAt d dump t) c p → ⊥) → is_none (waker_of w p) ≡ true
  cannot_by p None is cannot = ap is_none is
  cannot_by p (Some s) is cannot = absurd (cannot (cell s 0) (wakes.wakes p s is))

  clean_by : (p : ℕ) (o : Option ℕ) → trigger_of w p ≡ o → (c : Cell) → IsClean (machine d) (told_at dump t) (IsSingleAt d dump t) p c → is_some (trigger_of w p) ≡ true
  clean_by p None is c clean = absurd (wakes.no_trigger p is c clean)
  clean_by p (Some s) is c clean = ap is_some is

  runs_by : (p : ℕ) → CannotOrClean p → runs_at_most_once w p ≡ true
  runs_by p (inl cannot) = or_left (is_none (waker_of w p)) (is_some (trigger_of w p)) (cannot_by p (waker_of w p) refl cannot)
  runs_by p (inr clean) = or_right (is_none (waker_of w p)) (is_some (trigger_of w p)) (clean_by p (trigger_of w p) refl clean.0 clean.1)

  -- the writer of a thing that becomes single
  written_by : (x : ℕ) (o : Option ℕ) → writer_at w x ≡ o → is_written_by w o ≡ true → (p : ℕ) × (writer_at w x ≡ Some p) × (runs_at_most_once w p ≡ true)
  written_by x None is h = absurd (false≢true h)
  written_by x (Some p) is h = (p, is, h)

  pub becoming : (x : ℕ) → becomes_single w x ≡ true → R x × (is_single w x ≡ false) × ((p : ℕ) × (writer_at w x ≡ Some p) × (runs_at_most_once w p ≡ true))
  becoming x h =
      let moved = and_parts (is_in w.moves x) _ h in
      let rest = and_parts (not (is_single w x)) _ moved.1 in
      ((moves.moves x).0 (is_in_gives w.moves x moved.0), not-true (is_single w x) rest.0, written_by x (writer_at w x) refl rest.1)

  -- what becomes single is written once
  pub written : (x : ℕ) → becomes_single w x ≡ true → IsOnce x
  written x h =
      let k = becoming x h in
      let p = k.2.0 in
      let o = (writers.is x p (reached_below d lawful dump t w tables notes x k.0)).0 k.2.1 in
      record {
        told = o.is_bound;
        is_event = o.is_event;
        writer = p;
        writes = o.writes;
        clocked = o.clocked;
        once = o.once;
        cannot_wake_or_clean = runs_of p k.2.2;
      }

  -- what may move, is written once and is not yet single becomes single
  pub becomes : (x : ℕ) → R x → is_single w x ≡ false → IsOnce x → becomes_single w x ≡ true
  becomes x m out once =
      let o : IsOnceWriter d dump.bound x once.writer = record { is_bound = once.told; is_event = once.is_event; clocked = once.clocked; writes = once.writes; once = once.once } in
      let is : writer_at w x ≡ Some once.writer = (writers.is x once.writer (reached_below d lawful dump t w tables notes x m)).1 o in
      let c = (moves.moves x).1 m in
      and_from (is_in w.moves x) _ (is_in_from w.moves x c.0 c.1 c.2)
      (and_from (not (is_single w x)) _ (not_from_false (is_single w x) out) (ap (is_written_by w) is ∙ runs_by once.writer once.cannot_wake_or_clean))

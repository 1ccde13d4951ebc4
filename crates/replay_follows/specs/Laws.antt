-- From one closed step to the next.
use Rattle.std.specs.Prelude.{◌≡◌, ◌<◌, ◌≤◌, ◌+◌, ℕ, suc, true, false, List}
use Rattle.event_machine.specs.Cell.{Cell}
use Rattle.four_state.specs.declared.bit.Bit.{Bit}
use Rattle.code_values.specs.Values.{Values}
use Rattle.step_parts.specs.cover_marks.Marks.{AreMarksOf}
use Rattle.step_parts.specs.cover_points.Listed.{points_of}
use Rattle.design_model.specs.Clear.{IsForced}
use Rattle.design_model.specs.Design.{signal_bits}
use Rattle.design_model.specs.Shows.{BoundDump, IsContradicted, IsFirst, IsListed, IsShown, IsWindow, NoneShown}
use Rattle.early_sets.specs.WakeState.{WakeState}
use Rattle.step_parts.specs.replay_model.hidden_times.Hidden.{IsCalm}
use Rattle.machine_laws.specs.Told.{AreTold}
use Rattle.step_parts.specs.mark_laws.Marked.{AreVerdicts}
use Rattle.step_parts.specs.replay_model.Laws.{AreReasonedVerdicts, AreSoundVerdicts}
use Rattle.step_parts.specs.replay_model.Sets.{AreSets}
use Rattle.step_parts.specs.replay_model.Start.{contradicts_first, started}
use Rattle.step_parts.specs.replay_model.Step.{Closing, Replay, closed, contradicts, forgotten, new_replay}
use Rattle.step_parts.specs.replay_sets.SetsOf.{sets_of}
use Rattle.step_parts.specs.step_changes.Changes.{AreUnsigned}
use Rattle.step_parts.specs.AtStep.{AtRest}
use Rattle.step_parts.specs.Due.{Due, IsDueStep, step_of}
use Rattle.step_parts.specs.step_values.Dumped.{AreDumped}
use Rattle.step_parts.specs.step_wakes.Step.{IsOfDesign}
use Rattle.step_parts.specs.wake_laws.Laws.{habit_of}
use Rattle.replay_follows.specs.Follows.{Follows, HasWriters, IsSubject, Parts, Pauses, Subject}

-- the replay after the first step of a stretch, at this time
abbrev pub first_replay : Subject → ℕ → Replay → Replay
first_replay f t a = started f.design f.dump.bound f.run f.tables (f.dump.values t) a

-- the step of the replay after this time
abbrev pub due_at : Subject → ℕ → Replay → Parts → Due
due_at f t a x =
    record {
      design = f.design;
      habit = f.habit;
      dump = f.dump;
      run = f.run;
      tables = f.tables;
      points = f.points;
      time = t;
      replay = a;
      flags = f.flags;
      acted = x.acted;
      marks = x.marks;
      seen = x.seen;
    }

-- this step by these sets, and by what is early for its clean blocks
abbrev pub step_at : Subject → ℕ → Replay → Parts → WakeState → (ℕ → List ℕ) → Closing
step_at f t a x sets early = step_of (due_at f t a x) sets early

-- the replay after it
abbrev pub next_replay : Subject → ℕ → Replay → Parts → WakeState → (ℕ → List ℕ) → Replay
next_replay f t a x sets early = closed (step_at f t a x sets early) (points_of f.points)

-- the values that are given last are those of the dump at this time
pub record AreGiven (f : Subject) (x : Parts) (t : ℕ) : Type 0 where
  pub last : AreDumped f.design f.codes x.values.last (f.dump.values t)
  pub unsigned : AreUnsigned x.values.last

-- no run shows the dump up to this time
abbrev pub IsRefused : Subject → ℕ → Type 0
IsRefused f t = IsContradicted f.design (habit_of f.habit) f.dump t

-- the marks have the verdicts of the replay, which hold in each run that shows the dump, and no forced value differs from the dump's
pub record HasVerdicts (f : Subject) (a : Replay) (x : Parts) : Type 0 where
  pub marks : AreMarksOf f.points x.marks
  pub verdicts : AreVerdicts f.design f.points a.notes x.marks.verdicts
  pub sound : AreSoundVerdicts f.design (habit_of f.habit) f.dump (points_of f.points) a
  pub reasoned : AreReasonedVerdicts f.design (habit_of f.habit) f.dump (points_of f.points) a
  pub forced : (t s : ℕ) (bits : List Bit) → IsForced f.design (habit_of f.habit) f.dump t s bits → signal_bits f.design (f.dump.values t) s ≡ bits

-- Where nothing is shown before a time, a new replay is paused at it.
abbrev pub NewPauseLaw : Type 0
NewPauseLaw =
    (f : Subject) (u : ℕ) (x : Parts) → IsSubject f → IsOfDesign f.design f.flags x.sets → HasWriters f x → AtRest f.design f.points new_replay x.store x.acted x.marks x.seen → x.told ≡ false
    → ((v : ℕ) → v < u → IsShown f.dump v → ⊥) → Pauses f u new_replay x

-- where the replay has followed the dump up to a time, and nothing is shown after it and before u, it is paused at u once it knows nothing of the values
abbrev pub PauseLaw : Type 0
PauseLaw =
    (f : Subject) (t u : ℕ) (a : Replay) (x y : Parts) → Follows f t a x → t < u → NoneShown f.dump t u → IsOfDesign f.design f.flags y.sets → HasWriters f y
    → AtRest f.design f.points (forgotten a) y.store y.acted y.marks y.seen → y.told ≡ false
    → Pauses f u (forgotten a) y

-- it stays so up to a later time, where nothing is shown
abbrev pub PauseLaterLaw : Type 0
PauseLaterLaw = (f : Subject) (u w : ℕ) (a : Replay) (x : Parts) → u ≤ w → ((v : ℕ) → u ≤ v → v < w → IsShown f.dump v → ⊥) → Pauses f u a x → Pauses f w a x

-- where no time that is shown is left, the verdicts of a paused replay hold
abbrev pub PausedVerdictsLaw : Type 0
PausedVerdictsLaw = (f : Subject) (u : ℕ) (a : Replay) (x : Parts) → ((v : ℕ) → IsShown f.dump v → v < u) → Pauses f u a x → HasVerdicts f a x

-- Where nothing contradicts the first step of a stretch, a replay that was paused has followed the dump up to its time.
abbrev pub FirstLaw : Type 0
FirstLaw =
    (f : Subject) (t : ℕ) (a : Replay) (x y : Parts) → Pauses f t a x → IsFirst f.dump t → IsShown f.dump t → IsOfDesign f.design f.flags y.sets → HasWriters f y
    → AreDumped f.design f.codes y.values.closed (f.dump.values t) → AreUnsigned y.values.closed
    → ((c : Cell) → contradicts_first f.design f.dump.bound f.run f.tables (f.dump.values t) a c ≡ false)
    → AtRest f.design f.points (first_replay f t a) y.store y.acted y.marks y.seen → y.told ≡ false
    → Follows f t (first_replay f t a) y

-- where some bit contradicts it, no run shows the dump up to its time
abbrev pub FirstContradictedLaw : Type 0
FirstContradictedLaw =
    (f : Subject) (t : ℕ) (a : Replay) (x : Parts) (c : Cell) → Pauses f t a x → IsFirst f.dump t → IsShown f.dump t → contradicts_first f.design f.dump.bound f.run f.tables (f.dump.values t) a c ≡ true
    → IsRefused f t

-- values that are given to codes change nothing of what was followed
abbrev pub GivenLaw : Type 0
GivenLaw = (f : Subject) (t : ℕ) (a : Replay) (x : Parts) (values : Values) → values.closed ≡ x.values.closed → Follows f t a x → Follows f t a (record x { values = values })

-- over times that the dump does not list it has followed it too, where each input is bound or the dump does not list this time either
abbrev pub RestLaw : Type 0
RestLaw = (f : Subject) (t n : ℕ) (a : Replay) (x : Parts) → IsCalm f.design f.dump t → ((u : ℕ) → t < u → u ≤ t + n → IsWindow f.dump u × (IsListed f.dump u → ⊥)) → Follows f t a x → Follows f (t + n) a x

-- and so up to the time before one of the window, where the dump lists none between
abbrev pub NextLaw : Type 0
NextLaw =
    (f : Subject) (t time : ℕ) (a : Replay) (x : Parts) → IsCalm f.design f.dump t → t < time → IsWindow f.dump time → ((u : ℕ) → t < u → u < time → IsListed f.dump u → ⊥) → Follows f t a x
    → (before : ℕ) × (time ≡ suc before) × Follows f before a x

-- once the dump's values at the time after it are given, the next step is due
abbrev pub DueLaw : Type 0
DueLaw = (f : Subject) (t : ℕ) (a : Replay) (x : Parts) → Follows f t a x → AreGiven f x (suc t) → IsDueStep (due_at f t a x) f.codes f.ranks f.clocked_ranks x.sets x.values x.store

-- after a step that nothing contradicts the replay has followed the dump up to its end
abbrev pub ClosedLaw : Type 0
ClosedLaw =
    (f : Subject) (t : ℕ) (a : Replay) (x y : Parts) (early : ℕ → List ℕ) → Follows f t a x → AreGiven f x (suc t) → IsWindow f.dump (suc t)
    → AreSets f.design (habit_of f.habit) f.dump (suc t) (sets_of y.sets early) → IsOfDesign f.design f.flags y.sets → HasWriters f y
    → ((c : Cell) → contradicts (step_at f t a x y.sets early) c ≡ false) → y.values.closed ≡ x.values.last
    → AtRest f.design f.points (next_replay f t a x y.sets early) y.store y.acted y.marks y.seen → (y.told ≡ true → AreTold f.design f.points (next_replay f t a x y.sets early))
    → Follows f (suc t) (next_replay f t a x y.sets early) y

-- where some bit contradicts a step, no run shows the dump up to its end
abbrev pub ContradictedLaw : Type 0
ContradictedLaw =
    (f : Subject) (t : ℕ) (a : Replay) (x : Parts) (sets : WakeState) (early : ℕ → List ℕ) (c : Cell) → Follows f t a x → IsWindow f.dump (suc t)
    → AreSets f.design (habit_of f.habit) f.dump (suc t) (sets_of sets early) → contradicts (step_at f t a x sets early) c ≡ true → IsRefused f (suc t)

-- no time that the dump shows is after this one: this is the last step
abbrev pub IsLastStep : BoundDump → ℕ → Type 0
IsLastStep dump t = (u : ℕ) → IsShown dump u → u ≤ t

-- once the last step of the dump is closed, so it is
abbrev pub VerdictsLaw : Type 0
VerdictsLaw = (f : Subject) (t : ℕ) (a : Replay) (x : Parts) → IsLastStep f.dump t → Follows f t a x → HasVerdicts f a x

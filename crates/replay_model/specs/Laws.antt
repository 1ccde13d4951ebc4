-- What the replay of a dump promises: what it keeps and reports is right from the first step on, until it answers a contradiction,
-- which no run shows; and so its verdicts hold.
use Rattle.std.specs.Prelude.{◌≡◌, ◌≢◌, ◌<◌, ◌≤◌, ℕ, suc, Bool, true, false, List, []}
use Rattle.event_machine.specs.Cell.{Cell}
use Rattle.event_machine.specs.Habit.{Habit}
use Rattle.design_model.specs.four_state.Vector.{Vector}
use Rattle.design_model.specs.declared.point.Point.{Point}
use Rattle.design_model.specs.declared.point.Point.TheVariants.{Arc as arc_point, Toggle as toggle_point}
use Rattle.design_model.specs.Design.{Design, In}
use Rattle.design_model.specs.Run.{IsRun, Run}
use Rattle.design_model.specs.Shows.{BoundDump, IsFirst, IsListed, IsShowing, IsShown, IsWindow, NoneShown, Shows}
use Rattle.design_model.specs.Points.{IsHit, IsHitAt, IsPoint}
use Rattle.design_model.specs.Doubt.{IsInDoubt}
use Rattle.design_model.specs.Open.{IsReached}
use Rattle.design_model.specs.Lawful.{IsLawfulDesign}
use Rattle.design_model.specs.MayMove.{AreLastRounds}
use Rattle.hidden_times.specs.Hidden.{IsAnyDumpOf, IsCalm, is_listed}
use Rattle.model_laws.specs.Own.{HasOwnWakes}
use Rattle.body_replay.specs.Contract.{Doubted}
use Rattle.body_replay.specs.Runs.{AreRuns, Runs}
use Rattle.replay_model.specs.Sets.{AreSets, Sets}
use Rattle.replay_model.specs.Tables.{AreTables, Tables}
use Rattle.replay_model.specs.Marks.{Hit, IsVerdict, Missed, Undetermined}
use Rattle.replay_model.specs.Step.{Closing, Replay, closed, contradicts, forgotten, new_replay}
use Rattle.replay_model.specs.Start.{contradicts_first, started}
use Rattle.replay_model.specs.Paused.{IsPaused}
use Rattle.replay_model.specs.Stands.{AreForced, AreKnown, AreReasoned, IsSound, Stands}

-- what is taken for granted of a replay: a lawful design, its tables, runs of its bodies, and points of which the toggles are of bits of its signals
pub record IsReplayOf (d : Design) (h : Habit) (dump : BoundDump) (run : Runs) (tables : Tables) (points : List Point) : Type 0 where
  pub lawful : IsLawfulDesign d
  pub fits : IsAnyDumpOf d dump
  pub rounds : AreLastRounds d dump
  pub runs : AreRuns d run
  pub tabled : AreTables d dump.bound tables
  pub toggles : (s i : ℕ) (rise : Bool) → In (toggle_point s i rise) points → IsPoint d [] (toggle_point s i rise)
  pub arcs : (i : ℕ) (name : List ℕ) (s : ℕ) (from to : List ℕ) (x y : Vector) → In (arc_point i name s from to x y) points → x.bits ≢ y.bits  -- two states of a machine differ in value

-- the step at suc t, by these sets
abbrev pub closing_at : Design → BoundDump → Runs → Tables → Sets → ℕ → Replay → Closing
closing_at d dump run tables sets t a =
    record {
      design = d;
      bound = dump.bound;
      run = run;
      tables = tables;
      sets = sets;
      time = suc t;
      listed = is_listed dump (suc t);
      new = dump.values (suc t);
      start = a;
    }

-- the replay after it
abbrev pub closed_at : Design → BoundDump → Runs → Tables → List Point → Sets → ℕ → Replay → Replay
closed_at d dump run tables points sets t a = closed (closing_at d dump run tables sets t a) points

-- Pause laws: where nothing is shown before a time, a new replay is paused at it.
abbrev pub NewPausedLaw : Type 0
NewPausedLaw =
    (d : Design) (h : Habit) (dump : BoundDump) (points : List Point) (u : ℕ) → ((v : ℕ) → v < u → IsShown dump v → ⊥) → IsPaused d h dump points u new_replay

-- where all this holds at a time, and nothing is shown after it and before u, the replay that has forgotten the values is paused at u
abbrev pub PausedLaw : Type 0
PausedLaw =
    (d : Design) (h : Habit) (dump : BoundDump) (run : Runs) (tables : Tables) (points : List Point) → IsReplayOf d h dump run tables points
    → (t u : ℕ) (a : Replay) → t < u → NoneShown dump t u → Stands d h dump tables points t a → IsPaused d h dump points u (forgotten a)

-- it stays so up to a later time, where nothing is shown
abbrev pub PausedLaterLaw : Type 0
PausedLaterLaw =
    (d : Design) (h : Habit) (dump : BoundDump) (run : Runs) (tables : Tables) (points : List Point) → IsReplayOf d h dump run tables points
    → (u w : ℕ) (a : Replay) → u ≤ w → ((v : ℕ) → u ≤ v → v < w → IsShown dump v → ⊥) → IsPaused d h dump points u a → IsPaused d h dump points w a

-- Sound laws: the replay is sound after the first step of a stretch.
abbrev pub FirstSoundLaw : Type 0
FirstSoundLaw =
    (d : Design) (h : Habit) (dump : BoundDump) (run : Runs) (tables : Tables) (points : List Point) → IsReplayOf d h dump run tables points → (t : ℕ) (a : Replay)
    → IsFirst dump t → IsShown dump t → IsPaused d h dump points t a
    → IsSound d h dump points t (started d dump.bound run tables (dump.values t) a)

-- a closing step keeps it sound
abbrev pub StepSoundLaw : Habit → Type 0
StepSoundLaw h =
    (d : Design) (dump : BoundDump) (run : Runs) (tables : Tables) (points : List Point) → IsReplayOf d h dump run tables points → HasOwnWakes d
    → (t : ℕ) (sets : Sets) (a : Replay) → IsWindow dump (suc t) → AreSets d h dump (suc t) sets → IsSound d h dump points t a
    → IsSound d h dump points (suc t) (closed_at d dump run tables points sets t a)

-- so does a time that the dump does not list, where each input is bound or the time before is one that the dump does not list
abbrev pub RestSoundLaw : Type 0
RestSoundLaw =
    (d : Design) (h : Habit) (dump : BoundDump) (run : Runs) (tables : Tables) (points : List Point) → IsReplayOf d h dump run tables points
    → (t : ℕ) (a : Replay) → IsCalm d dump t → IsWindow dump (suc t) → (IsListed dump (suc t) → ⊥) → IsSound d h dump points t a
    → IsSound d h dump points (suc t) a

-- Known laws: where there was no contradiction, what is clear is sure after the first step of a stretch.
abbrev pub FirstKnownLaw : Type 0
FirstKnownLaw =
    (d : Design) (h : Habit) (dump : BoundDump) (run : Runs) (tables : Tables) (points : List Point) → IsReplayOf d h dump run tables points
    → HasOwnWakes d → (t : ℕ) (a : Replay)
    → IsFirst dump t → IsShown dump t → IsPaused d h dump points t a → ((c : Cell) → contradicts_first d dump.bound run tables (dump.values t) a c ≡ false)
    → AreKnown d h dump tables t (started d dump.bound run tables (dump.values t) a)

-- a closing step without a contradiction keeps it that what is clear is sure
abbrev pub StepKnownLaw : Habit → Type 0
StepKnownLaw h =
    (d : Design) (dump : BoundDump) (run : Runs) (tables : Tables) (points : List Point) → IsReplayOf d h dump run tables points → HasOwnWakes d
    → (t : ℕ) (sets : Sets) (a : Replay) → IsWindow dump (suc t) → AreSets d h dump (suc t) sets
    → AreKnown d h dump tables t a → ((c : Cell) → contradicts (closing_at d dump run tables sets t a) c ≡ false)
    → AreKnown d h dump tables (suc t) (closed_at d dump run tables points sets t a)

-- so does a time that the dump does not list
abbrev pub RestKnownLaw : Type 0
RestKnownLaw =
    (d : Design) (h : Habit) (dump : BoundDump) (run : Runs) (tables : Tables) (points : List Point) → IsReplayOf d h dump run tables points
    → HasOwnWakes d → (t : ℕ) (a : Replay) → IsWindow dump (suc t) → (IsListed dump (suc t) → ⊥) → AreKnown d h dump tables t a
    → AreKnown d h dump tables (suc t) a

-- Marking laws: a closing step without a contradiction keeps it that what is reported is reasoned.
abbrev pub StepReasonedLaw : Habit → Type 0
StepReasonedLaw h =
    (d : Design) (dump : BoundDump) (run : Runs) (tables : Tables) (points : List Point) → IsReplayOf d h dump run tables points → HasOwnWakes d
    → (t : ℕ) (sets : Sets) (a : Replay) → IsWindow dump (suc t) → AreSets d h dump (suc t) sets
    → AreKnown d h dump tables t a → ((c : Cell) → contradicts (closing_at d dump run tables sets t a) c ≡ false) → AreReasoned d h dump t a
    → AreReasoned d h dump (suc t) (closed_at d dump run tables points sets t a)

-- so does a time that the dump does not list
abbrev pub RestReasonedLaw : Type 0
RestReasonedLaw =
    (d : Design) (h : Habit) (dump : BoundDump) (run : Runs) (tables : Tables) (points : List Point) → IsReplayOf d h dump run tables points
    → (t : ℕ) (a : Replay) → IsWindow dump (suc t) → (IsListed dump (suc t) → ⊥) → AreReasoned d h dump t a
    → AreReasoned d h dump (suc t) a

-- Forced laws: where there was no contradiction, no forced value differs from the dump's at the first step of a stretch.
abbrev pub FirstForcedLaw : Type 0
FirstForcedLaw =
    (d : Design) (h : Habit) (dump : BoundDump) (run : Runs) (tables : Tables) (points : List Point) → IsReplayOf d h dump run tables points
    → HasOwnWakes d → (t : ℕ) (a : Replay)
    → IsFirst dump t → IsShown dump t → IsPaused d h dump points t a → ((c : Cell) → contradicts_first d dump.bound run tables (dump.values t) a c ≡ false)
    → AreForced d h dump t

-- a closing step without a contradiction keeps it that no forced value differs
abbrev pub StepForcedLaw : Habit → Type 0
StepForcedLaw h =
    (d : Design) (dump : BoundDump) (run : Runs) (tables : Tables) (points : List Point) → IsReplayOf d h dump run tables points → HasOwnWakes d
    → (t : ℕ) (sets : Sets) (a : Replay) → IsWindow dump (suc t) → AreSets d h dump (suc t) sets
    → AreKnown d h dump tables t a → ((c : Cell) → contradicts (closing_at d dump run tables sets t a) c ≡ false) → AreForced d h dump t
    → AreForced d h dump (suc t)

-- so does a time that the dump does not list
abbrev pub RestForcedLaw : Type 0
RestForcedLaw =
    (d : Design) (h : Habit) (dump : BoundDump) (t : ℕ) → (IsListed dump (suc t) → ⊥) → AreForced d h dump t → AreForced d h dump (suc t)

-- Whole laws: where there was no contradiction, all this holds after the first step of a stretch.
abbrev pub FirstStandsLaw : Type 0
FirstStandsLaw =
    (d : Design) (h : Habit) (dump : BoundDump) (run : Runs) (tables : Tables) (points : List Point) → IsReplayOf d h dump run tables points
    → HasOwnWakes d → (t : ℕ) (a : Replay)
    → IsFirst dump t → IsShown dump t → IsPaused d h dump points t a → ((c : Cell) → contradicts_first d dump.bound run tables (dump.values t) a c ≡ false)
    → Stands d h dump tables points t (started d dump.bound run tables (dump.values t) a)

-- a closing step without a contradiction keeps all this
abbrev pub StepStandsLaw : Habit → Type 0
StepStandsLaw h =
    (d : Design) (dump : BoundDump) (run : Runs) (tables : Tables) (points : List Point) → IsReplayOf d h dump run tables points → HasOwnWakes d
    → (t : ℕ) (sets : Sets) (a : Replay) → IsWindow dump (suc t) → AreSets d h dump (suc t) sets
    → ((c : Cell) → contradicts (closing_at d dump run tables sets t a) c ≡ false) → Stands d h dump tables points t a
    → Stands d h dump tables points (suc t) (closed_at d dump run tables points sets t a)

-- so does a time that the dump does not list
abbrev pub RestStandsLaw : Type 0
RestStandsLaw =
    (d : Design) (h : Habit) (dump : BoundDump) (run : Runs) (tables : Tables) (points : List Point) → IsReplayOf d h dump run tables points
    → HasOwnWakes d → (t : ℕ) (a : Replay) → IsCalm d dump t → IsWindow dump (suc t) → (IsListed dump (suc t) → ⊥) → Stands d h dump tables points t a
    → Stands d h dump tables points (suc t) a

-- Contradiction law: where the replay contradicts, no run shows the dump up to that time.
abbrev pub ContradictionLaw : Habit → Type 0
ContradictionLaw h =
    (d : Design) (dump : BoundDump) (run : Runs) (tables : Tables) (points : List Point) → IsReplayOf d h dump run tables points
    → (t : ℕ) (sets : Sets) (a : Replay) (c : Cell) → IsWindow dump (suc t) → AreSets d h dump (suc t) sets → IsSound d h dump points t a
    → contradicts (closing_at d dump run tables sets t a) c ≡ true → (r : Run) → IsShowing d h dump (suc t) r
    → ⊥

-- where it contradicts at the first step of a stretch, no run shows the dump up to that time
abbrev pub FirstContradictionLaw : Type 0
FirstContradictionLaw =
    (d : Design) (h : Habit) (dump : BoundDump) (run : Runs) (tables : Tables) (points : List Point) → IsReplayOf d h dump run tables points
    → (t : ℕ) (a : Replay) (c : Cell) → IsFirst dump t → IsShown dump t → IsPaused d h dump points t a → contradicts_first d dump.bound run tables (dump.values t) a c ≡ true → (r : Run)
    → IsShowing d h dump t r
    → ⊥

-- what the verdicts hit and missed say of the runs that show the dump
pub record AreSoundVerdicts (d : Design) (h : Habit) (dump : BoundDump) (points : List Point) (a : Replay) : Type 0 where
  -- hit is hit, and missed is never hit, in every run that shows the dump
  pub hit : (x : Point) → IsVerdict d x a.notes Hit → (r : Run) → IsRun d h r → Shows d dump r → IsHit d dump r x
  pub missed : (x : Point) → In x points → IsVerdict d x a.notes Missed → (r : Run) → IsRun d h r → Shows d dump r → IsHit d dump r x → ⊥

-- what the doubts of verdicts say
pub record AreReasonedVerdicts (d : Design) (h : Habit) (dump : BoundDump) (points : List Point) (a : Replay) : Type 0 where
  -- an undetermined point has its doubt, and is hit in no such run at a time at which nothing is in doubt for it
  pub doubted : (x : Point) (y : Doubted) → IsVerdict d x a.notes (Undetermined y) → IsWindow dump y.time × IsInDoubt d h dump x y.time y.thing
  pub decided : (x : Point) (y : Doubted) → In x points → IsVerdict d x a.notes (Undetermined y) → (r : Run) → IsRun d h r → Shows d dump r → (t : ℕ)
      → IsWindow dump t → ((s : ℕ) → IsInDoubt d h dump x t s → ⊥) → IsHitAt d dump r x t
      → ⊥
  -- what is reached is hit
  pub reached : (t p : ℕ) (x : Point) → IsReached d h dump t p x → IsVerdict d x a.notes Hit

-- Verdict laws: where the replay is sound at a time that no window time is after, its verdicts are sound.
abbrev pub SoundVerdictLaw : Type 0
SoundVerdictLaw =
    (d : Design) (h : Habit) (dump : BoundDump) (points : List Point) (t : ℕ) (a : Replay) → ((u : ℕ) → IsWindow dump u → u ≤ t) → IsShown dump t
    → IsSound d h dump points t a
    → AreSoundVerdicts d h dump points a

-- where what it reports is reasoned too, so are its verdicts
abbrev pub ReasonedVerdictLaw : Type 0
ReasonedVerdictLaw =
    (d : Design) (h : Habit) (dump : BoundDump) (points : List Point) (t : ℕ) (a : Replay) → IsLawfulDesign d → IsAnyDumpOf d dump → AreLastRounds d dump
    → ((u : ℕ) → IsWindow dump u → u ≤ t) → IsShown dump t
    → IsSound d h dump points t a → AreReasoned d h dump t a
    → AreReasonedVerdicts d h dump points a

-- where a replay is paused at a time that no time of the window reaches, its verdicts are sound and reasoned
abbrev pub PausedVerdictLaw : Type 0
PausedVerdictLaw =
    (d : Design) (h : Habit) (dump : BoundDump) (points : List Point) (u : ℕ) (a : Replay) → IsLawfulDesign d → IsAnyDumpOf d dump → AreLastRounds d dump
    → ((v : ℕ) → IsWindow dump v → v < u) → IsPaused d h dump points u a
    → AreSoundVerdicts d h dump points a × AreReasonedVerdicts d h dump points a

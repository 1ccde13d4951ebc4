-- What holds at the times of the window that a dump does not list, be inputs bound or not.
use Rattle.std.specs.Prelude.{◌≡◌, ◌↔◌, ◌-◌, ℕ, suc, true, List}
use Rattle.event_machine.specs.Cell.{Cell, Values}
use Rattle.event_machine.specs.Habit.{Habit}
use Rattle.design_model.specs.four_state.declared.bit.Bit.{Bit}
use Rattle.design_model.specs.Design.{Design, Thing}
use Rattle.design_model.specs.Reads.{Agrees}
use Rattle.design_model.specs.Run.{Run, settled}
use Rattle.design_model.specs.Shows.{BoundDump, IsDumpOf, IsListed, IsShowing, IsWindow}
use Rattle.design_model.specs.StillLaw.{BindsInputs}
use Rattle.design_model.specs.StepLaws.{StepFacts}
use Rattle.design_model.specs.declared.point.Point.{Point}
use Rattle.design_model.specs.MayMove.{AreLastRounds, CanWakeAt, IsCleanAt, MayMoveAt}
use Rattle.design_model.specs.Clear.{clear}
use Rattle.design_model.specs.Open.{IsReached}
use Rattle.design_model.specs.Doubt.{IsInDoubt}
use Rattle.hidden_times.specs.Hidden.{IsAnyDumpOf, IsHiddenOn, IsSameTime, is_listed}

-- Listed law: the test is true exactly of the listed times.
abbrev pub ListedLaw : Type 0
ListedLaw = (dump : BoundDump) (t : ℕ) → (is_listed dump t ≡ true) ↔ IsListed dump t

-- Dump law: a dump of a design is one that may lack inputs and has them all.
abbrev pub AnyDumpLaw : Design → Type 0
AnyDumpLaw d = (dump : BoundDump) → IsDumpOf d dump ↔ (IsAnyDumpOf d dump × BindsInputs d dump)

-- Values law: at hidden times the dump's values are those at the first of them, and the moment before too.
abbrev pub SameValuesLaw : Design → Type 0
SameValuesLaw d =
    (dump : BoundDump) → IsAnyDumpOf d dump → (t v : ℕ) → IsHiddenOn dump t v → (dump.values v ≡ dump.values t) × (dump.values (v - 1) ≡ dump.values (t - 1))

-- No-clean law: at a hidden time no block is clean, since what is known of an event signal is no edge.
abbrev pub NoCleanLaw : Design → Type 0
NoCleanLaw d =
    (dump : BoundDump) → IsAnyDumpOf d dump → (t : ℕ) → IsWindow dump t → (IsListed dump t → ⊥) → (p : ℕ) (c : Cell) → IsCleanAt d dump t p c → ⊥

-- No-reach law: and no block reaches a point.
abbrev pub NoReachLaw : Design → Habit → Type 0
NoReachLaw d h =
    (dump : BoundDump) → IsAnyDumpOf d dump → (t : ℕ) → IsWindow dump t → (IsListed dump t → ⊥) → (p : ℕ) (x : Point) → IsReached d h dump t p x → ⊥

-- Shrink law: what is clear at a hidden time was clear the moment before. Some state must agree with what was clear then.
abbrev pub ShrinkLaw : Design → Habit → Type 0
ShrinkLaw d h =
    (dump : BoundDump) → IsAnyDumpOf d dump → (t : ℕ) → IsWindow dump (suc t) → (IsListed dump (suc t) → ⊥)
    → (v : Values Bit) → Agrees d (clear d h dump t) v
    → (x : Thing) (bits : List Bit) → clear d h dump (suc t) x bits → clear d h dump t x bits

-- Round law: the hidden times between two listed ones have the same last round.
abbrev pub SameRoundLaw : Design → Type 0
SameRoundLaw d =
    (dump : BoundDump) → IsAnyDumpOf d dump → AreLastRounds d dump → (t v : ℕ) → IsHiddenOn dump t v → dump.round v ≡ dump.round t

-- at v the same may move and can wake as at t
pub record AreSameSets (d : Design) (dump : BoundDump) (t v : ℕ) : Type 0 where
  pub may_move : (x : ℕ) → MayMoveAt d dump v x ↔ MayMoveAt d dump t x
  pub can_wake : (c : Cell) (p : ℕ) → CanWakeAt d dump v c p ↔ CanWakeAt d dump t c p

-- Sets law: so the same may move and can wake at them.
abbrev pub SameSetsLaw : Design → Type 0
SameSetsLaw d =
    (dump : BoundDump) → IsAnyDumpOf d dump → AreLastRounds d dump → (t v : ℕ) → IsHiddenOn dump t v → AreSameSets d dump t v

-- Clear law: and the same is clear at them. Some state must agree with what is clear at the first.
abbrev pub SameClearLaw : Design → Habit → Type 0
SameClearLaw d h =
    (dump : BoundDump) → IsAnyDumpOf d dump → AreLastRounds d dump → (t v : ℕ) → IsHiddenOn dump t v
    → (w : Values Bit) → Agrees d (clear d h dump t) w
    → (x : Thing) (bits : List Bit) → clear d h dump v x bits ↔ clear d h dump t x bits

-- Jump law: over a window time and the hidden times that are the same time the settled values change as over one step.
abbrev pub JumpLaw : Design → Habit → Type 0
JumpLaw d h =
    (dump : BoundDump) → IsAnyDumpOf d dump → AreLastRounds d dump → (r : Run) (t v : ℕ) → IsWindow dump (suc t) → IsSameTime dump (suc t) v → IsShowing d h dump v r
    → StepFacts d h dump t (settled d r t) (settled d r v)

-- Doubt law: where a signal or memory is in doubt for a point at a hidden time, it cannot be that none is at a later hidden time.
abbrev pub SameDoubtLaw : Design → Habit → Type 0
SameDoubtLaw d h =
    (dump : BoundDump) → IsAnyDumpOf d dump → AreLastRounds d dump → (r : Run) (t v : ℕ) → IsHiddenOn dump t v → IsShowing d h dump v r
    → (x : Point) (s : ℕ) → IsInDoubt d h dump x t s → ((q : ℕ) → IsInDoubt d h dump x v q → ⊥)
    → ⊥

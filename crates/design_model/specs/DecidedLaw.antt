-- A point for which nothing is in doubt at a time is hit then in each run that shows the dump, or in none.
use Rattle.std.specs.Prelude.{◌≡◌, ◌≢◌, ◌<◌, ℕ, true, ⊤}
use Rattle.event_machine.specs.Habit.{Habit}
use Rattle.design_model.specs.Design.{Design, IsClocked, IsThing, a_word, process_at, signal_at}
use Rattle.design_model.specs.Machine.{is_level}
use Rattle.design_model.specs.Run.{IsRun, Run}
use Rattle.design_model.specs.Shows.{BoundDump, IsDumpOf, IsWindow, Shows}
use Rattle.design_model.specs.Points.{IsBlock, IsHitAt, Point, arc_point, line_point, logic_point, state_point, toggle_point, word_point}
use Rattle.design_model.specs.Clear.{IsSignal}
use Rattle.design_model.specs.Open.{IsNotClocked}
use Rattle.design_model.specs.Doubt.{IsInDoubt}

-- at a window time at which nothing is in doubt for the point, it is not hit in one run that shows the dump and not hit in another.
-- 'Hit in both or in neither' would ask to decide what is clear and early; this says the same, as the proof needs it that a hit is marked
abbrev pub IsDecided : Design → Habit → Point → Type 0
IsDecided d h x =
    (dump : BoundDump) (r q : Run) → IsDumpOf d dump → IsRun d h r → IsRun d h q → Shows d dump r → Shows d dump q
    → (t : ℕ) → IsWindow dump t → ((s : ℕ) → IsInDoubt d h dump x t s → ⊥)
    → IsHitAt d dump r x t → (IsHitAt d dump q x t → ⊥) → ⊥

-- a toggle or state point of a signal with bits, or an arc between two different values
abbrev pub IsSignalPoint : Design → Point → Type 0
IsSignalPoint d (toggle_point s i rise) = 0 < (signal_at d s).width
IsSignalPoint d (state_point i name s state x) = ⊤
IsSignalPoint d (arc_point i name s from to x y) = x.bits ≢ y.bits
IsSignalPoint d _ = ⊥

-- Decided law of signals: such a point is decided where nothing is in doubt for it.
abbrev pub SignalDecidedLaw : Design → Habit → Type 0
SignalDecidedLaw d h = (x : Point) → IsSignalPoint d x → IsDecided d h x

-- a line or logic point, or one of a word of the design
abbrev pub IsBlockPoint : Design → Point → Type 0
IsBlockPoint d (line_point p n at w) = ⊤
IsBlockPoint d (logic_point p n at op c) = ⊤
IsBlockPoint d (word_point m i w) = IsThing d (a_word m i)
IsBlockPoint d _ = ⊥

-- each block of the point is a Clocked
abbrev pub HasClockedBlocks : Design → Point → Type 0
HasClockedBlocks d x = (p : ℕ) → IsBlock d x p → IsClocked (process_at d p)

-- Decided law of Clocked blocks: such a point with Clocked blocks alone is decided where nothing is in doubt for it.
abbrev pub ClockedDecidedLaw : Design → Habit → Type 0
ClockedDecidedLaw d h = (x : Point) → IsBlockPoint d x → HasClockedBlocks d x → IsDecided d h x

-- an Assign or Comb that is sensitive to signals alone
pub record IsSignalBlock (d : Design) (p : ℕ) : Type 0 where
  pub not_clocked : IsNotClocked d p
  pub signals : (y : ℕ) → is_level (process_at d p) y ≡ true → IsSignal d y

-- each block of the point is such a one
abbrev pub HasSignalBlocks : Design → Point → Type 0
HasSignalBlocks d x = (p : ℕ) → IsBlock d x p → IsSignalBlock d p

-- Decided law of Assigns and Combs: a point with such blocks alone is decided where nothing is in doubt for it.
abbrev pub SettledDecidedLaw : Design → Habit → Type 0
SettledDecidedLaw d h = (x : Point) → IsBlockPoint d x → HasSignalBlocks d x → IsDecided d h x

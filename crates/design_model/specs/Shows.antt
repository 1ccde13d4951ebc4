-- What a dump says of a design, which runs show it, and its window (IEEE 1364-2001, clause 18).
-- A dump may go off and on. What it says in between is a stretch, and the window is the steps inside the stretches.
use Rattle.std.specs.Prelude.{◌≡◌, ◌⊎◌, ◌<◌, ◌≤◌, ◌∷◌, ℕ, suc, Bool, true, List, [], length, ⊤}
use Rattle.event_machine.specs.Cell.{Cell, Values}
use Rattle.event_machine.specs.Habit.{Habit}
use Rattle.four_state.specs.declared.bit.Bit.{Bit}
use Rattle.design_model.specs.Design.{Design, In, signal_bits}
use Rattle.design_model.specs.Machine.{machine}
use Rattle.design_model.specs.Run.{IsRun, Run, StepOf, settled}

-- what a dump says of a design under a binding, and by which round of single cells each of its steps is judged
pub record BoundDump : Type 0 where
  pub stretches : List (List ℕ)  -- the listed times of each stretch
  pub bound : ℕ → Bool  -- the signals that are bound
  pub values : ℕ → Values Bit  -- their values at each time
  pub round : ℕ → ℕ  -- the round for the step at each time

-- the times rise
abbrev pub AreRising : List ℕ → Type 0
AreRising [] = ⊤
AreRising (t ∷ []) = ⊤
AreRising (t ∷ u ∷ us) = (t < u) × AreRising (u ∷ us)

-- each time of one list is at or before each of the other
abbrev pub AreBefore : List ℕ → List ℕ → Type 0
AreBefore ts us = (t u : ℕ) → In t ts → In u us → t ≤ u

-- the times are not after those of any of these stretches
abbrev pub AreBeforeAll : List ℕ → List (List ℕ) → Type 0
AreBeforeAll ts [] = ⊤
AreBeforeAll ts (us ∷ uss) = AreBefore ts us × AreBeforeAll ts uss

-- the times of each stretch rise, and none of a later one is before them
abbrev pub AreStretches : List (List ℕ) → Type 0
AreStretches [] = ⊤
AreStretches (ts ∷ []) = AreRising ts
AreStretches (ts ∷ us ∷ tss) = AreRising ts × AreBeforeAll ts (us ∷ tss) × AreStretches (us ∷ tss)

-- it holds of one of these lists; of a single one it is that this holds of it
abbrev pub InSome : (List ℕ → Type 0) → List (List ℕ) → Type 0
InSome P [] = ⊥
InSome P (ts ∷ []) = P ts
InSome P (ts ∷ us ∷ tss) = P ts ⊎ InSome P (us ∷ tss)

-- a stretch lists the time
abbrev pub IsListed : BoundDump → ℕ → Type 0
IsListed p t = InSome (In t) p.stretches

-- only signals are bound
abbrev pub BindsSignals : Design → BoundDump → Type 0
BindsSignals d p = (s : ℕ) → p.bound s ≡ true → s < length d.signals

-- the times rise, only signals are bound, every input is, and between listed times the dump's values stay
pub record IsDumpOf (d : Design) (p : BoundDump) : Type 0 where
  pub rising : AreStretches p.stretches
  pub signals : BindsSignals d p
  pub inputs : (c : Cell) → (machine d).is_input c ≡ true → p.bound c.thing ≡ true
  pub stays : (t : ℕ) → (IsListed p (suc t) → ⊥) → p.values (suc t) ≡ p.values t

-- the last of these times
abbrev pub last_time : ℕ → List ℕ → ℕ
last_time t [] = t
last_time t (u ∷ us) = last_time u us

-- the time is the first of these
abbrev pub IsFirstOf : List ℕ → ℕ → Type 0
IsFirstOf [] t = ⊥
IsFirstOf (u ∷ us) t = t ≡ u

-- the time is the first of a stretch
abbrev pub IsFirst : BoundDump → ℕ → Type 0
IsFirst p t = InSome (λ ts. IsFirstOf ts t) p.stretches

-- from the first time on and before the last
abbrev pub IsShownOf : List ℕ → ℕ → Type 0
IsShownOf [] t = ⊥
IsShownOf (u ∷ us) t = (u ≤ t) × (t < last_time u us)

-- the time is from the first of a stretch on and before its last
abbrev pub IsShown : BoundDump → ℕ → Type 0
IsShown p t = InSome (λ ts. IsShownOf ts t) p.stretches

-- no time after t and before u is shown
abbrev pub NoneShown : BoundDump → ℕ → ℕ → Type 0
NoneShown p t u = (v : ℕ) → t < v → v < u → IsShown p v → ⊥

-- after the first time and before the last
abbrev pub IsWindowOf : List ℕ → ℕ → Type 0
IsWindowOf [] t = ⊥
IsWindowOf (u ∷ us) t = (u < t) × (t < last_time u us)

-- the time is after the first of a stretch and before its last
abbrev pub IsWindow : BoundDump → ℕ → Type 0
IsWindow p t = InSome (λ ts. IsWindowOf ts t) p.stretches

-- the run starts at the dump's first time: the first of the first stretch that has one
abbrev pub StartsAt : List (List ℕ) → ℕ → Type 0
StartsAt [] t = ⊤
StartsAt ([] ∷ tss) t = StartsAt tss t
StartsAt ((u ∷ us) ∷ tss) t = t ≡ u

-- the settled value of each bound signal is the dump's
abbrev pub SameBound : Design → BoundDump → Values Bit → ℕ → Type 0
SameBound d p v t = (s : ℕ) → p.bound s ≡ true → signal_bits d v s ≡ signal_bits d (p.values t) s

-- the run shows the dump up to a time
pub record ShowsUpTo (d : Design) (p : BoundDump) (r : Run) (end : ℕ) : Type 0 where
  pub starts : StartsAt p.stretches r.begins
  pub shows : (t : ℕ) → IsShown p t → t ≤ end → SameBound d p (settled d r t) t

-- the run shows the dump
pub record Shows (d : Design) (p : BoundDump) (r : Run) : Type 0 where
  pub starts : StartsAt p.stretches r.begins
  pub shows : (t : ℕ) → IsShown p t → SameBound d p (settled d r t) t

-- a run of the design that shows the dump up to a time
pub record IsShowing (d : Design) (h : Habit) (dump : BoundDump) (t : ℕ) (r : Run) : Type 0 where
  pub is_run : IsRun d h r
  pub shows : ShowsUpTo d dump r t

-- no run of the design shows the dump up to this time
abbrev pub IsContradicted : Design → Habit → BoundDump → ℕ → Type 0
IsContradicted d h dump t = (r : Run) → IsShowing d h dump t r → ⊥

-- a step of the window
abbrev pub InWindow : BoundDump → (r : Run) → StepOf r → Type 0
InWindow p r k = IsWindow p k.step.time

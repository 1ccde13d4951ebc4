-- Doubt: why a point may be left undetermined.
use Rattle.std.specs.Prelude.{◌≡◌, ◌≢◌, ◌⊎◌, ℕ, true}
use Rattle.event_machine.specs.Cell.{Cell}
use Rattle.event_machine.specs.Habit.{Habit}
use Rattle.design_model.specs.Design.{Design, IsComb, IsThing, Thing, a_signal, a_word, body_at, cell, owner, process_at}
use Rattle.design_model.specs.Mentions.{body_assigns, body_mentions}
use Rattle.design_model.specs.Paths.{reads_signal_before_writing}
use Rattle.design_model.specs.Reads.{HasValue, ReadsFrom}
use Rattle.design_model.specs.Machine.{is_level}
use Rattle.design_model.specs.Shows.{BoundDump, IsListed, IsWindow}
use Rattle.design_model.specs.Points.{IsBlock, Point, arc_point, state_point, toggle_point}
use Rattle.design_model.specs.MayMove.{CanWakeAt, CanWakeSome, IsCleanAt, MayMoveAt}
use Rattle.design_model.specs.Early.{IsEarlyAt}
use Rattle.design_model.specs.Clear.{clear, clear_before}
use Rattle.design_model.specs.Open.{IsNotClean, IsNotClocked, IsOpenFor, IsWakeBit, KnownAtEnd, KnownOnEntry}

-- x is not clear at the start or the end of t
abbrev pub IsUnclear : Design → Habit → BoundDump → ℕ → Thing → Type 0
IsUnclear d h dump t x = (HasValue (clear_before d h dump t) x → ⊥) ⊎ (HasValue (clear d h dump t) x → ⊥)

-- t is listed, or s may move then
abbrev pub MayMoveUnlisted : Design → BoundDump → ℕ → ℕ → Type 0
MayMoveUnlisted d dump t s = IsListed dump t ⊎ MayMoveAt d dump t s

-- t is listed, or a thing to which the block is sensitive may move then
abbrev pub MayWakeUnlisted : Design → BoundDump → ℕ → ℕ → Type 0
MayWakeUnlisted d dump t p = IsListed dump t ⊎ ((s : ℕ) × (is_level (process_at d p) s ≡ true) × MayMoveAt d dump t s)

-- a toggle or fsm point on s
abbrev pub IsPointOn : Point → ℕ → Type 0
IsPointOn (toggle_point s i rise) q = s ≡ q
IsPointOn (state_point i name s state x) q = s ≡ q
IsPointOn (arc_point i name s from to x y) q = s ≡ q
IsPointOn _ q = ⊥

-- the block can wake, and reads from what it knows on entry a thing of s that is not its trigger and was not clear at the start
pub record UnclearAtStart (d : Design) (h : Habit) (dump : BoundDump) (t s p : ℕ) : Type 0 where
  pub thing : Thing
  pub is_thing : IsThing d thing
  pub of_owner : owner thing ≡ s
  pub can_wake : CanWakeSome d dump t p
  pub is_read : ReadsFrom d (KnownOnEntry d h dump t p) (body_at d p) thing
  pub no_trigger : (c : Cell) → IsCleanAt d dump t p c → thing ≢ a_signal c.thing
  pub unclear : HasValue (clear_before d h dump t) thing → ⊥

-- the block is clean, and reads from what it knows on entry a thing of s, which is early for its trigger
pub record IsReadEarly (d : Design) (h : Habit) (dump : BoundDump) (t s p : ℕ) : Type 0 where
  pub thing : Thing
  pub trigger : Cell
  pub of_owner : owner thing ≡ s
  pub is_clean : IsCleanAt d dump t p trigger
  pub is_read : ReadsFrom d (KnownOnEntry d h dump t p) (body_at d p) thing
  pub is_early : IsEarlyAt d h dump t p trigger s

-- s is an event signal that can wake the block, which is not clean
pub record WakesUnclean (d : Design) (dump : BoundDump) (t s p : ℕ) : Type 0 where
  pub event : Cell
  pub of_signal : event.thing ≡ s
  pub can_wake : CanWakeAt d dump t event p
  pub not_clean : IsNotClean d dump t p

-- the block is an Assign or Comb that may wake, and signal s has a wake bit of it and is not clear at the start or the end
pub record IsUnclearSignal (d : Design) (h : Habit) (dump : BoundDump) (t s p : ℕ) : Type 0 where
  pub place : ℕ
  pub not_clocked : IsNotClocked d p
  pub may_wake : MayWakeUnlisted d dump t p
  pub wake_bit : IsWakeBit d p (cell s place)
  pub unclear : IsUnclear d h dump t (a_signal s)

-- the block is an Assign or Comb that may wake and mentions memory s, and a word of s that it reads, or that may have changed, is not clear at the start or the end
pub record IsUnclearWord (d : Design) (h : Habit) (dump : BoundDump) (t s p : ℕ) : Type 0 where
  pub word : ℕ
  pub not_clocked : IsNotClocked d p
  pub may_wake : MayWakeUnlisted d dump t p
  pub mentioned : body_mentions s (body_at d p) ≡ true
  pub is_thing : IsThing d (a_word s word)
  pub unclear : IsUnclear d h dump t (a_word s word)
  pub read_or_moves : ReadsFrom d (KnownAtEnd d h dump t p) (body_at d p) (a_word s word) ⊎ MayMoveAt d dump t s

-- the block is a Comb that may wake and reads its target s before writing it
pub record ReadsOwnTarget (d : Design) (dump : BoundDump) (t s p : ℕ) : Type 0 where
  pub is_comb : IsComb (process_at d p)
  pub may_wake : MayWakeUnlisted d dump t p
  pub target : body_assigns s (body_at d p) ≡ true
  pub reads_first : reads_signal_before_writing d (body_at d p) s ≡ true

-- why signal or memory s is in doubt for block p at t
pub data BlockDoubt (d : Design) (h : Habit) (dump : BoundDump) (t : ℕ) (s p : ℕ) : Type 0 where
  unclear_at_start : UnclearAtStart d h dump t s p → BlockDoubt d h dump t s p
  read_early : IsReadEarly d h dump t s p → BlockDoubt d h dump t s p
  not_clean : WakesUnclean d dump t s p → BlockDoubt d h dump t s p
  unclear_signal : IsUnclearSignal d h dump t s p → BlockDoubt d h dump t s p
  unclear_word : IsUnclearWord d h dump t s p → BlockDoubt d h dump t s p
  own_target : ReadsOwnTarget d dump t s p → BlockDoubt d h dump t s p

-- signal or memory s is in doubt for the point at window time t
pub data IsInDoubt (d : Design) (h : Habit) (dump : BoundDump) (x : Point) (t : ℕ) (s : ℕ) : Type 0 where
  of_block : (p : ℕ) → IsWindow dump t → IsBlock d x p → IsOpenFor d h dump t p x → BlockDoubt d h dump t s p → IsInDoubt d h dump x t s
  of_signal : IsWindow dump t → IsPointOn x s → MayMoveUnlisted d dump t s → IsUnclear d h dump t (a_signal s) → IsInDoubt d h dump x t s

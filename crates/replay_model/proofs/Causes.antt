-- The causes of doubt for a block, by their parts.
use Rattle.std.proofs.Common.{◌≡◌, ◌≢◌, ◌⊎◌, ℕ, true}
use Rattle.event_machine.specs.Cell.{Cell}
use Rattle.event_machine.specs.Habit.{Habit}
use Rattle.design_model.specs.Design.{Design, IsComb, IsThing, Thing, a_signal, a_word, body_at, cell, owner, process_at}
use Rattle.design_model.specs.Mentions.{body_assigns, body_mentions}
use Rattle.design_model.specs.Paths.{reads_signal_before_writing}
use Rattle.design_model.specs.Reads.{HasValue, ReadsFrom}
use Rattle.design_model.specs.Shows.{BoundDump}
use Rattle.design_model.specs.MayMove.{CanWakeAt, CanWakeSome, IsCleanAt, MayMoveAt}
use Rattle.design_model.specs.Early.{IsEarlyAt}
use Rattle.design_model.specs.Clear.{clear_before}
use Rattle.design_model.specs.Doubt.{BlockDoubt, IsUnclear, MayWakeUnlisted, read_early, not_clean, own_target, unclear_at_start, unclear_signal, unclear_word}
use Rattle.design_model.specs.Open.{IsNotClean, IsNotClocked, IsWakeBit, KnownAtEnd, KnownOnEntry}

module _ {d : Design} {h : Habit} {dump : BoundDump} {t s p : ℕ} where
  pub doubt_at_start : (x : Thing) → IsThing d x → owner x ≡ s → CanWakeSome d dump t p → ReadsFrom d (KnownOnEntry d h dump t p) (body_at d p) x → ((c : Cell) → IsCleanAt d dump t p c → x ≢ a_signal c.thing) → (HasValue (clear_before d h dump t) x → ⊥) → BlockDoubt d h dump t s p
  doubt_at_start x is_thing own wakes reads apart unclear = unclear_at_start (record { thing = x; is_thing = is_thing; of_owner = own; can_wake = wakes; is_read = reads; no_trigger = apart; unclear = unclear })

  pub doubt_early : (x : Thing) (c : Cell) → owner x ≡ s → IsCleanAt d dump t p c → ReadsFrom d (KnownOnEntry d h dump t p) (body_at d p) x → IsEarlyAt d h dump t p c s → BlockDoubt d h dump t s p
  doubt_early x c own clean reads is_early = read_early (record { thing = x; trigger = c; of_owner = own; is_clean = clean; is_read = reads; is_early = is_early })

  pub doubt_unclean : (c : Cell) → c.thing ≡ s → CanWakeAt d dump t c p → IsNotClean d dump t p → BlockDoubt d h dump t s p
  doubt_unclean c at wakes unclean = not_clean (record { event = c; of_signal = at; can_wake = wakes; not_clean = unclean })

  pub doubt_signal : (n : ℕ) → IsNotClocked d p → MayWakeUnlisted d dump t p → IsWakeBit d p (cell s n) → IsUnclear d h dump t (a_signal s) → BlockDoubt d h dump t s p
  doubt_signal n settles wakes bit unclear = unclear_signal (record { place = n; not_clocked = settles; may_wake = wakes; wake_bit = bit; unclear = unclear })

  pub doubt_word : (i : ℕ) → IsNotClocked d p → MayWakeUnlisted d dump t p → body_mentions s (body_at d p) ≡ true → IsThing d (a_word s i) → IsUnclear d h dump t (a_word s i) → ReadsFrom d (KnownAtEnd d h dump t p) (body_at d p) (a_word s i) ⊎ MayMoveAt d dump t s → BlockDoubt d h dump t s p
  doubt_word i settles wakes mentioned is_thing unclear moves = unclear_word (record { word = i; not_clocked = settles; may_wake = wakes; mentioned = mentioned; is_thing = is_thing; unclear = unclear; read_or_moves = moves })

  pub doubt_own : IsComb (process_at d p) → MayWakeUnlisted d dump t p → body_assigns s (body_at d p) ≡ true → reads_signal_before_writing d (body_at d p) s ≡ true → BlockDoubt d h dump t s p
  doubt_own comb wakes mine first = own_target (record { is_comb = comb; may_wake = wakes; target = mine; reads_first = first })

-- The places of a mask are the wake cells of a process.
use Rattle.std.specs.Prelude.{◌≡◌, ◌<◌, ◌&&◌, ◌||◌, ℕ, Bool, not, length}
use Rattle.std.specs.List.{list_all, list_any, range_with_len}
use Rattle.event_machine.specs.Cell.{Cell}
use Rattle.four_state.specs.Masks.{is_set}
use Rattle.design_model.specs.Design.{Design, body_at, cell, signal_at}
use Rattle.design_model.specs.Mentions.{blocking_target, body_mentions}
use Rattle.process_order.specs.replay_model.Step.{wake_cells}
use Rattle.wake_bits.specs.Wakes.{IsWake}
use Rattle.wake_bits.specs.declared.wakes.Wake.{Wake}

-- the places of the thing that process p watches
abbrev pub IsWakeOf : Design → ℕ → Wake → Type 0
IsWakeOf d p w = IsWake d (blocking_target d (body_at d p)) (λ x. body_mentions x (body_at d p)) w

-- some wake cell of a signal passes a test where some place of the mask does
abbrev pub SomeWakeLaw : Design → Type 0
SomeWakeLaw d =
    (p : ℕ) (w : Wake) (test : Cell → Bool) → IsWakeOf d p w → w.thing < length d.signals
    → list_any test (wake_cells d p w.thing) ≡ list_any (λ k. is_set w.mask k && test (cell w.thing k)) (range_with_len 0 (signal_at d w.thing).width)

-- each does where each place of the mask does
abbrev pub EachWakeLaw : Design → Type 0
EachWakeLaw d =
    (p : ℕ) (w : Wake) (test : Cell → Bool) → IsWakeOf d p w → w.thing < length d.signals
    → list_all test (wake_cells d p w.thing) ≡ list_all (λ k. not (is_set w.mask k) || test (cell w.thing k)) (range_with_len 0 (signal_at d w.thing).width)

-- What agrees with what a clean block knows on entry, for a design without memories.
use Rattle.std.proofs.Common.{◌≡◌, ◌≢◌, inl, inr, ℕ, ◌-◌, ◌<◌, List, length, sym, ap, subst, ◌∙◌}
use Rattle.event_machine.specs.Cell.{Cell, Values}
use Rattle.event_machine.specs.Habit.{Habit}
use Rattle.four_state.specs.declared.bit.Bit.{Bit}
use Rattle.design_model.specs.Design.{Design, IsThing, Thing, a_signal, a_word, signal_bits, thing_bits}
use Rattle.design_model.specs.Reads.{Agrees}
use Rattle.design_model.specs.Shows.{BoundDump}
use Rattle.design_model.specs.MayMove.{IsCleanAt}
use Rattle.design_model.specs.Early.{IsEarlyAt}
use Rattle.design_model.specs.Clear.{EntryFrom, clear, clear_before}
use Rattle.design_model.specs.Open.{KnownAtEnd, KnownOnEntry}
use Rattle.design_model.proofs.Bound.{clear-thing}

module _ (d : Design) (h : Habit) (dump : BoundDump) (t p : ℕ) (c : Cell) (only : (e : Cell) → IsCleanAt d dump t p e → e ≡ c) (v : Values Bit) (no_words : (m i : ℕ) → IsThing d (a_word m i) → ⊥) where
  -- the trigger is new, and each other signal that is clear and not early is as it was
  pub on_entry : signal_bits d v c.thing ≡ signal_bits d (dump.values t) c.thing → ((s : ℕ) → s < length d.signals → s ≢ c.thing → (IsEarlyAt d h dump t p c s → ⊥) → (bits : List Bit) → clear d h dump (t - 1) (a_signal s) bits → signal_bits d v s ≡ bits) → Agrees d (KnownOnEntry d h dump t p) v
  on_entry new others x bits k = go x (subst (λ e. EntryFrom d h dump t (clear_before d h dump t) p e x bits) (only k.0 k.1) k.2)
    where
      go : (x : Thing) → EntryFrom d h dump t (clear_before d h dump t) p c x bits → thing_bits d v x ≡ bits
      go x (inl now) = subst (λ z. thing_bits d v z ≡ bits) (sym now.0) (new ∙ ap (λ z. thing_bits d (dump.values t) z) (sym now.0) ∙ sym now.1)
      go (a_signal s) (inr old) = others s (clear-thing d h dump (t - 1) (a_signal s) bits old.2) (λ e. old.0 (ap a_signal e)) old.1 bits old.2
      go (a_word m i) (inr old) = absurd (no_words m i (clear-thing d h dump (t - 1) (a_word m i) bits old.2))

-- each signal that is clear has its value
pub at_end : (d : Design) (h : Habit) (dump : BoundDump) (t p : ℕ) (v : Values Bit) → ((m i : ℕ) → IsThing d (a_word m i) → ⊥) → ((s : ℕ) → s < length d.signals → (bits : List Bit) → clear d h dump t (a_signal s) bits → signal_bits d v s ≡ bits) → Agrees d (KnownAtEnd d h dump t p) v
at_end d h dump t p v no_words signals (a_signal s) bits k = signals s (clear-thing d h dump t (a_signal s) bits k.1) bits k.1
at_end d h dump t p v no_words signals (a_word m i) bits k = absurd (no_words m i (clear-thing d h dump t (a_word m i) bits k.1))

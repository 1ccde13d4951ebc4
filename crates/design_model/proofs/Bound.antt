-- What is clear of a bound signal is the dump's value.
use Rattle.std.proofs.Common.{◌≡◌, refl, sym, ap, subst, ◌∙◌, ℕ, zero, suc, true, List}
use Rattle.std.proofs.lemmas.Bool.{both_ways}
use Rattle.event_machine.specs.Habit.{Habit}
use Rattle.four_state.specs.declared.bit.Bit.{Bit}
use Rattle.design_model.specs.Design.{Design, IsThing, Thing, a_signal, a_word, signal_bits, thing_bits}
use Rattle.design_model.specs.Reads.{PartialMap}
use Rattle.design_model.specs.Shows.{BoundDump}
use Rattle.design_model.specs.Clear.{IsClearBy, IsUnbound, clear, clear_in, of_assigns, of_clean, of_comb, of_dump, of_unwoken}
use Rattle.design_model.specs.Lawful.{is_signal}

abbrev IsBoundThing : BoundDump → Thing → Type 0
IsBoundThing dump (a_signal s) = dump.bound s ≡ true
IsBoundThing dump (a_word m i) = Unit {0}

by_bound : (d : Design) (h : Habit) (dump : BoundDump) (t : ℕ) (start K : PartialMap) (x : Thing) (bits : List Bit) → IsClearBy d h dump t start K x bits → (s : ℕ) → x ≡ a_signal s → dump.bound s ≡ true → bits ≡ signal_bits d (dump.values t) s
by_bound d h dump t start K x bits (of_dump s w0 is_shown is_bound is_signal is) q e b = is ∙ ap (λ y. thing_bits d (dump.values t) y) e
by_bound d h dump t start K x bits (of_assigns s w0 unbound is) q e b = absurd (both_ways (dump.bound s) unbound (subst (IsBoundThing dump) (sym e) b))
by_bound d h dump t start K x bits (of_comb p s w0 unbound is) q e b = absurd (both_ways (dump.bound s) unbound (subst (IsBoundThing dump) (sym e) b))
by_bound d h dump t start K x bits (of_unwoken p x0 w0 w unbound target still old) q e b = absurd (both_ways (dump.bound q) (subst (IsUnbound dump) e unbound) b)
by_bound d h dump t start K x bits (of_clean p c x0 w0 w unbound is) q e b = absurd (both_ways (dump.bound q) (subst (IsUnbound dump) e unbound) b)

pub in_bound : (d : Design) (h : Habit) (dump : BoundDump) (t : ℕ) (start : PartialMap) (n s : ℕ) (bits : List Bit) → clear_in d h dump t start n (a_signal s) bits → dump.bound s ≡ true → bits ≡ signal_bits d (dump.values t) s
in_bound d h dump t start zero s bits k b = absurd k
in_bound d h dump t start (suc n) s bits k b = by_bound d h dump t start (clear_in d h dump t start n) (a_signal s) bits k s refl b

pub clear_bound : (d : Design) (h : Habit) (dump : BoundDump) (t s : ℕ) (bits : List Bit) → clear d h dump t (a_signal s) bits → dump.bound s ≡ true → bits ≡ signal_bits d (dump.values t) s
clear_bound d h dump zero s bits k b = in_bound d h dump zero _ k.0 s bits k.1 b
clear_bound d h dump (suc t) s bits k b = in_bound d h dump (suc t) _ k.0 s bits k.1 b

-- only things of the design are clear
by_thing : (d : Design) (h : Habit) (dump : BoundDump) (t : ℕ) (start K : PartialMap) (x : Thing) (bits : List Bit) → IsClearBy d h dump t start K x bits → IsThing d x
by_thing d h dump t start K x bits (of_dump s w0 is_shown is_bound is_signal is) = is_signal
by_thing d h dump t start K x bits (of_assigns s w0 unbound is) = is.is_signal
by_thing d h dump t start K x bits (of_comb p s w0 unbound is) = is.is_signal
by_thing d h dump t start K x bits (of_unwoken p x0 w0 w unbound target still old) = target.is_thing
by_thing d h dump t start K x bits (of_clean p c x0 w0 w unbound is) = is.writer.is_thing

pub clear_in-thing : (d : Design) (h : Habit) (dump : BoundDump) (t : ℕ) (start : PartialMap) (n : ℕ) (x : Thing) (bits : List Bit) → clear_in d h dump t start n x bits → IsThing d x
clear_in-thing d h dump t start zero x bits k = absurd k
clear_in-thing d h dump t start (suc n) x bits k = by_thing d h dump t start (clear_in d h dump t start n) x bits k

pub clear-thing : (d : Design) (h : Habit) (dump : BoundDump) (t : ℕ) (x : Thing) (bits : List Bit) → clear d h dump t x bits → IsThing d x
clear-thing d h dump zero x bits k = clear_in-thing d h dump zero _ k.0 x bits k.1
clear-thing d h dump (suc t) x bits k = clear_in-thing d h dump (suc t) _ k.0 x bits k.1

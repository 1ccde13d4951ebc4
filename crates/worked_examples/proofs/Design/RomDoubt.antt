-- No process writes the memory, so no rule gives a word of it a value.
use Rattle.std.proofs.Common.{refl, sym, inl, inr, ℕ, zero, suc, true, [], ◌∷◌, List, arith, lit<, lit≤}
use Rattle.std.specs.Prelude.{codes}
use Rattle.std.proofs.lemmas.Bool.{both_ways}
use Rattle.event_machine.specs.Habit.{Free}
use Rattle.four_state.specs.declared.bit.Bit.{Bit}
use Rattle.four_state.specs.declared.bit.Bit.TheVariants.{One}
use Rattle.design_model.specs.Design.{Thing, a_signal, a_word, body_at}
use Rattle.point_words.specs.declared.node_case.NodeCase.TheVariants.{ValueTrue}
use Rattle.design_model.specs.declared.point.Point.TheVariants.{Logic as logic_point}
use Rattle.design_model.specs.Reads.{Agrees, HasValue, PartialMap, nothing_known}
use Rattle.design_model.specs.Clear.{IsClearBy, IsClockedTarget, clear, clear_in, of_assigns, of_clean, of_comb, of_dump, of_unwoken}
use Rattle.design_model.specs.Open.{IsOpen, KnownAtEnd}
use Rattle.design_model.specs.Doubt.{of_block, unclear_word}
use Rattle.design_model.specs.ExampleParts.{at}
use Rattle.design_model.proofs.Bound.{clear-thing, clear_bound}
use Rattle.worked_examples.specs.Design.Rom.{IsRomExample, rom, rom_dump, rom_values}

abbrev IsWord : Thing → Type 0
IsWord (a_signal s) = ⊥
IsWord (a_word m i) = Unit {0}

no_clocked : (p : ℕ) (x : Thing) → IsClockedTarget rom p x → ⊥
no_clocked zero x h = h.is_clocked
no_clocked (suc p) x h = h.is_clocked

by_rule : (t : ℕ) (start K : PartialMap) (x : Thing) (bits : List Bit) → IsClearBy rom Free rom_dump t start K x bits → IsWord x → ⊥
by_rule t start K x bits (of_dump s w0 is_shown is_bound is_signal is) e = e
by_rule t start K x bits (of_assigns s w0 unbound is) e = e
by_rule t start K x bits (of_comb p s w0 unbound is) e = e
by_rule t start K x bits (of_unwoken p x0 w0 w unbound target still old) e = no_clocked p x0 target
by_rule t start K x bits (of_clean p c x0 w0 w unbound is) e = no_clocked p x0 is.writer

in_none : (t : ℕ) (start : PartialMap) (n m i : ℕ) (bits : List Bit) → clear_in rom Free rom_dump t start n (a_word m i) bits → ⊥
in_none t start zero m i bits k = k
in_none t start (suc n) m i bits k = by_rule t start (clear_in rom Free rom_dump t start n) (a_word m i) bits k tt

never : (t m i : ℕ) → HasValue (clear rom Free rom_dump t) (a_word m i) → ⊥
never zero m i k = in_none 0 nothing_known k.1.0 m i k.0 k.1.1
never (suc t) m i k = in_none (suc t) (clear rom Free rom_dump t) k.1.0 m i k.0 k.1.1

-- what is known at the end of 5: i alone
agrees : Agrees rom (KnownAtEnd rom Free rom_dump 5 0) (rom_values One)
agrees (a_signal zero) bits k = sym (clear_bound rom Free rom_dump 5 0 bits k.1 refl)
agrees (a_signal (suc zero)) bits k = absurd (both_ways true k.0 refl)
agrees (a_signal (suc (suc s))) bits k = absurd (omega (arith, clear-thing rom Free rom_dump 5 (a_signal (suc (suc s))) bits k.1))
agrees (a_word m i) bits k = absurd (never 5 m i (bits, k.1))

open_net : IsOpen rom (KnownAtEnd rom Free rom_dump 5 0) (body_at rom 0) (logic_point 0 1 (at 0) (codes "[]") ValueTrue)
open_net = (_, record { is_path = inl refl; follows = (tt, (tt, tt)) }, (_, (_, inr (inl refl), refl, (_, (inl refl, refl), ((λ fixed. absurd (never 5 2 1 ((fixed.within (rom_values One) agrees).1.0.0, (fixed.within (rom_values One) agrees).1.0.1.1))), tt)))))

pub rom_example : IsRomExample
rom_example =
    record {
      never_clear = λ t i. never t 2 i;
      doubt = of_block 0 (lit< tt, lit< tt) refl (inr ((λ c. c), open_net)) (unclear_word (record { word = 1; not_clocked = λ c. c; may_wake = inl (inr (inl refl)); mentioned = refl; is_thing = (refl, lit≤ tt, lit≤ tt); unclear = inr (never 5 2 1); read_or_moves = inl (inl (rom_values One, agrees, inr (tt, inr (has_i, inl refl)))) }));
    }
  where
    has_i : HasValue (KnownAtEnd rom Free rom_dump 5 0) (a_signal 0)
    has_i = (One ∷ [], (refl, (1, of_dump 0 (One ∷ []) (lit≤ tt, lit< tt) refl (lit< tt) refl)))

-- A lawful design meets what a store asks.
use Rattle.std.proofs.Common.{◌≡◌, ◌+◌, ◌≤◌, ◌&&◌, ◌==◌, Bool, true, List, [], ◌∷◌, length, arith}
use Rattle.std.specs.Prelude.{nat_le, nat_lt, sum_by}
use Rattle.std.specs.List.{All, list_all}
use Rattle.std.proofs.lemmas.Bool.{and_parts}
use Rattle.std.proofs.lemmas.Bool.Decides.{nat_tests}
use Rattle.std.proofs.lemmas.List.Elements.{All-cons, All-nil}
use Rattle.std.proofs.lemmas.List.Sums.{sum_by-cons}
use Rattle.design_model.specs.declared.design.Memory.{Memory}
use Rattle.design_model.specs.declared.design.Signal.{Signal}
use Rattle.design_model.specs.Design.{Design}
use Rattle.design_model.specs.Lawful.{is_memory_of, is_signal, span}
use Rattle.write_log.specs.value_store.Signals.{HasWidth}
use Rattle.body_store.specs.Made.{HasWordWidth}
use Rattle.body_store.specs.Premises.{PremisesLaw}

each_is : {A : Type 0} (p : A → Bool) (P : A → Type 0) → ((x : A) → p x ≡ true → P x) → (xs : List A) → list_all p xs ≡ true → All P xs
each_is p P f [] h = All-nil P
each_is p P f (x ∷ xs) h = let both = and_parts (p x) (list_all p xs) h in All-cons P x xs (f x both.0) (each_is p P f xs both.1)

signal_width : (d : Design) (s : Signal) → is_signal d s ≡ true → HasWidth s
signal_width d s h =
    let inner : nat_lt s.instance (length d.instances) && nat_le 1 s.width && nat_le s.width 128 && (s.width == span s.high s.low) ≡ true = (and_parts _ _ h).0 in
    let sized : nat_lt s.instance (length d.instances) && nat_le 1 s.width && nat_le s.width 128 ≡ true = (and_parts _ _ inner).0 in
    let both = and_parts (nat_lt s.instance (length d.instances) && nat_le 1 s.width) (nat_le s.width 128) sized in
    let high = both.1 in
    let low = (and_parts (nat_lt s.instance (length d.instances)) (nat_le 1 s.width) both.0).1 in
    (grind (arith, nat_tests, low), grind (arith, nat_tests, high))

word_width : (d : Design) (m : Memory) → is_memory_of d m ≡ true → HasWordWidth m
word_width d m h =
    let inner : nat_lt m.instance (length d.instances) && nat_le 1 m.width && nat_le m.width 128 && nat_le (span m.first m.last) 65536 && (m.width == span m.high m.low) ≡ true = (and_parts _ _ h).0 in
    let outer : nat_lt m.instance (length d.instances) && nat_le 1 m.width && nat_le m.width 128 && nat_le (span m.first m.last) 65536 ≡ true = (and_parts _ _ inner).0 in
    let sized : nat_lt m.instance (length d.instances) && nat_le 1 m.width && nat_le m.width 128 ≡ true = (and_parts _ _ outer).0 in
    let both = and_parts (nat_lt m.instance (length d.instances) && nat_le 1 m.width) (nat_le m.width 128) sized in
    let high = both.1 in
    let low = (and_parts (nat_lt m.instance (length d.instances)) (nat_le 1 m.width) both.0).1 in
    (grind (arith, nat_tests, low), grind (arith, nat_tests, high))

-- each memory has a word
as_many : (ms : List Memory) → length ms ≤ sum_by (λ m. span m.first m.last) ms
as_many [] = omega arith
as_many (m ∷ ms) =
    let rest = as_many ms in
    let sum : sum_by (λ m. span m.first m.last) (m ∷ ms) ≡ span m.first m.last + sum_by (λ m. span m.first m.last) ms = sum_by-cons (λ m. span m.first m.last) m ms in
    omega (arith, rest, sum)

pub premises : PremisesLaw
premises d h =
    record {
      widths = each_is (is_signal d) HasWidth (signal_width d) d.signals h.signals;
      word_widths = each_is (is_memory_of d) HasWordWidth (word_width d) d.memories h.memories;
      few_signals = h.few_signals;
      few_memories = (let many = as_many d.memories in let few = h.few_words in omega (arith, many, few));
    }

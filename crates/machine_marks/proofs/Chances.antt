-- How sure it is that known bits are those of a value.
use Rattle.std.proofs.Common.{◌≡◌, ◌∙◌, ◌<◌, ℕ, ◌&&◌, Bool, true, false, not, List, [], ◌∷◌, length, get_or, Option, Some, None, refl, sym, ap, ap₂}
use Rattle.std.specs.Prelude.{is_some}
use Rattle.std.proofs.lemmas.Bool.{false≢true}
use Rattle.four_state.specs.declared.bit.Bit.{Bit}
use Rattle.std.proofs.lemmas.List.{get_or_read}
use Rattle.design_machines.specs.state_machines.Same.{bits_at, no_value}
use Rattle.four_state.specs.Vector.{Vector, same_bit}
use Rattle.known_state.specs.Partly.{allows_bit, allows_bits, are_sure}
use Rattle.mark_laws.specs.replay_model.Step.{are_surely, may_be, surely_differ, surely_same}

not_not : (b : Bool) → not (not b) ≡ b
not_not true = refl
not_not false = refl

and_false : (a : Bool) → (a && false) ≡ false
and_false true = refl
and_false false = refl

and_assoc : (a b c : Bool) → (a && (b && c)) ≡ ((a && b) && c)
and_assoc true b c = refl
and_assoc false b c = refl

may_bit : (p : Option Bit) (b : Bit) → not (surely_differ p (Some b)) ≡ allows_bit p b
may_bit None b = refl
may_bit (Some a) b = not_not (same_bit a b)

pub may_is : (ps : List (Option Bit)) (bs : List Bit) → may_be ps bs ≡ allows_bits ps bs
may_is [] [] = refl
may_is [] (b ∷ bs) = refl
may_is (p ∷ ps) [] = refl
may_is (p ∷ ps) (b ∷ bs) = ap₂ (λ a c. a && c) (may_bit p b) (may_is ps bs)

surely_bits : (p : Option Bit) (b : Bit) (rest allowed sure : Bool) → rest ≡ (allowed && sure) → (surely_same p (Some b) && rest) ≡ ((allows_bit p b && allowed) && (is_some p && sure))
surely_bits None b rest allowed sure e = sym (and_false allowed)
surely_bits (Some a) b rest allowed sure e = ap (λ r. same_bit a b && r) e ∙ and_assoc (same_bit a b) allowed sure

pub surely_is : (ps : List (Option Bit)) (bs : List Bit) → are_surely ps bs ≡ (allows_bits ps bs && are_sure ps)
surely_is [] [] = refl
surely_is [] (b ∷ bs) = refl
surely_is (p ∷ ps) [] = refl
surely_is (p ∷ ps) (b ∷ bs) = surely_bits p b (are_surely ps bs) (allows_bits ps bs) (are_sure ps) (surely_is ps bs)

is_no : (a b : Bool) → b ≡ not a → b ≡ true → a ≡ false
is_no true b is holds = absurd (false≢true (sym is ∙ holds))
is_no false b is holds = refl

is_yes : (a b : Bool) → b ≡ not a → b ≡ false → a ≡ true
is_yes true b is fails = refl
is_yes false b is fails = absurd (false≢true (sym fails ∙ is))

-- a value that known bits do not allow
pub never_sure : (ps : List (Option Bit)) (bs : List Bit) (b : Bool) → b ≡ not (allows_bits ps bs) → b ≡ true → false ≡ are_surely ps bs
never_sure ps bs b is holds = sym (surely_is ps bs ∙ ap (λ a. a && are_sure ps) (is_no (allows_bits ps bs) b is holds))

pub never_possible : (ps : List (Option Bit)) (bs : List Bit) (b : Bool) → b ≡ not (allows_bits ps bs) → b ≡ true → false ≡ may_be ps bs
never_possible ps bs b is holds = sym (may_is ps bs ∙ is_no (allows_bits ps bs) b is holds)

-- one that they allow
pub allowed : (ps : List (Option Bit)) (bs : List Bit) (b : Bool) → b ≡ not (allows_bits ps bs) → b ≡ false → true ≡ may_be ps bs
allowed ps bs b is fails = sym (may_is ps bs ∙ is_yes (allows_bits ps bs) b is fails)

-- where all bits are known, and where they are not
pub whole_sure : (ps : List (Option Bit)) (bs : List Bit) (b w : Bool) → b ≡ not (allows_bits ps bs) → b ≡ false → w ≡ are_sure ps → w ≡ true → true ≡ are_surely ps bs
whole_sure ps bs b w is fails sure holds = sym (surely_is ps bs ∙ ap₂ (λ a c. a && c) (is_yes (allows_bits ps bs) b is fails) (sym sure ∙ holds))

pub not_whole : (ps : List (Option Bit)) (bs : List Bit) (w : Bool) → w ≡ are_sure ps → w ≡ false → false ≡ are_surely ps bs
not_whole ps bs w sure fails = sym (surely_is ps bs ∙ ap (λ c. allows_bits ps bs && c) (sym sure ∙ fails) ∙ and_false (allows_bits ps bs))

-- the bits of a value of a list
pub bits_read : (vs : List Vector) (i : ℕ) (v : Vector) → i < length vs → v ≡ get_or vs i v → v.bits ≡ bits_at vs i
bits_read vs i v l is = ap (λ (x : Vector). x.bits) (get_or_read vs i v l is no_value)

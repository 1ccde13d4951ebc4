-- Facts on single bits that are decided by trying all of them.
use Rattle.std.proofs.Common.{◌≡◌, Bool, true, false, not, ◌&&◌, ◌||◌, Option, Some, None, refl, ap, sym, ◌∙◌}
use Rattle.std.proofs.lemmas.Bool.{and_parts}
use Rattle.four_state.specs.declared.bit.Bit.{Bit}
use Rattle.four_state.specs.declared.bit.Bit.TheVariants.{Zero, One, X, Z}
use Rattle.four_state.specs.Vector.{same_bit}

abbrev pub every : (Bit → Bool) → Bool
every p = p Zero && (p One && (p X && p Z))

abbrev pub every_option : (Option Bit → Bool) → Bool
every_option p = p None && every (λ b. p (Some b))

abbrev pub implies : Bool → Bool → Bool
implies p q = not p || q

pub every_holds : (p : Bit → Bool) → every p ≡ true → (b : Bit) → p b ≡ true
every_holds p h Zero = (and_parts (p Zero) (p One && (p X && p Z)) h).0
every_holds p h One = (and_parts (p One) (p X && p Z) (and_parts (p Zero) (p One && (p X && p Z)) h).1).0
every_holds p h X = (and_parts (p X) (p Z) (and_parts (p One) (p X && p Z) (and_parts (p Zero) (p One && (p X && p Z)) h).1).1).0
every_holds p h Z = (and_parts (p X) (p Z) (and_parts (p One) (p X && p Z) (and_parts (p Zero) (p One && (p X && p Z)) h).1).1).1

pub option_holds : (p : Option Bit → Bool) → every_option p ≡ true → (o : Option Bit) → p o ≡ true
option_holds p h None = (and_parts (p None) (every (λ b. p (Some b))) h).0
option_holds p h (Some b) = every_holds (λ c. p (Some c)) (and_parts (p None) (every (λ c. p (Some c))) h).1 b

pub implied : (p q : Bool) → implies p q ≡ true → p ≡ true → q ≡ true
implied true q h e = h
implied false q h e = cc

pub both_true : (p q : Bool) → p ≡ true → q ≡ true → (p && q) ≡ true
both_true true q h k = k
both_true false q h k = cc

pub same_bit_refl : (b : Bit) → same_bit b b ≡ true
same_bit_refl Zero = refl
same_bit_refl One = refl
same_bit_refl X = refl
same_bit_refl Z = refl

pub same_bit_eq : (b c : Bit) → same_bit b c ≡ true → b ≡ c
same_bit_eq Zero Zero h = refl
same_bit_eq One One h = refl
same_bit_eq X X h = refl
same_bit_eq Z Z h = refl
same_bit_eq Zero One h = cc
same_bit_eq Zero X h = cc
same_bit_eq Zero Z h = cc
same_bit_eq One Zero h = cc
same_bit_eq One X h = cc
same_bit_eq One Z h = cc
same_bit_eq X Zero h = cc
same_bit_eq X One h = cc
same_bit_eq X Z h = cc
same_bit_eq Z Zero h = cc
same_bit_eq Z One h = cc
same_bit_eq Z X h = cc

pub same_bit_of : (b c : Bit) → b ≡ c → same_bit b c ≡ true
same_bit_of b c e = ap (same_bit b) (sym e) ∙ same_bit_refl b

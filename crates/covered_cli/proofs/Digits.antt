-- Digits of values without x and z: decimal digits, and so the name of a state, but no identifier.
use Rattle.std.proofs.Common.{◌≡◌, ◌≤◌, ◌++◌, ℕ, Bool, true, false, List, [], ◌∷◌, ◌&&◌, ◌||◌, length, map, refl, sym, subst, arith}
use Rattle.std.specs.Prelude.{IsTrue, nat_le, reverse}
use Rattle.std.specs.Char.{is_ascii_digit}
use Rattle.std.specs.List.{list_all}
use Rattle.std.proofs.lemmas.Bool.{and_parts, false≢true}
use Rattle.std.proofs.lemmas.Bool.Decides.{nat_tests}
use Rattle.std.proofs.lemmas.List.{reverse-append}
use Rattle.cov_host.specs.Identifier.{begins_name, continues_name, has_name_form, is_identifier}
use Rattle.coverage_db.specs.Table.{is_state}
use Rattle.four_state.specs.Vector.{Vector, all_known, is_known}
use Rattle.four_state.specs.declared.bit.Bit.{Bit}
use Rattle.four_state.specs.declared.bit.Bit.TheVariants.{One, X, Z, Zero}
use Rattle.state_machines.proofs.Digits.{digit_count}
use Rattle.state_machines.specs.Drawn.{digit_of, digits_of}

-- decimal digits
abbrev pub plain_digits : List ℕ → Bool
plain_digits ds = list_all is_ascii_digit ds

plain_digit : (b : Bit) → is_known b ≡ true → is_ascii_digit (digit_of b) ≡ true
plain_digit Zero known = refl
plain_digit One known = refl
plain_digit X known = absurd (false≢true known)
plain_digit Z known = absurd (false≢true known)

all_plain : (bs : List Bit) → all_known bs ≡ true → plain_digits (map digit_of bs) ≡ true
all_plain [] known = refl
all_plain (b ∷ bs) known = let both = and_parts (is_known b) (all_known bs) known in rw (plain_digit b both.0, all_plain bs both.1) refl

known_append : (bs cs : List Bit) → all_known bs ≡ true → all_known cs ≡ true → all_known (bs ++ cs) ≡ true
known_append [] cs e f = f
known_append (b ∷ bs) cs e f = let both = and_parts (is_known b) (all_known bs) e in rw (both.0, known_append bs cs both.1 f) refl

known_reverse : (bs : List Bit) → all_known bs ≡ true → all_known (reverse bs) ≡ true
known_reverse [] e = refl
known_reverse (b ∷ bs) e =
    let both = and_parts (is_known b) (all_known bs) e in
    subst (λ cs. all_known cs ≡ true) (sym (reverse-append (b ∷ []) bs)) (known_append (reverse bs) (b ∷ []) (known_reverse bs both.1) (rw both.0 refl))

right : (a b : Bool) → b ≡ true → (a || b) ≡ true
right true b h = refl
right false b h = h

-- the digits are decimal, and where there is one they name a state
pub plain_state : (v : Vector) → all_known v.bits ≡ true → (plain_digits (digits_of v) ≡ true) × (1 ≤ length v.bits → IsTrue (is_state (digits_of v)))
plain_state v known =
    let plain = all_plain (reverse v.bits) (known_reverse v.bits known) in (
      plain,
      λ some.
          let long : 1 ≤ length (digits_of v) = omega (arith, some, digit_count v) in
          let test : nat_le 1 (length (digits_of v)) ≡ true = grind (arith, nat_tests) in
          right (is_identifier (digits_of v)) _ (rw (test, plain) refl),
    )

-- no byte is a digit and begins a name
no_digit : (byte : ℕ) → is_ascii_digit byte ≡ true → begins_name byte ≡ true → ⊥
no_digit byte digit begins = grind (arith, nat_tests)

-- an identifier is no digits
pub no_identifier : (name : List ℕ) → plain_digits name ≡ true → is_identifier name ≡ true → ⊥
no_identifier [] digits is = false≢true is
no_identifier (byte ∷ bytes) digits is =
    let first = (and_parts (is_ascii_digit byte) (list_all is_ascii_digit bytes) digits).0 in
    let form = (and_parts (has_name_form (byte ∷ bytes)) _ (and_parts (has_name_form (byte ∷ bytes) && nat_le (length (byte ∷ bytes)) 255) _ is).0).0 in
    no_digit byte first (and_parts (begins_name byte) (list_all continues_name bytes) form).0

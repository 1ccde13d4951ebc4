-- Texts that lack a byte.
use Rattle.std.proofs.Common.{◌≡◌, ◌≢◌, ◌==◌, ℕ, ◌^◌, ◌<◌, Bool, true, false, eqb, List, [], ◌∷◌, ◌++◌, refl, sym, ap, subst, ◌∙◌, inl, inr, arith}
use Rattle.std.specs.Prelude.{◌&&◌, ◌||◌, decimal, nat_le}
use Rattle.std.specs.List.{list_all, slice_split, join_with_byte}
use Rattle.std.specs.Char.{is_ascii_digit}
use Rattle.std.proofs.lemmas.Bool.{cases_Bool}
use Rattle.std.proofs.lemmas.Bool.Decides.{nat_tests}
use Rattle.std.proofs.lemmas.List.Splits.{join_with_byte-slice_split}
use Rattle.cov_host.specs.Identifier.{is_identifier, has_name_form, begins_name, continues_name}
use Rattle.coverage_db.specs.Table.{is_path, is_state}
use Rattle.coverage_db.proofs.Numbers.{decimal_plain, plain_all}
use Rattle.coverage_db.proofs.Splitting.{lacks}

byte_differs : (test : ℕ → Bool) (byte value : ℕ) → test byte ≡ true → test value ≡ false → byte ≢ value
byte_differs test byte value passes fails same = let bad : true ≡ false = sym passes ∙ ap test same ∙ fails in cc

-- what passes a test that the byte fails lacks the byte
pub lacks_by : (test : ℕ → Bool) (value : ℕ) (bytes : List ℕ) → test value ≡ false → list_all test bytes ≡ true → lacks value bytes ≡ true
lacks_by test value [] fails all = refl
lacks_by test value (byte ∷ bytes) fails all =
    elim (cases_Bool (test byte)) [
      | inl passes ↦
          let other : eqb byte value ≡ false = grind (arith, nat_tests, byte_differs test byte value passes fails) in
          rw (other, lacks_by test value bytes fails (rw passes at all)) refl
      | inr no_test ↦ absurd (let bad : false ≡ true = rw no_test at all in cc)
    ]

pub lacks_append : (value : ℕ) (front back : List ℕ) → lacks value front ≡ true → lacks value back ≡ true → lacks value (front ++ back) ≡ true
lacks_append value [] back f b = b
lacks_append value (byte ∷ front) back f b =
    elim (cases_Bool (eqb byte value)) [
      | inl is ↦ absurd (let bad : false ≡ true = rw is at f in cc)
      | inr other ↦ rw (other, lacks_append value front back (rw other at f) b) refl
    ]

pub lacks_more : (value byte : ℕ) (bytes : List ℕ) → eqb byte value ≡ false → lacks value bytes ≡ true → lacks value (byte ∷ bytes) ≡ true
lacks_more value byte bytes other b = rw (other, b) refl

-- neither a space nor a control character
abbrev pub is_visible : ℕ → Bool
is_visible byte = nat_le 33 byte

-- the byte is in no field
pub record IsApart (value : ℕ) : Type 0 where
  pub visible : is_visible value ≡ false
  pub name : continues_name value ≡ false
  pub digit : is_ascii_digit value ≡ false
  pub dot : eqb 46 value ≡ false
  pub colon : eqb 58 value ≡ false

pub space_apart : IsApart 32
space_apart = record { visible = refl; name = refl; digit = refl; dot = refl; colon = refl }

pub feed_apart : IsApart 10
feed_apart = record { visible = refl; name = refl; digit = refl; dot = refl; colon = refl }

pub word_lacks : (value : ℕ) (word : List ℕ) → IsApart value → list_all is_visible word ≡ true → lacks value word ≡ true
word_lacks value word apart all = lacks_by is_visible value word apart.visible all

-- ---- numbers, names and paths

pub decimal_lacks : (value number : ℕ) → is_ascii_digit value ≡ false → number < 2 ^ 64 → lacks value (decimal number) ≡ true
decimal_lacks value number other small = lacks_by is_ascii_digit value (decimal number) other (plain_all (decimal number) (decimal_plain number small))

named : (word : List ℕ) → has_name_form word ≡ true → list_all continues_name word ≡ true
named [] form = refl
named (first ∷ others) form =
    elim (cases_Bool (begins_name first)) [
      | inl begins ↦ rw (begins, (rw begins at form)) refl
      | inr other ↦ absurd (let bad : false ≡ true = rw other at form in cc)
    ]

form_of : (word : List ℕ) → is_identifier word ≡ true → has_name_form word ≡ true
form_of word is =
    elim (cases_Bool (has_name_form word)) [
      | inl form ↦ form
      | inr other ↦ absurd (let bad : false ≡ true = rw other at is in cc)
    ]

pub name_lacks : (value : ℕ) (word : List ℕ) → continues_name value ≡ false → is_identifier word ≡ true → lacks value word ≡ true
name_lacks value word other is = lacks_by continues_name value word other (named word (form_of word is))

state_cases : (a b : Bool) (P : Type 0) → (a ≡ true → P) → (b ≡ true → P) → (a || b) ≡ true → P
state_cases true b P f g e = f refl
state_cases false true P f g e = g refl
state_cases false false P f g e = absurd cc

second_of : (a b : Bool) → (a && b) ≡ true → b ≡ true
second_of true b e = e
second_of false b e = absurd cc

pub state_lacks : (value : ℕ) (word : List ℕ) → continues_name value ≡ false → is_ascii_digit value ≡ false → is_state word ≡ true → lacks value word ≡ true
state_lacks value word other digit is =
    state_cases (is_identifier word) _ (lacks value word ≡ true) (λ name. name_lacks value word other name) (λ digits. lacks_by is_ascii_digit value word digit (second_of _ _ digits)) is

joined_lacks : (value byte : ℕ) (parts : List (List ℕ)) → eqb byte value ≡ false → continues_name value ≡ false → list_all is_identifier parts ≡ true → lacks value (join_with_byte byte parts) ≡ true
joined_lacks value byte [] other free all = refl
joined_lacks value byte (part ∷ []) other free all = name_lacks value part free (grind arith)
joined_lacks value byte (part ∷ next ∷ parts) other free all =
    elim (cases_Bool (is_identifier part)) [
      | inl name ↦ lacks_append value part (byte ∷ join_with_byte byte (next ∷ parts)) (name_lacks value part free name) (lacks_more value byte (join_with_byte byte (next ∷ parts)) other (joined_lacks value byte (next ∷ parts) other free (rw name at all)))
      | inr no_name ↦ absurd (let bad : false ≡ true = rw no_name at all in cc)
    ]

pub path_lacks : (value : ℕ) (path : List ℕ) → eqb 46 value ≡ false → continues_name value ≡ false → is_path path ≡ true → lacks value path ≡ true
path_lacks value path other free is =
    subst (λ (p : List ℕ). lacks value p ≡ true) (join_with_byte-slice_split 46 path) (joined_lacks value 46 (slice_split (λ byte. byte == 46) path) other free is)

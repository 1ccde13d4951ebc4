-- Tests on the bytes of a word, one more at its end.
use Rattle.std.proofs.Common.{◌≡◌, ℕ, ◌+◌, ◌<◌, Bool, true, false, List, [], ◌∷◌, ◌++◌, length, refl, arith}
use Rattle.std.proofs.lemmas.Bool.Decides.{nat_tests}
use Rattle.std.proofs.lemmas.List.{length-append}
use Rattle.vcd_reader.specs.Body.{is_marker}
use Rattle.vcd_reader.specs.Holding.{is_other}

pub other_first : (has_begun : Bool) (byte : ℕ) → (has_begun ≡ false → is_marker byte ≡ false) → is_other has_begun (byte ∷ []) ≡ true
other_first true byte free = refl
other_first false byte free = rw (free refl) refl

pub other_more : (has_begun : Bool) (bytes : List ℕ) (byte : ℕ) → is_other has_begun bytes ≡ true → is_other has_begun (bytes ++ byte ∷ []) ≡ true
other_more true bytes byte other = let long : length (bytes ++ byte ∷ []) ≡ length bytes + 1 = length-append bytes (byte ∷ []) in grind (arith, nat_tests, long)
other_more false [] byte other = absurd cc
other_more false (b ∷ bytes) byte other = other

-- a long word has a first byte
pub with_first : (P : List ℕ → Type 0) (bytes : List ℕ) → 9 < length bytes → ((byte : ℕ) (rest : List ℕ) → bytes ≡ byte ∷ rest → P (byte ∷ rest)) → P bytes
with_first P [] long each = absurd (omega arith)
with_first P (byte ∷ rest) long each = each byte rest refl

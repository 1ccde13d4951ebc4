-- The name of an included file is a text.
use Rattle.std.proofs.Common.{◌≡◌, ℕ, zero, suc, ◌<◌, Bool, true, false, List, [], ◌∷◌, slice_index, length, inl, inr, arith}
use Rattle.std.specs.Prelude.{IsTrue, nat_le, ◌&&◌, not, ◌==◌}
use Rattle.std.specs.List.{list_all}
use Rattle.std.specs.Str.{IsUtf8}
use Rattle.std.proofs.lemmas.Bool.{cases_Bool}
use Rattle.std.proofs.lemmas.Bool.Decides.{nat_tests}
use Rattle.std.proofs.lemmas.Str.{IsUtf8-from_ascii}
use Rattle.verilog_lexer.specs.Piece.{is_file_name}

abbrev is_printable : ℕ → Bool
is_printable byte = nat_le 32 byte && nat_le byte 126

printable_below : (byte : ℕ) → is_printable byte ≡ true → byte < 128
printable_below byte is = grind (arith, nat_tests)

printable_ascii : (bytes : List ℕ) → list_all is_printable bytes ≡ true → (i : ℕ) → slice_index bytes i < 128
printable_ascii [] all zero = omega arith
printable_ascii [] all (suc i) = omega arith
printable_ascii (byte ∷ bytes) all zero =
    elim (cases_Bool (is_printable byte)) [
      | inl is ↦ printable_below byte is
      | inr other ↦ absurd (let bad : false ≡ true = rw other at all in cc)
    ]
printable_ascii (byte ∷ bytes) all (suc i) =
    elim (cases_Bool (is_printable byte)) [
      | inl is ↦ printable_ascii bytes (rw is at all) i
      | inr other ↦ absurd (let bad : false ≡ true = rw other at all in cc)
    ]

all_printable : (name : List ℕ) → is_file_name name ≡ true → list_all is_printable name ≡ true
all_printable name is = go (length name == 0) (list_all is_printable name) is
  where
    go : (empty all : Bool) → (not empty && all) ≡ true → all ≡ true
    go true all is = absurd cc
    go false all is = is

pub is_text : (name : List ℕ) → IsTrue (is_file_name name) → IsUtf8 name
is_text name is = IsUtf8-from_ascii name (printable_ascii name (all_printable name is))

-- A change of a vector that lies whole at the front of a piece.
-- Bytes are written as numbers: 66 B, 98 b.
use Rattle.std.specs.Prelude.{◌≡◌, ◌<◌, ◌≤◌, ℕ, ◌+◌, ◌==◌, Bool, ◌||◌, true, List, length, take, drop, get_or, Some}
use Rattle.std.specs.List.{list_all, position}
use Rattle.vcd_reader.specs.Words.{is_white_space}
use Rattle.vcd_reader.specs.Values.{is_digit}
use Rattle.vcd_reader.specs.declared.vector.VectorFront.{VectorFront}

-- the letter of a change of a vector
abbrev pub is_vector_letter : ℕ → Bool
is_vector_letter byte = byte == 98 || byte == 66

-- the bytes begin with white space, a word of this length, and white space
pub record IsCodeAfter (bytes : List ℕ) (code : ℕ) : Type 0 where
  pub space : is_white_space (get_or bytes 0 0) ≡ true
  pub word : position is_white_space (drop 1 bytes) ≡ Some code
  pub within : code + 2 ≤ length bytes

-- the bytes begin with so many digits, white space, a code of this length, and white space
pub record AreVectorWords (bytes : List ℕ) (front : VectorFront) : Type 0 where
  pub some : 0 < front.digits
  pub digits : list_all is_digit (take front.digits bytes) ≡ true
  pub code_some : 0 < front.code
  pub code : IsCodeAfter (drop front.digits bytes) front.code
  pub within : front.digits + front.code + 2 ≤ length bytes

-- the piece begins with the letter and the words of a change of a vector
pub record IsVectorFront (piece : List ℕ) (front : VectorFront) : Type 0 where
  pub letter : is_vector_letter (get_or piece 0 0) ≡ true
  pub words : AreVectorWords (drop 1 piece) front
  pub within : front.digits + front.code + 3 ≤ length piece

-- The operators and the punctuation of the language (IEEE 1364-2001 clause 2.4).
use Rattle.std.specs.Prelude.{ℕ, Bool, List, [], ◌∷◌, ◌&&◌, ◌==◌, if◌then◌else◌, codes, slice_index}
use Rattle.std.specs.List.{list_any}

-- the operators of three bytes
abbrev pub triples : List (List ℕ)
triples = codes "<<<" ∷ codes ">>>" ∷ codes "===" ∷ codes "!==" ∷ []

-- the operators of two bytes
abbrev pub pairs : List (List ℕ)
pairs = codes "<=" ∷ codes ">=" ∷ codes "==" ∷ codes "!=" ∷ codes "&&" ∷ codes "||" ∷ codes "<<" ∷ codes ">>" ∷ codes "~&" ∷ codes "~|" ∷ codes "~^" ∷ codes "^~" ∷ codes "+:" ∷ codes "-:" ∷ codes "->" ∷ codes "**" ∷ []

-- the operators of one byte
abbrev pub singles : List ℕ
singles = codes "()[]{},;:.=+-*/%!~&|^<>?@#"

-- the three bytes are an operator
abbrev pub is_triple : ℕ → ℕ → ℕ → Bool
is_triple first second third = list_any (λ word. slice_index word 0 == first && slice_index word 1 == second && slice_index word 2 == third) triples

-- the two bytes are an operator
abbrev pub is_pair : ℕ → ℕ → Bool
is_pair first second = list_any (λ word. slice_index word 0 == first && slice_index word 1 == second) pairs

-- the byte is an operator
abbrev pub is_single : ℕ → Bool
is_single first = list_any (λ byte. byte == first) singles

-- the number of bytes of the longest operator at the front, 0 where there is no operator
unfoldable pub operator_length : List ℕ → ℕ
operator_length text =
    if is_triple (slice_index text 0) (slice_index text 1) (slice_index text 2) then 3
    else if is_pair (slice_index text 0) (slice_index text 1) then 2
    else if is_single (slice_index text 0) then 1
    else 0

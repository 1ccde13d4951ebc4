-- Rows of items that lie one after the other in one list.
use Rattle.std.specs.Prelude.{◌≡◌, ◌≤◌, ℕ, List, [], ◌∷◌, slice_index_or, slice_range}

-- the rows that begin at `start`, each of which ends where the next one begins
abbrev pub rows_from : {T : Type 0} → List T → ℕ → List ℕ → List (List T)
rows_from xs start [] = []
rows_from xs start (end ∷ ends) = slice_range xs start end ∷ rows_from xs end ends

-- the rows by where each begins, and where the last one ends
abbrev pub rows_of : {T : Type 0} → List T → List ℕ → List (List T)
rows_of xs [] = []
rows_of xs (start ∷ ends) = rows_from xs start ends

-- the places rise from `start` to the end of n items
abbrev pub AreEnds : ℕ → ℕ → List ℕ → Type 0
AreEnds n start [] = start ≡ n
AreEnds n start (end ∷ ends) = (start ≤ end) × AreEnds n end ends

-- where each row of n items begins, and where the last one ends
abbrev pub AreStarts : ℕ → List ℕ → Type 0
AreStarts n [] = ⊥
AreStarts n (start ∷ ends) = AreEnds n start ends

-- the row with this number, which is empty where there is no such row
abbrev pub row_at : {T : Type 0} → List (List T) → ℕ → List T
row_at rows k = slice_index_or rows k []

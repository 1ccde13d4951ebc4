-- Names with commas between them.
use Rattle.std.proofs.Common.{◌≡◌, ◌≢◌, ◌∙◌, ℕ, suc, ◌<◌, ◌==◌, List, [], ◌∷◌, length, get_or, refl, ap, arith}
use Rattle.std.specs.List.{slice_split}
use Rattle.std.proofs.lemmas.Bool.{ne_eqb}
use Rattle.std.proofs.lemmas.List.Splits.{slice_split-cons_no}

-- a list without the byte is one part
pub one_part : (c : ℕ) (xs : List ℕ) → ((i : ℕ) → i < length xs → get_or xs i 0 ≢ c) → slice_split (λ x. x == c) xs ≡ xs ∷ []
one_part c [] lacks = refl
one_part c (x ∷ xs) lacks =
    slice_split-cons_no (λ x. x == c) x xs (ne_eqb x c (lacks 0 (omega arith)))
    ∙ ap (Rattle.std.specs.List.onto_first x) (one_part c xs (λ i l. lacks (suc i) (omega (arith, l))))

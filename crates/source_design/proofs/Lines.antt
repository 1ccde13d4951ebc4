-- The line of refused sources.
use Rattle.std.proofs.Common.{◌≡◌, ℕ, List, [], ◌++◌, sym, ap, refl, append-nil, append_assoc}

-- a line without a place, with one, and with a detail
pub no_place : (a b c d n : List ℕ) → a ++ b ++ c ++ d ++ n ≡ a ++ b ++ c ++ d ++ [] ++ n
no_place a b c d n = ap (λ front. front ++ n) (sym (append-nil (a ++ b ++ c ++ d)))

pub at_place : (a b c d s e f g h i n : List ℕ) → a ++ b ++ c ++ d ++ s ++ e ++ f ++ g ++ h ++ i ++ n ≡ a ++ b ++ c ++ d ++ (s ++ e ++ f ++ g ++ h ++ i) ++ n
at_place a b c d s e f g h i n = simp append_assoc refl

pub with_detail : (a b c d s n : List ℕ) → a ++ b ++ c ++ d ++ s ++ n ≡ a ++ b ++ (c ++ d) ++ s ++ n
with_detail a b c d s n = simp append_assoc refl

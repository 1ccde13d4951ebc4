-- A number for each member of a list.
use Rattle.std.proofs.Common.{◌≡◌, ⊎_elim, ◌∙◌, ℕ, ◌+◌, ◌<◌, ◌≤◌, List, [], ◌∷◌, ◌++◌, length, get_or, set, take, refl, sym, ap, subst, arith}
use Rattle.std.specs.List.{Contains}
use Rattle.std.proofs.lemmas.Bool.{cases_eq}
use Rattle.std.proofs.lemmas.List.{get_or-set_other, get_or-set_same, length-set, take_all, take_more}
use Rattle.std.proofs.lemmas.List.Elements.{Contains-append_left, Contains-push, Contains-push_cases}

-- the members have the number n, and the others what they had before
pub record AreNumbered (xs : List ℕ) (n : ℕ) (before after : List ℕ) : Type 0 where
  pub size : length after ≡ length before
  pub members : (x : ℕ) → Contains xs x → get_or after x 0 ≡ n
  pub others : (x : ℕ) → (Contains xs x → ⊥) → get_or after x 0 ≡ get_or before x 0

pub numbered_none : (xs : List ℕ) (n : ℕ) (before : List ℕ) → AreNumbered (take 0 xs) n before before
numbered_none xs n before = record { size = refl; members = λ x c. absurd (omega (arith, c.1)); others = λ x c. refl }

-- one member more
pub numbered_more : (xs : List ℕ) (i n : ℕ) (before now after : List ℕ) → i < length xs → get_or xs i 0 < length now → after ≡ set now (get_or xs i 0) n → AreNumbered (take i xs) n before now → AreNumbered (take (i + 1) xs) n before after
numbered_more xs i n before now after l below is so =
    let y = get_or xs i 0 in
    let more : take (i + 1) xs ≡ take i xs ++ y ∷ [] = take_more xs i 0 l in
    record {
      size = ap length is ∙ length-set now y n ∙ so.size;
      members = λ x c.
          ⊎_elim
          (λ same. ap (λ zs. get_or zs x 0) is ∙ ap (λ z. get_or (set now y n) z 0) same ∙ get_or-set_same now y n 0 below)
          (λ ne. ⊎_elim
          (λ k. ap (λ zs. get_or zs x 0) is ∙ get_or-set_other now y x n 0 ne ∙ so.members x k)
          (λ e. absurd (ne (sym e)))
          (Contains-push_cases (take i xs) y x (subst (λ zs. Contains zs x) more c)))
          (cases_eq x y);
      others = λ x none.
          let ne : x ≡ y → ⊥ = λ e. none (subst (λ zs. Contains zs x) (sym more) (subst (Contains (take i xs ++ y ∷ [])) (sym e) (Contains-push (take i xs) y))) in
          ap (λ zs. get_or zs x 0) is ∙ get_or-set_other now y x n 0 ne ∙ so.others x (λ c. none (subst (λ zs. Contains zs x) (sym more) (Contains-append_left (take i xs) (y ∷ []) x c)));
    }

-- all members were taken
pub numbered_all : (xs : List ℕ) (i n : ℕ) (before after : List ℕ) → length xs ≤ i → AreNumbered (take i xs) n before after → AreNumbered xs n before after
numbered_all xs i n before after l so = subst (λ ys. AreNumbered ys n before after) (take_all i xs l) so

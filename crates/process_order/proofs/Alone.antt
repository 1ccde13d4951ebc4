-- Whether a list has one process alone.
use Rattle.std.proofs.Common.{◌≡◌, ◌⊎◌, inl, inr, ⊎_elim, ◌∙◌, ℕ, ◌+◌, ◌<◌, ◌≤◌, Bool, true, false, not, eqb, List, [], ◌∷◌, ◌++◌, length, get_or, take, refl, sym, ap, subst, arith}
use Rattle.std.specs.List.{Contains}
use Rattle.std.proofs.lemmas.List.{take_all, take_more}
use Rattle.std.proofs.lemmas.List.Elements.{Contains-get_or, Contains-push_cases}
use Rattle.process_order.specs.Owners.{HasOther, IsAlone}
use Rattle.process_order.proofs.RowLemmas.{none_in}

-- so many are all this process
abbrev pub AreAll : ℕ → List ℕ → Type 0
AreAll p owners = (q : ℕ) → Contains owners q → q ≡ p

pub alone_none : (p : ℕ) (owners : List ℕ) → AreAll p (take 0 owners)
alone_none p owners q c = absurd (none_in q c)

pub alone_more : (p i : ℕ) (owners : List ℕ) → i < length owners → get_or owners i 0 ≡ p → AreAll p (take i owners) → AreAll p (take (i + 1) owners)
alone_more p i owners l is h q c = ⊎_elim (λ a. h q a) (λ e. sym e ∙ is) (Contains-push_cases (take i owners) (get_or owners i 0) q (subst (λ ys. Contains ys q) (take_more owners i 0 l) c))

pub other_from : (p i : ℕ) (owners : List ℕ) → i < length owners → (get_or owners i 0 ≡ p → ⊥) → HasOther p owners
other_from p i owners l ne = (get_or owners i 0, Contains-get_or owners i 0 l, ne)

pub all_alone : (p i : ℕ) (owners : List ℕ) → length owners ≤ i → AreAll p (take i owners) → 0 < length owners → IsAlone p owners
all_alone p i owners l h some =
    let all : AreAll p owners = subst (AreAll p) (take_all i owners l) h in
    let first : Contains owners (get_or owners 0 0) = Contains-get_or owners 0 0 some in
    (subst (λ q. Contains owners q) (all (get_or owners 0 0) first) first, all)

pub none_alone : (p : ℕ) (owners : List ℕ) → length owners ≡ 0 → Contains owners p → HasOther p owners
none_alone p owners e c = absurd (omega (arith, c.1, e))

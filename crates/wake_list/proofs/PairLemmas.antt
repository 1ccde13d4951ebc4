-- Processes with their ranks, by lists of equal rank.
use Rattle.std.proofs.Common.{◌≡◌, ⊎_elim, ◌∙◌, ℕ, zero, suc, ◌+◌, ◌<◌, ◌≤◌, true, false, cond, List, [], ◌∷◌, ◌++◌, map, length, get_or, set, refl, sym, ap, subst, arith}
use Rattle.std.proofs.lemmas.Bool.{false_from_ne_true, le-leb, lt-leb, true≢false}
use Rattle.std.proofs.lemmas.List.{append_assoc, map-append}
use Rattle.wake_list.specs.Members.{IsOnce, has}
use Rattle.wake_list.specs.Waiting.{AreOnce, is_waiting, pairs_from, with_process}
use Rattle.wake_list.proofs.MemberLemmas.{has_either, has_left, has_right, once_both}

-- the processes of one rank
abbrev pub ranked : ℕ → List ℕ → List (ℕ × ℕ)
ranked r ps = map (λ p. (p, r)) ps

-- after those of no greater rank
past_ranked : (p r b : ℕ) (ps : List ℕ) (xs : List (ℕ × ℕ)) → b ≤ r → with_process p r (ranked b ps ++ xs) ≡ ranked b ps ++ with_process p r xs
past_ranked p r b [] xs l = refl
past_ranked p r b (q ∷ qs) xs l =
    ap (λ t. cond t ((q, b) ∷ with_process p r (ranked b qs ++ xs)) ((p, r) ∷ (q, b) ∷ (ranked b qs ++ xs))) (le-leb b r l) ∙ ap (λ ys. (q, b) ∷ ys) (past_ranked p r b qs xs l)

-- before those of a greater one
before_ranked : (p r b : ℕ) (lists : List (List ℕ)) → r < b → with_process p r (pairs_from b lists) ≡ (p, r) ∷ pairs_from b lists
before_ranked p r b [] l = refl
before_ranked p r b ([] ∷ lists) l = before_ranked p r (b + 1) lists (omega arith)
before_ranked p r b ((q ∷ qs) ∷ lists) l =
    ap (λ t. cond t ((q, b) ∷ with_process p r (ranked b qs ++ pairs_from (b + 1) lists)) ((p, r) ∷ (q, b) ∷ (ranked b qs ++ pairs_from (b + 1) lists))) (lt-leb b r l)

-- a process put after those of its rank
pub pairs_more : (b k p : ℕ) (lists : List (List ℕ)) → k < length lists → pairs_from b (set lists k (get_or lists k [] ++ p ∷ [])) ≡ with_process p (b + k) (pairs_from b lists)
pairs_more b k p [] l = absurd (omega arith)
pairs_more b zero p (ps ∷ lists) l =
    let e : b + 0 ≡ b = omega arith in
    ap (λ xs. xs ++ pairs_from (b + 1) lists) (map-append (λ q. (q, b)) ps (p ∷ [])) ∙ append_assoc (ranked b ps) ((p, b) ∷ []) (pairs_from (b + 1) lists) ∙ sym (ap (λ xs. ranked b ps ++ xs) (before_ranked p b (b + 1) lists (omega arith))) ∙ sym (past_ranked p b b ps (pairs_from (b + 1) lists) (omega arith)) ∙ ap (λ r. with_process p r (ranked b ps ++ pairs_from (b + 1) lists)) (sym e)
pairs_more b (suc k) p (ps ∷ lists) l =
    let e : b + 1 + k ≡ b + suc k = omega arith in
    ap (λ xs. ranked b ps ++ xs) (pairs_more (b + 1) k p lists (omega arith) ∙ ap (λ r. with_process p r (pairs_from (b + 1) lists)) e) ∙ sym (past_ranked p (b + suc k) b ps (pairs_from (b + 1) lists) (omega arith))

-- the first of the first list that is not empty is the first of all
pub pairs_first : (b k p : ℕ) (ps : List ℕ) (lists : List (List ℕ)) → k < length lists → get_or lists k [] ≡ p ∷ ps → ((j : ℕ) → j < k → get_or lists j [] ≡ []) → pairs_from b lists ≡ (p, b + k) ∷ pairs_from b (set lists k ps)
pairs_first b k p ps [] l is none = absurd (omega arith)
pairs_first b zero p ps (qs ∷ lists) l is none =
    let e : b ≡ b + 0 = omega arith in
    ap (λ xs. ranked b xs ++ pairs_from (b + 1) lists) is ∙ ap (λ r. (p, r) ∷ (ranked b ps ++ pairs_from (b + 1) lists)) e
pairs_first b (suc k) p ps (qs ∷ lists) l is none =
    let e : b + 1 + k ≡ b + suc k = omega arith in
    let empty : qs ≡ [] = none 0 (omega arith) in
    ap (λ xs. ranked b xs ++ pairs_from (b + 1) lists) empty ∙ pairs_first (b + 1) k p ps lists (omega arith) is (λ j below. none (suc j) (omega arith)) ∙ ap (λ r. (p, r) ∷ pairs_from (b + 1) (set lists k ps)) e ∙ ap (λ xs. (p, b + suc k) ∷ (ranked b xs ++ pairs_from (b + 1) (set lists k ps))) (sym empty)

-- no process at all
pub pairs_none : (b : ℕ) (lists : List (List ℕ)) → ((j : ℕ) → j < length lists → get_or lists j [] ≡ []) → pairs_from b lists ≡ []
pairs_none b [] none = refl
pairs_none b (ps ∷ lists) none =
    ap (λ xs. ranked b xs ++ pairs_from (b + 1) lists) (none 0 (omega arith)) ∙ pairs_none (b + 1) lists (λ j below. none (suc j) (omega arith))

-- the processes of lists, in order
abbrev all_of : List (List ℕ) → List ℕ
all_of [] = []
all_of (ps ∷ lists) = ps ++ all_of lists

names_ranked : (b : ℕ) (ps : List ℕ) (xs : List (ℕ × ℕ)) → map (λ (x : ℕ × ℕ). x.0) (ranked b ps ++ xs) ≡ ps ++ map (λ (x : ℕ × ℕ). x.0) xs
names_ranked b [] xs = refl
names_ranked b (p ∷ ps) xs = ap (λ ys. p ∷ ys) (names_ranked b ps xs)

names_are : (b : ℕ) (lists : List (List ℕ)) → map (λ (x : ℕ × ℕ). x.0) (pairs_from b lists) ≡ all_of lists
names_are b [] = refl
names_are b (ps ∷ lists) = names_ranked b ps (pairs_from (b + 1) lists) ∙ ap (λ ys. ps ++ ys) (names_are (b + 1) lists)

has_all : (p k : ℕ) (lists : List (List ℕ)) → k < length lists → has p (get_or lists k []) ≡ true → has p (all_of lists) ≡ true
has_all p k [] l h = absurd (omega arith)
has_all p zero (ps ∷ lists) l h = has_left p ps (all_of lists) h
has_all p (suc k) (ps ∷ lists) l h = has_right p ps (all_of lists) (has_all p k lists (omega arith) h)

all_has : (p : ℕ) (lists : List (List ℕ)) → has p (all_of lists) ≡ true → (k : ℕ) × (k < length lists) × (has p (get_or lists k []) ≡ true)
all_has p [] h = absurd (true≢false (sym h))
all_has p (ps ∷ lists) h =
    ⊎_elim
    (λ here. (0, omega arith, here))
    (λ later. let k = all_has p lists later in (suc k.0, omega (arith, k.1), k.2))
    (has_either p ps (all_of lists) h)

pub waiting_at : (p k : ℕ) (lists : List (List ℕ)) → k < length lists → has p (get_or lists k []) ≡ true → is_waiting p (pairs_from 0 lists) ≡ true
waiting_at p k lists l h = ap (has p) (names_are 0 lists) ∙ has_all p k lists l h

pub not_waiting : (p : ℕ) (lists : List (List ℕ)) → ((k : ℕ) → k < length lists → has p (get_or lists k []) ≡ true → ⊥) → is_waiting p (pairs_from 0 lists) ≡ false
not_waiting p lists none = ap (has p) (names_are 0 lists) ∙ false_from_ne_true (has p (all_of lists)) (λ h. let k = all_has p lists h in none k.0 k.1 k.2)

once_all : (lists : List (List ℕ)) → ((k : ℕ) → k < length lists → IsOnce (get_or lists k [])) → ((p j k : ℕ) → j < length lists → k < length lists → has p (get_or lists j []) ≡ true → has p (get_or lists k []) ≡ true → j ≡ k) → IsOnce (all_of lists)
once_all [] each apart = tt
once_all (ps ∷ lists) each apart =
    once_both ps (all_of lists) (each 0 (omega arith))
    (once_all lists (λ k l. each (suc k) (omega arith)) (λ p j k l m h g. let e : suc j ≡ suc k = apart p (suc j) (suc k) (omega arith) (omega arith) h g in omega arith))
    (λ p a b. let k = all_has p lists b in let e : 0 ≡ suc k.0 = apart p 0 (suc k.0) (omega arith) (omega (arith, k.1)) a k.2 in absurd (omega arith))

pub pairs_once : (lists : List (List ℕ)) → ((k : ℕ) → k < length lists → IsOnce (get_or lists k [])) → ((p j k : ℕ) → j < length lists → k < length lists → has p (get_or lists j []) ≡ true → has p (get_or lists k []) ≡ true → j ≡ k) → AreOnce (pairs_from 0 lists)
pairs_once lists each apart = subst IsOnce (sym (names_are 0 lists)) (once_all lists each apart)

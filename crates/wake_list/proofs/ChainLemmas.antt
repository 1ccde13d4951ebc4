-- What a written link does to the processes of a queue.
use Rattle.std.proofs.Common.{◌≡◌, ◌∙◌, ℕ, zero, suc, ◌+◌, ◌-◌, ◌<◌, true, false, eqb, List, [], ◌∷◌, ◌++◌, length, get_or, set, refl, sym, ap, subst, arith}
use Rattle.std.proofs.lemmas.Bool.{both_ways, eqb-false, or_parts, or_right}
use Rattle.std.proofs.lemmas.List.{get_or-set_other, get_or-set_same}
use Rattle.wake_list.specs.Members.{IsOnce, has}
use Rattle.wake_list.specs.Queues.{chain, last_of}
use Rattle.wake_list.proofs.MemberLemmas.{has_first}

pub length-chain : (links : List ℕ) (p n : ℕ) → length (chain links p n) ≡ n
length-chain links p zero = refl
length-chain links p (suc n) = ap suc (length-chain links (get_or links p 0) n)

pub last_in : (p : ℕ) (ps : List ℕ) → has (last_of p ps) (p ∷ ps) ≡ true
last_in p [] = has_first p []
last_in p (q ∷ qs) = or_right (eqb (last_of q qs) p) (has (last_of q qs) (q ∷ qs)) (last_in q qs)

pub last_push : (d p : ℕ) (ps : List ℕ) → last_of d (ps ++ p ∷ []) ≡ p
last_push d p [] = refl
last_push d p (q ∷ qs) = last_push q p qs

-- the link of a process that is not in it
pub chain_other : (links : List ℕ) (l v p n : ℕ) → has l (chain links p n) ≡ false → chain (set links l v) p n ≡ chain links p n
chain_other links l v p zero h = refl
chain_other links l v p (suc n) h =
    let q = get_or links p 0 in
    let parts = or_parts (eqb l p) (has l (chain links q n)) h in
    let next : get_or (set links l v) p 0 ≡ q = get_or-set_other links l p v 0 (λ e. eqb-false l p parts.0 (sym e)) in
    ap (λ m. p ∷ chain (set links l v) m n) next ∙ ap (λ ps. p ∷ ps) (chain_other links l v q n parts.1)

-- the link of its last one
chain_more : (links : List ℕ) (l v p n : ℕ) → l < length links → IsOnce (chain links p (suc n)) → last_of l (chain links p (suc n)) ≡ l → chain (set links l v) p (suc (suc n)) ≡ chain links p (suc n) ++ v ∷ []
chain_more links l v p zero inside once last =
    ap (λ m. p ∷ m ∷ []) (ap (λ m. get_or (set links l v) m 0) last ∙ get_or-set_same links l v 0 inside)
chain_more links l v p (suc n) inside once last =
    let q = get_or links p 0 in
    let there : has l (chain links q (suc n)) ≡ true = subst (λ m. has m (chain links q (suc n)) ≡ true) last (last_in q (chain links (get_or links q 0) n)) in
    let apart : p ≡ l → ⊥ = λ e. both_ways (has l (chain links q (suc n))) (subst (λ m. has m (chain links q (suc n)) ≡ false) e once.0) there in
    let next : get_or (set links l v) p 0 ≡ q = get_or-set_other links l p v 0 apart in
    ap (λ m. p ∷ chain (set links l v) m (suc (suc n))) next ∙ ap (λ ps. p ∷ ps) (chain_more links l v q n inside once.1 last)

pub chain_longer : (links : List ℕ) (l v p n : ℕ) → (n ≡ 0 → ⊥) → l < length links → IsOnce (chain links p n) → last_of l (chain links p n) ≡ l → chain (set links l v) p (n + 1) ≡ chain links p n ++ v ∷ []
chain_longer links l v p zero some inside once last = absurd (some refl)
chain_longer links l v p (suc n) some inside once last =
    let e : suc n + 1 ≡ suc (suc n) = omega arith in
    ap (chain (set links l v) p) e ∙ chain_more links l v p n inside once last

-- the first one, and the rest
pub chain_first : (links : List ℕ) (p n : ℕ) → 0 < n → chain links p n ≡ p ∷ chain links (get_or links p 0) (n - 1)
chain_first links p zero h = absurd (omega arith)
chain_first links p (suc n) h =
    let e : n ≡ suc n - 1 = omega arith in
    ap (λ m. p ∷ chain links (get_or links p 0) m) e

-- the last one stays where the first is taken out
pub last_rest : (l p : ℕ) (ps : List ℕ) → last_of l (p ∷ ps) ≡ l → last_of l ps ≡ l
last_rest l p [] h = refl
last_rest l p (q ∷ qs) h = h

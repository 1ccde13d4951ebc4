-- How many words are not wholly sure.
use Rattle.std.proofs.Common.{None, ◌≡◌, ℕ, zero, suc, ◌+◌, ◌<◌, ◌≤◌, ◌==◌, ◌&&◌, Bool, true, false, not, if◌then◌else◌, List, [], ◌∷◌, length, set, replicate, refl, ap, ap₂, ◌∙◌, arith}
use Rattle.std.specs.Prelude.{filter}
use Rattle.std.proofs.lemmas.Bool.{eqb-true, false_from_ne_true}
use Rattle.known_state.specs.Partly.{are_sure}
use Rattle.store_knowledge.specs.body_replay.KnownBits.{KnownBits}
use Rattle.step_words.specs.Changes.{are_whole, count_unsure, word_in}

-- 1 for a word that is not wholly sure
abbrev pub unsure : KnownBits → ℕ
unsure w = if are_sure w then 0 else 1

pub count_more : (w : KnownBits) (ws : List KnownBits) → count_unsure (w ∷ ws) ≡ unsure w + count_unsure ws
count_more w ws = go (are_sure w)
  where
    go : (t : Bool) → length (if not t then w ∷ filter (λ w. not (are_sure w)) ws else filter (λ w. not (are_sure w)) ws) ≡ (if t then 0 else 1) + count_unsure ws
    go true = omega arith
    go false = omega arith

-- another word in the place of one
pub count_set : (ws : List KnownBits) (q : ℕ) (now : KnownBits) → q < length ws → count_unsure (set ws q now) + unsure (word_in ws q) ≡ count_unsure ws + unsure now
count_set [] q now l = absurd (omega (arith, l))
count_set (w ∷ ws) zero now l = let a = count_more now ws in let b = count_more w ws in omega (arith, a, b)
count_set (w ∷ ws) (suc q) now l = let a = count_more w (set ws q now) in let b = count_more w ws in let rest = count_set ws q now (omega (arith, l)) in omega (arith, a, b, rest)

-- one that is not sure is counted
pub count_one : (ws : List KnownBits) (q : ℕ) → q < length ws → unsure (word_in ws q) ≤ count_unsure ws
count_one [] q l = absurd (omega (arith, l))
count_one (w ∷ ws) zero l = let b = count_more w ws in omega (arith, b)
count_one (w ∷ ws) (suc q) l = let b = count_more w ws in let rest = count_one ws q (omega (arith, l)) in omega (arith, b, rest)

pub count_within : (ws : List KnownBits) → count_unsure ws ≤ length ws
count_within [] = omega arith
count_within (w ∷ ws) = let b = count_more w ws in let rest = count_within ws in let one = at_most (are_sure w) in omega (arith, b, rest, one)
  where
    at_most : (t : Bool) → (if t then 0 else 1) ≤ 1
    at_most true = omega arith
    at_most false = omega arith

-- none is counted where all are sure
pub none_counted : (ws : List KnownBits) → (count_unsure ws == 0) ≡ are_whole ws
none_counted [] = refl
none_counted (w ∷ ws) = ap (λ n. n == 0) (count_more w ws) ∙ go (are_sure w) (none_counted ws)
  where
    go : (t : Bool) → (count_unsure ws == 0) ≡ are_whole ws → ((if t then 0 else 1) + count_unsure ws == 0) ≡ (t && are_whole ws)
    go true h = let none : 0 + count_unsure ws ≡ count_unsure ws = omega arith in ap (λ n. n == 0) none ∙ h
    go false h = false_from_ne_true _ (λ e. let none : 1 + count_unsure ws ≡ 0 = eqb-true (1 + count_unsure ws) 0 e in omega (arith, none))

-- so many words that are not sure
pub count_same : (n : ℕ) (w : KnownBits) → are_sure w ≡ false → count_unsure (replicate n w) ≡ n
count_same zero w e = refl
count_same (suc n) w e =
    let last : 1 + n ≡ suc n = omega arith in
    count_more w (replicate n w) ∙ ap₂ (λ (t : Bool) (m : ℕ). (if t then 0 else 1) + m) e (count_same n w e) ∙ last

-- no bit of a word of which nothing is known is sure
pub none_sure : (w : ℕ) → 1 ≤ w → are_sure (replicate w None) ≡ false
none_sure zero l = absurd (omega (arith, l))
none_sure (suc w) l = refl

-- What is decided by finitely many tests.
use Rattle.std.proofs.Common.{◌≡◌, ◌⊎◌, inl, inr, ⊎_elim, ℕ, zero, suc, ◌+◌, ◌<◌, ◌≤◌, Bool, true, false, ◌||◌, ◌&&◌, refl, sym, subst, arith, if◌then◌else◌}
use Rattle.std.proofs.lemmas.Bool.{cases_lt, false≢true, or_cases, or_left, or_right, both_ways}

-- it holds or it does not
abbrev pub Dec : Type 0 → Type 0
Dec P = P ⊎ (P → ⊥)

pub dec_bool : (b : Bool) → Dec (b ≡ true)
dec_bool true = inl refl
dec_bool false = inr (λ e. false≢true e)

pub dec_map : {P Q : Type 0} → (P → Q) → (Q → P) → Dec P → Dec Q
dec_map f g (inl p) = inl (f p)
dec_map f g (inr n) = inr (λ q. n (g q))

pub dec_and : {P Q : Type 0} → Dec P → Dec Q → Dec (P × Q)
dec_and (inl p) (inl q) = inl (p, q)
dec_and (inl p) (inr n) = inr (λ h. n h.1)
dec_and (inr n) q = inr (λ h. n h.0)

pub dec_or : {P Q : Type 0} → Dec P → Dec Q → Dec (P ⊎ Q)
dec_or (inl p) q = inl (inl p)
dec_or (inr n) (inl q) = inl (inr q)
dec_or (inr n) (inr k) = inr (λ h. ⊎_elim n k h)

pub dec_if : {P Q : Type 0} → Dec P → Dec Q → Dec (P → Q)
dec_if p (inl q) = inl (λ h. q)
dec_if (inl p) (inr n) = inr (λ f. n (f p))
dec_if (inr n) (inr k) = inl (λ h. absurd (n h))

pub dec_not : {P : Type 0} → Dec P → Dec (P → ⊥)
dec_not (inl p) = inr (λ n. n p)
dec_not (inr n) = inl n

-- below the next number
pub below_next : (k n : ℕ) → k < suc n → (k ≡ n) ⊎ (k < n)
below_next k n lt = ⊎_elim (λ less. inr less) (λ most. inl (omega (arith, lt, most))) (cases_lt k n)

-- some number below n has P
pub dec_some : (n : ℕ) (P : ℕ → Type 0) → ((k : ℕ) → Dec (P k)) → Dec ((k : ℕ) × (k < n) × P k)
dec_some zero P test = inr (λ h. omega (arith, h.1))
dec_some (suc n) P test = go (test n) (dec_some n P test)
  where
    go : Dec (P n) → Dec ((k : ℕ) × (k < n) × P k) → Dec ((k : ℕ) × (k < suc n) × P k)
    go (inl p) later = inl (n, omega arith, p)
    go (inr none) (inl some) = inl (some.0, omega (arith, some.1), some.2)
    go (inr none) (inr never) = inr (λ h. ⊎_elim (λ e. none (subst P e h.2)) (λ lt. never (h.0, lt, h.2)) (below_next h.0 n h.1))

-- each number below n has P
pub dec_each : (n : ℕ) (P : ℕ → Type 0) → ((k : ℕ) → Dec (P k)) → Dec ((k : ℕ) → k < n → P k)
dec_each n P test = go (dec_some n (λ k. P k → ⊥) (λ k. dec_not (test k)))
  where
    go : Dec ((k : ℕ) × (k < n) × (P k → ⊥)) → Dec ((k : ℕ) → k < n → P k)
    go (inl some) = inr (λ all. some.2 (all some.0 some.1))
    go (inr none) = inl (λ k lt. ⊎_elim (λ p. p) (λ never. absurd (none (k, lt, never))) (test k))

-- the test of what is decided
abbrev pub holds : {P : Type 0} → Dec P → Bool
holds (inl p) = true
holds (inr n) = false

pub holds_from : {P : Type 0} (x : Dec P) → P → holds x ≡ true
holds_from (inl p) q = refl
holds_from (inr n) q = absurd (n q)

pub from_holds : {P : Type 0} (x : Dec P) → holds x ≡ true → P
from_holds (inl p) e = p
from_holds (inr n) e = absurd (false≢true e)

-- some number below n passes the test
abbrev pub any_below : ℕ → (ℕ → Bool) → Bool
any_below zero f = false
any_below (suc n) f = f n || any_below n f

pub any_below_from : (n : ℕ) (f : ℕ → Bool) (k : ℕ) → k < n → f k ≡ true → any_below n f ≡ true
any_below_from zero f k lt e = absurd (omega (arith, lt))
any_below_from (suc n) f k lt e = ⊎_elim (λ is. or_left (f n) _ (subst (λ j. f j ≡ true) is e)) (λ less. or_right (f n) _ (any_below_from n f k less e)) (below_next k n lt)

pub from_any_below : (n : ℕ) (f : ℕ → Bool) → any_below n f ≡ true → (k : ℕ) × (f k ≡ true)
from_any_below zero f e = absurd (false≢true e)
from_any_below (suc n) f e = ⊎_elim (λ here. (n, here)) (λ later. from_any_below n f later) (or_cases (f n) _ e)

-- how many numbers below n pass the test
abbrev pub count : (ℕ → Bool) → ℕ → ℕ
count f zero = 0
count f (suc n) = (if f n then 1 else 0) + count f n

pub count_most : (f : ℕ → Bool) (n : ℕ) → count f n ≤ n
count_most f zero = omega arith
count_most f (suc n) = go (f n) (count_most f n)
  where
    go : (b : Bool) → count f n ≤ n → (if b then 1 else 0) + count f n ≤ suc n
    go true most = omega (arith, most)
    go false most = omega (arith, most)

module _ (f g : ℕ → Bool) (sub : (x : ℕ) → f x ≡ true → g x ≡ true) where
  pub count_less : (n : ℕ) → count f n ≤ count g n
  count_less zero = omega arith
  count_less (suc n) = go (f n) (g n) (sub n) (count_less n)
    where
      go : (a b : Bool) → (a ≡ true → b ≡ true) → count f n ≤ count g n → (if a then 1 else 0) + count f n ≤ (if b then 1 else 0) + count g n
      go true true s less = omega (arith, less)
      go true false s less = absurd (false≢true (s refl))
      go false true s less = omega (arith, less)
      go false false s less = omega (arith, less)

  -- the two pass the same numbers below n, or the second passes more
  pub same_or_more : (n : ℕ) → ((x : ℕ) → x < n → g x ≡ true → f x ≡ true) ⊎ (count f n < count g n)
  same_or_more zero = inl (λ x lt e. absurd (omega (arith, lt)))
  same_or_more (suc n) = go (f n) (g n) refl refl (sub n) (same_or_more n)
    where
      go : (a b : Bool) → f n ≡ a → g n ≡ b → (a ≡ true → b ≡ true) → ((x : ℕ) → x < n → g x ≡ true → f x ≡ true) ⊎ (count f n < count g n) → ((x : ℕ) → x < suc n → g x ≡ true → f x ≡ true) ⊎ ((if a then 1 else 0) + count f n < (if b then 1 else 0) + count g n)
      go true true ea eb s (inl same) = inl (λ x lt e. ⊎_elim (λ is. subst (λ y. f y ≡ true) (sym is) ea) (λ less. same x less e) (below_next x n lt))
      go true true ea eb s (inr more) = inr (omega (arith, more))
      go true false ea eb s either = absurd (false≢true (s refl))
      go false true ea eb s either = inr (omega (arith, count_less n))
      go false false ea eb s (inl same) = inl (λ x lt e. ⊎_elim (λ is. absurd (both_ways _ eb (subst (λ y. g y ≡ true) is e))) (λ less. same x less e) (below_next x n lt))
      go false false ea eb s (inr more) = inr (omega (arith, more))

-- what is reached from the base in so many turns, through numbers below n
module _ (n : ℕ) (base : ℕ → Bool) (rel : ℕ → ℕ → Bool) where
  abbrev pub turns_reach : ℕ → ℕ → Bool
  turns_reach zero x = base x
  turns_reach (suc k) x = turns_reach k x || any_below n (λ y. turns_reach k y && rel y x)

  -- after some turns nothing below n is added
  closes : (fuel k : ℕ) → n < fuel + count (turns_reach k) n → (j : ℕ) × ((x : ℕ) → x < n → turns_reach (suc j) x ≡ true → turns_reach j x ≡ true)
  closes zero k lt = absurd (omega (arith, lt, count_most (turns_reach k) n))
  closes (suc fuel) k lt = go (same_or_more (turns_reach k) (turns_reach (suc k)) (λ x e. or_left (turns_reach k x) _ e) n) (closes fuel (suc k))
    where
      go : ((x : ℕ) → x < n → turns_reach (suc k) x ≡ true → turns_reach k x ≡ true) ⊎ (count (turns_reach k) n < count (turns_reach (suc k)) n) → (n < fuel + count (turns_reach (suc k)) n → (j : ℕ) × ((x : ℕ) → x < n → turns_reach (suc j) x ≡ true → turns_reach j x ≡ true)) → (j : ℕ) × ((x : ℕ) → x < n → turns_reach (suc j) x ≡ true → turns_reach j x ≡ true)
      go (inl same) later = (k, same)
      go (inr more) later = later (omega (arith, lt, more))

  pub closed_turn : (j : ℕ) × ((x : ℕ) → x < n → turns_reach (suc j) x ≡ true → turns_reach j x ≡ true)
  closed_turn = closes (suc n) 0 (omega arith)

  pub base_reached : (j x : ℕ) → base x ≡ true → turns_reach j x ≡ true
  base_reached zero x e = e
  base_reached (suc j) x e = or_left (turns_reach j x) _ (base_reached j x e)

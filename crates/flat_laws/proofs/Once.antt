-- Lists in which each has a number of its own, within bounds.
use Rattle.std.proofs.Common.{◌≡◌, ◌⊎◌, inl, inr, ℕ, ◌<◌, ◌≤◌, List, [], ◌∷◌, ◌++◌, sym, ◌∙◌, arith}
use Rattle.design_model.specs.Design.{In}
use Rattle.flat_laws.proofs.Members.{in_append}

-- each has a number from low on and below high, and two of one number are one
pub record Once {A : Type 0} (number : A → ℕ) (low high : ℕ) (xs : List A) : Type 0 where
  pub within : (x : A) → In x xs → (low ≤ number x) × (number x < high)
  pub same : (x y : A) → In x xs → In y xs → number x ≡ number y → x ≡ y

-- one range is before the other, and both within a third
pub record AreInOrder (low a b c d high : ℕ) : Type 0 where
  pub first : low ≤ a
  pub second : low ≤ c
  pub before : b ≤ c
  pub first_high : b ≤ high
  pub second_high : d ≤ high

pub once_none : {A : Type 0} (number : A → ℕ) (low high : ℕ) → Once number low high []
once_none number low high = record { within = λ x h. absurd h; same = λ x y h k e. absurd h }

pub once_one : {A : Type 0} (number : A → ℕ) (low high : ℕ) (x : A) → low ≤ number x → number x < high → Once number low high (x ∷ [])
once_one {A = A} number low high x from below = record { within = within; same = same }
  where
    within : (y : A) → In y (x ∷ []) → (low ≤ number y) × (number y < high)
    within y (inl e) = rw (← e) (from, below)
    within y (inr h) = absurd h

    same : (y z : A) → In y (x ∷ []) → In z (x ∷ []) → number y ≡ number z → y ≡ z
    same y z (inl e) (inl f) k = sym e ∙ f
    same y z (inl e) (inr h) k = absurd h
    same y z (inr h) f k = absurd h

-- what is among these
pub once_among : {A : Type 0} (number : A → ℕ) (low high : ℕ) (xs ys : List A) → ((x : A) → In x xs → In x ys) → Once number low high ys → Once number low high xs
once_among number low high xs ys among h = record { within = λ x k. h.within x (among x k); same = λ x y k l e. h.same x y (among x k) (among y l) e }

pub once_wider : {A : Type 0} (number : A → ℕ) (low high a b : ℕ) (xs : List A) → a ≤ low → high ≤ b → Once number low high xs → Once number a b xs
once_wider {A = A} number low high a b xs p q h = record { within = within; same = h.same }
  where
    within : (x : A) → In x xs → (a ≤ number x) × (number x < b)
    within x k =
        let from : low ≤ number x = (h.within x k).0 in
        let below : number x < high = (h.within x k).1 in
        (omega arith, omega arith)

pub once_join : {A : Type 0} (number : A → ℕ) (low a b c d high : ℕ) (xs ys : List A) → AreInOrder low a b c d high → Once number a b xs → Once number c d ys → Once number low high (xs ++ ys)
once_join {A = A} number low a b c d high xs ys order h k = record { within = λ x l. within x (in_append x xs ys l); same = λ x y l m e. same x y (in_append x xs ys l) (in_append y xs ys m) e }
  where
    within : (x : A) → In x xs ⊎ In x ys → (low ≤ number x) × (number x < high)
    within x (inl l) =
        let from : a ≤ number x = (h.within x l).0 in
        let below : number x < b = (h.within x l).1 in
        (omega arith, omega arith)
    within x (inr l) =
        let from : c ≤ number x = (k.within x l).0 in
        let below : number x < d = (k.within x l).1 in
        (omega arith, omega arith)

    same : (x y : A) → In x xs ⊎ In x ys → In y xs ⊎ In y ys → number x ≡ number y → x ≡ y
    same x y (inl l) (inl m) e = h.same x y l m e
    same x y (inr l) (inr m) e = k.same x y l m e
    same x y (inl l) (inr m) e =
        let below : number x < b = (h.within x l).1 in
        let from : c ≤ number y = (k.within y m).0 in
        absurd (omega arith)
    same x y (inr l) (inl m) e =
        let below : number y < b = (h.within y m).1 in
        let from : c ≤ number x = (k.within x l).0 in
        absurd (omega arith)

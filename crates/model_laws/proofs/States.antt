-- States that agree with a map, made of states for the things of one signal or memory each.
use Rattle.std.proofs.Common.{◌≡◌, ◌⊎◌, inl, inr, ⊎_elim, ℕ, zero, suc, ◌+◌, ◌<◌, ◌≤◌, ◌==◌, Bool, true, false, List, [], ◌∷◌, length, refl, sym, ap, ap₂, subst, ◌∙◌, arith, eq-eqb, if◌then◌else◌}
use Rattle.std.specs.Prelude.{nat_le}
use Rattle.std.proofs.lemmas.Bool.{and_parts, both_ways, cases_Bool, cases_lt, eqb-true, ltb-true}
use Rattle.design_model.specs.event_machine.Cell.{Cell, Values}
use Rattle.design_model.specs.four_state.Vector.{same_bit}
use Rattle.design_model.specs.four_state.declared.bit.Bit.{Bit}
use Rattle.design_model.specs.Design.{Design, IsThing, Thing, a_signal, a_word, owner, thing_bits}
use Rattle.design_model.specs.Reads.{PartialMap}
use Rattle.design_model.proofs.Lawful.{same_bit_is, same_bit_self}
use Rattle.design_model.proofs.Sound.{cells_eq}

-- it cannot be that a statement neither holds nor fails
pub middle : (P : Type 0) → (P ⊎ (P → ⊥) → ⊥) → ⊥
middle P k = k (inr (λ x. k (inl x)))

-- the second values on the cells of one thing's number, the first elsewhere
abbrev pub with_thing : ℕ → Values Bit → Values Bit → Values Bit
with_thing o v w c = if c.thing == o then w c else v c

pub with_here : (o : ℕ) (v w : Values Bit) (c : Cell) → c.thing ≡ o → with_thing o v w c ≡ w c
with_here o v w c e = ap (λ b. if b then w c else v c) (eq-eqb c.thing o e)

pub with_away : (o : ℕ) (v w : Values Bit) (c : Cell) → (c.thing ≡ o → ⊥) → with_thing o v w c ≡ v c
with_away o v w c ne = go (c.thing == o) refl
  where
    go : (b : Bool) → (c.thing == o) ≡ b → (if b then w c else v c) ≡ v c
    go true e = absurd (ne (eqb-true c.thing o e))
    go false e = refl

-- the state has the map's values of the things with this number
abbrev pub Serves : Design → PartialMap → ℕ → Values Bit → Type 0
Serves d K o v = (x : Thing) (bits : List Bit) → owner x ≡ o → K x bits → thing_bits d v x ≡ bits

-- where no number lacks its state, some state serves them all
pub combine : (d : Design) (K : PartialMap) → ((o : ℕ) → ((v : Values Bit) → Serves d K o v → ⊥) → ⊥) → Values Bit → (n : ℕ) → ((v : Values Bit) → ((o : ℕ) → o < n → Serves d K o v) → ⊥) → ⊥
combine d K each any zero done = done any (λ o below. absurd (omega (arith, below)))
combine d K each any (suc n) done = combine d K each any n (λ v all. each n (λ w last. done (with_thing n v w) (λ o below. go v w all last o below)))
  where
    go : (v w : Values Bit) → ((o : ℕ) → o < n → Serves d K o v) → Serves d K n w → (o : ℕ) → o < suc n → Serves d K o (with_thing n v w)
    go v w all last o below x bits own k = ⊎_elim before here (cases_lt o n)
      where
        before : o < n → thing_bits d (with_thing n v w) x ≡ bits
        before less = cells_eq d (with_thing n v w) v x (λ c is. with_away n v w c (λ e. apart (sym own ∙ sym is ∙ e) less)) ∙ all o less x bits own k
          where
            apart : o ≡ n → o < n → ⊥
            apart e less = omega (arith, e, less)

        here : n ≤ o → thing_bits d (with_thing n v w) x ≡ bits
        here over =
            let same : o ≡ n = omega (arith, over, below) in
            cells_eq d (with_thing n v w) w x (λ c is. with_here n v w c (is ∙ own ∙ same)) ∙ last x bits (own ∙ same) k

-- the numbers of things
pub owner_below : (d : Design) (x : Thing) → IsThing d x → owner x < length d.signals + length d.memories
owner_below d (a_signal s) is = omega (arith, is)
owner_below d (a_word m i) is = ltb-true m (length d.signals + length d.memories) (and_parts (nat_le (length d.signals) m) _ is.0).1

-- lists of bits are equal or not
pub bits_or : (a b : List Bit) → (a ≡ b) ⊎ (a ≡ b → ⊥)
bits_or [] [] = inl refl
bits_or [] (y ∷ ys) = inr (λ e. cc)
bits_or (x ∷ xs) [] = inr (λ e. cc)
bits_or (x ∷ xs) (y ∷ ys) = ⊎_elim (λ e. rest (same_bit_is x y e) (bits_or xs ys)) (λ e. inr (λ same. apart e (ap (first_or x) same))) (cases_Bool (same_bit x y))
  where
    first_or : Bit → List Bit → Bit
    first_or b [] = b
    first_or b (c ∷ cs) = c

    rest_of : List Bit → List Bit
    rest_of [] = []
    rest_of (c ∷ cs) = cs

    apart : same_bit x y ≡ false → x ≡ y → ⊥
    apart e is = both_ways _ e (subst (λ z. same_bit x z ≡ true) is (same_bit_self x))

    rest : x ≡ y → (xs ≡ ys) ⊎ (xs ≡ ys → ⊥) → (x ∷ xs ≡ y ∷ ys) ⊎ (x ∷ xs ≡ y ∷ ys → ⊥)
    rest is (inl e) = inl (ap₂ (λ b bs. b ∷ bs) is e)
    rest is (inr ne) = inr (λ e. ne (ap rest_of e))

-- where each of n has its round, and rounds keep what they have, there is a round for all
pub some_round : (n : ℕ) (P : ℕ → ℕ → Type 0) → ((a b k : ℕ) → a ≤ b → P a k → P b k) → ((k : ℕ) → ((a : ℕ) → P a k → ⊥) → ⊥) → ((a : ℕ) → ((k : ℕ) → k < n → P a k) → ⊥) → ⊥
some_round zero P up each done = done 0 (λ k below. absurd (omega (arith, below)))
some_round (suc n) P up each done =
    some_round n P up each
    (λ a all.
    each n
    (λ b last.
    done (a + b)
    (λ k below.
    ⊎_elim
    (λ less. up a (a + b) k (omega arith) (all k less))
    (λ over. subst (P (a + b)) (same k below over) (up b (a + b) n (omega arith) last))
    (cases_lt k n))))
  where
    same : (k : ℕ) → k < suc n → n ≤ k → n ≡ k
    same k below over = omega (arith, below, over)

-- The bits of a signal before and after a step.
use Rattle.std.proofs.Common.{◌≡◌, ◌≢◌, ℕ, zero, suc, ◌+◌, ◌<◌, ◌≤◌, Bool, true, false, List, [], ◌∷◌, map, get_or, refl, ap, ap₂, subst, arith}
use Rattle.std.specs.List.{range_with_len}
use Rattle.std.proofs.lemmas.Bool.{both_ways}
use Rattle.event_machine.specs.Cell.{Cell, Values}
use Rattle.four_state.specs.Vector.{same_bit}
use Rattle.four_state.specs.declared.bit.Bit.{Bit}
use Rattle.four_state.specs.declared.bit.Bit.TheVariants.{X}
use Rattle.step_values.proofs.design_model.Lawful.{same_bit_is, same_bit_self}

abbrev rest : List Bit → List Bit
rest [] = []
rest (b ∷ bs) = bs

module _ (old new : Values Bit) (f : ℕ → Cell) where
  -- where the rows are the same, so is each bit
  pub same_at : (a w : ℕ) → map old (map f (range_with_len a w)) ≡ map new (map f (range_with_len a w)) → (j : ℕ) → j < w → old (f (a + j)) ≡ new (f (a + j))
  same_at a zero e j l = absurd (omega (arith, l))
  same_at a (suc w) e zero l = let start : a ≡ a + 0 = omega arith in subst (λ i. old (f i) ≡ new (f i)) start (ap (λ bs. get_or bs 0 X) e)
  same_at a (suc w) e (suc j) l = let next : a + 1 + j ≡ a + suc j = omega arith in subst (λ i. old (f i) ≡ new (f i)) next (same_at (a + 1) w (ap rest e) j (omega (arith, l)))

  -- where they are not, some bit is not
  pub apart_at : (a w : ℕ) → (map old (map f (range_with_len a w)) ≡ map new (map f (range_with_len a w)) → ⊥) → (j : ℕ) × (j < w) × (old (f (a + j)) ≢ new (f (a + j)))
  apart_at a zero ne = absurd (ne refl)
  apart_at a (suc w) ne = go (same_bit (old (f a)) (new (f a))) refl (λ h. apart_at (a + 1) w h)
    where
      go : (t : Bool) → same_bit (old (f a)) (new (f a)) ≡ t
          → ((map old (map f (range_with_len (a + 1) w)) ≡ map new (map f (range_with_len (a + 1) w)) → ⊥) → (j : ℕ) × (j < w) × (old (f (a + 1 + j)) ≢ new (f (a + 1 + j))))
          → (j : ℕ) × (j < suc w) × (old (f (a + j)) ≢ new (f (a + j)))
      go false e later =
          let start : a ≡ a + 0 = omega arith in
          (0, omega arith, subst (λ i. old (f i) ≢ new (f i)) start (λ same. both_ways _ e (subst (λ b. same_bit (old (f a)) b ≡ true) same (same_bit_self (old (f a))))))
      go true e later =
          let r = later (λ h. ne (ap₂ (λ (b : Bit) (bs : List Bit). b ∷ bs) (same_bit_is (old (f a)) (new (f a)) e) h)) in
          let next : a + 1 + r.0 ≡ a + suc r.0 = omega arith in
          (suc r.0, omega (arith, r.1), subst (λ i. old (f i) ≢ new (f i)) next r.2)

  -- the first bit of a row
  pub first_at : (w : ℕ) → 1 ≤ w → get_or (map old (map f (range_with_len 0 w))) 0 X ≡ old (f 0)
  first_at zero l = absurd (omega (arith, l))
  first_at (suc w) l = refl

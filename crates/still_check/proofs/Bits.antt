-- What is known of the bits of a signal, beside what the dump says of them.
use Rattle.std.proofs.Common.{◌≡◌, ℕ, zero, suc, ◌+◌, ◌<◌, Bool, true, false, ◌&&◌, not, map, Option, Some, None, refl, sym, ap, subst, ◌∙◌, arith}
use Rattle.std.specs.List.{range_with_len}
use Rattle.std.proofs.lemmas.Bool.{and_parts, false≢true}
use Rattle.event_machine.specs.Cell.{Cell, Values}
use Rattle.four_state.specs.declared.bit.Bit.{Bit}
use Rattle.design_model.proofs.Lawful.{same_bit_is, same_bit_self}
use Rattle.step_values.specs.body_replay.Store.{Kept}
use Rattle.known_state.specs.Partly.{allows_bit, allows_bits}
use Rattle.step_values.specs.replay_model.Step.{surely_differ}

module _ (k : Kept) (new : Values Bit) (f : ℕ → Cell) where
  -- each bit of a row is allowed
  pub allowed : (a w : ℕ) → allows_bits (map k (map f (range_with_len a w))) (map new (map f (range_with_len a w))) ≡ true → (j : ℕ) → j < w → allows_bit (k (f (a + j))) (new (f (a + j))) ≡ true
  allowed a zero e j l = absurd (omega (arith, l))
  allowed a (suc w) e zero l = let start : a ≡ a + 0 = omega arith in subst (λ i. allows_bit (k (f i)) (new (f i)) ≡ true) start (and_parts _ _ e).0
  allowed a (suc w) e (suc j) l = let next : a + 1 + j ≡ a + suc j = omega arith in subst (λ i. allows_bit (k (f i)) (new (f i)) ≡ true) next (allowed (a + 1) w (and_parts _ _ e).1 j (omega (arith, l)))

  -- or some bit is not
  pub differs : (a w : ℕ) → allows_bits (map k (map f (range_with_len a w))) (map new (map f (range_with_len a w))) ≡ false → (j : ℕ) × (j < w) × (allows_bit (k (f (a + j))) (new (f (a + j))) ≡ false)
  differs a zero e = absurd (false≢true (sym e))
  differs a (suc w) e = go (allows_bit (k (f a)) (new (f a))) refl e (λ h. differs (a + 1) w h)
    where
      go : (t : Bool) → allows_bit (k (f a)) (new (f a)) ≡ t → (t && allows_bits (map k (map f (range_with_len (a + 1) w))) (map new (map f (range_with_len (a + 1) w)))) ≡ false
          → (allows_bits (map k (map f (range_with_len (a + 1) w))) (map new (map f (range_with_len (a + 1) w))) ≡ false → (j : ℕ) × (j < w) × (allows_bit (k (f (a + 1 + j))) (new (f (a + 1 + j))) ≡ false))
          → (j : ℕ) × (j < suc w) × (allows_bit (k (f (a + j))) (new (f (a + j))) ≡ false)
      go false h e later = let start : a ≡ a + 0 = omega arith in (0, omega arith, subst (λ i. allows_bit (k (f i)) (new (f i)) ≡ false) start h)
      go true h e later =
          let r = later e in
          let next : a + 1 + r.0 ≡ a + suc r.0 = omega arith in
          (suc r.0, omega (arith, r.1), subst (λ i. allows_bit (k (f i)) (new (f i)) ≡ false) next r.2)

-- a known bit that is allowed is what is known
pub exact : (o : Option Bit) (b : Bit) → (a : Bit) × (o ≡ Some a) → allows_bit o b ≡ true → o ≡ Some b
exact None b known e = absurd (let no : None ≡ Some known.0 = known.1 in cc)
exact (Some x) b known e = ap Some (same_bit_is x b e)

-- a bit that is not allowed surely differs
pub differ_of : (o : Option Bit) (b : Bit) → allows_bit o b ≡ false → surely_differ o (Some b) ≡ true
differ_of None b e = absurd (false≢true (sym e))
differ_of (Some a) b e = ap not e

-- a bit is allowed where it is known
pub allows_own : (o : Option Bit) (b : Bit) → o ≡ Some b → allows_bit o b ≡ true
allows_own o b e = ap (λ (p : Option Bit). allows_bit p b) e ∙ same_bit_self b

-- a bit that is allowed does not surely differ
pub allowed_same : (o : Option Bit) (b : Bit) → allows_bit o b ≡ true → surely_differ o (Some b) ≡ false
allowed_same None b e = refl
allowed_same (Some a) b e = ap not e

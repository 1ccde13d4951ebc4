-- What is read is spelled so.
use Rattle.std.proofs.Common.{◌≡◌, ℕ, zero, suc, Bool, cond, nat_eq, List, [], ◌∷◌, length, Option, Some, None, Ok, refl, subst, inl, inr}
use Rattle.std.specs.Prelude.{◌&&◌}
use Rattle.grammar_rules.specs.Rule.{Language, Tokens, Rule, one, empty, both, either, many, maybe, grow, made, nest, Growth, next, member, first, Outcome, fault_at, too_deep, take_one, repeat, grow_by, read, ◌>>=◌, Chain, Grown, Spells}
use Rattle.grammar_rules.proofs.Members.{and_true}
use Rattle.grammar_rules.proofs.Steps.{bind_ok, chosen, ok_is}
use Rattle.grammar_rules.proofs.Shorter.{taken}

module _ (L : Language) where
  repeat_sound : {A : Type 0} (S : A → Tokens L → Tokens L → Type 0) (ks : List ℕ) (item : Tokens L → Outcome L A) → ((i : Tokens L) (v : A) (o : Tokens L) → item i ≡ Ok (v, o) → S v i o)
      → (n : ℕ) (i : Tokens L) (vs : List A) (o : Tokens L) → repeat L ks item n i ≡ Ok (vs, o) → Chain S vs i o
  unfolding repeat
  repeat_sound {A} S ks item h zero i vs o e = subst (λ (z : List A × Tokens L). Chain S z.0 i z.1) (ok_is ([], i) (vs, o) e) refl
  repeat_sound {A} S ks item h (suc n) i vs o e =
      elim (chosen (member (next L i) ks) (item i >>= λ x. repeat L ks item n x.1 >>= λ y. Ok (x.0 ∷ y.0, y.1)) (Ok ([], i)) (Ok (vs, o)) e) [
        | inl g ↦
            let a = bind_ok (item i) (λ x. repeat L ks item n x.1 >>= λ y. Ok (x.0 ∷ y.0, y.1)) (vs, o) g.1 in
            let b = bind_ok (repeat L ks item n a.0.1) (λ y. Ok (a.0.0 ∷ y.0, y.1)) (vs, o) a.2 in
            subst (λ (z : List A × Tokens L). Chain S z.0 i z.1) (ok_is (a.0.0 ∷ b.0.0, b.0.1) (vs, o) b.2)
            (a.0.1, h i a.0.0 a.0.1 a.1, repeat_sound S ks item h n a.0.1 b.0.0 b.0.1 b.1)
        | inr g ↦ subst (λ (z : List A × Tokens L). Chain S z.0 i z.1) (ok_is ([], i) (vs, o) g.1) refl
      ]

  -- what grows from a, with all that it grows by
  abbrev pub GrownFrom : {A B : Type 0} → (fits : ℕ → Bool) → Growth L A → (A → B → A) → (B → Tokens L → Tokens L → Type 0) → A → A → Tokens L → Tokens L → Type 0
  GrownFrom {B = B} fits w f T a v i o = (bs : List B) × Grown fits w f a bs v × Chain T bs i o

  grow_sound : {A B : Type 0} (T : B → Tokens L → Tokens L → Type 0) (fits : ℕ → Bool) (w : Growth L A) (f : A → B → A) (ks : List ℕ) (item : Tokens L → Outcome L B) → ((i : Tokens L) (v : B) (o : Tokens L) → item i ≡ Ok (v, o) → T v i o)
      → (n : ℕ) (a : A) (i : Tokens L) (v : A) (o : Tokens L) → grow_by L fits w f ks item n a i ≡ Ok (v, o) → GrownFrom fits w f T a v i o
  unfolding grow_by
  grow_sound {A} {B} T fits w f ks item h zero a i v o e = subst (λ (z : A × Tokens L). GrownFrom fits w f T a z.0 i z.1) (ok_is (a, i) (v, o) e) ([], refl, refl)
  grow_sound {A} {B} T fits w f ks item h (suc n) a i v o e =
      elim (chosen (member (next L i) ks && w.may a) (cond (fits (w.height a)) (item i >>= λ x. grow_by L fits w f ks item n (f a x.0) x.1) (fault_at L (too_deep (w.deepest a)) i)) (Ok (a, i)) (Ok (v, o)) e) [
        | inl g ↦ elim (chosen (fits (w.height a)) (item i >>= λ x. grow_by L fits w f ks item n (f a x.0) x.1) (fault_at L (too_deep (w.deepest a)) i) (Ok (v, o)) g.1) [
          | inl k ↦
              let b = bind_ok (item i) (λ x. grow_by L fits w f ks item n (f a x.0) x.1) (v, o) k.1 in
              let s = grow_sound T fits w f ks item h n (f a b.0.0) b.0.1 v o b.2 in
              (b.0.0 ∷ s.0, ((and_true (member (next L i) ks) (w.may a) g.0).1, k.0, s.1), (b.0.1, h i b.0.0 b.0.1 b.1, s.2))
          | inr k ↦ absurd cc
        ]
        | inr g ↦ subst (λ (z : A × Tokens L). GrownFrom fits w f T a z.0 i z.1) (ok_is (a, i) (v, o) g.1) ([], refl, refl)
      ]

  module _ (begins : L.Phrase → List ℕ) (fits : ℕ → Bool) (r : (p : L.Phrase) → Tokens L → Outcome L (L.Value p)) (R : (p : L.Phrase) → L.Value p → Tokens L → Tokens L → Type 0)
      (holds : (p : L.Phrase) (i : Tokens L) (v : L.Value p) (o : Tokens L) → r p i ≡ Ok (v, o) → R p v i o) where
    pub sound : {A : Type 0} (g : Rule L A) (i : Tokens L) (v : A) (o : Tokens L) → read L begins fits r g i ≡ Ok (v, o) → Spells L fits R g v i o
    sound (one x xs) i v o e = taken L (x ∷ xs) i v o e
    sound empty i v o e = subst (λ (z : Unit {0} × Tokens L). i ≡ z.1) (ok_is (tt, i) (v, o) e) refl
    sound (both {A} {B} g h) i v o e =
        let a = bind_ok (read L begins fits r g i) (λ x. read L begins fits r h x.1 >>= λ y. Ok ((x.0, y.0), y.1)) (v, o) e in
        let b = bind_ok (read L begins fits r h a.0.1) (λ y. Ok ((a.0.0, y.0), y.1)) (v, o) a.2 in
        subst (λ (z : (A × B) × Tokens L). (m : Tokens L) × Spells L fits R g z.0.0 i m × Spells L fits R h z.0.1 m z.1) (ok_is ((a.0.0, b.0.0), b.0.1) (v, o) b.2)
        (a.0.1, sound g i a.0.0 a.0.1 a.1, sound h a.0.1 b.0.0 b.0.1 b.1)
    sound (either g h) i v o e =
        elim (chosen (member (next L i) (first L begins g)) (read L begins fits r g i) (read L begins fits r h i) (Ok (v, o)) e) [
          | inl c ↦ inl (sound g i v o c.1)
          | inr c ↦ inr (sound h i v o c.1)
        ]
    sound (many g) i v o e = repeat_sound (Spells L fits R g) (first L begins g) (read L begins fits r g) (sound g) (length i) i v o e
    sound (maybe {A} x g) i v o e =
        elim (chosen (nat_eq (next L i) (x)) (take_one L (x ∷ []) i >>= λ t. read L begins fits r g t.1 >>= λ y. Ok (Some y.0, y.1)) (Ok (None, i)) (Ok (v, o)) e) [
          | inl c ↦
              let a = bind_ok (take_one L (x ∷ []) i) (λ t. read L begins fits r g t.1 >>= λ y. Ok (Some y.0, y.1)) (v, o) c.1 in
              let b = bind_ok (read L begins fits r g a.0.1) (λ y. Ok (Some y.0, y.1)) (v, o) a.2 in
              let t = taken L (x ∷ []) i a.0.0 a.0.1 a.1 in
              subst (λ (z : Option A × Tokens L). Spells L fits R (maybe x g) z.0 i z.1) (ok_is (Some b.0.0, b.0.1) (v, o) b.2) (a.0.0, a.0.1, t.0, t.1, sound g a.0.1 b.0.0 b.0.1 b.1)
          | inr c ↦ subst (λ (z : Option A × Tokens L). Spells L fits R (maybe x g) z.0 i z.1) (ok_is (None, i) (v, o) c.1) (refl, c.0)
        ]
    sound (grow w f ends g h) i v o e =
        let a = bind_ok (read L begins fits r g i) (λ x. grow_by L fits w f (first L begins h) (read L begins fits r h) (length x.1) x.0 x.1) (v, o) e in
        let s = grow_sound (Spells L fits R h) fits w f (first L begins h) (read L begins fits r h) (sound h) (length a.0.1) a.0.0 a.0.1 v o a.2 in
        (a.0.0, s.0, s.1, (a.0.1, sound g i a.0.0 a.0.1 a.1, s.2))
    sound (made {A} {B} f g) i v o e =
        let a = bind_ok (read L begins fits r g i) (λ x. Ok (f x.0, x.1)) (v, o) e in
        subst (λ (z : B × Tokens L). (a : A) × (f a ≡ z.0) × Spells L fits R g a i z.1) (ok_is (f a.0.0, a.0.1) (v, o) a.2) (a.0.0, refl, sound g i a.0.0 a.0.1 a.1)
    sound (nest p) i v o e = holds p i v o e

-- Each turn takes a token, so that a repetition has a plain equation.
use Rattle.std.proofs.Common.{◌≡◌, ℕ, zero, suc, ◌<◌, ◌≤◌, Bool, true, false, cond, nat_eq, List, [], ◌∷◌, length, Some, None, Ok, refl, sym, ap, subst, arith, inl, inr}
use Rattle.std.specs.Prelude.{◌&&◌}
use Rattle.grammar_rules.specs.Rule.{Language, Tokens, Rule, one, empty, both, either, many, maybe, grow, made, nest, Growth, next, member, nullable, first, Outcome, refuse, fault_at, too_deep, take_one, repeat, grow_by, read, ◌>>=◌}
use Rattle.grammar_rules.proofs.Steps.{bind_ok, chosen, done_rest, done_value, and_false, or_false, bind_same}

module _ (L : Language) where
  pub taken : (ks : List ℕ) (i : Tokens L) (t : L.Token) (o : Tokens L) → take_one L ks i ≡ Ok (t, o) → (i ≡ t ∷ o) × (member (L.code t) ks ≡ true)
  unfolding take_one
  taken ks [] t o e = absurd cc
  taken ks (x ∷ i) t o e =
      elim (chosen (member (L.code x) ks) (Ok (x, i)) (refuse L (x ∷ i)) (Ok (t, o)) e) [
        | inl h ↦ let hx = done_value x t i o h.1 in let ho = done_rest x t i o h.1 in (cc, subst (λ (y : L.Token). member (L.code y) ks ≡ true) hx h.0)
        | inr h ↦ absurd cc
      ]

  -- ---- what is read gets shorter

  repeat_shorter : {A : Type 0} (ks : List ℕ) (item : Tokens L → Outcome L A) → ((i : Tokens L) (v : A) (o : Tokens L) → item i ≡ Ok (v, o) → length o ≤ length i)
      → (n : ℕ) (i : Tokens L) (vs : List A) (o : Tokens L) → repeat L ks item n i ≡ Ok (vs, o) → length o ≤ length i
  unfolding repeat
  repeat_shorter ks item h zero i vs o e = let q = done_rest [] vs i o e in omega (arith, ap length q)
  repeat_shorter ks item h (suc n) i vs o e =
      elim (chosen (member (next L i) ks) (item i >>= λ x. repeat L ks item n x.1 >>= λ y. Ok (x.0 ∷ y.0, y.1)) (Ok ([], i)) (Ok (vs, o)) e) [
        | inl g ↦
            let a = bind_ok (item i) (λ x. repeat L ks item n x.1 >>= λ y. Ok (x.0 ∷ y.0, y.1)) (vs, o) g.1 in
            let b = bind_ok (repeat L ks item n a.0.1) (λ y. Ok (a.0.0 ∷ y.0, y.1)) (vs, o) a.2 in
            let q = done_rest (a.0.0 ∷ b.0.0) vs b.0.1 o b.2 in
            let one : length a.0.1 ≤ length i = h i a.0.0 a.0.1 a.1 in
            let two : length b.0.1 ≤ length a.0.1 = repeat_shorter ks item h n a.0.1 b.0.0 b.0.1 b.1 in
            omega (arith, ap length q)
        | inr g ↦ let q = done_rest [] vs i o g.1 in omega (arith, ap length q)
      ]

  grow_shorter : {A B : Type 0} (fits : ℕ → Bool) (w : Growth L A) (f : A → B → A) (ks : List ℕ) (item : Tokens L → Outcome L B) → ((i : Tokens L) (v : B) (o : Tokens L) → item i ≡ Ok (v, o) → length o ≤ length i)
      → (n : ℕ) (a : A) (i : Tokens L) (v : A) (o : Tokens L) → grow_by L fits w f ks item n a i ≡ Ok (v, o) → length o ≤ length i
  unfolding grow_by
  grow_shorter fits w f ks item h zero a i v o e = let q = done_rest a v i o e in omega (arith, ap length q)
  grow_shorter fits w f ks item h (suc n) a i v o e =
      elim (chosen (member (next L i) ks && w.may a) (cond (fits (w.height a)) (item i >>= λ x. grow_by L fits w f ks item n (f a x.0) x.1) (fault_at L (too_deep (w.deepest a)) i)) (Ok (a, i)) (Ok (v, o)) e) [
        | inl g ↦ elim (chosen (fits (w.height a)) (item i >>= λ x. grow_by L fits w f ks item n (f a x.0) x.1) (fault_at L (too_deep (w.deepest a)) i) (Ok (v, o)) g.1) [
          | inl k ↦
              let b = bind_ok (item i) (λ x. grow_by L fits w f ks item n (f a x.0) x.1) (v, o) k.1 in
              let one : length b.0.1 ≤ length i = h i b.0.0 b.0.1 b.1 in
              let two : length o ≤ length b.0.1 = grow_shorter fits w f ks item h n (f a b.0.0) b.0.1 v o b.2 in
              omega arith
          | inr k ↦ absurd cc
        ]
        | inr g ↦ let q = done_rest a v i o g.1 in omega (arith, ap length q)
      ]

  module _ (begins : L.Phrase → List ℕ) (fits : ℕ → Bool) (r : (p : L.Phrase) → Tokens L → Outcome L (L.Value p))
      (shrinks : (p : L.Phrase) (i : Tokens L) (v : L.Value p) (o : Tokens L) → r p i ≡ Ok (v, o) → length o < length i) where
    pub shorter : {A : Type 0} (g : Rule L A) (i : Tokens L) (v : A) (o : Tokens L) → read L begins fits r g i ≡ Ok (v, o) → length o ≤ length i
    shorter (one x xs) i v o e = let t = taken (x ∷ xs) i v o e in omega (arith, ap length t.0)
    shorter empty i v o e = let q = done_rest tt v i o e in omega (arith, ap length q)
    shorter (both g h) i v o e =
        let a = bind_ok (read L begins fits r g i) (λ x. read L begins fits r h x.1 >>= λ y. Ok ((x.0, y.0), y.1)) (v, o) e in
        let b = bind_ok (read L begins fits r h a.0.1) (λ y. Ok ((a.0.0, y.0), y.1)) (v, o) a.2 in
        let q = done_rest (a.0.0, b.0.0) v b.0.1 o b.2 in
        let one : length a.0.1 ≤ length i = shorter g i a.0.0 a.0.1 a.1 in
        let two : length b.0.1 ≤ length a.0.1 = shorter h a.0.1 b.0.0 b.0.1 b.1 in
        omega (arith, ap length q)
    shorter (either g h) i v o e =
        elim (chosen (member (next L i) (first L begins g)) (read L begins fits r g i) (read L begins fits r h i) (Ok (v, o)) e) [
          | inl c ↦ shorter g i v o c.1
          | inr c ↦ shorter h i v o c.1
        ]
    shorter (many g) i v o e = repeat_shorter (first L begins g) (read L begins fits r g) (shorter g) (length i) i v o e
    shorter (maybe x g) i v o e =
        elim (chosen (nat_eq (next L i) (x)) (take_one L (x ∷ []) i >>= λ t. read L begins fits r g t.1 >>= λ y. Ok (Some y.0, y.1)) (Ok (None, i)) (Ok (v, o)) e) [
          | inl c ↦
              let a = bind_ok (take_one L (x ∷ []) i) (λ t. read L begins fits r g t.1 >>= λ y. Ok (Some y.0, y.1)) (v, o) c.1 in
              let b = bind_ok (read L begins fits r g a.0.1) (λ y. Ok (Some y.0, y.1)) (v, o) a.2 in
              let t = taken (x ∷ []) i a.0.0 a.0.1 a.1 in
              let q = done_rest (Some b.0.0) v b.0.1 o b.2 in
              let one : length b.0.1 ≤ length a.0.1 = shorter g a.0.1 b.0.0 b.0.1 b.1 in
              omega (arith, ap length q, ap length t.0)
          | inr c ↦ let q = done_rest None v i o c.1 in omega (arith, ap length q)
        ]
    shorter (grow w f ends g h) i v o e =
        let a = bind_ok (read L begins fits r g i) (λ x. grow_by L fits w f (first L begins h) (read L begins fits r h) (length x.1) x.0 x.1) (v, o) e in
        let one : length a.0.1 ≤ length i = shorter g i a.0.0 a.0.1 a.1 in
        let two : length o ≤ length a.0.1 = grow_shorter fits w f (first L begins h) (read L begins fits r h) (shorter h) (length a.0.1) a.0.0 a.0.1 v o a.2 in
        omega arith
    shorter (made f g) i v o e =
        let a = bind_ok (read L begins fits r g i) (λ x. Ok (f x.0, x.1)) (v, o) e in
        let q = done_rest (f a.0.0) v a.0.1 o a.2 in
        let one : length a.0.1 ≤ length i = shorter g i a.0.0 a.0.1 a.1 in
        omega (arith, ap length q)
    shorter (nest p) i v o e = let q : length o < length i = shrinks p i v o e in omega (arith, q)

    pub strictly : {A : Type 0} (g : Rule L A) → nullable g ≡ false → (i : Tokens L) (v : A) (o : Tokens L) → read L begins fits r g i ≡ Ok (v, o) → length o < length i
    strictly (one x xs) z i v o e = let t = taken (x ∷ xs) i v o e in omega (arith, ap length t.0)
    strictly empty z i v o e = absurd cc
    strictly (both g h) z i v o e =
        let a = bind_ok (read L begins fits r g i) (λ x. read L begins fits r h x.1 >>= λ y. Ok ((x.0, y.0), y.1)) (v, o) e in
        let b = bind_ok (read L begins fits r h a.0.1) (λ y. Ok ((a.0.0, y.0), y.1)) (v, o) a.2 in
        let q = done_rest (a.0.0, b.0.0) v b.0.1 o b.2 in
        elim (and_false (nullable g) (nullable h) z) [
          | inl n ↦
              let one : length a.0.1 < length i = strictly g n i a.0.0 a.0.1 a.1 in
              let two : length b.0.1 ≤ length a.0.1 = shorter h a.0.1 b.0.0 b.0.1 b.1 in
              omega (arith, ap length q)
          | inr n ↦
              let one : length a.0.1 ≤ length i = shorter g i a.0.0 a.0.1 a.1 in
              let two : length b.0.1 < length a.0.1 = strictly h n.1 a.0.1 b.0.0 b.0.1 b.1 in
              omega (arith, ap length q)
        ]
    strictly (either g h) z i v o e =
        let n = or_false (nullable g) (nullable h) z in
        elim (chosen (member (next L i) (first L begins g)) (read L begins fits r g i) (read L begins fits r h i) (Ok (v, o)) e) [
          | inl c ↦ strictly g n.0 i v o c.1
          | inr c ↦ strictly h n.1 i v o c.1
        ]
    strictly (many g) z i v o e = absurd cc
    strictly (maybe x g) z i v o e = absurd cc
    strictly (grow w f ends g h) z i v o e =
        let a = bind_ok (read L begins fits r g i) (λ x. grow_by L fits w f (first L begins h) (read L begins fits r h) (length x.1) x.0 x.1) (v, o) e in
        let one : length a.0.1 < length i = strictly g z i a.0.0 a.0.1 a.1 in
        let two : length o ≤ length a.0.1 = grow_shorter fits w f (first L begins h) (read L begins fits r h) (shorter h) (length a.0.1) a.0.0 a.0.1 v o a.2 in
        omega arith
    strictly (made f g) z i v o e =
        let a = bind_ok (read L begins fits r g i) (λ x. Ok (f x.0, x.1)) (v, o) e in
        let q = done_rest (f a.0.0) v a.0.1 o a.2 in
        let one : length a.0.1 < length i = strictly g z i a.0.0 a.0.1 a.1 in
        omega (arith, ap length q)
    strictly (nest p) z i v o e = shrinks p i v o e

  -- ---- a repetition

  module _ {A : Type 0} (ks : List ℕ) (item : Tokens L → Outcome L A) (end : member 0 ks ≡ false)
      (falls : (i : Tokens L) (v : A) (o : Tokens L) → item i ≡ Ok (v, o) → length o < length i) where
    repeat_fuel : (n m : ℕ) (i : Tokens L) → length i ≤ n → length i ≤ m → repeat L ks item n i ≡ repeat L ks item m i
    unfolding repeat
    repeat_fuel zero zero i p q = refl
    repeat_fuel zero (suc m) [] p q = rw end refl
    repeat_fuel zero (suc m) (t ∷ i) p q = absurd (omega arith)
    repeat_fuel (suc n) zero [] p q = rw end refl
    repeat_fuel (suc n) zero (t ∷ i) p q = absurd (omega arith)
    repeat_fuel (suc n) (suc m) i p q =
        ap (λ (x : Outcome L (List A)). cond (member (next L i) ks) x (Ok ([], i)))
        (bind_same (item i) (λ x. repeat L ks item n x.1 >>= λ y. Ok (x.0 ∷ y.0, y.1)) (λ x. repeat L ks item m x.1 >>= λ y. Ok (x.0 ∷ y.0, y.1))
        (λ x h. let lt : length x.1 < length i = falls i x.0 x.1 h in
        ap (λ (z : Outcome L (List A)). z >>= λ y. Ok (x.0 ∷ y.0, y.1)) (repeat_fuel n m x.1 (omega arith) (omega arith))))

    pub repeat_step : (i : Tokens L) → repeat L ks item (length i) i ≡ cond (member (next L i) ks) (item i >>= λ x. repeat L ks item (length x.1) x.1 >>= λ y. Ok (x.0 ∷ y.0, y.1)) (Ok ([], i))
    unfolding repeat
    repeat_step [] = rw end refl
    repeat_step (t ∷ i) =
        ap (λ (x : Outcome L (List A)). cond (member (L.code t) ks) x (Ok ([], t ∷ i)))
        (bind_same (item (t ∷ i)) (λ x. repeat L ks item (length i) x.1 >>= λ y. Ok (x.0 ∷ y.0, y.1)) (λ x. repeat L ks item (length x.1) x.1 >>= λ y. Ok (x.0 ∷ y.0, y.1))
        (λ x h. let lt : length x.1 < suc (length i) = falls (t ∷ i) x.0 x.1 h in
        ap (λ (z : Outcome L (List A)). z >>= λ y. Ok (x.0 ∷ y.0, y.1)) (repeat_fuel (length i) (length x.1) x.1 (omega arith) (omega arith))))

  -- ---- what grows

  module _ {A B : Type 0} (fits : ℕ → Bool) (w : Growth L A) (f : A → B → A) (ks : List ℕ) (item : Tokens L → Outcome L B) (end : member 0 ks ≡ false)
      (falls : (i : Tokens L) (v : B) (o : Tokens L) → item i ≡ Ok (v, o) → length o < length i) where
    -- one turn, after which this comes
    abbrev turn : A → Tokens L → (A → Tokens L → Outcome L A) → Outcome L A
    turn a i then = cond (member (next L i) ks && w.may a) (cond (fits (w.height a)) (item i >>= λ x. then (f a x.0) x.1) (fault_at L (too_deep (w.deepest a)) i)) (Ok (a, i))

    at_end : (a : A) (then : A → Tokens L → Outcome L A) → turn a [] then ≡ Ok (a, [])
    at_end a then = rw end refl

    same_turn : (a : A) (i : Tokens L) (h k : A → Tokens L → Outcome L A) → ((b : A) (o : Tokens L) → length o < length i → h b o ≡ k b o) → turn a i h ≡ turn a i k
    same_turn a i h k e =
        ap (λ (x : Outcome L A). cond (member (next L i) ks && w.may a) (cond (fits (w.height a)) x (fault_at L (too_deep (w.deepest a)) i)) (Ok (a, i)))
        (bind_same (item i) (λ x. h (f a x.0) x.1) (λ x. k (f a x.0) x.1) (λ x q. e (f a x.0) x.1 (falls i x.0 x.1 q)))

    grow_fuel : (n m : ℕ) (a : A) (i : Tokens L) → length i ≤ n → length i ≤ m → grow_by L fits w f ks item n a i ≡ grow_by L fits w f ks item m a i
    unfolding grow_by
    grow_fuel zero zero a i p q = refl
    grow_fuel zero (suc m) a [] p q = sym (at_end a (grow_by L fits w f ks item m))
    grow_fuel zero (suc m) a (t ∷ i) p q = absurd (omega arith)
    grow_fuel (suc n) zero a [] p q = at_end a (grow_by L fits w f ks item n)
    grow_fuel (suc n) zero a (t ∷ i) p q = absurd (omega arith)
    grow_fuel (suc n) (suc m) a i p q = same_turn a i (grow_by L fits w f ks item n) (grow_by L fits w f ks item m) (λ b o lt. grow_fuel n m b o (omega arith) (omega arith))

    -- as many turns as there are tokens
    abbrev pub growing : A → Tokens L → Outcome L A
    growing a i = grow_by L fits w f ks item (length i) a i

    pub grow_step : (a : A) (i : Tokens L) → growing a i ≡ turn a i growing
    unfolding grow_by
    grow_step a [] = sym (at_end a growing)
    grow_step a (t ∷ i) = same_turn a (t ∷ i) (grow_by L fits w f ks item (length i)) growing (λ b o lt. grow_fuel (length i) (length o) b o (omega arith) (omega arith))

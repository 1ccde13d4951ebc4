-- At a greater depth reading gives the same, unless it was too deep.
use Rattle.std.proofs.Common.{◌≡◌, ℕ, zero, suc, Bool, true, false, cond, nat_eq, List, [], ◌∷◌, ◌++◌, length, Some, None, Result, Ok, Err, refl, sym, ap, subst, ◌⊎◌, inl, inr}
use Rattle.std.specs.Prelude.{not, ◌&&◌, ◌||◌}
use Rattle.grammar_rules.specs.Rule.{Language, Tokens, Rule, one, empty, both, either, many, maybe, grow, made, nest, Growth, next, member, first, nullable, too_deep, Fault, fault_at, Outcome, refuse, take_one, repeat, grow_by, read, ◌>>=◌}
use Rattle.grammar_rules.proofs.Steps.{and_false, or_false, test_false}
use Rattle.grammar_rules.proofs.Members.{and_true, both_ways, member-left, member-right}

module _ (L : Language) where
  -- a fault of a part that nests too deep
  abbrev pub IsDeep : {A : Type 0} → Result A (Fault L) → Type 0
  IsDeep a = (place : L.Place) × (n : ℕ) × (a ≡ Err (record { kind = too_deep place; left = n }))

  abbrev pub IsSame : {A : Type 0} → Result A (Fault L) → Result A (Fault L) → Type 0
  IsSame {A} a b = (a ≡ b) ⊎ IsDeep a

  pub same_bind : {A B : Type 0} (a b : Result A (Fault L)) (f h : A → Result B (Fault L)) → IsSame a b → ((x : A) → IsSame (f x) (h x)) → IsSame (a >>= f) (b >>= h)
  same_bind {A} {B} (Ok x) b f h (inl e) k = subst (λ (z : Result A (Fault L)). IsSame (f x) (z >>= h)) e (k x)
  same_bind {A} {B} (Err d) b f h (inl e) k = inl (ap (λ (z : Result A (Fault L)). z >>= h) e)
  same_bind {A} {B} a b f h (inr e) k = inr (e.0, e.1, ap (λ (z : Result A (Fault L)). z >>= f) e.2)

  pub same_cond : {A : Type 0} (c : Bool) (a1 a2 b1 b2 : Result A (Fault L)) → IsSame a1 b1 → IsSame a2 b2 → IsSame (cond c a1 a2) (cond c b1 b2)
  same_cond true a1 a2 b1 b2 h k = h
  same_cond false a1 a2 b1 b2 h k = k

  same_repeat : {A : Type 0} (ks : List ℕ) (item other : Tokens L → Outcome L A) → ((i : Tokens L) → IsSame (item i) (other i)) → (n : ℕ) (i : Tokens L) → IsSame (repeat L ks item n i) (repeat L ks other n i)
  unfolding repeat
  same_repeat ks item other h zero i = inl refl
  same_repeat ks item other h (suc n) i =
      same_cond (member (next L i) ks) (item i >>= λ x. repeat L ks item n x.1 >>= λ y. Ok (x.0 ∷ y.0, y.1)) (Ok ([], i)) (other i >>= λ x. repeat L ks other n x.1 >>= λ y. Ok (x.0 ∷ y.0, y.1)) (Ok ([], i))
      (same_bind (item i) (other i) (λ x. repeat L ks item n x.1 >>= λ y. Ok (x.0 ∷ y.0, y.1)) (λ x. repeat L ks other n x.1 >>= λ y. Ok (x.0 ∷ y.0, y.1)) (h i)
      (λ x. same_bind (repeat L ks item n x.1) (repeat L ks other n x.1) (λ y. Ok (x.0 ∷ y.0, y.1)) (λ y. Ok (x.0 ∷ y.0, y.1)) (same_repeat ks item other h n x.1) (λ y. inl refl)))
      (inl refl)

  same_deep : {A : Type 0} (b c : Bool) (x y d : Result A (Fault L)) → (b ≡ true → c ≡ true) → IsSame x y → IsDeep d → IsSame (cond b x d) (cond c y d)
  same_deep {A} true c x y d h s k = subst (λ (z : Bool). IsSame x (cond z y d)) (sym (h refl)) s
  same_deep false c x y d h s k = inr k

  same_grow : {A B : Type 0} (fits more : ℕ → Bool) → ((n : ℕ) → fits n ≡ true → more n ≡ true) → (w : Growth L A) (f : A → B → A) (ks : List ℕ) (item other : Tokens L → Outcome L B) → ((i : Tokens L) → IsSame (item i) (other i))
      → (n : ℕ) (a : A) (i : Tokens L) → IsSame (grow_by L fits w f ks item n a i) (grow_by L more w f ks other n a i)
  unfolding grow_by
  same_grow fits more wider w f ks item other h zero a i = inl refl
  same_grow fits more wider w f ks item other h (suc n) a i =
      same_cond (member (next L i) ks && w.may a) (cond (fits (w.height a)) (item i >>= λ x. grow_by L fits w f ks item n (f a x.0) x.1) (fault_at L (too_deep (w.deepest a)) i)) (Ok (a, i))
      (cond (more (w.height a)) (other i >>= λ x. grow_by L more w f ks other n (f a x.0) x.1) (fault_at L (too_deep (w.deepest a)) i)) (Ok (a, i))
      (same_deep (fits (w.height a)) (more (w.height a)) (item i >>= λ x. grow_by L fits w f ks item n (f a x.0) x.1) (other i >>= λ x. grow_by L more w f ks other n (f a x.0) x.1) (fault_at L (too_deep (w.deepest a)) i)
      (wider (w.height a))
      (same_bind (item i) (other i) (λ x. grow_by L fits w f ks item n (f a x.0) x.1) (λ x. grow_by L more w f ks other n (f a x.0) x.1) (h i) (λ x. same_grow fits more wider w f ks item other h n (f a x.0) x.1))
      (w.deepest a, length i, refl))
      (inl refl)

  module _ (begins : L.Phrase → List ℕ) (fits more : ℕ → Bool) (wider : (n : ℕ) → fits n ≡ true → more n ≡ true) (r s : (p : L.Phrase) → Tokens L → Outcome L (L.Value p)) (same_r : (p : L.Phrase) (i : Tokens L) → IsSame (r p i) (s p i)) where
    pub same : {A : Type 0} (g : Rule L A) (i : Tokens L) → IsSame (read L begins fits r g i) (read L begins more s g i)
    same (one x xs) i = inl refl
    same empty i = inl refl
    same (both g h) i =
        same_bind (read L begins fits r g i) (read L begins more s g i) (λ x. read L begins fits r h x.1 >>= λ y. Ok ((x.0, y.0), y.1)) (λ x. read L begins more s h x.1 >>= λ y. Ok ((x.0, y.0), y.1)) (same g i)
        (λ x. same_bind (read L begins fits r h x.1) (read L begins more s h x.1) (λ y. Ok ((x.0, y.0), y.1)) (λ y. Ok ((x.0, y.0), y.1)) (same h x.1) (λ y. inl refl))
    same (either g h) i = same_cond (member (next L i) (first L begins g)) (read L begins fits r g i) (read L begins fits r h i) (read L begins more s g i) (read L begins more s h i) (same g i) (same h i)
    same (many g) i = same_repeat (first L begins g) (read L begins fits r g) (read L begins more s g) (same g) (length i) i
    same (maybe x g) i =
        same_cond (nat_eq (next L i) (x)) (take_one L (x ∷ []) i >>= λ t. read L begins fits r g t.1 >>= λ y. Ok (Some y.0, y.1)) (Ok (None, i)) (take_one L (x ∷ []) i >>= λ t. read L begins more s g t.1 >>= λ y. Ok (Some y.0, y.1)) (Ok (None, i))
        (same_bind (take_one L (x ∷ []) i) (take_one L (x ∷ []) i) (λ t. read L begins fits r g t.1 >>= λ y. Ok (Some y.0, y.1)) (λ t. read L begins more s g t.1 >>= λ y. Ok (Some y.0, y.1)) (inl refl)
        (λ t. same_bind (read L begins fits r g t.1) (read L begins more s g t.1) (λ y. Ok (Some y.0, y.1)) (λ y. Ok (Some y.0, y.1)) (same g t.1) (λ y. inl refl)))
        (inl refl)
    same (grow w f ends g h) i =
        same_bind (read L begins fits r g i) (read L begins more s g i) (λ x. grow_by L fits w f (first L begins h) (read L begins fits r h) (length x.1) x.0 x.1) (λ x. grow_by L more w f (first L begins h) (read L begins more s h) (length x.1) x.0 x.1) (same g i)
        (λ x. same_grow fits more wider w f (first L begins h) (read L begins fits r h) (read L begins more s h) (same h) (length x.1) x.0 x.1)
    same (made f g) i = same_bind (read L begins fits r g i) (read L begins more s g i) (λ x. Ok (f x.0, x.1)) (λ x. Ok (f x.0, x.1)) (same g i) (λ x. inl refl)
    same (nest p) i = same_r p i

  -- ---- a token that cannot come first is refused at once

  -- no part that may be empty is the first of a choice
  abbrev pub is_lean : {A : Type 0} → Rule L A → Bool
  is_lean (one x xs) = true
  is_lean empty = true
  is_lean (both g h) = is_lean g && is_lean h
  is_lean (either g h) = not (nullable g) && (is_lean g && is_lean h)
  is_lean (many g) = true
  is_lean (maybe x g) = true
  is_lean (grow w f ends g h) = is_lean g
  is_lean (made f g) = is_lean g
  is_lean (nest p) = true

  or_second : (a b : Bool) → not a ≡ true → (a || b) ≡ true → b ≡ true
  or_second true b n e = absurd cc
  or_second false b n e = e

  none-left : (x : ℕ) (xs ys : List ℕ) → member x (xs ++ ys) ≡ false → member x xs ≡ false
  none-left x xs ys h = go (member x xs) refl
    where
      go : (b : Bool) → member x xs ≡ b → member x xs ≡ false
      go true e = both_ways (member x (xs ++ ys)) (member-left x xs ys e) h
      go false e = e

  none-right : (x : ℕ) (xs ys : List ℕ) → member x (xs ++ ys) ≡ false → member x ys ≡ false
  none-right x xs ys h = go (member x ys) refl
    where
      go : (b : Bool) → member x ys ≡ b → member x ys ≡ false
      go true e = both_ways (member x (xs ++ ys)) (member-right x xs ys e) h
      go false e = e

  none_first : (b : Bool) (x : ℕ) (xs ys : List ℕ) → member x (cond b (xs ++ ys) xs) ≡ false → member x xs ≡ false
  none_first true x xs ys h = none-left x xs ys h
  none_first false x xs ys h = h

  none_second : (b : Bool) (x : ℕ) (xs ys : List ℕ) → b ≡ true → member x (cond b (xs ++ ys) xs) ≡ false → member x ys ≡ false
  none_second true x xs ys e h = none-right x xs ys h
  none_second false x xs ys e h = absurd cc

  skips_repeat : {A : Type 0} (ks : List ℕ) (item : Tokens L → Outcome L A) (n : ℕ) (i : Tokens L) → member (next L i) ks ≡ false → repeat L ks item n i ≡ Ok ([], i)
  unfolding repeat
  skips_repeat ks item zero i h = refl
  skips_repeat ks item (suc n) i h = test_false (member (next L i) ks) _ (Ok ([], i)) (Ok ([], i)) h refl

  skips_grow : {A B : Type 0} (fits : ℕ → Bool) (w : Growth L A) (f : A → B → A) (ks : List ℕ) (item : Tokens L → Outcome L B) (n : ℕ) (a : A) (i : Tokens L) → member (next L i) ks ≡ false → grow_by L fits w f ks item n a i ≡ Ok (a, i)
  unfolding grow_by
  skips_grow fits w f ks item zero a i h = refl
  skips_grow fits w f ks item (suc n) a i h = test_false (member (next L i) ks && w.may a) _ (Ok (a, i)) (Ok (a, i)) (ap (λ (z : Bool). z && w.may a) h) refl

  refuses_one : (ks : List ℕ) (i : Tokens L) → member (next L i) ks ≡ false → take_one L ks i ≡ refuse L i
  unfolding take_one
  refuses_one ks [] h = refl
  refuses_one ks (t ∷ i) h = test_false (member (L.code t) ks) (Ok (t, i)) (refuse L (t ∷ i)) (refuse L (t ∷ i)) h refl

  module _ (begins : L.Phrase → List ℕ) (fits : ℕ → Bool) (r : (p : L.Phrase) → Tokens L → Outcome L (L.Value p))
      (refuses_r : (p : L.Phrase) (i : Tokens L) → member (next L i) (begins p) ≡ false → r p i ≡ refuse L i) where
    skips : {A : Type 0} (g : Rule L A) → is_lean g ≡ true → nullable g ≡ true → (i : Tokens L) → member (next L i) (first L begins g) ≡ false → (v : A) × (read L begins fits r g i ≡ Ok (v, i))
    skips (one x xs) c n i h = absurd cc
    skips empty c n i h = (tt, refl)
    skips (both g h) c n i m =
        let cs = and_true (is_lean g) (is_lean h) c in
        let ns = and_true (nullable g) (nullable h) n in
        let a = skips g cs.0 ns.0 i (none_first (nullable g) (next L i) (first L begins g) (first L begins h) m) in
        let b = skips h cs.1 ns.1 i (none_second (nullable g) (next L i) (first L begins g) (first L begins h) ns.0 m) in
        ((a.0, b.0), rw (a.1, b.1) refl)
    skips (either g h) c n i m =
        let cs = and_true (not (nullable g)) (is_lean g && is_lean h) c in
        let ls = and_true (is_lean g) (is_lean h) cs.1 in
        let b = skips h ls.1 (or_second (nullable g) (nullable h) cs.0 n) i (none-right (next L i) (first L begins g) (first L begins h) m) in
        (b.0, test_false (member (next L i) (first L begins g)) (read L begins fits r g i) (read L begins fits r h i) (Ok (b.0, i)) (none-left (next L i) (first L begins g) (first L begins h) m) b.1)
    skips (many g) c n i m = ([], skips_repeat (first L begins g) (read L begins fits r g) (length i) i m)
    skips (maybe x g) c n i m = (None, test_false (nat_eq (next L i) (x)) _ (Ok (None, i)) (Ok (None, i)) m refl)
    skips (grow w f ends g h) c n i m =
        let a = skips g c n i (none_first (nullable g) (next L i) (first L begins g) (first L begins h) m) in
        (a.0, rw a.1 (skips_grow fits w f (first L begins h) (read L begins fits r h) (length i) a.0 i (none_second (nullable g) (next L i) (first L begins g) (first L begins h) n m)))
    skips (made f g) c n i m = let a = skips g c n i m in (f a.0, rw a.1 refl)
    skips (nest p) c n i m = absurd cc

    pub refuses : {A : Type 0} (g : Rule L A) → is_lean g ≡ true → nullable g ≡ false → (i : Tokens L) → member (next L i) (first L begins g) ≡ false → read L begins fits r g i ≡ refuse L i
    refuses (one x xs) c n i h = refuses_one (x ∷ xs) i h
    refuses empty c n i h = absurd cc
    refuses (both {A} {B} g h) c n i m =
        let cs = and_true (is_lean g) (is_lean h) c in
        elim (and_false (nullable g) (nullable h) n) [
          | inl ng ↦ let a = refuses g cs.0 ng i (none_first (nullable g) (next L i) (first L begins g) (first L begins h) m) in rw a refl
          | inr ns ↦
              let a = skips g cs.0 ns.0 i (none_first (nullable g) (next L i) (first L begins g) (first L begins h) m) in
              let b = refuses h cs.1 ns.1 i (none_second (nullable g) (next L i) (first L begins g) (first L begins h) ns.0 m) in
              rw (a.1, b) refl
        ]
    refuses (either g h) c n i m =
        let cs = and_true (not (nullable g)) (is_lean g && is_lean h) c in
        let ls = and_true (is_lean g) (is_lean h) cs.1 in
        let ns = or_false (nullable g) (nullable h) n in
        test_false (member (next L i) (first L begins g)) (read L begins fits r g i) (read L begins fits r h i) (refuse L i) (none-left (next L i) (first L begins g) (first L begins h) m)
        (refuses h ls.1 ns.1 i (none-right (next L i) (first L begins g) (first L begins h) m))
    refuses (many g) c n i m = absurd cc
    refuses (maybe x g) c n i m = absurd cc
    refuses (grow w f ends g h) c n i m = let a = refuses g c n i (none_first (nullable g) (next L i) (first L begins g) (first L begins h) m) in rw a refl
    refuses (made f g) c n i m = let a = refuses g c n i m in rw a refl
    refuses (nest p) c n i m = refuses_r p i m

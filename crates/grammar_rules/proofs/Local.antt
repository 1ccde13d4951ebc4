-- A fault at a token does not depend on the tokens after it.
use Rattle.std.proofs.Common.{◌≡◌, ℕ, zero, suc, ◌+◌, ◌-◌, ◌<◌, ◌≤◌, Bool, true, false, cond, nat_eq, List, [], ◌∷◌, ◌++◌, length, Some, None, Ok, Err, refl, sym, ap, subst, ◌⊎◌, inl, inr, arith}
use Rattle.std.specs.Prelude.{not, ◌&&◌}
use Rattle.grammar_rules.specs.Rule.{Language, Tokens, Rule, one, empty, both, either, many, maybe, grow, made, nest, Growth, next, member, nullable, first, Wrong, unexpected, too_deep, Fault, fault_at, Outcome, refuse, take_one, repeat, grow_by, read, ◌>>=◌}
use Rattle.grammar_rules.proofs.Shorter.{strictly}
use Rattle.grammar_rules.proofs.Members.{and_true, not_true}

module _ (L : Language) where
  abbrev pub Past : {A : Type 0} → ℕ → Outcome L A → Type 0
  Past n (Ok w) = length w.1 ≤ n
  Past n (Err f) = f.left ≤ n

  past_bind : {A B : Type 0} (n : ℕ) (a : Outcome L A) (f : A × Tokens L → Outcome L B) → Past n a → ((w : A × Tokens L) → length w.1 ≤ n → Past n (f w)) → Past n (a >>= f)
  past_bind n (Ok w) f h k = k w h
  past_bind n (Err x) f h k = h

  pub past_cond : {A : Type 0} (n : ℕ) (b : Bool) (x y : Outcome L A) → Past n x → Past n y → Past n (cond b x y)
  past_cond n true x y h k = h
  past_cond n false x y h k = k

  past_take : (n : ℕ) (ks : List ℕ) (i : Tokens L) → length i ≤ n → Past n (take_one L ks i)
  unfolding take_one
  past_take n ks [] h = h
  past_take n ks (t ∷ i) h = past_cond n (member (L.code t) ks) (Ok (t, i)) (refuse L (t ∷ i)) (omega arith) h

  past_repeat : {A : Type 0} (n : ℕ) (ks : List ℕ) (item : Tokens L → Outcome L A) → ((i : Tokens L) → length i ≤ n → Past n (item i)) → (k : ℕ) (i : Tokens L) → length i ≤ n → Past n (repeat L ks item k i)
  unfolding repeat
  past_repeat n ks item h zero i le = le
  past_repeat n ks item h (suc k) i le =
      past_cond n (member (next L i) ks) (item i >>= λ x. repeat L ks item k x.1 >>= λ y. Ok (x.0 ∷ y.0, y.1)) (Ok ([], i))
      (past_bind n (item i) (λ x. repeat L ks item k x.1 >>= λ y. Ok (x.0 ∷ y.0, y.1)) (h i le) (λ w lw. past_bind n (repeat L ks item k w.1) (λ y. Ok (w.0 ∷ y.0, y.1)) (past_repeat n ks item h k w.1 lw) (λ u lu. lu)))
      le

  past_grow : {A B : Type 0} (m : ℕ) (fits : ℕ → Bool) (w : Growth L A) (f : A → B → A) (ks : List ℕ) (item : Tokens L → Outcome L B) → ((i : Tokens L) → length i ≤ m → Past m (item i))
      → (n : ℕ) (a : A) (i : Tokens L) → length i ≤ m → Past m (grow_by L fits w f ks item n a i)
  unfolding grow_by
  past_grow m fits w f ks item h zero a i le = le
  past_grow m fits w f ks item h (suc n) a i le =
      past_cond m (member (next L i) ks && w.may a) (cond (fits (w.height a)) (item i >>= λ x. grow_by L fits w f ks item n (f a x.0) x.1) (fault_at L (too_deep (w.deepest a)) i)) (Ok (a, i))
      (past_cond m (fits (w.height a)) (item i >>= λ x. grow_by L fits w f ks item n (f a x.0) x.1) (fault_at L (too_deep (w.deepest a)) i)
      (past_bind m (item i) (λ x. grow_by L fits w f ks item n (f a x.0) x.1) (h i le) (λ x lx. past_grow m fits w f ks item h n (f a x.0) x.1 lx))
      le)
      le

  module _ (begins : L.Phrase → List ℕ) (fits : ℕ → Bool) (r : (p : L.Phrase) → Tokens L → Outcome L (L.Value p)) (n : ℕ)
      (past_r : (p : L.Phrase) (i : Tokens L) → length i ≤ n → Past n (r p i)) where
    pub past : {A : Type 0} (g : Rule L A) (i : Tokens L) → length i ≤ n → Past n (read L begins fits r g i)
    past (one x xs) i le = past_take n (x ∷ xs) i le
    past empty i le = le
    past (both g h) i le =
        past_bind n (read L begins fits r g i) (λ x. read L begins fits r h x.1 >>= λ y. Ok ((x.0, y.0), y.1)) (past g i le)
        (λ w lw. past_bind n (read L begins fits r h w.1) (λ y. Ok ((w.0, y.0), y.1)) (past h w.1 lw) (λ u lu. lu))
    past (either g h) i le = past_cond n (member (next L i) (first L begins g)) (read L begins fits r g i) (read L begins fits r h i) (past g i le) (past h i le)
    past (many g) i le = past_repeat n (first L begins g) (read L begins fits r g) (past g) (length i) i le
    past (maybe x g) i le =
        past_cond n (nat_eq (next L i) (x)) (take_one L (x ∷ []) i >>= λ t. read L begins fits r g t.1 >>= λ y. Ok (Some y.0, y.1)) (Ok (None, i))
        (past_bind n (take_one L (x ∷ []) i) (λ t. read L begins fits r g t.1 >>= λ y. Ok (Some y.0, y.1)) (past_take n (x ∷ []) i le)
        (λ w lw. past_bind n (read L begins fits r g w.1) (λ y. Ok (Some y.0, y.1)) (past g w.1 lw) (λ u lu. lu)))
        le
    past (grow w f ends g h) i le =
        past_bind n (read L begins fits r g i) (λ x. grow_by L fits w f (first L begins h) (read L begins fits r h) (length x.1) x.0 x.1) (past g i le)
        (λ x lx. past_grow n fits w f (first L begins h) (read L begins fits r h) (past h) (length x.1) x.0 x.1 lx)
    past (made f g) i le = past_bind n (read L begins fits r g i) (λ x. Ok (f x.0, x.1)) (past g i le) (λ w lw. lw)
    past (nest p) i le = past_r p i le

  -- each repetition is of a part that takes a token
  abbrev pub steps : {A : Type 0} → Rule L A → Bool
  steps (one x xs) = true
  steps empty = true
  steps (both g h) = steps g && steps h
  steps (either g h) = steps g && steps h
  steps (many g) = not (nullable g) && steps g
  steps (maybe x g) = steps g
  steps (grow w f ends g h) = not (nullable h) && (steps g && steps h)
  steps (made f g) = steps g
  steps (nest p) = true

  -- ---- two lists that are the same up to and with the token x

  pub data Shared (x : L.Token) (p q : Tokens L) : Tokens L → Tokens L → Type 0 where
    here : Shared x p q (x ∷ p) (x ∷ q)
    there : {t : L.Token} {i j : Tokens L} → Shared x p q i j → Shared x p q (t ∷ i) (t ∷ j)

  pub shared_after : (x : L.Token) (p q c : Tokens L) → Shared x p q (c ++ x ∷ p) (c ++ x ∷ q)
  shared_after x p q [] = here
  shared_after x p q (t ∷ c) = there (shared_after x p q c)

  pub shared_next : (x : L.Token) (p q i j : Tokens L) → Shared x p q i j → next L i ≡ next L j
  shared_next x p q i j here = refl
  shared_next x p q i j (there s) = refl

  pub shared_long : (x : L.Token) (p q i j : Tokens L) → Shared x p q i j → (length p < length i) × (length j ≡ length i - length p + length q) × (length q < length j)
  shared_long x p q i j here = (omega arith, omega arith, omega arith)
  shared_long x p q i j (there {t = t} {i = k} {j = l} s) = let h = shared_long x p q k l s in (omega arith, omega arith, omega arith)

  module _ (x : L.Token) (p q : Tokens L) where
    abbrev pub moved : Fault L → Fault L
    moved f = record { kind = f.kind; left = f.left - length p + length q }

    -- the same outcome at the second list, if the first came no further than x
    abbrev pub Same : {A : Type 0} → Outcome L A → Outcome L A → Type 0
    Same (Ok w) b = (u : Tokens L) × Shared x p q w.1 u × (b ≡ Ok (w.0, u))
    Same (Err f) b = (length p < f.left) × (b ≡ Err (moved f))

    abbrev pub Agrees : {A : Type 0} → Outcome L A → Outcome L A → Type 0
    Agrees a b = Same a b ⊎ Past (length p) a

    agrees_bind : {A B : Type 0} (a b : Outcome L A) (f h : A × Tokens L → Outcome L B) → Agrees a b
        → ((v : A) (o u : Tokens L) → a ≡ Ok (v, o) → b ≡ Ok (v, u) → Shared x p q o u → Agrees (f (v, o)) (h (v, u)))
        → ((w : A × Tokens L) → length w.1 ≤ length p → Past (length p) (f w)) → Agrees (a >>= f) (b >>= h)
    agrees_bind {A} {B} (Ok w) b f h (inl s) k m = subst (λ (z : Outcome L A). Agrees (f w) (z >>= h)) (sym s.2) (k w.0 w.1 s.0 refl s.2 s.1)
    agrees_bind (Ok w) b f h (inr s) k m = inr (m w s)
    agrees_bind {A} {B} (Err e) b f h (inl s) k m = inl (s.0, ap (λ (z : Outcome L A). z >>= h) s.1)
    agrees_bind (Err e) b f h (inr s) k m = inr s

    pub agrees_cond : {A : Type 0} (c d : Bool) (a1 a2 b1 b2 : Outcome L A) → c ≡ d → Agrees a1 b1 → Agrees a2 b2 → Agrees (cond c a1 a2) (cond d b1 b2)
    agrees_cond true true a1 a2 b1 b2 e h k = h
    agrees_cond true false a1 a2 b1 b2 e h k = absurd cc
    agrees_cond false true a1 a2 b1 b2 e h k = absurd cc
    agrees_cond false false a1 a2 b1 b2 e h k = k

    pub agrees_refuse : {A : Type 0} (k : Wrong L) (i j : Tokens L) → Shared x p q i j → Agrees (fault_at L {A = A} k i) (fault_at L k j)
    agrees_refuse k i j s =
        let h = shared_long x p q i j s in
        inl (h.0, ap (λ (n : ℕ). Err (record { kind = k; left = n })) h.1)

    agrees_take : (ks : List ℕ) (i j : Tokens L) → Shared x p q i j → Agrees (take_one L ks i) (take_one L ks j)
    unfolding take_one
    agrees_take ks i j here = agrees_cond (member (L.code x) ks) (member (L.code x) ks) (Ok (x, p)) (refuse L (x ∷ p)) (Ok (x, q)) (refuse L (x ∷ q)) refl (inr (omega arith)) (agrees_refuse unexpected (x ∷ p) (x ∷ q) here)
    agrees_take ks i j (there {t = t} {i = k} {j = l} s) = agrees_cond (member (L.code t) ks) (member (L.code t) ks) (Ok (t, k)) (refuse L (t ∷ k)) (Ok (t, l)) (refuse L (t ∷ l)) refl (inl (l, s, refl)) (agrees_refuse unexpected (t ∷ k) (t ∷ l) (there s))

    agrees_repeat : {A : Type 0} (ks : List ℕ) (item : Tokens L → Outcome L A) → ((i j : Tokens L) → Shared x p q i j → Agrees (item i) (item j))
        → ((i : Tokens L) → length i ≤ length p → Past (length p) (item i)) → ((i : Tokens L) (v : A) (o : Tokens L) → item i ≡ Ok (v, o) → length o < length i)
        → (n m : ℕ) (i j : Tokens L) → length i ≤ n → length j ≤ m → Shared x p q i j → Agrees (repeat L ks item n i) (repeat L ks item m j)
    unfolding repeat
    agrees_repeat ks item h k f zero m i j le lj s = let l = shared_long x p q i j s in absurd (omega arith)
    agrees_repeat ks item h k f (suc n) zero i j le lj s = let l = shared_long x p q i j s in absurd (omega arith)
    agrees_repeat {A} ks item h k f (suc n) (suc m) i j le lj s =
        agrees_cond (member (next L i) ks) (member (next L j) ks) (item i >>= λ x. repeat L ks item n x.1 >>= λ y. Ok (x.0 ∷ y.0, y.1)) (Ok ([], i)) (item j >>= λ x. repeat L ks item m x.1 >>= λ y. Ok (x.0 ∷ y.0, y.1)) (Ok ([], j))
        (ap (λ (z : ℕ). member z ks) (shared_next x p q i j s))
        (agrees_bind (item i) (item j) (λ x. repeat L ks item n x.1 >>= λ y. Ok (x.0 ∷ y.0, y.1)) (λ x. repeat L ks item m x.1 >>= λ y. Ok (x.0 ∷ y.0, y.1)) (h i j s)
        (λ v o u eo eu t. let lo : length o < length i = f i v o eo in let lu : length u < length j = f j v u eu in
        agrees_bind (repeat L ks item n o) (repeat L ks item m u) (λ y. Ok (v ∷ y.0, y.1)) (λ y. Ok (v ∷ y.0, y.1)) (agrees_repeat ks item h k f n m o u (omega arith) (omega arith) t)
        (λ w o' u' eo' eu' t'. inl (u', t', refl)) (λ w lw. lw))
        (λ w lw. past_bind (length p) (repeat L ks item n w.1) (λ y. Ok (w.0 ∷ y.0, y.1)) (past_repeat (length p) ks item k n w.1 lw) (λ y ly. ly)))
        (inl (j, s, refl))

    agrees_grow : {A B : Type 0} (fits : ℕ → Bool) (w : Growth L A) (f : A → B → A) (ks : List ℕ) (item : Tokens L → Outcome L B) → ((i j : Tokens L) → Shared x p q i j → Agrees (item i) (item j))
        → ((i : Tokens L) → length i ≤ length p → Past (length p) (item i)) → ((i : Tokens L) (v : B) (o : Tokens L) → item i ≡ Ok (v, o) → length o < length i)
        → (n m : ℕ) (a : A) (i j : Tokens L) → length i ≤ n → length j ≤ m → Shared x p q i j → Agrees (grow_by L fits w f ks item n a i) (grow_by L fits w f ks item m a j)
    unfolding grow_by
    agrees_grow fits w f ks item h k l zero m a i j le lj s = let d = shared_long x p q i j s in absurd (omega arith)
    agrees_grow fits w f ks item h k l (suc n) zero a i j le lj s = let d = shared_long x p q i j s in absurd (omega arith)
    agrees_grow fits w f ks item h k l (suc n) (suc m) a i j le lj s =
        agrees_cond (member (next L i) ks && w.may a) (member (next L j) ks && w.may a)
        (cond (fits (w.height a)) (item i >>= λ y. grow_by L fits w f ks item n (f a y.0) y.1) (fault_at L (too_deep (w.deepest a)) i)) (Ok (a, i))
        (cond (fits (w.height a)) (item j >>= λ y. grow_by L fits w f ks item m (f a y.0) y.1) (fault_at L (too_deep (w.deepest a)) j)) (Ok (a, j))
        (ap (λ (z : ℕ). member z ks && w.may a) (shared_next x p q i j s))
        (agrees_cond (fits (w.height a)) (fits (w.height a)) (item i >>= λ y. grow_by L fits w f ks item n (f a y.0) y.1) (fault_at L (too_deep (w.deepest a)) i)
        (item j >>= λ y. grow_by L fits w f ks item m (f a y.0) y.1) (fault_at L (too_deep (w.deepest a)) j) refl
        (agrees_bind (item i) (item j) (λ y. grow_by L fits w f ks item n (f a y.0) y.1) (λ y. grow_by L fits w f ks item m (f a y.0) y.1) (h i j s)
        (λ v o u eo eu t. let lo : length o < length i = l i v o eo in let lu : length u < length j = l j v u eu in
        agrees_grow fits w f ks item h k l n m (f a v) o u (omega arith) (omega arith) t)
        (λ y ly. past_grow (length p) fits w f ks item k n (f a y.0) y.1 ly))
        (agrees_refuse (too_deep (w.deepest a)) i j s))
        (inl (j, s, refl))

    module _ (begins : L.Phrase → List ℕ) (fits : ℕ → Bool) (r : (p : L.Phrase) → Tokens L → Outcome L (L.Value p))
        (past_r : (c : L.Phrase) (i : Tokens L) → length i ≤ length p → Past (length p) (r c i))
        (shrinks : (c : L.Phrase) (i : Tokens L) (v : L.Value c) (o : Tokens L) → r c i ≡ Ok (v, o) → length o < length i)
        (same_r : (c : L.Phrase) (i j : Tokens L) → Shared x p q i j → Agrees (r c i) (r c j)) where
      -- the repetitions of the rule are of parts that take a token
      pub local : {A : Type 0} (g : Rule L A) → steps g ≡ true → (i j : Tokens L) → Shared x p q i j → Agrees (read L begins fits r g i) (read L begins fits r g j)
      local (one y ys) c i j s = agrees_take (y ∷ ys) i j s
      local empty c i j s = inl (j, s, refl)
      local (both g h) c i j s =
          let cs = and_true (steps g) (steps h) c in
          agrees_bind (read L begins fits r g i) (read L begins fits r g j) (λ x. read L begins fits r h x.1 >>= λ y. Ok ((x.0, y.0), y.1)) (λ x. read L begins fits r h x.1 >>= λ y. Ok ((x.0, y.0), y.1)) (local g cs.0 i j s)
          (λ v o u eo eu t. agrees_bind (read L begins fits r h o) (read L begins fits r h u) (λ y. Ok ((v, y.0), y.1)) (λ y. Ok ((v, y.0), y.1)) (local h cs.1 o u t) (λ w o' u' eo' eu' t'. inl (u', t', refl)) (λ w lw. lw))
          (λ w lw. past_bind (length p) (read L begins fits r h w.1) (λ y. Ok ((w.0, y.0), y.1)) (past begins fits r (length p) past_r h w.1 lw) (λ y ly. ly))
      local (either g h) c i j s =
          let cs = and_true (steps g) (steps h) c in
          agrees_cond (member (next L i) (first L begins g)) (member (next L j) (first L begins g)) (read L begins fits r g i) (read L begins fits r h i) (read L begins fits r g j) (read L begins fits r h j)
          (ap (λ (z : ℕ). member z (first L begins g)) (shared_next x p q i j s)) (local g cs.0 i j s) (local h cs.1 i j s)
      local (many g) c i j s =
          let cs = and_true (not (nullable g)) (steps g) c in
          agrees_repeat (first L begins g) (read L begins fits r g) (local g cs.1) (past begins fits r (length p) past_r g) (strictly L begins fits r shrinks g (not_true (nullable g) cs.0)) (length i) (length j) i j (omega arith) (omega arith) s
      local (maybe y g) c i j s =
          agrees_cond (nat_eq (next L i) (y)) (nat_eq (next L j) (y)) (take_one L (y ∷ []) i >>= λ t. read L begins fits r g t.1 >>= λ z. Ok (Some z.0, z.1)) (Ok (None, i)) (take_one L (y ∷ []) j >>= λ t. read L begins fits r g t.1 >>= λ z. Ok (Some z.0, z.1)) (Ok (None, j))
          (ap (λ (z : ℕ). nat_eq z (y)) (shared_next x p q i j s))
          (agrees_bind (take_one L (y ∷ []) i) (take_one L (y ∷ []) j) (λ t. read L begins fits r g t.1 >>= λ z. Ok (Some z.0, z.1)) (λ t. read L begins fits r g t.1 >>= λ z. Ok (Some z.0, z.1)) (agrees_take (y ∷ []) i j s)
          (λ v o u eo eu t. agrees_bind (read L begins fits r g o) (read L begins fits r g u) (λ z. Ok (Some z.0, z.1)) (λ z. Ok (Some z.0, z.1)) (local g c o u t) (λ w o' u' eo' eu' t'. inl (u', t', refl)) (λ w lw. lw))
          (λ w lw. past_bind (length p) (read L begins fits r g w.1) (λ z. Ok (Some z.0, z.1)) (past begins fits r (length p) past_r g w.1 lw) (λ y ly. ly)))
          (inl (j, s, refl))
      local (grow w f ends g h) c i j s =
          let cs = and_true (not (nullable h)) (steps g && steps h) c in
          let ds = and_true (steps g) (steps h) cs.1 in
          agrees_bind (read L begins fits r g i) (read L begins fits r g j) (λ y. grow_by L fits w f (first L begins h) (read L begins fits r h) (length y.1) y.0 y.1) (λ y. grow_by L fits w f (first L begins h) (read L begins fits r h) (length y.1) y.0 y.1) (local g ds.0 i j s)
          (λ v o u eo eu t. agrees_grow fits w f (first L begins h) (read L begins fits r h) (local h ds.1) (past begins fits r (length p) past_r h) (strictly L begins fits r shrinks h (not_true (nullable h) cs.0)) (length o) (length u) v o u (omega arith) (omega arith) t)
          (λ y ly. past_grow (length p) fits w f (first L begins h) (read L begins fits r h) (past begins fits r (length p) past_r h) (length y.1) y.0 y.1 ly)
      local (made f g) c i j s =
          agrees_bind (read L begins fits r g i) (read L begins fits r g j) (λ x. Ok (f x.0, x.1)) (λ x. Ok (f x.0, x.1)) (local g c i j s) (λ w o u eo eu t. inl (u, t, refl)) (λ w lw. lw)
      local (nest c) d i j s = same_r c i j s

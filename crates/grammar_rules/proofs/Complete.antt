-- What is spelled is read, where the next token says which way to go.
use Rattle.std.proofs.Common.{◌≡◌, ℕ, zero, suc, ◌<◌, ◌≤◌, Bool, true, false, cond, nat_eq, List, [], ◌∷◌, ◌++◌, length, Some, None, Ok, refl, sym, ap, subst, ◌∙◌, ◌⊎◌, inl, inr, arith}
use Rattle.std.specs.Prelude.{not, ◌&&◌, ◌||◌}
use Rattle.grammar_rules.specs.Rule.{Language, Tokens, Rule, one, empty, both, either, many, maybe, grow, made, nest, Growth, Ends, next, member, nullable, first, Outcome, take_one, repeat, grow_by, read, ◌>>=◌, Chain, Grown, Spells}
use Rattle.grammar_rules.proofs.Steps.{test_true, test_false}
use Rattle.grammar_rules.proofs.Shorter.{strictly}
use Rattle.grammar_rules.proofs.Members.{and_true, not_true, both_ways, member-left, member-right, disjoint, within, apart_back, inside}

module _ (L : Language) where
  module _ (begins follow : L.Phrase → List ℕ) where
    -- the tokens that may come next L where h is, with one of F after it
    abbrev pub ahead : {A : Type 0} → Rule L A → List ℕ → List ℕ
    ahead h F = cond (nullable h) (first L begins h ++ F) (first L begins h)

    -- the next L token says which way to go, with one of F after the rule
    abbrev pub is_told : {A : Type 0} → Rule L A → List ℕ → Bool
    is_told (one x xs) F = true
    is_told empty F = true
    is_told (both g h) F = is_told g (ahead h F) && is_told h F
    is_told (either g h) F = not (nullable g) && (disjoint (first L begins g) (ahead h F) && (is_told g F && is_told h F))
    is_told (many g) F = not (nullable g) && (disjoint (first L begins g) F && is_told g (first L begins g ++ F))
    is_told (maybe x g) F = is_told g F
    is_told (grow w f ends g h) F = not (nullable h) && (disjoint (first L begins h) F && (is_told g (first L begins h ++ F) && is_told h (cond w.again (first L begins h ++ F) F)))
    is_told (made f g) F = is_told g F
    is_told (nest p) F = within F (follow p)

  pub ahead_first : (b : Bool) (x : ℕ) (xs F : List ℕ) → member x xs ≡ true → member x (cond b (xs ++ F) xs) ≡ true
  ahead_first true x xs F h = member-left x xs F h
  ahead_first false x xs F h = h

  pub ahead_behind : (b : Bool) (x : ℕ) (xs F : List ℕ) → b ≡ true → member x F ≡ true → member x (cond b (xs ++ F) xs) ≡ true
  ahead_behind true x xs F e h = member-right x xs F h
  ahead_behind false x xs F e h = absurd cc

  pub chain_starts : {A : Type 0} (S : A → Tokens L → Tokens L → Type 0) (P : Tokens L → Type 0) → ((v : A) (i m : Tokens L) → S v i m → P i ⊎ (i ≡ m))
      → (vs : List A) (i o : Tokens L) → Chain S vs i o → P i ⊎ (i ≡ o)
  chain_starts S P h [] i o s = inr s
  chain_starts S P h (v ∷ vs) i o s =
      elim (h v i s.0 s.1) [
        | inl a ↦ inl a
        | inr a ↦ elim (chain_starts S P h vs s.0 o s.2) [ inl b ↦ inl (subst P (sym a) b) | inr b ↦ inr (a ∙ b) ]
      ]

  module _ (begins : L.Phrase → List ℕ) (fits : ℕ → Bool) (R : (p : L.Phrase) → L.Value p → Tokens L → Tokens L → Type 0)
      (begun : (p : L.Phrase) (v : L.Value p) (i o : Tokens L) → R p v i o → member (next L i) (begins p) ≡ true) where
    -- the first token is one that may come first, or there is no token
    abbrev pub Starts : {A : Type 0} → Rule L A → Tokens L → Tokens L → Type 0
    Starts g i o = (member (next L i) (first L begins g) ≡ true) ⊎ ((nullable g ≡ true) × (i ≡ o))

    pub starts : {A : Type 0} (g : Rule L A) (v : A) (i o : Tokens L) → Spells L fits R g v i o → Starts g i o
    starts (one x xs) v i o s = inl (ap (λ (z : Tokens L). member (next L z) (x ∷ xs)) s.0 ∙ s.1)
    starts empty v i o s = inr (refl, s)
    starts (both g h) v i o s =
        elim (starts g v.0 i s.0 s.1) [
          | inl a ↦ inl (ahead_first (nullable g) (next L i) (first L begins g) (first L begins h) a)
          | inr a ↦ elim (starts h v.1 s.0 o s.2) [
            | inl b ↦ inl (ahead_behind (nullable g) (next L i) (first L begins g) (first L begins h) a.0 (ap (λ (z : Tokens L). member (next L z) (first L begins h)) a.1 ∙ b))
            | inr b ↦ inr (rw (a.0, b.0) refl, a.1 ∙ b.1)
          ]
        ]
    starts (either g h) v i o (inl s) =
        elim (starts g v i o s) [
          | inl a ↦ inl (member-left (next L i) (first L begins g) (first L begins h) a)
          | inr a ↦ inr (rw a.0 refl, a.1)
        ]
    starts (either g h) v i o (inr s) =
        elim (starts h v i o s) [
          | inl a ↦ inl (member-right (next L i) (first L begins g) (first L begins h) a)
          | inr a ↦ inr (or_at (nullable g) (nullable h) a.0, a.1)
        ]
      where
        or_at : (a b : Bool) → b ≡ true → (a || b) ≡ true
        or_at true b e = refl
        or_at false b e = e
    starts (many g) vs i o s =
        elim (chain_starts (Spells L fits R g) (λ j. member (next L j) (first L begins g) ≡ true) (λ w j m t. elim (starts g w j m t) [ inl a ↦ inl a | inr a ↦ inr a.1 ]) vs i o s) [
          | inl a ↦ inl a
          | inr a ↦ inr (refl, a)
        ]
    starts (maybe x g) None i o s = inr (refl, s.0)
    starts (maybe x g) (Some v) i o s = inl (ap (λ (z : Tokens L). nat_eq (next L z) (x)) s.2 ∙ s.3)
    starts (grow w f ends g h) v i o s =
        elim (starts g s.0 i s.3.0 s.3.1) [
          | inl a ↦ inl (ahead_first (nullable g) (next L i) (first L begins g) (first L begins h) a)
          | inr a ↦ elim (chain_starts (Spells L fits R h) (λ j. member (next L j) (first L begins h) ≡ true) (λ w j m t. elim (starts h w j m t) [ inl b ↦ inl b | inr b ↦ inr b.1 ]) s.1 s.3.0 o s.3.2) [
            | inl b ↦ inl (ahead_behind (nullable g) (next L i) (first L begins g) (first L begins h) a.0 (ap (λ (z : Tokens L). member (next L z) (first L begins h)) a.1 ∙ b))
            | inr b ↦ inr (a.0, a.1 ∙ b)
          ]
        ]
    starts (made f g) v i o s = starts g s.0 i o s.2
    starts (nest p) v i o s = inl (begun p v i o s)

  -- ---- reading finds what is spelled

  pub take_same : (ks : List ℕ) (t : L.Token) (i o : Tokens L) → (i ≡ t ∷ o) × (member (L.code t) ks ≡ true) → take_one L ks i ≡ Ok (t, o)
  unfolding take_one
  take_same ks t i o s = ap (take_one L ks) s.0 ∙ (rw s.1 refl)

  pair_is : {A : Type 0} (a v : A) (i o : Tokens L) → a ≡ v → i ≡ o → ◌≡◌ {A = A × Tokens L} (a, i) (v, o)
  pair_is {A} a v i o g s = rw (g, s) refl

  pub not_first : (a b : Bool) → a ≡ false → (a && b) ≡ false
  not_first true b e = absurd cc
  not_first false b e = refl

  none_left : (i : Tokens L) → length i ≤ 0 → i ≡ []
  none_left [] h = refl
  none_left (t ∷ i) h = absurd (omega arith)

  module _ (begins follow : L.Phrase → List ℕ) (fits : ℕ → Bool) (r : (p : L.Phrase) → Tokens L → Outcome L (L.Value p)) (R : (p : L.Phrase) → L.Value p → Tokens L → Tokens L → Type 0)
      (begun : (p : L.Phrase) (v : L.Value p) (i o : Tokens L) → R p v i o → member (next L i) (begins p) ≡ true)
      (shrinks : (p : L.Phrase) (i : Tokens L) (v : L.Value p) (o : Tokens L) → r p i ≡ Ok (v, o) → length o < length i)
      (finds : (p : L.Phrase) (v : L.Value p) (i o : Tokens L) → R p v i o → member (next L o) (follow p) ≡ true → r p i ≡ Ok (v, o)) where
    pub begins_it : {A : Type 0} (g : Rule L A) → nullable g ≡ false → (v : A) (i o : Tokens L) → Spells L fits R g v i o → member (next L i) (first L begins g) ≡ true
    begins_it g n v i o s = elim (starts begins fits R begun g v i o s) [ inl a ↦ a | inr a ↦ both_ways (nullable g) a.0 n ]

    pub in_ahead : {A : Type 0} (h : Rule L A) (F : List ℕ) (v : A) (i o : Tokens L) → Spells L fits R h v i o → member (next L o) F ≡ true → member (next L i) (ahead begins follow h F) ≡ true
    in_ahead h F v i o s f =
        elim (starts begins fits R begun h v i o s) [
          | inl a ↦ ahead_first (nullable h) (next L i) (first L begins h) F a
          | inr a ↦ ahead_behind (nullable h) (next L i) (first L begins h) F a.0 (ap (λ (z : Tokens L). member (next L z) F) a.1 ∙ f)
        ]

    pub chain_next : {A : Type 0} (g : Rule L A) (F : List ℕ) → nullable g ≡ false → (vs : List A) (i o : Tokens L) → Chain (Spells L fits R g) vs i o → member (next L o) F ≡ true → member (next L i) (first L begins g ++ F) ≡ true
    chain_next g F n [] i o s f = member-right (next L i) (first L begins g) F (ap (λ (z : Tokens L). member (next L z) F) s ∙ f)
    chain_next g F n (v ∷ vs) i o s f = member-left (next L i) (first L begins g) F (begins_it g n v i s.0 s.1)

    chain_found : {A : Type 0} (g : Rule L A) (F : List ℕ) → nullable g ≡ false → disjoint (first L begins g) F ≡ true
        → ((v : A) (i o : Tokens L) → Spells L fits R g v i o → member (next L o) (first L begins g ++ F) ≡ true → read L begins fits r g i ≡ Ok (v, o))
        → (n : ℕ) (vs : List A) (i o : Tokens L) → length i ≤ n → Chain (Spells L fits R g) vs i o → member (next L o) F ≡ true → repeat L (first L begins g) (read L begins fits r g) n i ≡ Ok (vs, o)
    unfolding repeat
    chain_found {A} g F z d h zero [] i o le s f = ap (λ (u : Tokens L). Ok ([], u)) s
    chain_found {A} g F z d h (suc n) [] i o le s f =
        test_false (member (next L i) (first L begins g)) _ (Ok ([], i)) (Ok ([], o)) (apart_back (next L i) (first L begins g) F d (ap (λ (u : Tokens L). member (next L u) F) s ∙ f)) (ap (λ (u : Tokens L). Ok ([], u)) s)
    chain_found g F z d h zero (v ∷ vs) i o le s f =
        let e = h v i s.0 s.1 (chain_next g F z vs s.0 o s.2 f) in
        let lt : length s.0 < length i = strictly L begins fits r shrinks g z i v s.0 e in
        absurd (omega arith)
    chain_found g F z d h (suc n) (v ∷ vs) i o le s f =
        let e = h v i s.0 s.1 (chain_next g F z vs s.0 o s.2 f) in
        let lt : length s.0 < length i = strictly L begins fits r shrinks g z i v s.0 e in
        let t = begins_it g z v i s.0 s.1 in
        let more = chain_found g F z d h n vs s.0 o (omega arith) s.2 f in
        rw (t, e, more) refl

    -- what may follow a part by which a value has grown
    pub next_behind : {A B : Type 0} (x : Bool) (w : Growth L A) (f : A → B → A) → Ends x w f → (h : Rule L B) (F : List ℕ) → nullable h ≡ false → (a : A) (b : B) (bs : List B) (v : A) (m o : Tokens L)
        → Grown fits w f (f a b) bs v → Chain (Spells L fits R h) bs m o → member (next L o) F ≡ true → member (next L m) (cond x (first L begins h ++ F) F) ≡ true
    next_behind true w f e h F z a b bs v m o g s k = chain_next h F z bs m o s k
    next_behind false w f e h F z a b [] v m o g s k = ap (λ (u : Tokens L). member (next L u) F) s ∙ k
    next_behind false w f e h F z a b (c ∷ cs) v m o g s k = both_ways (w.may (f a b)) g.0 (e a b)

    grow_found : {A B : Type 0} (w : Growth L A) (f : A → B → A) (ends : Ends w.again w f) (h : Rule L B) (F : List ℕ) → nullable h ≡ false → disjoint (first L begins h) F ≡ true
        → ((v : B) (i o : Tokens L) → Spells L fits R h v i o → member (next L o) (cond w.again (first L begins h ++ F) F) ≡ true → read L begins fits r h i ≡ Ok (v, o))
        → (n : ℕ) (a : A) (bs : List B) (v : A) (i o : Tokens L) → length i ≤ n → Grown fits w f a bs v → Chain (Spells L fits R h) bs i o → member (next L o) F ≡ true
        → grow_by L fits w f (first L begins h) (read L begins fits r h) n a i ≡ Ok (v, o)
    unfolding grow_by
    grow_found {A} w f ends h F z d k zero a [] v i o le g s m = ap (λ (u : A × Tokens L). Ok u) (pair_is a v i o g s)
    grow_found {A} w f ends h F z d k (suc n) a [] v i o le g s m =
        test_false (member (next L i) (first L begins h) && w.may a) _ (Ok (a, i)) (Ok (v, o))
        (not_first (member (next L i) (first L begins h)) (w.may a) (apart_back (next L i) (first L begins h) F d (ap (λ (u : Tokens L). member (next L u) F) s ∙ m)))
        (ap (λ (u : A × Tokens L). Ok u) (pair_is a v i o g s))
    grow_found w f ends h F z d k zero a (b ∷ bs) v i o le g s m =
        let e = k b i s.0 s.1 (next_behind w.again w f ends h F z a b bs v s.0 o g.2 s.2 m) in
        let lt : length s.0 < length i = strictly L begins fits r shrinks h z i b s.0 e in
        absurd (omega arith)
    grow_found w f ends h F z d k (suc n) a (b ∷ bs) v i o le g s m =
        let e = k b i s.0 s.1 (next_behind w.again w f ends h F z a b bs v s.0 o g.2 s.2 m) in
        let lt : length s.0 < length i = strictly L begins fits r shrinks h z i b s.0 e in
        let t = begins_it h z b i s.0 s.1 in
        let more = grow_found w f ends h F z d k n (f a b) bs v s.0 o (omega arith) g.2 s.2 m in
        rw (t, g.0, g.1, e, more) refl

    pub complete : {A : Type 0} (g : Rule L A) (F : List ℕ) → is_told begins follow g F ≡ true → (v : A) (i o : Tokens L) → Spells L fits R g v i o → member (next L o) F ≡ true → read L begins fits r g i ≡ Ok (v, o)
    complete (one x xs) F c v i o s f = take_same (x ∷ xs) v i o s
    complete empty F c tt i o s f = ap (λ (u : Tokens L). Ok (tt, u)) s
    complete (both g h) F c v i o s f =
        let p = and_true (is_told begins follow g (ahead begins follow h F)) (is_told begins follow h F) c in
        let a = complete g (ahead begins follow h F) p.0 v.0 i s.0 s.1 (in_ahead h F v.1 s.0 o s.2 f) in
        let b = complete h F p.1 v.1 s.0 o s.2 f in
        rw (a, b) refl
    complete (either g h) F c v i o (inl s) f =
        let p = and_true (not (nullable g)) (disjoint (first L begins g) (ahead begins follow h F) && (is_told begins follow g F && is_told begins follow h F)) c in
        let q = and_true (disjoint (first L begins g) (ahead begins follow h F)) (is_told begins follow g F && is_told begins follow h F) p.1 in
        let u = and_true (is_told begins follow g F) (is_told begins follow h F) q.1 in
        test_true (member (next L i) (first L begins g)) (read L begins fits r g i) (read L begins fits r h i) (Ok (v, o)) (begins_it g (not_true (nullable g) p.0) v i o s) (complete g F u.0 v i o s f)
    complete (either g h) F c v i o (inr s) f =
        let p = and_true (not (nullable g)) (disjoint (first L begins g) (ahead begins follow h F) && (is_told begins follow g F && is_told begins follow h F)) c in
        let q = and_true (disjoint (first L begins g) (ahead begins follow h F)) (is_told begins follow g F && is_told begins follow h F) p.1 in
        let u = and_true (is_told begins follow g F) (is_told begins follow h F) q.1 in
        test_false (member (next L i) (first L begins g)) (read L begins fits r g i) (read L begins fits r h i) (Ok (v, o)) (apart_back (next L i) (first L begins g) (ahead begins follow h F) q.0 (in_ahead h F v i o s f)) (complete h F u.1 v i o s f)
    complete (many g) F c vs i o s f =
        let p = and_true (not (nullable g)) (disjoint (first L begins g) F && is_told begins follow g (first L begins g ++ F)) c in
        let q = and_true (disjoint (first L begins g) F) (is_told begins follow g (first L begins g ++ F)) p.1 in
        chain_found g F (not_true (nullable g) p.0) q.0 (complete g (first L begins g ++ F) q.1) (length i) vs i o (omega arith) s f
    complete (maybe {A} x g) F c None i o s f =
        test_false (nat_eq (next L i) (x)) (take_one L (x ∷ []) i >>= λ t. read L begins fits r g t.1 >>= λ y. Ok (Some y.0, y.1)) (Ok (None, i)) (Ok (None, o)) s.1 (ap (λ (u : Tokens L). Ok (None, u)) s.0)
    complete (maybe x g) F c (Some v) i o s f =
        let t : nat_eq (next L i) (x) ≡ true = ap (λ (z : Tokens L). nat_eq (next L z) (x)) s.2 ∙ s.3 in
        let a = take_same (x ∷ []) s.0 i s.1 (s.2, s.3) in
        let e = complete g F c v s.1 o s.4 f in
        rw (t, a, e) refl
    complete (grow w f ends g h) F c v i o s k =
        let p = and_true (not (nullable h)) (disjoint (first L begins h) F && (is_told begins follow g (first L begins h ++ F) && is_told begins follow h (cond w.again (first L begins h ++ F) F))) c in
        let q = and_true (disjoint (first L begins h) F) (is_told begins follow g (first L begins h ++ F) && is_told begins follow h (cond w.again (first L begins h ++ F) F)) p.1 in
        let u = and_true (is_told begins follow g (first L begins h ++ F)) (is_told begins follow h (cond w.again (first L begins h ++ F) F)) q.1 in
        let z = not_true (nullable h) p.0 in
        let a = complete g (first L begins h ++ F) u.0 s.0 i s.3.0 s.3.1 (chain_next h F z s.1 s.3.0 o s.3.2 k) in
        let b = grow_found w f ends h F z q.0 (complete h (cond w.again (first L begins h ++ F) F) u.1) (length s.3.0) s.0 s.1 v s.3.0 o (omega arith) s.2 s.3.2 k in
        rw (a, b) refl
    complete (made {A} {B} f g) F c v i o s k =
        let e = complete g F c s.0 i o s.2 k in
        (rw e refl) ∙ ap (λ (z : B). Ok (z, o)) s.1
    complete (nest p) F c v i o s f = finds p v i o s (inside (next L o) F (follow p) c f)

-- The tokens before a fault go on to something that is spelled.
use Rattle.std.proofs.Common.{◌≡◌, ℕ, zero, suc, ◌+◌, Bool, true, false, cond, nat_eq, List, [], ◌∷◌, ◌++◌, length, Some, None, Ok, Err, refl, sym, ap, subst, ◌∙◌, inl, inr, arith, append_assoc}
use Rattle.std.specs.Prelude.{not, ◌&&◌}
use Rattle.grammar_rules.specs.Rule.{Language, Tokens, Rule, one, empty, both, either, many, maybe, grow, made, nest, Growth, next, member, first, Wrong, unexpected, too_deep, Fault, fault_at, Outcome, refuse, take_one, repeat, grow_by, read, ◌>>=◌, Chain, Spells}
use Rattle.grammar_rules.proofs.Steps.{chosen, fault_is, bind_err, step_err}
use Rattle.grammar_rules.proofs.Members.{and_true, not_true, both_ways}
use Rattle.grammar_rules.proofs.Shorter.{taken}
use Rattle.grammar_rules.proofs.Sound.{sound, GrownFrom}
use Rattle.grammar_rules.proofs.Wider.{spells_wider}
use Rattle.grammar_rules.proofs.Framed.{Safe, Near, near_behind, Framed, framed, is_fit}
use Rattle.grammar_rules.proofs.Words.{word, sample, safe_word, spells_word, grow_fit, opens}

-- no value is too high
abbrev pub all_fit : ℕ → Bool
all_fit n = true

module _ (L : Language) where
  -- a token with which a part nests too deep belongs to what goes on, since it does so at a greater depth
  abbrev pub extra : Wrong L → ℕ
  extra unexpected = 0
  extra (too_deep p) = 1

  pub record Viable (greedy : List ℕ) {A : Type 0} (S : A → Tokens L → Tokens L → Type 0) (i : Tokens L) (f : Fault L) : Type 0 where
    pub front : Tokens L
    pub rest : Tokens L
    pub more : Tokens L
    pub value : A
    pub parts : i ≡ front ++ rest
    pub left : length rest + extra f.kind ≡ f.left
    pub near : (z : Tokens L) → Safe L greedy z → Near L greedy i (front ++ (more ++ z))
    pub spells : (z : Tokens L) → Safe L greedy z → S value (front ++ (more ++ z)) z

  module _ (greedy : List ℕ) where
    -- with more after it
    pub viable_then : {A B : Type 0} (S : A → Tokens L → Tokens L → Type 0) (T : B → Tokens L → Tokens L → Type 0) (f : A → B) (w : Tokens L)
        → ((z : Tokens L) → Safe L greedy z → Safe L greedy (w ++ z)) → ((v : A) (j z : Tokens L) → Safe L greedy z → S v j (w ++ z) → T (f v) j z)
        → (i : Tokens L) (e : Fault L) → Viable greedy S i e → Viable greedy T i e
    viable_then S T f w safe go i e v = record {
      front = v.front;
      rest = v.rest;
      more = v.more ++ w;
      value = f v.value;
      parts = v.parts;
      left = v.left;
      near = λ z s. subst (λ (y : Tokens L). Near L greedy i (v.front ++ y)) (sym (append_assoc v.more w z)) (v.near (w ++ z) (safe z s));
      spells = λ z s. subst (λ (y : Tokens L). T (f v.value) (v.front ++ y) z) (sym (append_assoc v.more w z)) (go v.value (v.front ++ (v.more ++ (w ++ z))) z s (v.spells (w ++ z) (safe z s)));
    }

    -- with a front before it
    viable_after : {A B : Type 0} (S : A → Tokens L → Tokens L → Type 0) (T : B → Tokens L → Tokens L → Type 0) (f : A → B) (a i m : Tokens L) → i ≡ a ++ m
        → ((v : A) (u z : Tokens L) → Near L greedy m u → Safe L greedy z → S v u z → T (f v) (a ++ u) z) → (e : Fault L) → Viable greedy S m e → Viable greedy T i e
    viable_after S T f a i m parts go e v = record {
      front = a ++ v.front;
      rest = v.rest;
      more = v.more;
      value = f v.value;
      parts = parts ∙ ap (λ (z : Tokens L). a ++ z) v.parts ∙ sym (append_assoc a v.front v.rest);
      left = v.left;
      near = λ z s. subst (λ (y : Tokens L). Near L greedy y ((a ++ v.front) ++ (v.more ++ z))) (sym parts)
          (subst (λ (y : Tokens L). Near L greedy (a ++ m) y) (sym (append_assoc a v.front (v.more ++ z))) (near_behind L greedy a m (v.front ++ (v.more ++ z)) (v.near z s)));
      spells = λ z s. subst (λ (y : Tokens L). T (f v.value) y z) (sym (append_assoc a v.front (v.more ++ z))) (go v.value (v.front ++ (v.more ++ z)) z (v.near z s) s (v.spells z s));
    }

    viable_repeat : {A : Type 0} (S : A → Tokens L → Tokens L → Type 0) (ks : List ℕ) (item : Tokens L → Outcome L A)
        → ((i : Tokens L) (v : A) (o : Tokens L) → item i ≡ Ok (v, o) → Framed L greedy (S v) i o) → ((i : Tokens L) (e : Fault L) → item i ≡ Err e → Viable greedy S i e)
        → (n : ℕ) (i : Tokens L) (e : Fault L) → repeat L ks item n i ≡ Err e → Viable greedy (Chain S) i e
    unfolding repeat
    viable_repeat S ks item h k zero i e q = absurd cc
    viable_repeat {A} S ks item h k (suc n) i e q =
        elim (chosen (member (next L i) ks) (item i >>= λ x. repeat L ks item n x.1 >>= λ y. Ok (x.0 ∷ y.0, y.1)) (Ok ([], i)) (Err e) q) [
          | inl g ↦ elim (bind_err (item i) (λ x. repeat L ks item n x.1 >>= λ y. Ok (x.0 ∷ y.0, y.1)) e g.1) [
            | inl b ↦ viable_then S (Chain S) (λ v. v ∷ []) [] (λ z s. s) (λ v j z s t. (z, t, refl)) i e (k i e b)
            | inr b ↦
                let fr = h i b.0.0 b.0.1 b.1 in
                viable_after (Chain S) (Chain S) (λ vs. b.0.0 ∷ vs) fr.0 i b.0.1 fr.1 (λ vs u z near s t. (u, fr.2 u near, t)) e
                (viable_repeat S ks item h k n b.0.1 e (step_err (repeat L ks item n b.0.1) (λ y. (b.0.0 ∷ y.0, y.1)) e b.2))
          ]
          | inr g ↦ absurd cc
        ]

    -- a value is too high to grow, and grows at a greater depth
    viable_deep : {A B : Type 0} (T : B → Tokens L → Tokens L → Type 0) (w : Growth L A) (f : A → B → A) (ks : List ℕ) → member 0 ks ≡ false
        → ((t : L.Token) → member (L.code t) ks ≡ true → (more : Tokens L) × (v : B) × ((z : Tokens L) → Safe L greedy z → T v (t ∷ (more ++ z)) z))
        → (a : A) → w.may a ≡ true → (i : Tokens L) → member (next L i) ks ≡ true → Viable greedy (GrownFrom L all_fit w f T a) i (record { kind = too_deep (w.deepest a); left = length i })
    viable_deep T w f ks end h a m [] k = both_ways (member 0 ks) k end
    viable_deep T w f ks end h a m (t ∷ i) k =
        let o = h t k in record {
          front = t ∷ [];
          rest = i;
          more = o.0;
          value = f a o.1;
          parts = refl;
          left = omega arith;
          near = λ z s. inl refl;
          spells = λ z s. (o.1 ∷ [], (m, refl, refl), (z, o.2 z s, refl));
        }

    viable_grow : {A B : Type 0} (T : B → Tokens L → Tokens L → Type 0) (fits : ℕ → Bool) (w : Growth L A) (f : A → B → A) (ks : List ℕ) (item : Tokens L → Outcome L B) → member 0 ks ≡ false
        → ((i : Tokens L) (v : B) (o : Tokens L) → item i ≡ Ok (v, o) → Framed L greedy (T v) i o) → ((i : Tokens L) (e : Fault L) → item i ≡ Err e → Viable greedy T i e)
        → ((t : L.Token) → member (L.code t) ks ≡ true → (more : Tokens L) × (v : B) × ((z : Tokens L) → Safe L greedy z → T v (t ∷ (more ++ z)) z))
        → (n : ℕ) (a : A) (i : Tokens L) (e : Fault L) → grow_by L fits w f ks item n a i ≡ Err e → Viable greedy (GrownFrom L all_fit w f T a) i e
    unfolding grow_by
    viable_grow T fits w f ks item end h k l zero a i e q = absurd cc
    viable_grow {A} {B} T fits w f ks item end h k l (suc n) a i e q =
        elim (chosen (member (next L i) ks && w.may a) (cond (fits (w.height a)) (item i >>= λ x. grow_by L fits w f ks item n (f a x.0) x.1) (fault_at L (too_deep (w.deepest a)) i)) (Ok (a, i)) (Err e) q) [
          | inl g ↦
              let m = and_true (member (next L i) ks) (w.may a) g.0 in
              elim (chosen (fits (w.height a)) (item i >>= λ x. grow_by L fits w f ks item n (f a x.0) x.1) (fault_at L (too_deep (w.deepest a)) i) (Err e) g.1) [
                | inl c ↦ elim (bind_err (item i) (λ x. grow_by L fits w f ks item n (f a x.0) x.1) e c.1) [
                  | inl b ↦ viable_then T (GrownFrom L all_fit w f T a) (λ v. f a v) [] (λ z s. s) (λ v j z s t. (v ∷ [], (m.1, refl, refl), (z, t, refl))) i e (k i e b)
                  | inr b ↦
                      let fr = h i b.0.0 b.0.1 b.1 in
                      viable_after (GrownFrom L all_fit w f T (f a b.0.0)) (GrownFrom L all_fit w f T a) (λ v. v) fr.0 i b.0.1 fr.1 (λ v u z near s t. (b.0.0 ∷ t.0, (m.1, refl, t.1), (u, fr.2 u near, t.2))) e
                      (viable_grow T fits w f ks item end h k l n (f a b.0.0) b.0.1 e b.2)
                ]
                | inr c ↦ subst (Viable greedy (GrownFrom L all_fit w f T a) i) (fault_is {A = A × Tokens L} _ e c.1) (viable_deep T w f ks end l a m.1 i m.0)
              ]
          | inr g ↦ absurd cc
        ]

  abbrev pub here : Tokens L → Fault L
  here i = record { kind = unexpected; left = length i }

  pub refused : (ks : List ℕ) (i : Tokens L) (e : Fault L) → take_one L ks i ≡ Err e → here i ≡ e
  unfolding take_one
  refused ks [] e q = fault_is {A = L.Token × Tokens L} _ e q
  refused ks (t ∷ i) e q =
      elim (chosen (member (L.code t) ks) (Ok (t, i)) (refuse L (t ∷ i)) (Err e) q) [
        | inl g ↦ absurd cc
        | inr g ↦ fault_is {A = L.Token × Tokens L} _ e g.1
      ]

  not_refused : (x : ℕ) → nat_eq 0 x ≡ false → (i : Tokens L) (e : Fault L) → nat_eq (next L i) x ≡ true → take_one L (x ∷ []) i ≡ Err e → ⊥
  unfolding take_one
  not_refused x p [] e h q = both_ways (nat_eq 0 x) h p
  not_refused x p (t ∷ i) e h q =
      elim (chosen (nat_eq (L.code t) x) (Ok (t, i)) (refuse L (t ∷ i)) (Err e) q) [
        | inl g ↦ cc
        | inr g ↦ both_ways (nat_eq (L.code t) x) h g.0
      ]

  module _ (begins : L.Phrase → List ℕ) (greedy : List ℕ) (token : ℕ → L.Token) (word_of : L.Phrase → Tokens L) (value_of : (p : L.Phrase) → L.Value p)
      (safe_r : (p : L.Phrase) (z : Tokens L) → Safe L greedy z → Safe L greedy (word_of p ++ z))
      (fits : ℕ → Bool)
      (R : (p : L.Phrase) → L.Value p → Tokens L → Tokens L → Type 0)
      (word_r : (p : L.Phrase) (z : Tokens L) → Safe L greedy z → R p (value_of p) (word_of p ++ z) z)
      (framed_r : (p : L.Phrase) (v : L.Value p) (i o : Tokens L) → R p v i o → Framed L greedy (R p v) i o)
      (r : (p : L.Phrase) → Tokens L → Outcome L (L.Value p))
      (holds : (p : L.Phrase) (i : Tokens L) (v : L.Value p) (o : Tokens L) → r p i ≡ Ok (v, o) → R p v i o)
      (viable_r : (p : L.Phrase) (i : Tokens L) (e : Fault L) → r p i ≡ Err e → Viable greedy (R p) i e) where
    framed_read : {A : Type 0} (g : Rule L A) → is_fit L greedy begins token g ≡ true → (i : Tokens L) (v : A) (o : Tokens L) → read L begins fits r g i ≡ Ok (v, o) → Framed L greedy (Spells L all_fit R g v) i o
    framed_read g c i v o e =
        framed L greedy begins token all_fit R framed_r g c v i o (spells_wider L fits all_fit (λ n h. refl) R R (λ p w j u s. s) g v i o (sound L begins fits r R holds g i v o e))

    pub viable : {A : Type 0} (g : Rule L A) → is_fit L greedy begins token g ≡ true → (i : Tokens L) (e : Fault L) → read L begins fits r g i ≡ Err e → Viable greedy (Spells L all_fit R g) i e
    viable (one x xs) c i e q =
        let because : here i ≡ e = refused (x ∷ xs) i e q in record {
          front = [];
          rest = i;
          more = token x ∷ [];
          value = token x;
          parts = refl;
          left = subst (λ (f : Fault L). length i + extra f.kind ≡ f.left) because (omega arith);
          near = λ z s. inr (safe_word L begins greedy token word_of value_of safe_r (one x xs) c z s);
          spells = λ z s. spells_word L begins greedy token word_of value_of safe_r all_fit R word_r (one x xs) c z s;
        }
    viable empty c i e q = absurd cc
    viable (both {A} {B} g h) c i e q =
        let cs = and_true (is_fit L greedy begins token g) (is_fit L greedy begins token h) c in
        elim (bind_err (read L begins fits r g i) (λ x. read L begins fits r h x.1 >>= λ y. Ok ((x.0, y.0), y.1)) e q) [
          | inl b ↦ viable_then greedy (Spells L all_fit R g) (Spells L all_fit R (both g h)) (λ v. (v, sample L begins greedy token word_of value_of h)) (word L begins greedy token word_of value_of h)
              (safe_word L begins greedy token word_of value_of safe_r h cs.1)
              (λ v j z s t. (word L begins greedy token word_of value_of h ++ z, t, spells_word L begins greedy token word_of value_of safe_r all_fit R word_r h cs.1 z s)) i e (viable g cs.0 i e b)
          | inr b ↦
              let fr = framed_read g cs.0 i b.0.0 b.0.1 b.1 in
              viable_after greedy (Spells L all_fit R h) (Spells L all_fit R (both g h)) (λ w. (b.0.0, w)) fr.0 i b.0.1 fr.1 (λ w u z near s t. (u, fr.2 u near, t)) e
              (viable h cs.1 b.0.1 e (step_err (read L begins fits r h b.0.1) (λ y. ((b.0.0, y.0), y.1)) e b.2))
        ]
    viable (either g h) c i e q =
        let cs = and_true (is_fit L greedy begins token g) (is_fit L greedy begins token h) c in
        elim (chosen (member (next L i) (first L begins g)) (read L begins fits r g i) (read L begins fits r h i) (Err e) q) [
          | inl b ↦ viable_then greedy (Spells L all_fit R g) (Spells L all_fit R (either g h)) (λ v. v) [] (λ z s. s) (λ v j z s t. inl t) i e (viable g cs.0 i e b.1)
          | inr b ↦ viable_then greedy (Spells L all_fit R h) (Spells L all_fit R (either g h)) (λ v. v) [] (λ z s. s) (λ v j z s t. inr t) i e (viable h cs.1 i e b.1)
        ]
    viable (many g) c i e q = viable_repeat greedy (Spells L all_fit R g) (first L begins g) (read L begins fits r g) (framed_read g c) (viable g c) (length i) i e q
    viable (maybe x g) c i e q =
        let cs = and_true (member x greedy) (not (nat_eq 0 x) && is_fit L greedy begins token g) c in
        let ds = and_true (not (nat_eq 0 x)) (is_fit L greedy begins token g) cs.1 in
        elim (chosen (nat_eq (next L i) x) (take_one L (x ∷ []) i >>= λ t. read L begins fits r g t.1 >>= λ y. Ok (Some y.0, y.1)) (Ok (None, i)) (Err e) q) [
          | inl b ↦ elim (bind_err (take_one L (x ∷ []) i) (λ t. read L begins fits r g t.1 >>= λ y. Ok (Some y.0, y.1)) e b.1) [
            | inl d ↦ absurd (not_refused x (not_true (nat_eq 0 x) ds.0) i e b.0 d)
            | inr d ↦
                let t = taken L (x ∷ []) i d.0.0 d.0.1 d.1 in
                viable_after greedy (Spells L all_fit R g) (Spells L all_fit R (maybe x g)) Some (d.0.0 ∷ []) i d.0.1 t.0 (λ w u z near s k. (d.0.0, u, refl, t.1, k)) e
                (viable g ds.1 d.0.1 e (step_err (read L begins fits r g d.0.1) (λ y. (Some y.0, y.1)) e d.2))
          ]
          | inr b ↦ absurd cc
        ]
    viable (grow {A} w f ends g h) c i e q =
        let cs = grow_fit L begins greedy token word_of value_of g h c in
        elim (bind_err (read L begins fits r g i) (λ x. grow_by L fits w f (first L begins h) (read L begins fits r h) (length x.1) x.0 x.1) e q) [
          | inl b ↦ viable_then greedy (Spells L all_fit R g) (Spells L all_fit R (grow w f ends g h)) (λ v. v) [] (λ z s. s) (λ v j z s t. (v, [], refl, (z, t, refl))) i e (viable g cs.0 i e b)
          | inr b ↦
              let fr = framed_read g cs.0 i b.0.0 b.0.1 b.1 in
              viable_after greedy (GrownFrom L all_fit w f (Spells L all_fit R h) b.0.0) (Spells L all_fit R (grow w f ends g h)) (λ v. v) fr.0 i b.0.1 fr.1 (λ v u z near s t. (b.0.0, t.0, t.1, (u, fr.2 u near, t.2))) e
              (viable_grow greedy (Spells L all_fit R h) fits w f (first L begins h) (read L begins fits r h) cs.3 (framed_read h cs.1) (viable h cs.1)
              (opens L begins greedy token word_of value_of safe_r all_fit R word_r (λ p. false) (λ p k t m. absurd cc) h cs.2 cs.1) (length b.0.1) b.0.0 b.0.1 e b.2)
        ]
    viable (made f g) c i e q =
        viable_then greedy (Spells L all_fit R g) (Spells L all_fit R (made f g)) f [] (λ z s. s) (λ v j z s t. (v, refl, t)) i e (viable g c i e (step_err (read L begins fits r g i) (λ x. (f x.0, x.1)) e q))
    viable (nest p) c i e q = viable_r p i e q

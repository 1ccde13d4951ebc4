-- A part that reading finds to nest too deep is the first that does.
use Rattle.std.proofs.Common.{◌≡◌, ℕ, zero, suc, Bool, true, false, cond, nat_eq, List, [], ◌∷◌, ◌++◌, length, Some, None, Ok, Err, refl, subst, ◌⊎◌, inl, inr}
use Rattle.std.specs.Prelude.{not, ◌&&◌}
use Rattle.grammar_rules.specs.Rule.{Language, Tokens, Rule, one, empty, both, either, many, maybe, grow, made, nest, Growth, next, member, first, Wrong, unexpected, too_deep, Fault, fault_at, Outcome, take_one, repeat, grow_by, read, ◌>>=◌, Chain, Spells}
use Rattle.grammar_rules.specs.Deep.{Begins, Exceeds}
use Rattle.grammar_rules.proofs.Steps.{chosen, fault_is, bind_err, step_err}
use Rattle.grammar_rules.proofs.Members.{and_true, both_ways}
use Rattle.grammar_rules.proofs.Shorter.{taken}
use Rattle.grammar_rules.proofs.Sound.{sound, GrownFrom}
use Rattle.grammar_rules.proofs.Framed.{Safe, is_fit}
use Rattle.grammar_rules.proofs.Opened.{is_open}
use Rattle.grammar_rules.proofs.Words.{grow_fit, opens}
use Rattle.grammar_rules.proofs.Viable.{all_fit, here, refused}

module _ (L : Language) where
  -- where a fault of a part that nests too deep is
  abbrev pub Known : (Tokens L → L.Place → Type 0) → Wrong L → ℕ → Type 0
  Known X unexpected n = Unit {0}
  Known X (too_deep place) n = (o : Tokens L) × X o place × (length o ≡ n)

  pub known_by : (X Y : Tokens L → L.Place → Type 0) → ((o : Tokens L) (place : L.Place) → X o place → Y o place) → (e : Fault L) → Known X e.kind e.left → Known Y e.kind e.left
  known_by X Y h e k = go e.kind e.left k
    where
      go : (w : Wrong L) (n : ℕ) → Known X w n → Known Y w n
      go unexpected n s = tt
      go (too_deep place) n s = (s.0, h s.0 place s.1, s.2)

  abbrev At : Fault L → (Tokens L → L.Place → Type 0) → Type 0
  At e X = Known X e.kind e.left

  pub known_there : (X : Tokens L → L.Place → Type 0) (f e : Fault L) → f ≡ e → Known X f.kind f.left → Known X e.kind e.left
  known_there X f e q k = subst (λ (f : Fault L). Known X f.kind f.left) q k

  -- ---- a repetition

  abbrev Repeated : {A : Type 0} → (A → Tokens L → Tokens L → Type 0) → (Tokens L → Tokens L → L.Place → Type 0) → Tokens L → Tokens L → L.Place → Type 0
  Repeated {A} S X i o place = (vs : List A) × (m : Tokens L) × Chain S vs i m × X m o place

  known_repeat : {A : Type 0} (S : A → Tokens L → Tokens L → Type 0) (X : Tokens L → Tokens L → L.Place → Type 0) (ks : List ℕ) (item : Tokens L → Outcome L A)
      → ((i : Tokens L) (v : A) (o : Tokens L) → item i ≡ Ok (v, o) → S v i o) → ((i : Tokens L) (e : Fault L) → item i ≡ Err e → At e (X i))
      → (n : ℕ) (i : Tokens L) (e : Fault L) → repeat L ks item n i ≡ Err e → At e (Repeated S X i)
  unfolding repeat
  known_repeat S X ks item h k zero i e q = absurd cc
  known_repeat {A} S X ks item h k (suc n) i e q =
      elim (chosen (member (next L i) ks) (item i >>= λ x. repeat L ks item n x.1 >>= λ y. Ok (x.0 ∷ y.0, y.1)) (Ok ([], i)) (Err e) q) [
        | inl g ↦ elim (bind_err (item i) (λ x. repeat L ks item n x.1 >>= λ y. Ok (x.0 ∷ y.0, y.1)) e g.1) [
          | inl b ↦ known_by (X i) (Repeated S X i) (λ o place x. ([], i, refl, x)) e (k i e b)
          | inr b ↦ known_by (Repeated S X b.0.1) (Repeated S X i) (λ o place x. (b.0.0 ∷ x.0, x.1, (b.0.1, h i b.0.0 b.0.1 b.1, x.2), x.3)) e
              (known_repeat S X ks item h k n b.0.1 e (step_err (repeat L ks item n b.0.1) (λ y. (b.0.0 ∷ y.0, y.1)) e b.2))
        ]
        | inr g ↦ absurd cc
      ]

  -- ---- what grows

  -- what follows a value that may grow: a part that exceeds the limits, or one that the value is too high for
  abbrev pub Behind : {A B : Type 0} → (fits : ℕ → Bool) → Growth L A → (Tokens L → Tokens L → L.Place → Type 0) → (B → Tokens L → Tokens L → Type 0) → A → Tokens L → Tokens L → L.Place → Type 0
  Behind fits w X T v m o place = ((fits (w.height v) ≡ true) × X m o place) ⊎ ((m ≡ o) × ((fits (w.height v) ≡ false) × (w.deepest v ≡ place) × Begins L T m))

  abbrev pub GrownTo : {A B : Type 0} → (fits : ℕ → Bool) → Growth L A → (A → B → A) → (S T : B → Tokens L → Tokens L → Type 0) → (Tokens L → Tokens L → L.Place → Type 0) → A → Tokens L → Tokens L → L.Place → Type 0
  GrownTo {A} fits w f S T X a i o place = (v : A) × (m : Tokens L) × GrownFrom L fits w f S a v i m × (w.may v ≡ true) × Behind fits w X T v m o place

  known_grow : {A B : Type 0} (S T : B → Tokens L → Tokens L → Type 0) (X : Tokens L → Tokens L → L.Place → Type 0) (fits : ℕ → Bool) (w : Growth L A) (f : A → B → A) (ks : List ℕ) (item : Tokens L → Outcome L B)
      → ((i : Tokens L) (v : B) (o : Tokens L) → item i ≡ Ok (v, o) → S v i o) → ((i : Tokens L) (e : Fault L) → item i ≡ Err e → At e (X i)) → ((i : Tokens L) → member (next L i) ks ≡ true → Begins L T i)
      → (n : ℕ) (a : A) (i : Tokens L) (e : Fault L) → grow_by L fits w f ks item n a i ≡ Err e → At e (GrownTo fits w f S T X a i)
  unfolding grow_by
  known_grow S T X fits w f ks item h k l zero a i e q = absurd cc
  known_grow {A} {B} S T X fits w f ks item h k l (suc n) a i e q =
      elim (chosen (member (next L i) ks && w.may a) (cond (fits (w.height a)) (item i >>= λ x. grow_by L fits w f ks item n (f a x.0) x.1) (fault_at L (too_deep (w.deepest a)) i)) (Ok (a, i)) (Err e) q) [
        | inl g ↦
            let m = and_true (member (next L i) ks) (w.may a) g.0 in
            elim (chosen (fits (w.height a)) (item i >>= λ x. grow_by L fits w f ks item n (f a x.0) x.1) (fault_at L (too_deep (w.deepest a)) i) (Err e) g.1) [
              | inl c ↦ elim (bind_err (item i) (λ x. grow_by L fits w f ks item n (f a x.0) x.1) e c.1) [
                | inl b ↦ known_by (X i) (GrownTo fits w f S T X a i) (λ o place x. (a, i, ([], refl, refl), m.1, inl (c.0, x))) e (k i e b)
                | inr b ↦ known_by (GrownTo fits w f S T X (f a b.0.0) b.0.1) (GrownTo fits w f S T X a i)
                    (λ o place x. (x.0, x.1, (b.0.0 ∷ x.2.0, (m.1, c.0, x.2.1), (b.0.1, h i b.0.0 b.0.1 b.1, x.2.2)), x.3, x.4)) e
                    (known_grow S T X fits w f ks item h k l n (f a b.0.0) b.0.1 e b.2)
              ]
              | inr c ↦ known_there (GrownTo fits w f S T X a i) _ e (fault_is {A = A × Tokens L} _ e c.1) (i, (a, i, ([], refl, refl), m.1, inr (refl, (c.0, refl, l i m.0))), refl)
            ]
        | inr g ↦ absurd cc
      ]

  module _ (begins : L.Phrase → List ℕ) (greedy : List ℕ) (token : ℕ → L.Token) (word_of : L.Phrase → Tokens L) (value_of : (p : L.Phrase) → L.Value p)
      (safe_r : (p : L.Phrase) (z : Tokens L) → Safe L greedy z → Safe L greedy (word_of p ++ z)) (end : member 0 greedy ≡ false)
      (fits : ℕ → Bool)
      (R U : (p : L.Phrase) → L.Value p → Tokens L → Tokens L → Type 0)
      (X : (p : L.Phrase) → Tokens L → Tokens L → L.Place → Type 0)
      (word_u : (p : L.Phrase) (z : Tokens L) → Safe L greedy z → U p (value_of p) (word_of p ++ z) z)
      (r : (p : L.Phrase) → Tokens L → Outcome L (L.Value p))
      (holds : (p : L.Phrase) (i : Tokens L) (v : L.Value p) (o : Tokens L) → r p i ≡ Ok (v, o) → R p v i o)
      (known_r : (p : L.Phrase) (i : Tokens L) (e : Fault L) → r p i ≡ Err e → Known (X p i) e.kind e.left) where
    -- a token that may come first of what grows begins it
    begun_by : {B : Type 0} (h : Rule L B) → is_open L (λ p. false) h ≡ true → is_fit L greedy begins token h ≡ true → member 0 (first L begins h) ≡ false
        → (i : Tokens L) → member (next L i) (first L begins h) ≡ true → Begins L (Spells L all_fit U h) i
    begun_by h c f z [] m = both_ways (member 0 (first L begins h)) m z
    begun_by h c f z (t ∷ i) m =
        let a = opens L begins greedy token word_of value_of safe_r all_fit U word_u (λ p. false) (λ p k t m. absurd cc) h c f t m in
        (a.0 ++ [], a.1, [], a.2 [] end)

    pub known : {A : Type 0} (g : Rule L A) → is_fit L greedy begins token g ≡ true → (i : Tokens L) (e : Fault L) → read L begins fits r g i ≡ Err e → Known (Exceeds L fits R U X g i) e.kind e.left
    known (one x xs) c i e q = known_there (λ o place. ⊥) (here L i) e (refused L (x ∷ xs) i e q) tt
    known empty c i e q = absurd cc
    known (both {A} {B} g h) c i e q =
        let cs = and_true (is_fit L greedy begins token g) (is_fit L greedy begins token h) c in
        elim (bind_err (read L begins fits r g i) (λ x. read L begins fits r h x.1 >>= λ y. Ok ((x.0, y.0), y.1)) e q) [
          | inl b ↦ known_by (Exceeds L fits R U X g i) (Exceeds L fits R U X (both g h) i) (λ o place x. inl x) e (known g cs.0 i e b)
          | inr b ↦ known_by (Exceeds L fits R U X h b.0.1) (Exceeds L fits R U X (both g h) i) (λ o place x. inr (b.0.0, b.0.1, sound L begins fits r R holds g i b.0.0 b.0.1 b.1, x)) e
              (known h cs.1 b.0.1 e (step_err (read L begins fits r h b.0.1) (λ y. ((b.0.0, y.0), y.1)) e b.2))
        ]
    known (either g h) c i e q =
        let cs = and_true (is_fit L greedy begins token g) (is_fit L greedy begins token h) c in
        elim (chosen (member (next L i) (first L begins g)) (read L begins fits r g i) (read L begins fits r h i) (Err e) q) [
          | inl b ↦ known_by (Exceeds L fits R U X g i) (Exceeds L fits R U X (either g h) i) (λ o place x. inl x) e (known g cs.0 i e b.1)
          | inr b ↦ known_by (Exceeds L fits R U X h i) (Exceeds L fits R U X (either g h) i) (λ o place x. inr x) e (known h cs.1 i e b.1)
        ]
    known (many g) c i e q =
        known_repeat (Spells L fits R g) (Exceeds L fits R U X g) (first L begins g) (read L begins fits r g) (sound L begins fits r R holds g) (known g c) (length i) i e q
    known (maybe x g) c i e q =
        let cs = and_true (member x greedy) (not (nat_eq 0 x) && is_fit L greedy begins token g) c in
        let ds = and_true (not (nat_eq 0 x)) (is_fit L greedy begins token g) cs.1 in
        elim (chosen (nat_eq (next L i) x) (take_one L (x ∷ []) i >>= λ t. read L begins fits r g t.1 >>= λ y. Ok (Some y.0, y.1)) (Ok (None, i)) (Err e) q) [
          | inl b ↦ elim (bind_err (take_one L (x ∷ []) i) (λ t. read L begins fits r g t.1 >>= λ y. Ok (Some y.0, y.1)) e b.1) [
            | inl d ↦ known_there (Exceeds L fits R U X (maybe x g) i) (here L i) e (refused L (x ∷ []) i e d) tt
            | inr d ↦
                let t = taken L (x ∷ []) i d.0.0 d.0.1 d.1 in
                known_by (Exceeds L fits R U X g d.0.1) (Exceeds L fits R U X (maybe x g) i) (λ o place k. (d.0.0, d.0.1, t.0, t.1, k)) e (known g ds.1 d.0.1 e (step_err (read L begins fits r g d.0.1) (λ y. (Some y.0, y.1)) e d.2))
          ]
          | inr b ↦ absurd cc
        ]
    known (grow {A} {B} w f ends g h) c i e q =
        let cs = grow_fit L begins greedy token word_of value_of g h c in
        elim (bind_err (read L begins fits r g i) (λ x. grow_by L fits w f (first L begins h) (read L begins fits r h) (length x.1) x.0 x.1) e q) [
          | inl b ↦ known_by (Exceeds L fits R U X g i) (Exceeds L fits R U X (grow w f ends g h) i) (λ o place x. inl x) e (known g cs.0 i e b)
          | inr b ↦ known_by (GrownTo fits w f (Spells L fits R h) (Spells L all_fit U h) (Exceeds L fits R U X h) b.0.0 b.0.1) (Exceeds L fits R U X (grow w f ends g h) i)
              (λ o place x. inr (x.0, x.1, (b.0.0, x.2.0, x.2.1, (b.0.1, sound L begins fits r R holds g i b.0.0 b.0.1 b.1, x.2.2)), x.3, x.4)) e
              (known_grow (Spells L fits R h) (Spells L all_fit U h) (Exceeds L fits R U X h) fits w f (first L begins h) (read L begins fits r h) (sound L begins fits r R holds h) (known h cs.1) (begun_by h cs.2 cs.1 cs.3) (length b.0.1) b.0.0 b.0.1 e b.2)
        ]
    known (made f g) c i e q = known g c i e (step_err (read L begins fits r g i) (λ x. (f x.0, x.1)) e q)
    known (nest p) c i e q = known_r p i e q

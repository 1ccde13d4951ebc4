-- What holds of all values that a rule spells.
use Rattle.std.proofs.Common.{◌≡◌, ℕ, Bool, true, List, [], ◌∷◌, Some, None, subst, inl, inr}
use Rattle.grammar_rules.specs.Rule.{Language, Tokens, Rule, one, empty, both, either, many, maybe, grow, made, nest, Growth, Chain, Grown, Spells}

-- each of a list is such
abbrev pub AllOf : {A : Type 0} → (A → Type 0) → List A → Type 0
AllOf P [] = Unit {0}
AllOf P (v ∷ vs) = P v × AllOf P vs

module _ (L : Language) (fits : ℕ → Bool) (R : (p : L.Phrase) → L.Value p → Tokens L → Tokens L → Type 0) (P : (p : L.Phrase) → L.Value p → Type 0)
    (inside : (p : L.Phrase) (v : L.Value p) (i o : Tokens L) → R p v i o → P p v) where
  -- some tokens spell it
  abbrev pub IsSpelledBy : {A : Type 0} → Rule L A → A → Type 0
  IsSpelledBy g v = (i : Tokens L) × (o : Tokens L) × Spells L fits R g v i o

  -- what has to be shown of a rule's parts, so that Q holds of all that it spells
  abbrev pub Holds : {A : Type 0} → Rule L A → (A → Type 0) → Type 0
  Holds (one x xs) Q = (t : L.Token) → Q t
  Holds empty Q = Q tt
  Holds (both g h) Q = Holds g (λ a. Holds h (λ b. Q (a, b)))
  Holds (either g h) Q = Holds g Q × Holds h Q
  Holds (many {A} g) Q = (vs : List A) → AllOf (IsSpelledBy g) vs → Q vs
  Holds (maybe x g) Q = Q None × Holds g (λ v. Q (Some v))
  Holds (grow {A} w f ends g h) Q = Holds g Q × ((a : A) → Q a → fits (w.height a) ≡ true → Holds h (λ b. Q (f a b)))
  Holds (made f g) Q = Holds g (λ a. Q (f a))
  Holds (nest p) Q = (v : L.Value p) → P p v → Q v

  chain_all : {A : Type 0} (g : Rule L A) (vs : List A) (i o : Tokens L) → Chain (Spells L fits R g) vs i o → AllOf (IsSpelledBy g) vs
  chain_all g [] i o s = tt
  chain_all g (v ∷ vs) i o s = ((i, s.0, s.1), chain_all g vs s.0 o s.2)

  -- what holds of a value before it grows, and after each growth, holds of what it grows to
  grown_holds : {A B : Type 0} (w : Growth L A) (f : A → B → A) (h : Rule L B) (Q : A → Type 0)
      → ((a : A) (b : B) (m o : Tokens L) → Q a → fits (w.height a) ≡ true → Spells L fits R h b m o → Q (f a b))
      → (a : A) (bs : List B) (v : A) (m o : Tokens L) → Q a → Grown fits w f a bs v → Chain (Spells L fits R h) bs m o → Q v
  grown_holds w f h Q step a [] v m o q g c = subst Q g q
  grown_holds w f h Q step a (b ∷ bs) v m o q g c = grown_holds w f h Q step (f a b) bs v c.0 o (step a b m c.0 q g.1 c.1) g.2 c.2

  pub holds : {A : Type 0} (g : Rule L A) (Q : A → Type 0) → Holds g Q → (v : A) (i o : Tokens L) → Spells L fits R g v i o → Q v
  holds (one x xs) Q k v i o s = k v
  holds empty Q k tt i o s = k
  holds (both g h) Q k v i o s = holds h (λ b. Q (v.0, b)) (holds g (λ a. Holds h (λ b. Q (a, b))) k v.0 i s.0 s.1) v.1 s.0 o s.2
  holds (either g h) Q k v i o (inl s) = holds g Q k.0 v i o s
  holds (either g h) Q k v i o (inr s) = holds h Q k.1 v i o s
  holds (many g) Q k vs i o s = k vs (chain_all g vs i o s)
  holds (maybe x g) Q k None i o s = k.0
  holds (maybe x g) Q k (Some v) i o s = holds g (λ v. Q (Some v)) k.1 v s.1 o s.4
  holds (grow w f ends g h) Q k v i o s =
      grown_holds w f h Q (λ a b m u q e t. holds h (λ c. Q (f a c)) (k.1 a q e) b m u t) s.0 s.1 v s.3.0 o (holds g Q k.0 s.0 i s.3.0 s.3.1) s.2 s.3.2
  holds (made f g) Q k v i o s = subst Q s.1 (holds g (λ a. Q (f a)) k s.0 i o s.2)
  holds (nest p) Q k v i o s = k v (inside p v i o s)

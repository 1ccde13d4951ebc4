-- What is spelled within limits is spelled within wider ones.
use Rattle.std.proofs.Common.{◌≡◌, ℕ, Bool, true, List, [], ◌∷◌, Some, None, inl, inr}
use Rattle.grammar_rules.specs.Rule.{Language, Tokens, Rule, one, empty, both, either, many, maybe, grow, made, nest, Growth, Chain, Grown, Spells}

chain_wider : {A T : Type 0} (S U : A → List T → List T → Type 0) → ((v : A) (i o : List T) → S v i o → U v i o) → (vs : List A) (i o : List T) → Chain S vs i o → Chain U vs i o
chain_wider S U h [] i o s = s
chain_wider S U h (v ∷ vs) i o s = (s.0, h v i s.0 s.1, chain_wider S U h vs s.0 o s.2)

grown_wider : {L : Language} {A B : Type 0} (fits more : ℕ → Bool) → ((n : ℕ) → fits n ≡ true → more n ≡ true) → (w : Growth L A) (f : A → B → A) (a : A) (bs : List B) (v : A) → Grown fits w f a bs v → Grown more w f a bs v
grown_wider fits more h w f a [] v g = g
grown_wider fits more h w f a (b ∷ bs) v g = (g.0, h (w.height a) g.1, grown_wider fits more h w f (f a b) bs v g.2)

module _ (L : Language) (fits more : ℕ → Bool) (wider : (n : ℕ) → fits n ≡ true → more n ≡ true)
    (R Q : (p : L.Phrase) → L.Value p → Tokens L → Tokens L → Type 0) (nested : (p : L.Phrase) (v : L.Value p) (i o : Tokens L) → R p v i o → Q p v i o) where
  pub spells_wider : {A : Type 0} (g : Rule L A) (v : A) (i o : Tokens L) → Spells L fits R g v i o → Spells L more Q g v i o
  spells_wider (one x xs) v i o s = s
  spells_wider empty v i o s = s
  spells_wider (both g h) v i o s = (s.0, spells_wider g v.0 i s.0 s.1, spells_wider h v.1 s.0 o s.2)
  spells_wider (either g h) v i o (inl s) = inl (spells_wider g v i o s)
  spells_wider (either g h) v i o (inr s) = inr (spells_wider h v i o s)
  spells_wider (many g) vs i o s = chain_wider (Spells L fits R g) (Spells L more Q g) (spells_wider g) vs i o s
  spells_wider (maybe x g) None i o s = s
  spells_wider (maybe x g) (Some v) i o s = (s.0, s.1, s.2, s.3, spells_wider g v s.1 o s.4)
  spells_wider (grow w f ends g h) v i o s = (
    s.0,
    s.1,
    grown_wider fits more wider w f s.0 s.1 v s.2,
    (s.3.0, spells_wider g s.0 i s.3.0 s.3.1, chain_wider (Spells L fits R h) (Spells L more Q h) (spells_wider h) s.1 s.3.0 o s.3.2),
  )
  spells_wider (made f g) v i o s = (s.0, s.1, spells_wider g s.0 i o s.2)
  spells_wider (nest p) v i o s = nested p v i o s

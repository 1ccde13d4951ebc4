-- Where the first part begins that nests too deep.
use Rattle.std.specs.Prelude.{◌≡◌, ◌⊎◌, ℕ, zero, suc, Bool, true, false, nat_eq, nat_le, List, [], ◌∷◌}
use Rattle.grammar_rules.specs.Rule.{Language, Tokens, Rule, one, empty, both, either, many, maybe, grow, made, nest, Growth, Chain, Spells}
use Rattle.grammar_rules.specs.Grammar.{Grammar, Nests}

module _ (L : Language) where
  -- some tokens that begin with the next one spell a value
  abbrev pub Begins : {A : Type 0} → (A → Tokens L → Tokens L → Type 0) → Tokens L → Type 0
  Begins S [] = ⊥
  Begins {A} S (t ∷ i) = (more : Tokens L) × (v : A) × (o : Tokens L) × S v (t ∷ more) o

  -- the next token is at the place
  abbrev pub StandsAt : Tokens L → L.Place → Type 0
  StandsAt [] place = ⊥
  StandsAt (t ∷ i) place = L.place t ≡ place

  -- R spells phrases within the limits and U at any depth, and X says where phrases exceed the limits
  module _ (fits : ℕ → Bool) (R U : (p : L.Phrase) → L.Value p → Tokens L → Tokens L → Type 0) (X : (p : L.Phrase) → Tokens L → Tokens L → L.Place → Type 0) where
    -- the value is too high for what the next token begins, and the first of its innermost parts begins at the place
    abbrev pub IsTooHigh : {A B : Type 0} → Growth L A → Rule L B → A → Tokens L → L.Place → Type 0
    IsTooHigh w h v i place = (fits (w.height v) ≡ false) × (w.deepest v ≡ place) × Begins (Spells L (λ n. true) U h) i

    -- What is before the second tokens is spelled within the limits, and their first one begins or makes a part beyond them, at the place.
    abbrev pub Exceeds : {A : Type 0} → Rule L A → Tokens L → Tokens L → L.Place → Type 0
    Exceeds (one x xs) i o place = ⊥
    Exceeds empty i o place = ⊥
    Exceeds (both {A} g h) i o place = Exceeds g i o place ⊎ ((v : A) × (m : Tokens L) × Spells L fits R g v i m × Exceeds h m o place)
    Exceeds (either g h) i o place = Exceeds g i o place ⊎ Exceeds h i o place
    Exceeds (many {A} g) i o place = (vs : List A) × (m : Tokens L) × Chain (Spells L fits R g) vs i m × Exceeds g m o place
    Exceeds (maybe x g) i o place = (t : L.Token) × (m : Tokens L) × (i ≡ t ∷ m) × (nat_eq (L.code t) x ≡ true) × Exceeds g m o place
    Exceeds (grow {A} w f ends g h) i o place =
        Exceeds g i o place
        ⊎ ((v : A) × (m : Tokens L) × Spells L fits R (grow w f ends g h) v i m × (w.may v ≡ true)
        × (((fits (w.height v) ≡ true) × Exceeds h m o place) ⊎ ((m ≡ o) × IsTooHigh w h v m place)))
    Exceeds (made f g) i o place = Exceeds g i o place
    Exceeds (nest p) i o place = X p i o place

module _ (L : Language) (G : Grammar L) where
  -- what spells a phrase, however deep it nests
  abbrev pub NestsAtAll : (p : L.Phrase) → L.Value p → Tokens L → Tokens L → Type 0
  NestsAtAll p v i o = (d : ℕ) × Nests L G d p v i o

  -- the same of a phrase, in which this number may nest; with 0 the phrase itself is beyond the limits, where its first token is
  abbrev pub NestsTooDeep : ℕ → (p : L.Phrase) → Tokens L → Tokens L → L.Place → Type 0
  NestsTooDeep zero p i o place = (i ≡ o) × StandsAt L i place × Begins L (NestsAtAll p) i
  NestsTooDeep (suc d) p i o place = Exceeds L (λ h. nat_le h d) (Nests L G d) NestsAtAll (NestsTooDeep d) (G.rule_of p) i o place

  -- the part at the place is the first that nests deeper than the number, as is known with the first of the second tokens
  abbrev pub IsFirstTooDeep : ℕ → Tokens L → Tokens L → L.Place → Type 0
  IsFirstTooDeep d i o place = Exceeds L (λ h. nat_le h d) (Nests L G d) NestsAtAll (NestsTooDeep d) G.source i o place

-- How many parts are around each part of what is spelled.
use Rattle.std.specs.Prelude.{◌≡◌, ◌⊎◌, ℕ, zero, suc, ◌≤◌, Bool, nat_le, List, [], ◌∷◌, ◌++◌, take, Some, None}
use mathlib.Core.Logic.{inl, inr}
use Rattle.grammar_rules.specs.Rule.{Language, Tokens, Rule, one, empty, both, either, many, maybe, grow, made, nest, Chain, Spells}
use Rattle.grammar_rules.specs.Grammar.{Grammar, Nests, IsSpelled}
use Rattle.grammar_rules.specs.Deep.{StandsAt}

module _ (L : Language) where
  -- the parts of a part that begins with these tokens: itself, with none around it, and those in it, each with one more around it
  abbrev pub Whole : Tokens L → (ℕ → Tokens L → Type 0) → ℕ → Tokens L → Type 0
  Whole i P n j = ((n ≡ 0) × (i ≡ j)) ⊎ ((k : ℕ) × (n ≡ suc k) × P k j)

  -- a part with at least this number of others around it begins at the place
  abbrev pub HasDeepPart : ℕ → (ℕ → Tokens L → Type 0) → L.Place → Type 0
  HasDeepPart d P place = (n : ℕ) × (j : Tokens L) × (d ≤ n) × P n j × StandsAt L j place

  -- the parts of all values of a list
  abbrev pub ChainParts : {A : Type 0} (S : A → Tokens L → Tokens L → Type 0) → ((v : A) (i o : Tokens L) → S v i o → ℕ → Tokens L → Type 0)
      → (vs : List A) (i o : Tokens L) → Chain S vs i o → ℕ → Tokens L → Type 0
  ChainParts S Y [] i o s n j = ⊥
  ChainParts S Y (v ∷ vs) i o s n j = Y v i s.0 s.1 n j ⊎ ChainParts S Y vs s.0 o s.2 n j

  -- the parts of what a value with these parts grows to, of which it becomes a part each time
  abbrev pub GrownParts : {A : Type 0} (S : A → Tokens L → Tokens L → Type 0) → ((v : A) (i o : Tokens L) → S v i o → ℕ → Tokens L → Type 0)
      → (bs : List A) (m o : Tokens L) → Chain S bs m o → Tokens L → (ℕ → Tokens L → Type 0) → ℕ → Tokens L → Type 0
  GrownParts S Y [] m o s i P n j = P n j
  GrownParts S Y (b ∷ bs) m o s i P n j = GrownParts S Y bs s.0 o s.2 i (λ k u. Whole i P k u ⊎ Y b m s.0 s.1 k u) n j

  module _ (fits : ℕ → Bool) (R : (p : L.Phrase) → L.Value p → Tokens L → Tokens L → Type 0) (Y : (p : L.Phrase) (v : L.Value p) (i o : Tokens L) → R p v i o → ℕ → Tokens L → Type 0) where
    -- In what is spelled so, a part with this number of others around it begins with these tokens.
    abbrev pub Parts : {A : Type 0} (g : Rule L A) (v : A) (i o : Tokens L) → Spells L fits R g v i o → ℕ → Tokens L → Type 0
    Parts (one x xs) v i o s n j = ⊥
    Parts empty v i o s n j = ⊥
    Parts (both g h) v i o s n j = Parts g v.0 i s.0 s.1 n j ⊎ Parts h v.1 s.0 o s.2 n j
    Parts (either g h) v i o (inl s) n j = Parts g v i o s n j
    Parts (either g h) v i o (inr s) n j = Parts h v i o s n j
    Parts (many g) vs i o s n j = ChainParts (Spells L fits R g) (Parts g) vs i o s n j
    Parts (maybe x g) None i o s n j = ⊥
    Parts (maybe x g) (Some v) i o s n j = Parts g v s.1 o s.4 n j
    Parts (grow w f ends g h) v i o s n j = GrownParts (Spells L fits R h) (Parts h) s.1 s.3.0 o s.3.2 i (Parts g s.0 i s.3.0 s.3.1) n j
    Parts (made f g) v i o s n j = Parts g s.0 i o s.2 n j
    Parts (nest p) v i o s n j = Whole i (Y p v i o s) n j

module _ (L : Language) (G : Grammar L) where
  -- the same in a phrase, which is not counted itself
  abbrev pub NestParts : (d : ℕ) (p : L.Phrase) (v : L.Value p) (i o : Tokens L) → Nests L G d p v i o → ℕ → Tokens L → Type 0
  NestParts zero p v i o s n j = ⊥
  NestParts (suc d) p v i o s n j = Parts L (λ h. nat_le h d) (Nests L G d) (NestParts d) (G.rule_of p) v i o s n j

  -- the same in a tree
  abbrev pub TreeParts : (d : ℕ) (i : Tokens L) (v : G.Tree) → IsSpelled L G d i v → ℕ → Tokens L → Type 0
  TreeParts d i v s n j = Parts L (λ h. nat_le h d) (Nests L G d) (NestParts d) G.source v i [] s n j

  -- in each tree, at whatever depth, that the tokens up to this one go on to, a part with at least this number of others around it begins at the place
  abbrev pub IsDeepInEach : ℕ → Tokens L → ℕ → L.Place → Type 0
  IsDeepInEach d i at place = (e : ℕ) (more : Tokens L) (v : G.Tree) (s : IsSpelled L G e (take (suc at) i ++ more) v) → HasDeepPart L d (TreeParts e (take (suc at) i ++ more) v s) place

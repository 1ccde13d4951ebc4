-- The heights of values that grow are those of their parts.
use Rattle.std.proofs.Common.{◌≡◌, ◌⊎◌, ℕ, suc, Bool, true, false, nat_le, List, [], ◌∷◌, refl, sym, subst, inl, inr}
use Rattle.std.specs.Prelude.{◌&&◌}
use Rattle.grammar_rules.specs.Rule.{Language, Tokens, Rule, one, empty, both, either, many, maybe, grow, made, nest, Growth, Ends, Chain, Grown, Spells}
use Rattle.grammar_rules.specs.Grammar.{Grammar, Nests}
use Rattle.grammar_rules.specs.Deep.{StandsAt}
use Rattle.grammar_rules.specs.Around.{Whole, GrownParts, Parts, NestParts}
use Rattle.grammar_rules.proofs.Members.{and_true}

module _ (L : Language) where
  -- a part at the place has one part fewer around it than the height
  abbrev pub IsDeepest : (ℕ → Tokens L → Type 0) → ℕ → L.Place → Type 0
  IsDeepest P h place = (n : ℕ) × (j : Tokens L) × (h ≡ suc n) × P n j × StandsAt L j place

  pub deepest_by : (Q S : ℕ → Tokens L → Type 0) (h : ℕ) (place : L.Place) → ((n : ℕ) (j : Tokens L) → Q n j → S n j) → IsDeepest Q h place → IsDeepest S h place
  deepest_by Q S h place f s = (s.0, s.1, s.2, f s.0 s.1 s.3, s.4)

  -- what has no parts
  pub deepest_alone : (t : L.Token) (i o : Tokens L) (Q : ℕ → Tokens L → Type 0) → i ≡ t ∷ o → IsDeepest (Whole L i Q) 1 (L.place t)
  deepest_alone t i o Q e = (0, i, refl, inl (refl, refl), subst (λ (z : Tokens L). StandsAt L z (L.place t)) (sym e) refl)

  -- what has these parts
  pub deepest_under : (i : Tokens L) (Q : ℕ → Tokens L → Type 0) (h : ℕ) (place : L.Place) → IsDeepest Q h place → IsDeepest (Whole L i Q) (suc h) place
  deepest_under i Q h place s = (h, s.1, refl, inr (s.0, s.2, s.3), s.4)

  -- nothing grows
  abbrev pub is_fixed : {A : Type 0} → Rule L A → Bool
  is_fixed (one x xs) = true
  is_fixed empty = true
  is_fixed (both g h) = is_fixed g && is_fixed h
  is_fixed (either g h) = is_fixed g && is_fixed h
  is_fixed (many g) = is_fixed g
  is_fixed (maybe x g) = is_fixed g
  is_fixed (grow w f ends g h) = false
  is_fixed (made f g) = is_fixed g
  is_fixed (nest p) = true

  module _ (fits : ℕ → Bool) (R : (p : L.Phrase) → L.Value p → Tokens L → Tokens L → Type 0) (Y : (p : L.Phrase) (v : L.Value p) (i o : Tokens L) → R p v i o → ℕ → Tokens L → Type 0) where
    -- before it grows and after each growth
    abbrev pub Measures : {A : Type 0} → Rule L A → Type 1
    Measures (one x xs) = Unit {1}
    Measures empty = Unit {1}
    Measures (both g h) = Measures g × Measures h
    Measures (either g h) = Measures g × Measures h
    Measures (many g) = Measures g
    Measures (maybe x g) = Measures g
    Measures (grow {A} {B} w f ends g h) =
        Measures g × Measures h
        × ((a : A) (i m : Tokens L) (s : Spells L fits R g a i m) → IsDeepest (Whole L i (Parts L fits R Y g a i m s)) (w.height a) (w.deepest a))
        × ((P : ℕ → Tokens L → Type 0) (i : Tokens L) (a : A) (b : B) (m o : Tokens L) (s : Spells L fits R h b m o) → IsDeepest (Whole L i P) (w.height a) (w.deepest a)
        → IsDeepest (Whole L i (λ n j. Whole L i P n j ⊎ Parts L fits R Y h b m o s n j)) (w.height (f a b)) (w.deepest (f a b)))
    Measures (made f g) = Measures g
    Measures (nest p) = Unit {1}

    pub fixed_measures : {A : Type 0} (g : Rule L A) → is_fixed g ≡ true → Measures g
    fixed_measures (one x xs) c = tt
    fixed_measures empty c = tt
    fixed_measures (both g h) c = let cs = and_true (is_fixed g) (is_fixed h) c in (fixed_measures g cs.0, fixed_measures h cs.1)
    fixed_measures (either g h) c = let cs = and_true (is_fixed g) (is_fixed h) c in (fixed_measures g cs.0, fixed_measures h cs.1)
    fixed_measures (many g) c = fixed_measures g c
    fixed_measures (maybe x g) c = fixed_measures g c
    fixed_measures (grow w f ends g h) c = absurd cc
    fixed_measures (made f g) c = fixed_measures g c
    fixed_measures (nest p) c = tt

    grown_deepest : {A B : Type 0} (w : Growth L A) (f : A → B → A) (h : Rule L B)
        → ((Q : ℕ → Tokens L → Type 0) (i : Tokens L) (a : A) (b : B) (m o : Tokens L) (s : Spells L fits R h b m o) → IsDeepest (Whole L i Q) (w.height a) (w.deepest a)
        → IsDeepest (Whole L i (λ n j. Whole L i Q n j ⊎ Parts L fits R Y h b m o s n j)) (w.height (f a b)) (w.deepest (f a b)))
        → (bs : List B) (a v : A) (i m o : Tokens L) → Grown fits w f a bs v → (s : Chain (Spells L fits R h) bs m o) (Q : ℕ → Tokens L → Type 0) → IsDeepest (Whole L i Q) (w.height a) (w.deepest a)
        → IsDeepest (Whole L i (GrownParts L (Spells L fits R h) (Parts L fits R Y h) bs m o s i Q)) (w.height v) (w.deepest v)
    grown_deepest w f h step [] a v i m o g s Q k = subst (λ v. IsDeepest (Whole L i Q) (w.height v) (w.deepest v)) g k
    grown_deepest w f h step (b ∷ bs) a v i m o g s Q k =
        grown_deepest w f h step bs (f a b) v i s.0 o g.2 s.2 (λ n j. Whole L i Q n j ⊎ Parts L fits R Y h b m s.0 s.1 n j) (step Q i a b m s.0 s.1 k)

    -- what has grown has the height of its parts
    pub measured : {A B : Type 0} (w : Growth L A) (f : A → B → A) (ends : Ends w.again w f) (g : Rule L A) (h : Rule L B) → Measures (grow w f ends g h)
        → (v : A) (i o : Tokens L) (s : Spells L fits R (grow w f ends g h) v i o) → IsDeepest (Whole L i (Parts L fits R Y (grow w f ends g h) v i o s)) (w.height v) (w.deepest v)
    measured w f ends g h me v i o s = grown_deepest w f h me.3 s.1 s.0 v i s.3.0 o s.2 s.3.2 (Parts L fits R Y g s.0 i s.3.0 s.3.1) (me.2 s.0 i s.3.0 s.3.1)

module _ (L : Language) (G : Grammar L) where
  abbrev pub MeasuresWithin : ℕ → {A : Type 0} → Rule L A → Type 1
  MeasuresWithin d g = Measures L (λ h. nat_le h d) (Nests L G d) (NestParts L G d) g

  pub record Measured : Type 1 where
    pub phrases : (d : ℕ) (p : L.Phrase) → MeasuresWithin d (G.rule_of p)
    pub source : (d : ℕ) → MeasuresWithin d G.source

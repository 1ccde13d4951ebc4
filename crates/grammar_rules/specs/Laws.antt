-- The laws of a grammar: reading finds exactly what is spelled, and each fault says what is before it and with it.
use Rattle.std.specs.Prelude.{◌≡◌, ℕ, zero, suc, ◌-◌, ◌∷◌, ◌++◌, length, drop, Ok, Err}
use Rattle.grammar_rules.specs.Rule.{Language, Tokens, Wrong, unexpected, too_deep, Fault}
use Rattle.grammar_rules.specs.Grammar.{Grammar, IsSpelled, IsUnexpected, IsTooDeep, EndsEarly, whole}
use Rattle.grammar_rules.specs.Deep.{IsFirstTooDeep}
use Rattle.grammar_rules.specs.Around.{IsDeepInEach}

module _ (L : Language) (G : Grammar L) where
  -- what is wrong where this number of tokens are left
  abbrev pub Stands : ℕ → Tokens L → Wrong L → ℕ → Type 0
  Stands d i unexpected zero = EndsEarly L G i
  Stands d i unexpected (suc n) = IsUnexpected L G i (length i - suc n)
  Stands d i (too_deep place) n = IsTooDeep L G d i (length i - n) × IsFirstTooDeep L G d i (drop (length i - n) i) place × IsDeepInEach L G d i (length i - n) place

  pub record IsExact : Type 0 where
    -- what is read is spelled so
    pub sound : (d : ℕ) (i : Tokens L) (v : G.Tree) → whole L G d i ≡ Ok v → IsSpelled L G d i v
    -- what is spelled is read
    pub complete : (d : ℕ) (i : Tokens L) (v : G.Tree) → IsSpelled L G d i v → whole L G d i ≡ Ok v
    -- tokens spell at most one tree, at whatever depth
    pub one_reading : (i : Tokens L) (d e : ℕ) (v w : G.Tree) → IsSpelled L G d i v → IsSpelled L G e i w → v ≡ w
    -- a fault is at the token where it is found
    pub faults : (d : ℕ) (i : Tokens L) (f : Fault L) → whole L G d i ≡ Err f → Stands d i f.kind f.left
    -- the first part that nests too deep is met
    pub too_deep_met : (d : ℕ) (i o : Tokens L) (place : L.Place) → IsFirstTooDeep L G d i o place → whole L G d i ≡ Err (record { kind = too_deep place; left = length o })
    -- there is at most one first part that nests too deep
    pub one_too_deep : (d : ℕ) (i o u : Tokens L) (p q : L.Place) → IsFirstTooDeep L G d i o p → IsFirstTooDeep L G d i u q → (p ≡ q) × (o ≡ u)
    -- it is known with its token, whatever is after that
    pub too_deep_known : (d : ℕ) (c : Tokens L) (t : L.Token) (p q : Tokens L) (place : L.Place) → IsFirstTooDeep L G d (c ++ t ∷ p) (t ∷ p) place → IsFirstTooDeep L G d (c ++ t ∷ q) (t ∷ q) place

-- A grammar, what tokens it spells, and the fault where it spells none.
use Rattle.std.specs.Prelude.{ℕ, zero, suc, ◌<◌, nat_le, if◌then◌else◌, List, [], ◌++◌, length, take, ◌==◌, Result, Ok, Err}
use Rattle.grammar_rules.specs.Rule.{Language, Tokens, next, member, Rule, Spells, Fault, unexpected, Outcome, refuse, deep, read, ◌>>=◌}

-- a rule for each phrase and one for all of the tokens, with tables that the tests of a grammar compare with the rules
pub record Grammar (L : Language) : Type 1 where
  pub rule_of : (p : L.Phrase) → Rule L (L.Value p)
  -- the kinds of tokens that begin a phrase
  pub begins : L.Phrase → List ℕ
  pub Tree : Type 0
  pub source : Rule L Tree

module _ (L : Language) (G : Grammar L) where
  -- what spells a phrase, nested no deeper than the number
  abbrev pub Nests : ℕ → (p : L.Phrase) → L.Value p → Tokens L → Tokens L → Type 0
  Nests zero p v i o = ⊥
  Nests (suc d) p v i o = Spells L (λ h. nat_le h d) (Nests d) (G.rule_of p) v i o

  -- the tokens spell the tree, nested no deeper than the number
  abbrev pub IsSpelled : ℕ → Tokens L → G.Tree → Type 0
  IsSpelled d i v = Spells L (λ h. nat_le h d) (Nests d) G.source v i []

  -- the tokens go on to a tree, nested no deeper than the number
  abbrev pub GoesOn : ℕ → Tokens L → Type 0
  GoesOn d i = (more : Tokens L) × (v : G.Tree) × IsSpelled d (i ++ more) v

  -- the same at any depth
  abbrev pub GoesOnAtAll : Tokens L → Type 0
  GoesOnAtAll i = (d : ℕ) × GoesOn d i

  -- The tokens before the place go on to a tree, and with the token there they do not.
  pub record IsUnexpected (i : Tokens L) (place : ℕ) : Type 0 where
    pub in_range : place < length i
    pub before : GoesOnAtAll (take place i)
    pub with_it : GoesOnAtAll (take (suc place) i) → ⊥

  -- The tokens up to the place go on to a tree, but to none that nests no deeper than the number.
  pub record IsTooDeep (d : ℕ) (i : Tokens L) (place : ℕ) : Type 0 where
    pub in_range : place < length i
    pub goes_on : GoesOnAtAll (take (suc place) i)
    pub within : GoesOn d (take (suc place) i) → ⊥

  -- The tokens go on to a tree, but are not a tree themselves.
  pub record EndsEarly (i : Tokens L) : Type 0 where
    pub goes_on : GoesOnAtAll i
    pub not_yet : (d : ℕ) (v : G.Tree) → IsSpelled d i v → ⊥

  -- reading a phrase, nested no deeper than the number
  unfoldable pub phrase : ℕ → (p : L.Phrase) → Tokens L → Outcome L (L.Value p)
  phrase zero p i = if member (next L i) (G.begins p) then deep L i else refuse L i
  phrase (suc d) p i = read L G.begins (λ h. nat_le h d) (phrase d) (G.rule_of p) i

  -- a rule, whose phrases nest no deeper than the number
  abbrev pub reads : {A : Type 0} → ℕ → Rule L A → Tokens L → Outcome L A
  reads d g i = read L G.begins (λ h. nat_le h d) (phrase d) g i

  -- all of the tokens
  abbrev pub ended : {A : Type 0} → A × Tokens L → Result A (Fault L)
  ended x = if length x.1 == 0 then Ok x.0 else Err (record { kind = unexpected; left = length x.1 })

  unfoldable pub whole : ℕ → Tokens L → Result G.Tree (Fault L)
  whole d i = reads d G.source i >>= λ x. ended x

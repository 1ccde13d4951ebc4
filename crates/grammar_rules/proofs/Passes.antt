-- The tests that a grammar has to pass, so that all laws hold of it. Each computes.
use Rattle.std.proofs.Common.{◌≡◌, ℕ, true, false, List, [], ◌∷◌, ◌++◌, Ok}
use Rattle.grammar_rules.specs.Rule.{Language, Tokens, next, member, nullable, first}
use Rattle.grammar_rules.specs.Grammar.{Grammar, phrase}
use Rattle.grammar_rules.proofs.Complete.{is_told}
use Rattle.grammar_rules.proofs.Local.{steps}
use Rattle.grammar_rules.proofs.Deeper.{is_lean}
use Rattle.grammar_rules.proofs.Opened.{is_open}
use Rattle.grammar_rules.proofs.Framed.{is_fit}

-- what the tests look up
pub record Tables (L : Language) : Type 0 where
  -- the kinds of tokens that may follow a phrase
  pub follow : L.Phrase → List ℕ
  -- the kinds that are taken wherever they may be
  pub greedy : List ℕ
  -- a token of each kind
  pub token : ℕ → L.Token
  -- tokens that spell a phrase, the value that they spell, and a depth that is enough for it
  pub word_of : L.Phrase → Tokens L
  pub value_of : (p : L.Phrase) → L.Value p
  pub enough : ℕ

pub record Passes (L : Language) (G : Grammar L) (T : Tables L) : Type 0 where
  -- each phrase takes a token
  pub not_nullable : (p : L.Phrase) → nullable (G.rule_of p) ≡ false
  -- the table of first tokens is right
  pub begins_first : (p : L.Phrase) → first L G.begins (G.rule_of p) ≡ G.begins p
  pub no_end : (p : L.Phrase) → member 0 (G.begins p) ≡ false
  -- the next token says which way to go
  pub told : (p : L.Phrase) → is_told L G.begins T.follow (G.rule_of p) (T.follow p) ≡ true
  pub fit : (p : L.Phrase) → is_fit L T.greedy G.begins T.token (G.rule_of p) ≡ true
  pub opened : (p : L.Phrase) → is_open L (λ q. is_open L (λ r. false) (G.rule_of q)) (G.rule_of p) ≡ true
  pub lean : (p : L.Phrase) → is_lean L (G.rule_of p) ≡ true
  pub stepping : (p : L.Phrase) → steps L (G.rule_of p) ≡ true
  -- each phrase has a word
  pub safe : (p : L.Phrase) (z : Tokens L) → member (next L (T.word_of p ++ z)) T.greedy ≡ false
  pub word_read : (p : L.Phrase) → phrase L G T.enough p (T.word_of p) ≡ Ok (T.value_of p, [])
  pub end_not_greedy : member 0 T.greedy ≡ false
  -- the same of the rule for all of the tokens
  pub source_told : is_told L G.begins T.follow G.source (0 ∷ []) ≡ true
  pub source_fit : is_fit L T.greedy G.begins T.token G.source ≡ true
  pub source_steps : steps L G.source ≡ true

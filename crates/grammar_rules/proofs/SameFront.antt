-- What comes before a token that two lists share is spelled alike, at whatever depths.
use Rattle.std.proofs.Common.{◌≡◌, ℕ, ◌+◌, ◌<◌, true, false, nat_le, List, length, Ok, Err, sym, ap, subst, ◌∙◌, inl, inr, arith}
use Rattle.grammar_rules.specs.Rule.{Language, Tokens, Rule, next, member, nullable, first, Outcome}
use Rattle.grammar_rules.specs.Grammar.{Grammar, Nests, phrase, reads}
use Rattle.grammar_rules.proofs.Steps.{ok_is, not_both, done_value, done_rest}
use Rattle.grammar_rules.proofs.Complete.{ahead, is_told, begins_it, in_ahead, complete}
use Rattle.grammar_rules.proofs.Local.{steps, Shared, Agrees, local}
use Rattle.grammar_rules.proofs.Deeper.{IsSame, same}
use Rattle.grammar_rules.proofs.Language.{le_wider, phrase_shrinks, phrase_complete, begun}
use Rattle.grammar_rules.proofs.Faults.{Within, raised}
use Rattle.grammar_rules.proofs.Answers.{phrase_past, phrase_local, phrase_same}
use Rattle.grammar_rules.proofs.Passes.{Tables, Passes}

module _ (L : Language) (G : Grammar L) (T : Tables L) (P : Passes L G T) where
  -- the next token says which way to go
  abbrev pub IsTold : {A : Type 0} → Rule L A → List ℕ → Type 0
  IsTold g F = is_told L G.begins T.follow g F ≡ true

  pub read_within : (d : ℕ) {A : Type 0} (g : Rule L A) (F : List ℕ) → IsTold g F → (v : A) (i m : Tokens L) → Within L G d g v i m → member (next L m) F ≡ true → reads L G d g i ≡ Ok (v, m)
  read_within d g F c v i m s f = complete L G.begins T.follow (λ h. nat_le h d) (phrase L G d) (Nests L G d) (begun L G T P d) (phrase_shrinks L G T P d) (phrase_complete L G T P d) g F c v i m s f

  pub begins_within : (d : ℕ) {A : Type 0} (g : Rule L A) → nullable g ≡ false → (v : A) (i m : Tokens L) → Within L G d g v i m → member (next L i) (first L G.begins g) ≡ true
  begins_within d g n v i m s = begins_it L G.begins T.follow (λ h. nat_le h d) (phrase L G d) (Nests L G d) (begun L G T P d) (phrase_shrinks L G T P d) (phrase_complete L G T P d) g n v i m s

  pub ahead_within : (d : ℕ) {A : Type 0} (g : Rule L A) (F : List ℕ) (v : A) (i m : Tokens L) → Within L G d g v i m → member (next L m) F ≡ true → member (next L i) (ahead L G.begins T.follow g F) ≡ true
  ahead_within d g F v i m s f = in_ahead L G.begins T.follow (λ h. nat_le h d) (phrase L G d) (Nests L G d) (begun L G T P d) (phrase_shrinks L G T P d) (phrase_complete L G T P d) g F v i m s f

  module _ (t : L.Token) (rest q : Tokens L) where
    moves : {A : Type 0} (a b : Outcome L A) (v : A) (m : Tokens L) → Agrees L t rest q a b → a ≡ Ok (v, m) → length rest < length m → (u : Tokens L) × Shared L t rest q m u × (b ≡ Ok (v, u))
    moves {A} (Ok w) b v m (inl s) e lt = subst (λ (z : A × Tokens L). (u : Tokens L) × Shared L t rest q z.1 u × (b ≡ Ok (z.0, u))) (ok_is w (v, m) e) s
    moves (Ok w) b v m (inr s) e lt = absurd (omega (arith, s, lt, ap length (done_rest w.0 v w.1 m e)))
    moves (Err f) b v m s e lt = absurd (not_both (v, m) f (sym e))

    stays : {A : Type 0} (a b : Outcome L A) (v : A) (u : Tokens L) → IsSame L a b → a ≡ Ok (v, u) → b ≡ Ok (v, u)
    stays a b v u (inl s) e = sym s ∙ e
    stays a b v u (inr s) e = absurd (not_both (v, u) _ (sym e ∙ s.2))

    pub same_front : (d e : ℕ) {A : Type 0} (g : Rule L A) (F : List ℕ) → IsTold g F → steps L g ≡ true → (v : A) (i m : Tokens L) → Within L G d g v i m → member (next L m) F ≡ true
        → (w : A) (j u : Tokens L) → Within L G e g w j u → member (next L u) F ≡ true → Shared L t rest q i j → length rest < length m → (v ≡ w) × Shared L t rest q m u
    same_front d e {A} g F c b v i m s f w j u k h sh lt =
        let one = read_within d g F c v i m s f in
        let two = moves (reads L G d g i) (reads L G d g j) v m (local L t rest q G.begins (λ h. nat_le h d) (phrase L G d) (phrase_past L G T P d (length rest)) (phrase_shrinks L G T P d) (phrase_local L G T P t rest q d) g b i j sh) one lt in
        let three = stays (reads L G d g j) (reads L G (d + e) g j) v two.0 (same L G.begins (λ h. nat_le h d) (λ h. nat_le h (d + e)) (le_wider e d) (phrase L G d) (phrase L G (d + e)) (phrase_same L G T P e d) g j) two.2 in
        let four = read_within (d + e) g F c w j u (raised L G d e g w j u k) h in
        let five = sym three ∙ four in
        (done_value v w two.0 u five, subst (Shared L t rest q m) (done_rest v w two.0 u five) two.1)

-- What comes before a fault in a phrase goes on.
use Rattle.std.proofs.Common.{◌≡◌, ℕ, zero, suc, ◌+◌, true, false, nat_le, List, [], ◌∷◌, ◌++◌, length, Some, None, Ok, Err, refl, sym, subst, ◌∙◌, inl, inr, arith}
use Rattle.std.proofs.lemmas.List.{append-nil}
use Rattle.grammar_rules.specs.Rule.{Language, Tokens, Rule, one, empty, both, either, many, maybe, grow, made, nest, Growth, member, first, unexpected, too_deep, Fault, refuse, deep, Chain, Grown, Spells}
use Rattle.grammar_rules.specs.Grammar.{Grammar, phrase, Nests}
use Rattle.grammar_rules.proofs.Steps.{chosen, fault_is}
use Rattle.grammar_rules.proofs.Members.{both_ways}
use Rattle.grammar_rules.proofs.Language.{phrase_sound, spells_deeper}
use Rattle.grammar_rules.proofs.Framed.{Safe, Framed, framed}
use Rattle.grammar_rules.proofs.Opened.{is_open}
use Rattle.grammar_rules.proofs.Words.{opens, Opened}
use Rattle.grammar_rules.proofs.Viable.{all_fit, Viable, viable, viable_then}
use Rattle.grammar_rules.proofs.Passes.{Tables, Passes}

-- a value that grows does so within some height
grown_bounded : {L : Language} {A B : Type 0} (w : Growth L A) (f : A → B → A) (a : A) (bs : List B) (v : A) → Grown all_fit w f a bs v → (d : ℕ) × ((k : ℕ) → Grown (λ h. nat_le h (d + k)) w f a bs v)
grown_bounded w f a [] v g = (0, λ k. g)
grown_bounded w f a (b ∷ bs) v g =
    let m = grown_bounded w f (f a b) bs v g.2 in
    (w.height a + m.0, λ k. (g.0, le_sum (w.height a) m.0 k, subst (λ (n : ℕ). Grown (λ h. nat_le h n) w f (f a b) bs v) (moved (w.height a) m.0 k) (m.1 (w.height a + k))))
  where
    le_sum : (a b k : ℕ) → nat_le a (a + b + k) ≡ true
    le_sum a b k = grind arith

    moved : (a b k : ℕ) → b + (a + k) ≡ a + b + k
    moved a b k = omega arith

module _ (L : Language) (G : Grammar L) where
  -- a phrase at some depth
  abbrev pub Any : (p : L.Phrase) → L.Value p → Tokens L → Tokens L → Type 0
  Any p v i o = (d : ℕ) × Nests L G d p v i o

  -- what is spelled within some depth
  abbrev pub Within : {A : Type 0} → ℕ → Rule L A → A → Tokens L → Tokens L → Type 0
  Within d g v i o = Spells L (λ h. nat_le h d) (Nests L G d) g v i o

  pub raised : (d e : ℕ) {A : Type 0} (g : Rule L A) (v : A) (i o : Tokens L) → Within e g v i o → Within (d + e) g v i o
  raised d e g v i o s = let swap : e + d ≡ d + e = omega arith in subst (λ (n : ℕ). Within n g v i o) swap (spells_deeper L G d e g v i o s)

  chain_bounded : {A : Type 0} (g : Rule L A) → ((v : A) (i o : Tokens L) → Spells L all_fit Any g v i o → (d : ℕ) × Within d g v i o)
      → (vs : List A) (i o : Tokens L) → Chain (Spells L all_fit Any g) vs i o → (d : ℕ) × Within d (many g) vs i o
  chain_bounded g h [] i o s = (0, s)
  chain_bounded g h (v ∷ vs) i o s =
      let a = h v i s.0 s.1 in
      let b = chain_bounded g h vs s.0 o s.2 in
      (a.0 + b.0, (s.0, spells_deeper L G b.0 a.0 g v i s.0 a.1, raised a.0 b.0 (many g) vs s.0 o b.1))

  pub bounded : {A : Type 0} (g : Rule L A) (v : A) (i o : Tokens L) → Spells L all_fit Any g v i o → (d : ℕ) × Within d g v i o
  bounded (one x xs) v i o s = (0, s)
  bounded empty v i o s = (0, s)
  bounded (both g h) v i o s =
      let a = bounded g v.0 i s.0 s.1 in
      let b = bounded h v.1 s.0 o s.2 in
      (a.0 + b.0, (s.0, spells_deeper L G b.0 a.0 g v.0 i s.0 a.1, raised a.0 b.0 h v.1 s.0 o b.1))
  bounded (either g h) v i o (inl s) = let a = bounded g v i o s in (a.0, inl a.1)
  bounded (either g h) v i o (inr s) = let a = bounded h v i o s in (a.0, inr a.1)
  bounded (many g) vs i o s = chain_bounded g (bounded g) vs i o s
  bounded (maybe x g) None i o s = (0, s)
  bounded (maybe x g) (Some v) i o s = let a = bounded g v s.1 o s.4 in (a.0, (s.0, s.1, s.2, s.3, a.1))
  bounded (grow w f ends g h) v i o s =
      let a = bounded g s.0 i s.3.0 s.3.1 in
      let b = chain_bounded h (bounded h) s.1 s.3.0 o s.3.2 in
      let c = grown_bounded w f s.0 s.1 v s.2 in (
        c.0 + (a.0 + b.0),
        (
          s.0,
          s.1,
          c.1 (a.0 + b.0),
          (s.3.0, raised c.0 (a.0 + b.0) g s.0 i s.3.0 (spells_deeper L G b.0 a.0 g s.0 i s.3.0 a.1), raised c.0 (a.0 + b.0) (many h) s.1 s.3.0 o (raised a.0 b.0 (many h) s.1 s.3.0 o b.1)),
        ),
      )
  bounded (made f g) v i o s = let a = bounded g s.0 i o s.2 in (a.0, (s.0, s.1, a.1))
  bounded (nest p) v i o s = s

  closes : (p : L.Phrase) (v : L.Value p) (i o : Tokens L) → Spells L all_fit Any (G.rule_of p) v i o → Any p v i o
  closes p v i o s = let b = bounded (G.rule_of p) v i o s in (suc b.0, b.1)

  pub any_sound : (d : ℕ) (p : L.Phrase) (i : Tokens L) (v : L.Value p) (o : Tokens L) → phrase L G d p i ≡ Ok (v, o) → Any p v i o
  any_sound d p i v o e = (d, phrase_sound L G d p i v o e)

  module _ (T : Tables L) (P : Passes L G T) where
    framed_at : (d : ℕ) (p : L.Phrase) (v : L.Value p) (i o : Tokens L) → Nests L G d p v i o → Framed L T.greedy (Nests L G d p v) i o
    framed_at zero p v i o s = absurd s
    framed_at (suc d) p v i o s = framed L T.greedy G.begins T.token (λ h. nat_le h d) (Nests L G d) (framed_at d) (G.rule_of p) (P.fit p) v i o s

    pub framed_any : (p : L.Phrase) (v : L.Value p) (i o : Tokens L) → Any p v i o → Framed L T.greedy (Any p v) i o
    framed_any p v i o s = let f = framed_at s.0 p v i o s.1 in (f.0, f.1, λ u n. (s.0, f.2 u n))

    pub word_any : (p : L.Phrase) (z : Tokens L) → Safe L T.greedy z → Any p (T.value_of p) (T.word_of p ++ z) z
    word_any p z s =
        let f = framed_any p (T.value_of p) (T.word_of p) [] (any_sound T.enough p (T.word_of p) (T.value_of p) [] (P.word_read p)) in
        let e : T.word_of p ≡ f.0 = f.1 ∙ append-nil f.0 in
        subst (λ (y : Tokens L). Any p (T.value_of p) (y ++ z) z) (sym e) (f.2 z (inr s))

    pub safe_any : (p : L.Phrase) (z : Tokens L) → Safe L T.greedy z → Safe L T.greedy (T.word_of p ++ z)
    safe_any p z s = P.safe p z

    -- a token that begins a phrase of which no phrase comes first goes on to it
    opens_phrase : (p : L.Phrase) → is_open L (λ q. false) (G.rule_of p) ≡ true → (t : L.Token) → member (L.code t) (G.begins p) ≡ true → Opened L G.begins T.greedy T.token T.word_of T.value_of safe_any all_fit Any word_any (Any p) t
    opens_phrase p c t h =
        let m : member (L.code t) (first L G.begins (G.rule_of p)) ≡ true = subst (λ (xs : List ℕ). member (L.code t) xs ≡ true) (sym (P.begins_first p)) h in
        let a = opens L G.begins T.greedy T.token T.word_of T.value_of safe_any all_fit Any word_any (λ q. false) (λ q k u n. absurd cc) (G.rule_of p) c (P.fit p) t m in
        (a.0, a.1, λ z s. closes p a.1 (t ∷ (a.0 ++ z)) z (a.2 z s))

    -- so does one that begins a phrase
    pub opens_any : (p : L.Phrase) (t : L.Token) → member (L.code t) (G.begins p) ≡ true → Opened L G.begins T.greedy T.token T.word_of T.value_of safe_any all_fit Any word_any (Any p) t
    opens_any p t h =
        let m : member (L.code t) (first L G.begins (G.rule_of p)) ≡ true = subst (λ (xs : List ℕ). member (L.code t) xs ≡ true) (sym (P.begins_first p)) h in
        let a = opens L G.begins T.greedy T.token T.word_of T.value_of safe_any all_fit Any word_any (λ q. is_open L (λ r. false) (G.rule_of q)) opens_phrase (G.rule_of p) (P.opened p) (P.fit p) t m in
        (a.0, a.1, λ z s. closes p a.1 (t ∷ (a.0 ++ z)) z (a.2 z s))

    deep_viable : (p : L.Phrase) (t : L.Token) (i : Tokens L) → member (L.code t) (G.begins p) ≡ true → Viable L T.greedy (Any p) (t ∷ i) (record { kind = too_deep (L.place t); left = suc (length i) })
    deep_viable p t i h =
        let a = opens_any p t h in
        record {
          front = t ∷ [];
          rest = i;
          more = a.0;
          value = a.1;
          parts = refl;
          left = omega arith;
          near = λ z s. inl refl;
          spells = λ z s. a.2 z s;
        }

    lone_viable : (p : L.Phrase) (i : Tokens L) → Viable L T.greedy (Any p) i (record { kind = unexpected; left = length i })
    lone_viable p i = record {
      front = [];
      rest = i;
      more = T.word_of p;
      value = T.value_of p;
      parts = refl;
      left = omega arith;
      near = λ z s. inr (safe_any p z s);
      spells = λ z s. word_any p z s;
    }

    viable_bottom : (p : L.Phrase) (i : Tokens L) (e : Fault L) → phrase L G zero p i ≡ Err e → Viable L T.greedy (Any p) i e
    unfolding phrase
    viable_bottom p [] e q =
        elim (chosen (member 0 (G.begins p)) (deep L []) (refuse L []) (Err e) q) [
          | inl g ↦ both_ways (member 0 (G.begins p)) g.0 (P.no_end p)
          | inr g ↦ subst (Viable L T.greedy (Any p) []) (fault_is {A = L.Value p × Tokens L} _ e g.1) (lone_viable p [])
        ]
    viable_bottom p (t ∷ i) e q =
        elim (chosen (member (L.code t) (G.begins p)) (deep L (t ∷ i)) (refuse L (t ∷ i)) (Err e) q) [
          | inl g ↦ subst (Viable L T.greedy (Any p) (t ∷ i)) (fault_is {A = L.Value p × Tokens L} _ e g.1) (deep_viable p t i g.0)
          | inr g ↦ subst (Viable L T.greedy (Any p) (t ∷ i)) (fault_is {A = L.Value p × Tokens L} _ e g.1) (lone_viable p (t ∷ i))
        ]

    pub viable_phrase : (d : ℕ) (p : L.Phrase) (i : Tokens L) (e : Fault L) → phrase L G d p i ≡ Err e → Viable L T.greedy (Any p) i e
    unfolding phrase
    viable_phrase zero p i e q = viable_bottom p i e q
    viable_phrase (suc d) p i e q =
        viable_then L T.greedy (Spells L all_fit Any (G.rule_of p)) (Any p) (λ v. v) [] (λ z s. s) (λ v j z s t. closes p v j z t) i e
        (viable L G.begins T.greedy T.token T.word_of T.value_of safe_any (λ h. nat_le h d) Any word_any framed_any (phrase L G d) (any_sound d) (viable_phrase d) (G.rule_of p) (P.fit p) i e q)

-- A word of each rule, also one that begins with a given token.
use Rattle.std.proofs.Common.{◌≡◌, ℕ, Bool, true, false, cond, nat_eq, List, [], ◌∷◌, ◌++◌, None, refl, sym, ap, subst, ◌∙◌, inl, inr, append_assoc}
use Rattle.std.specs.Prelude.{not, ◌&&◌}
use Rattle.std.proofs.lemmas.Bool.{eqb-true}
use Rattle.grammar_rules.specs.Rule.{Language, Tokens, Rule, one, empty, both, either, many, maybe, grow, made, nest, member, nullable, first, Spells}
use Rattle.grammar_rules.proofs.Members.{and_true, not_true, member-either}
use Rattle.grammar_rules.proofs.Opened.{is_open}
use Rattle.grammar_rules.proofs.Framed.{Safe, is_fit, not_next}

own_kind : (n x : ℕ) (xs : List ℕ) → nat_eq n x ≡ true → member n (x ∷ xs) ≡ true
own_kind n x [] e = e
own_kind n x (y ∷ ys) e = rw e refl

module _ (L : Language) (begins : L.Phrase → List ℕ) (greedy : List ℕ) (token : ℕ → L.Token) (word_of : L.Phrase → Tokens L) (value_of : (p : L.Phrase) → L.Value p) where
  abbrev pub word : {A : Type 0} → Rule L A → Tokens L
  word (one x xs) = token x ∷ []
  word empty = []
  word (both g h) = word g ++ word h
  word (either g h) = word g
  word (many g) = []
  word (maybe x g) = []
  word (grow w f ends g h) = word g
  word (made f g) = word g
  word (nest p) = word_of p

  abbrev pub sample : {A : Type 0} → Rule L A → A
  sample (one x xs) = token x
  sample empty = tt
  sample (both g h) = (sample g, sample h)
  sample (either g h) = sample g
  sample (many g) = []
  sample (maybe x g) = None
  sample (grow w f ends g h) = sample g
  sample (made f g) = f (sample g)
  sample (nest p) = value_of p

  -- the tests of the parts of a rule that grows
  pub grow_fit : {A B : Type 0} (g : Rule L A) (h : Rule L B) → (is_fit L greedy begins token g && (is_fit L greedy begins token h && (is_open L (λ p. false) h && not (member 0 (first L begins h))))) ≡ true
      → (is_fit L greedy begins token g ≡ true) × (is_fit L greedy begins token h ≡ true) × (is_open L (λ p. false) h ≡ true) × (member 0 (first L begins h) ≡ false)
  grow_fit g h c =
      let a = and_true (is_fit L greedy begins token g) (is_fit L greedy begins token h && (is_open L (λ p. false) h && not (member 0 (first L begins h)))) c in
      let b = and_true (is_fit L greedy begins token h) (is_open L (λ p. false) h && not (member 0 (first L begins h))) a.1 in
      let d = and_true (is_open L (λ p. false) h) (not (member 0 (first L begins h))) b.1 in
      (a.0, b.0, d.0, not_true (member 0 (first L begins h)) d.1)

  module _ (safe_r : (p : L.Phrase) (z : Tokens L) → Safe L greedy z → Safe L greedy (word_of p ++ z)) where
    pub safe_word : {A : Type 0} (g : Rule L A) → is_fit L greedy begins token g ≡ true → (z : Tokens L) → Safe L greedy z → Safe L greedy (word g ++ z)
    safe_word (one x xs) c z s =
        let cs = and_true (not (member x greedy)) (nat_eq (L.code (token x)) x) c in
        ap (λ (n : ℕ). member n greedy) (eqb-true (L.code (token x)) x cs.1) ∙ not_true (member x greedy) cs.0
    safe_word empty c z s = s
    safe_word (both g h) c z s =
        let cs = and_true (is_fit L greedy begins token g) (is_fit L greedy begins token h) c in
        subst (Safe L greedy) (sym (append_assoc (word g) (word h) z)) (safe_word g cs.0 (word h ++ z) (safe_word h cs.1 z s))
    safe_word (either g h) c z s = safe_word g (and_true (is_fit L greedy begins token g) (is_fit L greedy begins token h) c).0 z s
    safe_word (many g) c z s = s
    safe_word (maybe x g) c z s = s
    safe_word (grow w f ends g h) c z s = safe_word g (grow_fit g h c).0 z s
    safe_word (made f g) c z s = safe_word g c z s
    safe_word (nest p) c z s = safe_r p z s

    module _ (fits : ℕ → Bool) (R : (p : L.Phrase) → L.Value p → Tokens L → Tokens L → Type 0) (word_r : (p : L.Phrase) (z : Tokens L) → Safe L greedy z → R p (value_of p) (word_of p ++ z) z) where
      pub spells_word : {A : Type 0} (g : Rule L A) → is_fit L greedy begins token g ≡ true → (z : Tokens L) → Safe L greedy z → Spells L fits R g (sample g) (word g ++ z) z
      spells_word (one x xs) c z s = (refl, own_kind (L.code (token x)) x xs (and_true (not (member x greedy)) (nat_eq (L.code (token x)) x) c).1)
      spells_word empty c z s = refl
      spells_word (both g h) c z s =
          let cs = and_true (is_fit L greedy begins token g) (is_fit L greedy begins token h) c in
          (word h ++ z, subst (λ (j : Tokens L). Spells L fits R g (sample g) j (word h ++ z)) (sym (append_assoc (word g) (word h) z)) (spells_word g cs.0 (word h ++ z) (safe_word h cs.1 z s)), spells_word h cs.1 z s)
      spells_word (either g h) c z s = inl (spells_word g (and_true (is_fit L greedy begins token g) (is_fit L greedy begins token h) c).0 z s)
      spells_word (many g) c z s = refl
      spells_word (maybe x g) c z s =
          let cs = and_true (member x greedy) (not (nat_eq 0 x) && is_fit L greedy begins token g) c in
          (refl, not_next L greedy x _ cs.0 s)
      spells_word (grow w f ends g h) c z s = (sample g, [], refl, (z, spells_word g (grow_fit g h c).0 z s, refl))
      spells_word (made f g) c z s = (sample g, refl, spells_word g c z s)
      spells_word (nest p) c z s = word_r p z s

      -- what follows the token
      abbrev pub Opened : {A : Type 0} → (A → Tokens L → Tokens L → Type 0) → L.Token → Type 0
      Opened {A} S t = (more : Tokens L) × (v : A) × ((z : Tokens L) → Safe L greedy z → S v (t ∷ (more ++ z)) z)

      first_both : (b : Bool) (x : ℕ) (xs ys : List ℕ) → b ≡ false → member x (cond b (xs ++ ys) xs) ≡ true → member x xs ≡ true
      first_both true x xs ys e h = absurd cc
      first_both false x xs ys e h = h

      module _ (known : L.Phrase → Bool) (opens_r : (p : L.Phrase) → known p ≡ true → (t : L.Token) → member (L.code t) (begins p) ≡ true → Opened (R p) t) where
        -- a token that may come first goes on to something that is spelled
        pub opens : {A : Type 0} (g : Rule L A) → is_open L known g ≡ true → is_fit L greedy begins token g ≡ true → (t : L.Token) → member (L.code t) (first L begins g) ≡ true → Opened (Spells L fits R g) t
        opens (one x xs) c f t h = ([], t, λ z s. (refl, h))
        opens empty c f t h = absurd cc
        opens (both g h) c f t m =
            let cs = and_true (not (nullable g)) (is_open L known g) c in
            let fs = and_true (is_fit L greedy begins token g) (is_fit L greedy begins token h) f in
            let a = opens g cs.1 fs.0 t (first_both (nullable g) (L.code t) (first L begins g) (first L begins h) (not_true (nullable g) cs.0) m) in (
              a.0 ++ word h,
              (a.1, sample h),
              λ z s. (
                word h ++ z,
                subst (λ (y : Tokens L). Spells L fits R g a.1 (t ∷ y) (word h ++ z)) (sym (append_assoc a.0 (word h) z)) (a.2 (word h ++ z) (safe_word h fs.1 z s)),
                spells_word h fs.1 z s,
              ),
            )
        opens (either g h) c f t m =
            let cs = and_true (is_open L known g) (is_open L known h) c in
            let fs = and_true (is_fit L greedy begins token g) (is_fit L greedy begins token h) f in
            elim (member-either (L.code t) (first L begins g) (first L begins h) m) [
              | inl k ↦ let a = opens g cs.0 fs.0 t k in (a.0, a.1, λ z s. inl (a.2 z s))
              | inr k ↦ let a = opens h cs.1 fs.1 t k in (a.0, a.1, λ z s. inr (a.2 z s))
            ]
        opens (many g) c f t m = let a = opens g c f t m in (a.0, a.1 ∷ [], λ z s. (z, a.2 z s, refl))
        opens (maybe x g) c f t m = absurd cc
        opens (grow w k ends g h) c f t m =
            let cs = and_true (not (nullable g)) (is_open L known g) c in
            let a = opens g cs.1 (grow_fit g h f).0 t (first_both (nullable g) (L.code t) (first L begins g) (first L begins h) (not_true (nullable g) cs.0) m) in
            (a.0, a.1, λ z s. (a.1, [], refl, (z, a.2 z s, refl)))
        opens (made h g) c f t m = let a = opens g c f t m in (a.0, h a.1, λ z s. (a.1, refl, a.2 z s))
        opens (nest p) c f t m = opens_r p c t m

-- What is spelled by tokens is spelled whatever follows them, unless a greedy token follows.
use Rattle.std.proofs.Common.{◌≡◌, ℕ, Bool, true, false, nat_eq, List, [], ◌∷◌, ◌++◌, Some, None, refl, sym, ap, subst, ◌∙◌, ◌⊎◌, inl, inr, append_assoc}
use Rattle.std.specs.Prelude.{not, ◌&&◌}
use Rattle.std.proofs.lemmas.Bool.{eqb-true}
use Rattle.grammar_rules.specs.Rule.{Language, Tokens, Rule, one, empty, both, either, many, maybe, grow, made, nest, next, member, first, Chain, Spells}
use Rattle.grammar_rules.proofs.Members.{and_true, both_ways}
use Rattle.grammar_rules.proofs.Opened.{is_open}

module _ (L : Language) (greedy : List ℕ) where
  -- no greedy token comes next
  abbrev pub Safe : Tokens L → Type 0
  Safe u = member (next L u) greedy ≡ false

  -- u may be where o was
  abbrev pub Near : Tokens L → Tokens L → Type 0
  Near o u = (next L u ≡ next L o) ⊎ Safe u

  pub near_behind : (f o u : Tokens L) → Near o u → Near (f ++ o) (f ++ u)
  near_behind [] o u n = n
  near_behind (t ∷ f) o u n = inl refl

  -- a front of the tokens, which others may follow
  abbrev pub Framed : (Tokens L → Tokens L → Type 0) → Tokens L → Tokens L → Type 0
  Framed S i o = (f : Tokens L) × (i ≡ f ++ o) × ((u : Tokens L) → Near o u → S (f ++ u) u)

  framed_both : (S T : Tokens L → Tokens L → Type 0) (i m o : Tokens L) → Framed S i m → Framed T m o → Framed (λ j u. (n : Tokens L) × S j n × T n u) i o
  framed_both S T i m o a b = (
    a.0 ++ b.0,
    a.1 ∙ ap (λ (z : Tokens L). a.0 ++ z) b.1 ∙ sym (append_assoc a.0 b.0 o),
    λ u n. (
      b.0 ++ u,
      subst (λ (z : Tokens L). S z (b.0 ++ u)) (sym (append_assoc a.0 b.0 u)) (a.2 (b.0 ++ u) (subst (λ (z : Tokens L). Near z (b.0 ++ u)) (sym b.1) (near_behind b.0 o u n))),
      b.2 u n,
    ),
  )

  chain_framed : {A : Type 0} (S : A → Tokens L → Tokens L → Type 0) → ((v : A) (i o : Tokens L) → S v i o → Framed (S v) i o) → (vs : List A) (i o : Tokens L) → Chain S vs i o → Framed (Chain S vs) i o
  chain_framed S h [] i o s = ([], s, λ u n. refl)
  chain_framed S h (v ∷ vs) i o s = framed_both (S v) (Chain S vs) i s.0 o (h v i s.0 s.1) (chain_framed S h vs s.0 o s.2)

  pub not_next : (x u : ℕ) → member x greedy ≡ true → member u greedy ≡ false → nat_eq u x ≡ false
  not_next x u h k = go (nat_eq u x) refl
    where
      go : (b : Bool) → nat_eq u x ≡ b → nat_eq u x ≡ false
      go true e = both_ways (member x greedy) h (ap (λ (z : ℕ). member z greedy) (sym (eqb-true u x e)) ∙ k)
      go false e = e

  module _ (begins : L.Phrase → List ℕ) (token : ℕ → L.Token) where
    -- each token after which something may be left out is greedy, no other token is, and each kind has a token
    abbrev pub is_fit : {A : Type 0} → Rule L A → Bool
    is_fit (one x xs) = not (member x greedy) && nat_eq (L.code (token x)) x
    is_fit empty = true
    is_fit (both g h) = is_fit g && is_fit h
    is_fit (either g h) = is_fit g && is_fit h
    is_fit (many g) = is_fit g
    is_fit (maybe x g) = member x greedy && (not (nat_eq 0 x) && is_fit g)
    is_fit (grow w f ends g h) = is_fit g && (is_fit h && (is_open L (λ p. false) h && not (member 0 (first L begins h))))
    is_fit (made f g) = is_fit g
    is_fit (nest p) = true

    module _ (fits : ℕ → Bool) (R : (p : L.Phrase) → L.Value p → Tokens L → Tokens L → Type 0) (framed_r : (p : L.Phrase) (v : L.Value p) (i o : Tokens L) → R p v i o → Framed (R p v) i o) where
      pub framed : {A : Type 0} (g : Rule L A) → is_fit g ≡ true → (v : A) (i o : Tokens L) → Spells L fits R g v i o → Framed (Spells L fits R g v) i o
      framed (one x xs) c v i o s = (v ∷ [], s.0, λ u n. (refl, s.1))
      framed empty c v i o s = ([], s, λ u n. refl)
      framed (both g h) c v i o s =
          let cs = and_true (is_fit g) (is_fit h) c in
          framed_both (Spells L fits R g v.0) (Spells L fits R h v.1) i s.0 o (framed g cs.0 v.0 i s.0 s.1) (framed h cs.1 v.1 s.0 o s.2)
      framed (either g h) c v i o (inl s) = let k = framed g (and_true (is_fit g) (is_fit h) c).0 v i o s in (k.0, k.1, λ u n. inl (k.2 u n))
      framed (either g h) c v i o (inr s) = let k = framed h (and_true (is_fit g) (is_fit h) c).1 v i o s in (k.0, k.1, λ u n. inr (k.2 u n))
      framed (many g) c vs i o s = chain_framed (Spells L fits R g) (framed g c) vs i o s
      framed (maybe x g) c None i o s =
          let cs = and_true (member x greedy) (not (nat_eq 0 x) && is_fit g) c in (
            [],
            s.0,
            λ u n. (
              refl,
              elim n [
                | inl e ↦ ap (λ (z : ℕ). nat_eq z x) (e ∙ ap (next L) (sym s.0)) ∙ s.1
                | inr e ↦ not_next x (next L u) cs.0 e
              ],
            ),
          )
      framed (maybe x g) c (Some v) i o s =
          let cs = and_true (member x greedy) (not (nat_eq 0 x) && is_fit g) c in
          let ds = and_true (not (nat_eq 0 x)) (is_fit g) cs.1 in
          let k = framed g ds.1 v s.1 o s.4 in
          (s.0 ∷ k.0, s.2 ∙ ap (λ (z : Tokens L). s.0 ∷ z) k.1, λ u n. (s.0, k.0 ++ u, refl, s.3, k.2 u n))
      framed (grow w f ends g h) c v i o s =
          let cs = and_true (is_fit g) (is_fit h && (is_open L (λ p. false) h && not (member 0 (first L begins h)))) c in
          let ds = and_true (is_fit h) (is_open L (λ p. false) h && not (member 0 (first L begins h))) cs.1 in
          let k = framed_both (Spells L fits R g s.0) (Chain (Spells L fits R h) s.1) i s.3.0 o (framed g cs.0 s.0 i s.3.0 s.3.1) (chain_framed (Spells L fits R h) (framed h ds.0) s.1 s.3.0 o s.3.2) in
          (k.0, k.1, λ u n. (s.0, s.1, s.2, k.2 u n))
      framed (made f g) c v i o s = let k = framed g c s.0 i o s.2 in (k.0, k.1, λ u n. (s.0, s.1, k.2 u n))
      framed (nest p) c v i o s = framed_r p v i o s

-- What is read is spelled so, what is spelled is read, and tokens spell at most one tree.
use Rattle.std.proofs.Common.{◌≡◌, ℕ, zero, suc, ◌+◌, ◌-◌, ◌<◌, Bool, true, false, cond, nat_le, List, [], ◌∷◌, length, Ok, Err, refl, sym, subst, ◌∙◌, inl, inr, arith, sub-one}
use Rattle.std.specs.Prelude.{◌==◌}
use Rattle.std.proofs.lemmas.Bool.{eqb-true}
use Rattle.std.proofs.lemmas.List.{nil_from_length}
use Rattle.grammar_rules.specs.Rule.{Language, Tokens, Rule, next, member, nullable, Fault, deep, refuse, Spells}
use Rattle.grammar_rules.specs.Grammar.{Grammar, Nests, IsSpelled, phrase, reads, ended, whole}
use Rattle.grammar_rules.proofs.Steps.{bind_ok, ok_is, neither, not_both}
use Rattle.grammar_rules.proofs.Members.{both_ways}
use Rattle.grammar_rules.proofs.Shorter.{strictly}
use Rattle.grammar_rules.proofs.Sound.{sound}
use Rattle.grammar_rules.proofs.Complete.{starts, complete}
use Rattle.grammar_rules.proofs.Wider.{spells_wider}
use Rattle.grammar_rules.proofs.Passes.{Tables, Passes}

-- a greater depth allows what a lesser one does
pub le_wider : (k d n : ℕ) → nat_le n d ≡ true → nat_le n (d + k) ≡ true
le_wider k d n h = grind (arith, h)

module _ (L : Language) (G : Grammar L) where
  not_ok : {A : Type 0} (i : Tokens L) (y : A × Tokens L) → deep L i ≡ Ok y → ⊥
  not_ok [] y e = cc
  not_ok (t ∷ i) y e = cc

  pub phrase_down : (d : ℕ) (p : L.Phrase) (i : Tokens L) → 0 < d → phrase L G d p i ≡ reads L G (d - 1) (G.rule_of p) i
  unfolding phrase
  phrase_down zero p i h = absurd (omega arith)
  phrase_down (suc d) p i h = rw sub-one refl

  pub phrase_sound : (d : ℕ) (p : L.Phrase) (i : Tokens L) (v : L.Value p) (o : Tokens L) → phrase L G d p i ≡ Ok (v, o) → Nests L G d p v i o
  unfolding phrase
  phrase_sound zero p i v o e = neither (member (next L i) (G.begins p)) (deep L i) (refuse L i) (v, o) (not_ok i) (λ y h. cc) e
  phrase_sound (suc d) p i v o e = sound L G.begins (λ h. nat_le h d) (phrase L G d) (Nests L G d) (phrase_sound d) (G.rule_of p) i v o e

  pub deeper : (k d : ℕ) (p : L.Phrase) (v : L.Value p) (i o : Tokens L) → Nests L G d p v i o → Nests L G (d + k) p v i o
  deeper k zero p v i o s = absurd s
  deeper k (suc d) p v i o s =
      let t : Spells L (λ h. nat_le h (d + k)) (Nests L G (d + k)) (G.rule_of p) v i o = spells_wider L (λ h. nat_le h d) (λ h. nat_le h (d + k)) (le_wider k d) (Nests L G d) (Nests L G (d + k)) (deeper k d) (G.rule_of p) v i o s in
      let e : suc (d + k) ≡ suc d + k = omega arith in
      subst (λ (n : ℕ). Nests L G n p v i o) e t

  pub spells_deeper : (k d : ℕ) {A : Type 0} (g : Rule L A) (v : A) (i o : Tokens L) → Spells L (λ h. nat_le h d) (Nests L G d) g v i o → Spells L (λ h. nat_le h (d + k)) (Nests L G (d + k)) g v i o
  spells_deeper k d g v i o s = spells_wider L (λ h. nat_le h d) (λ h. nat_le h (d + k)) (le_wider k d) (Nests L G d) (Nests L G (d + k)) (deeper k d) g v i o s

  pub spelled_deeper : (k d : ℕ) (i : Tokens L) (v : G.Tree) → IsSpelled L G d i v → IsSpelled L G (d + k) i v
  spelled_deeper k d i v s = spells_deeper k d G.source v i [] s

  guarded : {A : Type 0} (b : Bool) (f : Fault L) (x y : A) → cond b (Ok x) (Err f) ≡ Ok y → (b ≡ true) × (x ≡ y)
  guarded true f x y e = (refl, cc)
  guarded false f x y e = absurd cc

  pub source_sound : (d : ℕ) (i : Tokens L) (v : G.Tree) → whole L G d i ≡ Ok v → IsSpelled L G d i v
  unfolding whole
  source_sound d i v e =
      let a = bind_ok (reads L G d G.source i) (ended L G) v e in
      let g = guarded (length a.0.1 == 0) _ a.0.0 v a.2 in
      let s = sound L G.begins (λ h. nat_le h d) (phrase L G d) (Nests L G d) (phrase_sound d) G.source i a.0.0 a.0.1 a.1 in
      let last : a.0.1 ≡ [] = nil_from_length a.0.1 (eqb-true (length a.0.1) 0 g.0) in
      rw (g.1, last) at s

  module _ (T : Tables L) (P : Passes L G T) where
    pub phrase_shrinks : (d : ℕ) (p : L.Phrase) (i : Tokens L) (v : L.Value p) (o : Tokens L) → phrase L G d p i ≡ Ok (v, o) → length o < length i
    unfolding phrase
    phrase_shrinks zero p i v o e = absurd (neither (member (next L i) (G.begins p)) (deep L i) (refuse L i) (v, o) (not_ok i) (λ y h. cc) e)
    phrase_shrinks (suc d) p i v o e = strictly L G.begins (λ h. nat_le h d) (phrase L G d) (phrase_shrinks d) (G.rule_of p) (P.not_nullable p) i v o e

    pub falls : {A : Type 0} (d : ℕ) (g : Rule L A) → nullable g ≡ false → (i : Tokens L) (v : A) (o : Tokens L) → reads L G d g i ≡ Ok (v, o) → length o < length i
    falls d g n i v o e = strictly L G.begins (λ h. nat_le h d) (phrase L G d) (phrase_shrinks d) g n i v o e

    pub begun : (d : ℕ) (p : L.Phrase) (v : L.Value p) (i o : Tokens L) → Nests L G d p v i o → member (next L i) (G.begins p) ≡ true
    begun zero p v i o s = absurd s
    begun (suc d) p v i o s =
        elim (starts L G.begins (λ h. nat_le h d) (Nests L G d) (begun d) (G.rule_of p) v i o s) [
          | inl a ↦ subst (λ (xs : List ℕ). member (next L i) xs ≡ true) (P.begins_first p) a
          | inr a ↦ both_ways (nullable (G.rule_of p)) a.0 (P.not_nullable p)
        ]

    pub phrase_complete : (d : ℕ) (p : L.Phrase) (v : L.Value p) (i o : Tokens L) → Nests L G d p v i o → member (next L o) (T.follow p) ≡ true → phrase L G d p i ≡ Ok (v, o)
    unfolding phrase
    phrase_complete zero p v i o s f = absurd s
    phrase_complete (suc d) p v i o s f = complete L G.begins T.follow (λ h. nat_le h d) (phrase L G d) (Nests L G d) (begun d) (phrase_shrinks d) (phrase_complete d) (G.rule_of p) (T.follow p) (P.told p) v i o s f

    pub source_complete : (d : ℕ) (i : Tokens L) (v : G.Tree) → IsSpelled L G d i v → whole L G d i ≡ Ok v
    unfolding whole
    source_complete d i v s = rw (complete L G.begins T.follow (λ h. nat_le h d) (phrase L G d) (Nests L G d) (begun d) (phrase_shrinks d) (phrase_complete d) G.source (0 ∷ []) P.source_told v i [] s refl) refl

    -- A list of tokens spells at most one tree.
    pub one_reading : (i : Tokens L) (d e : ℕ) (v w : G.Tree) → IsSpelled L G d i v → IsSpelled L G e i w → v ≡ w
    one_reading i d e v w s t =
        let a = source_complete (d + e) i v (spelled_deeper e d i v s) in
        let swap : e + d ≡ d + e = omega arith in
        let t' : IsSpelled L G (d + e) i w = subst (λ (n : ℕ). IsSpelled L G n i w) swap (spelled_deeper d e i w t) in
        let b = source_complete (d + e) i w t' in
        ok_is v w (sym a ∙ b)

    pub only_one : (d : ℕ) (i : Tokens L) (v w : G.Tree) → whole L G d i ≡ Ok v → IsSpelled L G d i w → v ≡ w
    only_one d i v w e s = ok_is v w (sym e ∙ source_complete d i w s)

    pub unspelled_at : (d : ℕ) (i : Tokens L) (f : Fault L) (v : G.Tree) → whole L G d i ≡ Err f → IsSpelled L G d i v → ⊥
    unspelled_at d i f v e s = not_both v f (sym (source_complete d i v s) ∙ e)

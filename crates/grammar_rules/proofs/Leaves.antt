-- What is spelled leaves tokens after it, and so does what comes before a part that nests too deep.
use Rattle.std.proofs.Common.{◌≡◌, ℕ, Bool, true, ◌<◌, ◌≤◌, List, [], ◌∷◌, ◌++◌, length, Some, None, sym, ap, ◌∙◌, inl, inr, arith, append_assoc}
use Rattle.std.proofs.lemmas.List.{length-append}
use Rattle.grammar_rules.specs.Rule.{Language, Tokens, Rule, one, empty, both, either, many, maybe, grow, made, nest, Chain, Spells}
use Rattle.grammar_rules.specs.Deep.{Begins, Exceeds}

-- some tokens come before those that are left
abbrev pub Leaves : {T : Type 0} → List T → List T → Type 0
Leaves {T} i o = (c : List T) × (i ≡ c ++ o)

leaves_all : {T : Type 0} (i o : List T) → i ≡ o → Leaves i o
leaves_all i o e = ([], e)

pub leaves_both : {T : Type 0} (i m o : List T) → Leaves i m → Leaves m o → Leaves i o
leaves_both {T} i m o a b = (a.0 ++ b.0, a.1 ∙ ap (λ (z : List T). a.0 ++ z) b.1 ∙ sym (append_assoc a.0 b.0 o))

pub leaves_less : {T : Type 0} (i o : List T) → Leaves i o → length o ≤ length i
leaves_less i o a = omega (arith, ap length a.1 ∙ length-append a.0 o)

chain_leaves : {A T : Type 0} (S : A → List T → List T → Type 0) → ((v : A) (i o : List T) → S v i o → Leaves i o) → (vs : List A) (i o : List T) → Chain S vs i o → Leaves i o
chain_leaves S h [] i o s = leaves_all i o s
chain_leaves S h (v ∷ vs) i o s = leaves_both i s.0 o (h v i s.0 s.1) (chain_leaves S h vs s.0 o s.2)

pub begins_some : (L : Language) {A : Type 0} (S : A → Tokens L → Tokens L → Type 0) (i : Tokens L) → Begins L S i → 0 < length i
begins_some L S [] b = absurd b
begins_some L S (t ∷ i) b = omega arith

module _ (L : Language) (fits : ℕ → Bool) (R : (p : L.Phrase) → L.Value p → Tokens L → Tokens L → Type 0) (leaves_r : (p : L.Phrase) (v : L.Value p) (i o : Tokens L) → R p v i o → Leaves i o) where
  pub leaves : {A : Type 0} (g : Rule L A) (v : A) (i o : Tokens L) → Spells L fits R g v i o → Leaves i o
  leaves (one x xs) v i o s = (v ∷ [], s.0)
  leaves empty v i o s = leaves_all i o s
  leaves (both g h) v i o s = leaves_both i s.0 o (leaves g v.0 i s.0 s.1) (leaves h v.1 s.0 o s.2)
  leaves (either g h) v i o (inl s) = leaves g v i o s
  leaves (either g h) v i o (inr s) = leaves h v i o s
  leaves (many g) vs i o s = chain_leaves (Spells L fits R g) (leaves g) vs i o s
  leaves (maybe x g) None i o s = leaves_all i o s.0
  leaves (maybe x g) (Some v) i o s = leaves_both i s.1 o (s.0 ∷ [], s.2) (leaves g v s.1 o s.4)
  leaves (grow w f ends g h) v i o s = leaves_both i s.3.0 o (leaves g s.0 i s.3.0 s.3.1) (chain_leaves (Spells L fits R h) (leaves h) s.1 s.3.0 o s.3.2)
  leaves (made f g) v i o s = leaves g s.0 i o s.2
  leaves (nest p) v i o s = leaves_r p v i o s

  module _ (U : (p : L.Phrase) → L.Value p → Tokens L → Tokens L → Type 0) (X : (p : L.Phrase) → Tokens L → Tokens L → L.Place → Type 0)
      (leaves_x : (p : L.Phrase) (i o : Tokens L) (place : L.Place) → X p i o place → Leaves i o × (0 < length o)) where
    -- a token with which the part is known to nest too deep is left
    pub exceeds_leaves : {A : Type 0} (g : Rule L A) (i o : Tokens L) (place : L.Place) → Exceeds L fits R U X g i o place → Leaves i o × (0 < length o)
    exceeds_leaves (one x xs) i o place s = absurd s
    exceeds_leaves empty i o place s = absurd s
    exceeds_leaves (both g h) i o place (inl s) = exceeds_leaves g i o place s
    exceeds_leaves (both g h) i o place (inr s) = let a = exceeds_leaves h s.1 o place s.3 in (leaves_both i s.1 o (leaves g s.0 i s.1 s.2) a.0, a.1)
    exceeds_leaves (either g h) i o place (inl s) = exceeds_leaves g i o place s
    exceeds_leaves (either g h) i o place (inr s) = exceeds_leaves h i o place s
    exceeds_leaves (many g) i o place s = let a = exceeds_leaves g s.1 o place s.3 in (leaves_both i s.1 o (leaves (many g) s.0 i s.1 s.2) a.0, a.1)
    exceeds_leaves (maybe x g) i o place s = let a = exceeds_leaves g s.1 o place s.4 in (leaves_both i s.1 o (s.0 ∷ [], s.2) a.0, a.1)
    exceeds_leaves (grow w f ends g h) i o place (inl s) = exceeds_leaves g i o place s
    exceeds_leaves (grow {B = B} w f ends g h) i o place (inr s) =
        let front : Leaves i s.1 = leaves (grow w f ends g h) s.0 i s.1 s.2 in
        elim s.4 [
          | inl b ↦ let a = exceeds_leaves h s.1 o place b.1 in (leaves_both i s.1 o front a.0, a.1)
          | inr b ↦
              let some : 0 < length s.1 = begins_some L (Spells L (λ n. true) U h) s.1 b.1.2 in
              (leaves_both i s.1 o front (leaves_all s.1 o b.0), omega (arith, ap length b.0))
        ]
    exceeds_leaves (made f g) i o place s = exceeds_leaves g i o place s
    exceeds_leaves (nest p) i o place s = leaves_x p i o place s

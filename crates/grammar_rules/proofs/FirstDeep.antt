-- The first part that nests too deep, in the words of a grammar, is the one that reading finds.
use Rattle.std.proofs.Common.{◌≡◌, ℕ, zero, suc, ◌+◌, ◌-◌, ◌<◌, nat_le, true, List, [], ◌∷◌, ◌++◌, length, drop, Err, refl, sym, ap, subst, ◌∙◌, inl, inr, arith}
use Rattle.grammar_rules.specs.Rule.{Language, Tokens, next, member, Wrong, too_deep, Fault, refuse, deep}
use Rattle.grammar_rules.specs.Grammar.{Grammar, Nests, phrase, reads, ended, whole}
use Rattle.grammar_rules.specs.Deep.{NestsAtAll, NestsTooDeep, IsFirstTooDeep}
use Rattle.std.proofs.Math.Seq.{drop-append_seam}
use Rattle.std.proofs.lemmas.List.{length-append}
use Rattle.grammar_rules.proofs.Answers.{kinds_differ, ended_left, whole_again}
use Rattle.grammar_rules.proofs.Steps.{chosen, fault_is, bind_err, test_true}
use Rattle.grammar_rules.proofs.Members.{both_ways}
use Rattle.grammar_rules.proofs.Language.{phrase_sound, phrase_shrinks, phrase_complete, begun}
use Rattle.grammar_rules.proofs.Leaves.{Leaves, leaves, begins_some, exceeds_leaves}
use Rattle.grammar_rules.proofs.Faults.{word_any, safe_any, opens_any}
use Rattle.grammar_rules.proofs.DeepFaults.{Known, known, known_there}
use Rattle.grammar_rules.proofs.DeepRead.{deep_at, exceeding, reads_deep}
use Rattle.grammar_rules.proofs.Passes.{Tables, Passes}

module _ (L : Language) (G : Grammar L) where
  pub nests_leaves : (d : ℕ) (p : L.Phrase) (v : L.Value p) (i o : Tokens L) → Nests L G d p v i o → Leaves i o
  nests_leaves zero p v i o s = absurd s
  nests_leaves (suc d) p v i o s = leaves L (λ h. nat_le h d) (Nests L G d) (nests_leaves d) (G.rule_of p) v i o s

  pub deep_leaves : (d : ℕ) (p : L.Phrase) (i o : Tokens L) (place : L.Place) → NestsTooDeep L G d p i o place → Leaves i o × (0 < length o)
  deep_leaves zero p i o place s =
      let some : 0 < length i = begins_some L (NestsAtAll L G p) i s.2 in
      (([], s.0), omega (arith, ap length s.0))
  deep_leaves (suc d) p i o place s = exceeds_leaves L (λ h. nat_le h d) (Nests L G d) (nests_leaves d) (NestsAtAll L G) (NestsTooDeep L G d) (deep_leaves d) (G.rule_of p) i o place s

  pub first_leaves : (d : ℕ) (i o : Tokens L) (place : L.Place) → IsFirstTooDeep L G d i o place → Leaves i o × (0 < length o)
  first_leaves d i o place s = exceeds_leaves L (λ h. nat_le h d) (Nests L G d) (nests_leaves d) (NestsAtAll L G) (NestsTooDeep L G d) (deep_leaves d) G.source i o place s

module _ (L : Language) (G : Grammar L) (T : Tables L) (P : Passes L G T) where
  -- ---- what reading finds

  known_bottom : (p : L.Phrase) (i : Tokens L) (e : Fault L) → phrase L G zero p i ≡ Err e → Known L (NestsTooDeep L G zero p i) e.kind e.left
  unfolding phrase
  known_bottom p [] e q =
      elim (chosen (member 0 (G.begins p)) (deep L []) (refuse L []) (Err e) q) [
        | inl g ↦ both_ways (member 0 (G.begins p)) g.0 (P.no_end p)
        | inr g ↦ known_there L (NestsTooDeep L G zero p []) _ e (fault_is {A = L.Value p × Tokens L} _ e g.1) tt
      ]
  known_bottom p (t ∷ i) e q =
      elim (chosen (member (L.code t) (G.begins p)) (deep L (t ∷ i)) (refuse L (t ∷ i)) (Err e) q) [
        | inl g ↦
            let a = opens_any L G T P p t g.0 in
            known_there L (NestsTooDeep L G zero p (t ∷ i)) _ e (fault_is {A = L.Value p × Tokens L} _ e g.1) (t ∷ i, (refl, refl, (a.0 ++ [], a.1, [], a.2 [] P.end_not_greedy)), refl)
        | inr g ↦ known_there L (NestsTooDeep L G zero p (t ∷ i)) _ e (fault_is {A = L.Value p × Tokens L} _ e g.1) tt
      ]

  known_phrase : (d : ℕ) (p : L.Phrase) (i : Tokens L) (e : Fault L) → phrase L G d p i ≡ Err e → Known L (NestsTooDeep L G d p i) e.kind e.left
  unfolding phrase
  known_phrase zero p i e q = known_bottom p i e q
  known_phrase (suc d) p i e q =
      known L G.begins T.greedy T.token T.word_of T.value_of (safe_any L G T P) P.end_not_greedy (λ h. nat_le h d) (Nests L G d) (NestsAtAll L G) (NestsTooDeep L G d) (word_any L G T P) (phrase L G d) (phrase_sound L G d) (known_phrase d)
      (G.rule_of p) (P.fit p) i e q

  not_deep : (x : G.Tree × Tokens L) (place : L.Place) (n : ℕ) → ended L G x ≡ Err (record { kind = too_deep place; left = n }) → ⊥
  not_deep x place n e = kinds_differ L G T P place (ap (λ (f : Fault L). f.kind) (sym (ended_left L G T P x.0 x.1 (record { kind = too_deep place; left = n }) e).1))

  -- with this fault, that part is the first one
  pub found_first : (d : ℕ) (i : Tokens L) (place : L.Place) (n : ℕ) → whole L G d i ≡ Err (record { kind = too_deep place; left = n }) → (o : Tokens L) × IsFirstTooDeep L G d i o place × (length o ≡ n)
  unfolding whole
  found_first d i place n q =
      elim (bind_err (reads L G d G.source i) (ended L G) (record { kind = too_deep place; left = n }) q) [
        | inl b ↦
            known L G.begins T.greedy T.token T.word_of T.value_of (safe_any L G T P) P.end_not_greedy (λ h. nat_le h d) (Nests L G d) (NestsAtAll L G) (NestsTooDeep L G d) (word_any L G T P) (phrase L G d) (phrase_sound L G d) (known_phrase d)
            G.source P.source_fit i (record { kind = too_deep place; left = n }) b
        | inr b ↦ absurd (not_deep b.0 place n b.2)
      ]

  -- ---- what is read of it

  pub begun_any : (p : L.Phrase) (v : L.Value p) (i o : Tokens L) → NestsAtAll L G p v i o → member (next L i) (G.begins p) ≡ true
  begun_any p v i o s = begun L G T P s.0 p v i o s.1

  pub begun_deep : (d : ℕ) (p : L.Phrase) (i o : Tokens L) (place : L.Place) → NestsTooDeep L G d p i o place → member (next L i) (G.begins p) ≡ true
  begun_deep zero p [] o place s = absurd s.2
  begun_deep zero p (t ∷ i) o place s = begun_any p s.2.1 (t ∷ s.2.0) s.2.2 s.2.3
  begun_deep (suc d) p i o place s =
      subst (λ (xs : List ℕ). member (next L i) xs ≡ true) (P.begins_first p)
      (exceeding L G.begins T.follow (λ h. nat_le h d) (Nests L G d) (NestsAtAll L G) (NestsTooDeep L G d) (begun L G T P d) begun_any (begun_deep d) (G.rule_of p) (T.follow p) (P.told p) i o place s)

  reads_bottom : (p : L.Phrase) (i o : Tokens L) (place : L.Place) → NestsTooDeep L G zero p i o place → phrase L G zero p i ≡ deep_at L place o
  unfolding phrase
  reads_bottom p [] o place s = absurd s.2
  reads_bottom p (t ∷ i) o place s =
      test_true (member (L.code t) (G.begins p)) (deep L (t ∷ i)) (refuse L (t ∷ i)) (deep_at L place o) (begun_deep zero p (t ∷ i) o place s)
      (ap (λ (z : L.Place). deep_at L z (t ∷ i)) s.1 ∙ ap (deep_at L place) s.0)

  reads_phrase : (d : ℕ) (p : L.Phrase) (i o : Tokens L) (place : L.Place) → NestsTooDeep L G d p i o place → phrase L G d p i ≡ deep_at L place o
  unfolding phrase
  reads_phrase zero p i o place s = reads_bottom p i o place s
  reads_phrase (suc d) p i o place s =
      reads_deep L G.begins T.follow (λ h. nat_le h d) (Nests L G d) (NestsAtAll L G) (NestsTooDeep L G d) (begun L G T P d) begun_any (begun_deep d) (phrase L G d) (phrase_shrinks L G T P d) (phrase_complete L G T P d) (reads_phrase d)
      (nests_leaves L G d) (deep_leaves L G d) (G.rule_of p) (T.follow p) (P.told p) i o place s

  -- reading meets the first one
  pub reads_first : (d : ℕ) (i o : Tokens L) (place : L.Place) → IsFirstTooDeep L G d i o place → whole L G d i ≡ Err (record { kind = too_deep place; left = length o })
  unfolding whole
  reads_first d i o place s =
      rw (reads_deep L G.begins T.follow (λ h. nat_le h d) (Nests L G d) (NestsAtAll L G) (NestsTooDeep L G d) (begun L G T P d) begun_any (begun_deep d) (phrase L G d) (phrase_shrinks L G T P d) (phrase_complete L G T P d) (reads_phrase d)
      (nests_leaves L G d) (deep_leaves L G d) G.source (0 ∷ []) P.source_told i o place s) refl

  -- ---- there is one at most

  place_is : (p q : L.Place) (n m : ℕ) → ◌≡◌ {A = Fault L} (record { kind = too_deep p; left = n }) (record { kind = too_deep q; left = m }) → (p ≡ q) × (n ≡ m)
  place_is p q n m e = (place_of (ap (λ (f : Fault L). f.kind) e), ap (λ (f : Fault L). f.left) e)
    where
      place_of : ◌≡◌ {A = Wrong L} (too_deep p) (too_deep q) → p ≡ q
      place_of h = cc

  -- so many tokens are left
  left_are : (i o : Tokens L) → Leaves i o → o ≡ drop (length i - length o) i
  left_are i o a =
      let long : length i ≡ length a.0 + length o = ap length a.1 ∙ length-append a.0 o in
      let at : length i - length o ≡ length a.0 = omega arith in
      sym (ap (drop (length i - length o)) a.1 ∙ ap (λ (n : ℕ). drop n (a.0 ++ o)) at ∙ drop-append_seam a.0 o)

  pub one_first : (d : ℕ) (i o u : Tokens L) (p q : L.Place) → IsFirstTooDeep L G d i o p → IsFirstTooDeep L G d i u q → (p ≡ q) × (o ≡ u)
  one_first d i o u p q s t =
      let e = place_is p q (length o) (length u) (fault_is {A = G.Tree} _ _ (sym (reads_first d i o p s) ∙ reads_first d i u q t)) in
      (e.0, left_are i o (first_leaves L G d i o p s).0 ∙ ap (λ (n : ℕ). drop (length i - n) i) e.1 ∙ sym (left_are i u (first_leaves L G d i u q t).0))

  pub first_at : (d : ℕ) (i : Tokens L) (place : L.Place) (n : ℕ) → whole L G d i ≡ Err (record { kind = too_deep place; left = n }) → IsFirstTooDeep L G d i (drop (length i - n) i) place
  first_at d i place n e =
      let a = found_first d i place n e in
      let all : a.0 ≡ drop (length i - n) i = left_are i a.0 (first_leaves L G d i a.0 place a.1).0 ∙ ap (λ (m : ℕ). drop (length i - m) i) a.2 in
      subst (λ (o : Tokens L). IsFirstTooDeep L G d i o place) all a.1

  -- whatever follows the token
  pub first_again : (d : ℕ) (c : Tokens L) (t : L.Token) (p q : Tokens L) (place : L.Place) → IsFirstTooDeep L G d (c ++ t ∷ p) (t ∷ p) place → IsFirstTooDeep L G d (c ++ t ∷ q) (t ∷ q) place
  first_again d c t p q place s =
      let e = whole_again L G T P t p q d c place (suc (length p)) (reads_first d (c ++ t ∷ p) (t ∷ p) place s) (omega arith) in
      let n : suc (length p) - length p + length q ≡ length (t ∷ q) = omega arith in
      let a = first_at d (c ++ t ∷ q) place (length (t ∷ q)) (subst (λ (m : ℕ). whole L G d (c ++ t ∷ q) ≡ Err (record { kind = too_deep place; left = m })) n e) in
      subst (λ (o : Tokens L). IsFirstTooDeep L G d (c ++ t ∷ q) o place) (sym (left_are (c ++ t ∷ q) (t ∷ q) (c, refl))) a

  -- at the token with which it is known
  pub first_there : (d : ℕ) (c : Tokens L) (t : L.Token) (p : Tokens L) (place : L.Place) (n : ℕ) → whole L G d (c ++ t ∷ p) ≡ Err (record { kind = too_deep place; left = n }) → suc (length p) ≡ n → IsFirstTooDeep L G d (c ++ t ∷ p) (t ∷ p) place
  first_there d c t p place n e k =
      let q : n ≡ length (t ∷ p) = omega (arith, k) in
      subst (λ (o : Tokens L). IsFirstTooDeep L G d (c ++ t ∷ p) o place) (ap (λ (m : ℕ). drop (length (c ++ t ∷ p) - m) (c ++ t ∷ p)) q ∙ sym (left_are (c ++ t ∷ p) (t ∷ p) (c, refl))) (first_at d (c ++ t ∷ p) place n e)

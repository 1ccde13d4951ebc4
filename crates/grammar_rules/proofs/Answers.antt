-- What the answer says of all of the tokens.
use Rattle.std.proofs.Common.{◌≡◌, ◌≢◌, ℕ, zero, suc, ◌+◌, ◌-◌, ◌<◌, ◌≤◌, Bool, true, false, cond, nat_le, List, [], ◌∷◌, ◌++◌, length, take, Result, Ok, Err, refl, sym, ap, subst, ◌∙◌, inl, inr, arith, append_assoc}
use Rattle.std.specs.Prelude.{◌==◌}
use Rattle.std.proofs.lemmas.Bool.{eqb-true}
use Rattle.std.proofs.lemmas.List.{append-nil, nil_from_length, take_at, length-append}
use Rattle.grammar_rules.specs.Rule.{Language, Tokens, next, member, Wrong, unexpected, too_deep, Fault, Outcome, refuse, deep, ◌>>=◌}
use Rattle.grammar_rules.specs.Grammar.{Grammar, phrase, reads, IsSpelled, GoesOn, GoesOnAtAll, IsUnexpected, IsTooDeep, EndsEarly, whole, ended}
use Rattle.grammar_rules.proofs.Steps.{chosen, fault_is, bind_err, test_false, not_both}
use Rattle.grammar_rules.proofs.Members.{both_ways}
use Rattle.grammar_rules.proofs.Sound.{sound}
use Rattle.grammar_rules.proofs.Language.{le_wider, phrase_shrinks, source_complete, spelled_deeper}
use Rattle.grammar_rules.proofs.Local.{Past, past, past_cond, Shared, here, there, shared_after, shared_next, moved, Agrees, agrees_cond, agrees_refuse, local}
use Rattle.grammar_rules.proofs.Deeper.{IsSame, IsDeep, same, same_bind, refuses}
use Rattle.grammar_rules.proofs.Wider.{spells_wider}
use Rattle.grammar_rules.proofs.Framed.{framed}
use Rattle.grammar_rules.proofs.Viable.{all_fit, extra, viable}
use Rattle.grammar_rules.proofs.Faults.{Any, bounded, framed_any, any_sound, viable_phrase, word_any, safe_any}
use Rattle.grammar_rules.proofs.Passes.{Tables, Passes}

suc_not_zero : (n : ℕ) → (suc n == 0) ≡ false
suc_not_zero n = grind arith

not_okay : {A F : Type 0} (b : Bool) (v w : A) (f : F) → b ≡ false → cond b (Ok v) (Err f) ≡ Ok w → ⊥
not_okay true v w f e h = absurd cc
not_okay false v w f e h = cc

not_equal : (n m : ℕ) → n ≡ m → (n == m) ≡ false → ⊥
not_equal n m q e = both_ways (n == m) (grind arith) e

-- the item at which so many are left
abbrev pub Cut : {A : Type 0} → ℕ → List A → Type 0
Cut {A} n i = (c : List A) × (x : A) × (p : List A) × (i ≡ c ++ x ∷ p) × (suc (length p) ≡ n)

cut_at : {A : Type 0} (n : ℕ) (t : A) (i : List A) → n ≤ suc (length i) → (n ≤ length i → Cut n i) → Cut n (t ∷ i)
cut_at {A} n t i le more = go (n == suc (length i)) refl
  where
    go : (b : Bool) → (n == suc (length i)) ≡ b → Cut n (t ∷ i)
    go true e = let k = eqb-true n (suc (length i)) e in ([], t, i, refl, sym k)
    go false e =
        let ne : n ≢ suc (length i) = λ q. not_equal n (suc (length i)) q e in
        let s = more (omega arith) in
        (t ∷ s.0, s.1, s.2, ap (λ (z : List A). t ∷ z) s.3, s.4)

pub cut : {A : Type 0} (n : ℕ) (i : List A) → 0 < n → n ≤ length i → Cut n i
cut n [] lt le = absurd (omega arith)
cut n (t ∷ i) lt le = cut_at n t i le (λ h. cut n i lt h)

pub take_more : {A : Type 0} (c p : List A) (x : A) → take (suc (length c)) (c ++ x ∷ p) ≡ c ++ x ∷ []
take_more {A} c p x =
    let e : (c ++ x ∷ []) ++ p ≡ c ++ x ∷ p = append_assoc c (x ∷ []) p in
    let n : length (c ++ x ∷ []) ≡ suc (length c) = omega (arith, length-append c (x ∷ [])) in
    subst (λ (z : List A). take (suc (length c)) z ≡ c ++ x ∷ []) e (take_at (c ++ x ∷ []) p (suc (length c)) n)

front_is : {A : Type 0} (i front rest : List A) (n : ℕ) → i ≡ front ++ rest → length front ≡ n → take n i ≡ front
front_is i front rest n e k = ap (take n) e ∙ take_at front rest n k

module _ (L : Language) where
  has_more : (x : L.Token) (p q i j : Tokens L) → Shared L x p q i j → (length j == 0) ≡ false
  has_more x p q i j here = suc_not_zero (length q)
  has_more x p q i j (there {t = t} {i = k} {j = l} s) = suc_not_zero (length l)

  past_deep : (A : Type 0) (n : ℕ) (i : Tokens L) → length i ≤ n → Past L {A = A} n (deep L i)
  past_deep A n [] le = le
  past_deep A n (t ∷ i) le = le

  agrees_deep : (A : Type 0) (x : L.Token) (p q i j : Tokens L) → Shared L x p q i j → Agrees L x p q {A = A} (deep L i) (deep L j)
  agrees_deep A x p q i j here = agrees_refuse L x p q (too_deep (L.place x)) (x ∷ p) (x ∷ q) here
  agrees_deep A x p q i j (there {t = t} {i = k} {j = l} s) = agrees_refuse L x p q (too_deep (L.place t)) (t ∷ k) (t ∷ l) (there s)

module _ (L : Language) (G : Grammar L) (T : Tables L) (P : Passes L G T) where
  -- ---- at a greater depth

  phrase_refuses : (d : ℕ) (p : L.Phrase) (i : Tokens L) → member (next L i) (G.begins p) ≡ false → phrase L G d p i ≡ refuse L i
  unfolding phrase
  phrase_refuses zero p i h = test_false (member (next L i) (G.begins p)) (deep L i) (refuse L i) (refuse L i) h refl
  phrase_refuses (suc d) p i h = refuses L G.begins (λ h. nat_le h d) (phrase L G d) (phrase_refuses d) (G.rule_of p) (P.lean p) (P.not_nullable p) i (ap (member (next L i)) (P.begins_first p) ∙ h)

  bottom_deep : (p : L.Phrase) (t : L.Token) (i : Tokens L) → member (L.code t) (G.begins p) ≡ true → IsDeep L (phrase L G zero p (t ∷ i))
  unfolding phrase
  bottom_deep p t i e = (L.place t, suc (length i), rw e refl)

  bottom_same : (k : ℕ) (p : L.Phrase) (i : Tokens L) → IsSame L (phrase L G zero p i) (phrase L G (zero + k) p i)
  bottom_same k p [] = inl (phrase_refuses zero p [] (P.no_end p) ∙ sym (phrase_refuses (zero + k) p [] (P.no_end p)))
  bottom_same k p (t ∷ i) = go (member (L.code t) (G.begins p)) refl
    where
      go : (b : Bool) → member (L.code t) (G.begins p) ≡ b → IsSame L (phrase L G zero p (t ∷ i)) (phrase L G (zero + k) p (t ∷ i))
      go true e = inr (bottom_deep p t i e)
      go false e = inl (phrase_refuses zero p (t ∷ i) e ∙ sym (phrase_refuses (zero + k) p (t ∷ i) e))

  pub phrase_same : (k d : ℕ) (p : L.Phrase) (i : Tokens L) → IsSame L (phrase L G d p i) (phrase L G (d + k) p i)
  unfolding phrase
  phrase_same k zero p i = bottom_same k p i
  phrase_same k (suc d) p i =
      let e : suc (d + k) ≡ suc d + k = omega arith in
      subst (λ (n : ℕ). IsSame L (phrase L G (suc d) p i) (phrase L G n p i)) e
      (same L G.begins (λ h. nat_le h d) (λ h. nat_le h (d + k)) (le_wider k d) (phrase L G d) (phrase L G (d + k)) (phrase_same k d) (G.rule_of p) i)

  whole_same : (k d : ℕ) (i : Tokens L) → IsSame L (whole L G d i) (whole L G (d + k) i)
  unfolding whole
  whole_same k d i =
      same_bind L (reads L G d G.source i) (reads L G (d + k) G.source i) (ended L G) (ended L G)
      (same L G.begins (λ h. nat_le h d) (λ h. nat_le h (d + k)) (le_wider k d) (phrase L G d) (phrase L G (d + k)) (phrase_same k d) G.source i) (λ x. inl refl)

  -- ---- what comes after a fault

  pub phrase_past : (d n : ℕ) (p : L.Phrase) (i : Tokens L) → length i ≤ n → Past L n (phrase L G d p i)
  unfolding phrase
  phrase_past zero n p i le = past_cond L n (member (next L i) (G.begins p)) (deep L i) (refuse L i) (past_deep L _ n i le) le
  phrase_past (suc d) n p i le = past L G.begins (λ h. nat_le h d) (phrase L G d) n (phrase_past d n) (G.rule_of p) i le

  pub phrase_local : (x : L.Token) (p q : Tokens L) (d : ℕ) (c : L.Phrase) (i j : Tokens L) → Shared L x p q i j → Agrees L x p q (phrase L G d c i) (phrase L G d c j)
  unfolding phrase
  phrase_local x p q zero c i j s =
      agrees_cond L x p q (member (next L i) (G.begins c)) (member (next L j) (G.begins c)) (deep L i) (refuse L i) (deep L j) (refuse L j) (ap (λ (z : ℕ). member z (G.begins c)) (shared_next L x p q i j s))
      (agrees_deep L _ x p q i j s) (agrees_refuse L x p q unexpected i j s)
  phrase_local x p q (suc d) c i j s =
      local L x p q G.begins (λ h. nat_le h d) (phrase L G d) (phrase_past d (length p)) (phrase_shrinks L G T P d) (phrase_local x p q d) (G.rule_of c) (P.stepping c) i j s

  pub ended_left : (v : G.Tree) (o : Tokens L) (f : Fault L) → ended L G (v, o) ≡ Err f → ((length o == 0) ≡ false) × (f ≡ record { kind = unexpected; left = length o })
  ended_left v o f e =
      elim (chosen (length o == 0) (Ok v) (Err (record { kind = unexpected; left = length o })) (Err f) e) [
        | inl g ↦ absurd cc
        | inr g ↦ (g.0, sym (fault_is {A = G.Tree} _ f g.1))
      ]

  pub kinds_differ : (place : L.Place) → ◌≡◌ {A = Wrong L} unexpected (too_deep place) → ⊥
  kinds_differ place q = cc

  module _ (x : L.Token) (p q : Tokens L) where
    agreed : (a b : Outcome L G.Tree) (f : Fault L) (v : G.Tree) → Agrees L x p q a b → (a >>= ended L G) ≡ Err f → length p < f.left → (b >>= ended L G) ≡ Ok v → ⊥
    agreed (Ok w) b f v (inl s) e lt h =
        let h' : ended L G (w.0, s.0) ≡ Ok v = ap (λ (z : Outcome L G.Tree). z >>= ended L G) (sym s.2) ∙ h in
        not_okay (length s.0 == 0) w.0 v _ (has_more L x p q w.1 s.0 s.1) h'
    agreed (Ok w) b f v (inr s) e lt h = let k = ended_left w.0 w.1 f e in omega (arith, ap (λ (z : Fault L). z.left) k.1)
    agreed (Err d) b f v (inl s) e lt h =
        let h' = ap (λ (z : Outcome L G.Tree). z >>= ended L G) (sym s.1) ∙ h in not_both v _ (sym h')
    agreed (Err d) b f v (inr s) e lt h = let k = fault_is {A = G.Tree} d f e in omega (arith, ap (λ (z : Fault L). z.left) k)

    -- with a fault at x nothing that begins so is spelled
    whole_local : (d : ℕ) (c : Tokens L) (f : Fault L) (v : G.Tree) → whole L G d (c ++ x ∷ p) ≡ Err f → length p < f.left → IsSpelled L G d (c ++ x ∷ q) v → ⊥
    unfolding whole
    whole_local d c f v e lt s =
        agreed (reads L G d G.source (c ++ x ∷ p)) (reads L G d G.source (c ++ x ∷ q)) f v
        (local L x p q G.begins (λ h. nat_le h d) (phrase L G d) (phrase_past d (length p)) (phrase_shrinks L G T P d) (phrase_local x p q d) G.source P.source_steps (c ++ x ∷ p) (c ++ x ∷ q) (shared_after L x p q c))
        e lt (source_complete L G T P d (c ++ x ∷ q) v s)

    -- a part that nests too deep as is known at x does so whatever follows x
    deep_again : (a b : Outcome L G.Tree) (place : L.Place) (n : ℕ) → Agrees L x p q a b → (a >>= ended L G) ≡ Err (record { kind = too_deep place; left = n }) → length p < n
        → (b >>= ended L G) ≡ Err (record { kind = too_deep place; left = n - length p + length q })
    deep_again (Ok w) b place n s e lt = let k = ended_left w.0 w.1 (record { kind = too_deep place; left = n }) e in absurd (kinds_differ place (ap (λ (z : Fault L). z.kind) (sym k.1)))
    deep_again (Err d) b place n (inl s) e lt =
        ap (λ (z : Outcome L G.Tree). z >>= ended L G) s.1 ∙ ap (λ (z : Fault L). Err (moved L x p q z)) (fault_is {A = G.Tree} d (record { kind = too_deep place; left = n }) e)
    deep_again (Err d) b place n (inr s) e lt = let k = fault_is {A = G.Tree} d (record { kind = too_deep place; left = n }) e in absurd (omega (arith, ap (λ (z : Fault L). z.left) k))

    pub whole_again : (d : ℕ) (c : Tokens L) (place : L.Place) (n : ℕ) → whole L G d (c ++ x ∷ p) ≡ Err (record { kind = too_deep place; left = n }) → length p < n
        → whole L G d (c ++ x ∷ q) ≡ Err (record { kind = too_deep place; left = n - length p + length q })
    unfolding whole
    whole_again d c place n e lt =
        deep_again (reads L G d G.source (c ++ x ∷ p)) (reads L G d G.source (c ++ x ∷ q)) place n
        (local L x p q G.begins (λ h. nat_le h d) (phrase L G d) (phrase_past d (length p)) (phrase_shrinks L G T P d) (phrase_local x p q d) G.source P.source_steps (c ++ x ∷ p) (c ++ x ∷ q) (shared_after L x p q c))
        e lt

  -- ---- what comes before a fault

  pub record Before (i : Tokens L) (f : Fault L) : Type 0 where
    pub front : Tokens L
    pub rest : Tokens L
    pub parts : i ≡ front ++ rest
    pub left : length rest + extra L f.kind ≡ f.left
    pub goes_on : GoesOnAtAll L G front

  whole_before : (d : ℕ) (i : Tokens L) (f : Fault L) → whole L G d i ≡ Err f → Before i f
  unfolding whole
  whole_before d i f e =
      elim (bind_err (reads L G d G.source i) (ended L G) f e) [
        | inl b ↦
            let v = viable L G.begins T.greedy T.token T.word_of T.value_of (safe_any L G T P) (λ h. nat_le h d) (Any L G) (word_any L G T P) (framed_any L G T P) (phrase L G d) (any_sound L G d) (viable_phrase L G T P d) G.source P.source_fit i f b in
            let s = bounded L G G.source v.value (v.front ++ (v.more ++ [])) [] (v.spells [] (nothing_greedy (T.greedy))) in
            record { front = v.front; rest = v.rest; parts = v.parts; left = v.left; goes_on = (s.0, (v.more ++ [], v.value, s.1)) }
        | inr b ↦
            let k = ended_left b.0.0 b.0.1 f b.2 in
            let fr = framed L T.greedy G.begins T.token all_fit (Any L G) (framed_any L G T P) G.source P.source_fit b.0.0 i b.0.1
            (spells_wider L (λ h. nat_le h d) all_fit (λ n h. refl) (Any L G) (Any L G) (λ p w j u s. s) G.source b.0.0 i b.0.1 (sound L G.begins (λ h. nat_le h d) (phrase L G d) (Any L G) (any_sound L G d) G.source i b.0.0 b.0.1 b.1)) in
            let s = bounded L G G.source b.0.0 (fr.0 ++ []) [] (fr.2 [] (inr (nothing_greedy (T.greedy)))) in
            record { front = fr.0; rest = b.0.1; parts = fr.1; left = subst (λ (g : Fault L). length b.0.1 + extra L g.kind ≡ g.left) (sym k.1) (omega arith); goes_on = (s.0, ([], b.0.0, s.1)) }
      ]
    where
      nothing_greedy : (ks : List ℕ) → member 0 T.greedy ≡ false
      nothing_greedy ks = P.end_not_greedy

  ended_past : (n : ℕ) (w : G.Tree × Tokens L) (f : Fault L) → length w.1 ≤ n → ended L G w ≡ Err f → f.left ≤ n
  ended_past n w f le e = let k = ended_left w.0 w.1 f e in omega (arith, ap (λ (z : Fault L). z.left) k.1)

  pub whole_left : (d : ℕ) (i : Tokens L) (f : Fault L) → whole L G d i ≡ Err f → f.left ≤ length i
  unfolding whole
  whole_left d i f e = go (reads L G d G.source i) (past L G.begins (λ h. nat_le h d) (phrase L G d) (length i) (phrase_past d (length i)) G.source i (omega arith)) e
    where
      go : (a : Outcome L G.Tree) → Past L (length i) a → (a >>= ended L G) ≡ Err f → f.left ≤ length i
      go (Ok w) h q = ended_past (length i) w f h q
      go (Err g) h q = let k = fault_is {A = G.Tree} g f q in omega (arith, ap (λ (z : Fault L). z.left) k)

  -- ---- the three answers

  abbrev wrong : Wrong L → ℕ → Result G.Tree (Fault L)
  wrong k n = Err (record { kind = k; left = n })

  still : (d k n : ℕ) (i : Tokens L) → whole L G d i ≡ wrong unexpected n → whole L G (d + k) i ≡ wrong unexpected n
  still d k n i e =
      elim (whole_same k d i) [
        | inl s ↦ sym s ∙ e
        | inr s ↦ let q = fault_is {A = G.Tree} _ _ (sym e ∙ s.2) in absurd (kinds_differ s.0 (ap (λ (z : Fault L). z.kind) q))
      ]

  spelled_at : (d e : ℕ) (i : Tokens L) (v : G.Tree) → IsSpelled L G e i v → IsSpelled L G (d + e) i v
  spelled_at d e i v s = let swap : e + d ≡ d + e = omega arith in subst (λ (n : ℕ). IsSpelled L G n i v) swap (spelled_deeper L G d e i v s)

  refuted : (d n : ℕ) (c : Tokens L) (x : L.Token) (p : Tokens L) → whole L G d (c ++ x ∷ p) ≡ wrong unexpected n → suc (length p) ≡ n → GoesOnAtAll L G (c ++ x ∷ []) → ⊥
  refuted d n c x p e k g =
      let f : Fault L = record { kind = unexpected; left = n } in
      let deeper : whole L G (d + g.0) (c ++ x ∷ p) ≡ Err f = still d g.0 n (c ++ x ∷ p) e in
      let lt : length p < n = omega arith in
      let q : IsSpelled L G g.0 (c ++ x ∷ g.1.0) g.1.1 = subst (λ (z : Tokens L). IsSpelled L G g.0 z g.1.1) (append_assoc c (x ∷ []) g.1.0) g.1.2 in
      whole_local x p g.1.0 (d + g.0) c f g.1.1 deeper lt (spelled_at d g.0 (c ++ x ∷ g.1.0) g.1.1 q)

  pub unexpected_at : (d n : ℕ) (i : Tokens L) → whole L G d i ≡ wrong unexpected n → 0 < n → IsUnexpected L G i (length i - n)
  unexpected_at d n i e lt =
      let f : Fault L = record { kind = unexpected; left = n } in
      let le : n ≤ length i = whole_left d i f e in
      let b = whole_before d i f e in
      let s = cut n i lt le in
      let long : length i ≡ length b.front + length b.rest = ap length b.parts ∙ length-append b.front b.rest in
      let longer : length i ≡ length s.0 + suc (length s.2) = ap length s.3 ∙ length-append s.0 (s.1 ∷ s.2) in
      let at : length b.front ≡ length i - n = omega (arith, b.left) in
      let same_place : length s.0 ≡ length i - n = omega (arith, s.4) in
      let with : take (suc (length i - n)) i ≡ s.0 ++ s.1 ∷ [] = subst (λ (m : ℕ). take (suc m) i ≡ s.0 ++ s.1 ∷ []) same_place (ap (take (suc (length s.0))) s.3 ∙ take_more s.0 s.2 s.1) in
      record {
        in_range = omega arith;
        before = subst (GoesOnAtAll L G) (sym (front_is i b.front b.rest (length i - n) b.parts at)) b.goes_on;
        with_it = λ g. refuted d n s.0 s.1 s.2 (subst (λ (z : Tokens L). whole L G d z ≡ Err f) s.3 e) s.4 (subst (GoesOnAtAll L G) with g);
      }

  too_much : (d n : ℕ) (place : L.Place) (c : Tokens L) (x : L.Token) (p : Tokens L) → whole L G d (c ++ x ∷ p) ≡ wrong (too_deep place) n → suc (length p) ≡ n → GoesOn L G d (c ++ x ∷ []) → ⊥
  too_much d n place c x p e k g =
      let f : Fault L = record { kind = too_deep place; left = n } in
      let lt : length p < n = omega arith in
      let q : IsSpelled L G d (c ++ x ∷ g.0) g.1 = subst (λ (z : Tokens L). IsSpelled L G d z g.1) (append_assoc c (x ∷ []) g.0) g.2 in
      whole_local x p g.0 d c f g.1 e lt q

  pub too_deep_at : (d n : ℕ) (place : L.Place) (i : Tokens L) → whole L G d i ≡ wrong (too_deep place) n → (0 < n) × IsTooDeep L G d i (length i - n)
  too_deep_at d n place i e =
      let f : Fault L = record { kind = too_deep place; left = n } in
      let le : n ≤ length i = whole_left d i f e in
      let b = whole_before d i f e in
      let lt : 0 < n = omega (arith, b.left) in
      let s = cut n i lt le in
      let long : length i ≡ length b.front + length b.rest = ap length b.parts ∙ length-append b.front b.rest in
      let longer : length i ≡ length s.0 + suc (length s.2) = ap length s.3 ∙ length-append s.0 (s.1 ∷ s.2) in
      let at : length b.front ≡ suc (length i - n) = omega (arith, b.left) in
      let same_place : length s.0 ≡ length i - n = omega (arith, s.4) in
      let with : take (suc (length i - n)) i ≡ s.0 ++ s.1 ∷ [] = subst (λ (m : ℕ). take (suc m) i ≡ s.0 ++ s.1 ∷ []) same_place (ap (take (suc (length s.0))) s.3 ∙ take_more s.0 s.2 s.1) in (
        lt,
        record {
          in_range = omega arith;
          goes_on = subst (GoesOnAtAll L G) (sym (front_is i b.front b.rest (suc (length i - n)) b.parts at)) b.goes_on;
          within = λ g. too_much d n place s.0 s.1 s.2 (subst (λ (z : Tokens L). whole L G d z ≡ Err f) s.3 e) s.4 (subst (GoesOn L G d) with g);
        },
      )

  pub ends_early : (d : ℕ) (i : Tokens L) → whole L G d i ≡ wrong unexpected 0 → EndsEarly L G i
  ends_early d i e =
      let f : Fault L = record { kind = unexpected; left = 0 } in
      let b = whole_before d i f e in
      let none : length b.rest ≡ 0 = omega (arith, b.left) in
      let all : i ≡ b.front = b.parts ∙ ap (λ (z : Tokens L). b.front ++ z) (nil_from_length b.rest none) ∙ append-nil b.front in
      record {
        goes_on = subst (GoesOnAtAll L G) (sym all) b.goes_on;
        not_yet = λ k v s. not_both v f (sym (source_complete L G T P (d + k) i v (spelled_at d k i v s)) ∙ still d k 0 i e);
      }

  -- ---- as the code sees them

  pub kind_at : (d : ℕ) (i : Tokens L) (f : Fault L) (k : Wrong L) → whole L G d i ≡ Err f → f.kind ≡ k → whole L G d i ≡ wrong k f.left
  kind_at d i f k e h = subst (λ (z : Wrong L). whole L G d i ≡ Err (record { kind = z; left = f.left })) h e

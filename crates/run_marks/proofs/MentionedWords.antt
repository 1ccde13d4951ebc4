-- A memory of which an action reads a word is mentioned by the action.
use Rattle.std.proofs.Common.{◌≡◌, ⊎_elim, ℕ, Bool, true, List, ◌==◌, ◌||◌, ◌++◌, inl, inr, eq-eqb}
use Rattle.std.proofs.lemmas.Bool.{or_left, or_right}
use Rattle.design_model.specs.Tree.{Head, Target, Targets, Term, Terms, a_target, a_term, all_of, binary, bit, bits_of, choice, concat, no_targets, no_terms, number, part, repeat, several, sign, signal, slide, unary, word, word_of}
use Rattle.design_model.specs.Design.{In}
use Rattle.design_model.specs.Mentions.{all_index_terms, all_subterms, index_mentions, index_terms, indexes_mention, mentions, mentions_any, subterms}
use Rattle.design_model.specs.Paths.{Action, action_mentions, assigns, compares, reaches, selects, tests}
use Rattle.design_model.specs.Open.{ActionReads, action_terms}
use Rattle.design_model.proofs.OpenNodes.{In-halves}

module _ (m : ℕ) (g : Head) (k : Term) where
  abbrev t0 : Term
  t0 = word g m k

  -- what is found in one of two lists of terms
  halves : (xs ys : List Term) (a b : Bool) → (In t0 xs → a ≡ true) → (In t0 ys → b ≡ true) → In t0 (xs ++ ys) → (a || b) ≡ true
  halves xs ys a b f h i = ⊎_elim (λ l. or_left a b (f l)) (λ r. or_right a b (h r)) (In-halves t0 xs ys i)

  mutual
    mentioned : (t : Term) → In t0 (subterms t) → mentions m t ≡ true
    mentioned (number h n) (inl e) = cc
    mentioned (number h n) (inr a) = absurd a
    mentioned (signal h s) (inl e) = cc
    mentioned (signal h s) (inr a) = absurd a
    mentioned (word h n i) (inl e) = let q : n ≡ m = cc in or_left (n == m) _ (eq-eqb n m q)
    mentioned (word h n i) (inr a) = or_right (n == m) _ (mentioned i a)
    mentioned (bit h t i) (inl e) = cc
    mentioned (bit h t i) (inr a) = halves (subterms t) (subterms i) _ _ (mentioned t) (mentioned i) a
    mentioned (part h t i j) (inl e) = cc
    mentioned (part h t i j) (inr a) =
        ⊎_elim
        (λ p. ⊎_elim (λ q. or_left (mentions m t) _ (mentioned t q)) (λ q. or_right (mentions m t) _ (or_left (mentions m i) _ (mentioned i q))) (In-halves t0 (subterms t) (subterms i) p))
        (λ p. or_right (mentions m t) _ (or_right (mentions m i) _ (mentioned j p))) (In-halves t0 (subterms t ++ subterms i) (subterms j) a)
    mentioned (slide h t i j up) (inl e) = cc
    mentioned (slide h t i j up) (inr a) =
        ⊎_elim
        (λ p. ⊎_elim (λ q. or_left (mentions m t) _ (mentioned t q)) (λ q. or_right (mentions m t) _ (or_left (mentions m i) _ (mentioned i q))) (In-halves t0 (subterms t) (subterms i) p))
        (λ p. or_right (mentions m t) _ (or_right (mentions m i) _ (mentioned j p))) (In-halves t0 (subterms t ++ subterms i) (subterms j) a)
    mentioned (unary h op t) (inl e) = cc
    mentioned (unary h op t) (inr a) = mentioned t a
    mentioned (binary h op t u) (inl e) = cc
    mentioned (binary h op t u) (inr a) = halves (subterms t) (subterms u) _ _ (mentioned t) (mentioned u) a
    mentioned (choice h t i j) (inl e) = cc
    mentioned (choice h t i j) (inr a) =
        ⊎_elim
        (λ p. ⊎_elim (λ q. or_left (mentions m t) _ (mentioned t q)) (λ q. or_right (mentions m t) _ (or_left (mentions m i) _ (mentioned i q))) (In-halves t0 (subterms t) (subterms i) p))
        (λ p. or_right (mentions m t) _ (or_right (mentions m i) _ (mentioned j p))) (In-halves t0 (subterms t ++ subterms i) (subterms j) a)
    mentioned (concat h ts) (inl e) = cc
    mentioned (concat h ts) (inr a) = some_mentioned ts a
    mentioned (repeat h n ts) (inl e) = cc
    mentioned (repeat h n ts) (inr a) = halves (subterms n) (all_subterms ts) _ _ (mentioned n) (some_mentioned ts) a
    mentioned (sign h s t) (inl e) = cc
    mentioned (sign h s t) (inr a) = mentioned t a

    some_mentioned : (ts : Terms) → In t0 (all_subterms ts) → mentions_any m ts ≡ true
    some_mentioned no_terms a = absurd a
    some_mentioned (a_term t ts) a = halves (subterms t) (all_subterms ts) _ _ (mentioned t) (some_mentioned ts) a

  mutual
    index_mentioned : (x : Target) → In t0 (index_terms x) → index_mentions m x ≡ true
    index_mentioned (all_of s) a = absurd a
    index_mentioned (bits_of s low w) a = mentioned low a
    index_mentioned (word_of n i) a = mentioned i a
    index_mentioned (several ts) a = indexes_mentioned ts a

    indexes_mentioned : (ts : Targets) → In t0 (all_index_terms ts) → indexes_mention m ts ≡ true
    indexes_mentioned no_targets a = absurd a
    indexes_mentioned (a_target t ts) a = halves (index_terms t) (all_index_terms ts) _ _ (index_mentioned t) (indexes_mentioned ts) a

  action_mentioned : (x : Action) → In t0 (action_terms x) → action_mentions m x ≡ true
  action_mentioned (reaches n) a = absurd a
  action_mentioned (tests t taken) a = mentioned t a
  action_mentioned (selects t) a = mentioned t a
  action_mentioned (compares kind on t taken) a = mentioned t a
  action_mentioned (assigns b x t) a = halves (index_terms x) (subterms t) _ _ (index_mentioned x) (mentioned t) a

pub reads_mentioned : (m : ℕ) (x : Action) (i : Term) → ActionReads m x i → action_mentions m x ≡ true
reads_mentioned m x i (g, a) = action_mentioned m g i x a

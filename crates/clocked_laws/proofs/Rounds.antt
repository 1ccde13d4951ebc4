-- A test of processes leaves their order of rounds as it is.
use Rattle.std.proofs.Common.{◌≡◌, inl, inr, ⊎_elim, ℕ, ◌<◌, Bool, true, false, List, [], ◌∷◌, refl, sym, ap, subst, ◌∙◌, arith}
use Rattle.std.proofs.lemmas.Bool.{both_ways, cases_Bool, cases_lt, le-leb, leb-true}
use Rattle.std.specs.Prelude.{if◌then◌else◌, nat_le}
use Rattle.std.specs.List.{filter}
use Rattle.replay_steps.specs.replay_model.design_model.Design.{In}
use Rattle.replay_steps.specs.replay_model.Step.{in_rounds, put_in_round, put_in_rounds}
use Rattle.replay_steps.proofs.replay_model.Rounds.{AreSorted, put_sorted}

module _ (round : ℕ → ℕ) (f : ℕ → Bool) where
  passed : (p : ℕ) (xs : List ℕ) → f p ≡ true → filter f (p ∷ xs) ≡ p ∷ filter f xs
  passed p xs e = ap (λ b. if b then p ∷ filter f xs else filter f xs) e

  left_out : (p : ℕ) (xs : List ℕ) → f p ≡ false → filter f (p ∷ xs) ≡ filter f xs
  left_out p xs e = ap (λ b. if b then p ∷ filter f xs else filter f xs) e

  put_after : (p x : ℕ) (xs : List ℕ) → nat_le (round x) (round p) ≡ true → put_in_round round p (x ∷ xs) ≡ x ∷ put_in_round round p xs
  put_after p x xs e = ap (λ b. if b then x ∷ put_in_round round p xs else p ∷ x ∷ xs) e

  put_before : (p x : ℕ) (xs : List ℕ) → nat_le (round x) (round p) ≡ false → put_in_round round p (x ∷ xs) ≡ p ∷ x ∷ xs
  put_before p x xs e = ap (λ b. if b then x ∷ put_in_round round p xs else p ∷ x ∷ xs) e

  later : (p x : ℕ) → nat_le (round x) (round p) ≡ false → round p < round x
  later p x e = ⊎_elim (λ less. less) (λ most. absurd (both_ways _ e (le-leb (round x) (round p) most))) (cases_lt (round p) (round x))

  -- before those of later rounds
  put_first : (p : ℕ) (xs : List ℕ) → ((q : ℕ) → In q xs → round p < round q) → put_in_round round p xs ≡ p ∷ xs
  put_first p [] all = refl
  put_first p (x ∷ xs) all =
      ⊎_elim (λ e. let most = leb-true (round x) (round p) e in let less = all x (inl refl) in absurd (omega (arith, most, less))) (λ e. put_before p x xs e) (cases_Bool (nat_le (round x) (round p)))

  in_filtered : (q : ℕ) (xs : List ℕ) → In q (filter f xs) → In q xs
  in_filtered q [] i = i
  in_filtered q (x ∷ xs) i =
      ⊎_elim (λ e. ⊎_elim (λ same. inl same) (λ j. inr (in_filtered q xs j)) (subst (In q) (passed x xs e) i)) (λ e. inr (in_filtered q xs (subst (In q) (left_out x xs e) i))) (cases_Bool (f x))

  -- one that passes
  put_passed : (p : ℕ) (xs : List ℕ) → AreSorted round xs → f p ≡ true → filter f (put_in_round round p xs) ≡ put_in_round round p (filter f xs)
  put_passed p [] sorted e = passed p [] e
  put_passed p (x ∷ xs) sorted e = ⊎_elim (after (put_passed p xs sorted.1 e)) before (cases_Bool (nat_le (round x) (round p)))
    where
      after : filter f (put_in_round round p xs) ≡ put_in_round round p (filter f xs) → nat_le (round x) (round p) ≡ true → filter f (put_in_round round p (x ∷ xs)) ≡ put_in_round round p (filter f (x ∷ xs))
      after rest le =
          ap (filter f) (put_after p x xs le)
          ∙ ⊎_elim
          (λ passes. passed x (put_in_round round p xs) passes ∙ ap (λ ys. x ∷ ys) rest ∙ sym (put_after p x (filter f xs) le) ∙ ap (put_in_round round p) (sym (passed x xs passes)))
          (λ fails. left_out x (put_in_round round p xs) fails ∙ rest ∙ ap (put_in_round round p) (sym (left_out x xs fails)))
          (cases_Bool (f x))

      before : nat_le (round x) (round p) ≡ false → filter f (put_in_round round p (x ∷ xs)) ≡ put_in_round round p (filter f (x ∷ xs))
      before gt =
          ap (filter f) (put_before p x xs gt) ∙ passed p (x ∷ xs) e
          ∙ sym (put_first p (filter f (x ∷ xs)) (λ q i.
          ⊎_elim (λ same. subst (λ z. round p < round z) same (later p x gt)) (λ j. let a = later p x gt in let b = sorted.0 q j in omega (arith, a, b)) (in_filtered q (x ∷ xs) i)))

  -- one that is left out
  put_left_out : (p : ℕ) (xs : List ℕ) → f p ≡ false → filter f (put_in_round round p xs) ≡ filter f xs
  put_left_out p [] e = left_out p [] e
  put_left_out p (x ∷ xs) e = ⊎_elim (after (put_left_out p xs e)) before (cases_Bool (nat_le (round x) (round p)))
    where
      after : filter f (put_in_round round p xs) ≡ filter f xs → nat_le (round x) (round p) ≡ true → filter f (put_in_round round p (x ∷ xs)) ≡ filter f (x ∷ xs)
      after rest le =
          ap (filter f) (put_after p x xs le)
          ∙ ⊎_elim (λ passes. passed x (put_in_round round p xs) passes ∙ ap (λ ys. x ∷ ys) rest ∙ sym (passed x xs passes)) (λ fails. left_out x (put_in_round round p xs) fails ∙ rest ∙ sym (left_out x xs fails)) (cases_Bool (f x))

      before : nat_le (round x) (round p) ≡ false → filter f (put_in_round round p (x ∷ xs)) ≡ filter f (x ∷ xs)
      before gt = ap (filter f) (put_before p x xs gt) ∙ left_out p (x ∷ xs) e

  puts_filtered : (ps done : List ℕ) → AreSorted round done → filter f (put_in_rounds round ps done) ≡ put_in_rounds round (filter f ps) (filter f done)
  puts_filtered [] done sorted = refl
  puts_filtered (p ∷ ps) done sorted =
      puts_filtered ps (put_in_round round p done) (put_sorted round p done sorted)
      ∙ ⊎_elim
      (λ passes. ap (put_in_rounds round (filter f ps)) (put_passed p done sorted passes) ∙ ap (λ ys. put_in_rounds round ys (filter f done)) (sym (passed p ps passes)))
      (λ fails. ap (put_in_rounds round (filter f ps)) (put_left_out p done fails) ∙ ap (λ ys. put_in_rounds round ys (filter f done)) (sym (left_out p ps fails)))
      (cases_Bool (f p))

pub order_filtered : (round : ℕ → ℕ) (f : ℕ → Bool) (ps : List ℕ) → filter f (in_rounds round ps) ≡ in_rounds round (filter f ps)
order_filtered round f ps = puts_filtered round f ps [] tt

-- The clean ones of a list, put on a wake list by the numbers of their rounds.
use Rattle.std.proofs.Common.{◌≡◌, ◌⊎◌, inl, inr, ⊎_elim, ℕ, ◌+◌, Bool, true, false, if◌then◌else◌, List, [], ◌∷◌, length, map, Option, Some, None, arith, refl, sym, ap, ◌∙◌}
use Rattle.std.specs.Prelude.{IfSome, is_none, is_some, nat_le, sum_by, ⊤}
use Rattle.std.specs.List.{filter}
use Rattle.std.proofs.lemmas.Bool.{eqb-true, false≢true, false_from_ne_true, or_cases}
use Rattle.std.proofs.lemmas.List.Sums.{sum_by-cons}
use Rattle.design_model.specs.Design.{In}
use Rattle.clocked_marks.specs.chosen_runs.chosen_early.early_sets.Rounds.{round_at}
use Rattle.clocked_marks.specs.chosen_runs.chosen_early.early_sets.WakeState.{WakeState, trigger_of}
use Rattle.replay_sets.specs.SetsOf.{round_by, round_of}
use Rattle.replay_sets.specs.replay_model.Step.{in_rounds, put_in_round, put_in_rounds}
use Rattle.wake_list.specs.Members.{has}
use Rattle.wake_list.specs.Waiting.{Waiting, with_process}
use Rattle.step_clocked.specs.Runs.{clean_in_rounds, is_unclean, runs_clean}

-- each process has the number of its round as its rank
abbrev pub AreRanked : (ℕ → ℕ) → List (ℕ × ℕ) → Type 0
AreRanked round [] = ⊤
AreRanked round (q ∷ qs) = (q.1 ≡ round q.0) × AreRanked round qs

module _ (round : ℕ → ℕ) (p : ℕ) where
  -- one more is put where the order of rounds has it
  pub named_with : (qs : List (ℕ × ℕ)) → AreRanked round qs → map (λ (q : ℕ × ℕ). q.0) (with_process p (round p) qs) ≡ put_in_round round p (map (λ (q : ℕ × ℕ). q.0) qs)
  named_with [] ranked = refl
  named_with (x ∷ qs) ranked =
      go (nat_le x.1 (round p)) (named_with qs ranked.1)
      ∙ ap (λ n. if nat_le n (round p) then x.0 ∷ put_in_round round p (map (λ (q : ℕ × ℕ). q.0) qs) else p ∷ x.0 ∷ map (λ (q : ℕ × ℕ). q.0) qs) ranked.0
    where
      go : (b : Bool) → map (λ (q : ℕ × ℕ). q.0) (with_process p (round p) qs) ≡ put_in_round round p (map (λ (q : ℕ × ℕ). q.0) qs)
          → map (λ (q : ℕ × ℕ). q.0) (if b then x ∷ with_process p (round p) qs else (p, round p) ∷ x ∷ qs) ≡ (if b then x.0 ∷ put_in_round round p (map (λ (q : ℕ × ℕ). q.0) qs) else p ∷ x.0 ∷ map (λ (q : ℕ × ℕ). q.0) qs)
      go true rest = ap (λ ys. x.0 ∷ ys) rest
      go false rest = refl

  pub ranked_with : (qs : List (ℕ × ℕ)) → AreRanked round qs → AreRanked round (with_process p (round p) qs)
  ranked_with [] ranked = (refl, tt)
  ranked_with (x ∷ qs) ranked = go (nat_le x.1 (round p)) (ranked_with qs ranked.1)
    where
      go : (b : Bool) → AreRanked round (with_process p (round p) qs) → AreRanked round (if b then x ∷ with_process p (round p) qs else (p, round p) ∷ x ∷ qs)
      go true rest = (ranked.0, rest)
      go false rest = (refl, ranked)

  pub length_with : (qs : List (ℕ × ℕ)) → length (with_process p (round p) qs) ≡ length qs + 1
  length_with [] = refl
  length_with (x ∷ qs) = go (nat_le x.1 (round p)) (length_with qs)
    where
      go : (b : Bool) → length (with_process p (round p) qs) ≡ length qs + 1 → length (if b then x ∷ with_process p (round p) qs else (p, round p) ∷ x ∷ qs) ≡ length (x ∷ qs) + 1
      go true rest = omega (arith, rest)
      go false rest = omega arith

-- two wake lists with the same pairs
pub same_waiting : (a b : Waiting) → a.count ≡ b.count → a.pairs ≡ b.pairs → a ≡ b
same_waiting a b count pairs = λ i. record { count = count i; pairs = pairs i }

-- a process that the list has is in it
pub has_gives : (p : ℕ) (xs : List ℕ) → has p xs ≡ true → In p xs
has_gives p [] h = absurd (false≢true h)
has_gives p (x ∷ xs) h = ⊎_elim (λ e. inl (sym (eqb-true p x e))) (λ k. inr (has_gives p xs k)) (or_cases _ (has p xs) h)

pub not_has : (p : ℕ) (xs : List ℕ) → (In p xs → ⊥) → has p xs ≡ false
not_has p xs out = false_from_ne_true (has p xs) (λ h. out (has_gives p xs h))

-- the number of a clean process is that of its trigger
pub round_is : (w : WakeState) (p n : ℕ) → runs_clean w p ≡ true → IfSome (trigger_of w p) (λ s. n ≡ round_at w s) → n ≡ round_of w p
round_is w p n clean is = go (trigger_of w p) clean is
  where
    go : (o : Option ℕ) → is_some o ≡ true → IfSome o (λ s. n ≡ round_at w s) → n ≡ round_by w o
    go None none same = absurd (false≢true none)
    go (Some s) some same = same

-- ---- how much is queued does not go by the order

module _ (f : ℕ → ℕ) (round : ℕ → ℕ) where
  sum_put : (p : ℕ) (xs : List ℕ) → sum_by f (put_in_round round p xs) ≡ f p + sum_by f xs
  sum_put p [] = sum_by-cons f p []
  sum_put p (x ∷ xs) = go (nat_le (round x) (round p)) (sum_put p xs)
    where
      go : (b : Bool) → sum_by f (put_in_round round p xs) ≡ f p + sum_by f xs → sum_by f (if b then x ∷ put_in_round round p xs else p ∷ x ∷ xs) ≡ f p + sum_by f (x ∷ xs)
      go true rest = let one = sum_by-cons f x (put_in_round round p xs) in let two = sum_by-cons f x xs in omega (arith, one, two, rest)
      go false rest = sum_by-cons f p (x ∷ xs)

  sum_puts : (ps done : List ℕ) → sum_by f (put_in_rounds round ps done) ≡ sum_by f ps + sum_by f done
  sum_puts [] done = let none : sum_by f [] ≡ 0 = refl in omega (arith, none)
  sum_puts (p ∷ ps) done =
      let rest = sum_puts ps (put_in_round round p done) in
      let one = sum_put p done in
      let all = sum_by-cons f p ps in
      omega (arith, rest, one, all)

-- of those that a test passes, and of the others, as much as of all
sum_parts : (f : ℕ → ℕ) (w : WakeState) (ps : List ℕ) → sum_by f (filter (runs_clean w) ps) + sum_by f (filter (is_unclean w) ps) ≡ sum_by f ps
sum_parts f w [] = refl
sum_parts f w (p ∷ ps) = go (trigger_of w p) (sum_parts f w ps)
  where
    go : (o : Option ℕ) → sum_by f (filter (runs_clean w) ps) + sum_by f (filter (is_unclean w) ps) ≡ sum_by f ps
        → sum_by f (if is_some o then p ∷ filter (runs_clean w) ps else filter (runs_clean w) ps) + sum_by f (if is_none o then p ∷ filter (is_unclean w) ps else filter (is_unclean w) ps) ≡ sum_by f (p ∷ ps)
    go None rest = let a = sum_by-cons f p (filter (is_unclean w) ps) in let b = sum_by-cons f p ps in omega (arith, a, b, rest)
    go (Some s) rest = let a = sum_by-cons f p (filter (runs_clean w) ps) in let b = sum_by-cons f p ps in omega (arith, a, b, rest)

pub sum_in_turn : (f : ℕ → ℕ) (w : WakeState) (ps : List ℕ) → sum_by f (clean_in_rounds w ps) + sum_by f (filter (is_unclean w) ps) ≡ sum_by f ps
sum_in_turn f w ps =
    let order = sum_puts f (round_of w) (filter (runs_clean w) ps) [] in let none : sum_by f [] ≡ 0 = refl in let parts = sum_parts f w ps in omega (arith, order, none, parts)

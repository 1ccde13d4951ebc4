-- Where in a list of events a process is evaluated.
use Rattle.std.specs.Prelude.{⊤}
use Rattle.std.proofs.Common.{◌≡◌, ℕ, Bool, true, false, if◌then◌else◌, true≢false, List, [], ◌∷◌, ◌++◌, refl, sym, ap, ◌∙◌, append-nil}
use Rattle.std.proofs.lemmas.Bool.{eq-eqb, eqb-true}
use Rattle.event_machine.specs.Cell.{Values, Write}
use Rattle.event_machine.specs.Machine.{Machine, output}
use Rattle.event_machine.specs.State.{State}
use Rattle.event_machine.specs.Event.{Activate, Apply, Evaluate, Event, IsLegal, Move, end_state, first, is_evaluation, state_after}
use Rattle.event_machine.specs.Step.{evaluations, outputs}

pub is_evaluation_is : {V : Type 0} (p : ℕ) (e : Event V) → is_evaluation p e ≡ true → e ≡ Evaluate p
is_evaluation_is p (Move ws) is = absurd (true≢false (sym is))
is_evaluation_is p (Evaluate q) is = ap Evaluate (eqb-true q p is)
is_evaluation_is p Activate is = absurd (true≢false (sym is))
is_evaluation_is p Apply is = absurd (true≢false (sym is))

-- no event of these is an evaluation of p
abbrev pub NoEvaluations : {V : Type 0} → ℕ → List (Event V) → Type 0
NoEvaluations p [] = ⊤
NoEvaluations p (e ∷ es) = (is_evaluation p e ≡ false) × NoEvaluations p es

-- what p's evaluations write along these events, in order
abbrev pub written_by : {V : Type 0} → Machine V → ℕ → State V → List (Event V) → List (Write V)
written_by m p s [] = []
written_by m p s (e ∷ es) = (if is_evaluation p e then output m p s.values else []) ++ written_by m p (state_after m s e) es

module _ {V : Type 0} (m : Machine V) where
  pub end_state-append : (before after : List (Event V)) (s : State V) → end_state m s (before ++ after) ≡ end_state m (end_state m s before) after
  end_state-append [] after s = refl
  end_state-append (e ∷ before) after s = end_state-append before after (state_after m s e)

  pub legal_after : (before after : List (Event V)) (s : State V) → IsLegal m s (before ++ after) → IsLegal m (end_state m s before) after
  legal_after [] after s legal = legal
  legal_after (e ∷ before) after s legal = legal_after before after (state_after m s e) legal.1

module _ {V : Type 0} (m : Machine V) (p : ℕ) where
  pub none_written : (es : List (Event V)) (s : State V) → NoEvaluations p es → written_by m p s es ≡ []
  none_written [] s none = refl
  none_written (e ∷ es) s none = rw none.0 (none_written es (state_after m s e) none.1)

  pub once_written : (before after : List (Event V)) (s : State V) → NoEvaluations p before → NoEvaluations p after → written_by m p s (before ++ Evaluate p ∷ after) ≡ output m p (end_state m s before).values
  once_written [] after s first last =
      rw (eq-eqb p p refl) (ap (λ (l : List (Write V)). output m p s.values ++ l) (none_written after (state_after m s (Evaluate p)) last) ∙ append-nil (output m p s.values))
  once_written (e ∷ before) after s first last = rw first.0 (once_written before after (state_after m s e) first.1 last)

  pub written_is : (es : List (Event V)) (s : State V) → written_by m p s es ≡ outputs m p (evaluations m p s es)
  written_is [] s = refl
  written_is (e ∷ es) s = go (is_evaluation p e) (written_is es (state_after m s e))
    where
      go : (b : Bool) → written_by m p (state_after m s e) es ≡ outputs m p (evaluations m p (state_after m s e) es) → (if b then output m p s.values else []) ++ written_by m p (state_after m s e) es ≡ outputs m p (if b then s.values ∷ evaluations m p (state_after m s e) es else evaluations m p (state_after m s e) es)
      go true later = ap (λ (l : List (Write V)). output m p s.values ++ l) later
      go false later = later

  pub no_evaluations : (es : List (Event V)) (s : State V) → NoEvaluations p es → evaluations m p s es ≡ []
  no_evaluations [] s none = refl
  no_evaluations (e ∷ es) s none = rw none.0 (no_evaluations es (state_after m s e) none.1)

  pub evaluations-append : (before after : List (Event V)) (s : State V) → evaluations m p s (before ++ after) ≡ evaluations m p s before ++ evaluations m p (end_state m s before) after
  evaluations-append [] after s = refl
  evaluations-append (e ∷ before) after s = go (is_evaluation p e) (evaluations-append before after (state_after m s e))
    where
      rest_of : List (Values V)
      rest_of = evaluations m p (end_state m (state_after m s e) before) after

      go : (b : Bool) → evaluations m p (state_after m s e) (before ++ after) ≡ evaluations m p (state_after m s e) before ++ rest_of → (if b then s.values ∷ evaluations m p (state_after m s e) (before ++ after) else evaluations m p (state_after m s e) (before ++ after)) ≡ (if b then s.values ∷ evaluations m p (state_after m s e) before else evaluations m p (state_after m s e) before) ++ rest_of
      go true later = ap (λ (l : List (Values V)). s.values ∷ l) later
      go false later = later

  -- an evaluation with no other after it
  pub last_evaluation : (before after : List (Event V)) (s : State V) → NoEvaluations p after → evaluations m p s (before ++ Evaluate p ∷ after) ≡ evaluations m p s before ++ (end_state m s before).values ∷ []
  last_evaluation before after s last =
      evaluations-append before (Evaluate p ∷ after) s
      ∙ ap (λ (l : List (Values V)). evaluations m p s before ++ l) (rw (eq-eqb p p refl) (ap (λ (l : List (Values V)). (end_state m s before).values ∷ l) (no_evaluations after (state_after m (end_state m s before) (Evaluate p)) last)))

  pub one_evaluation_at : (before after : List (Event V)) (s : State V) → NoEvaluations p before → NoEvaluations p after → evaluations m p s (before ++ Evaluate p ∷ after) ≡ (end_state m s before).values ∷ []
  one_evaluation_at before after s first last =
      last_evaluation before after s last ∙ ap (λ (l : List (Values V)). l ++ (end_state m s before).values ∷ []) (no_evaluations before s first)

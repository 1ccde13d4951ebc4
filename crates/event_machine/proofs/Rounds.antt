-- The laws by the sets of any round: what is written once is single in the next round.
use Rattle.std.proofs.Common.{◌≡◌, ◌⊎◌, inl, inr, ⊎_elim, ℕ, zero, suc, ◌≤◌, true, false, true≢false, List, [], ◌∷◌, ◌++◌, refl, sym, ap, subst, ◌∙◌, arith}
use Rattle.std.proofs.lemmas.Bool.{cases_Bool, eq-eqb}
use Rattle.event_machine.specs.Cell.{Cell, Update, Values, Write, join, put, times}
use Rattle.event_machine.specs.Machine.{IsLawful, IsTarget, Machine, output}
use Rattle.event_machine.specs.State.{State}
use Rattle.event_machine.specs.Event.{Activate, Apply, CanOccur, Evaluate, Event, IsLegal, Move, first, is_evaluation, state_after, event_writes}
use Rattle.event_machine.specs.Habit.{Habit}
use Rattle.event_machine.specs.Step.{IsStep}
use Rattle.event_machine.specs.Told.{IsAsTold, IsToldCell, IsToldInput, Told}
use Rattle.event_machine.specs.ToldStep.{ToldStep}
use Rattle.event_machine.specs.MayMove.{CanWake, IsClean, MayMove, MayWake}
use Rattle.event_machine.specs.Single.{IsSingle, IsWrittenOnce}
use Rattle.event_machine.specs.Laws.{EdgeLaw, NoWakeLaw, RestLaw, UnchangedLaw}
use Rattle.event_machine.proofs.Writes.{AreOldToNew, WritesCell-join, WritesCell-split}
use Rattle.event_machine.proofs.Inputs.{AllOldToNew, move_inputs}
use Rattle.event_machine.proofs.Rest.{ComesFromMayMove, ComesFromMayMove-kept, rest_at, settled_from_may, step_old_new, unchanged_at}
use Rattle.event_machine.proofs.Acts.{NoEvaluations, is_evaluation_is, no_evaluations}
use Rattle.event_machine.proofs.EdgeLaw.{evaluates_once, one_evaluation}
use Rattle.event_machine.proofs.Times.{count_all, once_all, scheduled, scheduled_all, unwritten_never, waiting}

join_old_new : {V : Type 0} (t : Told V) (A B : Cell → Type 0) (v : Values V) (ws : List (Write V)) → AreOldToNew t A v ws → ((c : Cell) → B c → AreOldToNew t (λ d. d ≡ c) v ws) → AreOldToNew t (λ c. A c ⊎ B c) v ws
join_old_new t A B v [] a b = tt
join_old_new t A B v (w ∷ ws) a b = (
  λ one differ. ⊎_elim (λ is. a.0 is differ) (λ is. (b w.cell is).0 refl differ) one,
  join_old_new t A B (put v w) ws a.1 (λ c is. (b c is).1),
)

join_all_old_new : {V : Type 0} (m : Machine V) (t : Told V) (A B : Cell → Type 0) (es : List (Event V)) (s : State V) → AllOldToNew t A m s es → ((c : Cell) → B c → AllOldToNew t (λ d. d ≡ c) m s es) → AllOldToNew t (λ c. A c ⊎ B c) m s es
join_all_old_new m t A B [] s a b = tt
join_all_old_new m t A B (e ∷ es) s a b = (
  join_old_new t A B s.values (event_writes m s e) a.0 (λ c is. (b c is).0),
  join_all_old_new m t A B es (state_after m s e) a.1 (λ c is. (b c is).1),
)

-- reported inputs are single in each round
pub told_single : {V : Type 0} (m : Machine V) (t : Told V) (n : ℕ) (c : Cell) → IsToldInput m t c → IsSingle m t n c
told_single m t zero c is = is
told_single m t (suc n) c is = inl is

-- what is single in some round is reported
pub single_told : {V : Type 0} (m : Machine V) (t : Told V) (n : ℕ) (c : Cell) → IsSingle m t n c → IsToldCell m t c
single_told m t zero c is = (is.1, inl is.0)
single_told m t (suc n) c (inl is) = (is.1, inl is.0)
single_told m t (suc n) c (inr made) = (made.told, inr (made.writer, made.writes))

module _ {V : Type 0} (m : Machine V) (lawful : IsLawful m) (t : Told V) where
  -- a process that cannot wake is not evaluated
  never_evaluated : (single : Cell → Type 0) → ((c : Cell) → IsToldInput m t c → single c) → (w : ℕ) → ((x : ℕ) → m.level w x ≡ false) → ((d : Cell) → CanWake m t single d w → ⊥) → (es : List (Event V)) (s : State V) → ComesFromMayMove m t single s → IsLegal m s es → AllOldToNew t single m s es → NoEvaluations w es
  never_evaluated single told_single w clocked not_woken_now [] s from_may legal old_new = tt
  never_evaluated single told_single w clocked not_woken_now (e ∷ es) s from_may legal old_new = (
    ⊎_elim
        (λ is. absurd (not_woken (subst (CanOccur m s) (is_evaluation_is w e is) legal.0)))
        (λ other. other)
        (cases_Bool (is_evaluation w e)),
    never_evaluated single told_single w clocked not_woken_now es (state_after m s e) (ComesFromMayMove-kept m lawful t single told_single s e from_may legal.0 old_new.0) legal.1 old_new.1,
  )
    where
      wakes_it : (x : ℕ) → MayMove m t single x → MayWake m t single x w → ⊥
      wakes_it x may (inl level) = true≢false (sym level ∙ clocked x)
      wakes_it x may (inr by) = not_woken_now by.0 (by.2, subst (MayMove m t single) (sym by.1) may)

      not_woken : s.woken w ≡ true → ⊥
      not_woken is = let by = from_may.woken w is in wakes_it by.0 by.1 by.2

  -- events without an evaluation of its writer schedule no write of a cell
  module _ (w : ℕ) (c : Cell) (target : IsTarget m w c) where
    none_scheduled : (s : State V) (e : Event V) → CanOccur m s e → is_evaluation w e ≡ false → scheduled c m s e ≡ 0
    none_scheduled s (Move ws) can other =
        unwritten_never c ws (λ h. lawful.inputs_kept w c (move_inputs m s.moved s.values ws c can.1 h) target)
    none_scheduled s (Evaluate p) can other =
        unwritten_never c (output m p s.values)
        (λ h. ⊎_elim
        (λ k. differ (inl (lawful.blocking_kept p s.values c k)))
        (λ k. differ (inr (lawful.nonblocking_kept p s.values c (WritesCell-join c (m.evaluate p s.values).nonblocking k))))
        (WritesCell-split c (m.evaluate p s.values).blocking (join (m.evaluate p s.values).nonblocking) h))
      where
        differ : IsTarget m p c → ⊥
        differ by = true≢false (sym (eq-eqb p w (lawful.one_writer p w c by target)) ∙ other)
    none_scheduled s Activate can other = refl
    none_scheduled s Apply can other = refl

    none_scheduled_all : (es : List (Event V)) (s : State V) → IsLegal m s es → NoEvaluations w es → scheduled_all c m s es ≡ 0
    none_scheduled_all [] s legal none = refl
    none_scheduled_all (e ∷ es) s legal none =
        let a = none_scheduled s e legal.0 none.0 in
        let b = none_scheduled_all es (state_after m s e) legal.1 none.1 in
        omega arith

    -- with one evaluation of the writer, which writes the cell at most once
    one_scheduled : ((v : Values V) → times c (output m w v) ≤ 1) → (before after : List (Event V)) (s : State V) → IsLegal m s (before ++ Evaluate w ∷ after) → NoEvaluations w before → NoEvaluations w after → scheduled_all c m s (before ++ Evaluate w ∷ after) ≤ 1
    one_scheduled once [] after s legal first last =
        let a = none_scheduled_all after (state_after m s (Evaluate w)) legal.1 last in
        let b = once s.values in
        omega arith
    one_scheduled once (e ∷ before) after s legal first last =
        let a = none_scheduled s e legal.0 first.0 in
        let b = one_scheduled once before after (state_after m s e) legal.1 first.1 last in
        omega arith

  module _ (h : Habit) (s : State V) (es : List (Event V)) (step : IsStep m h s es) (as_told : IsAsTold m t s es) where
    none_waiting : (c : Cell) → waiting c s ≡ 0
    unfolding waiting
    none_waiting c =
        let a : times c (join s.active) ≡ 0 = ap (λ (us : List (Update V)). times c (join us)) step.starts.none_active in
        let b : times c (join s.queued) ≡ 0 = ap (λ (us : List (Update V)). times c (join us)) step.starts.none_queued in
        omega arith

    written_once : (c : Cell) → IsToldCell m t c → scheduled_all c m s es ≤ 1 → AllOldToNew t (λ d. d ≡ c) m s es
    written_once c told schedules =
        let a = none_waiting c in
        let b = count_all c m es s step.legal in
        once_all c t m es s (omega arith) (as_told c told).0 (as_told c told).1

    -- what is written once changes once, from old to new
    made_old_new : (single : Cell → Type 0) → ((c : Cell) → IsToldInput m t c → single c) → ((c : Cell) → single c → IsToldCell m t c) → AllOldToNew t single m s es → (c : Cell) → IsWrittenOnce m t single c → AllOldToNew t (λ d. d ≡ c) m s es
    made_old_new single told_single single_told old_new c made = go made.cannot_wake_or_clean
      where
        go : ((d : Cell) → CanWake m t single d made.writer → ⊥) ⊎ ((d : Cell) × IsClean m t single made.writer d) → AllOldToNew t (λ d. d ≡ c) m s es
        go (inl not_woken_now) =
            let none = never_evaluated single told_single made.writer made.clocked not_woken_now es s (settled_from_may m t single s step.starts) step.legal old_new in
            let schedules = none_scheduled_all made.writer c made.writes es s step.legal none in
            written_once c (made.told, inr (made.writer, made.writes)) (omega arith)
        go (inr clean) =
            let evaluated = one_evaluation m lawful t single told_single h made.writer clean.0 clean.1 s es step as_told (single_told clean.0 clean.1.is_single) old_new in
            let schedules = one_scheduled made.writer c made.writes (λ v. lawful.once_kept made.writer v c made.once) evaluated.before evaluated.after s (subst (IsLegal m s) evaluated.splits step.legal) evaluated.is_first evaluated.is_last in
            written_once c (made.told, inr (made.writer, made.writes)) (subst (λ (l : List (Event V)). scheduled_all c m s l ≤ 1) (sym evaluated.splits) schedules)

    -- the single cells of each round change from old to new
    single_old_new : (n : ℕ) → AllOldToNew t (IsSingle m t n) m s es
    single_old_new zero = step_old_new m lawful h t s es step as_told
    single_old_new (suc n) =
        join_all_old_new m t (IsToldInput m t) (IsWrittenOnce m t (IsSingle m t n)) es s
        (step_old_new m lawful h t s es step as_told)
        (made_old_new (IsSingle m t n) (told_single m t n) (single_told m t n) (single_old_new n))

module _ {V : Type 0} (m : Machine V) (lawful : IsLawful m) (n : ℕ) (h : Habit) (t : Told V) (k : ToldStep m h t) where
  from_may : ComesFromMayMove m t (IsSingle m t n) k.start
  from_may = settled_from_may m t (IsSingle m t n) k.start k.is_step.starts

  old_new : AllOldToNew t (IsSingle m t n) m k.start k.events
  old_new = single_old_new m lawful t h k.start k.events k.is_step k.as_told n

pub rest_law : {V : Type 0} (m : Machine V) → IsLawful m → RestLaw m
rest_law m lawful n h t k before after e splits c changes =
    rest_at m lawful t (IsSingle m t n) (told_single m t n) before k.start e after c
    (from_may m lawful n h t k)
    (subst (IsLegal m k.start) splits k.is_step.legal)
    (subst (AllOldToNew t (IsSingle m t n) m k.start) splits (old_new m lawful n h t k))
    changes

pub unchanged_law : {V : Type 0} (m : Machine V) → IsLawful m → UnchangedLaw m
unchanged_law m lawful n h t k c never before after splits =
    unchanged_at m lawful t (IsSingle m t n) (told_single m t n) before k.start after c
    (from_may m lawful n h t k)
    (subst (IsLegal m k.start) splits k.is_step.legal)
    (subst (AllOldToNew t (IsSingle m t n) m k.start) splits (old_new m lawful n h t k))
    never

pub no_wake_law : {V : Type 0} (m : Machine V) → IsLawful m → NoWakeLaw m
no_wake_law m lawful n h t k p clocked not_woken_now =
    no_evaluations m p k.events k.start
    (never_evaluated m lawful t (IsSingle m t n) (told_single m t n) p clocked not_woken_now k.events k.start
    (from_may m lawful n h t k)
    k.is_step.legal
    (old_new m lawful n h t k))

pub edge_law : {V : Type 0} (m : Machine V) → IsLawful m → (h : Habit) → EdgeLaw m h
edge_law m lawful h n t k b c clean =
    evaluates_once m lawful t (IsSingle m t n) (told_single m t n) h b c clean k.start k.events k.is_step k.as_told
    (one_evaluation m lawful t (IsSingle m t n) (told_single m t n) h b c clean k.start k.events k.is_step k.as_told
    (single_told m t n c clean.is_single)
    (old_new m lawful n h t k))

-- Nets follow their assignments over a whole run.
use Rattle.std.proofs.Common.{◌≡◌, ◌⊎◌, inl, inr, ℕ, Bool, true, false, if◌then◌else◌, nat_le, List, [], ◌∷◌, sym, subst}
use Rattle.std.proofs.lemmas.Bool.{cases_Bool}
use Rattle.event_machine.specs.Cell.{Cell}
use Rattle.event_machine.specs.Machine.{IsLawful, Machine}
use Rattle.event_machine.specs.State.{State}
use Rattle.event_machine.specs.Event.{end_state}
use Rattle.event_machine.specs.Habit.{Habit}
use Rattle.event_machine.specs.Run.{AreSteps, HasComputed, Timed, state_at, step_start}
use Rattle.event_machine.specs.Laws.{NetLaw}
use Rattle.event_machine.proofs.Settled.{computed_law}

module _ {V : Type 0} (m : Machine V) (lawful : IsLawful m) (h : Habit) (p : ℕ) (c : Cell) (assign : m.is_assign p ≡ true) (target : m.blocking p c ≡ true) where
  computed_on : (xs : List (Timed V)) (now : ℕ) (s : State V) → AreSteps m h now s xs → HasComputed m p c s → (t : ℕ) → HasComputed m p c (state_at m t s xs)
  computed_on [] now s steps computed t = computed
  computed_on (x ∷ xs) now s steps computed t = go (cases_Bool (nat_le x.time t))
      (computed_on xs x.time (step_start (end_state m s x.events)) steps.2 (computed_law m lawful h s x.events steps.1 p c (lawful.assigns_combinational p c assign target) (λ none. computed)) t)
    where
      go : (nat_le x.time t ≡ true) ⊎ (nat_le x.time t ≡ false) → HasComputed m p c (state_at m t (step_start (end_state m s x.events)) xs) → HasComputed m p c (state_at m t s (x ∷ xs))
      go (inl is) later = subst (λ (b : Bool). HasComputed m p c (if b then state_at m t (step_start (end_state m s x.events)) xs else s)) (sym is) later
      go (inr is) later = subst (λ (b : Bool). HasComputed m p c (if b then state_at m t (step_start (end_state m s x.events)) xs else s)) (sym is) computed

pub net_law : {V : Type 0} (m : Machine V) → IsLawful m → NetLaw m
net_law m lawful h now s xs is_run t p c assign target = computed_on m lawful h p c assign target xs now s is_run.steps (is_run.nets p c assign target) t

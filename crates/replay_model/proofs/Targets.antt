-- What a lawful design says of targets, and of what is early for a clean block.
use Rattle.std.proofs.Common.{◌≡◌, ◌≢◌, ◌⊎◌, inl, inr, ⊎_elim, ℕ, true, false, not, ◌&&◌, sym, ap, subst, ◌∙◌}
use Rattle.std.proofs.lemmas.Bool.{and_parts, and_from, both_ways, cases_Bool, false_from_ne_true, or_cases, or_left, or_right}
use Rattle.event_machine.specs.Cell.{Cell}
use Rattle.event_machine.specs.Machine.{IsTarget}
use Rattle.event_machine.specs.Habit.{Habit}
use Rattle.event_machine.specs.MayMove.{MayWake}
use Rattle.event_machine.specs.Early.{of_blocking, of_input, of_nonblocking, of_trigger}
use Rattle.event_machine.specs.Laws.{EarlyLaw}
use Rattle.design_model.specs.Tree.{Process, Stmt, assign, clocked, comb}
use Rattle.design_model.specs.Design.{Design, IsAssign, IsClocked, IsComb, body_at, process_at, signal_at}
use Rattle.design_model.specs.Mentions.{blocking_target, body_assigns, body_blocks, body_queues, may_write, nonblocking_target, target_names}
use Rattle.design_model.specs.Machine.{machine}
use Rattle.design_model.specs.Shows.{BoundDump}
use Rattle.design_model.specs.MayMove.{IsCleanAt, IsSingleAt, MayMoveAt, told_at}
use Rattle.design_model.specs.Early.{IsEarlyAt}
use Rattle.design_model.specs.Lawful.{IsLawfulDesign}
use Rattle.design_model.proofs.Lawful.{any_weaker, assign_or, assigns_any, names_from}
use Rattle.design_model.proofs.Sound.{no_level}
use Rattle.replay_model.specs.Step.{is_target}

-- a process is a Clocked or not
pub clocked_or : (x : Process) → IsClocked x ⊎ (IsClocked x → ⊥)
clocked_or (assign i t v c) = inr (λ h. h)
clocked_or (comb i wakes s) = inr (λ h. h)
clocked_or (clocked i events s) = inl tt

pub comb_or : (x : Process) → IsComb x ⊎ (IsComb x → ⊥)
comb_or (assign i t v c) = inr (λ h. h)
comb_or (comb i wakes s) = inl tt
comb_or (clocked i events s) = inr (λ h. h)

pub clocked_not_assign : (x : Process) → IsClocked x → IsAssign x → ⊥
clocked_not_assign (assign i t v c) h a = h
clocked_not_assign (comb i wakes s) h a = h
clocked_not_assign (clocked i events s) h a = a

pub is_target-from : (d : Design) (p : ℕ) (c : Cell) → is_target d p c ≡ true → IsTarget (machine d) p c
is_target-from d p c e = or_cases _ _ e

pub is_target-of : (d : Design) (p : ℕ) (c : Cell) → IsTarget (machine d) p c → is_target d p c ≡ true
is_target-of d p c (inl e) = or_left _ _ e
is_target-of d p c (inr e) = or_right (blocking_target d (body_at d p) c) _ e

pub target_or : (d : Design) (p : ℕ) (c : Cell) → IsTarget (machine d) p c ⊎ (IsTarget (machine d) p c → ⊥)
target_or d p c = go (cases_Bool (is_target d p c))
  where
    go : (is_target d p c ≡ true) ⊎ (is_target d p c ≡ false) → IsTarget (machine d) p c ⊎ (IsTarget (machine d) p c → ⊥)
    go (inl e) = inl (is_target-from d p c e)
    go (inr e) = inr (λ h. both_ways _ e (is_target-of d p c h))

-- a cell that may be written by a blocking assignment is of a thing that one names
pub blocks_from : (d : Design) (p : ℕ) (c : Cell) → (machine d).blocking p c ≡ true → body_blocks c.thing (body_at d p) ≡ true
blocks_from d p c e = any_weaker (λ b x t. b && may_write d x c) (λ b x t. b && target_names c.thing x) (λ b x t h. let z = and_parts b _ h in and_from b _ z.0 (names_from d x c z.1)) (body_at d p) e

pub queues_from : (d : Design) (p : ℕ) (c : Cell) → (machine d).nonblocking p c ≡ true → body_queues c.thing (body_at d p) ≡ true
queues_from d p c e = any_weaker (λ b x t. not b && may_write d x c) (λ b x t. not b && target_names c.thing x) (λ b x t h. let z = and_parts (not b) _ h in and_from (not b) _ z.0 (names_from d x c z.1)) (body_at d p) e

pub not_blocking : (d : Design) (p : ℕ) (c : Cell) → body_blocks c.thing (body_at d p) ≡ false → blocking_target d (body_at d p) c ≡ false
not_blocking d p c e = false_from_ne_true _ (λ h. both_ways _ e (blocks_from d p c h))

pub not_queueing : (d : Design) (p : ℕ) (c : Cell) → body_queues c.thing (body_at d p) ≡ false → nonblocking_target d (body_at d p) c ≡ false
not_queueing d p c e = false_from_ne_true _ (λ h. both_ways _ e (queues_from d p c h))

-- a thing that the body blocks or queues it assigns
pub blocks_assigns : (x : ℕ) (b : Stmt) → body_blocks x b ≡ true → body_assigns x b ≡ true
blocks_assigns x b e = any_weaker (λ k y t. k && target_names x y) (λ k y t. target_names x y) (λ k y t h. (and_parts k _ h).1) b e

pub queues_assigns : (x : ℕ) (b : Stmt) → body_queues x b ≡ true → body_assigns x b ≡ true
queues_assigns x b e = any_weaker (λ k y t. not k && target_names x y) (λ k y t. target_names x y) (λ k y t h. (and_parts (not k) _ h).1) b e

module _ (d : Design) (lawful : IsLawfulDesign d) where
  -- what a Clocked assigns no other process does
  pub one_assigner : (p q x : ℕ) → IsClocked (process_at d p) → body_assigns x (body_at d p) ≡ true → body_assigns x (body_at d q) ≡ true → q ≡ p
  one_assigner p q x is mine theirs =
      ⊎_elim (λ a. absurd (clocked_not_assign (process_at d p) is (lawful.apart q p x a theirs mine))) (λ n. lawful.one_writer q p x n (clocked_not_assign (process_at d p) is) theirs mine) (assign_or (process_at d q))

  pub target_assigns : (p : ℕ) (c : Cell) → IsTarget (machine d) p c → body_assigns c.thing (body_at d p) ≡ true
  target_assigns p c target = assigns_any d (body_at d p) c target

  -- an input is assigned by none
  pub input_unassigned : (p x : ℕ) → (signal_at d x).input ≡ true → body_assigns x (body_at d p) ≡ true → ⊥
  input_unassigned p x input mine = both_ways _ (lawful.no_input p x mine) input

  pub blocks_not_queues : (p q x : ℕ) → body_blocks x (body_at d p) ≡ true → body_queues x (body_at d q) ≡ false
  blocks_not_queues p q x mine = false_from_ne_true _ (λ e. lawful.not_both p q x mine e)

  module _ (h : Habit) (dump : BoundDump) (t : ℕ) (early_law : EarlyLaw (machine d)) where
    -- what is early is not of the trigger
    pub early_apart : (p : ℕ) (c : Cell) (x : ℕ) → IsEarlyAt d h dump t p c x → x ≢ c.thing
    early_apart p c x (of_input b moving free apart) = apart
    early_apart p c x (of_trigger q b wakes other blocking apart) = apart
    early_apart p c x (of_blocking y q b early wakes other blocking apart) = apart
    early_apart p c x (of_nonblocking y q b early wakes queued apart) = apart

    -- what a clean block assigns is not early for it
    pub own_not_early : (p : ℕ) (c : Cell) → IsClocked (process_at d p) → IsCleanAt d dump t p c → (x : ℕ) → body_assigns x (body_at d p) ≡ true → IsEarlyAt d h dump t p c x → ⊥
    own_not_early p c is clean x mine (of_input b moving free apart) = input_unassigned p x (and_parts (signal_at d x).input _ moving.0).0 mine
    own_not_early p c is clean x mine (of_trigger q b wakes other blocking apart) = other (one_assigner p q x is mine (target_assigns q b (inl blocking)))
    own_not_early p c is clean x mine (of_blocking y q b early wakes other blocking apart) = other (one_assigner p q x is mine (target_assigns q b (inl blocking)))
    own_not_early p c is clean x mine (of_nonblocking y q b early wakes queued apart) = woken (subst (λ z. MayWake (machine d) (told_at dump t) (IsSingleAt d dump t) y z) (one_assigner p q x is mine (target_assigns q b (inr queued))) wakes)
      where
        woken : MayWake (machine d) (told_at dump t) (IsSingleAt d dump t) y p → ⊥
        woken (inl level) = both_ways _ (no_level (process_at d p) is y) level
        woken (inr k) = early_apart p c y early (sym k.1 ∙ ap (λ z. z.thing) (clean.alone k.0 (k.2, subst (MayMoveAt d dump t) (sym k.1) (early_law (dump.round t) (told_at dump t) h p c clean y early))))

-- The runs of bodies write, and queue writes to, cells of the design alone.
use Rattle.std.proofs.Common.{◌≡◌, ℕ, Bool, true, false, List, [], ◌∷◌, Option, Some, None, if◌then◌else◌, refl, ap, ap₂, ◌∙◌}
use Rattle.std.specs.List.{All}
use Rattle.std.proofs.lemmas.List.Elements.{All-cons, All-head, All-nil, All-push, All-tail}
use Rattle.body_replay.specs.event_machine.Cell.{Cell}
use Rattle.body_replay.specs.known_state.Join.{join_bit}
use Rattle.design_model.specs.four_state.declared.bit.Bit.{Bit}
use Rattle.design_model.specs.Design.{Design, body_at}
use Rattle.design_model.specs.Lawful.{IsLawfulDesign}
use Rattle.design_model.specs.Shape.{is_target}
use Rattle.design_model.specs.Tree.{Arms, Stmt, Stmts, Target, Term, a_stmt, arm, block, branch, empty, no_arms, no_stmts, select, set, turns}
use Rattle.design_model.proofs.BodyLaws.{each_target}
use Rattle.design_model.proofs.Execution.{EachSet, EachSetIn, EachSetOf, each_gives}
use Rattle.body_replay.specs.Contract.{Certainty, Store, clean, perhaps, quiet, read_of, shown_of, unread, weak, weak_queue, weak_queue_in, weak_queue_of, weak_set, weak_writes, weak_writes_in, weak_writes_of}
use Rattle.body_replay.specs.Replay.{Mode, State, clean_run, flush, queued, run_set, set_known, started}
use Rattle.body_replay.specs.Runs.{StoreView, own_store, runs_of}
use Rattle.body_replay.specs.Store.{Kept, KnownWrite, keep_all, known_writes, set_bits}
use Rattle.body_replay.proofs.Frames.{join_self}
use Rattle.body_replay.proofs.Induction.{Closed, run_holds}
use Rattle.run_cells.specs.Cells.{AreInside, QueueInsideLaw, RunsInsideLaw}
use Rattle.run_cells.proofs.Writes.{IsOf, inside_both, inside_kept, inside_weak, target_inside}

-- each assignment of the body is to a target of the design
abbrev HasTargets : Design → Stmt → Type 0
HasTargets d s = EachSet (λ n b x t. is_target d x ≡ true) s

flush_inside : (d : Design) (qs : List (List KnownWrite)) (k : Kept) (c : Cell) → All (AreInside d) qs → (IsOf d c → ⊥) → flush k qs c ≡ k c
flush_inside d [] k c inside outside = refl
flush_inside d (q ∷ qs) k c inside outside = flush_inside d qs (keep_all k q) c (All-tail (AreInside d) q qs inside) outside ∙ inside_kept d q k c (All-head (AreInside d) q qs inside) outside

-- ---- the weak way

module _ (d : Design) where
  weak_set_inside : (x : Target) (t : Term) → is_target d x ≡ true → AreInside d (weak_set d x t)
  weak_set_inside x t is = inside_weak d (known_writes d unread x (set_bits d unread x t)) (target_inside d unread x (set_bits d unread x t) is)

  either_inside : (b : Bool) (ws vs : List KnownWrite) → AreInside d ws → AreInside d vs → AreInside d (if b then ws else vs)
  either_inside true ws vs h k = h
  either_inside false ws vs h k = k

  none_inside : AreInside d []
  none_inside = All-nil (λ w. IsOf d w.cell)

  mutual
    weak_inside : (s : Stmt) → HasTargets d s → AreInside d (weak_writes d s)
    weak_inside (block p ss) e = all_weak_inside ss e
    weak_inside (branch p n t s other) e = inside_both d (weak_writes d s) (weak_writes_of d other) (weak_inside s e.0) (all_weak_inside other e.1)
    weak_inside (select p n kind t arms) e = arms_weak_inside arms e
    weak_inside (turns p n ss) e = all_weak_inside ss e
    weak_inside (set p n b x t) e = either_inside b (weak_set d x t) [] (weak_set_inside x t e) none_inside
    weak_inside (empty p) e = none_inside

    all_weak_inside : (ss : Stmts) → EachSetOf (λ n b x t. is_target d x ≡ true) ss → AreInside d (weak_writes_of d ss)
    all_weak_inside no_stmts e = none_inside
    all_weak_inside (a_stmt s ss) e = inside_both d (weak_writes d s) (weak_writes_of d ss) (weak_inside s e.0) (all_weak_inside ss e.1)

    arms_weak_inside : (arms : Arms) → EachSetIn (λ n b x t. is_target d x ≡ true) arms → AreInside d (weak_writes_in d arms)
    arms_weak_inside no_arms e = none_inside
    arms_weak_inside (arm labels s arms) e = inside_both d (weak_writes d s) (weak_writes_in d arms) (weak_inside s e.0) (arms_weak_inside arms e.1)

  mutual
    queue_inside : (s : Stmt) → HasTargets d s → AreInside d (weak_queue d s)
    queue_inside (block p ss) e = all_queue_inside ss e
    queue_inside (branch p n t s other) e = inside_both d (weak_queue d s) (weak_queue_of d other) (queue_inside s e.0) (all_queue_inside other e.1)
    queue_inside (select p n kind t arms) e = arms_queue_inside arms e
    queue_inside (turns p n ss) e = all_queue_inside ss e
    queue_inside (set p n b x t) e = either_inside b [] (weak_set d x t) none_inside (weak_set_inside x t e)
    queue_inside (empty p) e = none_inside

    all_queue_inside : (ss : Stmts) → EachSetOf (λ n b x t. is_target d x ≡ true) ss → AreInside d (weak_queue_of d ss)
    all_queue_inside no_stmts e = none_inside
    all_queue_inside (a_stmt s ss) e = inside_both d (weak_queue d s) (weak_queue_of d ss) (queue_inside s e.0) (all_queue_inside ss e.1)

    arms_queue_inside : (arms : Arms) → EachSetIn (λ n b x t. is_target d x ≡ true) arms → AreInside d (weak_queue_in d arms)
    arms_queue_inside no_arms e = none_inside
    arms_queue_inside (arm labels s arms) e = inside_both d (weak_queue d s) (weak_queue_in d arms) (queue_inside s e.0) (arms_queue_inside arms e.1)

-- ---- the other ways

module _ (d : Design) where
  -- all that is queued so far are writes to cells of the design
  abbrev AreQueued : State → Type 0
  AreQueued a = All (AreInside d) a.queue

  queued_closed : Closed d AreQueued
  queued_closed = record { mark = λ a first ms h. h; anew = λ a left h k. k; join = λ test left right h k. k }

  set_queued : (n : ℕ) (b : Bool) (x : Target) (t : Term) → is_target d x ≡ true → (mode : Mode) (a : State) → AreQueued a → AreQueued (run_set d mode n b x t a)
  set_queued n true x t is mode a h = h
  set_queued n false x t is mode a h = All-push (AreInside d) a.queue (queued mode (set_known d x t a)) h (go mode)
    where
      go : (mode : Mode) → AreInside d (queued mode (set_known d x t a))
      go None = target_inside d a.kept x (set_bits d a.kept x t) is
      go (Some blame) = inside_weak d (set_known d x t a) (target_inside d a.kept x (set_bits d a.kept x t) is)

  strong_queued : (s : Stmt) (st : Store) → HasTargets d s → All (AreInside d) (clean_run d s (shown_of st)).queue
  strong_queued s st targets = run_holds d AreQueued queued_closed s (each_gives (λ n b x t is. set_queued n b x t is) s targets) None (started (shown_of st)) (All-nil (AreInside d))

module _ (d : Design) (c : Cell) (outside : IsOf d c → ⊥) where
  -- what such a run has kept so far of a cell that is not of the design
  abbrev IsKept : Option Bit → State → Type 0
  IsKept old a = a.kept c ≡ old

  kept_closed : (old : Option Bit) → Closed d (IsKept old)
  kept_closed old = record { mark = λ a first ms h. h; anew = λ a left h k. h; join = λ test left right h k. ap₂ join_bit h k ∙ join_self old }

  set_kept : (old : Option Bit) (n : ℕ) (b : Bool) (x : Target) (t : Term) → is_target d x ≡ true → (mode : Mode) (a : State) → IsKept old a → IsKept old (run_set d mode n b x t a)
  set_kept old n true x t is mode a h = inside_kept d (set_known d x t a) a.kept c (target_inside d a.kept x (set_bits d a.kept x t) is) outside ∙ h
  set_kept old n false x t is mode a h = h

  strong_kept : (s : Stmt) (st : Store) → HasTargets d s → (if st.hidden c.thing then st.kept c else (clean_run d s (shown_of st)).kept c) ≡ st.kept c
  strong_kept s st targets =
      go (st.hidden c.thing) refl (run_holds d (IsKept (read_of st c)) (kept_closed (read_of st c)) s (each_gives (λ n b x t is. set_kept (read_of st c) n b x t is) s targets) None (started (shown_of st)) refl)
    where
      go : (t : Bool) → st.hidden c.thing ≡ t → (clean_run d s (shown_of st)).kept c ≡ (if st.hidden c.thing then st.shown c else st.kept c) → (if t then st.kept c else (clean_run d s (shown_of st)).kept c) ≡ st.kept c
      go true q h = refl
      go false q h = h ∙ ap (λ z. if z then st.shown c else st.kept c) q

module _ (d : Design) (lawful : IsLawfulDesign d) (p : ℕ) where
  targets : HasTargets d (body_at d p)
  targets = each_target d (body_at d p) (lawful.bodies p)

  kept_inside : (c : Cell) → (IsOf d c → ⊥) → (x : StoreView) (how : Certainty) → (runs_of d p x how).kept c ≡ x.kept c
  kept_inside c outside x (clean time) = strong_kept d c outside (body_at d p) (own_store x) targets
  kept_inside c outside x quiet = strong_kept d c outside (body_at d p) (own_store x) targets
  kept_inside c outside x (perhaps time thing) = strong_kept d c outside (body_at d p) (own_store x) targets
  kept_inside c outside x (weak time thing) = inside_kept d (weak_writes d (body_at d p)) x.kept c (weak_inside d (body_at d p) targets) outside

  run_queue : (x : StoreView) (how : Certainty) → All (AreInside d) (runs_of d p x how).queue
  run_queue x (clean time) = strong_queued d (body_at d p) (own_store x) targets
  run_queue x quiet = strong_queued d (body_at d p) (own_store x) targets
  run_queue x (perhaps time thing) = strong_queued d (body_at d p) (own_store x) targets
  run_queue x (weak time thing) = All-cons (AreInside d) (weak_queue d (body_at d p)) [] (queue_inside d (body_at d p) targets) (All-nil (AreInside d))

pub runs_inside : RunsInsideLaw
runs_inside d lawful p c outside = record {
  kept = λ x how. kept_inside d lawful p c outside x how;
  queue = λ x how k. flush_inside d (runs_of d p x how).queue k c (run_queue d lawful p x how) outside;
}

pub queues_inside : QueueInsideLaw
queues_inside d lawful p x how = run_queue d lawful p x how

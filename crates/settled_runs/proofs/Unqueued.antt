-- A body without nonblocking assignments queues nothing.
use Rattle.std.proofs.Common.{◌≡◌, ℕ, Bool, true, false, not, List, [], ◌++◌, None, refl, ap, ap₂, arith}
use Rattle.std.proofs.lemmas.Bool.{false≢true, or_parts, true≢false}
use Rattle.design_model.specs.Design.{Design, IsClocked, body, body_at, process_at}
use Rattle.design_model.specs.Lawful.{IsLawfulDesign, target_once}
use Rattle.design_model.specs.Mentions.{any_set, any_set_in, any_set_of}
use Rattle.design_model.specs.Tree.{Arms, Process, Stmt, Stmts, Target, Term, a_stmt, arm, assign, block, branch, clocked, comb, empty, no_arms, no_stmts, select, set, turns}
use Rattle.design_model.proofs.Execution.{each_fails, each_gives}
use Rattle.body_replay.specs.Contract.{Certainty, Store, clean, outcome, perhaps, quiet, shown_of, weak, weak_queue, weak_queue_in, weak_queue_of}
use Rattle.body_replay.specs.Replay.{Mode, State, clean_run, run_set, started}
use Rattle.body_replay.proofs.Induction.{Closed, run_holds}
use Rattle.block_runs.specs.assignments.Takes.{set_queues}
use Rattle.store_knowledge.specs.open_tests.Weights.{queues, weigh_all, weigh_arms}
use Rattle.store_knowledge.specs.scene_laws.At.{flat}

-- the assignment is a nonblocking one
abbrev pub is_queued : Bool → Target → Term → Bool
is_queued blocking x t = not blocking

-- ---- an Assign or Comb has no nonblocking assignments

none_of : (b : Bool) → not b ≡ true → b ≡ false
none_of true h = absurd (false≢true h)
none_of false h = refl

process_unqueued : (d : Design) (p : Process) → (IsClocked p → ⊥) → target_once p d ≡ true → any_set is_queued (body p) ≡ false
process_unqueued d (assign i y t counted) settles once = refl
process_unqueued d (comb i wakes s) settles once = none_of (any_set (λ k y t. not k) s) once
process_unqueued d (clocked i events s) settles once = absurd (settles tt)

pub is_unqueued : (d : Design) (p : ℕ) → IsLawfulDesign d → (IsClocked (process_at d p) → ⊥) → any_set is_queued (body_at d p) ≡ false
is_unqueued d p lawful settles = process_unqueued d (process_at d p) settles (lawful.targets p)

-- ---- a run that evaluates the body

module _ (d : Design) where
  abbrev IsEmpty : State → Type 0
  IsEmpty a = a.queue ≡ []

  empty_closed : Closed d IsEmpty
  empty_closed = record { mark = λ a first ms h. h; anew = λ a left h k. k; join = λ test left right h k. k }

  set_empty : (n : ℕ) (k : Bool) (x : Target) (t : Term) → is_queued k x t ≡ false → (mode : Mode) (a : State) → IsEmpty a → IsEmpty (run_set d mode n k x t a)
  set_empty n true x t e mode a h = h
  set_empty n false x t e mode a h = absurd (true≢false e)

  strong_empty : (s : Stmt) (st : Store) → any_set is_queued s ≡ false → (clean_run d s (shown_of st)).queue ≡ []
  strong_empty s st e = run_holds d IsEmpty empty_closed s (each_gives (λ n k x t f. set_empty n k x t f) s (each_fails is_queued s e)) None (started (shown_of st)) refl

  -- ---- one that does not

  append_none : {A : Type 0} (xs ys : List A) → xs ≡ [] → ys ≡ [] → xs ++ ys ≡ []
  append_none xs ys a b = ap₂ (λ us vs. us ++ vs) a b

  mutual
    weak_empty : (s : Stmt) → any_set is_queued s ≡ false → weak_queue d s ≡ []
    weak_empty (block p ss) e = all_weak_empty ss e
    weak_empty (branch p n t s other) e =
        let h = or_parts (any_set is_queued s) (any_set_of is_queued other) e in
        append_none (weak_queue d s) (weak_queue_of d other) (weak_empty s h.0) (all_weak_empty other h.1)
    weak_empty (select p n kind t arms) e = arms_weak_empty arms e
    weak_empty (turns p n ss) e = all_weak_empty ss e
    weak_empty (set p n true x t) e = refl
    weak_empty (set p n false x t) e = absurd (true≢false e)
    weak_empty (empty p) e = refl

    all_weak_empty : (ss : Stmts) → any_set_of is_queued ss ≡ false → weak_queue_of d ss ≡ []
    all_weak_empty no_stmts e = refl
    all_weak_empty (a_stmt s ss) e =
        let h = or_parts (any_set is_queued s) (any_set_of is_queued ss) e in
        append_none (weak_queue d s) (weak_queue_of d ss) (weak_empty s h.0) (all_weak_empty ss h.1)

    arms_weak_empty : (arms : Arms) → any_set_in is_queued arms ≡ false → weak_queue_in d arms ≡ []
    arms_weak_empty no_arms e = refl
    arms_weak_empty (arm labels s arms) e =
        let h = or_parts (any_set is_queued s) (any_set_in is_queued arms) e in
        append_none (weak_queue d s) (weak_queue_in d arms) (weak_empty s h.0) (arms_weak_empty arms h.1)

  pub run_empty : (s : Stmt) (st : Store) (how : Certainty) → any_set is_queued s ≡ false → flat (outcome d s st how).queue ≡ []
  run_empty s st (clean time) e = ap flat (strong_empty s st e)
  run_empty s st quiet e = ap flat (strong_empty s st e)
  run_empty s st (perhaps time thing) e = ap flat (strong_empty s st e)
  run_empty s st (weak time thing) e = ap (λ ws. ws ++ []) (weak_empty s e)

-- ---- the room that it takes

mutual
  pub takes_none : (s : Stmt) → any_set is_queued s ≡ false → queues s ≡ 0
  takes_none (block p ss) e = all_take_none ss e
  takes_none (branch p n t s other) e =
      let h = or_parts (any_set is_queued s) (any_set_of is_queued other) e in
      let first = takes_none s h.0 in
      let rest = all_take_none other h.1 in
      omega (arith, first, rest)
  takes_none (select p n kind t arms) e = arms_take_none arms e
  takes_none (turns p n ss) e = all_take_none ss e
  takes_none (set p n true x t) e = refl
  takes_none (set p n false x t) e = absurd (true≢false e)
  takes_none (empty p) e = refl

  all_take_none : (ss : Stmts) → any_set_of is_queued ss ≡ false → weigh_all 0 set_queues set_queues ss ≡ 0
  all_take_none no_stmts e = refl
  all_take_none (a_stmt s ss) e =
      let h = or_parts (any_set is_queued s) (any_set_of is_queued ss) e in
      let first = takes_none s h.0 in
      let rest = all_take_none ss h.1 in
      omega (arith, first, rest)

  arms_take_none : (arms : Arms) → any_set_in is_queued arms ≡ false → weigh_arms 0 set_queues arms ≡ 0
  arms_take_none no_arms e = refl
  arms_take_none (arm labels s arms) e =
      let h = or_parts (any_set is_queued s) (any_set_in is_queued arms) e in
      let first = takes_none s h.0 in
      let rest = arms_take_none arms h.1 in
      omega (arith, first, rest)

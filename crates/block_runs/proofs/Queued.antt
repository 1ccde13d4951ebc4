-- What was queued before a run stays before what the run queues.
use Rattle.std.proofs.Common.{Bool, List, None, Option, Some, [], append_assoc, ap, false, if◌then◌else◌, refl, true, ℕ, ◌++◌, ◌∙◌, ◌∷◌, ◌≡◌}
use Rattle.four_state.specs.declared.operator.CaseKind.{CaseKind}
use Rattle.design_model.specs.Design.{Design}
use Rattle.design_model.specs.Execution.{is_default}
use Rattle.design_model.specs.Tree.{Arms, Stmt, Stmts, Target, Term, a_stmt, arm, block, branch, empty, no_arms, no_stmts, select, set, turns}
use Rattle.body_replay.specs.KnownBits.{KnownBits, holds, known_truth}
use Rattle.body_replay.specs.Store.{KnownWrite, known_value}
use Rattle.body_replay.specs.Replay.{Mode, State, again, blame_of, decide, deeper, evaluate_known, joined_states, labels_blame, labels_match, queued, reach, run, run_all, run_arms, run_default, run_set, see_labels, set_known, visit_set}

-- the same state with these writes queued before
abbrev pub after_queue : List (List KnownWrite) → State → State
after_queue q a = record a { queue = q ++ a.queue }

module _ (d : Design) (q : List (List KnownWrite)) where
  -- the step leaves what was queued before
  abbrev Passes : (State → State) → Type 0
  Passes f = (a : State) → f (after_queue q a) ≡ after_queue q (f a)

  set_passes : (mode : Mode) (n : ℕ) (b : Bool) (x : Target) (t : Term) → Passes (run_set d mode n b x t)
  set_passes mode n true x t a = refl
  set_passes mode n false x t a = ap (λ z. record (visit_set d mode n x t a) { queue = z }) (append_assoc q a.queue (queued mode (set_known d x t a) ∷ []))

  decide_passes : (mode : Mode) (test : ℕ) (f g : Mode → State → State) → ((m : Mode) → Passes (f m)) → ((m : Mode) → Passes (g m)) → (o : Option Bool) → Passes (decide d mode test f g o)
  decide_passes mode test f g hf hg (Some true) a = hf mode a
  decide_passes mode test f g hf hg (Some false) a = hg mode a
  decide_passes mode test f g hf hg None a =
      let left : State = f (deeper mode test) a in
      ap (λ l. joined_states d test l (g (deeper mode test) (again (after_queue q a) l))) (hf (deeper mode test) a)
      ∙ ap (λ r. joined_states d test (after_queue q left) r) (hg (deeper mode test) (again a left))

  mutual
    pub run_passes : (s : Stmt) (mode : Mode) → Passes (run d s mode)
    run_passes (block p ss) mode a = all_pass ss mode a
    run_passes (branch p n t s other) mode a =
        let r : State = reach mode n a in
        decide_passes mode (blame_of d r.kept r.blames r.first t) (run d s) (run_all d other) (run_passes s) (all_pass other) (holds (known_truth (known_value d r.kept t))) (evaluate_known d mode t r)
    run_passes (select p n kind t arms) mode a =
        let r : State = reach mode n a in
        arms_pass kind (known_value d r.kept t) (blame_of d r.kept r.blames r.first t) arms (run_default d arms) (default_passes arms) mode (evaluate_known d mode t r)
    run_passes (turns p n ss) mode a = all_pass ss mode (reach mode n a)
    run_passes (set p n b x t) mode a = set_passes mode n b x t a
    run_passes (empty p) mode a = refl

    all_pass : (ss : Stmts) (mode : Mode) → Passes (run_all d ss mode)
    all_pass no_stmts mode a = refl
    all_pass (a_stmt s ss) mode a = ap (run_all d ss mode) (run_passes s mode a) ∙ all_pass ss mode (run d s mode a)

    arms_pass : (kind : CaseKind) (on : KnownBits) (on_blame : ℕ) (arms : Arms) (otherwise : Mode → State → State) → ((m : Mode) → Passes (otherwise m)) → (mode : Mode) → Passes (run_arms d kind on on_blame arms otherwise mode)
    arms_pass kind on on_blame no_arms otherwise o mode a = o mode a
    arms_pass kind on on_blame (arm labels s arms) otherwise o mode a =
        decide_passes mode (labels_blame d kind on on_blame a.kept a.blames a.first labels) (run d s) (run_arms d kind on on_blame arms otherwise) (run_passes s) (arms_pass kind on on_blame arms otherwise o) (labels_match d kind on a.kept labels) (see_labels d mode kind on on_blame labels a)

    default_passes : (arms : Arms) (mode : Mode) → Passes (run_default d arms mode)
    default_passes no_arms mode a = refl
    default_passes (arm labels s arms) mode a = go (is_default labels) (run_passes s mode a) (default_passes arms mode a)
      where
        go : (t : Bool) → run d s mode (after_queue q a) ≡ after_queue q (run d s mode a) → run_default d arms mode (after_queue q a) ≡ after_queue q (run_default d arms mode a) → (if t then run d s mode (after_queue q a) else run_default d arms mode (after_queue q a)) ≡ after_queue q (if t then run d s mode a else run_default d arms mode a)
        go true x y = x
        go false x y = y

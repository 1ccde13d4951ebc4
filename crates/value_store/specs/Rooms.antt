-- How many updates the bodies of a design can queue between two flushes, and how much a run of one can log.
use Rattle.std.specs.Prelude.{ℕ, ◌+◌, ◌-◌, ◌^◌, min, max, nat_lt, Bool, true, false, ◌&&◌, List, [], ◌∷◌, if◌then◌else◌, length}
use Rattle.body_replay.specs.cov_host.declared.place.Place.{Place}
use Rattle.design_model.specs.Tree as t
use Rattle.design_model.specs.Tree.{Arms, Process, Stmt, Stmts, Target, Targets, a_stmt, a_target, all_of, arm, assign, bits_of, block, branch, clocked, comb, empty, no_arms, no_stmts, no_targets, select, set, several, turns, word_of}
use Rattle.design_model.specs.Design.{Design, body, memory_at}
use Rattle.design_model.specs.Lawful.{span}
use Rattle.design_model.specs.View.{Arm, arm_step, stmt_form_step, stmt_step}
use Rattle.design_model.specs.declared.tree.CaseArm.{CaseArm, fold-CaseArm}

-- a target's signals, parts and words
abbrev mutual
  pub target_parts : Target → ℕ
  target_parts (all_of s) = 1
  target_parts (bits_of s low w) = 1
  target_parts (word_of m i) = 1
  target_parts (several ts) = all_parts ts

  pub all_parts : Targets → ℕ
  all_parts no_targets = 0
  all_parts (a_target t ts) = target_parts t + all_parts ts

-- those of the nonblocking assignments of a statement
abbrev mutual
  pub queued_parts : Stmt → ℕ
  queued_parts (block p ss) = all_queued ss
  queued_parts (branch p n t s other) = queued_parts s + all_queued other
  queued_parts (select p n kind t arms) = arms_queued arms
  queued_parts (turns p n ss) = all_queued ss
  queued_parts (set p n blocking x t) = if blocking then 0 else target_parts x
  queued_parts (empty p) = 0

  pub all_queued : Stmts → ℕ
  all_queued no_stmts = 0
  all_queued (a_stmt s ss) = queued_parts s + all_queued ss

  pub arms_queued : Arms → ℕ
  arms_queued no_arms = 0
  arms_queued (arm labels s arms) = queued_parts s + arms_queued arms

-- those of the bodies of processes
abbrev pub processes_queued : List Process → ℕ
processes_queued [] = 0
processes_queued (p ∷ ps) = queued_parts (body p) + processes_queued ps

-- how many places of the log of undecided tests a write inside of such a test takes: one where it is of a signal, and one more than
-- there are words where it is of a memory
abbrev pub log_takes : Design → ℕ → ℕ
log_takes d y = if nat_lt y (length d.signals) then 1 else span (memory_at d y).first (memory_at d y).last + 1

-- the sum of what a write of the signal or memory of each part takes
abbrev mutual
  pub target_takes : (ℕ → ℕ) → Target → ℕ
  target_takes takes (all_of s) = takes s
  target_takes takes (bits_of s low w) = takes s
  target_takes takes (word_of m i) = takes m
  target_takes takes (several ts) = all_take takes ts

  pub all_take : (ℕ → ℕ) → Targets → ℕ
  all_take takes no_targets = 0
  all_take takes (a_target t ts) = target_takes takes t + all_take takes ts

-- how many places of the log a run of a statement takes, outside or inside of undecided tests: one for each test, and what the parts
-- of each blocking assignment inside of one take
abbrev mutual
  pub logged : (ℕ → ℕ) → Bool → Stmt → ℕ
  logged takes inside (block p ss) = all_logged takes inside ss
  logged takes inside (branch p n t s other) = 1 + logged takes true s + all_logged takes true other
  logged takes inside (select p n kind t arms) = arms_logged takes arms
  logged takes inside (turns p n ss) = all_logged takes inside ss
  logged takes inside (set p n blocking x t) = if blocking && inside then target_takes takes x else 0
  logged takes inside (empty p) = 0

  pub all_logged : (ℕ → ℕ) → Bool → Stmts → ℕ
  all_logged takes inside no_stmts = 0
  all_logged takes inside (a_stmt s ss) = logged takes inside s + all_logged takes inside ss

  pub arms_logged : (ℕ → ℕ) → Arms → ℕ
  arms_logged takes no_arms = 0
  arms_logged takes (arm labels s arms) = 1 + logged takes true s + arms_logged takes arms

-- what a run of any of these bodies takes at most
abbrev pub most_logged : (ℕ → ℕ) → List Process → ℕ
most_logged takes [] = 0
most_logged takes (p ∷ ps) = max (logged takes false (body p)) (most_logged takes ps)

-- a number as a `usize` has it: the greatest one represents all that are greater
abbrev pub as_usize : ℕ → ℕ
as_usize n = min n (2 ^ 64 - 1)

-- the plain arm
abbrev pub arm_view : CaseArm → Arm
arm_view = fold-CaseArm (Place → t.Stmt) Arm t.Stmt stmt_form_step arm_step stmt_step

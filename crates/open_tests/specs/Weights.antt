-- How much of the log and of the queue the run of a body takes at most, by its text.
use Rattle.std.specs.Prelude.{◌+◌, ℕ, Bool, List, if◌then◌else◌}
use Rattle.assignments.specs.design_model.Tree.{Arms, Stmt, Stmts, Target, Terms, a_stmt, arm, block, branch, empty, no_arms, no_stmts, select, set, turns}
use Rattle.assignments.specs.design_model.Execution.{is_default}
use Rattle.assignments.specs.body_calls.Rooms.{Leaves, Rooms, takes_in}
use Rattle.assignments.specs.body_calls.Ways.{Around}
use Rattle.assignments.specs.Takes.{HasRoom, set_logs, set_queues}

-- the weight of the assignments of a statement, outside and inside of its tests, and of each test the same
abbrev mutual
  pub weigh : ℕ → (Bool → Target → ℕ) → (Bool → Target → ℕ) → Stmt → ℕ
  weigh test outside inside (block p ss) = weigh_all test outside inside ss
  weigh test outside inside (branch p n t s other) = test + weigh test inside inside s + weigh_all test inside inside other
  weigh test outside inside (select p n kind t arms) = weigh_arms test inside arms
  weigh test outside inside (turns p n ss) = weigh_all test outside inside ss
  weigh test outside inside (set p n blocking x t) = outside blocking x
  weigh test outside inside (empty p) = 0

  pub weigh_all : ℕ → (Bool → Target → ℕ) → (Bool → Target → ℕ) → Stmts → ℕ
  weigh_all test outside inside no_stmts = 0
  weigh_all test outside inside (a_stmt s ss) = weigh test outside inside s + weigh_all test outside inside ss

  pub weigh_arms : ℕ → (Bool → Target → ℕ) → Arms → ℕ
  weigh_arms test inside no_arms = 0
  weigh_arms test inside (arm labels s arms) = test + weigh test inside inside s + weigh_arms test inside arms

-- the weight of the arms that have labels
abbrev pub weigh_labelled : ℕ → (Bool → Target → ℕ) → Arms → ℕ
weigh_labelled test inside no_arms = 0
weigh_labelled test inside (arm labels s arms) = (if is_default labels then 0 else test + weigh test inside inside s) + weigh_labelled test inside arms

-- the weight of the default arm, if there is one
abbrev pub weigh_default : ℕ → (Bool → Target → ℕ) → Arms → ℕ
weigh_default test inside no_arms = 0
weigh_default test inside (arm labels s arms) = if is_default labels then weigh test inside inside s else weigh_default test inside arms

-- what is logged at most, by what the writes take outside and inside of the tests: a place for each test, and what each blocking
-- assignment takes
abbrev pub logs : (ℕ → ℕ) → (ℕ → ℕ) → Stmt → ℕ
logs outside inside s = weigh 1 (set_logs outside) (set_logs inside) s

-- what is queued at most: a place for each part of a nonblocking assignment
abbrev pub queues : Stmt → ℕ
queues s = weigh 0 set_queues set_queues s

-- the same of several statements
abbrev pub all_logs : (ℕ → ℕ) → (ℕ → ℕ) → Stmts → ℕ
all_logs outside inside ss = weigh_all 1 (set_logs outside) (set_logs inside) ss

abbrev pub all_queues : Stmts → ℕ
all_queues ss = weigh_all 0 set_queues set_queues ss

-- of arms
abbrev pub arms_logs : (ℕ → ℕ) → Arms → ℕ
arms_logs inside arms = weigh_arms 1 (set_logs inside) arms

abbrev pub arms_queues : Arms → ℕ
arms_queues arms = weigh_arms 0 set_queues arms

-- of the default arm
abbrev pub default_logs : (ℕ → ℕ) → Arms → ℕ
default_logs inside arms = weigh_default 1 (set_logs inside) arms

abbrev pub default_queues : Arms → ℕ
default_queues arms = weigh_default 0 set_queues arms

-- there is room for the run of a statement
abbrev pub HasRoomFor : Stmt → List Around → Rooms → Type 0
HasRoomFor s around r = HasRoom (logs (takes_in around r) r.takes s) (queues s) r

-- the run of a statement takes no more than it may
abbrev pub LeavesBy : Stmt → List Around → Rooms → Rooms → Type 0
LeavesBy s around before after = Leaves (logs (takes_in around before) before.takes s) (queues s) before after

-- the same of several statements
abbrev pub HasRoomForAll : Stmts → List Around → Rooms → Type 0
HasRoomForAll ss around r = HasRoom (all_logs (takes_in around r) r.takes ss) (all_queues ss) r

abbrev pub LeavesByAll : Stmts → List Around → Rooms → Rooms → Type 0
LeavesByAll ss around before after = Leaves (all_logs (takes_in around before) before.takes ss) (all_queues ss) before after

-- what an arm with these labels takes, where the default takes nothing
abbrev pub arm_logs : (ℕ → ℕ) → Terms → Stmt → ℕ
arm_logs inside labels s = if is_default labels then 0 else 1 + logs inside inside s

abbrev pub arm_queues : Terms → Stmt → ℕ
arm_queues labels s = if is_default labels then 0 else 0 + queues s

-- Room that is taken step by step.
use Rattle.std.proofs.Common.{Bool, List, ap, arith, false, refl, true, ℕ, ◌+◌, ◌≤◌, ◌∙◌, ◌∷◌, ◌≡◌, []}
use Rattle.assignments.specs.design_model.Tree.{Stmt, Stmts, Target, Targets, a_stmt, a_target, all_of, bits_of, block, branch, empty, no_stmts, no_targets, select, set, several, turns, word_of}
use Rattle.assignments.specs.body_calls.Rooms.{Leaves, Rooms, takes_in}
use Rattle.assignments.specs.body_calls.Ways.{Around}
use Rattle.assignments.specs.Takes.{HasRoom, all_take, set_logs, target_takes}
use Rattle.open_tests.specs.Weights.{HasRoomFor, HasRoomForAll, LeavesBy, LeavesByAll, all_logs, all_queues, logs, queues}

pub leaves_none : (a : Rooms) → Leaves 0 0 a a
leaves_none a = record { log = omega arith; takes = refl; queue = omega arith }

pub leaves_then : (n k m l : ℕ) (a b c : Rooms) → Leaves n k a b → Leaves m l b c → Leaves (n + m) (k + l) a c
leaves_then n k m l a b c h g =
    let p = h.log in
    let q = g.log in
    let r = h.queue in
    let s = g.queue in
    record { log = omega (arith, p, q); takes = g.takes ∙ h.takes; queue = omega (arith, r, s) }

-- more may be taken
pub leaves_more : (n k m l : ℕ) (a b : Rooms) → n ≤ m → k ≤ l → Leaves n k a b → Leaves m l a b
leaves_more n k m l a b e f h =
    let p = h.log in
    let r = h.queue in
    record { log = omega (arith, p, e); takes = h.takes; queue = omega (arith, r, f) }

pub room_less : (n k m l : ℕ) (a : Rooms) → m ≤ n → l ≤ k → HasRoom n k a → HasRoom m l a
room_less n k m l a e f h = let p = h.log in let q = h.queue in record { log = omega (arith, p, e); queue = omega (arith, q, f) }

pub room_then : (n k m l : ℕ) (a b : Rooms) → HasRoom (n + m) (k + l) a → Leaves n k a b → HasRoom m l b
room_then n k m l a b h g =
    let p = h.log in
    let q = h.queue in
    let r = g.log in
    let s = g.queue in
    record { log = omega (arith, p, r); queue = omega (arith, q, s) }

-- ---- what is taken outside of tests is no more than inside

outside_less : (around : List Around) (r : Rooms) (x : ℕ) → takes_in around r x ≤ r.takes x
outside_less [] r x = omega arith
outside_less (t ∷ outer) r x = omega arith

module _ (f g : ℕ → ℕ) (le : (x : ℕ) → f x ≤ g x) where
  mutual
    target_less : (x : Target) → target_takes f x ≤ target_takes g x
    target_less (all_of s) = le s
    target_less (bits_of s low w) = le s
    target_less (word_of m i) = le m
    target_less (several ts) = targets_less ts

    targets_less : (ts : Targets) → all_take f ts ≤ all_take g ts
    targets_less no_targets = omega arith
    targets_less (a_target t ts) = let p = target_less t in let q = targets_less ts in omega (arith, p, q)

  set_less : (b : Bool) (x : Target) → set_logs f b x ≤ set_logs g b x
  set_less true x = target_less x
  set_less false x = omega arith

  mutual
    pub logs_less : (s : Stmt) → logs f g s ≤ logs g g s
    logs_less (block p ss) = all_logs_less ss
    logs_less (branch p n t s other) = omega arith
    logs_less (select p n kind t arms) = omega arith
    logs_less (turns p n ss) = all_logs_less ss
    logs_less (set p n b x t) = set_less b x
    logs_less (empty p) = omega arith

    pub all_logs_less : (ss : Stmts) → all_logs f g ss ≤ all_logs g g ss
    all_logs_less no_stmts = omega arith
    all_logs_less (a_stmt s ss) = let p = logs_less s in let q = all_logs_less ss in omega (arith, p, q)

-- there is room for a statement where there is room for it inside of a test
pub room_inside : (s : Stmt) (around : List Around) (r : Rooms) (takes : ℕ → ℕ) (n k : ℕ) → r.takes ≡ takes → logs takes takes s ≤ n → queues s ≤ k → HasRoom n k r → HasRoomFor s around r
room_inside s around r takes n k e l m h =
    let less : logs (takes_in around r) r.takes s ≤ logs r.takes r.takes s = logs_less (takes_in around r) r.takes (outside_less around r) s in
    let same : logs r.takes r.takes s ≡ logs takes takes s = ap (λ f. logs f f s) e in
    let p = h.log in
    let q = h.queue in
    record { log = omega (arith, less, same, l, p); queue = omega (arith, m, q) }

pub leaves_inside : (s : Stmt) (around : List Around) (r q : Rooms) (takes : ℕ → ℕ) → r.takes ≡ takes → LeavesBy s around r q → Leaves (logs takes takes s) (queues s) r q
leaves_inside s around r q takes e h =
    let less : logs (takes_in around r) r.takes s ≤ logs r.takes r.takes s = logs_less (takes_in around r) r.takes (outside_less around r) s in
    let same : logs r.takes r.takes s ≡ logs takes takes s = ap (λ f. logs f f s) e in
    leaves_more (logs (takes_in around r) r.takes s) (queues s) (logs takes takes s) (queues s) r q (omega (arith, less, same)) (omega arith) h

pub all_room_inside : (ss : Stmts) (around : List Around) (r : Rooms) (takes : ℕ → ℕ) (n k : ℕ) → r.takes ≡ takes → all_logs takes takes ss ≤ n → all_queues ss ≤ k → HasRoom n k r → HasRoomForAll ss around r
all_room_inside ss around r takes n k e l m h =
    let less : all_logs (takes_in around r) r.takes ss ≤ all_logs r.takes r.takes ss = all_logs_less (takes_in around r) r.takes (outside_less around r) ss in
    let same : all_logs r.takes r.takes ss ≡ all_logs takes takes ss = ap (λ f. all_logs f f ss) e in
    let p = h.log in
    let q = h.queue in
    record { log = omega (arith, less, same, l, p); queue = omega (arith, m, q) }

pub all_leaves_inside : (ss : Stmts) (around : List Around) (r q : Rooms) (takes : ℕ → ℕ) → r.takes ≡ takes → LeavesByAll ss around r q → Leaves (all_logs takes takes ss) (all_queues ss) r q
all_leaves_inside ss around r q takes e h =
    let less : all_logs (takes_in around r) r.takes ss ≤ all_logs r.takes r.takes ss = all_logs_less (takes_in around r) r.takes (outside_less around r) ss in
    let same : all_logs r.takes r.takes ss ≡ all_logs takes takes ss = ap (λ f. all_logs f f ss) e in
    leaves_more (all_logs (takes_in around r) r.takes ss) (all_queues ss) (all_logs takes takes ss) (all_queues ss) r q (omega (arith, less, same)) (omega arith) h

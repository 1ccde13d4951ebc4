-- What the runs of bodies take of the log and of the queue is what is counted of their text.
use Rattle.std.proofs.Common.{Bool, List, [], ap, ap₂, arith, false, if◌then◌else◌, length, refl, slice_index_or, suc, true, zero, ℕ, ◌&&◌, ◌+◌, ◌<◌, ◌∙◌, ◌∷◌, ◌≡◌, ◌≤◌}
use Rattle.design_model.specs.Design.{body, body_at, no_process}
use Rattle.design_model.specs.Tree.{Arms, Process, Stmt, Stmts, Target, Targets, a_stmt, a_target, all_of, arm, bits_of, block, branch, empty, no_arms, no_stmts, no_targets, select, set, several, turns, word_of}
use Rattle.value_store.specs.Rooms as s
use Rattle.value_store.specs.Rooms.{all_logged, all_parts, all_queued, arms_logged, arms_queued, log_takes, logged, most_logged, queued_parts, target_parts}
use Rattle.open_tests.specs.assignments.Takes.{all_take, set_logs, set_queues, target_takes}
use Rattle.open_tests.specs.Weights.{weigh, weigh_all, weigh_arms}
use Rattle.body_rooms.specs.Rooms.{RoomLaw}

mutual
  same_takes : (takes : ℕ → ℕ) (x : Target) → target_takes takes x ≡ s.target_takes takes x
  same_takes takes (all_of y) = refl
  same_takes takes (bits_of y low w) = refl
  same_takes takes (word_of m i) = refl
  same_takes takes (several ts) = all_same_takes takes ts

  all_same_takes : (takes : ℕ → ℕ) (ts : Targets) → all_take takes ts ≡ s.all_take takes ts
  all_same_takes takes no_targets = refl
  all_same_takes takes (a_target t ts) = ap₂ (λ a b. a + b) (same_takes takes t) (all_same_takes takes ts)

mutual
  none_taken : (x : Target) → target_takes (λ y. 0) x ≡ 0
  none_taken (all_of y) = refl
  none_taken (bits_of y low w) = refl
  none_taken (word_of m i) = refl
  none_taken (several ts) = none_taken_of ts

  none_taken_of : (ts : Targets) → all_take (λ y. 0) ts ≡ 0
  none_taken_of no_targets = refl
  none_taken_of (a_target t ts) = ap₂ (λ a b. a + b) (none_taken t) (none_taken_of ts)

mutual
  one_each : (x : Target) → target_takes (λ y. 1) x ≡ target_parts x
  one_each (all_of y) = refl
  one_each (bits_of y low w) = refl
  one_each (word_of m i) = refl
  one_each (several ts) = one_each_of ts

  one_each_of : (ts : Targets) → all_take (λ y. 1) ts ≡ all_parts ts
  one_each_of no_targets = refl
  one_each_of (a_target t ts) = ap₂ (λ a b. a + b) (one_each t) (one_each_of ts)

-- what the writes take outside or inside of tests
abbrev outer : Bool → (ℕ → ℕ) → ℕ → ℕ
outer true takes = takes
outer false takes = λ y. 0

set_logged : (takes : ℕ → ℕ) (inside blocking : Bool) (x : Target) → set_logs (outer inside takes) blocking x ≡ (if blocking && inside then s.target_takes takes x else 0)
set_logged takes true true x = same_takes takes x
set_logged takes true false x = refl
set_logged takes false true x = none_taken x
set_logged takes false false x = refl

module _ (takes : ℕ → ℕ) where
  mutual
    pub logs_are : (inside : Bool) (b : Stmt) → weigh 1 (set_logs (outer inside takes)) (set_logs takes) b ≡ logged takes inside b
    logs_are inside (block p ss) = all_logs_are inside ss
    logs_are inside (branch p n t b other) = ap₂ (λ x y. 1 + x + y) (logs_are true b) (all_logs_are true other)
    logs_are inside (select p n kind t arms) = arms_logs_are arms
    logs_are inside (turns p n ss) = all_logs_are inside ss
    logs_are inside (set p n blocking x t) = set_logged takes inside blocking x
    logs_are inside (empty p) = refl

    all_logs_are : (inside : Bool) (ss : Stmts) → weigh_all 1 (set_logs (outer inside takes)) (set_logs takes) ss ≡ all_logged takes inside ss
    all_logs_are inside no_stmts = refl
    all_logs_are inside (a_stmt b ss) = ap₂ (λ x y. x + y) (logs_are inside b) (all_logs_are inside ss)

    arms_logs_are : (arms : Arms) → weigh_arms 1 (set_logs takes) arms ≡ arms_logged takes arms
    arms_logs_are no_arms = refl
    arms_logs_are (arm labels b arms) = ap₂ (λ x y. 1 + x + y) (logs_are true b) (arms_logs_are arms)

set_queued : (blocking : Bool) (x : Target) → set_queues blocking x ≡ (if blocking then 0 else target_parts x)
set_queued true x = refl
set_queued false x = one_each x

nothing_more : (a b x y : ℕ) → a ≡ x → b ≡ y → 0 + a + b ≡ x + y
nothing_more a b x y e f = omega (arith, e, f)

mutual
  pub queues_are : (b : Stmt) → weigh 0 set_queues set_queues b ≡ queued_parts b
  queues_are (block p ss) = all_queues_are ss
  queues_are (branch p n t b other) = nothing_more _ _ _ _ (queues_are b) (all_queues_are other)
  queues_are (select p n kind t arms) = arms_queues_are arms
  queues_are (turns p n ss) = all_queues_are ss
  queues_are (set p n blocking x t) = set_queued blocking x
  queues_are (empty p) = refl

  all_queues_are : (ss : Stmts) → weigh_all 0 set_queues set_queues ss ≡ all_queued ss
  all_queues_are no_stmts = refl
  all_queues_are (a_stmt b ss) = ap₂ (λ x y. x + y) (queues_are b) (all_queues_are ss)

  arms_queues_are : (arms : Arms) → weigh_arms 0 set_queues arms ≡ arms_queued arms
  arms_queues_are no_arms = refl
  arms_queues_are (arm labels b arms) = nothing_more _ _ _ _ (queues_are b) (arms_queues_are arms)

least : (takes : ℕ → ℕ) (ps : List Process) (p : ℕ) → p < length ps → logged takes false (body (slice_index_or ps p no_process)) ≤ most_logged takes ps
least takes [] p h = absurd (omega (arith, h))
least takes (q ∷ ps) zero h = omega arith
least takes (q ∷ ps) (suc p) h = let rest = least takes ps p (omega (arith, h)) in omega (arith, rest)

pub has_room : RoomLaw
has_room d p r inside takes log queue =
    let b = body_at d p in
    let logs_is : weigh 1 (set_logs (λ y. 0)) (set_logs r.takes) b ≡ logged (log_takes d) false b = ap (λ f. weigh 1 (set_logs (λ y. 0)) (set_logs f) b) takes ∙ logs_are (log_takes d) false b in
    let most = least (log_takes d) d.processes p inside in
    let parts = queues_are b in
    record { log = omega (arith, logs_is, most, log); queue = omega (arith, parts, queue) }

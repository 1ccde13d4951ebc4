-- Statements one after the other.
use Rattle.std.proofs.Common.{List, Option, ap, arith, refl, subst, ℕ, ◌+◌, ◌≤◌, ◌∙◌, ◌≡◌}
use Rattle.assignments.specs.design_model.Design.{Design}
use Rattle.assignments.specs.design_model.Tree.{Stmt, Stmts, a_stmt, no_stmts}
use Rattle.assignments.specs.body_replay.Store.{KnownWrite}
use Rattle.assignments.specs.body_replay.Replay.{Mark, Mode, State, run, run_all}
use Rattle.assignments.specs.term_replay.Stands.{Scene}
use Rattle.assignments.specs.body_calls.Rooms.{Rooms, takes_in}
use Rattle.assignments.specs.body_calls.Ways.{Around}
use Rattle.assignments.specs.scene_laws.At.{IsState}
use Rattle.assignments.proofs.Going.{takes_same}
use Rattle.open_tests.specs.Weights.{HasRoomFor, HasRoomForAll, LeavesBy, LeavesByAll, all_logs, all_queues, logs}

-- so much room is left for the rest of the statements
pub record SpendsOn (outside inside : ℕ → ℕ) (before : Rooms) (all : Stmts) (now : Rooms) (rest : Stmts) : Type 0 where
  pub log : before.log + all_logs outside inside rest ≤ now.log + all_logs outside inside all
  pub takes : now.takes ≡ before.takes
  pub queue : before.queue + all_queues rest ≤ now.queue + all_queues all

module _ (around : List Around) (before : Rooms) (all : Stmts) where
  abbrev On : Rooms → Stmts → Type 0
  On = SpendsOn (takes_in around before) before.takes before all

  same_logs : (now : Rooms) (s : Stmt) → now.takes ≡ before.takes → logs (takes_in around now) now.takes s ≡ logs (takes_in around before) before.takes s
  same_logs now s e = ap (λ f. logs f now.takes s) (takes_same around before now e) ∙ ap (λ f. logs (takes_in around before) f s) e

  pub spends_start : On before all
  spends_start = record { log = omega arith; takes = refl; queue = omega arith }

  pub spends_room : (now : Rooms) (s : Stmt) (rest : Stmts) → HasRoomForAll all around before → On now (a_stmt s rest) → HasRoomFor s around now
  spends_room now s rest r h =
      let e = same_logs now s h.takes in
      let p = r.log in
      let q = r.queue in
      let l = h.log in
      let m = h.queue in
      record { log = omega (arith, e, p, l); queue = omega (arith, q, m) }

  pub spends_further : (now next : Rooms) (s : Stmt) (rest : Stmts) → On now (a_stmt s rest) → LeavesBy s around now next → On next rest
  spends_further now next s rest h k =
      let e = same_logs now s h.takes in
      let p = k.log in
      let q = k.queue in
      let l = h.log in
      let m = h.queue in
      record { log = omega (arith, e, p, l); takes = k.takes ∙ h.takes; queue = omega (arith, q, m) }

  pub spends_end : (now : Rooms) → On now no_stmts → LeavesByAll all around before now
  spends_end now h = let l = h.log in let m = h.queue in record { log = omega (arith, l); takes = h.takes; queue = omega (arith, m) }

-- the state of the definition after the statements so far, from which the rest goes to the end
pub record RunsOn (mode : Mode) (first : Option ℕ) (v : Scene) (queue : List KnownWrite) (Noted : List Mark → Type 0) (all : Stmts) (now : Option ℕ) (w : Scene) (queued : List KnownWrite) (Now : List Mark → Type 0) (rest : Stmts) : Type 0 where
  pub goes : (d : Design) (a : State) → IsState d a first v queue Noted → (b : State) × IsState d b now w queued Now × (run_all d rest mode b ≡ run_all d all mode a)

module _ (mode : Mode) (first : Option ℕ) (v : Scene) (queue : List KnownWrite) (Noted : List Mark → Type 0) (all : Stmts) where
  pub runs_start : RunsOn mode first v queue Noted all first v queue Noted all
  runs_start = record { goes = λ d a h. (a, h, refl) }

  pub runs_further : (now next : Option ℕ) (w x : Scene) (queued more : List KnownWrite) (Now Next : List Mark → Type 0) (s : Stmt) (rest : Stmts) → RunsOn mode first v queue Noted all now w queued Now (a_stmt s rest) → ((d : Design) (b : State) → IsState d b now w queued Now → IsState d (run d s mode b) next x more Next) → RunsOn mode first v queue Noted all next x more Next rest
  runs_further now next w x queued more Now Next s rest h f = record { goes = λ d a k. let g = h.goes d a k in (run d s mode g.0, f d g.0 g.1, g.2) }

  pub runs_end : (now : Option ℕ) (w : Scene) (queued : List KnownWrite) (Now : List Mark → Type 0) → RunsOn mode first v queue Noted all now w queued Now no_stmts → (d : Design) (a : State) → IsState d a first v queue Noted → IsState d (run_all d all mode a) now w queued Now
  runs_end now w queued Now h d a k = let g = h.goes d a k in subst (λ z. IsState d z now w queued Now) g.2 g.1

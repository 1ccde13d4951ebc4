-- The room that the branches of a test and the arms of a case share.
use Rattle.std.proofs.Common.{List, None, Some, ap, arith, false, if◌then◌else◌, refl, true, ◌+◌, ◌≤◌, ◌∙◌, ◌≡◌}
use Rattle.assignments.specs.four_state.declared.operator.CaseKind.{CaseKind}
use Rattle.assignments.specs.design_model.Design.{Design}
use Rattle.assignments.specs.design_model.Execution.{is_default}
use Rattle.assignments.specs.design_model.Tree.{Stmt, Stmts, Terms, a_stmt, a_term, no_stmts, no_terms}
use Rattle.assignments.specs.body_replay.KnownBits.{KnownBits}
use Rattle.assignments.specs.body_replay.Store.{Kept}
use Rattle.assignments.specs.body_replay.Replay.{labels_match}
use Rattle.assignments.specs.body_calls.Rooms.{Leaves, Rooms, takes_in}
use Rattle.assignments.specs.body_calls.Ways.{Around}
use Rattle.assignments.specs.Takes.{HasRoom}
use Rattle.open_tests.specs.Weights.{HasRoomFor, HasRoomForAll, LeavesBy, LeavesByAll, all_logs, all_queues, arm_logs, arm_queues, logs, queues}
use Rattle.open_tests.proofs.Weighing.{all_leaves_inside, all_room_inside, leaves_inside, room_inside}

-- ---- both branches of a test

module _ (yes : Stmt) (no : Stmts) (r : Rooms) (has : HasRoom (1 + logs r.takes r.takes yes + all_logs r.takes r.takes no) (queues yes + all_queues no) r) (begun : Rooms) (begins : Leaves 1 0 r begun) where
  pub first_room : (around : List Around) → HasRoomFor yes around begun
  first_room around =
      let p : 1 + logs r.takes r.takes yes + all_logs r.takes r.takes no ≤ r.log = has.log in
      let q : queues yes + all_queues no ≤ r.queue = has.queue in
      let x : r.log ≤ begun.log + 1 = begins.log in
      let y : r.queue ≤ begun.queue + 0 = begins.queue in
      room_inside yes around begun r.takes (logs r.takes r.takes yes) (queues yes) begins.takes (omega arith) (omega arith) (record { log = omega (arith, p, x); queue = omega (arith, q, y) })

  module _ (around : List Around) (left : Rooms) (first : LeavesBy yes around begun left) (again : Rooms) (turns_to : Leaves 0 0 left again) where
    one : Leaves (logs r.takes r.takes yes) (queues yes) begun left
    one = leaves_inside yes around begun left r.takes begins.takes first

    same : again.takes ≡ r.takes
    same = turns_to.takes ∙ one.takes ∙ begins.takes

    pub second_room : (inner : List Around) → HasRoomForAll no inner again
    second_room inner =
        let p : 1 + logs r.takes r.takes yes + all_logs r.takes r.takes no ≤ r.log = has.log in
        let q : queues yes + all_queues no ≤ r.queue = has.queue in
        let x : r.log ≤ begun.log + 1 = begins.log in
        let y : r.queue ≤ begun.queue + 0 = begins.queue in
        let a : begun.log ≤ left.log + logs r.takes r.takes yes = one.log in
        let b : begun.queue ≤ left.queue + queues yes = one.queue in
        let c : left.log ≤ again.log + 0 = turns_to.log in
        let d : left.queue ≤ again.queue + 0 = turns_to.queue in
        all_room_inside no inner again r.takes (all_logs r.takes r.takes no) (all_queues no) same (omega arith) (omega arith) (record { log = omega (arith, p, x, a, c); queue = omega (arith, q, y, b, d) })

    pub both_leave : (inner : List Around) (right last : Rooms) → LeavesByAll no inner again right → Leaves 0 0 right last → Leaves (1 + logs r.takes r.takes yes + all_logs r.takes r.takes no) (queues yes + all_queues no) r last
    both_leave inner right last second ends =
        let two : Leaves (all_logs r.takes r.takes no) (all_queues no) again right = all_leaves_inside no inner again right r.takes same second in
        let x : r.log ≤ begun.log + 1 = begins.log in
        let y : r.queue ≤ begun.queue + 0 = begins.queue in
        let a : begun.log ≤ left.log + logs r.takes r.takes yes = one.log in
        let b : begun.queue ≤ left.queue + queues yes = one.queue in
        let c : left.log ≤ again.log + 0 = turns_to.log in
        let d : left.queue ≤ again.queue + 0 = turns_to.queue in
        let e : again.log ≤ right.log + all_logs r.takes r.takes no = two.log in
        let f : again.queue ≤ right.queue + all_queues no = two.queue in
        let g : right.log ≤ last.log + 0 = ends.log in
        let h : right.queue ≤ last.queue + 0 = ends.queue in
        record { log = omega (arith, x, a, c, e, g); takes = ends.takes ∙ two.takes ∙ same; queue = omega (arith, y, b, d, f, h) }

-- ---- an arm

-- an arm without labels does not match
pub labelled_yes : (d : Design) (kind : CaseKind) (on : KnownBits) (k : Kept) (labels : Terms) → labels_match d kind on k labels ≡ Some true → is_default labels ≡ false
labelled_yes d kind on k no_terms e = absurd (let bad : Some false ≡ Some true = e in cc)
labelled_yes d kind on k (a_term t ts) e = refl

pub labelled_none : (d : Design) (kind : CaseKind) (on : KnownBits) (k : Kept) (labels : Terms) → labels_match d kind on k labels ≡ None → is_default labels ≡ false
labelled_none d kind on k no_terms e = absurd (let bad : Some false ≡ None = e in cc)
labelled_none d kind on k (a_term t ts) e = refl

module _ (labels : Terms) (s : Stmt) (r : Rooms) (labelled : is_default labels ≡ false) where
  logs_are : arm_logs r.takes labels s ≡ 1 + logs r.takes r.takes s
  logs_are = ap (λ b. if b then 0 else 1 + logs r.takes r.takes s) labelled

  queues_are : arm_queues labels s ≡ 0 + queues s
  queues_are = ap (λ b. if b then 0 else 0 + queues s) labelled

  pub sure_room : (around : List Around) → HasRoom (arm_logs r.takes labels s) (arm_queues labels s) r → HasRoomFor s around r
  sure_room around h =
      let l : arm_logs r.takes labels s ≤ r.log = h.log in
      let q : arm_queues labels s ≤ r.queue = h.queue in
      let e = logs_are in
      let f = queues_are in
      room_inside s around r r.takes (logs r.takes r.takes s) (queues s) refl (omega arith) (omega arith) (record { log = omega (arith, e, l); queue = omega (arith, f, q) })

  pub sure_leaves : (around : List Around) (left : Rooms) → LeavesBy s around r left → Leaves (arm_logs r.takes labels s) (arm_queues labels s) r left
  sure_leaves around left h =
      let k = leaves_inside s around r left r.takes refl h in
      let l : r.log ≤ left.log + logs r.takes r.takes s = k.log in
      let q : r.queue ≤ left.queue + queues s = k.queue in
      let e = logs_are in
      let f = queues_are in
      record { log = omega (arith, e, l); takes = k.takes; queue = omega (arith, f, q) }

  pub test_room : HasRoom (arm_logs r.takes labels s) (arm_queues labels s) r → 1 ≤ r.log
  test_room h = let l : arm_logs r.takes labels s ≤ r.log = h.log in let e = logs_are in omega (arith, e, l)

  pub open_room : (begun : Rooms) (around : List Around) → HasRoom (arm_logs r.takes labels s) (arm_queues labels s) r → Leaves 1 0 r begun → HasRoomFor s around begun
  open_room begun around h g =
      let l : arm_logs r.takes labels s ≤ r.log = h.log in
      let q : arm_queues labels s ≤ r.queue = h.queue in
      let x : r.log ≤ begun.log + 1 = g.log in
      let y : r.queue ≤ begun.queue + 0 = g.queue in
      let e = logs_are in
      let f = queues_are in
      room_inside s around begun r.takes (logs r.takes r.takes s) (queues s) g.takes (omega arith) (omega arith) (record { log = omega (arith, e, l, x); queue = omega (arith, f, q, y) })

  pub open_leaves : (begun left last : Rooms) (around : List Around) → Leaves 1 0 r begun → LeavesBy s around begun left → Leaves 0 0 left last → Leaves (arm_logs r.takes labels s) (arm_queues labels s) r last
  open_leaves begun left last around g h j =
      let k = leaves_inside s around begun left r.takes g.takes h in
      let l : begun.log ≤ left.log + logs r.takes r.takes s = k.log in
      let q : begun.queue ≤ left.queue + queues s = k.queue in
      let x : r.log ≤ begun.log + 1 = g.log in
      let y : r.queue ≤ begun.queue + 0 = g.queue in
      let z : left.log ≤ last.log + 0 = j.log in
      let w : left.queue ≤ last.queue + 0 = j.queue in
      let e = logs_are in
      let f = queues_are in
      record { log = omega (arith, e, l, x, z); takes = j.takes ∙ k.takes ∙ g.takes; queue = omega (arith, f, q, y, w) }

-- ---- a test that is sure

-- an only statement
pub only_room : (s : Stmt) (around : List Around) (r : Rooms) → HasRoomForAll (a_stmt s no_stmts) around r → HasRoomFor s around r
only_room s around r h =
    let p : logs (takes_in around r) r.takes s + 0 ≤ r.log = h.log in
    let q : queues s + 0 ≤ r.queue = h.queue in
    record { log = omega (arith, p); queue = omega (arith, q) }

module _ (yes : Stmt) (no : Stmts) (r : Rooms) where
  pub test_rooms : HasRoom (1 + logs r.takes r.takes yes + all_logs r.takes r.takes no) (0 + queues yes + all_queues no) r → HasRoom (1 + logs r.takes r.takes yes + all_logs r.takes r.takes no) (queues yes + all_queues no) r
  test_rooms h = let q : 0 + queues yes + all_queues no ≤ r.queue = h.queue in record { log = h.log; queue = omega (arith, q) }

  module _ (has : HasRoom (1 + logs r.takes r.takes yes + all_logs r.takes r.takes no) (queues yes + all_queues no) r) (around : List Around) where
    pub yes_room : HasRoomFor yes around r
    yes_room = room_inside yes around r r.takes (1 + logs r.takes r.takes yes + all_logs r.takes r.takes no) (queues yes + all_queues no) refl (omega arith) (omega arith) has

    pub no_room : HasRoomForAll no around r
    no_room = all_room_inside no around r r.takes (1 + logs r.takes r.takes yes + all_logs r.takes r.takes no) (queues yes + all_queues no) refl (omega arith) (omega arith) has

  pub yes_leaves : (around : List Around) (left : Rooms) → LeavesBy yes around r left → Leaves (1 + logs r.takes r.takes yes + all_logs r.takes r.takes no) (0 + queues yes + all_queues no) r left
  yes_leaves around left h =
      let k = leaves_inside yes around r left r.takes refl h in
      let l : r.log ≤ left.log + logs r.takes r.takes yes = k.log in
      let q : r.queue ≤ left.queue + queues yes = k.queue in
      record { log = omega (arith, l); takes = k.takes; queue = omega (arith, q) }

  pub no_leaves : (around : List Around) (left : Rooms) → LeavesByAll no around r left → Leaves (1 + logs r.takes r.takes yes + all_logs r.takes r.takes no) (0 + queues yes + all_queues no) r left
  no_leaves around left h =
      let k = all_leaves_inside no around r left r.takes refl h in
      let l : r.log ≤ left.log + all_logs r.takes r.takes no = k.log in
      let q : r.queue ≤ left.queue + all_queues no = k.queue in
      record { log = omega (arith, l); takes = k.takes; queue = omega (arith, q) }

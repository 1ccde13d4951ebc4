-- The default arm of a case, one arm further.
use Rattle.std.proofs.Common.{Bool, List, [], ap, arith, false, if◌then◌else◌, length, map, refl, true, ℕ, ◌==◌, ◌∙◌, ◌∷◌, ◌≡◌}
use Rattle.std.proofs.lemmas.Bool.{eqb-true}
use Rattle.std.specs.Global.{Vec}
use Rattle.std.specs.Prelude.{vec_len}
use Rattle.assignments.specs.design_model.Design.{Design}
use Rattle.assignments.specs.design_model.Execution.{is_default}
use Rattle.assignments.specs.design_model.Tree.{Arms, Stmt, Terms, arm}
use Rattle.assignments.specs.design_model.View.{term_view, terms_of}
use Rattle.assignments.specs.design_model.declared.tree.Term.{Term}
use Rattle.assignments.specs.body_replay.Replay.{Mode, State, run, run_default}
use Rattle.assignments.specs.body_calls.Rooms.{Leaves, Rooms}
use Rattle.assignments.specs.body_calls.Ways.{Around}
use Rattle.assignments.specs.Takes.{HasRoom, set_logs, set_queues}
use Rattle.open_tests.specs.Weights.{HasRoomFor, LeavesBy, default_logs, default_queues, logs, queues, weigh, weigh_default}
use Rattle.open_tests.proofs.Weighing.{leaves_inside, leaves_more, leaves_none, room_inside}

-- an arm is the default just if it has no labels
default_is : (xs : List Term) → is_default (terms_of (map term_view xs)) ≡ (length xs == 0)
default_is [] = refl
default_is (x ∷ xs) = go (length (x ∷ xs) == 0) refl
  where
    go : (b : Bool) → (length (x ∷ xs) == 0) ≡ b → false ≡ b
    go false e = refl
    go true e = absurd (let bad = eqb-true (length (x ∷ xs)) 0 e in omega (arith, bad))

pub no_labels : (v : Vec Term) → is_default (terms_of (map term_view v.items)) ≡ (vec_len v == 0)
no_labels v =
    let e : length v.items ≡ vec_len v = omega (arith, v.ok.0) in
    default_is v.items ∙ ap (λ n. n == 0) e

module _ (labels : Terms) (s : Stmt) (later rest : Arms) (next : rest ≡ arm labels s later) where
  -- the arm is the default
  module _ (here : is_default labels ≡ true) where
    pub logs_here : (f : ℕ → ℕ) → default_logs f rest ≡ logs f f s
    logs_here f = ap (default_logs f) next ∙ ap (λ b. if b then weigh 1 (set_logs f) (set_logs f) s else weigh_default 1 (set_logs f) later) here

    pub queues_here : default_queues rest ≡ queues s
    queues_here = ap default_queues next ∙ ap (λ b. if b then weigh 0 set_queues set_queues s else weigh_default 0 set_queues later) here

    pub run_here : (d : Design) (mode : Mode) (a : State) → run_default d rest mode a ≡ run d s mode a
    run_here d mode a = ap (λ x. run_default d x mode a) next ∙ ap (λ b. if b then run d s mode a else run_default d later mode a) here

  -- it is not
  module _ (there : is_default labels ≡ false) where
    pub logs_there : (f : ℕ → ℕ) → default_logs f rest ≡ default_logs f later
    logs_there f = ap (default_logs f) next ∙ ap (λ b. if b then weigh 1 (set_logs f) (set_logs f) s else weigh_default 1 (set_logs f) later) there

    pub queues_there : default_queues rest ≡ default_queues later
    queues_there = ap default_queues next ∙ ap (λ b. if b then weigh 0 set_queues set_queues s else weigh_default 0 set_queues later) there

    pub run_there : (d : Design) (mode : Mode) (a : State) → run_default d rest mode a ≡ run_default d later mode a
    run_there d mode a = ap (λ x. run_default d x mode a) next ∙ ap (λ b. if b then run d s mode a else run_default d later mode a) there

-- the room of the default arm that was found
module _ (all : Arms) (s : Stmt) (around : List Around) (r : Rooms) (log_is : default_logs r.takes all ≡ logs r.takes r.takes s) (queue_is : default_queues all ≡ queues s) where
  pub found_room : HasRoom (default_logs r.takes all) (default_queues all) r → HasRoomFor s around r
  found_room h =
      let e : default_logs r.takes all ≡ logs r.takes r.takes s = log_is in
      let f : default_queues all ≡ queues s = queue_is in
      room_inside s around r r.takes (default_logs r.takes all) (default_queues all) refl (omega (arith, e)) (omega (arith, f)) h

  pub found_leaves : (left : Rooms) → LeavesBy s around r left → Leaves (default_logs r.takes all) (default_queues all) r left
  found_leaves left h =
      let e : default_logs r.takes all ≡ logs r.takes r.takes s = log_is in
      let f : default_queues all ≡ queues s = queue_is in
      leaves_more (logs r.takes r.takes s) (queues s) (default_logs r.takes all) (default_queues all) r left (omega (arith, e)) (omega (arith, f)) (leaves_inside s around r left r.takes refl h)

-- nothing has been taken
pub leaves_same : (n k : ℕ) (r : Rooms) → Leaves n k r r
leaves_same n k r = leaves_more 0 0 n k r r (omega arith) (omega arith) (leaves_none r)

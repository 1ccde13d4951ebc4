-- Where the run of a body is, step by step.
use Rattle.std.proofs.Common.{Bool, List, None, Option, [], ap, map, refl, subst, sym, ℕ, ◌++◌, ◌∙◌, ◌∷◌, ◌≡◌}
use Rattle.assignments.specs.known_state.Maybe.{Holds}
use Rattle.assignments.specs.known_state.Partly.{Partly}
use Rattle.assignments.specs.known_state.declared.maybe.Maybe.{Maybe}
use Rattle.assignments.specs.known_state.declared.maybe.Maybe.TheVariants.{Yes, No, Unsure}
use Rattle.assignments.specs.design_model.Design.{Design, nowhere}
use Rattle.assignments.specs.design_model.Tree.{Stmt, Stmts, Term, branch}
use Rattle.assignments.specs.body_replay.KnownBits.{holds, known_truth}
use Rattle.assignments.specs.body_replay.Store.{KnownWrite, known_value}
use Rattle.assignments.specs.body_replay.Replay.{Mark, Mode, State, again, blame_of, decide, evaluate_known, in_mode, joined_states, line, reach, run, run_all}
use Rattle.assignments.proofs.body_replay.Answered as a
use Rattle.assignments.proofs.body_replay.Answered.{holds_answer, same_sure}
use Rattle.assignments.proofs.body_replay.Unsure.{holds_none, known_truth_none}
use Rattle.assignments.specs.term_replay.Noted.{Adds, in_this, marks_of}
use Rattle.assignments.specs.term_replay.Questions.{answer_of}
use Rattle.assignments.specs.term_replay.Stands.{Scene, Stands, first_after}
use Rattle.assignments.proofs.term_replay.Marking.{adds_same, hit_in}
use Rattle.assignments.specs.body_calls.Lvalues.{Like}
use Rattle.assignments.specs.body_calls.Ways.{joined_scene}
use Rattle.assignments.specs.scene_laws.At.{IsState, scene_of}
use Rattle.assignments.proofs.scene_laws.LikeScenes.{alike_first, alike_marks, like_trans}
use Rattle.assignments.proofs.scene_laws.LikeWays.{joined_like}

module _ {T S : Type 0} (noted : T → List Mark → S → Type 0) (start : T) (d : Design) (s : State) (mode : Mode) (v : Scene) (queue : List KnownWrite) where
  -- a statement is reached
  pub reach_state : (n : ℕ) (first : Option ℕ) (before after : S) → Adds noted before (record { spot = line n; doubt = mode } ∷ []) after → IsState d s first v queue (λ ms. noted start ms before) → IsState d (reach mode n s) first v queue (λ ms. noted start ms after)
  reach_state n first before after adds h =
      record { scene = h.scene; first = h.first; queue = h.queue; noted = (adds_same noted before after _ _ (ap (λ m. m ∷ []) (sym (hit_in mode (line n)))) adds).added start s.marks h.noted }

  -- a term is evaluated
  pub evaluate_state : (t : Term) (first last : Option ℕ) (before after : S) → last ≡ first_after v first t → Adds noted before (in_this mode (marks_of v first t)) after → IsState d s first v queue (λ ms. noted start ms before) → IsState d (evaluate_known d mode t s) last v queue (λ ms. noted start ms after)
  evaluate_state t first last before after e adds h =
      record {
        scene = h.scene;
        first = e ∙ alike_first (scene_of d s) v h.scene s.first first t h.first;
        queue = h.queue;
        noted = subst (λ ms. noted start (s.marks ++ map (in_mode mode) ms) after) (alike_marks (scene_of d s) v h.scene s.first first t h.first) (adds.added start s.marks h.noted);
      }

same_answer : (m : Maybe) → answer_of m ≡ a.answer_of m
same_answer Yes = refl
same_answer No = refl
same_answer (Unsure thing) = refl

-- the answer of a condition
pub condition : (r : Partly) (m : Maybe) (v : Scene) (first : Option ℕ) (t : Term) → Stands v first t r → Holds r m → holds (known_truth (known_value v.design v.kept t)) ≡ answer_of m
condition r m v first t s h = ap (λ ps. holds (known_truth ps)) (sym s.bits) ∙ sym (holds_answer r m h) ∙ sym (same_answer m)

-- what is to blame for an undecided one
pub condition_blame : (r : Partly) (thing : ℕ) (v : Scene) (first : Option ℕ) (t : Term) → Stands v first t r → Holds r (Unsure thing) → blame_of v.design v.kept v.blames first t ≡ thing
condition_blame r thing v first t s h =
    let none : holds (known_truth r.bits) ≡ None = sym (holds_answer r (Unsure thing) h) in
    sym (h.blamed ∙ s.blame (sym (same_sure r.bits) ∙ known_truth_none r.bits (holds_none (known_truth r.bits) none)))

-- a branch by its answer
pub branch_is : (d : Design) (n : ℕ) (t : Term) (s : Stmt) (other : Stmts) (mode : Mode) (x : State) (o : Option Bool) → holds (known_truth (known_value d x.kept t)) ≡ o → run d (branch nowhere n t s other) mode x ≡ decide d mode (blame_of d x.kept x.blames x.first t) (run d s) (run_all d other) o (evaluate_known d mode t (reach mode n x))
branch_is d n t s other mode x o e = ap (λ z. decide d mode (blame_of d x.kept x.blames x.first t) (run d s) (run_all d other) z (evaluate_known d mode t (reach mode n x))) e

-- the second branch begins with what the first began with
pub again_state : (d : Design) (s left : State) (first : Option ℕ) (v w now : Scene) (queue : List KnownWrite) (Noted : List Mark → Type 0) → Like (scene_of d s) v → Like v now → IsState d left first w queue Noted → IsState d (again s left) first now queue Noted
again_state d s left first v w now queue Noted l k h = record { scene = like_trans (scene_of d s) v now l k; first = h.first; queue = h.queue; noted = h.noted }

-- both branches have ended
pub joined_state : (d : Design) (test : ℕ) (left right : State) (first : Option ℕ) (v w now : Scene) (queue : List KnownWrite) (Noted : List Mark → Type 0) → Like (scene_of d left) v → IsState d right first w queue Noted → Like (joined_scene test v w) now → IsState d (joined_states d test left right) first now queue Noted
joined_state d test left right first v w now queue Noted l h k =
    record { scene = like_trans _ _ now (joined_like d test left right v w l h.scene) k; first = h.first; queue = h.queue; noted = h.noted }

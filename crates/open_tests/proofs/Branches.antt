-- The forms of a statement, step by step: conditions, cases and arms.
use Rattle.std.proofs.Common.{Bool, List, None, Option, Some, [], ap, false, refl, subst, sym, true, ℕ, ◌∙◌, ◌∷◌, ◌≡◌}
use Rattle.assignments.specs.four_state.declared.operator.CaseKind.{CaseKind}
use Rattle.assignments.specs.known_state.Maybe.{Holds}
use Rattle.assignments.specs.known_state.Partly.{Partly}
use Rattle.assignments.specs.known_state.declared.maybe.Maybe.{Maybe}
use Rattle.assignments.specs.known_state.declared.maybe.Maybe.TheVariants.{Yes, No, Unsure}
use Rattle.assignments.specs.design_model.Design.{Design, nowhere}
use Rattle.assignments.specs.design_model.Tree.{Arms, Stmt, Stmts, Term, Terms, branch, select}
use Rattle.assignments.specs.body_replay.KnownBits.{holds, known_truth}
use Rattle.assignments.specs.body_replay.Store.{KnownWrite, known_value}
use Rattle.assignments.specs.body_replay.Replay.{Mark, Mode, State, again, blame_of, decide, deeper, evaluate_known, joined_states, label_first, label_marks, labels_blame, labels_match, reach, run, run_all, run_arms, run_default, see_labels}
use Rattle.assignments.specs.term_replay.Noted.{Adds, in_this, mark_of, marks_of}
use Rattle.assignments.specs.term_replay.Questions.{IsAnswer, answer_of, blame_in}
use Rattle.assignments.specs.term_replay.Stands.{Scene, Stands, first_after}
use Rattle.assignments.specs.term_replay.declared.evaluation.Progress.{Progress}
use Rattle.assignments.specs.term_replay.declared.notes.Spot.TheVariants.{Line}
use Rattle.assignments.specs.body_calls.Lvalues.{Like}
use Rattle.assignments.specs.body_calls.Ways.{Around, in_second, joined_scene}
use Rattle.assignments.specs.scene_laws.At.{IsState, scene_of}
use Rattle.assignments.proofs.scene_laws.LikeScenes.{alike_value}
use Rattle.open_tests.specs.declared.after_arm.AfterArm.TheVariants.{Next, Open, Ran}
use Rattle.open_tests.proofs.Cases.{ArmRuns, IsBlamed}
use Rattle.open_tests.proofs.LikeLabels.{labels_answer, labels_blamed, labels_state}
use Rattle.open_tests.proofs.States.{again_state, branch_is, condition, condition_blame, evaluate_state, joined_state, reach_state}

-- the store is at the same scene and queue by another name
pub state_same : (d : Design) (a : State) (first : Option ℕ) (v w : Scene) (queue queued : List KnownWrite) (Noted : List Mark → Type 0) → w ≡ v → queued ≡ queue → IsState d a first v queue Noted → IsState d a first w queued Noted
state_same d a first v w queue queued Noted e q h = subst (λ x. IsState d a first x queued Noted) (sym e) (subst (λ x. IsState d a first v x Noted) (sym q) h)

-- what a run of a statement does from each state
abbrev pub Runs : (Design → State → State) → Option ℕ → Scene → List KnownWrite → (List Mark → Type 0) → Option ℕ → Scene → List KnownWrite → (List Mark → Type 0) → Type 0
Runs f first v queue Noted last w queued Now = (d : Design) (a : State) → IsState d a first v queue Noted → IsState d (f d a) last w queued Now

module _ {T S : Type 0} (noted : T → List Mark → S → Type 0) (start : T) (before reached after : S) (run_now tested_run : Progress) (v : Scene) (queue : List KnownWrite) (n : ℕ) (t : Term) (r : Partly) (last : Option ℕ) (reaching : Adds noted before (mark_of (Line n) run_now.mode ∷ []) reached) (value : Stands v run_now.first t r) (first_is : last ≡ first_after v run_now.first t) (evaluating : Adds noted reached (in_this run_now.mode (marks_of v run_now.first t)) after) (tested_is : tested_run ≡ record { mode = run_now.mode; first = last }) where
  -- the term is evaluated after its line is reached
  tested : (d : Design) (a : State) → IsState d a run_now.first v queue (λ ms. noted start ms before) → IsState d (evaluate_known d run_now.mode t (reach run_now.mode n a)) tested_run.first v queue (λ ms. noted start ms after)
  tested d a h =
      subst (λ (p : Progress). IsState d (evaluate_known d run_now.mode t (reach run_now.mode n a)) p.first v queue (λ ms. noted start ms after)) (sym tested_is)
      (evaluate_state noted start d (reach run_now.mode n a) run_now.mode v queue t run_now.first last reached after first_is evaluating (reach_state noted start d a run_now.mode v queue n run_now.first before reached reaching h))

  alike : (d : Design) (a : State) → IsState d a run_now.first v queue (λ ms. noted start ms before) → Stands (scene_of d a) a.first t r
  alike d a h = alike_value (scene_of d a) v h.scene a.first run_now.first t r h.first value

  -- a condition that is sure
  pub sure_test : (m : Maybe) (b : Bool) (s : Stmt) (other : Stmts) (f : Mode → Design → State → State) (ran : Option ℕ) (w : Scene) (queued : List KnownWrite) (Now : List Mark → Type 0) → Holds r m → answer_of m ≡ Some b → ((d : Design) (x : ℕ) (a : State) → decide d run_now.mode x (run d s) (run_all d other) (Some b) a ≡ f run_now.mode d a) → Runs (f tested_run.mode) tested_run.first v queue (λ ms. noted start ms after) ran w queued Now → Runs (λ d. run d (branch nowhere n t s other) run_now.mode) run_now.first v queue (λ ms. noted start ms before) ran w queued Now
  sure_test m b s other f ran w queued Now holding answer goes runs d a h =
      let tests = tested d a h in
      let on : holds (known_truth (known_value d a.kept t)) ≡ Some b = condition r m (scene_of d a) a.first t (alike d a h) holding ∙ answer in
      let is = branch_is d n t s other run_now.mode a (Some b) on ∙ goes d (blame_of d a.kept a.blames a.first t) (evaluate_known d run_now.mode t (reach run_now.mode n a)) ∙ ap (λ (p : Progress). f p.mode d (evaluate_known d run_now.mode t (reach run_now.mode n a))) (sym tested_is) in
      subst (λ z. IsState d z ran w queued Now) (sym is) (runs d (evaluate_known d run_now.mode t (reach run_now.mode n a)) tests)

  -- a condition that is not decided
  pub unsure_test : (thing : ℕ) (s : Stmt) (other : Stmts) (ran : Option ℕ) (w : Scene) (queued : List KnownWrite) (Now : List Mark → Type 0) → Holds r (Unsure thing) → Runs (λ d a. decide d tested_run.mode thing (run d s) (run_all d other) None a) tested_run.first v queue (λ ms. noted start ms after) ran w queued Now → Runs (λ d. run d (branch nowhere n t s other) run_now.mode) run_now.first v queue (λ ms. noted start ms before) ran w queued Now
  unsure_test thing s other ran w queued Now holding runs d a h =
      let tests = tested d a h in
      let e = evaluate_known d run_now.mode t (reach run_now.mode n a) in
      let on : holds (known_truth (known_value d a.kept t)) ≡ None = condition r (Unsure thing) (scene_of d a) a.first t (alike d a h) holding in
      let blamed : blame_of d a.kept a.blames a.first t ≡ thing = condition_blame r thing (scene_of d a) a.first t (alike d a h) holding in
      let is = branch_is d n t s other run_now.mode a None on ∙ ap (λ x. decide d run_now.mode x (run d s) (run_all d other) None e) blamed ∙ ap (λ (p : Progress). decide d p.mode thing (run d s) (run_all d other) None e) (sym tested_is) in
      subst (λ z. IsState d z ran w queued Now) (sym is) (runs d e tests)

  -- a case
  pub case_test : (kind : CaseKind) (arms : Arms) (ran : Option ℕ) (w : Scene) (queued : List KnownWrite) (Now : List Mark → Type 0) → ((d : Design) (a : State) (blame : ℕ) → IsBlamed r blame → IsState d a tested_run.first v queue (λ ms. noted start ms after) → IsState d (run_arms d kind r.bits blame arms (run_default d arms) tested_run.mode a) ran w queued Now) → Runs (λ d. run d (select nowhere n kind t arms) run_now.mode) run_now.first v queue (λ ms. noted start ms before) ran w queued Now
  case_test kind arms ran w queued Now runs d a h =
      let e = evaluate_known d run_now.mode t (reach run_now.mode n a) in
      let on = alike d a h in
      let blame = blame_of d a.kept a.blames a.first t in
      let is = ap (λ ps. run_arms d kind ps blame arms (run_default d arms) tested_run.mode e) on.bits ∙ ap (λ (p : Progress). run_arms d kind (known_value d a.kept t) blame arms (run_default d arms) p.mode e) tested_is in
      subst (λ z. IsState d z ran w queued Now) is (runs d e blame on.blame (tested d a h))

-- both branches of a test that is not decided
pub both_ways : (first_way second_way : Design → Mode → State → State) (thing : ℕ) (run_now inside middle : Progress) (v v1 w x y z : Scene) (queue queue1 queued more most all : List KnownWrite) (Noted Middle Last : List Mark → Type 0) (left right : Option ℕ) → inside ≡ record { mode = deeper run_now.mode thing; first = run_now.first } → middle ≡ record { mode = inside.mode; first = left } → v1 ≡ v → queue1 ≡ queue → Runs (λ d. first_way d inside.mode) inside.first v1 queue1 Noted left w queued Middle → Like v x → more ≡ queued → Runs (λ d. second_way d middle.mode) middle.first x more Middle right y most Last → Like (joined_scene thing w y) z → all ≡ most → Runs (λ d a. decide d run_now.mode thing (first_way d) (second_way d) None a) run_now.first v queue Noted right z all Last
both_ways first_way second_way thing run_now inside middle v v1 w x y z queue queue1 queued more most all Noted Middle Last left right inside_is middle_is scene1 same1 one again_like same2 two joined same3 d a h =
    let deep = deeper run_now.mode thing in
    let begun = subst (λ (p : Progress). IsState d a p.first v1 queue1 Noted) (sym inside_is) (state_same d a run_now.first v v1 queue queue1 Noted scene1 same1 h) in
    let done = subst (λ (p : Progress). IsState d (first_way d p.mode a) left w queued Middle) inside_is (one d a begun) in
    let branched = again_state d a (first_way d deep a) left v w x queued Middle h.scene again_like done in
    let next = state_same d (again a (first_way d deep a)) left x x queued more Middle refl same2 branched in
    let mode_is : middle.mode ≡ deep = ap (λ (p : Progress). p.mode) middle_is ∙ ap (λ (p : Progress). p.mode) inside_is in
    let first_is : middle.first ≡ left = ap (λ (p : Progress). p.first) middle_is in
    let over = two d (again a (first_way d deep a)) (subst (λ f. IsState d (again a (first_way d deep a)) f x more Middle) (sym first_is) next) in
    let other = subst (λ m. IsState d (second_way d m (again a (first_way d deep a))) right y most Last) mode_is over in
    state_same d _ right z z most all Last refl same3 (joined_state d thing (first_way d deep a) (second_way d deep (again a (first_way d deep a))) right w y z most Last done.scene other joined)

-- an arm, by the answer of its labels
module _ {T S : Type 0} (noted : T → List Mark → S → Type 0) (start : T) (kind : CaseKind) (on : Partly) (labels : Terms) (s : Stmt) (run_now after : Progress) (v : Scene) (queue : List KnownWrite) (before middle : S) (m : Maybe) (last : Option ℕ) (around : List Around) (after_is : after ≡ record { mode = run_now.mode; first = last }) (answer : IsAnswer (labels_match v.design kind on.bits v.kept labels) (labels_blame v.design kind on.bits on.blame v.kept v.blames run_now.first labels) m) (first_is : last ≡ label_first v.design kind on.bits v.kept v.blames labels run_now.first) (noting : Adds noted before (in_this run_now.mode (label_marks v.design kind on.bits on.blame v.kept v.blames labels run_now.first)) middle) where
  seen : (d : Design) (a : State) (blame : ℕ) → IsBlamed on blame → IsState d a run_now.first v queue (λ ms. noted start ms before) → IsState d (see_labels d run_now.mode kind on.bits blame labels a) after.first v queue (λ ms. noted start ms middle)
  seen d a blame same h =
      subst (λ (p : Progress). IsState d (see_labels d run_now.mode kind on.bits blame labels a) p.first v queue (λ ms. noted start ms middle)) (sym after_is)
      (labels_state d a v h.scene kind on blame same labels noted start run_now.mode queue run_now.first last before middle first_is noting h)

  decided : (d : Design) (a : State) (blame : ℕ) → IsBlamed on blame → IsState d a run_now.first v queue (λ ms. noted start ms before) → (o : Option Bool) → answer_of m ≡ o → labels_match d kind on.bits a.kept labels ≡ o
  decided d a blame same h o e = sym (labels_answer d a v h.scene kind on blame same labels) ∙ sym answer.is ∙ e

  -- it is sure to match
  pub arm_yes : (ran : Option ℕ) (w : Scene) (queued : List KnownWrite) (Now : List Mark → Type 0) (end : List Around) → m ≡ Yes → Runs (λ d. run d s after.mode) after.first v queue (λ ms. noted start ms middle) ran w queued Now → ArmRuns kind on labels s run_now.mode run_now.first v queue (λ ms. noted start ms before) around w queued Now end (Ran ran)
  arm_yes ran w queued Now end is runs d a blame same h others =
      let a2 = see_labels d run_now.mode kind on.bits blame labels a in
      let match = decided d a blame same h (Some true) (ap answer_of is) in
      let e = ap (λ z. decide d run_now.mode (labels_blame d kind on.bits blame a.kept a.blames a.first labels) (run d s) others z a2) match ∙ ap (λ (p : Progress). run d s p.mode a2) (sym after_is) in
      subst (λ z. IsState d z ran w queued Now) (sym e) (runs d a2 (seen d a blame same h))

  -- it is sure not to match
  pub arm_no : (end : List Around) → m ≡ No → ArmRuns kind on labels s run_now.mode run_now.first v queue (λ ms. noted start ms before) around v queue (λ ms. noted start ms middle) end (Next after)
  arm_no end is d a blame same h =
      let a2 = see_labels d run_now.mode kind on.bits blame labels a in
      let match = decided d a blame same h (Some false) (ap answer_of is) in (
        a2,
        seen d a blame same h,
        ap (λ (p : Progress). p.mode) after_is,
        λ others. ap (λ z. decide d run_now.mode (labels_blame d kind on.bits blame a.kept a.blames a.first labels) (run d s) others z a2) match,
      )

  -- it is not decided
  pub arm_unsure : (thing : ℕ) (inside final : Progress) (v1 w x : Scene) (queue1 queued more : List KnownWrite) (Now : List Mark → Type 0) (end : List Around) (ran : Option ℕ) → m ≡ Unsure thing → inside ≡ record { mode = deeper after.mode thing; first = after.first } → final ≡ record { mode = inside.mode; first = ran } → v1 ≡ v → queue1 ≡ queue → Runs (λ d. run d s inside.mode) inside.first v1 queue1 (λ ms. noted start ms middle) ran w queued Now → Like v x → more ≡ queued → end ≡ in_second thing w ∷ around → ArmRuns kind on labels s run_now.mode run_now.first v queue (λ ms. noted start ms before) around x more Now end (Open final)
  arm_unsure thing inside final v1 w x queue1 queued more Now end ran is inside_is final_is scene1 same1 runs like same2 end_is d a blame same h =
      let a2 = see_labels d run_now.mode kind on.bits blame labels a in
      let deep = deeper run_now.mode thing in
      let left = run d s deep a2 in
      let lb = labels_blame d kind on.bits blame a.kept a.blames a.first labels in
      let labelled = seen d a blame same h in
      let match = decided d a blame same h None (ap answer_of is) in
      let unsure : labels_match v.design kind on.bits v.kept labels ≡ None = sym answer.is ∙ ap answer_of is in
      let blamed : lb ≡ thing = sym (labels_blamed d a v h.scene kind on blame same labels run_now.first h.first) ∙ sym (answer.blame unsure) ∙ ap blame_in is in
      let after_mode : after.mode ≡ run_now.mode = ap (λ (p : Progress). p.mode) after_is in
      let inside_mode : inside.mode ≡ deep = ap (λ (p : Progress). p.mode) inside_is ∙ ap (λ k. deeper k thing) after_mode in
      let inside_first : inside.first ≡ after.first = ap (λ (p : Progress). p.first) inside_is in
      let final_mode : final.mode ≡ deep = ap (λ (p : Progress). p.mode) final_is ∙ inside_mode in
      let final_first : final.first ≡ ran = ap (λ (p : Progress). p.first) final_is in
      let begun = subst (λ f. IsState d a2 f v1 queue1 (λ ms. noted start ms middle)) (sym inside_first) (state_same d a2 after.first v v1 queue queue1 (λ ms. noted start ms middle) scene1 same1 labelled) in
      let done = subst (λ k. IsState d (run d s k a2) ran w queued Now) inside_mode (runs d a2 begun) in
      let branched = again_state d a2 left ran v w x queued Now labelled.scene like done in
      let next = state_same d (again a2 left) ran x x queued more Now refl same2 branched in (
        again a2 left,
        subst (λ f. IsState d (again a2 left) f x more Now) (sym final_first) next,
        (
          record { test = thing; left = left },
          (w, around, end_is, done.scene, refl),
          final_mode,
          λ others. ap (λ z. decide d run_now.mode lb (run d s) others z a2) match ∙ ap (λ z. joined_states d z (run d s (deeper run_now.mode z) a2) (others (deeper run_now.mode z) (again a2 (run d s (deeper run_now.mode z) a2)))) blamed ∙ ap (λ k. joined_states d thing left (others k (again a2 left))) (sym final_mode),
        ),
      )

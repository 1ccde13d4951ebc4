-- The arms of a case, one arm further.
use Rattle.std.proofs.Common.{Bool, List, Option, [], add-one, ap, arith, drop, drop-cons, false, get_or, if◌then◌else◌, length, map, refl, subst, suc, sym, true, ℕ, ◌+◌, ◌<◌, ◌≤◌, ◌∙◌, ◌∷◌, ◌≡◌}
use Rattle.assignments.specs.four_state.declared.operator.CaseKind.{CaseKind}
use Rattle.assignments.specs.known_state.Partly.{Partly, is_whole}
use Rattle.assignments.specs.design_model.Design.{Design}
use Rattle.assignments.specs.design_model.Execution.{is_default}
use Rattle.assignments.specs.design_model.Tree.{Arms, Stmt, Target, Terms, arm, no_arms}
use Rattle.assignments.specs.design_model.View.{arms_of, stmt_view, term_view, terms_of}
use Rattle.assignments.specs.design_model.declared.tree.CaseArm.{CaseArm}
use Rattle.assignments.specs.design_model.declared.tree.StmtForm.TheFolds.{fold_out-CaseArm}
use Rattle.assignments.specs.body_replay.Store.{KnownWrite}
use Rattle.assignments.specs.body_replay.Replay.{Mark, Mode, State, run_arms, run_default}
use Rattle.assignments.specs.term_replay.Stands.{Scene}
use Rattle.assignments.specs.term_replay.declared.evaluation.Progress.{Progress}
use Rattle.assignments.specs.value_store.Rooms.{arm_view}
use Rattle.assignments.specs.body_calls.Rooms.{Leaves, Rooms}
use Rattle.assignments.specs.body_calls.Ways.{Around}
use Rattle.assignments.specs.scene_laws.At.{IsState}
use Rattle.assignments.specs.Takes.{HasRoom, set_logs, set_queues}
use Rattle.open_tests.specs.Arms.{IsAfter, arm_of}
use Rattle.open_tests.specs.Open.{AreOpen, AreSecond, OpenArm, close}
use Rattle.open_tests.specs.Weights.{arm_logs, arm_queues, arms_logs, arms_queues, default_logs, default_queues, weigh, weigh_arms, weigh_default, weigh_labelled}
use Rattle.open_tests.specs.declared.after_arm.AfterArm.{AfterArm}
use Rattle.open_tests.specs.declared.after_arm.AfterArm.TheVariants.{Next, Open, Ran}

-- the arms with labels and the default weigh no more than all arms
pub both_weigh : (test : ℕ) (inside : Bool → Target → ℕ) (arms : Arms) → weigh_labelled test inside arms + weigh_default test inside arms ≤ weigh_arms test inside arms
both_weigh test inside no_arms = omega arith
both_weigh test inside (arm labels s arms) = go (is_default labels) (both_weigh test inside arms)
  where
    go : (b : Bool) → weigh_labelled test inside arms + weigh_default test inside arms ≤ weigh_arms test inside arms → (if b then 0 else test + weigh test inside inside s) + weigh_labelled test inside arms + (if b then weigh test inside inside s else weigh_default test inside arms) ≤ test + weigh test inside inside s + weigh_arms test inside arms
    go true h = omega (arith, h)
    go false h = omega (arith, h)

-- ---- lists of arms

pub arm_is : (x : CaseArm) → arm_view x ≡ (terms_of (map term_view x.labels.items), stmt_view x.body)
arm_is x = rw fold_out-CaseArm refl

-- the arms from the one at i on
pub arms_from : (xs : List CaseArm) (i : ℕ) (x : CaseArm) → i < length xs → x ≡ get_or xs i x → arms_of (map arm_view (drop i xs)) ≡ arm (terms_of (map term_view x.labels.items)) (stmt_view x.body) (arms_of (map arm_view (drop (i + 1) xs)))
arms_from xs i x within is =
    let later = arms_of (map arm_view (drop (i + 1) xs)) in
    let first : arms_of (map arm_view (drop i xs)) ≡ arm (arm_view x).0 (arm_view x).1 later = rw (add-one, drop-cons xs i x within, ← is) refl in
    first ∙ ap (λ (z : Terms × Stmt). arm z.0 z.1 later) (arm_is x)

-- ---- what the arms take

-- so much room is left for the rest of the arms and for the default
pub record ArmsSpend (before : Rooms) (all : Arms) (now : Rooms) (rest : Arms) : Type 0 where
  pub log : before.log + (weigh_labelled 1 (set_logs before.takes) rest + default_logs before.takes all) ≤ now.log + arms_logs before.takes all
  pub takes : now.takes ≡ before.takes
  pub queue : before.queue + (weigh_labelled 0 set_queues rest + default_queues all) ≤ now.queue + arms_queues all

module _ (before : Rooms) (all : Arms) where
  pub arms_spend_start : ArmsSpend before all before all
  arms_spend_start =
      let l = both_weigh 1 (set_logs before.takes) all in
      let q = both_weigh 0 set_queues all in
      record { log = omega (arith, l); takes = refl; queue = omega (arith, q) }

  pub arm_room : (now : Rooms) (labels : Terms) (s : Stmt) (rest : Arms) → HasRoom (arms_logs before.takes all) (arms_queues all) before → ArmsSpend before all now (arm labels s rest) → HasRoom (arm_logs now.takes labels s) (arm_queues labels s) now
  arm_room now labels s rest r h =
      let e : arm_logs now.takes labels s ≡ arm_logs before.takes labels s = ap (λ f. arm_logs f labels s) h.takes in
      let p : arms_logs before.takes all ≤ before.log = r.log in
      let q : arms_queues all ≤ before.queue = r.queue in
      let l : before.log + ((arm_logs before.takes labels s + weigh_labelled 1 (set_logs before.takes) rest) + default_logs before.takes all) ≤ now.log + arms_logs before.takes all = h.log in
      let m : before.queue + ((arm_queues labels s + weigh_labelled 0 set_queues rest) + default_queues all) ≤ now.queue + arms_queues all = h.queue in
      record { log = omega (arith, e, p, l); queue = omega (arith, q, m) }

  pub arm_further : (now next : Rooms) (labels : Terms) (s : Stmt) (rest : Arms) → ArmsSpend before all now (arm labels s rest) → Leaves (arm_logs now.takes labels s) (arm_queues labels s) now next → ArmsSpend before all next rest
  arm_further now next labels s rest h k =
      let e : arm_logs now.takes labels s ≡ arm_logs before.takes labels s = ap (λ f. arm_logs f labels s) h.takes in
      let p : now.log ≤ next.log + arm_logs now.takes labels s = k.log in
      let q : now.queue ≤ next.queue + arm_queues labels s = k.queue in
      let l : before.log + ((arm_logs before.takes labels s + weigh_labelled 1 (set_logs before.takes) rest) + default_logs before.takes all) ≤ now.log + arms_logs before.takes all = h.log in
      let m : before.queue + ((arm_queues labels s + weigh_labelled 0 set_queues rest) + default_queues all) ≤ now.queue + arms_queues all = h.queue in
      record { log = omega (arith, e, p, l); takes = k.takes ∙ h.takes; queue = omega (arith, q, m) }

  pub default_room : (now : Rooms) → HasRoom (arms_logs before.takes all) (arms_queues all) before → ArmsSpend before all now no_arms → HasRoom (default_logs now.takes all) (default_queues all) now
  default_room now r h =
      let e : default_logs now.takes all ≡ default_logs before.takes all = ap (λ f. default_logs f all) h.takes in
      let p : arms_logs before.takes all ≤ before.log = r.log in
      let q : arms_queues all ≤ before.queue = r.queue in
      let l : before.log + (0 + default_logs before.takes all) ≤ now.log + arms_logs before.takes all = h.log in
      let m : before.queue + (0 + default_queues all) ≤ now.queue + arms_queues all = h.queue in
      record { log = omega (arith, e, p, l); queue = omega (arith, q, m) }

  -- the default has run, and the open tests are ended
  pub default_end : (now next last : Rooms) → ArmsSpend before all now no_arms → Leaves (default_logs now.takes all) (default_queues all) now next → Leaves 0 0 next last → Leaves (arms_logs before.takes all) (arms_queues all) before last
  default_end now next last h k j =
      let e : default_logs now.takes all ≡ default_logs before.takes all = ap (λ f. default_logs f all) h.takes in
      let p : now.log ≤ next.log + default_logs now.takes all = k.log in
      let q : now.queue ≤ next.queue + default_queues all = k.queue in
      let l : before.log + (0 + default_logs before.takes all) ≤ now.log + arms_logs before.takes all = h.log in
      let m : before.queue + (0 + default_queues all) ≤ now.queue + arms_queues all = h.queue in
      let x : next.log ≤ last.log + 0 = j.log in
      let y : next.queue ≤ last.queue + 0 = j.queue in
      record { log = omega (arith, e, p, l, x); takes = j.takes ∙ k.takes ∙ h.takes; queue = omega (arith, q, m, y) }

  -- a sure arm has run, and the open tests are ended
  pub arm_end : (now next last : Rooms) (labels : Terms) (s : Stmt) (rest : Arms) → ArmsSpend before all now (arm labels s rest) → Leaves (arm_logs now.takes labels s) (arm_queues labels s) now next → Leaves 0 0 next last → Leaves (arms_logs before.takes all) (arms_queues all) before last
  arm_end now next last labels s rest h k j =
      let g = arm_further now next labels s rest h k in
      let l : before.log + (weigh_labelled 1 (set_logs before.takes) rest + default_logs before.takes all) ≤ next.log + arms_logs before.takes all = g.log in
      let m : before.queue + (weigh_labelled 0 set_queues rest + default_queues all) ≤ next.queue + arms_queues all = g.queue in
      let x : next.log ≤ last.log + 0 = j.log in
      let y : next.queue ≤ last.queue + 0 = j.queue in
      record { log = omega (arith, l, x); takes = j.takes ∙ g.takes; queue = omega (arith, m, y) }

-- ---- the states of the arms

-- the arm has opened no test, or one
pub second_next : (d e : Design) (n : ℕ) (outer inner after : List Around) → AreSecond d n outer inner → AreSecond e 0 inner after → AreSecond d n outer after
second_next d e n outer inner after h g = subst (AreSecond d n outer) (sym g) h

pub second_open : (d e : Design) (n : ℕ) (outer inner after : List Around) → e ≡ d → AreSecond d n outer inner → AreSecond e 1 inner after → AreSecond d (n + 1) outer after
second_open d e n outer inner after same h g =
    let more : suc n ≡ n + 1 = omega arith in
    subst (λ k. AreSecond d k outer after) more (g.0, g.1, g.2, g.3, g.4 ∙ same, subst (AreSecond d n outer) (sym g.5) h)

-- what ends so many tests
abbrev pub Ends : ℕ → List Around → Scene → List KnownWrite → Scene → List KnownWrite → Type 0
Ends count around v queue w queued =
    (d : Design) (xs : List OpenArm) (outer : List Around) (a : State) (first : Option ℕ) → length xs ≡ count → AreOpen d xs outer around → IsState d a first v queue (λ ms. ms ≡ a.marks)
    → IsState d (close d xs a) first w queued (λ ms. ms ≡ a.marks)

-- whatever sink has the marks, since the end of tests makes none
pub ended : (count : ℕ) (around : List Around) (v w : Scene) (queue queued : List KnownWrite) → Ends count around v queue w queued → (Noted : List Mark → Type 0) (d : Design) (xs : List OpenArm) (outer : List Around) (a : State) (first : Option ℕ) → length xs ≡ count → AreOpen d xs outer around → IsState d a first v queue Noted → IsState d (close d xs a) first w queued Noted
ended count around v w queue queued ends Noted d xs outer a first n o h =
    let k = ends d xs outer a first n o (record { scene = h.scene; first = h.first; queue = h.queue; noted = refl }) in
    record { scene = k.scene; first = k.first; queue = k.queue; noted = subst Noted (sym k.noted) h.noted }

-- from each state at the start, a state from which the rest of the arms goes to the end, once the open arms are closed
pub record ArmsOn (kind : CaseKind) (on : Partly) (mode : Mode) (first : Option ℕ) (v : Scene) (queue : List KnownWrite) (Noted : List Mark → Type 0) (outer : List Around) (all : Arms) (inside : Mode) (now : Option ℕ) (w : Scene) (queued : List KnownWrite) (Now : List Mark → Type 0) (inner : List Around) (opened : ℕ) (rest : Arms) : Type 0 where
  pub goes : (d : Design) (a : State) (blame : ℕ) → (is_whole on ≡ false → on.blame ≡ blame) → IsState d a first v queue Noted → (xs : List OpenArm) × (b : State) × (length xs ≡ opened) × AreOpen d xs outer inner × IsState d b now w queued Now × (close d xs (run_arms d kind on.bits blame rest (run_default d all) inside b) ≡ run_arms d kind on.bits blame all (run_default d all) mode a)

-- what a selector blames, if it is not wholly sure
abbrev pub IsBlamed : Partly → ℕ → Type 0
IsBlamed on blame = is_whole on ≡ false → on.blame ≡ blame

-- what an arm does from each state
abbrev pub ArmRuns : CaseKind → Partly → Terms → Stmt → Mode → Option ℕ → Scene → List KnownWrite → (List Mark → Type 0) → List Around → Scene → List KnownWrite → (List Mark → Type 0) → List Around → AfterArm → Type 0
ArmRuns kind on labels s mode first v queue Noted before w queued Now after r =
    (d : Design) (a : State) (blame : ℕ) → IsBlamed on blame → IsState d a first v queue Noted → IsAfter d (λ others. arm_of d kind on.bits blame labels s others mode a) mode before w queued Now after r

module _ (kind : CaseKind) (on : Partly) (mode : Mode) (first : Option ℕ) (v : Scene) (queue : List KnownWrite) (Noted : List Mark → Type 0) (outer : List Around) (all : Arms) where
  abbrev On : Mode → Option ℕ → Scene → List KnownWrite → (List Mark → Type 0) → List Around → ℕ → Arms → Type 0
  On inside now w queued Now inner opened rest = ArmsOn kind on mode first v queue Noted outer all inside now w queued Now inner opened rest

  pub arms_start : On mode first v queue Noted outer 0 all
  arms_start = record { goes = λ d a blame e h. ([], a, refl, refl, h, refl) }

  module _ (inside : Mode) (now : Option ℕ) (w x : Scene) (queued more : List KnownWrite) (Now Next' : List Mark → Type 0) (inner after : List Around) (opened : ℕ) where
    -- the arm is sure not to match
    pub arms_next : (labels : Terms) (s : Stmt) (rest : Arms) (run : Progress) → On inside now w queued Now inner opened (arm labels s rest) → ArmRuns kind on labels s inside now w queued Now inner x more Next' after (Next run) → after ≡ inner → On run.mode run.first x more Next' after opened rest
    arms_next labels s rest run h f same =
        record {
          goes = λ d a blame e k.
              let p = h.goes d a blame e k in
              let q = f d p.1 blame e p.4 in
              (p.0, q.0, p.2, subst (AreOpen d p.0 outer) (sym same) p.3, q.1, ap (λ m. close d p.0 (run_arms d kind on.bits blame rest (run_default d all) m q.0)) q.2 ∙ ap (close d p.0) (sym (q.3 (run_arms d kind on.bits blame rest (run_default d all)))) ∙ p.5);
        }

    -- it is not decided, and its second branch runs
    pub arms_open : (labels : Terms) (s : Stmt) (rest : Arms) (run : Progress) → On inside now w queued Now inner opened (arm labels s rest) → ArmRuns kind on labels s inside now w queued Now inner x more Next' after (Open run) → On run.mode run.first x more Next' after (opened + 1) rest
    arms_open labels s rest run h f =
        record {
          goes = λ d a blame e k.
              let p = h.goes d a blame e k in
              let q = f d p.1 blame e p.4 in
              let one = q.2.1 in
              let n = p.2 in
              (q.2.0 ∷ p.0, q.0, omega (arith, n), (one.0, one.1, one.2, one.3, subst (AreOpen d p.0 outer) (sym one.4) p.3), q.1, ap (close d p.0) (sym (q.2.3 (run_arms d kind on.bits blame rest (run_default d all)))) ∙ p.5);
        }

    -- it is sure to match, and the open tests are ended
    pub arms_ran : (labels : Terms) (s : Stmt) (rest : Arms) (last : Option ℕ) (y : Scene) (most : List KnownWrite) → On inside now w queued Now inner opened (arm labels s rest) → ArmRuns kind on labels s inside now w queued Now inner x more Next' after (Ran last) → after ≡ inner → Ends opened after x more y most → (d : Design) (a : State) (blame : ℕ) → IsBlamed on blame → IsState d a first v queue Noted → IsState d (run_arms d kind on.bits blame all (run_default d all) mode a) last y most Next'
    arms_ran labels s rest last y most h f same ends d a blame e k =
        let p = h.goes d a blame e k in
        let q = f d p.1 blame e p.4 (run_arms d kind on.bits blame rest (run_default d all)) in
        subst (λ z. IsState d z last y most Next') p.5 (ended opened after x y more most ends Next' d p.0 outer _ last p.2 (subst (AreOpen d p.0 outer) (sym same) p.3) q)

    -- no arm is sure to match: the default runs, and the open tests are ended
    pub arms_end : (last : Option ℕ) (y : Scene) (most : List KnownWrite) → On inside now w queued Now inner opened no_arms → ((d : Design) (b : State) → IsState d b now w queued Now → IsState d (run_default d all inside b) last x more Next') → after ≡ inner → Ends opened after x more y most → (d : Design) (a : State) (blame : ℕ) → IsBlamed on blame → IsState d a first v queue Noted → IsState d (run_arms d kind on.bits blame all (run_default d all) mode a) last y most Next'
    arms_end last y most h f same ends d a blame e k =
        let p = h.goes d a blame e k in
        let q = f d p.1 p.4 in
        subst (λ z. IsState d z last y most Next') p.5 (ended opened after x y more most ends Next' d p.0 outer _ last p.2 (subst (AreOpen d p.0 outer) (sym same) p.3) q)

-- Where the run of a case is after an arm.
use Rattle.std.specs.Prelude.{◌≡◌, ◌∷◌, ℕ, List, []}
use Rattle.assignments.specs.four_state.declared.operator.CaseKind.{CaseKind}
use Rattle.assignments.specs.design_model.Design.{Design}
use Rattle.assignments.specs.design_model.Tree.{Stmt, Terms}
use Rattle.assignments.specs.body_replay.KnownBits.{KnownBits}
use Rattle.assignments.specs.body_replay.Store.{KnownWrite}
use Rattle.assignments.specs.body_replay.Replay.{Mark, Mode, State, decide, deeper, joined_states, labels_blame, labels_match, run, see_labels}
use Rattle.assignments.specs.term_replay.Stands.{Scene}
use Rattle.assignments.specs.body_calls.Ways.{Around}
use Rattle.assignments.specs.scene_laws.At.{IsState}
use Rattle.open_tests.specs.Open.{AreOpen, OpenArm}
use Rattle.open_tests.specs.declared.after_arm.AfterArm.{AfterArm}
use Rattle.open_tests.specs.declared.after_arm.AfterArm.TheVariants.{Next, Open, Ran}

-- an arm, and then the others
abbrev pub arm_of : Design → CaseKind → KnownBits → ℕ → Terms → Stmt → (Mode → State → State) → Mode → State → State
arm_of d kind on on_blame labels s others mode a =
    decide d mode (labels_blame d kind on on_blame a.kept a.blames a.first labels) (run d s) others (labels_match d kind on a.kept labels) (see_labels d mode kind on on_blame labels a)

-- a run of the others of which nothing is said
abbrev pub Others : Type 0
Others = Mode → State → State

-- the state after an arm, by what the arm returned: that of all arms, or one from which the others go on
abbrev pub IsAfter : Design → (Others → State) → Mode → List Around → Scene → List KnownWrite → (List Mark → Type 0) → List Around → AfterArm → Type 0
IsAfter d whole mode before v queued Noted after (Ran first) = (others : Others) → IsState d (whole others) first v queued Noted
IsAfter d whole mode before v queued Noted after (Next run) =
    (b : State) × IsState d b run.first v queued Noted × (run.mode ≡ mode) × ((others : Others) → whole others ≡ others mode b)
IsAfter d whole mode before v queued Noted after (Open run) =
    (b : State) × IsState d b run.first v queued Noted
    × ((x : OpenArm) × AreOpen d (x ∷ []) before after × (run.mode ≡ deeper mode x.test) × ((others : Others) → whole others ≡ joined_states d x.test x.left (others run.mode b)))

-- how many second branches the arm has opened
abbrev pub opened_by : AfterArm → ℕ
opened_by (Ran first) = 0
opened_by (Next run) = 0
opened_by (Open run) = 1

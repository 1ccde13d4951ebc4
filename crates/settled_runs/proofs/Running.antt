-- What a store knows after the run of a body on settled values.
use Rattle.std.proofs.Common.{◌≡◌, ℕ, ◌+◌, ◌<◌, ◌≤◌, ◌==◌, true, false, List, [], ◌∷◌, ◌++◌, length, refl, sym, ap, ap₂, subst, ◌∙◌, arith, eq-eqb}
use Rattle.std.specs.List.{All}
use Rattle.std.proofs.lemmas.Bool.{false_from_ne_true, or_left, or_right}
use Rattle.std.proofs.lemmas.Bool.Decides.{nat_tests}
use Rattle.std.proofs.lemmas.List.Elements.{All-cons, All-nil}
use Rattle.design_model.specs.Design.{Design, IsClocked, body, body_at, is_number, process_at}
use Rattle.design_model.specs.Lawful.{IsLawfulDesign}
use Rattle.design_model.specs.Mentions.{any_set, body_assigns}
use Rattle.design_model.specs.Tree.{Process, Stmt}
use Rattle.design_model.specs.View.{design_view}
use Rattle.design_model.proofs.BodyLaws.{settled_signals_law}
use Rattle.body_replay.specs.Contract.{Certainty, Outcome, outcome}
use Rattle.body_replay.specs.Runs.{AreRuns, StoreView, own_store, runs_of}
use Rattle.body_replay.specs.Store.{Kept}
use Rattle.block_runs.specs.term_replay.Stands.{Scene}
use Rattle.block_runs.specs.body_calls.Own.{IsOwn, is_in}
use Rattle.block_runs.specs.body_calls.Rooms.{Rooms}
use Rattle.block_runs.specs.body_calls.Under.{kept_with}
use Rattle.store_knowledge.specs.scene_laws.At.{flat}
use Rattle.store_knowledge.specs.open_tests.Weights.{HasRoomFor, logs, queues}
use Rattle.store_knowledge.specs.body_store.declared.store.Store.{Store}
use Rattle.store_knowledge.specs.body_store.Bodies.{around_of, queued_of, rooms_of}
use Rattle.store_knowledge.specs.body_store.Held.{HoldsStore}
use Rattle.store_knowledge.specs.body_store.Made.{unblamed}
use Rattle.store_knowledge.specs.body_store.Owned.{IsBlank}
use Rattle.store_knowledge.specs.body_store.Scenes.{scene_of}
use Rattle.store_knowledge.specs.body_store.Views.{hides, kept_scene, under_of}
use Rattle.store_knowledge.proofs.body_store.ViewLaws.{under_here}
use Rattle.block_runs.specs.Met.{met, outcome_on}
use Rattle.block_runs.specs.Notes.{way_of}
use Rattle.block_runs.specs.declared.certainty.Certainty.{Certainty as CodeCertainty}
use Rattle.process_targets.proofs.Settled.{settled_law}
use Rattle.replay_steps.specs.replay_model.Step.{plain_store}
use Rattle.replay_steps.proofs.Cells.{drives_cells}
use Rattle.store_knowledge.specs.Knows.{Knows}
use Rattle.store_knowledge.proofs.Known.{own_known, view_known}
use Rattle.settled_runs.proofs.Unqueued.{is_queued, is_unqueued, run_empty, takes_none}

-- ---- what a run asks

-- the members of a list are numbers of the design
pub are_numbers : (d : Design) (xs : List ℕ) → ((x : ℕ) → is_in xs x ≡ true → is_number d x ≡ true) → All (λ x. is_number d x ≡ true) xs
are_numbers d [] all = All-nil (λ x. is_number d x ≡ true)
are_numbers d (x ∷ xs) all = All-cons (λ y. is_number d y ≡ true) x xs (all x (or_left (x == x) (is_in xs x) (eq-eqb x x refl))) (are_numbers d xs (λ y h. all y (or_right (x == y) (is_in xs y) h)))

module _ (d : Design) (p : ℕ) (lawful : IsLawfulDesign d) (settles : IsClocked (process_at d p) → ⊥) where
  pub assigned_signal : (x : ℕ) → body_assigns x (body_at d p) ≡ true → x < length d.signals
  assigned_signal x e = settled_signals_law d lawful p x settles e

  pub assigned_number : (x : ℕ) → body_assigns x (body_at d p) ≡ true → is_number d x ≡ true
  assigned_number x e = let l = assigned_signal x e in grind (arith, nat_tests, l)

  -- of what is no cell of the design nothing is known after the run
  run_blank : AreRuns d (runs_of d) → (k : Kept) (how : Certainty) → IsBlank d k → IsBlank d (runs_of d p (plain_store k) how).kept
  run_blank runs k how blank c out = runs.frame p (plain_store k) how c (false_from_ne_true _ (λ e. out (drives_cells d p (λ x b. assigned_signal x (sym ((settled_law d lawful p settles).named x) ∙ b)) c e))) ∙ blank c out

module _ (d : Design) (k : Kept) (x : Store) (h : Knows d k x) where
  -- the run meets what is known
  pub met_known : met (under_of x) (scene_of x) ≡ plain_store k
  met_known = ap {B = StoreView} (λ (v : Scene). record { kept = v.kept; hidden = hides x; shown = (scene_of x).kept }) (under_here x) ∙ view_known d k x h

  pub kept_own : IsOwn (kept_with (under_of x) (scene_of x))
  kept_own = subst IsOwn (sym (under_here x)) (own_known d k x h).0

  pub read_own : IsOwn (scene_of x)
  read_own = (own_known d k x h).1

  module _ (p : ℕ) (q : Process) (how : CodeCertainty) (is : body q ≡ body_at d p) where
    -- the outcome is that of the definition
    pub outcome_known : outcome_on (under_of x) (scene_of x) q how ≡ runs_of d p (plain_store k) (way_of how)
    outcome_known =
        ap (λ e. outcome e (body q) (own_store (met (under_of x) (scene_of x))) (way_of how)) h.design
        ∙ ap₂ (λ s v. outcome d s (own_store v) (way_of how)) is met_known

-- ---- what the store knows after it

-- the room of a store is as before, and there is no less in its queue
record KeepsRooms (before after : Rooms) : Type 0 where
  pub log : after.log ≡ before.log
  pub takes : after.takes ≡ before.takes
  pub queue : before.queue ≤ after.queue

same_room : (s : Stmt) (before after : Rooms) → KeepsRooms before after → HasRoomFor s [] before → HasRoomFor s [] after
same_room s before after same room =
    let log = same.log in
    let queue = same.queue in
    let old = room.log in
    let fits = room.queue in
    record {
      log = subst (λ (f : ℕ → ℕ). logs (λ y. 0) f s ≤ after.log) (sym same.takes) (omega (arith, old, log));
      queue = omega (arith, fits, queue);
    }

-- what a run has left in a store
pub record HasRun (d : Design) (x y : Store) (o : Outcome) (s : Stmt) : Type 0 where
  pub design : design_view y.design.now ≡ d
  pub kept : (kept_with (under_of y) (scene_of y)).kept ≡ o.kept
  pub queued : queued_of y ≡ queued_of x ++ flat o.queue
  pub own : IsOwn (kept_with (under_of y) (scene_of y))
  pub hidden : hides y ≡ hides x
  pub around : around_of y ≡ []
  pub log : (rooms_of y).log ≡ (under_of x).log
  pub takes : (rooms_of y).takes ≡ (rooms_of x).takes
  pub queue : (rooms_of x).queue ≤ (rooms_of y).queue + queues s
  pub room : around_of x ≡ [] → (rooms_of x).log ≡ (under_of x).log
  pub holds : IsOwn (kept_scene y) → HoldsStore (design_view y.design.now) (kept_scene y).kept unblamed y

module _ (d : Design) (k : Kept) (x y : Store) (p : ℕ) (how : Certainty) (lawful : IsLawfulDesign d) (settles : IsClocked (process_at d p) → ⊥) (runs : AreRuns d (runs_of d)) (h : Knows d k x) (ran : HasRun d x y (runs_of d p (plain_store k) how) (body_at d p)) where
  abbrev o : Outcome
  o = runs_of d p (plain_store k) how

  unqueued : any_set is_queued (body_at d p) ≡ false
  unqueued = is_unqueued d p lawful settles

  kept_is : (kept_scene y).kept ≡ o.kept
  kept_is = ap (λ (v : Scene). v.kept) (sym (under_here y)) ∙ ran.kept

  holds_run : HoldsStore d o.kept unblamed y
  holds_run = subst (λ j. HoldsStore d j unblamed y) kept_is (subst (λ e. HoldsStore e (kept_scene y).kept unblamed y) ran.design (ran.holds (subst IsOwn (under_here y) ran.own)))

  rooms_kept : KeepsRooms (rooms_of x) (rooms_of y)
  rooms_kept =
      let none = takes_none (body_at d p) unqueued in
      let queue = ran.queue in
      record { log = ran.log ∙ sym (ran.room h.around); takes = ran.takes; queue = omega (arith, none, queue) }

  pub run_known : Knows d o.kept y
  run_known = record {
    design = ran.design;
    blank = run_blank d p lawful settles runs k how h.blank;
    owned = holds_run;
    plain = λ t. ap (λ f. f t) ran.hidden ∙ h.plain t;
    queued = ran.queued ∙ ap₂ (λ ws vs. ws ++ vs) h.queued (run_empty d (body_at d p) (own_store (plain_store k)) how unqueued);
    around = ran.around;
    rooms = λ q b. same_room (body_at d q) (rooms_of x) (rooms_of y) rooms_kept (h.rooms q b);
  }

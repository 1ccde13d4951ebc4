-- What the run of a body leaves in a store.
use Rattle.std.proofs.Common.{◌≡◌, ℕ, ◌+◌, ◌<◌, ◌≤◌, ◌==◌, true, List, [], ◌∷◌, ◌++◌, length, refl, sym, ap, ap₂, subst, ◌∙◌, eq-eqb}
use Rattle.std.specs.List.{All}
use Rattle.std.proofs.lemmas.Bool.{or_left, or_right}
use Rattle.std.proofs.lemmas.List.Elements.{All-cons, All-nil}
use Rattle.design_model.specs.BodyLaws.{all_cells}
use Rattle.design_model.specs.Design.{Design, In, body, body_at, is_number}
use Rattle.design_model.specs.Tree.{Process, Stmt}
use Rattle.design_model.specs.View.{design_view}
use Rattle.run_views.specs.body_replay.Contract.{Outcome, outcome}
use Rattle.run_views.specs.body_replay.Runs.{StoreView, own_store, runs_of}
use Rattle.run_views.specs.body_replay.Store.{Kept, KnownWrite}
use Rattle.run_views.specs.body_store.declared.store.Store.{Store}
use Rattle.run_views.specs.body_store.Bodies.{around_of, queued_of, rooms_of}
use Rattle.run_views.specs.body_store.Held.{HoldsStore}
use Rattle.run_views.specs.body_store.Made.{unblamed}
use Rattle.run_views.specs.body_store.Scenes.{scene_of}
use Rattle.run_views.specs.body_store.Updates.{queued_writes}
use Rattle.run_views.specs.body_store.Views.{hides, kept_scene, under_of, view_of}
use Rattle.run_views.specs.Meets.{Keeps, Meets, plain_view}
use Rattle.run_views.proofs.Running.{kept_law, run_law}
use Rattle.run_views.proofs.body_store.ViewLaws.{under_here}
use Rattle.block_runs.specs.body_calls.Own.{IsOwn, is_in}
use Rattle.block_runs.specs.body_calls.Under.{kept_with}
use Rattle.block_runs.specs.term_replay.Stands.{Scene}
use Rattle.block_runs.specs.Met.{met, outcome_on}
use Rattle.block_runs.specs.Notes.{way_of}
use Rattle.block_runs.specs.declared.certainty.Certainty.{Certainty}
use Rattle.store_knowledge.specs.scene_laws.At.{flat}
use Rattle.store_knowledge.specs.open_tests.Weights.{HasRoomFor, queues}
use Rattle.clocked_runs.specs.CanRun.{CanRun}
use Rattle.clocked_runs.proofs.Blank.{kept_blank}
use Rattle.clocked_runs.proofs.Rooms.{turn_first, turn_more}

-- ---- what a run asks

-- the members of a list are numbers of the design
pub are_numbers : (d : Design) (xs : List ℕ) → ((x : ℕ) → is_in xs x ≡ true → is_number d x ≡ true) → All (λ x. is_number d x ≡ true) xs
are_numbers d [] all = All-nil (λ x. is_number d x ≡ true)
are_numbers d (x ∷ xs) all = All-cons (λ y. is_number d y ≡ true) x xs (all x (or_left (x == x) (is_in xs x) (eq-eqb x x refl))) (are_numbers d xs (λ y h. all y (or_right (x == y) (is_in xs y) h)))

module _ (d : Design) (v : StoreView) (x : Store) (h : Meets d v x) where
  pub kept_own : IsOwn (kept_with (under_of x) (scene_of x))
  kept_own = subst IsOwn (sym (under_here x)) (kept_law d v.kept x h.keeps).1

  -- the run meets the store as it is seen
  met_view : met (under_of x) (scene_of x) ≡ view_of x
  met_view = ap {B = StoreView} (λ (w : Scene). record { kept = w.kept; hidden = hides x; shown = (scene_of x).kept }) (under_here x)

  -- the outcome is that of the definition
  pub outcome_is : (p : ℕ) (q : Process) (how : Certainty) → body q ≡ body_at d p → outcome_on (under_of x) (scene_of x) q how ≡ runs_of d p v (way_of how)
  outcome_is p q how is =
      ap (λ e. outcome e (body q) (own_store (met (under_of x) (scene_of x))) (way_of how)) h.keeps.design
      ∙ ap₂ (λ s w. outcome d s (own_store w) (way_of how)) is met_view
      ∙ run_law d v x h p (way_of how)

pub room_first : (d : Design) (v : StoreView) (ws : List KnownWrite) (p : ℕ) (ps : List ℕ) (x : Store) → p < length d.processes → CanRun d v ws (p ∷ ps) x → HasRoomFor (body_at d p) [] (rooms_of x)
room_first d v ws p ps x l h = record { log = h.rooms.log p l; queue = turn_first d p ps (rooms_of x) (rooms_of x) h.rooms }

-- ---- what is kept and queued after it

-- what a run has left in a store, before bodies read what is kept again
pub record HasRun (d : Design) (x y : Store) (o : Outcome) (s : Stmt) : Type 0 where
  pub design : design_view y.design.now ≡ d
  pub kept : (kept_with (under_of y) (scene_of y)).kept ≡ o.kept
  pub queued : queued_of y ≡ queued_of x ++ flat o.queue
  pub own : IsOwn (kept_with (under_of y) (scene_of y))
  pub around : around_of y ≡ []
  pub log : (rooms_of y).log ≡ (under_of x).log
  pub takes : (rooms_of y).takes ≡ (rooms_of x).takes
  pub queue : (rooms_of x).queue ≤ (rooms_of y).queue + queues s
  pub room : around_of x ≡ [] → (rooms_of x).log ≡ (under_of x).log
  pub holds : IsOwn (kept_scene y) → HoldsStore (design_view y.design.now) (kept_scene y).kept unblamed y

module _ (d : Design) (x y : Store) (o : Outcome) (s : Stmt) (ran : HasRun d x y o s) where
  kept_is : (kept_scene y).kept ≡ o.kept
  kept_is = ap (λ (w : Scene). w.kept) (sym (under_here y)) ∙ ran.kept

  held : HoldsStore (design_view y.design.now) (kept_scene y).kept unblamed y
  held = ran.holds (subst IsOwn (under_here y) ran.own)

  pub run_keeps : Keeps d o.kept y
  run_keeps =
      record {
        design = ran.design;
        blank = λ c out. ap (λ (k : Kept). k c) (sym kept_is) ∙ kept_blank y (kept_scene y).kept unblamed held c (λ i. out (subst (λ e. In c (all_cells e c.thing)) ran.design i));
        owned = subst (λ k. HoldsStore d k unblamed y) kept_is (subst (λ e. HoldsStore e (kept_scene y).kept unblamed y) ran.design held);
        around = ran.around;
      }

-- then bodies read what is kept
module _ (d : Design) (v : StoreView) (ws : List KnownWrite) (p : ℕ) (ps : List ℕ) (x y z : Store) (o : Outcome) (ran : HasRun d x y o (body_at d p)) (h : CanRun d v ws (p ∷ ps) x) (plain : (k : Kept) → Keeps d k y → Meets d (plain_view k) z) (design : z.design ≡ y.design) (updates : z.updates ≡ y.updates) (rooms : rooms_of z ≡ rooms_of y) where
  pub run_ready : CanRun d (plain_view o.kept) (ws ++ flat o.queue) ps z
  run_ready =
      record {
        meets = plain o.kept (run_keeps d x y o (body_at d p) ran);
        queued = ap₂ (λ e u. queued_writes (design_view e.now) u.items) design updates ∙ ran.queued ∙ ap (λ us. us ++ flat o.queue) h.queued;
        rooms = turn_more d p ps (rooms_of x) (rooms_of z) h.rooms (ap (λ r. r.log) rooms ∙ ran.log ∙ sym (ran.room h.meets.keeps.around)) (ap (λ r. r.takes) rooms ∙ ran.takes) (subst (λ r. (rooms_of x).queue ≤ r.queue + queues (body_at d p)) (sym rooms) ran.queue);
      }

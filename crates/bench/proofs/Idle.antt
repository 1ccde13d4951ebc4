-- A store stays as it is between runs.
use Rattle.std.proofs.Common.{◌<◌, ◌≡◌, ◌∙◌, ℕ, [], ap, arith, length, subst, sym}
use Rattle.design_model.specs.Design.{Design, body_at}
use Rattle.design_model.specs.Lawful.{IsLawfulDesign}
use Rattle.design_model.specs.View.{design_view}
use Rattle.body_replay.specs.Store.{Kept}
use Rattle.value_store.specs.Rooms.{as_usize, processes_queued}
use Rattle.body_calls.specs.Own.{IsOwn}
use Rattle.body_calls.specs.Under.{kept_with}
use Rattle.open_tests.specs.Weights.{HasRoomFor}
use Rattle.body_store.specs.Bodies.{around_of, rooms_of}
use Rattle.body_store.specs.Held.{HoldsStore}
use Rattle.body_store.specs.Laws.{UnderLaw}
use Rattle.body_store.specs.Made.{unblamed}
use Rattle.body_store.specs.Owned.{KeptOwnLaw, SameLaw}
use Rattle.body_store.specs.Scenes.{scene_of}
use Rattle.body_store.specs.Views.{hides, kept_scene, under_of}
use Rattle.body_store.specs.declared.store.Store.{Store}
use Rattle.body_rooms.specs.Rooms.{AmongLaw, PlacesLaw, ReadyLaw}
use Rattle.bench.specs.Idle.{IsIdle}

-- a call between runs that keeps something with each thing to blame for itself
pub still_idle : (d : Design) (x y : Store) (k : Kept) → IsIdle d x → y.design ≡ x.design → (around_of x ≡ [] → around_of y ≡ []) → rooms_of y ≡ rooms_of x
    → y.log ≡ x.log → hides y ≡ hides x → y.updates ≡ x.updates → KeptOwnLaw → HoldsStore (design_view x.design.now) k unblamed y → IsIdle d y
still_idle d x y k idle design around rooms log hidden updates owned holds =
    record {
      design = ap (λ b. design_view b.now) design ∙ idle.design;
      around = around idle.around;
      plain = λ t. ap (λ f. f t) hidden ∙ idle.plain t;
      own = owned y k (subst (λ b. HoldsStore (design_view b.now) k unblamed y) (sym design) holds);
      log = ap (λ r. r.log) rooms ∙ idle.log ∙ sym (ap (λ l. l.room) log);
      queue = ap (λ r. r.queue) rooms ∙ idle.queue ∙ sym (ap (λ u. u.room) updates);
    }

-- the room of the queue is that of the design
same_places : (x y : Store) → design_view y.design.now ≡ design_view x.design.now → y.updates.room ≡ x.updates.room
same_places x y design = y.counted.queue_is ∙ ap (λ (d : Design). as_usize (processes_queued d.processes)) design ∙ sym x.counted.queue_is

-- after a run and a flush
pub idle_again : (d : Design) (x y z : Store) → IsIdle d x → UnderLaw
    → design_view y.design.now ≡ design_view x.design.now → around_of y ≡ [] → hides y ≡ hides x → IsOwn (kept_with (under_of y) (scene_of y))
    → (rooms_of y).log ≡ (under_of x).log → (under_of y).log ≡ (under_of x).log
    → z.design ≡ y.design → (around_of y ≡ [] → around_of z ≡ []) → hides z ≡ hides y → (IsOwn (kept_scene y) → IsOwn (kept_scene z))
    → rooms_of z ≡ record (rooms_of y) { queue = y.updates.room } → z.log ≡ y.log → IsIdle d z
idle_again d x y z idle under design none hidden own log size design' around hidden' own' rooms log' =
    let same : design_view z.design.now ≡ design_view y.design.now = ap (λ b. design_view b.now) design' in
    record {
      design = same ∙ design ∙ idle.design;
      around = around none;
      plain = λ t. ap (λ f. f t) (hidden' ∙ hidden) ∙ idle.plain t;
      own = own' (subst IsOwn (under y) own);
      log = ap (λ r. r.log) rooms ∙ log ∙ sym size ∙ sym (ap (λ l. l.room) log');
      queue = ap (λ r. r.queue) rooms ∙ sym (same_places y z same);
    }

pub kept_own : (d : Design) (x : Store) → IsIdle d x → UnderLaw → IsOwn (kept_with (under_of x) (scene_of x))
kept_own d x idle under = subst IsOwn (sym (under x)) idle.own

pub read_own : (d : Design) (x : Store) → IsIdle d x → SameLaw → IsOwn (scene_of x)
read_own d x idle same = subst IsOwn (same x idle.plain) idle.own

-- there is room for the run of the body of each process
pub has_room : (d : Design) (x : Store) (p : ℕ) → IsIdle d x → IsLawfulDesign d → p < length d.processes → PlacesLaw → AmongLaw → ReadyLaw → HasRoomFor (body_at d p) [] (rooms_of x)
has_room d x p idle lawful l places among ready =
    let b = design_view x.design.now in
    let here : IsLawfulDesign b = subst IsLawfulDesign (sym idle.design) lawful in
    let inside : p < length b.processes = subst (λ (e : Design). p < length e.processes) (sym idle.design) l in
    let all = places x here in
    let one = among b p inside in
    let queue = idle.queue in
    subst (λ e. HasRoomFor (body_at e p) [] (rooms_of x)) idle.design (ready x p here inside idle.log (omega (arith, all, one, queue)))

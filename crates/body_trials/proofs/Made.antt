-- A new store is ready for the run of any body of its design.
use Rattle.std.proofs.Common.{◌≡◌, ◌<◌, ◌≤◌, ℕ, [], IfOk, Result, Ok, Err, ap, arith, false, length, map, subst, sym}
use Rattle.std.proofs.lemmas.List.{length-map}
use Rattle.design_model.specs.declared.design.Design as m
use Rattle.design_model.specs.Design.{body_at}
use Rattle.design_model.specs.Lawful.{IsLawfulDesign}
use Rattle.design_model.specs.View.{design_view, process_view}
use Rattle.value_store.specs.Rooms.{queued_parts}
use Rattle.body_rooms.specs.open_tests.Weights.{HasRoomFor}
use Rattle.body_rooms.specs.Rooms.{AmongLaw, PlacesLaw, ReadyLaw}
use Rattle.body_store.specs.Bodies.{around_of, rooms_of}
use Rattle.body_store.specs.Held.{HoldsStore}
use Rattle.body_store.specs.Made.{nothing, unblamed}
use Rattle.body_store.specs.Views.{hides, under_of}
use Rattle.body_store.specs.declared.store.Store.{Store}
use Rattle.body_trials.specs.Ready.{IsReady}

module _ (D : m.Design) (lawful : IsLawfulDesign (design_view D)) (places : PlacesLaw) (among : AmongLaw) (ready : ReadyLaw) where
  ready_with : (x : Store) → HoldsStore (design_view D) nothing unblamed x → x.design.now ≡ D → around_of x ≡ [] → ((t : ℕ) → hides x t ≡ false) → (rooms_of x).log ≡ (under_of x).log → (rooms_of x).queue ≡ x.updates.room → IsReady D x
  ready_with x holds design around plain log queue =
      let d = design_view x.design.now in
      let own : IsLawfulDesign d = subst (λ b. IsLawfulDesign (design_view b)) (sym design) lawful in
      record {
        lawful = lawful;
        design = design;
        seen = ap design_view design;
        around = around;
        plain = plain;
        known = nothing;
        held = holds;
        room = λ p l.
            let size : length (map process_view x.design.now.processes) ≡ length x.design.now.processes = length-map x.design.now.processes process_view in
            let same : length x.design.now.processes ≡ length D.processes = ap (λ b. length b.processes) design in
            let inside : p < length d.processes = omega (arith, l, size, same) in
            let all = places x own in
            let one = among d p inside in
            let fits : queued_parts (body_at d p) ≤ (rooms_of x).queue = omega (arith, all, one, queue) in
            subst (λ b. HasRoomFor (body_at (design_view b) p) [] (rooms_of x)) design (ready x p own inside log fits);
      }

  pub made_ready : {E : Type 0} (r : Result Store E) → IfOk r (λ x. HoldsStore (design_view D) nothing unblamed x) → IfOk r (λ x. x.design.now ≡ D) → IfOk r (λ x. around_of x ≡ []) → IfOk r (λ x. (t : ℕ) → hides x t ≡ false)
      → IfOk r (λ x. (rooms_of x).log ≡ (under_of x).log) → IfOk r (λ x. (rooms_of x).queue ≡ x.updates.room) → IfOk r (λ x. IsReady D x)
  made_ready (Ok x) holds design around plain log queue = ready_with x holds design around plain log queue
  made_ready (Err e) holds design around plain log queue = tt

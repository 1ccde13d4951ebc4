-- A store has the room that the bodies of its design need.
use Rattle.std.proofs.Common.{Bool, List, [], arith, false, if◌then◌else◌, length, slice_index_or, suc, true, zero, ℕ, ◌&&◌, ◌*◌, ◌+◌, ◌<◌, ◌∙◌, ◌∷◌, ◌≡◌, ◌≤◌, refl}
use Rattle.std.specs.Prelude.{nat_le, sum_by}
use Rattle.std.proofs.lemmas.Bool.{and_parts}
use Rattle.std.proofs.lemmas.List.Sums.{sum_by-cons}
use Rattle.design_model.specs.Assignment.{target_width}
use Rattle.design_model.specs.Design.{Design, body, no_process}
use Rattle.design_model.specs.Lawful.{IsLawfulDesign, arm_sizes, size, size_of, sizes}
use Rattle.design_model.specs.Shape.{are_bodies, are_shaped, is_alone, is_arms, is_body, is_target}
use Rattle.design_model.specs.Tree.{Arms, Process, Stmt, Stmts, Target, a_stmt, arm, assign, block, branch, clocked, comb, empty, no_arms, no_stmts, select, set, turns}
use Rattle.design_model.specs.View.{design_view}
use Rattle.value_store.specs.Rooms.{all_queued, arms_queued, as_usize, processes_queued, queued_parts, target_parts}
use Rattle.open_tests.specs.assignments.Widths.{HasWidths}
use Rattle.open_tests.proofs.assignments.Assigned.{set_narrow}
use Rattle.open_tests.proofs.assignments.Lawful.{lawful_widths}
use Rattle.body_store.specs.Bodies.{rooms_of}
use Rattle.body_store.specs.declared.store.Store.{Store}
use Rattle.body_rooms.proofs.Counted.{counted, parts_fit}
use Rattle.body_rooms.proofs.Weighed.{has_room}
use Rattle.body_rooms.specs.Rooms.{AmongLaw, PlacesLaw, ReadyLaw}

module _ (d : Design) (w : HasWidths d) where
  set_few : (blocking : Bool) (x : Target) → is_target d x ≡ true → target_width d x ≤ 128 → (if blocking then 0 else target_parts x) ≤ 128
  set_few true x h n = omega arith
  set_few false x h n = let p = parts_fit d w x h in omega (arith, p, n)

  mutual
    queued_few : (s : Stmt) → is_body d s ≡ true → queued_parts s ≤ size s * 128
    queued_few (block p ss) h = let more = all_queued_few ss h in omega (arith, more)
    queued_few (branch p n t s other) h =
        let both = and_parts (is_alone d t && is_body d s) (are_bodies d other) h in
        let one = queued_few s (and_parts (is_alone d t) (is_body d s) both.0).1 in
        let more = all_queued_few other both.1 in
        omega (arith, one, more)
    queued_few (select p n kind t arms) h = let more = arms_queued_few arms _ _ (and_parts _ (is_arms d _ _ arms) h).1 in omega (arith, more)
    queued_few (turns p n ss) h = let more = all_queued_few ss h in omega (arith, more)
    queued_few (set p n blocking x t) h = let one = set_few blocking x (and_parts (is_target d x) _ h).0 (set_narrow d x t h) in omega (arith, one)
    queued_few (empty p) h = omega arith

    all_queued_few : (ss : Stmts) → are_bodies d ss ≡ true → all_queued ss ≤ sizes ss * 128
    all_queued_few no_stmts h = omega arith
    all_queued_few (a_stmt s ss) h =
        let both = and_parts (is_body d s) (are_bodies d ss) h in
        let one = queued_few s both.0 in
        let more = all_queued_few ss both.1 in
        omega (arith, one, more)

    arms_queued_few : (arms : Arms) (k : ℕ) (g : Bool) → is_arms d k g arms ≡ true → arms_queued arms ≤ arm_sizes arms * 128
    arms_queued_few no_arms k g h = omega arith
    arms_queued_few (arm labels s arms) k g h =
        let outer = and_parts (are_shaped d k g labels && is_body d s) (is_arms d k g arms) h in
        let one = queued_few s (and_parts (are_shaped d k g labels) (is_body d s) outer.0).1 in
        let more = arms_queued_few arms k g outer.1 in
        omega (arith, one, more)

  process_few : (p : Process) → is_body d (body p) ≡ true → queued_parts (body p) ≤ size_of p * 128
  process_few (assign i x t counted) h = omega arith
  process_few (comb i wakes s) h = queued_few s h
  process_few (clocked i events s) h = queued_few s h

  parts_few : (ps : List Process) → ((i : ℕ) → i < length ps → is_body d (body (slice_index_or ps i no_process)) ≡ true) → processes_queued ps ≤ sum_by size_of ps * 128
  parts_few [] h = omega arith
  parts_few (p ∷ ps) h =
      let one = process_few p (h 0 (omega arith)) in
      let more = parts_few ps (λ i less. h (suc i) (omega (arith, less))) in
      let sum : sum_by size_of (p ∷ ps) ≡ size_of p + sum_by size_of ps = sum_by-cons size_of p ps in
      omega (arith, one, more, sum)

-- the parts of the nonblocking assignments of a lawful design are a `usize`
queued_counted : (d : Design) → IsLawfulDesign d → as_usize (processes_queued d.processes) ≡ processes_queued d.processes
queued_counted d h =
    let parts = parts_few d (lawful_widths d h) d.processes (λ i less. h.bodies i) in
    let few = h.few_statements in
    omega (arith, parts, few)

pub has_places : PlacesLaw
has_places x h = x.counted.queue_is ∙ queued_counted (design_view x.design.now) h

among_these : (ps : List Process) (p : ℕ) → p < length ps → queued_parts (body (slice_index_or ps p no_process)) ≤ processes_queued ps
among_these [] p l = absurd (omega (arith, l))
among_these (x ∷ ps) zero l = omega arith
among_these (x ∷ ps) (suc p) l = let rest = among_these ps p (omega (arith, l)) in omega (arith, rest)

pub among : AmongLaw
among d p l = among_these d.processes p l

pub is_ready : ReadyLaw
is_ready x p h l free places =
    let d = design_view x.design.now in
    let enough = free ∙ x.counted.log_is ∙ counted d h in
    has_room d p (rooms_of x) l refl (omega (arith, enough)) places

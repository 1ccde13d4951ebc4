-- The queue of a store has room for what different processes queue, one after the other.
use Rattle.std.proofs.Common.{◌≡◌, ◌≢◌, ℕ, ◌+◌, ◌<◌, ◌≤◌, List, [], ◌∷◌, length, map, get_or, refl, sym, ap, subst, ◌∙◌, arith, inl, inr}
use Rattle.std.specs.Prelude.{sum_by}
use Rattle.std.proofs.Math.ListN.{set}
use Rattle.std.proofs.lemmas.List.{get_or-map, get_or-set_other, length-map, length-set}
use Rattle.std.proofs.lemmas.List.Sums.{sum_by-cons, sum_by-set}
use Rattle.design_model.specs.Design.{AreDistinct, Design, In, body, body_at, no_process}
use Rattle.design_model.specs.Tree.{Process}
use Rattle.value_store.specs.Rooms.{processes_queued, queued_parts}
use Rattle.body_rooms.proofs.Weighed.{queues_are}
use Rattle.run_views.specs.body_calls.Rooms.{Rooms}
use Rattle.store_knowledge.specs.open_tests.Weights.{logs, queues}
use Rattle.clocked_runs.specs.CanRun.{HasRoomInTurn}

abbrev itself : ℕ → ℕ
itself n = n

-- different places of a list have no more together than all
sum_among : (h : ℕ → ℕ) (ps ns : List ℕ) → AreDistinct ps → ((q : ℕ) → In q ps → (q < length ns) × (h q ≡ get_or ns q 0)) → sum_by h ps ≤ sum_by itself ns
sum_among h [] ns once each = let none : sum_by h [] ≡ 0 = refl in omega (arith, none)
sum_among h (p ∷ ps) ns once each =
    let here = each p (inl refl) in
    let long = length-set ns p 0 in
    let other : (q : ℕ) → In q ps → q ≢ p = λ q i e. once.0 (subst (λ z. In z ps) e i) in
    let rest = sum_among h ps (set ns p 0) once.1 (λ q i. let l = (each q (inr i)).0 in (omega (arith, l, long), (each q (inr i)).1 ∙ sym (get_or-set_other ns p q 0 0 (other q i)))) in
    let one : sum_by h (p ∷ ps) ≡ h p + sum_by h ps = sum_by-cons h p ps in
    let less = sum_by-set itself ns p 0 0 here.0 in
    let same = here.1 in
    omega (arith, rest, one, less, same)

-- what a process queues
abbrev queue_of : Process → ℕ
queue_of q = queued_parts (body q)

all_queued : (qs : List Process) → sum_by itself (map queue_of qs) ≡ processes_queued qs
all_queued [] = refl
all_queued (q ∷ qs) = sum_by-cons itself (queue_of q) (map queue_of qs) ∙ ap (λ n. queue_of q + n) (all_queued qs)

pub among_all : (d : Design) (ps : List ℕ) → AreDistinct ps → ((q : ℕ) → In q ps → q < length d.processes) → sum_by (λ p. queues (body_at d p)) ps ≤ processes_queued d.processes
among_all d ps once inside =
    let all = all_queued d.processes in
    let sum = sum_among (λ p. queues (body_at d p)) ps (map queue_of d.processes) once (λ q i.
    let l = inside q i in
    let long = length-map d.processes queue_of in
    (omega (arith, l, long), queues_are (body_at d q) ∙ sym (get_or-map queue_of d.processes q no_process 0 l))) in
    omega (arith, all, sum)

-- once the first of the processes has run there is room for the others
module _ (d : Design) (p : ℕ) (ps : List ℕ) (before after : Rooms) (h : HasRoomInTurn d (p ∷ ps) before) where
  pub turn_first : queues (body_at d p) ≤ before.queue
  turn_first =
      let one : sum_by (λ q. queues (body_at d q)) (p ∷ ps) ≡ queues (body_at d p) + sum_by (λ q. queues (body_at d q)) ps = sum_by-cons (λ q. queues (body_at d q)) p ps in
      let all = h.queue in
      omega (arith, one, all)

  pub turn_more : after.log ≡ before.log → after.takes ≡ before.takes → before.queue ≤ after.queue + queues (body_at d p) → HasRoomInTurn d ps after
  turn_more log takes queue =
      record {
        log = λ q l. let old = h.log q l in subst (λ (f : ℕ → ℕ). logs (λ y. 0) f (body_at d q) ≤ after.log) (sym takes) (omega (arith, old, log));
        queue =
            let one : sum_by (λ q. queues (body_at d q)) (p ∷ ps) ≡ queues (body_at d p) + sum_by (λ q. queues (body_at d q)) ps = sum_by-cons (λ q. queues (body_at d q)) p ps in
            let all = h.queue in
            omega (arith, one, all, queue);
      }

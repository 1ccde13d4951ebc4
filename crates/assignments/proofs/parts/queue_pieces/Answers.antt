use Rattle.std.proofs.Common.{◌≡◌, ◌∙◌, ◌+◌, ◌-◌, ◌++◌, ◌∷◌, ◌≤◌, ap, ap₂, arith, drop, length, refl, subst, sym, take}
use Rattle.scene_laws.specs.body_calls.Lvalues.{Takes, if_certain, lvalue_writes}
use Rattle.assignments.specs.Pieces.{AllTake, widths}
use Rattle.assignments.proofs.AllParts.{widths_drop}
use Rattle.assignments.proofs.Cutting.{cut_length}
use Rattle.assignments.proofs.Going.{PlacesOn, QueuesOn, pieces_from, places_further, queues_further}
use Rattle.assignments.proofs.parts.queue_pieces.Goals as goal

pub cut-part-requires-clause-some : goal.cut-part-requires-clause-some
cut-part-requires-clause-some g c =
    let next = pieces_from c.args.pieces.now c.loop-piece.piece-index c.piece-item.result c.loop-piece-test.true c.piece-item.is in
    (subst (AllTake (g.B.Reads.scene c.args.store.now).design) next c.loop-piece.invariant.rest).0

pub cut-part-requires-clause-inside : goal.cut-part-requires-clause-inside
cut-part-requires-clause-inside g c =
    let next = pieces_from c.args.pieces.now c.loop-piece.piece-index c.piece-item.result c.loop-piece-test.true c.piece-item.is in
    let left = c.loop-piece.invariant.left ∙ ap widths next in
    let most = widths_drop c.args.pieces.now c.loop-piece.piece-index in
    let same = c.loop-piece.invariant.left in
    let all = c.requires.width in
    omega (arith, left, most, same, all)

pub queue-requires-clause-place : goal.queue-requires-clause-place
queue-requires-clause-place g c =
    let next = pieces_from c.args.pieces.now c.loop-piece.piece-index c.piece-item.result c.loop-piece-test.true c.piece-item.is in
    let rest = subst (AllTake (g.B.Reads.scene c.args.store.now).design) next c.loop-piece.invariant.rest in
    let whole = c.loop-piece.invariant.left ∙ ap widths next in
    let most = widths_drop c.args.pieces.now c.loop-piece.piece-index in
    let same = c.loop-piece.invariant.left in
    let all = c.requires.width in
    let inside : c.loop-piece.left - c.piece-item.result.width + c.piece-item.result.width ≤ length c.args.value.now.bits = omega (arith, whole, most, same, all) in
    let size : length c.cut-part.result.bits ≡ c.piece-item.result.width = ap length c.cut-part.ensures.bits ∙ cut_length c.args.value.now.bits (c.loop-piece.left - c.piece-item.result.width) c.piece-item.result.width inside in
    subst (λ d. Takes d c.piece-item.result.to (length c.cut-part.result.bits)) (sym (ap (λ v. v.design) c.loop-piece.invariant.scene)) (subst (Takes (g.B.Reads.scene c.args.store.now).design c.piece-item.result.to) (sym size) rest.1)

pub loop-piece-preserved : goal.loop-piece-preserved
loop-piece-preserved g c =
    let h = c.loop-piece.invariant in
    let x = c.piece-item.result in
    let next = pieces_from c.args.pieces.now c.loop-piece.piece-index x c.loop-piece-test.true c.piece-item.is in
    let later = drop (c.loop-piece.piece-index + 1) c.args.pieces.now in
    let rest = subst (AllTake (g.B.Reads.scene c.args.store.now).design) next h.rest in
    let left = h.left ∙ ap widths next in
    let low : c.loop-piece.left - x.width ≡ widths later = omega (arith, left) in
    let high : c.loop-piece.left - x.width + x.width ≡ widths (x ∷ later) = omega (arith, left) in
    let part = c.cut-part.ensures.bits ∙ ap₂ (λ a b. drop a (take b c.args.value.now.bits)) low high in
    record {
      left = low;
      rest = rest.2;
      scene = c.queue.ensures.scene ∙ h.scene;
      queues =
          queues_further (g.B.Reads.scene c.args.store.now).design c.args.certain (g.B.Bodies.queued c.args.store.now) c.args.pieces.now c.args.value.now.bits (g.B.Bodies.queued c.loop-piece.store) (g.B.Bodies.queued c.queue.new.self) x later c.cut-part.result.bits part
          (c.queue.ensures.queued ∙ ap (λ v. g.B.Bodies.queued c.loop-piece.store ++ if_certain c.args.certain (lvalue_writes v.design x.to c.cut-part.result.bits)) h.scene)
          (subst (QueuesOn (g.B.Reads.scene c.args.store.now).design c.args.certain (g.B.Bodies.queued c.args.store.now) c.args.pieces.now c.args.value.now.bits (g.B.Bodies.queued c.loop-piece.store)) next h.queues);
      around = c.queue.ensures.around ∙ h.around;
      under = c.queue.ensures.under ∙ h.under;
      rooms =
          places_further (g.B.Bodies.rooms c.args.store.now) c.args.pieces.now (g.B.Bodies.rooms c.loop-piece.store) (g.B.Bodies.rooms c.queue.new.self) x later
          (subst (PlacesOn (g.B.Bodies.rooms c.args.store.now) c.args.pieces.now (g.B.Bodies.rooms c.loop-piece.store)) next h.rooms)
          c.queue.ensures.rooms;
    }

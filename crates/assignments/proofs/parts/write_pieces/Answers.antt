use Rattle.std.proofs.Common.{◌≡◌, ◌∙◌, ◌+◌, ◌-◌, ◌∷◌, ◌≤◌, [], None, ap, ap₂, arith, drop, length, refl, subst, sym, take, true}
use Rattle.std.proofs.lemmas.List.{drop_all}
use Rattle.value_store.proofs.body_replay.Answered.{same_sure}
use Rattle.scene_laws.specs.body_calls.Lvalues.{Takes, written_thing}
use Rattle.scene_laws.specs.body_calls.Rooms.{takes_in}
use Rattle.assignments.specs.Pieces.{AllTake, blame_option, widths}
use Rattle.assignments.proofs.AllParts.{widths_drop}
use Rattle.assignments.proofs.Cutting.{cut_length}
use Rattle.assignments.proofs.Going.{LogsOn, WritesOn, logs_further, pieces_from, takes_same, writes_end, writes_further}
use Rattle.assignments.proofs.parts.write_pieces.Goals as goal

pub cut-part-requires-clause-some : goal.cut-part-requires-clause-some
cut-part-requires-clause-some g c =
    let next = pieces_from c.args.pieces.now c.loop-piece.piece-index c.piece-item.result c.loop-piece-test.true c.piece-item.is in
    (subst (AllTake (g.B.Reads.scene c.args.store.now).design) next c.loop-piece.invariant.rest).0

pub cut-part-requires-clause-inside : goal.cut-part-requires-clause-inside
cut-part-requires-clause-inside g c =
    let next = pieces_from c.args.pieces.now c.loop-piece.piece-index c.piece-item.result c.loop-piece-test.true c.piece-item.is in
    let left = c.loop-piece.invariant.left ∙ ap widths next in
    let most = widths_drop c.args.pieces.now c.loop-piece.piece-index in
    let same = c.loop-piece.invariant.left in
    let all = c.requires.width in
    omega (arith, left, most, same, all)

pub write-requires-clause-place : goal.write-requires-clause-place
write-requires-clause-place g c =
    let next = pieces_from c.args.pieces.now c.loop-piece.piece-index c.piece-item.result c.loop-piece-test.true c.piece-item.is in
    let rest = subst (AllTake (g.B.Reads.scene c.args.store.now).design) next c.loop-piece.invariant.rest in
    let whole = c.loop-piece.invariant.left ∙ ap widths next in
    let most = widths_drop c.args.pieces.now c.loop-piece.piece-index in
    let same = c.loop-piece.invariant.left in
    let all = c.requires.width in
    let inside : c.loop-piece.left - c.piece-item.result.width + c.piece-item.result.width ≤ length c.args.value.now.bits = omega (arith, whole, most, same, all) in
    let size : length c.cut-part.result.bits ≡ c.piece-item.result.width = ap length c.cut-part.ensures.bits ∙ cut_length c.args.value.now.bits (c.loop-piece.left - c.piece-item.result.width) c.piece-item.result.width inside in
    subst (λ d. Takes d c.piece-item.result.to (length c.cut-part.result.bits)) (sym c.loop-piece.invariant.writes.design) (subst (Takes (g.B.Reads.scene c.args.store.now).design c.piece-item.result.to) (sym size) rest.1)

pub loop-piece-preserved : goal.loop-piece-preserved
loop-piece-preserved g c =
    let h = c.loop-piece.invariant in
    let x = c.piece-item.result in
    let next = pieces_from c.args.pieces.now c.loop-piece.piece-index x c.loop-piece-test.true c.piece-item.is in
    let later = drop (c.loop-piece.piece-index + 1) c.args.pieces.now in
    let rest = subst (AllTake (g.B.Reads.scene c.args.store.now).design) next h.rest in
    let left = h.left ∙ ap widths next in
    let whole = c.loop-piece.invariant.left ∙ ap widths next in
    let most = widths_drop c.args.pieces.now c.loop-piece.piece-index in
    let same = c.loop-piece.invariant.left in
    let all = c.requires.width in
    let inside : c.loop-piece.left - c.piece-item.result.width + c.piece-item.result.width ≤ length c.args.value.now.bits = omega (arith, whole, most, same, all) in
    let size : length c.cut-part.result.bits ≡ x.width = ap length c.cut-part.ensures.bits ∙ cut_length c.args.value.now.bits (c.loop-piece.left - x.width) x.width inside in
    let low : c.loop-piece.left - x.width ≡ widths later = omega (arith, left) in
    let high : c.loop-piece.left - x.width + x.width ≡ widths (x ∷ later) = omega (arith, left) in
    let part = c.cut-part.ensures.bits ∙ ap₂ (λ a b. drop a (take b c.args.value.now.bits)) low high in
    record {
      left = low;
      rest = rest.2;
      writes =
          writes_further c.args.blame (g.B.Reads.scene c.args.store.now) c.args.pieces.now c.args.value.now.bits (g.B.Reads.scene c.loop-piece.store) (g.B.Reads.scene c.write.new.self) x later c.cut-part.result.bits part
          (subst (Takes (g.B.Reads.scene c.args.store.now).design x.to) (sym size) rest.1)
          (λ sure thing b e. same_sure c.cut-part.result.bits ∙ c.cut-part.ensures.whole (c.requires.sure (b ∙ ap (λ t. blame_option t thing) e)))
          c.write.ensures.scene
          (subst (WritesOn c.args.blame (g.B.Reads.scene c.args.store.now) c.args.pieces.now c.args.value.now.bits (g.B.Reads.scene c.loop-piece.store)) next h.writes);
      queued = c.write.ensures.queued ∙ h.queued;
      around = c.write.ensures.around ∙ h.around;
      under = c.write.ensures.under ∙ h.under;
      rooms =
          logs_further (takes_in (g.B.Bodies.around c.args.store.now) (g.B.Bodies.rooms c.args.store.now)) (g.B.Bodies.rooms c.args.store.now) c.args.pieces.now (g.B.Bodies.rooms c.loop-piece.store) (g.B.Bodies.rooms c.write.new.self) x later _
          (ap (λ a. takes_in a (g.B.Bodies.rooms c.loop-piece.store) (written_thing x.to)) h.around ∙ ap (λ f. f (written_thing x.to)) (takes_same (g.B.Bodies.around c.args.store.now) (g.B.Bodies.rooms c.args.store.now) (g.B.Bodies.rooms c.loop-piece.store) h.rooms.same))
          (subst (LogsOn (takes_in (g.B.Bodies.around c.args.store.now) (g.B.Bodies.rooms c.args.store.now)) (g.B.Bodies.rooms c.args.store.now) c.args.pieces.now (g.B.Bodies.rooms c.loop-piece.store)) next h.rooms)
          c.write.ensures.rooms;
    }

pub returns-clause-scene : goal.returns-clause-scene
returns-clause-scene g c = λ v sure thing b l.
    let end : drop c.loop-piece.piece-index c.args.pieces.now ≡ [] = drop_all c.loop-piece.piece-index c.args.pieces.now (omega arith) in
    writes_end c.args.blame (g.B.Reads.scene c.args.store.now) c.args.pieces.now c.args.value.now.bits (g.B.Reads.scene c.loop-piece.store)
    (subst (WritesOn c.args.blame (g.B.Reads.scene c.args.store.now) c.args.pieces.now c.args.value.now.bits (g.B.Reads.scene c.loop-piece.store)) end c.loop-piece.invariant.writes) v sure thing b l

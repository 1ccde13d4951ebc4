use Rattle.std.proofs.Common.{◌≡◌, ◌∙◌, ◌+◌, ◌-◌, ◌++◌, ◌∷◌, ◌≤◌, [], ap, ap₂, append-nil, arith, drop, length, refl, subst, sym, take}
use Rattle.std.proofs.lemmas.List.{drop_all}
use Rattle.value_store.specs.body_replay.Store.{keep_all, weaken}
use Rattle.body_calls.specs.Lvalues.{Takes, lvalue_writes}
use Rattle.body_calls.specs.Rooms.{Rooms}
use Rattle.body_calls.specs.Under.{kept_with}
use Rattle.open_tests.specs.assignments.Pieces.{AllTake, pieces_writes, widths}
use Rattle.open_tests.proofs.assignments.AllParts.{widths_drop}
use Rattle.open_tests.proofs.assignments.Cutting.{cut_length}
use Rattle.open_tests.proofs.assignments.Going.{pieces_from, rest_bits}
use Rattle.weak_runs.specs.Makes.{at}
use Rattle.weak_runs.proofs.Making.{GoesOn, goes_end, goes_further, weaken_append}
use Rattle.weak_runs.proofs.assignment.write_weakly.Goals as goal

pub cut-part-requires-clause-inside : goal.cut-part-requires-clause-inside
cut-part-requires-clause-inside g c =
    let next = pieces_from c.args.pieces.now c.loop-piece.piece-index c.piece-item.result c.loop-piece-test.true c.piece-item.is in
    let left = c.loop-piece.invariant.left ∙ ap widths next in
    let most = widths_drop c.args.pieces.now c.loop-piece.piece-index in
    let same = c.loop-piece.invariant.left in
    let all = c.requires.width in
    omega (arith, left, most, same, all)

pub weak_write-requires-clause-place : goal.weak_write-requires-clause-place
weak_write-requires-clause-place g c =
    let next = pieces_from c.args.pieces.now c.loop-piece.piece-index c.piece-item.result c.loop-piece-test.true c.piece-item.is in
    let rest = subst (AllTake (g.S.Reads.scene c.args.store.now).design) next c.loop-piece.invariant.rest in
    let whole = c.loop-piece.invariant.left ∙ ap widths next in
    let most = widths_drop c.args.pieces.now c.loop-piece.piece-index in
    let same = c.loop-piece.invariant.left in
    let all = c.requires.width in
    let inside : c.loop-piece.left - c.piece-item.result.width + c.piece-item.result.width ≤ length c.args.value.now.bits = omega (arith, whole, most, same, all) in
    let size : length c.cut-part.result.bits ≡ c.piece-item.result.width = ap length c.cut-part.ensures.bits ∙ cut_length c.args.value.now.bits (c.loop-piece.left - c.piece-item.result.width) c.piece-item.result.width inside in
    subst (λ d. Takes d c.piece-item.result.to (length c.cut-part.result.bits)) (sym c.loop-piece.invariant.goes.design) (subst (Takes (g.S.Reads.scene c.args.store.now).design c.piece-item.result.to) (sym size) rest.1)

pub loop-piece-preserved : goal.loop-piece-preserved
loop-piece-preserved g c =
    let h = c.loop-piece.invariant in
    let x = c.piece-item.result in
    let v = g.S.Reads.scene c.args.store.now in
    let d = v.design in
    let ps = c.args.value.now.bits in
    let next = pieces_from c.args.pieces.now c.loop-piece.piece-index x c.loop-piece-test.true c.piece-item.is in
    let later = drop (c.loop-piece.piece-index + 1) c.args.pieces.now in
    let rest = subst (AllTake d) next h.rest in
    let left = h.left ∙ ap widths next in
    let low : c.loop-piece.left - x.width ≡ widths later = omega (arith, left) in
    let high : c.loop-piece.left - x.width + x.width ≡ widths (x ∷ later) = omega (arith, left) in
    let part = c.cut-part.ensures.bits ∙ ap₂ (λ a b. drop a (take b ps)) low high in
    let all = weaken (pieces_writes d c.args.pieces.now ps) in
    let before = at (g.S.Bodies.under c.args.store.now) (g.S.Reads.scene c.args.store.now) (g.S.Bodies.queued c.args.store.now) (g.S.Bodies.around c.args.store.now) (g.S.Bodies.rooms c.args.store.now) in
    let now = at (g.S.Bodies.under c.loop-piece.store) (g.S.Reads.scene c.loop-piece.store) (g.S.Bodies.queued c.loop-piece.store) (g.S.Bodies.around c.loop-piece.store) (g.S.Bodies.rooms c.loop-piece.store) in
    let after = at (g.S.Bodies.under c.weak_write.new.self) (g.S.Reads.scene c.weak_write.new.self) (g.S.Bodies.queued c.weak_write.new.self) (g.S.Bodies.around c.weak_write.new.self) (g.S.Bodies.rooms c.weak_write.new.self) in
    let first = lvalue_writes d x.to (drop (widths later) (take (widths (x ∷ later)) ps)) in
    let more = pieces_writes d later (take (widths later) (take (widths (x ∷ later)) ps)) in
    let split = weaken_append first more ∙ ap₂ (λ p q. weaken (lvalue_writes d x.to p) ++ weaken (pieces_writes d later q)) (sym part) (rest_bits x later ps) in
    let goes = subst (λ ws. GoesOn all [] 0 before now ws [] 0) split (subst (λ xs. GoesOn all [] 0 before now (weaken (pieces_writes d xs (take (widths xs) ps))) [] 0) next h.goes) in
    let e = c.weak_write.ensures in
    let room = ap (λ (r : Rooms). r.queue) e.rooms in
    record {
      left = low;
      rest = rest.2;
      goes =
          goes_further all [] 0 before now after (weaken (lvalue_writes d x.to c.cut-part.result.bits)) [] (weaken (pieces_writes d later (take (widths later) ps))) [] 0 0 0 refl goes
          (record {
            kept = e.kept ∙ ap (λ f. keep_all (kept_with (g.S.Bodies.under c.loop-piece.store) (g.S.Reads.scene c.loop-piece.store)).kept (weaken (lvalue_writes f x.to c.cut-part.result.bits))) h.goes.design;
            queued = e.queued ∙ sym (append-nil (g.S.Bodies.queued c.loop-piece.store));
            design = e.design;
            hidden = e.hidden;
            size = e.size;
            outside = record { around = e.around; own = e.own };
            takes = ap (λ (r : Rooms). r.takes) e.rooms;
            queue = omega (arith, room);
          });
    }

pub returns : goal.returns
returns g c =
    let d = (g.S.Reads.scene c.args.store.now).design in
    let ps = c.args.value.now.bits in
    let end : drop c.loop-piece.piece-index c.args.pieces.now ≡ [] = drop_all c.loop-piece.piece-index c.args.pieces.now (omega arith) in
    let all = weaken (pieces_writes d c.args.pieces.now ps) in
    let before = at (g.S.Bodies.under c.args.store.now) (g.S.Reads.scene c.args.store.now) (g.S.Bodies.queued c.args.store.now) (g.S.Bodies.around c.args.store.now) (g.S.Bodies.rooms c.args.store.now) in
    let now = at (g.S.Bodies.under c.loop-piece.store) (g.S.Reads.scene c.loop-piece.store) (g.S.Bodies.queued c.loop-piece.store) (g.S.Bodies.around c.loop-piece.store) (g.S.Bodies.rooms c.loop-piece.store) in
    goes_end all [] 0 before now (subst (λ xs. GoesOn all [] 0 before now (weaken (pieces_writes d xs (take (widths xs) ps))) [] 0) end c.loop-piece.invariant.goes)

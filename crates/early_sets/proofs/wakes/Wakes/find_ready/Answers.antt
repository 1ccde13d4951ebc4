use Rattle.std.proofs.Common.{◌∙◌, ◌<◌, ◌≤◌, None, length, get_or, take, refl, sym, ap, ap₂, subst, arith}
use Rattle.std.proofs.lemmas.List.{take_all}
use Rattle.std.proofs.lemmas.List.Sums.{sum_by-take-le, sum_by_more}
use Rattle.early_sets.specs.Adds.{Adds}
use Rattle.early_sets.specs.Reached.{IsItemWhere}
use Rattle.early_sets.specs.Rounds.{writer_at}
use Rattle.early_sets.specs.Turns.{check_turns, writer_events}
use Rattle.early_sets.specs.WakeState.{state_of}
use Rattle.early_sets.proofs.NextRound.{AreReady, all_ready, is_ready, ready_more, ready_none}
use Rattle.early_sets.proofs.wakes.Wakes.find_ready.Goals as goal

pub loop-place-init : goal.loop-place-init
loop-place-init g c =
    let w = state_of c.args.self.now in
    (refl, subst (AreReady w (take 0 w.moves)) (sym c.clear.ensures.items) (ready_none w w.moves), omega (arith, ap length c.clear.ensures.items))

pub loop-place-preserved : goal.loop-place-preserved
loop-place-preserved g c =
    let w = state_of c.args.self.now in
    let s = state_of c.loop-place.self in
    let i = c.loop-place.place in
    let same = c.loop-place.invariant.0 in
    let value = c.get-thing.ensures.value in
    let below : i < length w.moves = omega (arith, c.len-place-end.ensures.value, ap (λ z. length z.moves) same) in
    let found = rw (c.is_ready-ready.ensures.value, value) at c.insert_where.ensures.adds in
    let adds = subst (λ z. Adds (IsItemWhere (is_ready z (get_or z.moves i 0)) (get_or z.moves i 0) None) c.loop-place.self.ready.items c.insert_where.new.set.items) same found in
    let events = ap₂ (λ z x. writer_events z (writer_at z x)) same (value ∙ ap (λ z. get_or z.moves i 0) same) in
    let next = sum_by_more (check_turns w) w.moves i 0 below in (
      same,
      ready_more w w.moves i c.loop-place.self.ready.items c.insert_where.new.set.items below adds c.loop-place.invariant.1,
      (omega (arith, c.is_ready-ready.ensures.turns, events, next, c.insert_where.ensures.few, c.count.ensures, c.loop-place.invariant.2)),
    )

pub returns-clause-ready : goal.returns-clause-ready
returns-clause-ready g c =
    let w = state_of c.args.self.now in
    let end : length w.moves ≤ c.loop-place.place = omega (arith, c.len-place-end.ensures.value, ap (λ z. length z.moves) c.loop-place.invariant.0) in
    let all = take_all c.loop-place.place w.moves end in
    all_ready w c.loop-place.self.ready.items (subst (λ ms. AreReady w ms c.loop-place.self.ready.items) all c.loop-place.invariant.1)

pub returns-clause-turns : goal.returns-clause-turns
returns-clause-turns g c = let w = state_of c.args.self.now in omega (arith, c.loop-place.invariant.2, sum_by-take-le (check_turns w) w.moves c.loop-place.place)

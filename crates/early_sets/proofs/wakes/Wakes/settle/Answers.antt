use Rattle.std.proofs.Common.{◌∙◌, ◌∷◌, ap, subst, sym, arith}
use Rattle.std.proofs.lemmas.List.Sums.{sum_by-cons}
use Rattle.early_sets.specs.Rounds.{IsNextRound, becomes_single}
use Rattle.early_sets.specs.Settled.{HasSettled}
use Rattle.early_sets.specs.Turns.{round_turns}
use Rattle.early_sets.specs.WakeState.{WakeState, state_of}
use Rattle.early_sets.proofs.wakes.Wakes.settle.Goals as goal

pub rounds-preserved : goal.rounds-preserved
rounds-preserved g c =
    let old = state_of c.rounds.self in
    let new = state_of c.next_round.new.self in
    let inv = c.rounds.invariant in
    let earlier = inv.1.0 in
    let next = c.next_round.ensures.next c.rounds-test.true in
    let more = c.next_round.ensures.more c.rounds-test.true in
    let turns = rw c.rounds-test.true at c.next_round.ensures.turns in (
      c.next_round.ensures.rest ∙ ap {A = WakeState} (λ w. record w { derived = new.derived; rounds = new.rounds; moves = new.moves; woken = new.woken }) inv.0,
      (old ∷ earlier, (subst (λ n. IsNextRound n old new) inv.1.2 next, inv.1.1), omega (arith, inv.1.2), omega (arith, turns, inv.1.3, sum_by-cons round_turns old earlier)),
      omega (arith, more.0, inv.2),
      more.1,
    )

-- the round has a number of at most what is single by then, and that is no more than all things
pub returns-clause-settled : goal.returns-clause-settled
returns-clause-settled g c =
    let w = state_of c.rounds.self in
    let inv = c.rounds.invariant in
    let earlier = inv.1.0 in
    let last = c.next_round.ensures.last c.rounds-test.false in
    let checked = rw c.rounds-test.false at c.next_round.ensures.turns in
    let settled : HasSettled w (g.T.Turns.counted c.args.turns.now) (g.T.Turns.counted c.next_round.new.turns) = record {
      earlier = earlier;
      rounds = inv.1.1;
      is_last = λ x. ap (λ z. becomes_single z x) (sym last.0) ∙ last.1 x;
      few = omega (arith, inv.1.2, inv.2);
      turns = omega (arith, checked, inv.1.3, sum_by-cons round_turns w earlier);
    } in
    subst (λ z. HasSettled z (g.T.Turns.counted c.args.turns.now) (g.T.Turns.counted c.next_round.new.turns)) (sym last.0) settled

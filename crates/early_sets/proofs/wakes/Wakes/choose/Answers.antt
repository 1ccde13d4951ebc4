use Rattle.std.proofs.Common.{◌↔◌, ◌+◌, ◌≤◌, ℕ, IfSome, ap, length, subst, arith}
use Rattle.std.specs.List.{Contains}
use Rattle.early_sets.specs.Early.{IsEarlyBy}
use Rattle.index_sets.specs.Rows.{row_at}
use Rattle.early_sets.specs.Turns.{choose_turns}
use Rattle.early_sets.specs.WakeState.{state_of}
use Rattle.early_sets.proofs.Shared.{shared_early}
use Rattle.early_sets.proofs.wakes.Wakes.choose.Goals as goal

pub find_early-requires-clause-trigger : goal.find_early-requires-clause-trigger
find_early-requires-clause-trigger g c = c.in-Some.ensures.below

pub returns-clause-shared : goal.returns-clause-shared
returns-clause-shared g c none other none' =
    let w = state_of c.args.self.now in
    let found = c.find_early.ensures.early in
    subst (λ o. IfSome o (λ trigger. (x : ℕ) → Contains c.find_early.new.self.early.items x ↔ IsEarlyBy w c.args.habit other trigger x)) c.in-Some.ensures.value
    (λ x.
    let both = shared_early w c.args.habit c.args.process other c.in-Some.trigger none none' x in
    (λ m. both.0 ((found x).0 m), λ e. (found x).1 (both.1 e)))

pub returns-clause-turns : goal.returns-clause-turns
returns-clause-turns g c =
    let events = ap (λ w. length (row_at w.tables.events c.args.process)) c.find_early.ensures.rest in
    subst (λ o. IfSome o (λ trigger. g.T.Turns.counted c.find_early.new.turns ≤ g.T.Turns.counted c.args.turns.now + choose_turns (state_of c.find_early.new.self) c.args.process trigger)) c.in-Some.ensures.value
    (omega (arith, c.find_early.ensures.turns, c.in-Some.ensures.turns, events))

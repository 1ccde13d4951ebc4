use Rattle.std.proofs.Common.{◌↔◌, ℕ}
use Rattle.std.specs.List.{Contains}
use Rattle.early_sets.specs.Early.{HasNoBlocking, IsEarlyBy}
use Rattle.early_sets.specs.WakeState.{state_of, trigger_of}
use Rattle.chosen_early.proofs.Choosing.{at_some, list_same, shared_same}
use Rattle.chosen_early.proofs.choose.choose_early.Goals as goal

pub returns-then-shares-2-clause-early : goal.returns-then-shares-2-clause-early
returns-then-shares-2-clause-early c =
    let w = state_of c.args.sets.now in
    let v = state_of c.choose.new.self in
    list_same w v c.choose.ensures.rest c.args.habit c.args.trigger c.args.process
    (at_some (λ t. (x : ℕ) → Contains v.early x ↔ IsEarlyBy w c.args.habit c.args.process t x) (trigger_of w c.args.process) c.args.trigger c.requires.trigger c.choose.ensures.early)

pub returns-then-shares-2-clause-shared : goal.returns-then-shares-2-clause-shared
returns-then-shares-2-clause-shared c =
    let w = state_of c.args.sets.now in
    let v = state_of c.choose.new.self in
    let mine : HasNoBlocking w.tables c.args.process = c.shares_early-shares.ensures.0 c.if-shares-2.true in
    shared_same w v c.choose.ensures.rest c.args.habit c.args.trigger
    (λ p none. at_some (λ t. (x : ℕ) → Contains v.early x ↔ IsEarlyBy w c.args.habit p t x) (trigger_of w c.args.process) c.args.trigger c.requires.trigger (c.choose.ensures.shared mine p none))

pub returns-else-shares-2-clause-early : goal.returns-else-shares-2-clause-early
returns-else-shares-2-clause-early c =
    let w = state_of c.args.sets.now in
    let v = state_of c.choose.new.self in
    list_same w v c.choose.ensures.rest c.args.habit c.args.trigger c.args.process
    (at_some (λ t. (x : ℕ) → Contains v.early x ↔ IsEarlyBy w c.args.habit c.args.process t x) (trigger_of w c.args.process) c.args.trigger c.requires.trigger c.choose.ensures.early)

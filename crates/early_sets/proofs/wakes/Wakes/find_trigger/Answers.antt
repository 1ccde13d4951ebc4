use Rattle.std.proofs.Common.{◌≡◌, ◌∙◌, ◌&&◌, true, None, Some, sym, ap, arith}
use Rattle.std.proofs.lemmas.Bool.{and_from, cond-true}
use Rattle.early_sets.specs.WakeState.{is_single, state_of, trigger_by, wakes_only_by}
use Rattle.early_sets.proofs.wakes.Wakes.find_trigger.Goals as goal

pub is_single-requires : goal.is_single-requires
is_single-requires g c = omega (arith, c.args.self.now.sizes.told_are, c.in_ok-signal.ensures.below)

pub returns-then-wakes_only_by-clause-value : goal.returns-then-wakes_only_by-clause-value
returns-then-wakes_only_by-clause-value g c =
    let w = state_of c.args.self.now in
    let s = c.in_ok-signal.signal in
    let p = c.args.process in
    let single : is_single w s ≡ true = sym c.is_single.ensures ∙ c.if-is_single.true in
    let only : wakes_only_by w p s ≡ true = sym c.wakes_only_by.ensures.value ∙ c.if-wakes_only_by.true in
    sym (ap (trigger_by w p) (sym c.in_ok-signal.ensures.value) ∙ cond-true (is_single w s && wakes_only_by w p s) (Some s) None (and_from (is_single w s) (wakes_only_by w p s) single only))

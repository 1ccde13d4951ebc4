use Rattle.std.proofs.Common.{◌∙◌, map, ap}
use Rattle.replay_core.specs.Codes.{code_list}
use Rattle.replay_core.proofs.Codes.{signals_are}
use Rattle.replay_core.proofs.tables.step_tables.Goals as goal

pub returns-clause-signals : goal.returns-clause-signals
returns-clause-signals c =
    let is = ap (map (λ list. list.items)) c.as_slice-2.ensures.value ∙ c.in_ok-lists.ensures ∙ ap (map code_list) c.as_slice.ensures.value in
    signals_are c.args.codes.items (map (λ list. list.items) c.as_slice-2.result.now) c.in_ok-signals.signals c.args.count is c.in_ok-signals.ensures c.requires.within

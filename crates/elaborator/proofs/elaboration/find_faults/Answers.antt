use Rattle.verilog_tree.specs.View.{modules_view}
use Rattle.elaborator.proofs.ElaborateLemmas.{clean_is, first_is, signals_are}
use Rattle.elaborator.proofs.elaboration.find_faults.Goals as goal

pub returns-clause-first : goal.returns-clause-first
returns-clause-first c = first_is (modules_view c.args.table.now.modules.now) c.args.top.now c.args.tally _ _ c.requires c.in_ok-walk_top.ensures c.in_ok-tell_drivers.ensures

pub returns-clause-signals : goal.returns-clause-signals
returns-clause-signals c = λ none. signals_are (modules_view c.args.table.now.modules.now) c.args.top.now c.args.tally _ _ c.requires c.in_ok-walk_top.ensures c.in_ok-tell_drivers.ensures none

pub returns-clause-clean : goal.returns-clause-clean
returns-clause-clean c = λ none. clean_is (modules_view c.args.table.now.modules.now) c.args.top.now c.args.tally _ _ c.requires c.in_ok-walk_top.ensures c.in_ok-tell_drivers.ensures none

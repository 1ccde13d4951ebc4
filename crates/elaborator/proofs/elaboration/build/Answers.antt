use Rattle.verilog_tree.specs.View.{modules_view}
use Rattle.elaborator.proofs.ElaborateLemmas.{built_is, has_design}
use Rattle.elaborator.proofs.elaboration.build.Goals as goal

pub unreachable-requires : goal.unreachable-requires
unreachable-requires c =
    has_design (modules_view c.args.table.now.modules.now) c.args.top.now c.args.signals c.new.result c.in_ok-empty_design.field-0 _ c.new.ensures c.in_ok-empty_design.ensures c.in_ok-walk_top.ensures c.in-None.is

pub returns : goal.returns
returns c =
    built_is (modules_view c.args.table.now.modules.now) c.args.top.now c.args.signals c.new.result c.in_ok-empty_design.field-0 c.in-Some.design _ c.new.ensures c.in_ok-empty_design.ensures c.in_ok-walk_top.ensures
    c.requires.clean c.in-Some.is

use Rattle.std.proofs.Common.{ap}
use Rattle.flat_design.specs.Identifiers.{body_identifiers, item_identifiers, when_names}
use Rattle.verilog_tree.specs.View.{item_form_view, statement_view}
use Rattle.elab_scope.specs.NameSet.{has}
use Rattle.elab_instances.proofs.NamesLemmas.{names_then}
use Rattle.elab_instances.proofs.identifiers.add_item.Goals as goal

pub returns-in_ok-add_when-in-Always : goal.returns-in_ok-add_when-in-Always
returns-in_ok-add_when-in-Always c =
    names_then c.add_statement.result (has c.args.names.now) (has c.add_when.new.names) (has c.add_statement.new.names) (when_names c.in-Always.when) (body_identifiers (statement_view c.in-Always.body)) _ (ap (λ f. item_identifiers (item_form_view f)) c.in-Always.is) c.in_ok-add_when-in-Always.ensures c.add_statement.ensures

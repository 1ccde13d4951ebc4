use Rattle.std.proofs.Common.{sym, ap, ◌∙◌}
use Rattle.verilog_tree.specs.View.{range_option_view}
use Rattle.flat_design.specs.Declarations.{a_variable, words_sort}
use Rattle.flat_design.specs.Scope.{binding_of}
use Rattle.elab_declarations.specs.ItemKind.{memory_of}
use Rattle.elab_declarations.proofs.KindLemmas.{memory_is}
use Rattle.elab_declarations.proofs.items.variable_sort.Goals as goal

pub returns-clause-value : goal.returns-clause-value
returns-clause-value c =
    c.memory_sort.ensures ∙ ap memory_of c.words_range.ensures.value ∙ memory_is _ _ ∙ ap (λ o. words_sort (binding_of c.args.scope.now) c.args.item (range_option_view o) a_variable) (sym c.in-Some.is)

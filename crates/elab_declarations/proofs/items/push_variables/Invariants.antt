use Rattle.std.proofs.Common.{◌≡◌, ◌++◌, drop, map}
use Rattle.std.specs.Prelude.{flat_map}
use Rattle.verilog_tree.specs.Tree.{Declared}
use Rattle.verilog_tree.specs.View.{declareds_view}
use Rattle.flat_design.specs.Declarations as spec
use Rattle.flat_design.specs.Scope.{binding_of}
use Rattle.elab_declarations.specs.DeclarationView.{declarations_view}
use Rattle.elab_scope.specs.Tally.{after_faults}
use Rattle.elab_declarations.proofs.items.push_variables.Given as goal

-- the list and the tally with the names that are left are the whole
abbrev pub invariant-loop-declared : goal.invariant-loop-declared
invariant-loop-declared l =
    let name : Declared → spec.Declaration = λ d. spec.declaration l.fn.kind.item (spec.sort_if l.fn.sound (spec.words_sort (binding_of l.fn.scope) l.fn.kind.item d.words spec.a_variable)) l.fn.kind.range l.fn.kind.signed l.fn.kind.direction d.name in
    record {
      names : declarations_view l.list.items ++ map name (declareds_view (drop l.declared-index l.names)) ≡ declarations_view l.fn.list.items ++ map name (declareds_view l.fn.names);
      met : after_faults l.tally (flat_map (λ d. spec.declared_words_faults (binding_of l.fn.scope) l.fn.kind.item d.words) (declareds_view (drop l.declared-index l.names))) ≡ after_faults l.fn.tally (flat_map (λ d. spec.declared_words_faults (binding_of l.fn.scope) l.fn.kind.item d.words) (declareds_view l.fn.names));
    }

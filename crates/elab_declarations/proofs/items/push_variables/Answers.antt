use Rattle.std.proofs.Common.{◌≡◌, ◌+◌, drop, ap, ◌∙◌, arith}
use Rattle.std.specs.Prelude.{flat_map, List}
use Rattle.verilog_tree.specs.Tree.{Declared}
use Rattle.verilog_tree.specs.View.{declared_view, declareds_view}
use Rattle.flat_design.specs.Declarations as spec
use Rattle.flat_design.specs.Fault.{Fault}
use Rattle.flat_design.specs.Scope.{binding_of}
use Rattle.elab_declarations.specs.DeclarationView.{declaration_view}
use Rattle.elab_declarations.specs.ItemKind.{of_kind}
use Rattle.elab_scope.specs.Tally.{after_faults}
use Rattle.elab_declarations.proofs.KindLemmas.{kind_sort_view}
use Rattle.elab_declarations.proofs.ListLemmas.{met_more, viewed_more}
use Rattle.elab_declarations.proofs.items.push_variables.Goals as goal

pub loop-declared-preserved : goal.loop-declared-preserved
loop-declared-preserved c =
    let g = binding_of c.args.scope.now in
    let k = c.args.kind.now in
    let name : Declared → spec.Declaration = λ d. spec.declaration k.item (spec.sort_if c.args.sound (spec.words_sort g k.item d.words spec.a_variable)) k.range k.signed k.direction d.name in
    let words : Declared → List Fault = λ d. spec.declared_words_faults g k.item d.words in
    let x = c.declared-item.result in
    let i = c.loop-declared.declared-index in
    let same : declaration_view c.named.result ≡ name (declared_view x) = c.named.ensures ∙ ap (λ own. of_kind own x.name) c.with_sort-own.ensures ∙ ap (λ s. spec.declaration k.item s k.range k.signed k.direction x.name) (kind_sort_view c.args.sound c.variable_sort-sort.result ∙ ap (spec.sort_if c.args.sound) c.variable_sort-sort.ensures.value) in
    record {
      names = rw c.in_ok-push.ensures.items (viewed_more declaration_view declared_view name c.loop-declared.list.items c.args.names.now i c.named.result x (omega arith) c.declared-item.is same ∙ c.loop-declared.invariant.names);
      met = ap (λ t. after_faults t (flat_map words (declareds_view (drop (i + 1) c.args.names.now)))) c.variable_sort-sort.ensures.met ∙ met_more declared_view words c.args.names.now i x c.loop-declared.tally (omega arith) c.declared-item.is ∙ c.loop-declared.invariant.met;
    }

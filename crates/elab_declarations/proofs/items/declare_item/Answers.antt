use Rattle.std.proofs.Common.{◌≡◌, List, sym, ap, ◌∙◌}
use Rattle.std.specs.Prelude.{flat_map}
use Rattle.verilog_tree.specs.Tree.{Declared}
use Rattle.verilog_tree.specs.View.{declareds_view, item_form_view, range_option_view}
use Rattle.flat_design.specs.Declarations.{declared_words_faults, item_range_faults, vector_faults}
use Rattle.flat_design.specs.Fault.{Fault}
use Rattle.flat_design.specs.Scope.{binding_of}
use Rattle.elab_scope.specs.Tally.{after_faults}
use Rattle.elab_scope.proofs.TallyLemmas.{after_faults-append}
use Rattle.elab_declarations.proofs.ListLemmas.{met_along}
use Rattle.elab_declarations.proofs.items.declare_item.Goals as goal

pub returns-in-Var-clause-met : goal.returns-in-Var-clause-met
returns-in-Var-clause-met c =
    let g = binding_of c.args.scope.now in
    let p = c.args.item.now.place in
    let t = c.args.tally.now in
    let words : Declared → List Fault = λ d. declared_words_faults g p d.words in
    let own = c.vector_range-vector-in-Var.new.tally in
    let whole : after_faults own (flat_map (λ d. declared_words_faults g c.of_vector-kind-in-Var.result.item d.words) (declareds_view c.as_slice-in-Var.result.now)) ≡ after_faults t (item_range_faults g p (item_form_view c.args.item.now.form)) =
    ap (λ i. after_faults own (flat_map (λ d. declared_words_faults g i d.words) (declareds_view c.as_slice-in-Var.result.now))) (ap (λ k. k.item) c.of_vector-kind-in-Var.ensures) ∙ ap (λ ns. after_faults own (flat_map words (declareds_view ns))) c.as_slice-in-Var.ensures ∙ ap (λ x. after_faults x (flat_map words (declareds_view c.in-Var.names))) c.vector_range-vector-in-Var.ensures.met ∙ sym (after_faults-append t (vector_faults g (range_option_view c.in-Var.range)) (flat_map words (declareds_view c.in-Var.names))) ∙ ap (λ f. after_faults t (item_range_faults g p (item_form_view f))) (sym c.in-Var.is) in
    met_along c.push_variables.result c.push_variables.new.tally _ _ whole c.push_variables.ensures.met

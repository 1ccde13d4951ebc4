use Rattle.std.proofs.Common.{◌≡◌, ◌+◌, List, [], drop, map, sym, ap, ◌∙◌, arith}
use Rattle.std.proofs.lemmas.Grind.{common_steps}
use Rattle.std.specs.Prelude.{flat_map}
use Rattle.verilog_tree.specs.Tree.{Item}
use Rattle.verilog_tree.specs.View.{item_view, items_view, params_view}
use Rattle.verilog_tree.specs.declared.item.Named.{Named}
use Rattle.flat_design.specs.Identifiers.{declared_names}
use Rattle.flat_design.specs.Scope.{binding_of, no_names}
use Rattle.elab_declarations.specs.Constants.{with_others}
use Rattle.elab_declarations.proofs.OthersLemmas.{others_append, others_joined}
use Rattle.elab_declarations.proofs.others.other_names.Goals as goal

pub loop-item-init : goal.loop-item-init
loop-item-init c =
    let own : List Named = map (λ p. p.name) (params_view c.args.definition.now.params) in
    let rest : List Named = flat_map (λ i. declared_names i.form) (items_view c.args.definition.now.items) in
    let names : map (λ p. p.name) (params_view c.as_slice.result.now) ≡ own = ap (λ ps. map (λ p. p.name) (params_view ps)) c.as_slice.ensures in
    let items : flat_map (λ i. declared_names i.form) (items_view c.as_slice-item-items.result.now) ≡ rest = ap (λ is. flat_map (λ i. declared_names i.form) (items_view is)) c.as_slice-item-items.ensures in
    let first : binding_of c.add_params.new.scope ≡ with_others own no_names = c.in_ok-add_params.ensures ∙ ap (λ ns. with_others ns (binding_of c.new-scope.result)) names ∙ ap (with_others own) c.new-scope.ensures in
    ap (λ ns. with_others ns (binding_of c.add_params.new.scope)) items ∙ ap (with_others rest) first ∙ others_append own rest no_names

pub loop-item-preserved : goal.loop-item-preserved
loop-item-preserved c =
    let own : Item → List Named = λ i. declared_names i.form in
    let xs = c.as_slice-item-items.result.now in
    let i = c.loop-item.item-index in
    ap (with_others (flat_map own (items_view (drop (i + 1) xs)))) c.in_ok-add_item.ensures ∙ others_joined item_view own xs i c.item-item.result (binding_of c.loop-item.scope) (omega arith) c.item-item.is ∙ c.loop-item.invariant

pub returns : goal.returns
returns c =
    let over : drop c.loop-item.item-index c.as_slice-item-items.result.now ≡ [] = grind (arith, common_steps) in
    ap (λ is. with_others (flat_map (λ i. declared_names i.form) (items_view is)) (binding_of c.loop-item.scope)) (sym over) ∙ c.loop-item.invariant

use Rattle.std.proofs.Common.{true, sym, ap, ◌∙◌}
use Rattle.design_model.specs.Tree.{all_of, assign}
use Rattle.design_model.specs.View.{term_view}
use Rattle.verilog_tree.specs.View.{expr_view}
use Rattle.flat_design.specs.Scope.{binding_of}
use Rattle.flat_design.specs.Terms.{right_side}
use Rattle.elab_bodies.proofs.SoundNets.{net_process_is, sound_net}
use Rattle.elab_bodies.proofs.nets.net_process.Goals as goal

pub net_of-net-requires : goal.net_of-net-requires
net_of-net-requires c = sound_net (binding_of c.args.scope.now) c.args.name.now c.requires.clear c.requires.to

pub returns-clause-built : goal.returns-clause-built
returns-clause-built c k p =
    let g = binding_of c.args.scope.now in
    let v = expr_view c.args.value.now in
    let s = c.net_of-net.result in
    let n = c.args.nodes.now in
    ap (λ t. assign c.args.instance t (term_view c.in_ok-value.value) true) c.whole.ensures
    ∙ ap (λ t. assign c.args.instance (all_of s.number) t true) (c.in_ok-value.ensures.built ∙ ap (λ w. right_side c.args.base g w v n) c.signal_width.ensures)
    ∙ sym (net_process_is g c.args.name.now c.args.base c.args.instance k n p v s c.net_of-net.ensures.entry)

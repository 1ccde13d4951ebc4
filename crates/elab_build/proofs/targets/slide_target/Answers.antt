use Rattle.std.proofs.Common.{◌≡◌, ◌+◌, ◌∙◌, sym, ap, arith, add-zero}
use Rattle.design_model.specs.Tree.{bits_of}
use Rattle.design_model.specs.View.{term_view}
use Rattle.flat_design.specs.Identifiers.{base_name}
use Rattle.flat_design.specs.Numbering.{nodes}
use Rattle.flat_design.specs.Scope.{binding_of, look_up, thing_of, thing_number, natural_number}
use Rattle.flat_design.specs.Targets.{lowest_index, declared_range}
use Rattle.verilog_tree.specs.View.{expr_view}
use Rattle.elab_build.proofs.SoundTargets.{target_slide, clear_names}
use Rattle.elab_build.proofs.targets.slide_target.Goals as goal

pub part_width-width-requires-clause-sound : goal.part_width-width-requires-clause-sound
part_width-width-requires-clause-sound c =
    (target_slide (binding_of c.args.scope.now) c.args.place (expr_view c.args.of.now) (expr_view c.args.from.now) (expr_view c.args.width.now) c.args.up c.args.bracket c.requires.clear c.requires.sound).1.0

pub part_width-width-requires-clause-known : goal.part_width-width-requires-clause-known
part_width-width-requires-clause-known c = clear_names (binding_of c.args.scope.now) c.requires.clear (expr_view c.args.width.now)

pub lowest_index-requires-clause-sound : goal.lowest_index-requires-clause-sound
lowest_index-requires-clause-sound c =
    (target_slide (binding_of c.args.scope.now) c.args.place (expr_view c.args.of.now) (expr_view c.args.from.now) (expr_view c.args.width.now) c.args.up c.args.bracket c.requires.clear c.requires.sound).0

pub returns-clause-built : goal.returns-clause-built
returns-clause-built c =
    let g = binding_of c.args.scope.now in
    let of = expr_view c.args.of.now in
    let from = expr_view c.args.from.now in
    let w = expr_view c.args.width.now in
    let none = (target_slide g c.args.place of from w c.args.up c.args.bracket c.requires.clear c.requires.sound).1.1.0 in
    let start : c.args.nodes.now ≡ c.args.nodes.now + nodes g of = sym (ap (λ k. c.args.nodes.now + k) none ∙ add-zero c.args.nodes.now) in
    let signal = c.thing_number-signal.ensures in
    let low = c.in_ok-low.ensures.built ∙ ap (λ r. lowest_index c.args.base g r c.args.up c.part_width-width.result from c.args.nodes.now) c.declared_range-range.ensures ∙ ap (λ k. lowest_index c.args.base g (declared_range (look_up g (base_name of).name)) c.args.up k from c.args.nodes.now) c.part_width-width.ensures.value ∙ ap (lowest_index c.args.base g (declared_range (look_up g (base_name of).name)) c.args.up (natural_number g w) from) start in
    c.bits.ensures ∙ ap (λ s. bits_of s (term_view c.in_ok-low.low) c.part_width-width.result) signal ∙ ap (λ x. bits_of (thing_number c.args.base (thing_of (look_up g (base_name of).name))) x c.part_width-width.result) low ∙ ap (bits_of (thing_number c.args.base (thing_of (look_up g (base_name of).name))) (lowest_index c.args.base g (declared_range (look_up g (base_name of).name)) c.args.up (natural_number g w) from (c.args.nodes.now + nodes g of))) c.part_width-width.ensures.value

pub returns-clause-counted : goal.returns-clause-counted
returns-clause-counted c =
    let g = binding_of c.args.scope.now in
    let of = expr_view c.args.of.now in
    let from = expr_view c.args.from.now in
    let w = expr_view c.args.width.now in
    let none = (target_slide g c.args.place of from w c.args.up c.args.bracket c.requires.clear c.requires.sound).1.1 in
    omega (arith, none.0, none.1, c.in_ok-low.ensures.counted)

use Rattle.std.proofs.Common.{◌∙◌, ◌++◌, ◌+◌, ap, drop, map, subst}
use Rattle.std.specs.Option.{option_to_list}
use Rattle.design_model.specs.View.{design_view, term_view, terms_of}
use Rattle.scene_laws.specs.Contexts.{AreLabels}
use Rattle.scene_laws.proofs.BodyContexts.{first_label, later_labels}
use Rattle.fsm_extract.specs.Walked.{label_value, label_values}
use Rattle.fsm_extract.proofs.Views.{further, terms_from}
use Rattle.fsm_extract.proofs.walk.open_labels.Goals as goal

pub open_label-requires : goal.open_label-requires
open_label-requires c =
    let d = design_view c.args.machine.now.constants.design.now in
    let h = c.loop-label.invariant.shaped in
    let x = term_view c.label-item.result in
    let later = terms_of (map term_view (drop (c.loop-label.label-index + 1) c.args.labels.now)) in
    let next = terms_from c.args.labels.now c.loop-label.label-index c.label-item.result c.loop-label-test.true c.label-item.is in
    first_label d h.0 h.1 x later (subst (AreLabels d h.0 h.1) next h.2)

pub loop-label-preserved : goal.loop-label-preserved
loop-label-preserved c =
    let m = c.args.machine.now in
    let d = design_view m.constants.design.now in
    let h = c.loop-label.invariant in
    let x = term_view c.label-item.result in
    let rest = terms_of (map term_view (drop c.loop-label.label-index c.args.labels.now)) in
    let later = terms_of (map term_view (drop (c.loop-label.label-index + 1) c.args.labels.now)) in
    let next = terms_from c.args.labels.now c.loop-label.label-index c.label-item.result c.loop-label-test.true c.label-item.is in
    let all = label_values d m.current (terms_of (map term_view c.args.labels.now)) in
    let piece = option_to_list (label_value d m.current x) in
    let e = c.in_ok-open_label.ensures in
    let more = ap (label_values d m.current) next in
    record {
      around = further c.loop-label.found.around.items c.open_label.new.found.around.items piece (label_values d m.current later) (label_values d m.current rest) (c.args.found.now.around.items ++ all) e.around more h.around;
      arcs = e.arcs ∙ h.arcs;
      states = further c.loop-label.found.states.items c.open_label.new.found.states.items piece (label_values d m.current later) (label_values d m.current rest) (c.args.found.now.states.items ++ all) e.states more h.states;
      shaped = (h.shaped.0, h.shaped.1, later_labels d h.shaped.0 h.shaped.1 x later (subst (AreLabels d h.shaped.0 h.shaped.1) next h.shaped.2));
    }

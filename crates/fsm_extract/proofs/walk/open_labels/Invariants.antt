use Rattle.std.proofs.Common.{◌≡◌, ◌++◌, ℕ, Bool, drop, map}
use Rattle.design_model.specs.View.{design_view, term_view, terms_of}
use Rattle.scene_laws.specs.Contexts.{AreLabels}
use Rattle.fsm_extract.specs.Walked.{label_values}
use Rattle.fsm_extract.proofs.walk.open_labels.Given as goal

-- what was found so far, with the values of the rest, is what all labels match, and the rest are in their context
abbrev pub invariant-loop-label : goal.invariant-loop-label
invariant-loop-label l =
    record {
      around : l.found.around.items ++ label_values (design_view l.machine.constants.design.now) l.machine.current (terms_of (map term_view (drop l.label-index l.labels))) ≡ l.fn.found.around.items ++ label_values (design_view l.machine.constants.design.now) l.machine.current (terms_of (map term_view l.fn.labels));
      arcs : l.found.arcs.items ≡ l.fn.found.arcs.items;
      states : l.found.states.items ++ label_values (design_view l.machine.constants.design.now) l.machine.current (terms_of (map term_view (drop l.label-index l.labels))) ≡ l.fn.found.states.items ++ label_values (design_view l.machine.constants.design.now) l.machine.current (terms_of (map term_view l.fn.labels));
      shaped : (width : ℕ) × (signed : Bool) × AreLabels (design_view l.machine.constants.design.now) width signed (terms_of (map term_view (drop l.label-index l.labels)));
    }

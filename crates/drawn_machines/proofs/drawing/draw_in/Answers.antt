use Rattle.std.proofs.Common.{◌∙◌, ◌++◌, List, append_assoc, ap, sym, subst, ℕ}
use Rattle.design_model.specs.View.{design_view}
use Rattle.drawn_machines.specs.Drawing.{AreNumberPairs, AreNumbers, arcs_drawn, states_drawn}
use Rattle.drawn_machines.proofs.Drawings.{all_drawn, numbers_inside, pairs_inside}
use Rattle.drawn_machines.proofs.drawing.draw_in.Goals as goal

pub draw_states-requires-clause-inside : goal.draw_states-requires-clause-inside
draw_states-requires-clause-inside c =
    let d = design_view c.args.design.now in
    let found = c.in_ok-found.found in
    let arcs = c.in_ok-found.ensures in
    subst (λ (ns : List ℕ). AreNumbers d c.args.current ns) (sym c.as_slice.ensures) (numbers_inside d c.args.instance c.args.name.now c.args.current c.args.next found.states found.pairs c.requires.one_width arcs.states arcs.pairs)

pub draw_arcs-requires-clause-inside : goal.draw_arcs-requires-clause-inside
draw_arcs-requires-clause-inside c =
    let d = design_view c.args.design.now in
    let found = c.in_ok-found.found in
    let arcs = c.in_ok-found.ensures in
    subst (λ (ps : List (ℕ × ℕ)). AreNumberPairs d c.args.current ps) (sym c.as_slice-2.ensures) (pairs_inside d c.args.instance c.args.name.now c.args.current c.args.next found.states found.pairs c.requires.one_width arcs.states arcs.pairs)

pub returns-clause-drawn : goal.returns-clause-drawn
returns-clause-drawn c =
    let d = design_view c.args.design.now in
    let i = c.args.instance in
    let name = c.args.name.now in
    let s = c.args.current in
    let found = c.in_ok-found.found in
    let arcs = c.in_ok-found.ensures in
    let first = c.in_ok-draw_states.ensures.drawn ∙ ap (λ (ns : List ℕ). c.args.states.now.drawn ++ states_drawn d i name s ns) c.as_slice.ensures in
    let second = c.in_ok-draw_arcs.ensures.drawn ∙ ap (λ (ps : List (ℕ × ℕ)). c.draw_states.new.states.drawn ++ arcs_drawn d i name s ps) c.as_slice-2.ensures in
    (states_drawn d i name s found.states ++ arcs_drawn d i name s found.pairs, second ∙ ap (λ es. es ++ arcs_drawn d i name s found.pairs) first ∙ append_assoc c.args.states.now.drawn (states_drawn d i name s found.states) (arcs_drawn d i name s found.pairs), all_drawn d i name s c.args.next found.states found.pairs c.requires.one_width arcs.states arcs.pairs)

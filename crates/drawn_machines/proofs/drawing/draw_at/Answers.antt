use Rattle.std.proofs.Common.{◌≡◌, ◌↔◌, ℕ, [], false, true, Ok, refl, rules, sym}
use Rattle.std.proofs.lemmas.Bool.{false≢true}
use Rattle.std.proofs.lemmas.List.{append-nil}
use Rattle.design_model.specs.Points.{IsInstanceOf}
use Rattle.design_model.specs.View.{design_view}
use Rattle.fsm_extract.specs.Fault.{IsMachine}
use Rattle.drawn_machines.proofs.Drawings.{none_of, own_drawn, same_pair}
use Rattle.drawn_machines.proofs.drawing.draw_at.Goals as goal

pub returns-in_ok-draw_in-in-Ok-clause-drawn : goal.returns-in_ok-draw_in-in-Ok-clause-drawn
returns-in_ok-draw_in-in-Ok-clause-drawn c =
    let d = design_view c.args.design.now in
    let s = c.in-Ok.from in
    let t = c.in-Ok.to in
    let drawn = c.in_ok-draw_in-in-Ok.ensures.drawn in
    let one : (p q : ℕ) → IsMachine d c.args.of_module.now c.args.instance c.args.current.now c.args.next.now p q → (p ≡ s) × (q ≡ t) = λ p q machine.
    same_pair s t p q (Ok (s, t)) refl (c.in-Ok.ensures.found p q machine) in
    (drawn.0, drawn.1, own_drawn d c.args.of_module.now c.args.current.now c.args.next.now c.args.instance s t drawn.0 c.in-Ok.ensures.ok one drawn.2)

pub returns-in-Err-NoMachine-Module-clause-drawn : goal.returns-in-Err-NoMachine-Module-clause-drawn
returns-in-Err-NoMachine-Module-clause-drawn c =
    let d = design_view c.args.design.now in
    let own : (false ≡ true) ↔ IsInstanceOf d c.args.instance c.args.of_module.now = search rules in
    ([], sym (append-nil c.args.states.now.drawn), none_of d c.args.of_module.now c.args.current.now c.args.next.now c.args.instance (λ is. false≢true (own.1 is)))

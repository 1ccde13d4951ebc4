use Rattle.std.proofs.Common.{◌∙◌, ap, refl}
use Rattle.state_machines.specs.Entries.{machines_in}
use Rattle.state_machines.specs.Machines.{StateMachines}
use Rattle.state_machines.proofs.Entries.{inserted}
use Rattle.state_machines.proofs.states.States.add.Goals as goal

pub returns-clause-named : goal.returns-clause-named
returns-clause-named c =
    ap machines_in c.in_ok-insert.ensures.entries ∙ inserted c.in_ok-variable.variable c.in_ok-names.names c.self.inside.machines.entries ∙ rw (c.in_ok-variable.ensures.0, c.in_ok-variable.ensures.1, c.in_ok-names.ensures, ap (λ (s : StateMachines). s.named) c.self.view_is) refl

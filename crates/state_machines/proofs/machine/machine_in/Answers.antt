use Rattle.std.proofs.Common.{◌≡◌, Err, ap}
use Rattle.state_machines.specs.declared.machine.MachineFault.TheVariants as machine_fault
use Rattle.state_machines.proofs.machine.machine_in.Goals as goal

pub returns-in-Err-clause-no_parameter : goal.returns-in-Err-clause-no_parameter
returns-in-Err-clause-no_parameter c = λ place e.
    let same : c.in-Err.fault ≡ machine_fault.NoParameter place = cc in
    c.in-Err.ensures.no_parameter place (ap Err same)

pub returns-in-Err-clause-named : goal.returns-in-Err-clause-named
returns-in-Err-clause-named c = λ place e. (c.in-Some.signal, c.in-Some.ensures.some)

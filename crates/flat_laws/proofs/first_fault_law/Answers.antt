use Rattle.flat_laws.proofs.first_fault_law.Goals as goal
use Rattle.flat_laws.proofs.First.{no_fault_stands, fault_stands, fault_first}

pub returns-clause-design : goal.returns-clause-design
returns-clause-design c ms top d e f stands = no_fault_stands ms top d e f stands

pub returns-clause-fault : goal.returns-clause-fault
returns-clause-fault c ms top f e = fault_stands ms top f e

pub returns-clause-first : goal.returns-clause-first
returns-clause-first c ms top f e h stands = fault_first ms top f e h stands

use Rattle.input_laws.proofs.Worked.{worked_row, worked_run, worked_toggles}
use Rattle.input_laws.proofs.worked_case.Goals as goal

pub returns-clause-run : goal.returns-clause-run
returns-clause-run c = worked_run

pub returns-clause-toggles : goal.returns-clause-toggles
returns-clause-toggles c = worked_toggles

pub returns-clause-row : goal.returns-clause-row
returns-clause-row c = worked_row

pub returns-clause-register : goal.returns-clause-register
returns-clause-register c = λ inputs. let none = inputs.processes in cc

use Rattle.std.proofs.Common.{refl}
use Rattle.std.specs.Fmt.{digits}
use Rattle.selfrun_files.proofs.laws.worked_case.Goals as goal

pub returns-clause-dump : goal.returns-clause-dump
unfolding digits
returns-clause-dump c = refl

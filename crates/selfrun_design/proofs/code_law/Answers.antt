use Rattle.selfrun_design.proofs.CodeDesign.{code, code_is}
use Rattle.selfrun_design.proofs.code_law.Goals as goal

pub returns : goal.returns
returns c alloc = (code alloc, code_is alloc)

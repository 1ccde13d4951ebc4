use Rattle.std.proofs.Common.{arith}
use Rattle.std.proofs.lemmas.Grind.{common_steps}
use Rattle.selfrun_files.specs.Source.{source_text}
use Rattle.selfrun_files.proofs.Lines.{moved}
use Rattle.selfrun_files.proofs.input.read_source.Goals as goal

pub returns-clause-bytes : goal.returns-clause-bytes
returns-clause-bytes c =
    moved c.min-count.result c.args.at.now source_text c.copy_from_slice.new.self _
    (grind (arith, common_steps, c.source.ensures, c.split_at.ensures.back)) (grind (arith, common_steps, c.source.ensures, c.split_at.ensures.back))

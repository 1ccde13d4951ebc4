use Rattle.std.proofs.Common.{◌∙◌, sym, arith}
use Rattle.std.proofs.lemmas.Grind.{common_steps}
use Rattle.selfrun_files.specs.Dump.{to_come}
use Rattle.selfrun_files.proofs.Lines.{moved_before}
use Rattle.selfrun_files.proofs.dump.GeneratedDump.read.Goals as goal

pub returns-clause-bytes : goal.returns-clause-bytes
returns-clause-bytes c =
    sym c.ready.ensures.rest
    ∙ moved_before c.min-count.result c.ready.new.self.at c.ready.new.self.block c.copy_from_slice.new.self _ (to_come c.ready.new.self)
    (grind (arith, common_steps, c.rest-left.ensures.bytes)) (grind (arith, common_steps, c.rest-left.ensures.length))

pub returns-clause-none_at_end : goal.returns-clause-none_at_end
returns-clause-none_at_end c none some = sym c.ready.ensures.rest ∙ c.ready.ensures.some (grind (arith, common_steps, c.rest-left.ensures.length))

use Rattle.std.specs.Io.KnownBytes.{Keeps}
use Rattle.file_host.proofs.retry.write_some.Given as goal

-- no byte was written yet
abbrev pub invariant-loop : goal.invariant-loop
invariant-loop g l = Keeps (g.F.Write.contents l.initial.file) (g.F.Write.contents l.file)

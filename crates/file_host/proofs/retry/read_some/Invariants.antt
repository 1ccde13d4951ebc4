use Rattle.std.specs.Io.KnownBytes.{Keeps}
use Rattle.file_host.proofs.retry.read_some.Given as goal

-- no byte was taken yet
abbrev pub invariant-loop : goal.invariant-loop
invariant-loop g l = Keeps (g.F.Read.remaining l.initial.file) (g.F.Read.remaining l.file)

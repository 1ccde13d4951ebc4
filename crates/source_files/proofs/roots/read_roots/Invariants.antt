use Rattle.std.proofs.Common.{map, take}
use Rattle.whole_files.specs.Effects.{OnlyReads}
use Rattle.verilog_lexer.specs.Sources.{AreWithinLimits}
use Rattle.source_files.specs.Files.{AreRoots}
use Rattle.source_files.proofs.roots.read_roots.Given as goal

-- the files before this one are roots
abbrev pub invariant-files : goal.invariant-files
invariant-files g l = record {
  roots : AreRoots (g.H.Host.outside l.fn.host) (map (λ file. file.now) (take l.file-index l.files)) l.sources;
  within : AreWithinLimits l.sources;
  effects : OnlyReads (g.H.Host.outside l.fn.host) (g.H.Host.outside l.host);
}

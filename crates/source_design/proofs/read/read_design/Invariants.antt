use Rattle.std.proofs.Common.{◌-◌, length}
use Rattle.whole_files.specs.Effects.{OnlyReads}
use Rattle.source_design.specs.Reading.{HasBegun}
use Rattle.source_design.specs.Words.{source_values}
use Rattle.source_design.proofs.read.read_design.Given as goal

-- these are the sources on the way
abbrev pub invariant-lacking : goal.invariant-lacking
invariant-lacking g l = record {
  begun : HasBegun (source_values l.fn.words) (g.H.Host.outside l.fn.host) l.sources;
  effects : OnlyReads (g.H.Host.outside l.fn.host) (g.H.Host.outside l.host);
}

abbrev pub decreases-lacking : goal.decreases-lacking
decreases-lacking g l = 256 - length l.sources

use Rattle.std.proofs.Common.{◌≡◌, ◌-◌, ◌≤◌, length, take, true}
use Rattle.cov_host.specs.Outside.{AppendsTo, KeepsOutput, KeepsStreams, Told}
use Rattle.whole_files.specs.Effects.{CountsUp}
use Rattle.whole_files.proofs.files.write_all.Given as goal

abbrev pub invariant-loop-written : goal.invariant-loop-written
invariant-loop-written g l = record {
  within : l.written ≤ length l.text;
  writing : (g.H.Host.outside l.host).writing ≡ true;
  written : Told (AppendsTo (g.H.Host.outside l.fn.host).target (take l.written l.text)) (g.H.Host.outside l.fn.host).files (g.H.Host.outside l.host).files;
  output : KeepsOutput (g.H.Host.outside l.fn.host) (g.H.Host.outside l.host);
  streams : KeepsStreams (g.H.Host.outside l.fn.host) (g.H.Host.outside l.host);
  counts : CountsUp (g.H.Host.outside l.fn.host) (g.H.Host.outside l.host);
}

abbrev pub decreases-loop-written : goal.decreases-loop-written
decreases-loop-written g l = length l.text - l.written

use Rattle.std.proofs.Common.{◌≡◌, take}
use Rattle.std.specs.List.{flat_map}
use Rattle.cov_host.specs.Outside.{Appends, KeepsFiles, KeepsInput, KeepsOutput, Told}
use Rattle.whole_files.specs.Effects.{CountsUp}
use Rattle.whole_files.proofs.pieces.warn_texts.Given as goal

abbrev pub invariant-loop-text : goal.invariant-loop-text
invariant-loop-text g l = record {
  warned : Told (Appends (flat_map (λ text. text.now) (take l.text-index l.texts))) (g.H.Host.outside l.fn.host).warned (g.H.Host.outside l.host).warned;
  printed : (g.H.Host.outside l.host).printed ≡ (g.H.Host.outside l.fn.host).printed;
  files : KeepsFiles (g.H.Host.outside l.fn.host) (g.H.Host.outside l.host);
  input : KeepsInput (g.H.Host.outside l.fn.host) (g.H.Host.outside l.host);
  output : KeepsOutput (g.H.Host.outside l.fn.host) (g.H.Host.outside l.host);
  counts : CountsUp (g.H.Host.outside l.fn.host) (g.H.Host.outside l.host);
}

use Rattle.std.specs.Prelude.{codes, decimal}
use Rattle.whole_files.proofs.Lines.{WarnsLine-is}
use Rattle.source_design.proofs.Lines.{at_place, no_place}
use Rattle.source_design.proofs.fault.warn_at.Goals as goal

pub returns-in-None-clause-line : goal.returns-in-None-clause-line
returns-in-None-clause-line g c =
    rw c.in-None.is (WarnsLine-is _ _ (g.H.Host.outside c.args.host.now) (g.H.Host.outside c.warn_parts.new.host)
    (no_place (codes "covered: source: ") c.args.kind.now c.args.space.now c.args.detail.now (codes "\n")) c.warn_parts.ensures.line)

pub returns-in-Some-clause-line : goal.returns-in-Some-clause-line
returns-in-Some-clause-line g c =
    rw c.in-Some.is (WarnsLine-is _ _ (g.H.Host.outside c.args.host.now) (g.H.Host.outside c.warn_spot.new.host)
    (at_place (codes "covered: source: ") c.args.kind.now c.args.space.now c.args.detail.now (codes " at ") c.in-Some.spot.file (codes ":") (decimal c.in-Some.spot.line) (codes ":") (decimal c.in-Some.spot.column) (codes "\n"))
    c.warn_spot.ensures.line)

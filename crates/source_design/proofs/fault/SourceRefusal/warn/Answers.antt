use Rattle.std.proofs.Common.{◌++◌, append_assoc, rules, subst}
use Rattle.std.specs.Prelude.{codes}
use Rattle.whole_files.specs.Effects.{WarnsLine}
use Rattle.whole_files.proofs.Lines.{WarnsLine-is}
use Rattle.source_design.specs.FaultLine.{kind_text, spot_text}
use Rattle.source_design.proofs.Lines.{with_detail}
use Rattle.source_design.proofs.fault.SourceRefusal.warn.Goals as goal

pub returns-in-None-clause-line : goal.returns-in-None-clause-line
returns-in-None-clause-line g c =
    rw c.in-None.is (WarnsLine-is _ _ (g.H.Host.outside c.args.host.now) (g.H.Host.outside c.warn_at.new.host) (search (rules, append_assoc, c.text-kind.ensures, c.as_bytes.ensures.value)) c.warn_at.ensures.line)

pub returns-in-Some-clause-line : goal.returns-in-Some-clause-line
returns-in-Some-clause-line g c =
    let before = g.H.Host.outside c.args.host.now in
    let after = g.H.Host.outside c.warn_at-in-Some.new.host in
    let spot = spot_text c.args.self.now.spot in
    let named = subst (λ kind. WarnsLine (codes "covered: source: " ++ kind ++ codes " " ++ c.as_slice.result.now ++ spot ++ codes "\n") before after) c.text-kind.ensures c.warn_at-in-Some.ensures.line in
    let told = subst (λ detail. WarnsLine (codes "covered: source: " ++ kind_text c.args.self.now.kind ++ codes " " ++ detail ++ spot ++ codes "\n") before after) c.as_slice.ensures named in
    rw c.in-Some.is (WarnsLine-is _ _ before after (with_detail (codes "covered: source: ") (kind_text c.args.self.now.kind) (codes " ") c.in-Some.detail spot (codes "\n")) told)

use Rattle.std.proofs.Common.{[], ◌++◌, append_assoc, subst}
use Rattle.std.proofs.lemmas.List.{append-nil}
use Rattle.std.specs.Prelude.{codes, decimal}
use Rattle.coverage_db.specs.FaultText.{kind_text}
use Rattle.whole_files.specs.Effects.{WarnsLine}
use Rattle.database_commands.proofs.fault.warn_kind.Goals as goal

pub returns-in-None-clause-line : goal.returns-in-None-clause-line
returns-in-None-clause-line g c =
    let before = g.H.Host.outside c.args.host.now in
    let after = g.H.Host.outside c.warn_fault.new.host in
    let start = codes "covered: database: " ++ c.args.file.now ++ codes ": " in
    let named = subst (λ fault. WarnsLine (start ++ fault ++ [] ++ [] ++ codes "\n") before after) c.text.ensures c.warn_fault.ensures.line in
    rw c.in-None.is (subst (λ front. WarnsLine (front ++ codes "\n") before after) (append-nil (start ++ kind_text c.args.kind ++ [])) named)

pub returns-in-Some-clause-line : goal.returns-in-Some-clause-line
returns-in-Some-clause-line g c =
    let before = g.H.Host.outside c.args.host.now in
    let after = g.H.Host.outside c.warn_fault-in-Some.new.host in
    let start = codes "covered: database: " ++ c.args.file.now ++ codes ": " in
    let numbered = subst (λ digits. WarnsLine (start ++ c.text-in-Some.result.now ++ codes " " ++ digits ++ codes "\n") before after) c.format.ensures.text c.warn_fault-in-Some.ensures.line in
    let named = subst (λ fault. WarnsLine (start ++ fault ++ codes " " ++ decimal c.in-Some.line ++ codes "\n") before after) c.text-in-Some.ensures numbered in
    rw c.in-Some.is (subst (λ front. WarnsLine (front ++ codes "\n") before after) (append_assoc (start ++ kind_text c.args.kind) (codes " ") (decimal c.in-Some.line)) named)

use Rattle.std.proofs.Common.{length, subst}
use Rattle.verilog_lexer.specs.Sources.{IsRefusal, refusal_of}
use Rattle.source_files.proofs.Contents.{no_fit}
use Rattle.source_files.proofs.join.join.Goals as goal

pub returns-in-Err-At-clause-fault : goal.returns-in-Err-At-clause-fault
returns-in-Err-At-clause-fault g c =
    no_fit (g.H.Host.outside c.args.host.now) c.args.path.now c.args.name.now c.in-Ok.bytes c.args.sources.now _ c.in-Err-At.field-0-1 _ c.in-Ok.ensures.content
    (subst (IsRefusal (refusal_of c.args.sources.now c.args.name.now (length c.in-Ok.bytes))) c.in-Err-At.field-0-is c.in-Err-At.ensures.refused)

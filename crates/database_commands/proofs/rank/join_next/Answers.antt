use Rattle.std.proofs.Common.{sym, subst}
use Rattle.std.specs.Prelude.{IfOk}
use Rattle.database_commands.specs.Ranking.{IsJoined}
use Rattle.database_commands.proofs.Ranking.{is_joined}
use Rattle.database_commands.proofs.rank.join_next.Goals as goal

pub returns-in-Ok-clause-joined : goal.returns-in-Ok-clause-joined
returns-in-Ok-clause-joined c =
    subst (λ joined. IfOk joined (λ table. IsJoined table c.args.other.now c.args.file.now c.join.result)) (sym c.in-Ok.is)
    (is_joined c.in-Ok.table c.args.other.now c.args.file.now c.join.result c.join.ensures.table c.join.ensures.same c.join.ensures.merged c.join.ensures.fault)

use Rattle.coverage_db.proofs.JoinLaws.{merged_comm, merged_assoc, merged_itself, all_hit, hit_all}
use Rattle.coverage_db.proofs.WindowLaws.{joined_rises, joined_among}
use Rattle.coverage_db.proofs.laws.merge_laws.Goals as goal

pub returns-clause-commutative : goal.returns-clause-commutative
returns-clause-commutative c = merged_comm

pub returns-clause-associative : goal.returns-clause-associative
returns-clause-associative c = merged_assoc

pub returns-clause-idempotent : goal.returns-clause-idempotent
returns-clause-idempotent c = merged_itself

pub returns-clause-rising : goal.returns-clause-rising
returns-clause-rising c = λ a b. joined_rises a.windows b.windows

pub returns-clause-windows : goal.returns-clause-windows
returns-clause-windows c = λ a b w. joined_among w a.windows b.windows

pub returns-clause-hit : goal.returns-clause-hit
returns-clause-hit c = λ first others place each. (all_hit first others place each, hit_all first others place each)

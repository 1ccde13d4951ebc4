use Rattle.std.proofs.Common.{◌∙◌, sym, arith}
use Rattle.coverage_db.specs.Text.{address_text}
use Rattle.db_tools.proofs.GreedyLaws.{first_at}
use Rattle.db_tools.proofs.marking.is_named.Goals as goal

pub returns-then-place-lines : goal.returns-then-place-lines
returns-then-place-lines c =
    let first = first_at (address_text c.args.instances.now c.args.address.now) c.args.lines.now c.args.place _ (omega arith) in
    c.is_address.ensures ∙ sym first

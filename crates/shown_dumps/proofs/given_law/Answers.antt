use Rattle.shown_dumps.proofs.Ongoing.{values_given}
use Rattle.shown_dumps.proofs.given_law.Goals as goal

pub returns : goal.returns
returns c design vars instance values entries more last next t are rises is_last from until given some =
    values_given design vars instance values entries more last next t are rises is_last from until given some

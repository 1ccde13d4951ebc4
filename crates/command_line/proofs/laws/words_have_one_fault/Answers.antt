use Rattle.std.proofs.Common.{◌∙◌, sym}
use Rattle.command_line.proofs.Outcome.{outcome_of-fault}
use Rattle.command_line.proofs.laws.words_have_one_fault.Goals as goal

pub returns : goal.returns
returns c words a b has_a has_b =
    let e = sym (outcome_of-fault words a has_a) ∙ outcome_of-fault words b has_b in cc

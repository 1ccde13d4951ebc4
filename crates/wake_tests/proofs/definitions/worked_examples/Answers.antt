use Rattle.std.proofs.Common.{refl}
use Rattle.four_state.specs.Masks.{is_set}
use Rattle.wake_tests.proofs.definitions.worked_examples.Goals as goal

pub returns-clause-in_the_mask : goal.returns-clause-in_the_mask
unfolding is_set
returns-clause-in_the_mask c = refl

pub returns-clause-not_in_the_mask : goal.returns-clause-not_in_the_mask
unfolding is_set
returns-clause-not_in_the_mask c = refl

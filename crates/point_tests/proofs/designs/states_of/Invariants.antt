use Rattle.std.proofs.Common.{◌≡◌, []}
use Rattle.point_tests.proofs.designs.states_of.Given as goal

-- nothing is drawn
abbrev pub invariant-machines : goal.invariant-machines
invariant-machines l = l.states.drawn ≡ []

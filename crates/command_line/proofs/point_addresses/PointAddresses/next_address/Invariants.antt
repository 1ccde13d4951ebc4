use Rattle.std.proofs.Common.{◌≡◌, length}
use Rattle.command_line.specs.PointAddresses.{addresses_of}
use Rattle.command_line.specs.WordsLeft.{left_words}
use Rattle.command_line.proofs.point_addresses.PointAddresses.next_address.Given as goal

-- no address was passed over
abbrev pub invariant-loop-word : goal.invariant-loop-word
invariant-loop-word l = addresses_of l.self ≡ addresses_of l.fn.self

abbrev pub decreases-loop-word : goal.decreases-loop-word
decreases-loop-word l = length (left_words l.self.words)

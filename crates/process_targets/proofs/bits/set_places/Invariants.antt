use Rattle.std.proofs.Common.{◌≡◌, length}
use Rattle.process_targets.proofs.Placing.{ArePlacedTo}
use Rattle.process_targets.proofs.bits.set_places.Given as goal

-- the signals so far have their places
abbrev pub invariant-loop-place : goal.invariant-loop-place
invariant-loop-place l = record { size : length l.places ≡ length l.fn.places; placed : ArePlacedTo l.row l.places l.place }

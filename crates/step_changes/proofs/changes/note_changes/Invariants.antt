use Rattle.std.proofs.Common.{◌≡◌, map, take}
use Rattle.step_changes.specs.Changes.{change_by}
use Rattle.step_changes.proofs.changes.note_changes.Given as goal

-- the changes of the signals so far
abbrev pub invariant-loop-place : goal.invariant-loop-place
invariant-loop-place l = (l.changes.room ≡ l.fn.changes.room) × (l.changes.items ≡ map (change_by l.codes l.values) (take l.place l.changed.items))

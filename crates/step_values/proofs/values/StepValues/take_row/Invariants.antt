use Rattle.std.proofs.Common.{◌≡◌, take}
use Rattle.store_knowledge.specs.body_calls.Own.{is_in}
use Rattle.step_values.specs.Taken.{Takes}
use Rattle.step_values.proofs.values.StepValues.take_row.Given as goal

-- the signals so far are taken
abbrev pub invariant-loop-thing : goal.invariant-loop-thing
invariant-loop-thing l = (l.overwritten.size ≡ l.fn.overwritten.size) × Takes l.codes (is_in (take l.thing-index l.things)) l.store l.fn.overwritten.items l.overwritten.items l.fn.self l.self

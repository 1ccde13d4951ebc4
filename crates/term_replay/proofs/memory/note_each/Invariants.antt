use Rattle.std.proofs.Common.{◌-◌}
use Rattle.std.specs.List.{range_with_len}
use Rattle.design_model.specs.declared.design.Memory.{Memory}
use Rattle.body_replay.specs.Store.{may_name}
use Rattle.body_replay.specs.Replay.{perhaps_marks}
use Rattle.term_replay.specs.Noted.{Adds, access_spot}
use Rattle.term_replay.specs.Words.{IsOf}
use Rattle.term_replay.proofs.memory.note_each.Given as goal

-- the words before this one were noted
abbrev pub invariant-loop-word : goal.invariant-loop-word
invariant-loop-word g l =
    (m : Memory) → IsOf l.fn.words m → Adds g.N.Notes.noted l.fn.notes (perhaps_marks (access_spot l.access l.memory) (may_name m l.index.signed l.index.bits) (range_with_len l.low (l.word - l.low)) l.thing) l.notes

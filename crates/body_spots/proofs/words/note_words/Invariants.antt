use Rattle.std.proofs.Common.{◌-◌, map}
use Rattle.std.specs.List.{range_with_len}
use Rattle.value_store.specs.body_replay.Replay.{hit}
use Rattle.term_replay.specs.Noted.{Adds, access_spot}
use Rattle.body_spots.proofs.words.note_words.Given as goal

-- the words before this one were noted
abbrev pub invariant-loop-word : goal.invariant-loop-word
invariant-loop-word g l = Adds g.N.Notes.noted l.fn.notes (map hit (map (access_spot l.access l.memory) (range_with_len l.low (l.word - l.low)))) l.notes

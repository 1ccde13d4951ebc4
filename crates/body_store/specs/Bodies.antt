-- A store as the run of a body sees it: the writes that it has queued, the undecided tests around, and its room.
use Rattle.std.specs.Prelude.{ℕ, ◌+◌, ◌-◌, min, nat_lt, if◌then◌else◌, List, length}
use Rattle.design_model.specs.declared.design.Design as m
use Rattle.design_model.specs.Design.{memory_at}
use Rattle.design_model.specs.View.{design_view}
use Rattle.body_calls.specs.body_replay.Store.{KnownWrite}
use Rattle.word_log.specs.memory_rebuild.Words.{count}
use Rattle.write_log.specs.Logs.{around, reads_of}
use Rattle.word_log.specs.Logs as w
use Rattle.word_log.specs.Memories.{shape_of}
use Rattle.body_calls.specs.Rooms.{Rooms}
use Rattle.body_calls.specs.Ways.{Around}
use Rattle.body_store.specs.declared.store.Store.{Store}
use Rattle.body_store.specs.Scenes.{scene_with}
use Rattle.body_store.specs.Tests.{log_room, tests_by, word_room}
use Rattle.body_store.specs.Updates.{queued_writes}

-- the writes that are queued
abbrev pub queued_of : Store → List KnownWrite
queued_of x = queued_writes (design_view x.design.now) x.updates.items

-- the undecided tests around
abbrev pub around_of : Store → List Around
around_of x = tests_by (scene_with x.design.now) (around x.log (reads_of x.signals)) (w.around x.words x.memories.items)

-- what a write takes in an undecided test: of a signal one entry, and of a memory at most one for each word and one more
abbrev pub write_takes : m.Design → ℕ → ℕ
write_takes d y = if nat_lt y (length d.signals) then 1 else count (shape_of (memory_at (design_view d) y) y) + 1

-- the room of a store: what both of its logs have
abbrev pub rooms_of : Store → Rooms
rooms_of x =
    record {
      log = min (log_room x.log) (word_room x.words);
      takes = write_takes x.design.now;
      queue = x.updates.room - length x.updates.items;
    }

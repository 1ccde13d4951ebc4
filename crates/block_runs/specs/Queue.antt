-- How the writes are made that runs have queued.
use Rattle.std.specs.Prelude.{◌≡◌, List}
use Rattle.body_replay.specs.Replay.{flush}
use Rattle.body_replay.specs.Store.{Kept, KnownWrite, keep_all}
use Rattle.assignments.specs.scene_laws.At.{flat}

-- the writes of one execution after the other are made as those of one list
abbrev pub QueueLaw : Type 0
QueueLaw = (k : Kept) (queue : List (List KnownWrite)) → flush k queue ≡ keep_all k (flat queue)

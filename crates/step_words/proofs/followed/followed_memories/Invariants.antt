use Rattle.std.proofs.Common.{◌≡◌, ℕ, ◌+◌, ◌<◌, true, length}
use Rattle.design_model.specs.Design.{In}
use Rattle.index_sets.specs.Rows.{row_at}
use Rattle.written_words.specs.Written.{flag_at}
use Rattle.step_words.proofs.followed.followed_memories.Given as goal

-- the memories that the processes so far watch are followed
abbrev pub invariant-loop-process : goal.invariant-loop-process
invariant-loop-process l =
    record {
      count : length l.followed.items ≡ length l.design.memories;
      each : (p m : ℕ) → p < l.process → In (length l.design.signals + m) (row_at l.watched p) → m < length l.design.memories → flag_at l.followed.items m ≡ true;
    }

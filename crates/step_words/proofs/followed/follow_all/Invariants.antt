use Rattle.std.proofs.Common.{◌≡◌, ℕ, ◌+◌, ◌<◌, true, length, take}
use Rattle.design_model.specs.Design.{In}
use Rattle.written_words.specs.Written.{flag_at}
use Rattle.step_words.proofs.followed.follow_all.Given as goal

-- the memories so far are followed
abbrev pub invariant-loop-thing : goal.invariant-loop-thing
invariant-loop-thing l =
    record {
      count : length l.followed ≡ length l.fn.followed;
      kept : (m : ℕ) → flag_at l.fn.followed m ≡ true → flag_at l.followed m ≡ true;
      each : (m : ℕ) → In (l.signals + m) (take l.thing-index l.things) → m < length l.fn.followed → flag_at l.followed m ≡ true;
    }

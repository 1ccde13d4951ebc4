use Rattle.std.proofs.Common.{◌≡◌, ◌<◌, ℕ, if◌then◌else◌, length}
use Rattle.std.specs.Prelude.{slice_index_or}
use Rattle.design_model.specs.Design.{no_memory}
use Rattle.written_words.specs.Written.{AreSmall, flag_at, no_range, range_at, range_of}
use Rattle.written_words.proofs.words.ranges_of.Given as goal

-- those of the memories so far
abbrev pub invariant-loop-place : goal.invariant-loop-place
invariant-loop-place l =
    record {
      count : length l.ranges.items ≡ l.place;
      each : (m : ℕ) → m < l.place → range_at l.ranges.items m ≡ (if flag_at l.followed m then range_of (slice_index_or l.memories m no_memory) else no_range);
      small : AreSmall l.ranges.items;
    }

-- What is left of a dump that is made while it is read.
use Rattle.std.specs.Prelude.{◌≡◌, ℕ, ◌-◌, ◌+◌, ◌≤◌, ◌<◌, List, [], ◌∷◌, ◌++◌, drop, flat_map, length}
use Rattle.selfrun_files.specs.Samples.{Sample, after, high, samples}
use Rattle.selfrun_files.specs.Text.{sample_text}
use Rattle.selfrun_files.specs.declared.dump.GeneratedDump.{GeneratedDump}
use Rattle.selfrun_files.specs.declared.dump.Next.{Next}
use Rattle.selfrun_files.specs.declared.dump.Next.TheVariants.{Low, High, End}
use Rattle.selfrun_files.specs.declared.moment.Moment.{Moment}

-- what is given from here on, where this many steps are left
abbrev pub samples_from : Next → ℕ → Moment → List Sample
samples_from Low left m = samples left m
samples_from High left m = high m ∷ samples (left - 1) (after m)
samples_from End left m = []

-- the bytes that were not made yet
abbrev pub to_come : GeneratedDump → List ℕ
to_come dump = flat_map sample_text (samples_from dump.next dump.left dump.moment)

-- the bytes that were not read yet
abbrev pub rest_of : GeneratedDump → List ℕ
rest_of dump = drop dump.at dump.block ++ to_come dump

-- The dump has at most a million steps, a step that has begun is one of those that are left, and no more was read of the block than there is.
pub record IsWithin (dump : GeneratedDump) : Type 0 where
  pub steps : dump.moment.step + dump.left ≤ 1000000
  pub begun : dump.next ≡ High → 0 < dump.left
  pub read : dump.at ≤ length dump.block

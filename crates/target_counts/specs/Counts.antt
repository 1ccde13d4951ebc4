-- What is counted of the targets on the paths so far.
use Rattle.std.specs.Prelude.{◌≡◌, ◌+◌, ◌<◌, ◌≤◌, ◌&&◌, ◌++◌, if◌then◌else◌, ℕ, Bool, List, [], length, min, nat_le, slice_index_or}
use Rattle.process_names.specs.Laws.{has}
use Rattle.target_counts.specs.declared.counts.TargetCounts.{TargetCounts}

-- how often it is named
abbrev pub count_in : List ℕ → ℕ → ℕ
count_in counts x = slice_index_or counts x 0

abbrev pub count_at : TargetCounts → ℕ → ℕ
count_at c x = count_in c.counts.items x

-- nothing is named yet
pub record IsClear (c : TargetCounts) : Type 0 where
  pub none : (x : ℕ) → count_at c x ≡ 0
  pub order : c.order.items ≡ []

-- of these things, in place of a count that passes the test another one
pub record Replaces (test : ℕ → Bool) (other : ℕ) (things before after : List ℕ) : Type 0 where
  pub size : length after ≡ length before
  pub is : (x : ℕ) → x < length before → count_in after x ≡ (if has x things && test (count_in before x) then other else count_in before x)

-- these things were named after others
pub record Adds (n : ℕ → ℕ) (before after : TargetCounts) : Type 0 where
  pub size : length after.counts.items ≡ length before.counts.items
  pub more : List ℕ
  pub order : after.order.items ≡ before.order.items ++ more
  pub has_more : (x : ℕ) → x < length before.counts.items → has x more ≡ nat_le 1 (n x)

-- each was named so many times more; twice and more often count as the same
pub record Counts (n : ℕ → ℕ) (before after : TargetCounts) : Type 0 where
  pub adds : Adds n before after
  pub is : (x : ℕ) → x < length before.counts.items → min 2 (count_at after x) ≡ min 2 (count_at before x + n x)

-- each is named as before, except those that would be named twice, which are
pub record Tries (n : ℕ → ℕ) (before after : TargetCounts) : Type 0 where
  pub adds : Adds n before after
  pub twice : (x : ℕ) → x < length before.counts.items → 2 ≤ count_at before x + n x → 2 ≤ count_at after x
  pub once : (x : ℕ) → x < length before.counts.items → count_at before x + n x < 2 → count_at after x ≡ count_at before x

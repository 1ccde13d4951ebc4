use Rattle.std.proofs.Common.{◌≡◌, ℕ, ◌<◌, Some, None}
use Rattle.std.specs.Prelude.{slice_index_or}
use Rattle.replay_core.proofs.rows.past_codes.Given as goal

abbrev pub invariant-loop-code : goal.invariant-loop-code
invariant-loop-code l = (s code : ℕ) → s < l.code-index → slice_index_or l.codes s None ≡ Some code → code < l.past

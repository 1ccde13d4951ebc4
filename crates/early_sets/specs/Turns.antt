-- How many turns of loops a step may take, by the members of its sets.
use Rattle.std.specs.Prelude.{◌+◌, ◌*◌, ℕ, List, ◌++◌, Option, Some, None, length}
use Rattle.std.specs.List.{sum_by}
use Rattle.index_sets.specs.Rows.{row_at}
use Rattle.wake_tables.specs.declared.tables.WakeTables.{WakeTables}
use Rattle.early_sets.specs.WakeState.{WakeState}
use Rattle.early_sets.specs.Rounds.{writer_at}

-- the processes that some change of the thing may wake
abbrev pub listeners : WakeTables → ℕ → List ℕ
listeners t x = row_at t.level x ++ row_at t.rising x ++ row_at t.falling x

-- how many things the process may write
abbrev pub target_count : WakeTables → ℕ → ℕ
target_count t p = length (row_at t.nonblocking p) + length (row_at t.blocking p)

-- one for the process, and one for each thing that it may write
abbrev pub process_turns : WakeTables → ℕ → ℕ
process_turns t p = 1 + target_count t p

-- one for the thing, one for each process that it may wake, and the turns of each of these
abbrev pub member_turns : WakeTables → ℕ → ℕ
member_turns t x = 1 + length (listeners t x) + sum_by (process_turns t) (listeners t x)

-- the turns of all members
abbrev pub all_turns : WakeTables → List ℕ → ℕ
all_turns t xs = sum_by (member_turns t) xs

-- the edges in the list of the block that writes the thing, where it may become single
abbrev pub writer_events : WakeState → Option ℕ → ℕ
writer_events w None = 0
writer_events w (Some p) = length (row_at w.tables.events p)

-- those in which it is found whether a member becomes single: three, and three for each such edge
abbrev pub check_turns : WakeState → ℕ → ℕ
check_turns w x = 3 + 3 * writer_events w (writer_at w x)

-- those of all members
abbrev pub all_check_turns : WakeState → ℕ
all_check_turns w = sum_by (check_turns w) w.moves

-- those in which it is found what may move: one for each input that changes or may change, and those of what may move
abbrev pub moves_turns : WakeState → ℕ
moves_turns w = length w.noted + all_turns w.tables w.moves

-- those of a round
abbrev pub round_turns : WakeState → ℕ
round_turns w = moves_turns w + all_check_turns w

-- those of all rounds
abbrev pub settle_turns : List WakeState → ℕ
settle_turns ws = sum_by round_turns ws

-- those in which it is found what is early: one for each such input, those of the trigger, and those of what is early
abbrev pub early_turns : WakeState → ℕ → ℕ
early_turns w trigger = length w.noted + member_turns w.tables trigger + all_turns w.tables w.early

-- the same, with two for each edge in the list of the process, by which its trigger is found
abbrev pub choose_turns : WakeState → ℕ → ℕ → ℕ
choose_turns w p trigger = length (row_at w.tables.events p) + length (row_at w.tables.events p) + early_turns w trigger

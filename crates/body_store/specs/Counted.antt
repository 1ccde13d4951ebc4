-- The room that is counted for the runs of the bodies of a design.
use Rattle.std.specs.Prelude.{◌≡◌, ℕ}
use Rattle.design_model.specs.Design.{Design}
use Rattle.write_log.specs.value_store.Rooms.{as_usize, log_takes, most_logged, processes_queued}

-- places in the log for what any one of them logs, and in the queue for the parts of all of their nonblocking assignments
pub record IsCounted (d : Design) (log queue : ℕ) : Type 0 where
  pub log_is : log ≡ as_usize (most_logged (log_takes d) d.processes)
  pub queue_is : queue ≡ as_usize (processes_queued d.processes)

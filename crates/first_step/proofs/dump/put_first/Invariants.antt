use Rattle.std.proofs.Common.{◌≡◌, ◌&&◌}
use Rattle.std.specs.Prelude.{nat_lt}
use Rattle.settling.specs.step_values.Loose.{has_code}
use Rattle.first_step.specs.Begun.{Puts}
use Rattle.first_step.proofs.dump.put_first.Given as goal

-- the values of the signals so far are put in
abbrev pub invariant-loop-signal : goal.invariant-loop-signal
invariant-loop-signal l =
    (l.store.design ≡ l.fn.store.design) × Puts l.rows.codes.now l.dump.last (λ s. has_code l.rows.codes.now s && nat_lt s l.signal) l.fn.store l.store l.fn.values l.values

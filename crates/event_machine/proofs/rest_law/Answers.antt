use Rattle.event_machine.proofs.rest_law.Goals as goal
use Rattle.event_machine.proofs.Rest.{no_event_law}
use Rattle.event_machine.proofs.Rounds.{no_wake_law, rest_law, unchanged_law}

pub returns : goal.returns
returns g c = record { rest = rest_law; unchanged = unchanged_law; no_wake = no_wake_law; no_event = no_event_law }

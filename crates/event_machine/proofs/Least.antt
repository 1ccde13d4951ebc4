-- The sets are the least ones: each set that is closed under their rules has each member.
use Rattle.event_machine.specs.Machine.{Machine}
use Rattle.event_machine.specs.Event.{event_writes}
use Rattle.event_machine.specs.MayMove.{MayMove}
use Rattle.event_machine.specs.Early.{IsEarly}
use Rattle.event_machine.specs.Single.{IsSingle}
use Rattle.event_machine.specs.Laws.{EarlyLaw, LeastEarly, LeastMayMove}
use Rattle.event_machine.proofs.Pending.{early_may_move}

pub least_may_move : {V : Type 0} (m : Machine V) → LeastMayMove m
least_may_move m n t has closed x (MayMove.of_input c moving) = closed.inputs c moving
least_may_move m n t has closed x (MayMove.of_target y p c may may_wake target) =
    closed.targets y p c (least_may_move m n t has closed y may) may_wake target

pub least_early : {V : Type 0} (m : Machine V) → LeastEarly m
least_early m n t h b c has closed x (IsEarly.of_input d moving free other) = closed.inputs d moving free other
least_early m n t h b c has closed x (IsEarly.of_trigger p d may_wake not_b writes other) = closed.of_trigger p d may_wake not_b writes other
least_early m n t h b c has closed x (IsEarly.of_blocking y p d early may_wake not_b writes other) =
    closed.blocking y p d (least_early m n t h b c has closed y early) may_wake not_b writes other
least_early m n t h b c has closed x (IsEarly.of_nonblocking y p d early may_wake writes other) =
    closed.nonblocking y p d (least_early m n t h b c has closed y early) may_wake writes other

pub early_law : {V : Type 0} (m : Machine V) → EarlyLaw m
early_law m n t h b c clean = early_may_move m t (IsSingle m t n) h b c clean

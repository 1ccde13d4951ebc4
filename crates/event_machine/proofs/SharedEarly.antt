-- What is early for a trigger is the same for two blocks without blocking targets.
use Rattle.std.proofs.Common.{◌≡◌, ◌≢◌, ℕ, true, true≢false, sym, ap, ◌∙◌}
use Rattle.event_machine.specs.Cell.{Cell}
use Rattle.event_machine.specs.Machine.{Machine}
use Rattle.event_machine.specs.Early.{IsEarly}
use Rattle.event_machine.specs.SharedEarly.{HasNoBlocking, SharedEarlyLaw}

-- a block without blocking targets is not one that writes by a blocking write
apart : {V : Type 0} (m : Machine V) (b p : ℕ) (d : Cell) → HasNoBlocking m b → m.blocking p d ≡ true → p ≢ b
apart m b p d none blocks same = true≢false (sym blocks ∙ ap (λ q. m.blocking q d) same ∙ none d)

pub shared_early_law : {V : Type 0} (m : Machine V) → SharedEarlyLaw m
shared_early_law m n t h a b c none_a none_b x (IsEarly.of_input d moving free other) = IsEarly.of_input d moving free other
shared_early_law m n t h a b c none_a none_b x (IsEarly.of_trigger p d may_wake not_a blocks other) =
    IsEarly.of_trigger p d may_wake (apart m b p d none_b blocks) blocks other
shared_early_law m n t h a b c none_a none_b x (IsEarly.of_blocking y p d early may_wake not_a blocks other) =
    IsEarly.of_blocking y p d (shared_early_law m n t h a b c none_a none_b y early) may_wake (apart m b p d none_b blocks) blocks other
shared_early_law m n t h a b c none_a none_b x (IsEarly.of_nonblocking y p d early may_wake queues other) =
    IsEarly.of_nonblocking y p d (shared_early_law m n t h a b c none_a none_b y early) may_wake queues other

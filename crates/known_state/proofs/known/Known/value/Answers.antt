use Rattle.known_state.specs.Stored.{sure_bits}
use Rattle.known_state.proofs.Allowed.{whole_is}
use Rattle.known_state.proofs.known.Known.value.Goals as goal

pub returns-clause-whole : goal.returns-clause-whole
returns-clause-whole c =
    rw (← c.self.view_is) (λ sure. whole_is (sure_bits c.self.inside.value.bits c.self.inside.sure) c.self.inside.value c.self.inside.blame c.self.invariant.blank sure (c.self.invariant.spared sure))

-- The answer of the labels of an arm.
use Rattle.std.specs.Prelude.{ℕ}
use Rattle.known_state.specs.declared.maybe.Maybe.{Maybe}
use Rattle.known_state.specs.declared.maybe.Maybe.TheVariants.{Yes, No, Unsure}

-- the answer so far, after an undecided label: the first one is to blame
abbrev pub undecided_after : Maybe → ℕ → Maybe
undecided_after (Unsure first) thing = Unsure first
undecided_after Yes thing = Unsure thing
undecided_after No thing = Unsure thing

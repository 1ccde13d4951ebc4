use Rattle.std.proofs.Common.{◌∙◌, length, get_or, sym, ap}
use Rattle.std.specs.Prelude.{is_some}
use Rattle.std.proofs.lemmas.Bool.{false≢true, lt-ltb}
use Rattle.process_targets.specs.Placed.{no_bits}
use Rattle.process_targets.proofs.Placing.{not_named}
use Rattle.process_targets.proofs.bits.place_of.Goals as goal

pub returns-in_default : goal.returns-in_default
returns-in_default c =
    not_named c.args.row.now c.args.places.now c.args.signal c.requires.placed (λ l e. c.if-bits-signal.false (ap (λ b. b.signal) (c.in-Some.ensures.lookup.3.1 no_bits) ∙ e))

pub returns-in_default-2 : goal.returns-in_default-2
returns-in_default-2 c =
    not_named c.args.row.now c.args.places.now c.args.signal c.requires.placed (λ l e. false≢true (ap is_some (sym c.in_default.is) ∙ c.get.ensures.lookup.0 ∙ lt-ltb (get_or c.args.places.now c.args.signal 0) (length c.args.row.now) l))

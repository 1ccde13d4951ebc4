use Rattle.std.proofs.Common.{sym, subst}
use Rattle.std.specs.List.{All}
use Rattle.dump_check.specs.Checks.{FitsAt}
use Rattle.step_check.proofs.Fits.{all_fit}
use Rattle.step_check.proofs.dump.check.Goals as goal

pub first_difference-requires : goal.first_difference-requires
first_difference-requires c =
    let fits = c.requires.fits in
    let codes = c.args.codes.now in
    let last = c.args.dump.now.last in
    subst (λ made. All (FitsAt codes last made) c.collect.new.self.order) (sym c.all_made.ensures)
    (subst (All (FitsAt codes last c.args.values.now.made)) (sym c.collect.ensures.order) (all_fit fits.0 fits.1 codes last c.args.values.now c.args.checks.now c.args.runs.now fits.2 fits.3 fits.4))

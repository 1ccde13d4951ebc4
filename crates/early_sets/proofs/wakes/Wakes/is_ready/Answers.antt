use Rattle.std.proofs.Common.{◌∙◌, None, sym, arith}
use Rattle.std.proofs.lemmas.List.{get_or_read}
use Rattle.early_sets.proofs.wakes.Wakes.is_ready.Goals as goal

pub runs_at_most_once-requires : goal.runs_at_most_once-requires
runs_at_most_once-requires g c =
    let w = c.args.self.now in
    let read = get_or_read w.writers.items c.args.thing c.index.result.now (omega (arith, w.sizes.writers_are.count_is, c.requires)) c.index.ensures None in
    w.sizes.writers_are.below c.args.thing c.in-Some.writer (sym read ∙ c.in-Some.is)

use Rattle.std.proofs.Common.{Some}
use Rattle.std.proofs.lemmas.List.Elements.{All-pop}
use Rattle.write_log.specs.Entries.{Fits}
use Rattle.write_log.proofs.PutBack.{kept_fits}
use Rattle.write_log.proofs.moves.put_back.Goals as goal

pub returns-clause-fit_to : goal.returns-clause-fit_to
returns-clause-fit_to c =
    let fits : Fits c.args.signals.now c.in-Some.entry = (All-pop (Fits c.args.signals.now) c.args.from.now.items c.pop.new.self.items (Some c.in-Some.entry) c.in-Some.ensures.items c.requires.fit).1 in
    kept_fits c.args.signals.now c.assign.new.self c.args.to.now.items c.push_reserved.new.self.items c.in-Some.entry.signal c.read-value.result c.push_reserved.ensures.items fits.inside c.read-value.ensures.shape c.assign.ensures.under c.requires.fit_to

use Rattle.std.proofs.Common.{sym, ◌∙◌, ◌+◌, ap, map}
use Rattle.std.proofs.lemmas.Result.{on_ok_weaker}
use Rattle.verilog_lexer.specs.ReadingView.{reading_view, passage_view}
use Rattle.verilog_lexer.proofs.Stands.{root_outcome, root_turns}
use Rattle.verilog_lexer.proofs.reader.Reader.read_root.Goals as goal

pub returns-clause-ok : goal.returns-clause-ok
returns-clause-ok g c =
    let alone = root_outcome c.args.self.now.sources.now (map passage_view c.args.self.now.waiting.items) c.args.number c.args.text.now (reading_view c.args.self.now.reading) c.new.result.items (ap (map passage_view) c.requires.none_waits) c.new.ensures.items in
    on_ok_weaker c.read_all.result (λ is. sym alone ∙ is) c.read_all.ensures.ok

pub returns-clause-fault : goal.returns-clause-fault
returns-clause-fault g c =
    let alone = root_outcome c.args.self.now.sources.now (map passage_view c.args.self.now.waiting.items) c.args.number c.args.text.now (reading_view c.args.self.now.reading) c.new.result.items (ap (map passage_view) c.requires.none_waits) c.new.ensures.items in
    rw (← alone) c.read_all.ensures.fault

pub returns-clause-cost : goal.returns-clause-cost
returns-clause-cost g c =
    root_turns (map passage_view c.args.self.now.waiting.items) c.args.number c.args.text.now (reading_view c.args.self.now.reading) c.new.result.items c.read_all.new.steps c.args.steps.now (ap (map passage_view) c.requires.none_waits) c.read_all.ensures.cost

pub returns-clause-room : goal.returns-clause-room
returns-clause-room g c =
    on_ok_weaker c.read_all.result (λ bound. root_turns (map passage_view c.args.self.now.waiting.items) c.args.number c.args.text.now (reading_view c.args.self.now.reading) c.new.result.items (c.read_all.new.steps + (reading_view c.read_all.new.self.reading).room) c.args.steps.now (ap (map passage_view) c.requires.none_waits) bound) c.read_all.ensures.room

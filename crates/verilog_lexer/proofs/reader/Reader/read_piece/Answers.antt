use Rattle.std.proofs.Common.{◌-◌, length, refl, ap, ◌∙◌}
use Rattle.std.proofs.lemmas.Result.{err_from_is_err_and, on_ok_weaker, IfErr-weaker}
use Rattle.verilog_lexer.specs.ReadingView.{reading_view, passage_view, entry_view}
use Rattle.verilog_lexer.specs.Reading.{inner_at}
use Rattle.std.proofs.lemmas.List.{length-map}
use Rattle.verilog_lexer.specs.Answer.{IsFault}
use Rattle.verilog_lexer.specs.Stand.{stand_of, outcome, advanced}
use Rattle.verilog_lexer.proofs.Stands.{read_faults, read_goes_on, read_enters, read_entry_faults, entered_depth}
use Rattle.verilog_lexer.proofs.reader.Reader.read_piece.Goals as goal

pub returns-in_err-entry-clause-fault : goal.returns-in_err-entry-clause-fault
returns-in_err-entry-clause-fault c =
    let p = err_from_is_err_and c.from_residual.result c.from_residual.ensures.1 in
    rw (p.1, p.2) (read_faults c.args.self.now.sources.now (stand_of c.args.self.now) _ c.requires.some refl _ (rw c.front_piece-piece.ensures.value at c.in_err-entry.ensures.fault))

pub returns-in-Some-clause-proceeds : goal.returns-in-Some-clause-proceeds
returns-in-Some-clause-proceeds c =
    on_ok_weaker c.enter.result (read_enters c.args.self.now.sources.now (stand_of c.args.self.now) c.bytes.result c.requires.some (rw c.front_piece-piece.ensures.value at c.bytes.ensures) (reading_view c.obey.new.self) (entry_view c.in-Some.entry) (passage_view c.advance.new.self) (rw (c.front_piece-piece.ensures.value, c.in-Some.is) at c.in_ok-entry.ensures.ok) (c.advance.ensures ∙ ap (advanced c.bytes.result) c.front_piece-piece.ensures.same) (stand_of c.enter.new.self)) c.enter.ensures.ok

pub returns-in-Some-clause-fault : goal.returns-in-Some-clause-fault
returns-in-Some-clause-fault c =
    IfErr-weaker c.enter.result (IsFault (inner_at (64 - length c.args.self.now.waiting.items) c.args.self.now.sources.now c.args.self.now.passage.spot (entry_view c.in-Some.entry) (reading_view c.obey.new.self))) (IsFault (outcome c.args.self.now.sources.now (stand_of c.args.self.now))) (λ fault is. read_entry_faults c.args.self.now.sources.now (stand_of c.args.self.now) c.bytes.result c.requires.some (rw c.front_piece-piece.ensures.value at c.bytes.ensures) (reading_view c.obey.new.self) (entry_view c.in-Some.entry) (passage_view c.advance.new.self) (rw (c.front_piece-piece.ensures.value, c.in-Some.is) at c.in_ok-entry.ensures.ok) (c.advance.ensures ∙ ap (advanced c.bytes.result) c.front_piece-piece.ensures.same) fault (rw (length-map c.args.self.now.waiting.items passage_view) is)) c.enter.ensures.fault

pub returns-in-Some-clause-depth : goal.returns-in-Some-clause-depth
returns-in-Some-clause-depth c = on_ok_weaker c.enter.result (λ enters. rw (length-map c.enter.new.self.waiting.items passage_view) at (entered_depth c.args.self.now.sources.now c.args.self.now.passage.spot (entry_view c.in-Some.entry) _ (stand_of c.enter.new.self) enters)) c.enter.ensures.ok

pub returns-in-None-clause-proceeds : goal.returns-in-None-clause-proceeds
returns-in-None-clause-proceeds c =
    read_goes_on c.args.self.now.sources.now (stand_of c.args.self.now) c.bytes.result c.requires.some (rw c.front_piece-piece.ensures.value at c.bytes.ensures) (reading_view c.obey.new.self) (passage_view c.advance.new.self) (rw (c.front_piece-piece.ensures.value, c.in-None.is) at c.in_ok-entry.ensures.ok) (c.advance.ensures ∙ ap (advanced c.bytes.result) c.front_piece-piece.ensures.same)

use Rattle.std.proofs.Common.{◌≡◌, ◌++◌, ◌∷◌, [], ◌∙◌, ap, arith, map}
use Rattle.std.proofs.lemmas.Result.{err_from_is_err_and}
use Rattle.std.proofs.lemmas.List.{map-append}
use Rattle.verilog_lexer.specs.ReadingView.{reading_view, passage_view}
use Rattle.verilog_lexer.specs.Stand.{stand_of}
use Rattle.verilog_lexer.proofs.Stands.{text_ends, all_ends, last_room, end_faults, none_left}
use Rattle.verilog_lexer.proofs.reader.Reader.end_text.Goals as goal

pub returns-in_err-end_text-clause-fault : goal.returns-in_err-end_text-clause-fault
returns-in_err-end_text-clause-fault c =
    let p = err_from_is_err_and c.from_residual.result c.from_residual.ensures.1 in
    rw (p.1, p.2) (end_faults c.args.self.now.sources.now (passage_view c.args.self.now.passage) (reading_view c.args.self.now.reading) c.requires.empty (map passage_view c.args.self.now.waiting.items) _ (rw c.take-ending.ensures.value at c.in_err-end_text.ensures.fault))

pub returns-in-Some-clause-proceeds : goal.returns-in-Some-clause-proceeds
returns-in-Some-clause-proceeds c =
    let waits : map passage_view c.args.self.now.waiting.items ≡ map passage_view c.pop.new.self.items ++ passage_view c.in-Some.outer ∷ [] = ap (map passage_view) (rw c.in-Some.is at c.pop.ensures.items) ∙ map-append passage_view c.pop.new.self.items (c.in-Some.outer ∷ []) in
    text_ends c.args.self.now.sources.now (stand_of c.args.self.now) (reading_view c.end_text.new.self) c.requires.empty (map passage_view c.pop.new.self.items) (passage_view c.in-Some.outer) waits (rw c.take-ending.ensures.value at c.in_ok-end_text.ensures.ok)

pub returns-in-None-clause-ends : goal.returns-in-None-clause-ends
returns-in-None-clause-ends c =
    all_ends c.args.self.now.sources.now (stand_of c.args.self.now) (reading_view c.end_text.new.self) c.requires.empty (ap (map passage_view) (none_left c.args.self.now.waiting.items (λ some. grind (arith, c.in-None.ensures.variant)))) (rw c.take-ending.ensures.value at c.in_ok-end_text.ensures.ok)

pub returns-in-None-clause-room : goal.returns-in-None-clause-room
returns-in-None-clause-room c =
    last_room c.args.self.now.sources.now (stand_of c.args.self.now) (reading_view c.end_text.new.self) c.requires.empty (rw c.take-ending.ensures.value at c.in_ok-end_text.ensures.ok)

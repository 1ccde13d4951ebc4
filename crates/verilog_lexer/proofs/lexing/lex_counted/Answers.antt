use Rattle.std.proofs.Common.{◌<◌, ◌≤◌, ◌+◌, Ok, ap, sym, ◌∙◌, arith, length}
use Rattle.std.proofs.lemmas.Result.{err_from_is_err_and}
use Rattle.verilog_lexer.specs.Reading.{Reading, read_roots}
use Rattle.verilog_lexer.specs.ReadingView.{reading_view}
use Rattle.verilog_lexer.specs.Stand.{file_turns}
use Rattle.verilog_lexer.proofs.Roots.{roots_go_on, roots_faults, tokens_are, tokens_fault}
use Rattle.verilog_lexer.proofs.Works.{turns_go_on, turns_within}
use Rattle.verilog_lexer.proofs.lexing.lex_counted.Goals as goal

pub loop-place-init : goal.loop-place-init
loop-place-init g c =
    let few : file_turns c.args.sources.now ≤ 67108864 + 256 = turns_within c.args.sources.now c.len-place-end.ensures.within in
    record {
      same = ap (read_roots c.args.sources.now 1 c.args.sources.now) (sym c.in_ok-reader.ensures.ok.0);
      sources = c.in_ok-reader.ensures.ok.1;
      none_waits = c.in_ok-reader.ensures.ok.2;
      turns = omega (arith, few, ap (λ (reading : Reading). reading.room) c.in_ok-reader.ensures.ok.0);
    }

pub returns-in_err-read_source-clause-fault : goal.returns-in_err-read_source-clause-fault
returns-in_err-read_source-clause-fault g c =
    let p = err_from_is_err_and c.from_residual-in_err-read_source.result c.from_residual-in_err-read_source.ensures.1 in
    let within : c.loop-place.place < length c.args.sources.now = omega (arith, c.len-place-end.ensures.value) in
    rw (p.1, p.2) (tokens_fault c.args.sources.now c.args.defines.now _ c.loop-place.invariant.same _ (roots_faults c.args.sources.now c.args.sources.now c.loop-place.place (c.loop-place.place + 1) (reading_view c.loop-place.reader.reading) _ within (rw c.loop-place.invariant.sources at c.in_err-read_source.ensures.fault)))

pub returns-in_err-read_source-clause-cost : goal.returns-in_err-read_source-clause-cost
returns-in_err-read_source-clause-cost g c =
    let within : c.loop-place.place < length c.args.sources.now = omega (arith, c.len-place-end.ensures.value) in
    let more = turns_go_on c.args.sources.now c.loop-place.place c.read_source.new.steps c.loop-place.steps (reading_view c.loop-place.reader.reading).room within (rw c.loop-place.invariant.sources at c.in_err-read_source.ensures.cost) in
    omega (arith, more, c.loop-place.invariant.turns)

pub loop-place-preserved : goal.loop-place-preserved
loop-place-preserved g c =
    let within : c.loop-place.place < length c.args.sources.now = omega (arith, c.len-place-end.ensures.value) in
    let more = turns_go_on c.args.sources.now c.loop-place.place (c.read_source.new.steps + (reading_view c.read_source.new.self.reading).room) c.loop-place.steps (reading_view c.loop-place.reader.reading).room within (rw c.loop-place.invariant.sources at c.in_ok-read_source.ensures.room) in
    record {
      same = c.loop-place.invariant.same ∙ roots_go_on c.args.sources.now c.args.sources.now c.loop-place.place (c.loop-place.place + 1) (reading_view c.loop-place.reader.reading) (reading_view c.read_source.new.self.reading) within (rw c.loop-place.invariant.sources at c.in_ok-read_source.ensures.ok);
      sources = c.in_ok-read_source.ensures.sources ∙ c.loop-place.invariant.sources;
      none_waits = c.in_ok-read_source.ensures.none_waits;
      turns = omega (arith, more, c.loop-place.invariant.turns);
    }

pub returns-clause-tokens : goal.returns-clause-tokens
returns-clause-tokens g c =
    tokens_are c.args.sources.now c.args.defines.now c.loop-place.place (c.loop-place.place + 1) (reading_view c.loop-place.reader.reading) c.loop-place.invariant.same (omega (arith, c.len-place-end.ensures.value)) ∙ ap Ok (sym (rw c.from_vec.ensures c.into_tokens.ensures))

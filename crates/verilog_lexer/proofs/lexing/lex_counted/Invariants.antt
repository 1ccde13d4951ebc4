use Rattle.std.proofs.Common.{◌≡◌, ◌+◌, ◌≤◌, [], drop}
use Rattle.verilog_lexer.specs.Reading.{read_roots, beginning}
use Rattle.verilog_lexer.specs.ReadingView.{reading_view}
use Rattle.verilog_lexer.specs.Stand.{file_turns}
use Rattle.verilog_lexer.proofs.lexing.lex_counted.Given as goal

abbrev pub invariant-loop-place : goal.invariant-loop-place
invariant-loop-place g l = record {
  same : read_roots l.sources 1 l.sources (beginning l.defines) ≡ read_roots l.sources (l.place + 1) (drop l.place l.sources) (reading_view l.reader.reading);
  sources : l.reader.sources.now ≡ l.sources;
  none_waits : l.reader.waiting.items ≡ [];
  turns : l.steps + (file_turns (drop l.place l.sources) + (reading_view l.reader.reading).room) ≤ l.fn.steps + (67108864 + 256 + 134217728);
}

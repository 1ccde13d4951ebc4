use Rattle.std.proofs.Common.{◌≤◌, ◌∙◌, length, arith}
use Rattle.std.proofs.lemmas.List.{length-map}
use Rattle.verilog_lexer.specs.Sources.{is_include, source_view}
use Rattle.verilog_lexer.proofs.SourceLemmas.{include_place_by, place_within}
use Rattle.verilog_lexer.proofs.sources.Sources.include_place.Goals as goal

pub returns-clause-value : goal.returns-clause-value
returns-clause-value c = c.include_place.ensures ∙ include_place_by c.self.inside.sources.items c.as_slice.result.now c.args.self.now c.args.name.now c.as_slice.ensures.value c.self.view_is

pub returns-clause-within : goal.returns-clause-within
returns-clause-within c =
    let count : length c.as_slice.result.now ≤ 256 = rw c.as_slice.ensures.value (omega (arith, c.self.invariant.within.count, length-map c.self.inside.sources.items source_view)) in
    place_within c.as_slice.result.now (λ source. is_include c.args.name.now (source_view source)) c.include_place.result c.include_place.ensures count

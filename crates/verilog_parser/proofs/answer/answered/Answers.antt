use Rattle.verilog_lexer.specs.TokenView.{lexeme, lexemes}
use Rattle.verilog_parser.proofs.Refusals.{at_unexpected, ends_early, not_there, token_there, refused}
use Rattle.verilog_parser.proofs.answer.answered.Goals as goal

pub returns-in-None : goal.returns-in-None
returns-in-None c =
    ends_early (lexemes c.args.tokens.now) c.args.fault.left (at_unexpected (lexemes c.args.tokens.now) c.args.fault c.in-Unexpected.is c.requires)
    (not_there c.args.tokens.now c.saturating_sub.result c.args.fault.left c.saturating_sub.ensures c.in-None.ensures.lookup.0)

pub returns-in-Some : goal.returns-in-Some
returns-in-Some c =
    refused (lexemes c.args.tokens.now) c.args.fault.left (lexeme c.in-Some.token.now) _ c.refusal.result
    (at_unexpected (lexemes c.args.tokens.now) c.args.fault c.in-Unexpected.is c.requires)
    (token_there c.args.tokens.now c.saturating_sub.result c.args.fault.left c.in-Some.token.now _ c.saturating_sub.ensures c.in-Some.ensures.lookup.0 c.in-Some.ensures.lookup.1)
    c.refusal.ensures

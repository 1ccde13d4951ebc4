use Rattle.verilog_lexer.specs.TokenView.{lexemes}
use Rattle.verilog_tree.specs.View.{modules_view}
use Rattle.source_design.specs.Accepted.{AreAccepted}
use Rattle.source_design.specs.Words.{source_values}
use Rattle.tree_places.proofs.Modules.{countable_modules}
use Rattle.token_counts.proofs.FewTokens.{few_tokens}
use Rattle.source_design.proofs.Gathering.{elab_refused, found_by, refused_by}
use Rattle.source_design.proofs.stage.find.Goals as goal

pub returns-in-Err-clause-found : goal.returns-in-Err-clause-found
returns-in-Err-clause-found c = found_by (source_values c.args.words.now) c.args.sources.now c.in-Err.fault c.in-Err.ensures.fault c.lex_answer.result c.lex_answer.ensures.found

pub returns-in-Err-clause-fault : goal.returns-in-Err-clause-fault
returns-in-Err-clause-fault c = refused_by (source_values c.args.words.now) c.args.sources.now c.in-Err.fault c.in-Err.ensures.fault c.lex_answer.result c.lex_answer.ensures.fault

pub elaborate-requires : goal.elaborate-requires
elaborate-requires c =
    let tokens = lexemes c.in-Ok.tokens in
    countable_modules tokens (modules_view c.in-Ok-parse.modules) c.in-Ok-parse.ensures.found (few_tokens c.args.sources.now (source_values c.args.words.now).defines tokens c.in-Ok.ensures.tokens)

pub returns-in-Err-elaborate-clause-fault : goal.returns-in-Err-elaborate-clause-fault
returns-in-Err-elaborate-clause-fault c =
    let accepted : AreAccepted c.args.sources.now (source_values c.args.words.now).defines (modules_view c.in-Ok-parse.modules) =
    record { tokens = lexemes c.in-Ok.tokens; lexed = c.in-Ok.ensures.tokens; spelled = c.in-Ok-parse.ensures.found } in
    elab_refused (source_values c.args.words.now) c.args.sources.now (modules_view c.in-Ok-parse.modules) c.in-Err-elaborate.fault accepted c.in-Err-elaborate.ensures.fault c.elab_fault.result c.elab_fault.ensures

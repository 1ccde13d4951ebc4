use Rattle.design_model.specs.View.{design_view}
use Rattle.elaborator.proofs.flat_laws.LawfulDesigns.{answered_lawful}
use Rattle.parsed_modules.proofs.Modules.{modules_of_tokens}
use Rattle.verilog_lexer.proofs.KeptTokens.{tokens_are_sound}
use Rattle.tree_places.proofs.Modules.{countable_modules}
use Rattle.token_counts.proofs.FewTokens.{few_tokens}
use Rattle.text_designs.proofs.design_of.Goals as goal

pub elaborate-requires : goal.elaborate-requires
elaborate-requires c = countable_modules _ _ c.in-Ok-parse.ensures.found (few_tokens _ _ _ c.in-Ok.ensures.tokens)

pub returns-in-Ok-elaborate : goal.returns-in-Ok-elaborate
returns-in-Ok-elaborate c =
    answered_lawful _ _ (design_view c.in-Ok-elaborate.design) (modules_of_tokens _ _ (tokens_are_sound _ _ _ c.in-Ok.ensures.tokens) c.in-Ok-parse.ensures.found) c.in-Ok-elaborate.ensures.design

use Rattle.parsed_modules.proofs.Modules.{modules_of_tokens, named_modules}
use Rattle.parsed_modules.proofs.parsed_law.Goals as goal

pub returns-clause-tokens : goal.returns-clause-tokens
returns-clause-tokens c = λ tokens ms is_sound are_modules. modules_of_tokens tokens ms is_sound are_modules

pub returns-clause-names : goal.returns-clause-names
returns-clause-names c = λ tokens ms is_sound are_modules. named_modules tokens ms is_sound are_modules

use Rattle.flat_laws.proofs.LawfulDesigns.{answered_lawful}
use Rattle.parsed_modules.proofs.Modules.{modules_of_tokens}
use Rattle.parsed_modules.proofs.lawful_sources_law.Goals as goal

pub returns : goal.returns
returns c tokens ms top d is_sound are_modules e = answered_lawful ms top d (modules_of_tokens tokens ms is_sound are_modules) e

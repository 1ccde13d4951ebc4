use Rattle.source_files.proofs.MissingNames.{missing_name}
use Rattle.source_files.proofs.laws.missing_names_are_printable.Goals as goal

pub returns : goal.returns
returns c = missing_name

use Rattle.source_files.proofs.OneList.{one_list as one_list_of_sources}
use Rattle.source_files.proofs.laws.one_list.Goals as goal

pub returns : goal.returns
returns c = one_list_of_sources

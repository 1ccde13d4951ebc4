use Rattle.std.proofs.Common.{ap}
use Rattle.db_tools.specs.Excluded.{excluded_text}
use Rattle.db_tools.proofs.RemarkLaws.{all_restored, no_exclude_refusal, no_restore_refusal, one_all, reordered}
use Rattle.db_tools.proofs.laws.exclude_laws.Goals as goal

pub returns-clause-restored : goal.returns-clause-restored
returns-clause-restored c addresses others before out back all same restored = one_all others out before back (all_restored others before out (reordered before out same all)) restored

pub returns-clause-restorable : goal.returns-clause-restorable
returns-clause-restorable c addresses others before out all same = all_restored others before out (reordered before out same all)

pub returns-clause-bytes : goal.returns-clause-bytes
returns-clause-bytes c addresses others before out back all same restored = ap excluded_text (one_all others out before back (all_restored others before out (reordered before out same all)) restored)

pub returns-clause-excludes : goal.returns-clause-excludes
returns-clause-excludes c address old new fault excludes refused = no_exclude_refusal address old new fault excludes refused

pub returns-clause-restores : goal.returns-clause-restores
returns-clause-restores c address old new fault restores refused = no_restore_refusal address old new fault restores refused

use Rattle.clocked_laws.proofs.Blank.{all_blank, clean_blank, clocked_blank, flushed_blank, start_blank, weak_blank}
use Rattle.clocked_laws.proofs.clocked_blank_law.Goals as goal

pub returns-clause-clean : goal.returns-clause-clean
returns-clause-clean c st o p w inside before = clean_blank st o p w inside before

pub returns-clause-weak : goal.returns-clause-weak
returns-clause-weak c st o n p w inside before = weak_blank st o n p w inside before

pub returns-clause-clocked : goal.returns-clause-clocked
returns-clause-clocked c st inside before = clocked_blank st inside before

pub returns-clause-flushed : goal.returns-clause-flushed
returns-clause-flushed c st inside before = flushed_blank st inside before

pub returns-clause-start : goal.returns-clause-start
returns-clause-start c st inside has before = start_blank st inside has before

pub returns-clause-all : goal.returns-clause-all
returns-clause-all c st inside has drives before = all_blank st inside has drives before

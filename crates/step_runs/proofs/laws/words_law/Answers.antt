use Rattle.step_runs.proofs.StartWords.{first_words, words_left, words_start}
use Rattle.step_runs.proofs.laws.words_law.Goals as goal

pub returns-clause-start : goal.returns-clause-start
returns-clause-start c st words lawful tabled changes = words_start st words (c.settled_law.ensures st.design lawful) tabled changes

pub returns-clause-kept : goal.returns-clause-kept
returns-clause-kept c st cell lawful tabled is = words_left st cell (c.settled_law.ensures st.design lawful) tabled is

pub returns-clause-first : goal.returns-clause-first
returns-clause-first c d bound run tables new before cell lawful tabled is = first_words d bound run tables new before cell (c.settled_law.ensures d lawful) tabled is

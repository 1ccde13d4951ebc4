use Rattle.design_model.proofs.BodyLaws.{listed_memory_law, settled_signals_law, word_visits_law, written_cells_law}
use Rattle.design_model.proofs.MentionedPaths.{path_mentions_law}
use Rattle.design_model.proofs.TargetCells.{target_cells_law, target_names_law}
use Rattle.design_model.proofs.body_law.Goals as goal

pub returns-clause-written_cells : goal.returns-clause-written_cells
returns-clause-written_cells c = written_cells_law

pub returns-clause-word_visits : goal.returns-clause-word_visits
returns-clause-word_visits c = word_visits_law

pub returns-clause-path_mentions : goal.returns-clause-path_mentions
returns-clause-path_mentions c = path_mentions_law

pub returns-clause-settled_signals : goal.returns-clause-settled_signals
returns-clause-settled_signals c = settled_signals_law

pub returns-clause-listed_memory : goal.returns-clause-listed_memory
returns-clause-listed_memory c = listed_memory_law

pub returns-clause-target_names : goal.returns-clause-target_names
returns-clause-target_names c = target_names_law

pub returns-clause-target_cells : goal.returns-clause-target_cells
returns-clause-target_cells c = target_cells_law

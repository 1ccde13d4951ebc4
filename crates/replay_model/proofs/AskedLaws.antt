-- The laws of a lawful design that the proofs take.
use Rattle.design_model.specs.Design.{Design}
use Rattle.design_model.specs.Lawful.{IsLawfulDesign}
use Rattle.design_model.specs.BodyLaws.{AssignVisitsLaw, ListedMemoryLaw, MentionReadLaw, PathMentionsLaw, SettledSignalsLaw, WordVisitsLaw, WrittenCellsLaw}
use Rattle.design_model.proofs.AssignLaws.{assign_visits_law, mention_read_law}
use Rattle.design_model.proofs.BodyLaws.{listed_memory_law, settled_signals_law, word_visits_law, written_cells_law}
use Rattle.design_model.proofs.MentionedPaths.{path_mentions_law}
use Rattle.model_laws.specs.Consistent.{HasOwnUnclear}
use Rattle.model_laws.specs.Own.{HasOwnWakes}
use Rattle.model_laws.proofs.Consistent.{own_unclear_law}

pub record AskedLaws (d : Design) : Type 0 where
  pub assign_visits : AssignVisitsLaw d
  pub written_cells : WrittenCellsLaw d
  pub word_visits : WordVisitsLaw d
  pub path_mentions : PathMentionsLaw d
  pub own_wake : HasOwnWakes d
  pub listed_memory : ListedMemoryLaw d
  pub own_unclear : HasOwnUnclear d
  pub mention_read : MentionReadLaw d
  pub settled_signals : SettledSignalsLaw d

pub asked_of : (d : Design) → IsLawfulDesign d → HasOwnWakes d → AskedLaws d
asked_of d lawful wakes =
    record {
      assign_visits = assign_visits_law d lawful;
      written_cells = written_cells_law d lawful;
      word_visits = word_visits_law d lawful;
      path_mentions = path_mentions_law d;
      own_wake = wakes;
      listed_memory = listed_memory_law d lawful;
      own_unclear = own_unclear_law d lawful;
      mention_read = mention_read_law d lawful;
      settled_signals = settled_signals_law d lawful;
    }

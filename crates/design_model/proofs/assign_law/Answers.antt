use Rattle.design_model.proofs.AssignLaws.{assign_visits_law, mention_read_law, own_not_clear_law, own_unclear_law, own_wake_law}
use Rattle.design_model.proofs.StepFacts.{assign_queues_law}
use Rattle.design_model.proofs.VisitKinds.{assign_line_law}
use Rattle.design_model.proofs.assign_law.Goals as goal

pub returns-clause-queues : goal.returns-clause-queues
returns-clause-queues c = assign_queues_law

pub returns-clause-visits : goal.returns-clause-visits
returns-clause-visits c = assign_visits_law

pub returns-clause-lines : goal.returns-clause-lines
returns-clause-lines c = assign_line_law

pub returns-clause-mention_read : goal.returns-clause-mention_read
returns-clause-mention_read c = mention_read_law

pub returns-clause-own_unclear : goal.returns-clause-own_unclear
returns-clause-own_unclear c = own_unclear_law

pub returns-clause-own_not_clear : goal.returns-clause-own_not_clear
returns-clause-own_not_clear c = own_not_clear_law

pub returns-clause-own_wake : goal.returns-clause-own_wake
returns-clause-own_wake c = own_wake_law

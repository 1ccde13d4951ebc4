use Rattle.std.proofs.Common.{sym, subst}
use Rattle.std.proofs.lemmas.Result.{err_from_is_err_and}
use Rattle.command_line.specs.CommandWords.{score_values}
use Rattle.design_model.specs.View.{design_view}
use Rattle.design_points.specs.Counted.{AreAllPoints}
use Rattle.whole_files.proofs.EffectLemmas.{OnlyReads-trans}
use Rattle.covered_cli.proofs.Designs.{lawful_design, replayable_design, rooted_design, written_design}
use Rattle.covered_cli.proofs.Scoring.{IfErr-map, IfOk-map, design_stands, drawing_stands, has_listed, is_table, points_stand, scoring_stands}
use Rattle.covered_cli.proofs.Machines.{drawable, machines_are, written_machines}
use Rattle.covered_cli.proofs.SourceNames.{AreGoodNames, good_names}
use Rattle.covered_cli.specs.ScoreSources.{sources_in}
use Rattle.covered_cli.proofs.score.table_of.Goals as goal

pub returns-in_err-design-clause-fault : goal.returns-in_err-design-clause-fault
returns-in_err-design-clause-fault g c =
    let score = score_values c.args.words.now in
    let before = g.H.Host.outside c.args.host.now in
    let after = g.H.Host.outside c.design_of.new.host in
    let fault = err_from_is_err_and c.from_residual.result c.from_residual.ensures.1 in
    rw (fault.1, fault.2) (design_stands score before after _ c.in_err-design.ensures.fault)

pub draw_machines-requires : goal.draw_machines-requires
draw_machines-requires g c = lawful_design _ _ _ _ c.in_ok-design.ensures.read.stands

pub returns-in_err-draw_machines-clause-fault : goal.returns-in_err-draw_machines-clause-fault
returns-in_err-draw_machines-clause-fault g c =
    let score = score_values c.args.words.now in
    let before = g.H.Host.outside c.args.host.now in
    let after = g.H.Host.outside c.design_of.new.host in
    let read = c.in_ok-design.ensures.read in
    let fault = err_from_is_err_and c.from_residual-in_err-draw_machines.result c.from_residual-in_err-draw_machines.ensures.1 in
    rw (fault.1, fault.2) (drawing_stands score before after read.sources _ read.gathered read.stands _ c.in_err-draw_machines.ensures.fault)

pub points_of-requires-clause-lawful : goal.points_of-requires-clause-lawful
points_of-requires-clause-lawful g c = lawful_design _ _ _ _ c.in_ok-design.ensures.read.stands

pub points_of-requires-clause-drawable : goal.points_of-requires-clause-drawable
points_of-requires-clause-drawable g c =
    let score = score_values c.args.words.now in
    drawable score _ (lawful_design _ _ _ _ c.in_ok-design.ensures.read.stands) c.requires _ (machines_are score _ _ _ c.in_ok-states.ensures.named c.in_ok-states.ensures.drawn c.draw_machines.ensures.named c.in_ok-draw_machines.ensures.drawn c.in_ok-draw_machines.ensures.placed)

pub returns-in_err-points-clause-fault : goal.returns-in_err-points-clause-fault
returns-in_err-points-clause-fault g c =
    let score = score_values c.args.words.now in
    let before = g.H.Host.outside c.args.host.now in
    let after = g.H.Host.outside c.design_of.new.host in
    let read = c.in_ok-design.ensures.read in
    let fault = err_from_is_err_and c.from_residual-in_err-points.result c.from_residual-in_err-points.ensures.1 in
    rw (fault.1, fault.2) (points_stand score before after read.sources _ _ (machines_are score _ _ _ c.in_ok-states.ensures.named c.in_ok-states.ensures.drawn c.draw_machines.ensures.named c.in_ok-draw_machines.ensures.drawn c.in_ok-draw_machines.ensures.placed) read.gathered read.stands _ c.in_err-points.ensures.fault)

pub db_of-requires-clause-replayable : goal.db_of-requires-clause-replayable
db_of-requires-clause-replayable g c = rw c.deref.ensures (replayable_design _ _ _ _ _ _ c.in_ok-design.ensures.read.stands c.in_ok-points.ensures.points)

pub db_of-requires-clause-points : goal.db_of-requires-clause-points
db_of-requires-clause-points g c = rw c.deref.ensures (_, c.in_ok-points.ensures.points)

pub db_of-requires-clause-named : goal.db_of-requires-clause-named
db_of-requires-clause-named g c =
    let score = score_values c.args.words.now in
    rw c.deref.ensures (written_machines score _ (lawful_design _ _ _ _ c.in_ok-design.ensures.read.stands) c.requires _ (machines_are score _ _ _ c.in_ok-states.ensures.named c.in_ok-states.ensures.drawn c.draw_machines.ensures.named c.in_ok-draw_machines.ensures.drawn c.in_ok-draw_machines.ensures.placed) _ c.in_ok-points.ensures.points)

pub db_of-requires-clause-rooted : goal.db_of-requires-clause-rooted
db_of-requires-clause-rooted g c = rooted_design _ _ _ _ c.in_ok-design.ensures.read.stands

pub db_of-requires-clause-written : goal.db_of-requires-clause-written
db_of-requires-clause-written g c =
    let score = score_values c.args.words.now in
    let before = g.H.Host.outside c.args.host.now in
    let read = c.in_ok-design.ensures.read in
    let names = subst AreGoodNames (sym read.names) (good_names score before read.sources c.requires read.gathered) in
    written_design (sources_in score) before _ read names.named names.some

pub returns-clause-fault : goal.returns-clause-fault
returns-clause-fault g c =
    let score = score_values c.args.words.now in
    let before = g.H.Host.outside c.args.host.now in
    let middle = g.H.Host.outside c.design_of.new.host in
    let after = g.H.Host.outside c.db_of.new.host in
    let read = c.in_ok-design.ensures.read in
    let effects = c.in_ok-design.ensures.effects in
    let machines = machines_are score _ _ c.draw_machines.new.states c.in_ok-states.ensures.named c.in_ok-states.ensures.drawn c.draw_machines.ensures.named c.in_ok-draw_machines.ensures.drawn c.in_ok-draw_machines.ensures.placed in
    let has = has_listed score before read.sources _ c.draw_machines.new.states _ machines read.gathered read.stands c.in_ok-points.ensures.points in
    IfErr-map c.db_of.result (scoring_stands score read.sources _ before middle after has effects.files effects.counts c.db_of.ensures.effects.counts) c.db_of.ensures.fault

pub returns-clause-table : goal.returns-clause-table
returns-clause-table g c =
    let score = score_values c.args.words.now in
    let before = g.H.Host.outside c.args.host.now in
    let middle = g.H.Host.outside c.design_of.new.host in
    let read = c.in_ok-design.ensures.read in
    let effects = c.in_ok-design.ensures.effects in
    let here = subst (λ ps. AreAllPoints (design_view c.in_ok-design.field-0.design) c.draw_machines.new.states ps) (sym c.deref.ensures) c.in_ok-points.ensures.points in
    let machines = machines_are score _ _ c.draw_machines.new.states c.in_ok-states.ensures.named c.in_ok-states.ensures.drawn c.draw_machines.ensures.named c.in_ok-draw_machines.ensures.drawn c.in_ok-draw_machines.ensures.placed in
    let has = has_listed score before read.sources _ c.draw_machines.new.states _ machines read.gathered read.stands c.in_ok-points.ensures.points in
    IfOk-map c.db_of.result (λ table. is_table score read.sources _ _ table before middle has read.names effects.files) (c.db_of.ensures.scored c.draw_machines.new.states here)

pub returns-clause-effects : goal.returns-clause-effects
returns-clause-effects g c =
    let before = g.H.Host.outside c.args.host.now in
    let middle = g.H.Host.outside c.design_of.new.host in
    let after = g.H.Host.outside c.db_of.new.host in
    OnlyReads-trans before middle after c.in_ok-design.ensures.effects c.db_of.ensures.effects

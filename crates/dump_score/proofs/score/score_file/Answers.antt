use Rattle.std.proofs.lemmas.Result.{err_from_is_err_and}
use Rattle.dump_replay.specs.replay_core.wake_laws.Laws.{habit_of}
use Rattle.design_model.proofs.FiniteRounds.{last_rounds_law}
use Rattle.design_model.specs.RoundLaws.{read_by}
use Rattle.design_model.specs.View.{design_view}
use Rattle.dump_replay.specs.shown_dumps.Shown.{bound_dump}
use Rattle.whole_files.proofs.EffectLemmas.{OnlyReads-trans}
use Rattle.dump_score.proofs.FileLemmas.{header_refuses, nothing_read}
use Rattle.dump_score.proofs.Opening.{bind_in_file, can_end_binds, end_in_file, open_scoring, opened_bound}
use Rattle.dump_score.proofs.Scored.{said, scored_file, scored_rises, scored_times, scored_windows}
use Rattle.dump_score.proofs.score.score_file.Goals as goal

pub returns-in_err-opened-clause-fault : goal.returns-in_err-opened-clause-fault
returns-in_err-opened-clause-fault g c =
    let fault = err_from_is_err_and c.from_residual-in_err-opened.result c.from_residual-in_err-opened.ensures.1 in
    let name = c.args.name.now in
    let before = g.H.Host.outside c.args.host.now in
    let start = nothing_read name before (g.H.Host.outside c.open.new.host) c.in_ok-open.ensures.opened c.in_ok-open.ensures.effects in
    rw (fault.1, fault.2) (header_refuses name before (g.H.Host.outside c.read_header.new.host) (habit_of c.args.habit) c.args.design.now c.args.instance.now _ (c.in_err-opened.ensures.fault name before start))

pub new-requires-clause-placed : goal.new-requires-clause-placed
new-requires-clause-placed g c = c.requires.points.1.placed

pub new-requires-clause-few : goal.new-requires-clause-few
new-requires-clause-few g c = c.requires.points.1.few

pub returns-in_err-replay-clause-fault : goal.returns-in_err-replay-clause-fault
returns-in_err-replay-clause-fault g c =
    let fault = err_from_is_err_and c.from_residual-in_err-replay.result c.from_residual-in_err-replay.ensures.1 in
    let name = c.args.name.now in
    let before = g.H.Host.outside c.args.host.now in
    let start = nothing_read name before (g.H.Host.outside c.open.new.host) c.in_ok-open.ensures.opened c.in_ok-open.ensures.effects in
    let now = g.H.Host.outside c.read_header.new.host in
    rw (fault.1, fault.2) (bind_in_file name before now now (habit_of c.args.habit) c.args.design.now c.args.instance.now c.read_header.new.piece c.in_ok-opened.opened _ (c.in_ok-opened.ensures.opened name before start) c.in_err-replay.ensures.fault)

pub score_body-requires-clause-used : goal.score_body-requires-clause-used
score_body-requires-clause-used g c =
    let name = c.args.name.now in
    let before = g.H.Host.outside c.args.host.now in
    let start = nothing_read name before (g.H.Host.outside c.open.new.host) c.in_ok-open.ensures.opened c.in_ok-open.ensures.effects in
    (c.in_ok-opened.ensures.opened name before start).used_within

pub score_body-requires-clause-count : goal.score_body-requires-clause-count
score_body-requires-clause-count g c =
    let name = c.args.name.now in
    let before = g.H.Host.outside c.args.host.now in
    let start = nothing_read name before (g.H.Host.outside c.open.new.host) c.in_ok-open.ensures.opened c.in_ok-open.ensures.effects in
    (c.in_ok-opened.ensures.opened name before start).count_within

pub score_body-requires-clause-body : goal.score_body-requires-clause-body
score_body-requires-clause-body g c =
    let name = c.args.name.now in
    let before = g.H.Host.outside c.args.host.now in
    let start = nothing_read name before (g.H.Host.outside c.open.new.host) c.in_ok-open.ensures.opened c.in_ok-open.ensures.effects in
    let now = g.H.Host.outside c.read_header.new.host in
    let piece = c.read_header.new.piece in
    let opened = c.in_ok-opened.opened in
    let o = c.in_ok-opened.ensures.opened name before start in
    let is = opened_bound name before now piece opened c.in_ok-replay.replay (habit_of c.args.habit) c.args.design.now c.args.points.now c.args.instance.now o c.in_ok-replay.ensures.followed in
    λ some. open_scoring name before now piece opened.span opened.body c.in_ok-replay.replay (habit_of c.args.habit) c.args.design.now c.args.points.now opened.vars c.args.instance.now is some

pub returns-in_err-score_body-clause-fault : goal.returns-in_err-score_body-clause-fault
returns-in_err-score_body-clause-fault g c =
    let fault = err_from_is_err_and c.from_residual-in_err-score_body.result c.from_residual-in_err-score_body.ensures.1 in
    let name = c.args.name.now in
    let before = g.H.Host.outside c.args.host.now in
    let start = nothing_read name before (g.H.Host.outside c.open.new.host) c.in_ok-open.ensures.opened c.in_ok-open.ensures.effects in
    let now = g.H.Host.outside c.read_header.new.host in
    let piece = c.read_header.new.piece in
    let opened = c.in_ok-opened.opened in
    let o = c.in_ok-opened.ensures.opened name before start in
    let is = opened_bound name before now piece opened c.in_ok-replay.replay (habit_of c.args.habit) c.args.design.now c.args.points.now c.args.instance.now o c.in_ok-replay.ensures.followed in
    rw (fault.1, fault.2) (c.in_err-score_body.ensures.fault name before (habit_of c.args.habit) c.args.design.now c.args.points.now opened.vars c.args.instance.now is)

pub score_end-requires : goal.score_end-requires
score_end-requires g c =
    let name = c.args.name.now in
    let before = g.H.Host.outside c.args.host.now in
    let start = nothing_read name before (g.H.Host.outside c.open.new.host) c.in_ok-open.ensures.opened c.in_ok-open.ensures.effects in
    let now = g.H.Host.outside c.read_header.new.host in
    let piece = c.read_header.new.piece in
    let opened = c.in_ok-opened.opened in
    let o = c.in_ok-opened.ensures.opened name before start in
    let is = opened_bound name before now piece opened c.in_ok-replay.replay (habit_of c.args.habit) c.args.design.now c.args.points.now c.args.instance.now o c.in_ok-replay.ensures.followed in
    let on = c.in_ok-score_body.ensures.ok name before (habit_of c.args.habit) c.args.design.now c.args.points.now opened.vars c.args.instance.now is in
    (habit_of c.args.habit, c.args.design.now, c.args.points.now, opened.vars, c.args.instance.now, on.0, on.2)

pub returns-in_err-score_end-clause-fault : goal.returns-in_err-score_end-clause-fault
returns-in_err-score_end-clause-fault g c =
    let fault = err_from_is_err_and c.from_residual-in_err-score_end.result c.from_residual-in_err-score_end.ensures.1 in
    let name = c.args.name.now in
    let before = g.H.Host.outside c.args.host.now in
    let start = nothing_read name before (g.H.Host.outside c.open.new.host) c.in_ok-open.ensures.opened c.in_ok-open.ensures.effects in
    let now = g.H.Host.outside c.read_header.new.host in
    let piece = c.read_header.new.piece in
    let opened = c.in_ok-opened.opened in
    let o = c.in_ok-opened.ensures.opened name before start in
    let habit = habit_of c.args.habit in
    let design = c.args.design.now in
    let points = c.args.points.now in
    let instance = c.args.instance.now in
    let is = opened_bound name before now piece opened c.in_ok-replay.replay habit design points instance o c.in_ok-replay.ensures.followed in
    let on = c.in_ok-score_body.ensures.ok name before habit design points opened.vars instance is in
    rw (fault.1, fault.2) (end_in_file name before (g.H.Host.outside c.score_body.new.host) habit design instance on.0 _ on.1 (can_end_binds _ _ habit design points opened.vars instance on.0 on.2) (c.in_err-score_end.ensures.fault habit design points opened.vars instance on.0 on.2))

pub finish-marks-requires : goal.finish-marks-requires
finish-marks-requires g c =
    let name = c.args.name.now in
    let before = g.H.Host.outside c.args.host.now in
    let start = nothing_read name before (g.H.Host.outside c.open.new.host) c.in_ok-open.ensures.opened c.in_ok-open.ensures.effects in
    let now = g.H.Host.outside c.read_header.new.host in
    let piece = c.read_header.new.piece in
    let opened = c.in_ok-opened.opened in
    let o = c.in_ok-opened.ensures.opened name before start in
    let is = opened_bound name before now piece opened c.in_ok-replay.replay (habit_of c.args.habit) c.args.design.now c.args.points.now c.args.instance.now o c.in_ok-replay.ensures.followed in
    let on = c.in_ok-score_body.ensures.ok name before (habit_of c.args.habit) c.args.design.now c.args.points.now opened.vars c.args.instance.now is in
    record { ready = (c.in_ok-score_end.ensures.ok (habit_of c.args.habit) c.args.design.now c.args.points.now opened.vars c.args.instance.now on.0 on.2).followed.of.ready }

pub score_table-requires-clause-marks : goal.score_table-requires-clause-marks
score_table-requires-clause-marks g c =
    let name = c.args.name.now in
    let before = g.H.Host.outside c.args.host.now in
    let start = nothing_read name before (g.H.Host.outside c.open.new.host) c.in_ok-open.ensures.opened c.in_ok-open.ensures.effects in
    let now = g.H.Host.outside c.read_header.new.host in
    let piece = c.read_header.new.piece in
    let opened = c.in_ok-opened.opened in
    let o = c.in_ok-opened.ensures.opened name before start in
    let habit = habit_of c.args.habit in
    let design = c.args.design.now in
    let points = c.args.points.now in
    let instance = c.args.instance.now in
    let is = opened_bound name before now piece opened c.in_ok-replay.replay habit design points instance o c.in_ok-replay.ensures.followed in
    let on = c.in_ok-score_body.ensures.ok name before habit design points opened.vars instance is in
    let scored = c.in_ok-score_end.ensures.ok habit design points opened.vars instance on.0 on.2 in
    let some = last_rounds_law (design_view design) c.requires.replayable.lawful (bound_dump design (said c.score_end.new.replay habit design points opened.vars instance on.0 scored) instance) in
    (c.finish-marks.ensures habit design points opened.vars instance scored.b.items (scored_rises c.score_end.new.replay habit design points opened.vars instance on.0 scored) scored.followed some.0 some.1).of

pub score_table-requires-clause-windows : goal.score_table-requires-clause-windows
score_table-requires-clause-windows g c =
    let name = c.args.name.now in
    let before = g.H.Host.outside c.args.host.now in
    let start = nothing_read name before (g.H.Host.outside c.open.new.host) c.in_ok-open.ensures.opened c.in_ok-open.ensures.effects in
    let now = g.H.Host.outside c.read_header.new.host in
    let piece = c.read_header.new.piece in
    let opened = c.in_ok-opened.opened in
    let o = c.in_ok-opened.ensures.opened name before start in
    let habit = habit_of c.args.habit in
    let design = c.args.design.now in
    let points = c.args.points.now in
    let instance = c.args.instance.now in
    let is = opened_bound name before now piece opened c.in_ok-replay.replay habit design points instance o c.in_ok-replay.ensures.followed in
    let on = c.in_ok-score_body.ensures.ok name before habit design points opened.vars instance is in
    let scored = c.in_ok-score_end.ensures.ok habit design points opened.vars instance on.0 on.2 in
    let replay = c.score_end.new.replay in
    scored_windows replay habit design points opened.vars instance on.0 scored c.in_ok-windows.windows (c.in_ok-windows.ensures habit design points opened.vars instance scored.b.items (scored_rises replay habit design points opened.vars instance on.0 scored) scored.followed)

pub score_table-requires-clause-scored : goal.score_table-requires-clause-scored
score_table-requires-clause-scored g c =
    let name = c.args.name.now in
    let before = g.H.Host.outside c.args.host.now in
    let start = nothing_read name before (g.H.Host.outside c.open.new.host) c.in_ok-open.ensures.opened c.in_ok-open.ensures.effects in
    let now = g.H.Host.outside c.read_header.new.host in
    let piece = c.read_header.new.piece in
    let opened = c.in_ok-opened.opened in
    let o = c.in_ok-opened.ensures.opened name before start in
    let habit = habit_of c.args.habit in
    let design = c.args.design.now in
    let points = c.args.points.now in
    let instance = c.args.instance.now in
    let is = opened_bound name before now piece opened c.in_ok-replay.replay habit design points instance o c.in_ok-replay.ensures.followed in
    let on = c.in_ok-score_body.ensures.ok name before habit design points opened.vars instance is in
    let scored = c.in_ok-score_end.ensures.ok habit design points opened.vars instance on.0 on.2 in
    let some = last_rounds_law (design_view design) c.requires.replayable.lawful (bound_dump design (said c.score_end.new.replay habit design points opened.vars instance on.0 scored) instance) in
    let final = c.finish-marks.ensures habit design points opened.vars instance scored.b.items (scored_rises c.score_end.new.replay habit design points opened.vars instance on.0 scored) scored.followed some.0 some.1 in
    (habit, read_by (bound_dump design (said c.score_end.new.replay habit design points opened.vars instance on.0 scored) instance) some.0, scored_times c.score_end.new.replay habit design points opened.vars instance on.0 scored, final.scored)

pub returns-clause-scored : goal.returns-clause-scored
returns-clause-scored g c = λ machines all.
    let name = c.args.name.now in
    let before = g.H.Host.outside c.args.host.now in
    let start = nothing_read name before (g.H.Host.outside c.open.new.host) c.in_ok-open.ensures.opened c.in_ok-open.ensures.effects in
    let now = g.H.Host.outside c.read_header.new.host in
    let piece = c.read_header.new.piece in
    let opened = c.in_ok-opened.opened in
    let o = c.in_ok-opened.ensures.opened name before start in
    let habit = habit_of c.args.habit in
    let design = c.args.design.now in
    let points = c.args.points.now in
    let instance = c.args.instance.now in
    let is = opened_bound name before now piece opened c.in_ok-replay.replay habit design points instance o c.in_ok-replay.ensures.followed in
    let on = c.in_ok-score_body.ensures.ok name before habit design points opened.vars instance is in
    let scored = c.in_ok-score_end.ensures.ok habit design points opened.vars instance on.0 on.2 in
    let replay = c.score_end.new.replay in
    let final = c.finish-marks.ensures habit design points opened.vars instance scored.b.items (scored_rises replay habit design points opened.vars instance on.0 scored) scored.followed in
    let times = scored_times replay habit design points opened.vars instance on.0 scored in
    let windows = c.in_ok-windows.ensures habit design points opened.vars instance scored.b.items (scored_rises replay habit design points opened.vars instance on.0 scored) scored.followed in
    scored_file replay habit design points opened.vars instance on.0 scored name before machines c.args.sources c.finish-marks.result _ on.1 c.requires.replayable.lawful final (λ rounds by_last. c.in_ok-score_table.ensures habit (read_by (bound_dump design (said replay habit design points opened.vars instance on.0 scored) instance) rounds) machines all times (final rounds by_last).scored windows)

pub returns-in_err-score_end-clause-effects : goal.returns-in_err-score_end-clause-effects
returns-in_err-score_end-clause-effects g c = OnlyReads-trans _ _ _ c.in_ok-open.ensures.effects (OnlyReads-trans _ _ _ c.in_ok-opened.ensures.effects c.in_ok-score_body.ensures.effects)

pub returns-in_err-windows-clause-effects : goal.returns-in_err-windows-clause-effects
returns-in_err-windows-clause-effects g c = OnlyReads-trans _ _ _ c.in_ok-open.ensures.effects (OnlyReads-trans _ _ _ c.in_ok-opened.ensures.effects c.in_ok-score_body.ensures.effects)

pub returns-in_err-score_table-clause-effects : goal.returns-in_err-score_table-clause-effects
returns-in_err-score_table-clause-effects g c = OnlyReads-trans _ _ _ c.in_ok-open.ensures.effects (OnlyReads-trans _ _ _ c.in_ok-opened.ensures.effects c.in_ok-score_body.ensures.effects)

pub returns-clause-effects : goal.returns-clause-effects
returns-clause-effects g c = OnlyReads-trans _ _ _ c.in_ok-open.ensures.effects (OnlyReads-trans _ _ _ c.in_ok-opened.ensures.effects c.in_ok-score_body.ensures.effects)

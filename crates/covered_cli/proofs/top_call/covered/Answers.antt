use Rattle.std.proofs.Common.{◌∙◌, sym}
use Rattle.whole_files.proofs.EffectLemmas.{KeepsFiles-trans, Told-trans}
use Rattle.covered_cli.proofs.Causes.{command_or_fault, contradiction_cause, usage_exactly}
use Rattle.covered_cli.proofs.Complete.{bad_dump_ends, bad_dump_not_done, bad_source_ends, bad_source_not_done, done_by, good_ends, points_end, points_not_done, unbound_ends, unbound_not_done}
use Rattle.covered_cli.proofs.Databases.{database_cause, early_status, files_cause, good_databases_end, stands_later}
use Rattle.covered_cli.proofs.Leaving.{all_later, left_later}
use Rattle.whole_files.proofs.Lines.{WarnsLine-since}
use Rattle.covered_cli.proofs.Selfruns.{counts_printed, selfrun_ends}
use Rattle.covered_cli.proofs.Untouched.{all_else, fault_not_done, no_text}
use Rattle.covered_cli.proofs.top_call.covered.Goals as goal

pub returns-in-Ok-clause-usage : goal.returns-in-Ok-clause-usage
returns-in-Ok-clause-usage g c = (λ same. cc, λ none. absurd (command_or_fault _ c.in-Ok.ensures.command none))

pub returns-in-Err-clause-usage : goal.returns-in-Err-clause-usage
returns-in-Err-clause-usage g c = rw c.tell.ensures.status (usage_exactly _ _ _ _ c.in-Err.ensures.fault)

pub returns-in-Ok-clause-source : goal.returns-in-Ok-clause-source
returns-in-Ok-clause-source g c bad none = absurd (bad_source_not_done _ _ _ c.in-Ok.ensures.done bad)

pub returns-in-Ok-clause-dump : goal.returns-in-Ok-clause-dump
returns-in-Ok-clause-dump g c bad none = absurd (bad_dump_not_done _ _ _ c.in-Ok.ensures.done bad)

pub returns-in-Ok-clause-points : goal.returns-in-Ok-clause-points
returns-in-Ok-clause-points g c large none = absurd (points_not_done _ _ _ c.in-Ok.ensures.done large)

pub returns-in-Err-clause-points : goal.returns-in-Err-clause-points
returns-in-Err-clause-points g c large none =
    let before = g.H.Host.outside c.args.host.now in
    let middle = g.H.Host.outside c.run.new.host in
    let after = g.H.Host.outside c.tell.new.host in
    rw c.tell.ensures.status (points_end c.args.words.now before middle after c.run.ensures.counts c.tell.ensures.counts none c.in-Err.fault c.in-Err.ensures.fault large (WarnsLine-since _ before middle after c.run.ensures.warned c.run.ensures.counts c.tell.ensures.counts c.tell.ensures.line))

pub returns-in-Ok-clause-unbound : goal.returns-in-Ok-clause-unbound
returns-in-Ok-clause-unbound g c unbound none = absurd (unbound_not_done _ _ _ c.in-Ok.ensures.done unbound)

pub returns-in-Err-clause-unbound : goal.returns-in-Err-clause-unbound
returns-in-Err-clause-unbound g c unbound none =
    let before = g.H.Host.outside c.args.host.now in
    let middle = g.H.Host.outside c.run.new.host in
    let after = g.H.Host.outside c.tell.new.host in
    rw c.tell.ensures.status (unbound_ends c.args.words.now before middle after c.run.ensures.counts c.tell.ensures.counts none c.in-Err.fault c.in-Err.ensures.fault unbound (WarnsLine-since _ before middle after c.run.ensures.warned c.run.ensures.counts c.tell.ensures.counts c.tell.ensures.line))

pub returns-in-Err-clause-complete : goal.returns-in-Err-clause-complete
returns-in-Err-clause-complete g c good none = rw c.tell.ensures.status (good_ends _ _ _ _ c.run.ensures.counts c.tell.ensures.counts none _ c.in-Err.ensures.fault good)

pub returns-in-Err-clause-source : goal.returns-in-Err-clause-source
returns-in-Err-clause-source g c bad none = rw c.tell.ensures.status (bad_source_ends _ _ _ _ c.run.ensures.counts c.tell.ensures.counts none _ c.in-Err.ensures.fault bad)

pub returns-in-Err-clause-dump : goal.returns-in-Err-clause-dump
returns-in-Err-clause-dump g c bad none = rw c.tell.ensures.status (bad_dump_ends _ _ _ _ c.run.ensures.counts c.tell.ensures.counts none _ c.in-Err.ensures.fault bad)

pub returns-in-Err-clause-databases : goal.returns-in-Err-clause-databases
returns-in-Err-clause-databases g c good none = rw c.tell.ensures.status (good_databases_end c.args.alloc _ _ _ _ c.run.ensures.counts c.tell.ensures.counts none _ c.in-Err.ensures.fault good)

pub returns-in-Err-clause-files : goal.returns-in-Err-clause-files
returns-in-Err-clause-files g c is = files_cause _ _ _ _ c.run.ensures.counts c.tell.ensures.counts _ c.in-Err.ensures.fault (rw c.tell.ensures.status at is)

pub returns-in-Err-clause-contradiction : goal.returns-in-Err-clause-contradiction
returns-in-Err-clause-contradiction g c is = contradiction_cause _ _ _ _ c.in-Err.ensures.fault (rw c.tell.ensures.status at is)

pub returns-in-Err-clause-database : goal.returns-in-Err-clause-database
returns-in-Err-clause-database g c is = database_cause _ _ _ _ c.in-Err.ensures.fault (rw c.tell.ensures.status at is)

pub returns-in-Err-clause-kept : goal.returns-in-Err-clause-kept
returns-in-Err-clause-kept g c early =
    let before = g.H.Host.outside c.args.host.now in
    let middle = g.H.Host.outside c.run.new.host in
    let after = g.H.Host.outside c.tell.new.host in
    KeepsFiles-trans before middle after (c.in-Err.ensures.early (early_status _ (rw c.tell.ensures.status at early))) c.tell.ensures.files

pub returns-in-Err-clause-unprinted : goal.returns-in-Err-clause-unprinted
returns-in-Err-clause-unprinted g c early = c.tell.ensures.printed ∙ c.in-Err.ensures.unprinted (early_status _ (rw c.tell.ensures.status at early))

pub returns-in-Err-clause-warned : goal.returns-in-Err-clause-warned
returns-in-Err-clause-warned g c above =
    let before = g.H.Host.outside c.args.host.now in
    let middle = g.H.Host.outside c.run.new.host in
    let after = g.H.Host.outside c.tell.new.host in
    (c.in-Err.fault, sym c.tell.ensures.status, stands_later before middle after c.run.ensures.counts c.tell.ensures.counts c.tell.ensures.files c.tell.ensures.input c.tell.ensures.output c.args.words.now c.in-Err.fault c.in-Err.ensures.fault, λ early. all_later before middle after (c.in-Err.ensures.early early, c.in-Err.ensures.unprinted early) c.tell.ensures.files c.tell.ensures.printed, WarnsLine-since _ before middle after c.run.ensures.warned c.run.ensures.counts c.tell.ensures.counts c.tell.ensures.line)

pub returns-in-Err-clause-others : goal.returns-in-Err-clause-others
returns-in-Err-clause-others g c =
    let before = g.H.Host.outside c.args.host.now in
    let middle = g.H.Host.outside c.run.new.host in
    let after = g.H.Host.outside c.tell.new.host in
    Told-trans before.files middle.files after.files (λ old between new first second name unnamed. second name ∙ first name unnamed) c.run.ensures.others c.tell.ensures.files

pub returns-in-Err-clause-left : goal.returns-in-Err-clause-left
returns-in-Err-clause-left g c above =
    let before = g.H.Host.outside c.args.host.now in
    let middle = g.H.Host.outside c.run.new.host in
    let after = g.H.Host.outside c.tell.new.host in
    left_later c.args.words.now before middle after c.in-Err.ensures.left c.tell.ensures.files c.tell.ensures.printed

pub returns-in-Ok-clause-accepted : goal.returns-in-Ok-clause-accepted
returns-in-Ok-clause-accepted g c is score is_score = let done = done_by _ _ _ c.in-Ok.ensures.done score is_score in (done, done.scored.scores.scores.accepted)

pub returns-in-Ok-clause-listed : goal.returns-in-Ok-clause-listed
returns-in-Ok-clause-listed g c is score is_score = let done = done_by _ _ _ c.in-Ok.ensures.done score is_score in (done, done.scored.scores.scores.listed)

pub returns-in-Ok-clause-sound : goal.returns-in-Ok-clause-sound
returns-in-Ok-clause-sound g c is score is_score = let done = done_by _ _ _ c.in-Ok.ensures.done score is_score in (done, done.scored.scores.scores.sound)

pub returns-in-Ok-clause-reasoned : goal.returns-in-Ok-clause-reasoned
returns-in-Ok-clause-reasoned g c is score is_score = let done = done_by _ _ _ c.in-Ok.ensures.done score is_score in (done, done.scored.scores.scores.reasoned)

pub returns-in-Ok-clause-untouched : goal.returns-in-Ok-clause-untouched
returns-in-Ok-clause-untouched g c is score is_score =
    let before = g.H.Host.outside c.args.host.now in
    let after = g.H.Host.outside c.run.new.host in
    let done = done_by c.args.words.now before after c.in-Ok.ensures.done score is_score in
    all_else score.output done.text before after done.written (c.run.ensures.printed (no_text c.args.words.now score is_score)) c.run.ensures.warned

pub returns-in-Err-clause-accepted : goal.returns-in-Err-clause-accepted
returns-in-Err-clause-accepted g c is = absurd (fault_not_done c.in-Err.fault (rw c.tell.ensures.status at is))

pub returns-in-Err-clause-listed : goal.returns-in-Err-clause-listed
returns-in-Err-clause-listed g c is = absurd (fault_not_done c.in-Err.fault (rw c.tell.ensures.status at is))

pub returns-in-Err-clause-sound : goal.returns-in-Err-clause-sound
returns-in-Err-clause-sound g c is = absurd (fault_not_done c.in-Err.fault (rw c.tell.ensures.status at is))

pub returns-in-Err-clause-reasoned : goal.returns-in-Err-clause-reasoned
returns-in-Err-clause-reasoned g c is = absurd (fault_not_done c.in-Err.fault (rw c.tell.ensures.status at is))

pub returns-in-Err-clause-untouched : goal.returns-in-Err-clause-untouched
returns-in-Err-clause-untouched g c is = absurd (fault_not_done c.in-Err.fault (rw c.tell.ensures.status at is))

pub returns-in-Ok-clause-counted : goal.returns-in-Ok-clause-counted
returns-in-Ok-clause-counted g c is = counts_printed _ _ _ c.in-Ok.ensures.done

pub returns-in-Err-clause-counted : goal.returns-in-Err-clause-counted
returns-in-Err-clause-counted g c is = absurd (fault_not_done c.in-Err.fault (rw c.tell.ensures.status at is))

pub returns-in-Err-clause-selfrun : goal.returns-in-Err-clause-selfrun
returns-in-Err-clause-selfrun g c is none = rw c.tell.ensures.status (selfrun_ends _ _ _ _ c.run.ensures.counts c.tell.ensures.counts none _ c.in-Err.ensures.fault is)

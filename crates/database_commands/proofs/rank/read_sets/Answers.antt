use Rattle.std.proofs.lemmas.Result.{err_from_is_err_and}
use Rattle.command_line.specs.DatabaseFiles.{files_of}
use Rattle.command_line.specs.RankWords.{rank_values}
use Rattle.whole_files.proofs.EffectLemmas.{OnlyReads-refl}
use Rattle.database_commands.proofs.Ranking.{HasReadSets-more, HasReadSets-start, first_rank_fault, hits_of_all, joined_is_table, next_rank_fault, unmerged_fault}
use Rattle.database_commands.proofs.rank.read_sets.Goals as goal

pub returns-in_err-first-clause-fault : goal.returns-in_err-first-clause-fault
returns-in_err-first-clause-fault g c =
    let rank = rank_values c.args.words.now in
    let before = g.H.Host.outside c.args.host.now in
    let after = g.H.Host.outside c.read_set.new.host in
    let fault = err_from_is_err_and c.from_residual.result c.from_residual.ensures.1 in
    rw (fault.1, fault.2) (first_rank_fault rank before after (OnlyReads-refl before) c.read_set.ensures.effects _ c.in_err-first.ensures.fault)

pub loop-file-init : goal.loop-file-init
loop-file-init g c =
    let before = g.H.Host.outside c.args.host.now in
    HasReadSets-start (rank_values c.args.words.now) before (g.H.Host.outside c.read_set.new.host) c.in_ok-first.first c.read_set.new.sets.items
    c.in_ok-first.ensures.table (rw c.new-sets.ensures.items at c.in_ok-first.ensures.sets) c.read_set.ensures.effects

pub join_next-joined-requires-clause-table : goal.join_next-joined-requires-clause-table
join_next-joined-requires-clause-table g c =
    joined_is_table (rank_values c.args.words.now) (g.H.Host.outside c.args.host.now) (g.H.Host.outside c.loop-file.host) (files_of c.loop-file.others) c.loop-file.sets.items c.loop-file.joined c.loop-file.invariant

pub returns-in_err-other-clause-fault : goal.returns-in_err-other-clause-fault
returns-in_err-other-clause-fault g c =
    let rank = rank_values c.args.words.now in
    let before = g.H.Host.outside c.args.host.now in
    let now = g.H.Host.outside c.loop-file.host in
    let after = g.H.Host.outside c.read_set-in-Some.new.host in
    let fault = err_from_is_err_and c.from_residual-in_err-other.result c.from_residual-in_err-other.ensures.1 in
    rw (fault.1, fault.2) (next_rank_fault rank before now after c.in-Some.file.now _ _ _ _ c.loop-file.invariant c.in-Some.ensures.file c.read_set-in-Some.ensures.effects _ c.in_err-other.ensures.fault)

pub loop-file-preserved : goal.loop-file-preserved
loop-file-preserved g c =
    let rank = rank_values c.args.words.now in
    let before = g.H.Host.outside c.args.host.now in
    let now = g.H.Host.outside c.loop-file.host in
    let after = g.H.Host.outside c.read_set-in-Some.new.host in
    HasReadSets-more rank before now after c.in-Some.file.now _ _ c.loop-file.sets.items c.read_set-in-Some.new.sets.items c.loop-file.joined c.join_next-joined.result c.in_ok-other.other
    c.loop-file.invariant c.in-Some.ensures.file c.in_ok-other.ensures.table c.read_set-in-Some.ensures.effects c.in_ok-other.ensures.sets c.join_next-joined.ensures.joined c.join_next-joined.ensures.kept

pub returns-in-Ok-clause-hits : goal.returns-in-Ok-clause-hits
returns-in-Ok-clause-hits g c =
    hits_of_all (rank_values c.args.words.now) (g.H.Host.outside c.args.host.now) (g.H.Host.outside c.loop-file.host) (files_of c.loop-file.others) c.loop-file.sets.items c.loop-file.joined c.loop-file.invariant c.in_default.ensures.end.0 _ c.in-Ok.is

pub returns-clause-fault : goal.returns-clause-fault
returns-clause-fault g c =
    unmerged_fault (rank_values c.args.words.now) (g.H.Host.outside c.args.host.now) (g.H.Host.outside c.loop-file.host) (files_of c.loop-file.others) c.loop-file.sets.items c.loop-file.joined c.loop-file.invariant c.in_default.ensures.end.0 (g.H.Host.outside c.loop-file.host) c.in-Err.fault c.in-Err.is

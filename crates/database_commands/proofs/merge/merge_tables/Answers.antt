use Rattle.std.proofs.lemmas.Result.{err_from_is_err_and}
use Rattle.command_line.specs.DatabaseWords.{merge_values}
use Rattle.whole_files.proofs.EffectLemmas.{OnlyReads-refl, OnlyReads-trans}
use Rattle.database_commands.proofs.Merging.{HasMerged-more, HasMerged-start, first_fault, join_fault, next_fault}
use Rattle.database_commands.proofs.merge.merge_tables.Goals as goal

pub returns-in_err-table-clause-fault : goal.returns-in_err-table-clause-fault
returns-in_err-table-clause-fault g c =
    let merge = merge_values c.args.words.now in
    let before = g.H.Host.outside c.args.host.now in
    let after = g.H.Host.outside c.read_table.new.host in
    let fault = err_from_is_err_and c.from_residual.result c.from_residual.ensures.1 in
    rw (fault.1, fault.2) (first_fault merge before after (OnlyReads-refl before) c.read_table.ensures.effects _ c.in_err-table.ensures.fault)

pub loop-file-init : goal.loop-file-init
loop-file-init g c =
    let before = g.H.Host.outside c.args.host.now in
    HasMerged-start (merge_values c.args.words.now) before (g.H.Host.outside c.read_table.new.host) c.in_ok-table.table c.in_ok-table.ensures.table c.read_table.ensures.effects

pub returns-in_err-other-clause-fault : goal.returns-in_err-other-clause-fault
returns-in_err-other-clause-fault g c =
    let merge = merge_values c.args.words.now in
    let before = g.H.Host.outside c.args.host.now in
    let now = g.H.Host.outside c.loop-file.host in
    let after = g.H.Host.outside c.read_table-in-Some.new.host in
    let fault = err_from_is_err_and c.from_residual-in_err-other.result c.from_residual-in_err-other.ensures.1 in
    rw (fault.1, fault.2) (next_fault merge before now after c.in-Some.file.now _ _ c.loop-file.table c.loop-file.invariant c.in-Some.ensures.file c.read_table-in-Some.ensures.effects _ c.in_err-other.ensures.fault)

pub returns-in_err-table-2-clause-fault : goal.returns-in_err-table-2-clause-fault
returns-in_err-table-2-clause-fault g c =
    let merge = merge_values c.args.words.now in
    let before = g.H.Host.outside c.args.host.now in
    let now = g.H.Host.outside c.loop-file.host in
    let after = g.H.Host.outside c.read_table-in-Some.new.host in
    let fault = err_from_is_err_and c.from_residual-in_err-table-2.result c.from_residual-in_err-table-2.ensures.1 in
    rw (fault.1, fault.2) (join_fault merge before now after c.in-Some.file.now _ _ c.loop-file.table c.in_ok-other.other c.loop-file.invariant c.in-Some.ensures.file c.in_ok-other.ensures.table _ c.in_err-table-2.ensures.fault)

pub returns-in_err-table-2-clause-effects : goal.returns-in_err-table-2-clause-effects
returns-in_err-table-2-clause-effects g c =
    let before = g.H.Host.outside c.args.host.now in
    let now = g.H.Host.outside c.loop-file.host in
    let after = g.H.Host.outside c.read_table-in-Some.new.host in
    OnlyReads-trans before now after c.loop-file.invariant.effects c.read_table-in-Some.ensures.effects

pub loop-file-preserved : goal.loop-file-preserved
loop-file-preserved g c =
    let merge = merge_values c.args.words.now in
    let before = g.H.Host.outside c.args.host.now in
    let now = g.H.Host.outside c.loop-file.host in
    let after = g.H.Host.outside c.read_table-in-Some.new.host in
    let joined = c.in_ok-table-2.ensures in
    HasMerged-more merge before now after c.in-Some.file.now _ _ c.loop-file.table c.in_ok-other.other c.in_ok-table-2.table
    c.loop-file.invariant c.in-Some.ensures.file c.in_ok-other.ensures.table c.read_table-in-Some.ensures.effects joined.table joined.same joined.merged

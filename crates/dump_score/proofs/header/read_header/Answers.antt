use Rattle.std.proofs.Common.{◌+◌, ◌++◌, take, ap, arith}
use Rattle.std.proofs.lemmas.Result.{err_from_is_err_and}
use Rattle.whole_files.proofs.EffectLemmas.{OnlyReads-trans}
use Rattle.dump_score.proofs.FileLemmas.{header_call_fault, read_all_of, read_more}
use Rattle.dump_score.proofs.Opening.{count_is, header_fault, header_opened, more_length}
use Rattle.dump_score.proofs.header.read_header.Goals as goal

pub returns-in_err-count-clause-fault : goal.returns-in_err-count-clause-fault
returns-in_err-count-clause-fault g c =
    let fault = err_from_is_err_and c.from_residual.result c.from_residual.ensures.1 in
    let turn = c.loop-at.invariant in
    rw (fault.1, fault.2) (λ name before file. header_call_fault name turn.text before _ _ _ (turn.file name before file) c.in_err-count.ensures.effects c.in_err-count.ensures.reading c.in_err-count.ensures.fault)

pub returns-in_err-feed-clause-fault : goal.returns-in_err-feed-clause-fault
returns-in_err-feed-clause-fault g c =
    let fault = err_from_is_err_and c.from_residual-in_err-feed.result c.from_residual-in_err-feed.ensures.1 in
    let turn = c.loop-at.invariant in
    let read = c.in_ok-count.ensures in
    rw (fault.1, fault.2) (λ name before file.
    header_fault name before _ turn.text (take c.in_ok-count.count c.read.new.piece) _ (read_more name turn.text _ c.in_ok-count.count before _ _ (turn.file name before file) read.read read.effects read.reading)
    (λ none. read_all_of name turn.text _ c.in_ok-count.count before _ _ (turn.file name before file) read.read (omega (arith, none, count_is c.in_ok-count.count c.read.new.piece read.read.within)) (omega (arith, c.requires.piece, c.loop-at.auto.piece, c.read.auto.piece)))
    (c.in_err-feed.ensures.fault turn.text turn.read))

pub loop-at-preserved : goal.loop-at-preserved
loop-at-preserved g c =
    let turn = c.loop-at.invariant in
    let read = c.in_ok-count.ensures in
    let fed = rw c.in-More.is at (c.in_ok-feed.ensures.ok turn.text turn.read) in
    record {
      text = turn.text ++ take c.in_ok-count.count c.read.new.piece;
      read = fed.1;
      at_is = more_length turn.text c.read.new.piece c.loop-at.at c.in_ok-count.count turn.at_is read.read.within;
      reading = read.reading;
      file = λ name before file. read_more name turn.text _ c.in_ok-count.count before _ _ (turn.file name before file) read.read read.effects read.reading;
      effects = OnlyReads-trans _ _ _ turn.effects read.effects;
    }

pub returns-in-Done-clause-opened : goal.returns-in-Done-clause-opened
returns-in-Done-clause-opened g c = λ name before file.
    let turn = c.loop-at.invariant in
    let read = c.in_ok-count.ensures in
    let fed = rw c.in-Done.is at (c.in_ok-feed.ensures.ok turn.text turn.read) in
    header_opened name before _ turn.text c.read.new.piece _ c.feed.new.self read.read.within (read_more name turn.text _ c.in_ok-count.count before _ _ (turn.file name before file) read.read read.effects read.reading)
    (ap (λ n. n + c.in_ok-count.count) turn.at_is) fed.0 fed.1 (c.split-vars.ensures.splits _ fed.2) c.split-vars.ensures.at_end
    (λ none. read_all_of name turn.text _ c.in_ok-count.count before _ _ (turn.file name before file) read.read none (omega (arith, c.requires.piece, c.loop-at.auto.piece, c.read.auto.piece)))

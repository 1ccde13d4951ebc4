use Rattle.std.proofs.Common.{◌++◌, take, arith}
use Rattle.whole_files.proofs.EffectLemmas.{OnlyReads-refl, OnlyReads-trans}
use Rattle.std.proofs.lemmas.Result.{err_from_is_err_and}
use Rattle.dump_score.proofs.FileLemmas.{body_call_fault, read_all_of, read_more}
use Rattle.dump_score.proofs.Opening.{can_end, found_in_file, more_length, not_too_long, scoring_binds_on}
use Rattle.dump_score.proofs.items.score_rest.Goals as goal

pub loop-at-init : goal.loop-at-init
loop-at-init g c = record {
  reads = c.requires.body;
  reading = c.requires.reading;
  effects = OnlyReads-refl _;
  scores = λ name before habit design points vars instance text file at is. (text, file, at, is);
}

pub returns-then-count-eq0-clause-ok : goal.returns-then-count-eq0-clause-ok
returns-then-count-eq0-clause-ok g c = λ name before habit design points vars instance text file at is.
    let turn = c.loop-at.invariant.scores name before habit design points vars instance text file at is in
    (turn.0, read_all_of name turn.0 _ c.in_ok-count.count before _ _ turn.1 c.in_ok-count.ensures.read c.if-count-eq0.true (omega (arith, c.requires.piece, c.loop-at.auto.piece, c.read.auto.piece)), can_end _ _ habit design points vars instance turn.0 turn.3)

pub returns-in_err-count-clause-fault : goal.returns-in_err-count-clause-fault
returns-in_err-count-clause-fault g c =
    let fault = err_from_is_err_and c.from_residual.result c.from_residual.ensures.1 in
    rw (fault.1, fault.2) (λ name before habit design points vars instance text file at is.
    let turn = c.loop-at.invariant.scores name before habit design points vars instance text file at is in
    body_call_fault name turn.0 before _ _ habit design instance _ turn.1 c.in_err-count.ensures.effects c.in_err-count.ensures.reading c.in_err-count.ensures.fault)

pub returns-in-Err-clause-fault : goal.returns-in-Err-clause-fault
returns-in-Err-clause-fault g c = λ name before habit design points vars instance text file at is.
    let turn = c.loop-at.invariant.scores name before habit design points vars instance text file at is in
    let more = read_more name turn.0 _ c.in_ok-count.count before _ _ turn.1 c.in_ok-count.ensures.read c.in_ok-count.ensures.effects c.in_ok-count.ensures.reading in
    found_in_file name before (g.H.Host.outside c.read.new.host) (g.H.Host.outside c.read.new.host) habit design instance _ _ more (λ rest. scoring_binds_on _ _ habit design points vars instance turn.0 _ rest turn.3) (c.in-Err.ensures.fault habit design points vars instance turn.0 turn.3)

pub loop-at-preserved : goal.loop-at-preserved
loop-at-preserved g c = record {
  reads = c.in-Ok.ensures.reads;
  reading = c.in_ok-count.ensures.reading;
  effects = OnlyReads-trans _ _ _ c.loop-at.invariant.effects c.in_ok-count.ensures.effects;
  scores = λ name before habit design points vars instance text file at is.
      let turn = c.loop-at.invariant.scores name before habit design points vars instance text file at is in
      let more = read_more name turn.0 _ c.in_ok-count.count before _ _ turn.1 c.in_ok-count.ensures.read c.in_ok-count.ensures.effects c.in_ok-count.ensures.reading in
      (turn.0 ++ take c.in_ok-count.count c.read.new.piece, more, more_length turn.0 c.read.new.piece c.loop-at.at c.in_ok-count.count turn.2 c.in_ok-count.ensures.read.within, c.in-Ok.ensures.ok habit design points vars instance turn.0 turn.3);
}

pub returns-clause-fault : goal.returns-clause-fault
returns-clause-fault g c = λ name before habit design points vars instance text file at is.
    let turn = c.loop-at.invariant.scores name before habit design points vars instance text file at is in
    absurd (omega (arith, not_too_long _ _ habit design points vars instance turn.0 turn.3, turn.2, c.loop-at-test.false))

use Rattle.std.proofs.Common.{arith}
use Rattle.std.proofs.lemmas.Grind.{common_steps}
use Rattle.command_line.specs.WordsLeft.{left_words}
use Rattle.command_line.proofs.ScoreReading.{has_bad_value, missing_stands, needs_value, score_stands, HasRead-more}
use Rattle.command_line.proofs.command.read_score.Goals as goal

pub loop-word-preserved : goal.loop-word-preserved
loop-word-preserved c =
    HasRead-more _ _ _ _ _ _ c.in-Some-named.option c.in-Some.word.now c.in-Some-value_after.value.now
    c.loop-word.invariant c.in-Some.ensures.word c.in-Some-value_after.ensures.value c.in-Some-named.ensures.named
    (grind (arith, common_steps)) (grind (arith, common_steps)) c.set.ensures.words c.set.ensures.values

pub returns-in_default-value_after-clause-fault : goal.returns-in_default-value_after-clause-fault
returns-in_default-value_after-clause-fault c =
    let read = c.loop-word.invariant in (
      read.given,
      left_words c.loop-word.left,
      read.up_to,
      needs_value _ _ _ _ c.in-Some-named.option c.in-Some.word.now read c.in-Some.ensures.word c.in-Some-named.ensures.named (grind (arith, common_steps)) c.in_default-value_after.ensures.none.0 c.in_default-value_after.ensures.none.1,
    )

pub returns-then-not-accepts-clause-fault : goal.returns-then-not-accepts-clause-fault
returns-then-not-accepts-clause-fault c =
    let read = c.loop-word.invariant in (
      read.given,
      left_words c.loop-word.left,
      read.up_to,
      has_bad_value _ _ _ _ c.in-Some-named.option c.in-Some.word.now read c.in-Some.ensures.word c.in-Some-named.ensures.named (grind (arith, common_steps)) _ c.in-Some-value_after.value.now c.in-Some-value_after.ensures.value c.in-Some-value_after.ensures.empty (grind (arith, common_steps)),
    )

pub returns-in-Ok-clause-score : goal.returns-in-Ok-clause-score
returns-in-Ok-clause-score c = score_stands _ _ _ c.loop-word.invariant c.in_default.ensures.end.0 c.in-Ok.score c.in-Ok.ensures.values

pub returns-in-Err-clause-fault : goal.returns-in-Err-clause-fault
returns-in-Err-clause-fault c =
    let read = c.loop-word.invariant in
    let end = c.in_default.ensures.end.0 in
    (read.given, left_words c.loop-word.left, read.up_to, (end, missing_stands _ _ _ read end c.in-Err.option c.text.result.now c.in-Err.ensures.missing c.text.ensures))

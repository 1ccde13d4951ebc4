use Rattle.std.proofs.Common.{arith}
use Rattle.std.proofs.lemmas.Grind.{common_steps}
use Rattle.command_line.proofs.DatabaseReading.{HasRead-file, HasRead-option}
use Rattle.command_line.proofs.database_words.read_words.Goals as goal

pub loop-word-preserved-in_default-option_named : goal.loop-word-preserved-in_default-option_named
loop-word-preserved-in_default-option_named c =
    HasRead-file c.args.command _ _ _ _ _ c.in-Some.word.now
    c.loop-word.invariant c.in-Some.ensures.word
    (grind (arith, common_steps)) (grind (arith, common_steps)) c.add_file.ensures.values c.add_file.ensures.files c.add_file.ensures.words

pub loop-word-preserved : goal.loop-word-preserved
loop-word-preserved c =
    HasRead-option c.args.command _ _ _ _ _ _ c.in-Some-option_named.option c.in-Some.word.now c.in-Some-value_behind.value.now
    c.loop-word.invariant c.in-Some.ensures.word c.in-Some-value_behind.ensures.value c.in-Some-option_named.ensures.named
    (grind (arith, common_steps)) (grind (arith, common_steps)) c.set.ensures.values c.set.ensures.files c.set.ensures.words

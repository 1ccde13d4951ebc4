use Rattle.std.proofs.Common.{◌∙◌, sym, ap}
use Rattle.command_line.specs.DatabaseFiles.{files_among}
use Rattle.command_line.specs.DatabaseOption.{option_named}
use Rattle.command_line.specs.WordsLeft.{left_words}
use Rattle.command_line.proofs.DatabaseOptions.{option_named_none, option_named_text}
use Rattle.command_line.proofs.FilesAmong.{files_among-file, files_among-skip}
use Rattle.command_line.proofs.database_files.DatabaseFiles.next_file.Goals as goal

pub returns-in-None-clause-file : goal.returns-in-None-clause-file
returns-in-None-clause-file c =
    sym c.loop-word.invariant ∙ ap files_among c.in-Some.ensures.word ∙ files_among-file c.in-Some.word.now (left_words c.next_word.new.self) (option_named_none c.in-Some.word.now c.in-None.ensures.unknown)

pub loop-word-preserved-then-takes_value : goal.loop-word-preserved-then-takes_value
loop-word-preserved-then-takes_value c =
    let option = c.in-Some-named.option in
    let skipped = c.next_word-in-Some-named in
    let is_option = ap option_named c.in-Some-named.ensures.named ∙ option_named_text option in
    let takes = sym c.takes_value.ensures ∙ c.if-takes_value.true in
    sym (files_among-skip c.in-Some.word.now option (left_words c.next_word.new.self) (left_words skipped.new.self) skipped.result is_option takes skipped.ensures.word skipped.ensures.end)
    ∙ sym (ap files_among c.in-Some.ensures.word)
    ∙ c.loop-word.invariant

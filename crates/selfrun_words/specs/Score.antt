-- The words of the command that scores the two files of a selfrun, and what they say.
use Rattle.std.specs.Prelude.{ℕ, false, List, [], ◌∷◌, None, codes}
use Rattle.command_line.specs.CommandWords.{ScoreValues}
use Rattle.selfrun_files.specs.Files.{dump_name, source_name}

-- the name of the design's module, and of its instance in the dump
abbrev pub selfrun_name : List ℕ
selfrun_name = codes "selfrun"

-- the words
abbrev pub score_in_words : List (List ℕ)
score_in_words =
    codes "score" ∷ codes "-t" ∷ selfrun_name ∷ codes "-i" ∷ selfrun_name ∷ codes "-v" ∷ source_name ∷ codes "-vcd" ∷ dump_name
    ∷ codes "-o" ∷ codes "selfrun.db" ∷ []

-- what they say
abbrev pub selfrun_score : ScoreValues
selfrun_score = record {
  top = selfrun_name;
  instance = selfrun_name;
  sources = source_name ∷ [];
  defines = [];
  folder = None;
  dump = dump_name;
  output = codes "selfrun.db";
  machines = [];
  drawings = [];
  late = false;
}

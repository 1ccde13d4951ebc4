-- The words of memories of which nothing is known.
use Rattle.std.specs.Prelude.{Bool, if◌then◌else◌, List, [], ◌∷◌, None, replicate}
use Rattle.design_model.specs.declared.design.Memory.{Memory}
use Rattle.store_knowledge.specs.body_replay.KnownBits.{KnownBits}
use Rattle.written_words.specs.Written.{no_range, range_of}

-- of one memory, where it is followed
abbrev pub unknown_words : Memory → Bool → List KnownBits
unknown_words x followed = replicate (if followed then range_of x else no_range).count (replicate x.width None)

-- of each of these memories, by their flags
abbrev pub unknown_all : List Memory → List Bool → List (List KnownBits)
unknown_all [] fs = []
unknown_all (x ∷ xs) [] = []
unknown_all (x ∷ xs) (f ∷ fs) = unknown_words x f ∷ unknown_all xs fs

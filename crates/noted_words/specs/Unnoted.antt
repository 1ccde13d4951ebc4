-- What a run leaves of the words that it does not note to be written.
use Rattle.std.specs.Prelude.{◌≡◌, ℕ, true, ⊤}
use Rattle.design_model.specs.event_machine.Cell.{Cell}
use Rattle.design_model.specs.Design.{Design, In, is_memory, memory_at, word_cells}
use Rattle.design_model.specs.Lawful.{IsLawfulDesign}
use Rattle.body_replay.specs.Contract.{Certainty, HasNote, quiet}
use Rattle.body_replay.specs.Replay.{flush, word_write}
use Rattle.body_replay.specs.Runs.{StoreView, runs_of}
use Rattle.body_replay.specs.Store.{Kept, words}

-- a way in which a run notes what it writes
abbrev pub IsMarking : Certainty → Type 0
IsMarking quiet = ⊥
IsMarking _ = ⊤

-- of a word that no note says to be written a run leaves what was kept, and its queued writes leave it
abbrev pub UnnotedLaw : Type 0
UnnotedLaw =
    (d : Design) (p : ℕ) (st : StoreView) (how : Certainty) → IsLawfulDesign d → IsMarking how → (m i : ℕ) → is_memory d m ≡ true → In i (words (memory_at d m))
    → (HasNote (word_write m i) (runs_of d p st how).notes → ⊥) → (c : Cell) → In c (word_cells d m i)
    → ((runs_of d p st how).kept c ≡ st.kept c) × ((k : Kept) → flush k (runs_of d p st how).queue c ≡ k c)

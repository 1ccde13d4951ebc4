-- What the marks of points say after a run of a body, where they said what was reported before it.
use Rattle.std.specs.Prelude.{◌≡◌, ℕ, Bool, List, ◌++◌, true, false, ⊤}
use Rattle.std.specs.List.{All}
use Rattle.body_replay.specs.Contract.{HasNote, Note}
use Rattle.body_replay.specs.Replay.{Spot, line, node, word_read, word_write}
use Rattle.cover_marks.specs.Marks.{AreMarksOf}
use Rattle.cover_marks.specs.declared.marks.Marks.{Marks}
use Rattle.cover_points.specs.Visits.{AreApart, AreOnce}
use Rattle.cover_points.specs.declared.listing.Points.{Points}
use Rattle.cover_points.specs.declared.visit.Visit.{Visit}
use Rattle.cover_points.specs.declared.visit.Visit.TheVariants.{Read, Write}
use Rattle.design_model.specs.Design.{Design}
use Rattle.design_model.specs.Points.{IsBlock}
use Rattle.design_model.specs.declared.point.Point.TheVariants.{Word}
use Rattle.mark_laws.specs.Marked.{AreVerdicts}
use Rattle.point_marks.specs.declared.verdict.Verdict.{Verdict}
use Rattle.mark_laws.specs.replay_model.Marks.{Marking, markings_by}
use Rattle.written_words.specs.Written.{WrittenState, has_word, is_followed}

-- the visit of a word that is written, or read
abbrev pub word_visit : ℕ → ℕ → Bool → Visit
word_visit m i true = Write m i
word_visit m i false = Read m i

-- what was reported before a run of this process, of the points of a design, and the verdicts at that time
pub record RunStart : Type 0 where
  pub design : Design
  pub points : Points
  pub earlier : List Marking
  pub process : ℕ
  pub before : List Verdict

-- the process is a block of the points of the spot: of a word it reads or writes the memory
abbrev pub IsSpotOf : Design → ℕ → Spot → Type 0
IsSpotOf d p (line n) = ⊤
IsSpotOf d p (node n c) = ⊤
IsSpotOf d p (word_read m i) = IsBlock d (Word m i false) p
IsSpotOf d p (word_write m i) = IsBlock d (Word m i true) p

-- the process is a block of the points of all these notes
abbrev pub AreNotesOf : Design → ℕ → List Note → Type 0
AreNotesOf d p ns = All (λ (n : Note). IsSpotOf d p n.spot) ns

-- each verdict was the one by what was reported before the run, of points that are each listed once and have visits of their own
pub record IsRightStart (s : RunStart) : Type 0 where
  pub apart : AreApart s.points
  pub once : AreOnce s.points
  pub verdicts : AreVerdicts s.design s.points s.earlier s.before

-- the marks are of the points still, and each verdict is the one by what was reported before and then by these notes of the process
pub record HasReported (s : RunStart) (ns : List Note) (p : ℕ) (ps : Points) (m : Marks) : Type 0 where
  pub process : p ≡ s.process
  pub points : ps ≡ s.points
  pub marks : AreMarksOf s.points m
  pub verdicts : IsRightStart s → AreNotesOf s.design s.process ns → AreVerdicts s.design s.points (s.earlier ++ markings_by s.process ns) m.verdicts

-- the words of the list before are in it still, and so are those that these notes say to be written
pub record HasListed (before : WrittenState) (ns : List Note) (now : WrittenState) : Type 0 where
  pub first : now.first ≡ before.first
  pub ranges : now.ranges ≡ before.ranges
  pub kept : (m i : ℕ) → has_word before m i ≡ true → has_word now m i ≡ true
  pub noted : (m i : ℕ) → is_followed now m i ≡ true → HasNote (word_write m i) ns → has_word now m i ≡ true

-- what was reported before a run, and what was listed as written
pub record TakenStart : Type 0 where
  pub marks : RunStart
  pub written : WrittenState

-- both are as these notes make them
pub record HasTaken (s : TakenStart) (ns : List Note) (p : ℕ) (ps : Points) (m : Marks) (w : WrittenState) : Type 0 where
  pub reported : HasReported s.marks ns p ps m
  pub listed : HasListed s.written ns w

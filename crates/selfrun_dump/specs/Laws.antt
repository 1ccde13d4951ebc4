-- What the text of the dump of a selfrun is, and what it says of the design.
use Rattle.std.specs.Prelude.{◌≡◌, ◌≤◌, ◌+◌, ◌*◌, ◌∷◌, ℕ, [], length, map}
use Rattle.design_model.specs.RoundLaws.{read_by}
use Rattle.design_model.specs.View.{design_view}
use Rattle.design_model.specs.declared.design.Design.{Design}
use Rattle.shown_dumps.specs.Bound.{IsBound}
use Rattle.shown_dumps.specs.Shown.{bound_dump}
use Rattle.vcd_reader.specs.Dump.{IsDump}
use Rattle.selfrun_design.specs.Selfrun.{selfrun}
use Rattle.selfrun_dump.specs.Entries.{scope, selfrun_dump}
use Rattle.selfrun_files.specs.Text.{dump_text}
use Rattle.selfrun_runs.specs.Says.{SaysSelfrun}

-- Text law: the text of a selfrun is its dump.
abbrev pub TextLaw : Type 0
TextLaw = (number steps : ℕ) → steps ≤ 1000000 → IsDump (dump_text number steps) (selfrun_dump number steps)

-- Times law: it has two times for each step, and one more.
abbrev pub TimesLaw : Type 0
TimesLaw = (number steps : ℕ) → map (λ ss. length ss) (selfrun_dump number steps).stretches ≡ (2 * steps + 1) ∷ []

-- Bound law: the instance is there, and each signal has a value before the second time.
abbrev pub BoundLaw : Type 0
BoundLaw = (number steps : ℕ) (design : Design) → design_view design ≡ selfrun → IsBound design (selfrun_dump number steps) scope

-- Says law: by whichever rounds it is read, it says of the design what the generator computes.
abbrev pub SaysLaw : Type 0
SaysLaw =
    (number steps : ℕ) (design : Design) (rounds : ℕ → ℕ) → design_view design ≡ selfrun
    → SaysSelfrun number steps (read_by (bound_dump design (selfrun_dump number steps) scope) rounds)

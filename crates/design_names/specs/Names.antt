-- The names, paths and bounds of a design.
use Rattle.std.specs.Prelude.{◌≤◌, ℕ, IsTrue, length}
use Rattle.coverage_db.specs.Table.{IsIdentifier, is_path}
use Rattle.design_model.specs.Design.{Design, In}
use Rattle.design_model.specs.declared.design.Instance.{Instance}
use Rattle.design_model.specs.declared.design.Memory.{Memory}
use Rattle.design_model.specs.declared.design.Signal.{Signal}

-- the two bounds of a range are at most 1,048,575
abbrev pub AreSmall : ℕ → ℕ → Type 0
AreSmall a b = (a ≤ 1048575) × (b ≤ 1048575)

-- names are identifiers, paths are identifiers with dots between, and the bounds of signals and of the words of memories are small
pub record HasNames (d : Design) : Type 0 where
  pub top : IsIdentifier d.top
  pub some_instance : 1 ≤ length d.instances
  pub instances : (i : Instance) → In i d.instances → IsTrue (is_path i.path) × IsIdentifier i.«module»
  pub signals : (s : Signal) → In s d.signals → IsIdentifier s.name × AreSmall s.high s.low
  pub memories : (m : Memory) → In m d.memories → IsIdentifier m.name × AreSmall m.first m.last

-- A design of which each bit is x.
use Rattle.std.specs.Prelude.{false, Some}
use Rattle.four_state.specs.declared.bit.Bit.TheVariants.{X}
use Rattle.design_model.specs.Design.{Design}
use Rattle.scene_laws.specs.body_replay.Store.{Kept}
use Rattle.scene_laws.specs.term_replay.Stands.{Scene}

-- each bit is known to be x
abbrev pub all_x : Kept
all_x c = Some X

-- what the terms of the design are evaluated on
abbrev pub strange_scene : Design → Scene
strange_scene d = record { design = d; kept = all_x; blames = record { blame = λ x. 0; wrote = λ x. false } }

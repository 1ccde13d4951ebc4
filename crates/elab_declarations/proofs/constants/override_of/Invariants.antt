use Rattle.std.proofs.Common.{◌≡◌, drop}
use Rattle.elab_declarations.specs.Constants.{given_value, overrides_view}
use Rattle.elab_declarations.proofs.constants.override_of.Given as goal

-- the first one is among those that are left
abbrev pub invariant-loop-one : goal.invariant-loop-one
invariant-loop-one l = given_value (overrides_view (drop l.one-index l.overrides)) l.name ≡ given_value (overrides_view l.fn.overrides) l.fn.name

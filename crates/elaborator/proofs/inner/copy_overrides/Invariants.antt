use Rattle.std.proofs.Common.{◌≡◌, ◌++◌, drop}
use Rattle.elab_declarations.specs.Constants.{overrides_view}
use Rattle.elaborator.proofs.inner.copy_overrides.Given as goal

-- the copies so far, with those that are left, are all
abbrev pub invariant-loop-one : goal.invariant-loop-one
invariant-loop-one l = overrides_view l.copy.items ++ overrides_view (drop l.one-index l.overrides) ≡ overrides_view l.fn.overrides

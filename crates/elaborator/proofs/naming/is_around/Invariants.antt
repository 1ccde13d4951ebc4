use Rattle.std.proofs.Common.{◌≡◌, drop, map}
use Rattle.std.specs.List.{list_any}
use Rattle.std.specs.Prelude.{bytes_eq}
use Rattle.elaborator.proofs.naming.is_around.Given as goal

-- the modules that are left decide
abbrev pub invariant-loop-other : goal.invariant-loop-other
invariant-loop-other l = list_any (bytes_eq l.inner.name.name) (map (λ m. m.now.name.name) (drop l.other-index l.around)) ≡ list_any (bytes_eq l.fn.inner.name.name) (map (λ m. m.now.name.name) l.fn.around)

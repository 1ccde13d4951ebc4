use Rattle.std.proofs.Common.{◌≡◌, ◌++◌, drop, map}
use Rattle.fsm_extract.proofs.walk.draw.Given as goal

-- the arcs so far, with those of the rest, are all
abbrev pub invariant-loop-from : goal.invariant-loop-from
invariant-loop-from l = l.arcs.items ++ map (λ v. (v, l.to)) (drop l.from-index l.around) ≡ l.fn.arcs.items ++ map (λ v. (v, l.fn.to)) l.fn.around

use Rattle.std.proofs.Common.{◌≡◌, ◌++◌, drop, map}
use Rattle.fsm_extract.proofs.draw.push_ends.Given as goal

-- the states so far, with those of the rest, are all
abbrev pub invariant-loop-to : goal.invariant-loop-to
invariant-loop-to l = l.states.items ++ map (λ arc. arc.1) (drop l.to-index l.arcs) ≡ l.fn.states.items ++ map (λ arc. arc.1) l.fn.arcs

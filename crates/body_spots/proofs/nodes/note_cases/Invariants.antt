use Rattle.std.proofs.Common.{drop, map}
use Rattle.value_store.specs.body_replay.Replay.{node}
use Rattle.body_spots.proofs.Hits.{HitsOn}
use Rattle.body_spots.proofs.nodes.note_cases.Given as goal

-- the cases so far, and the rest, are all
abbrev pub invariant-loop-case : goal.invariant-loop-case
invariant-loop-case g l = HitsOn g.N.Notes.noted l.fn.notes (map (node l.node) l.fn.cases) l.notes (map (node l.node) (drop l.case-index l.cases))

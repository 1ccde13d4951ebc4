use Rattle.std.proofs.Common.{◌≡◌, map, take}
use Rattle.replay_core.specs.Codes.{code_list}
use Rattle.replay_core.proofs.rows.code_lists.Given as goal

abbrev pub invariant-loop-code : goal.invariant-loop-code
invariant-loop-code l = map (λ list. list.items) l.lists.items ≡ map code_list (take l.code-index l.codes)

use Rattle.std.proofs.Common.{◌≡◌, ◌+◌, ◌*◌, drop, map}
use Rattle.design_model.specs.Mentions.{are_constant}
use Rattle.design_model.specs.View.{term_view, terms_of}
use Rattle.design_model.specs.declared.tree.Term.{size-Term}
use Rattle.fsm_extract.proofs.constant.+constants.Given as goal

-- all are constant if those that are left are
abbrev pub invariant-are_constant-loop-part : goal.invariant-are_constant-loop-part
invariant-are_constant-loop-part l = are_constant (terms_of (map term_view (drop l.part-index l.parts))) ≡ are_constant (terms_of (map term_view l.fn.parts))

-- each call is of a part
abbrev pub decreases-is_constant : goal.decreases-is_constant
decreases-is_constant l = 2 * size-Term l.term.now

abbrev pub decreases-are_constant : goal.decreases-are_constant
decreases-are_constant l = 2 * goal.size-are_constant l + 1

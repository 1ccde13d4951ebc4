use Rattle.std.proofs.Common.{◌≡◌, ◌++◌, map, take}
use Rattle.design_model.specs.View.{design_view}
use Rattle.point_table.specs.Addresses.{word_address, missed}
use Rattle.point_table.proofs.addresses.push_words.Given as goal

abbrev pub invariant-loop-point : goal.invariant-loop-point
invariant-loop-point l = l.rows.items ≡ l.initial.rows.items ++ map (λ x. missed (word_address (design_view l.design) l.places x)) (take l.point-index l.points)

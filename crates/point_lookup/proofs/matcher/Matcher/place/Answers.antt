use Rattle.std.proofs.Common.{[], ◌∷◌}
use Rattle.std.specs.Prelude.{decimal}
use Rattle.point_lookup.specs.Matching.{left_of}
use Rattle.point_lookup.proofs.Matched.{after_two}
use Rattle.point_lookup.proofs.matcher.Matcher.place.Goals as goal

pub returns : goal.returns
returns c =
    let source = after_two (32 ∷ []) (decimal c.args.at.source) (left_of c.args.self.now.left) (left_of c.byte.new.self.left) (left_of c.number.new.self.left) c.byte.ensures c.number.ensures in
    let line = after_two (58 ∷ []) (decimal c.args.at.line) (left_of c.number.new.self.left) (left_of c.byte-2.new.self.left) (left_of c.number-2.new.self.left) c.byte-2.ensures c.number-2.ensures in
    after_two (32 ∷ decimal c.args.at.source) (58 ∷ decimal c.args.at.line) (left_of c.args.self.now.left) (left_of c.number.new.self.left) (left_of c.number-2.new.self.left) source line

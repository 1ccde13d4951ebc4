use Rattle.std.proofs.Common.{◌∷◌, ◌++◌, [], Some}
use Rattle.coverage_db.specs.Text.{address_text, letter, path_at, subject_fields}
use Rattle.point_lookup.specs.Matching.{left_of}
use Rattle.point_lookup.proofs.Matched.{after_two, ended_there}
use Rattle.point_lookup.proofs.matcher.is_address.Goals as goal

pub returns : goal.returns
returns c =
    let path = path_at c.args.instances.now c.args.address.now.instance in
    let fields = subject_fields c.args.address.now.subject in
    let first = letter c.args.address.now.subject in
    let subject = after_two (32 ∷ []) fields (left_of c.path.new.self.left) (left_of c.byte-3.new.self.left) (left_of c.subject.new.self.left) c.byte-3.ensures c.subject.ensures in
    let from_path = after_two path (32 ∷ fields) (left_of c.byte-2.new.self.left) (left_of c.path.new.self.left) (left_of c.subject.new.self.left) c.path.ensures subject in
    let spaced = after_two (32 ∷ []) (path ++ 32 ∷ fields) (left_of c.byte.new.self.left) (left_of c.byte-2.new.self.left) (left_of c.subject.new.self.left) c.byte-2.ensures from_path in
    let begun = rw c.letter.ensures at c.byte.ensures in
    let whole = after_two (first ∷ []) (32 ∷ path ++ 32 ∷ fields) (Some c.args.text.now) (left_of c.byte.new.self.left) (left_of c.subject.new.self.left) begun spaced in
    ended_there (address_text c.args.instances.now c.args.address.now) c.args.text.now (left_of c.subject.new.self.left) c.is_at_end.result whole c.is_at_end.ensures

use Rattle.std.proofs.Common.{refl, sym, subst, ◌++◌, ◌∷◌, []}
use Rattle.std.proofs.lemmas.Result.{err_from_is_err_and}
use Rattle.vcd_reader.specs.Holding.{IsWord}
use Rattle.vcd_reader.proofs.BodyStanding.{push_no_room, pushed, placed}
use Rattle.vcd_reader.proofs.body_reader.BodyReader.push.Goals as goal

pub returns-in_err-check_room-clause-fault : goal.returns-in_err-check_room-clause-fault
returns-in_err-check_room-clause-fault c =
    let fault = err_from_is_err_and c.from_residual.result c.from_residual.ensures.1 in
    rw (fault.1, fault.2) (λ text b black stands. push_no_room c.args.self.now text c.args.byte b _ black stands c.in_err-check_room.ensures.no_room c.in_err-check_room.ensures.fault)

pub returns-clause-ok : goal.returns-clause-ok
returns-clause-ok c = λ text b black s.
    let begun = c.has_begun-has_begun.ensures b.reading s.reading in
    let word = subst (λ h. IsWord c.push.new.self h (s.word ++ c.args.byte ∷ [])) begun (c.push.ensures s.word (subst (λ h. IsWord c.args.self.now.word h s.word) (sym begun) s.kept)) in
    pushed c.args.self.now _ text c.args.byte b black s c.in_ok-check_room.ensures.room refl refl refl word (placed c.args.self.now text b s c.start-start.result c.args.byte (c.start-start.ensures.none _ s.word s.kept) (c.start-start.ensures.some _ s.word s.kept)) refl

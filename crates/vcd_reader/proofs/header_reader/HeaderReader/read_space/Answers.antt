use Rattle.std.proofs.Common.{length, refl}
use Rattle.std.proofs.lemmas.Result.{err_from_is_err_and}
use Rattle.vcd_reader.specs.Views.{reading_of}
use Rattle.vcd_reader.proofs.FewCodes.{few_after, few_codes}
use Rattle.vcd_reader.proofs.HeaderStanding.{done_open, space_kept, space_fault, space_no_room}
use Rattle.vcd_reader.proofs.header_reader.HeaderReader.read_space.Goals as goal

pub read_last-requires-clause-few : goal.read_last-requires-clause-few
read_last-requires-clause-few c =
    let reader = c.args.self.now in
    few_codes reader.progress (length reader.sections.declared.codes) reader.at c.requires reader.few reader.within

pub returns-in_err-is_last-clause-fault : goal.returns-in_err-is_last-clause-fault
returns-in_err-is_last-clause-fault c =
    let fault = err_from_is_err_and c.from_residual.result c.from_residual.ensures.1 in
    rw (fault.1, fault.2) (λ text space white stands. space_fault c.args.self.now text space _ c.requires stands white (rw c.as_slice.ensures.value at c.in_err-is_last.ensures.fault))

pub returns-in_err-check_room-clause-fault : goal.returns-in_err-check_room-clause-fault
returns-in_err-check_room-clause-fault c =
    let fault = err_from_is_err_and c.from_residual-in_err-check_room.result c.from_residual-in_err-check_room.ensures.1 in
    rw (fault.1, fault.2) (λ text space white stands. space_no_room c.args.self.now text space _ c.in_ok-is_last.is_last _ c.requires stands white (rw c.as_slice.ensures.value at c.in_ok-is_last.ensures.ok) c.in_err-check_room.ensures.no_room.0 c.in_err-check_room.ensures.no_room.1 c.in_err-check_room.ensures.fault)

pub returns-clause-ok : goal.returns-clause-ok
returns-clause-ok c = λ text space white stands. space_kept c.args.self.now _ text space c.in_ok-is_last.is_last c.requires stands white (rw c.as_slice.ensures.value at c.in_ok-is_last.ensures.ok) c.in_ok-check_room.ensures.room c.clear.ensures.items refl c.progress-self.ensures

pub returns-clause-open : goal.returns-clause-open
returns-clause-open c = done_open c.in_ok-is_last.is_last _ c.progress-self.ensures

pub invariant_of-self-2-clause-few : goal.invariant_of-self-2-clause-few
invariant_of-self-2-clause-few c =
    let reader = c.args.self.now in
    few_after reader.progress c.progress-self.result (reading_of reader.sections) (reading_of c.read_last.new.sections) reader.at reader.word.items c.in_ok-is_last.is_last c.requires reader.few (rw c.as_slice.ensures.value at c.in_ok-is_last.ensures.ok)

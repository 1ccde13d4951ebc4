use Rattle.std.proofs.Common.{◌≡◌, ℕ, List, length, take, refl, ap, ◌∙◌, arith}
use Rattle.std.proofs.lemmas.Result.{err_from_is_err_and}
use Rattle.vcd_reader.proofs.VectorFronts.{piece_fault, piece_said}
use Rattle.vcd_reader.proofs.body_reader.BodyReader.read_vector.Goals as goal

pub returns-in_err-is_heard-clause-fault : goal.returns-in_err-is_heard-clause-fault
returns-in_err-is_heard-clause-fault c =
    let fault = err_from_is_err_and c.from_residual.result c.from_residual.ensures.1 in
    rw (fault.1, fault.2) (λ text b none rest s. piece_fault c.args.filter c.args.self.now text c.args.piece.now b c.args.front c.requires.front c.requires.room none rest s c.read_lanes.new.kept _
    c.split_at.result.1.now c.split_at-3.result.0.now _ c.split_at.ensures.back (c.split_at-3.ensures.front ∙ ap (λ (bytes : List ℕ). take c.args.front.code bytes) c.split_at-2.ensures.back) refl c.in_err-is_heard.ensures)

pub returns-clause-ok : goal.returns-clause-ok
returns-clause-ok c = λ text b none rest s.
    let long : length c.split_at-3.result.0.now ≡ c.args.front.code = omega (arith, c.split_at-3.ensures.front_len) in
    piece_said c.args.filter c.args.self.now text c.args.piece.now b c.args.front c.requires.front c.requires.room none rest s _ c.in_ok-is_heard.is_heard c.change.result
    c.split_at.result.1.now c.split_at-3.result.0.now _ _ c.split_at.ensures.back (c.split_at-3.ensures.front ∙ ap (λ (bytes : List ℕ). take c.args.front.code bytes) c.split_at-2.ensures.back) refl
    c.in_ok-is_heard.ensures c.change.ensures (omega (arith, long)) refl (omega (arith, long)) refl refl refl refl

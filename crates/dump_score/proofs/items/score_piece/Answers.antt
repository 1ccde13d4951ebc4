use Rattle.std.proofs.Common.{◌≡◌, ◌<◌, length, drop, take, ◌++◌, arith, length-drop}
use Rattle.std.proofs.lemmas.Result.{err_from_is_err_and}
use Rattle.four_state.specs.Vector.{Vector}
use Rattle.vcd_reader.specs.Wanted.{item_by}
use Rattle.vcd_reader.specs.WantedPieces.{kept_value}
use Rattle.dump_score.proofs.FirstValues.{found_in_piece}
use Rattle.dump_score.proofs.Stepping.{Steps, can_say, heard, reading_step, say_found_in_piece, scored_further, scoring_some, some_reading}
use Rattle.dump_score.proofs.Opening.{whole_piece}
use Rattle.dump_score.proofs.items.score_piece.Goals as goal
use Rattle.dump_score.proofs.items.score_piece.Goals.{In_ok-heard}

-- the step was made over what was left of the piece
steps : (c : In_ok-heard) (value : Vector) → value ≡ kept_value c.next_of.new.self → Steps c.wanted.result.now (item_by c.in_ok-heard.heard.saying value) c.in_ok-heard.heard.used c.loop-used.body c.next_of.new.self (drop c.loop-used.used c.args.piece.now)
steps c value is = λ text b read. heard c.wanted.result.now c.in_ok-heard.heard.saying value c.in_ok-heard.heard.used c.next_of.new.self text (drop c.loop-used.used c.args.piece.now) b is ((rw c.split_at.ensures.back at c.in_ok-heard.ensures.ok) text b read)

-- some of it was left
some : (c : In_ok-heard) → 0 < length (drop c.loop-used.used c.args.piece.now)
some c = omega (arith, length-drop c.loop-used.used c.args.piece.now, c.loop-used-test.true)

pub returns-in_err-heard-clause-fault : goal.returns-in_err-heard-clause-fault
returns-in_err-heard-clause-fault c =
    let fault = err_from_is_err_and c.from_residual.result c.from_residual.ensures.1 in
    let refused = rw c.split_at.ensures.back at c.in_err-heard.ensures.fault in
    rw (fault.1, fault.2) (λ habit design points vars instance text is.
    let turn = c.loop-used.invariant.scores habit design points vars instance text is in
    found_in_piece c.wanted.result.now c.loop-used.body c.loop-used.replay c.wanted.ensures habit design points vars instance text c.args.piece.now c.loop-used.used _
    (omega (arith, length-drop c.loop-used.used c.args.piece.now, c.loop-used-test.true)) turn (refused (text ++ take c.loop-used.used c.args.piece.now) turn.b turn.stands))

pub say-requires : goal.say-requires
say-requires c =
    let at = (goal.at.say-requires c).In_ok-heard in
    can_say c.wanted.result.now (item_by c.in_ok-heard.heard.saying c.value.result.now) c.in_ok-heard.heard.used c.loop-used.body c.next_of.new.self c.loop-used.replay _ (some at) (steps at c.value.result.now c.value.ensures) c.wanted.ensures c.loop-used.invariant.reads

pub returns-in_err-say-clause-fault : goal.returns-in_err-say-clause-fault
returns-in_err-say-clause-fault c =
    let fault = err_from_is_err_and c.from_residual-in_err-say.result c.from_residual-in_err-say.ensures.1 in
    let at = (goal.at.returns-in_err-say-clause-fault c).In_ok-heard in
    rw (fault.1, fault.2) (λ habit design points vars instance text is.
    say_found_in_piece c.wanted.result.now (item_by c.in_ok-heard.heard.saying c.value.result.now) c.in_ok-heard.heard.used c.loop-used.used c.loop-used.body c.next_of.new.self c.loop-used.replay c.args.piece.now habit design points vars instance text _ (some at) (steps at c.value.result.now c.value.ensures) c.wanted.ensures
    c.in_err-say.ensures.fault (c.loop-used.invariant.scores habit design points vars instance text is))

pub overflow_add-used : goal.overflow_add-used
overflow_add-used c =
    let at = (goal.at.overflow_add-used c).In_ok-heard in
    let reads = reading_step c.wanted.result.now (item_by c.in_ok-heard.heard.saying c.value.result.now) c.in_ok-heard.heard.used c.loop-used.body c.next_of.new.self _ (some at) (steps at c.value.result.now c.value.ensures) (some_reading c.loop-used.body c.loop-used.replay c.loop-used.invariant.reads) in
    omega (arith, reads.2, length-drop c.loop-used.used c.args.piece.now, c.loop-used-test.true)

pub loop-used-smaller : goal.loop-used-smaller
loop-used-smaller c =
    let at = (goal.at.loop-used-smaller c).In_ok-heard in
    let reads = reading_step c.wanted.result.now (item_by c.in_ok-heard.heard.saying c.value.result.now) c.in_ok-heard.heard.used c.loop-used.body c.next_of.new.self _ (some at) (steps at c.value.result.now c.value.ensures) (some_reading c.loop-used.body c.loop-used.replay c.loop-used.invariant.reads) in
    omega (arith, reads.1, c.loop-used-test.true)

pub loop-used-preserved : goal.loop-used-preserved
loop-used-preserved c =
    let at = (goal.at.loop-used-preserved c).In_ok-heard in
    let made = steps at c.value.result.now c.value.ensures in
    let says = item_by c.in_ok-heard.heard.saying c.value.result.now in
    let reads = reading_step c.wanted.result.now says c.in_ok-heard.heard.used c.loop-used.body c.next_of.new.self _ (some at) made (some_reading c.loop-used.body c.loop-used.replay c.loop-used.invariant.reads) in
    record {
      within = omega (arith, reads.2, length-drop c.loop-used.used c.args.piece.now, c.loop-used-test.true);
      reads = scoring_some c.wanted.result.now says c.in_ok-heard.heard.used c.loop-used.body c.next_of.new.self c.loop-used.replay c.say.new.replay _ (some at) made c.wanted.ensures c.in_ok-say.ensures.ok c.loop-used.invariant.reads;
      scores = λ habit design points vars instance text is.
          scored_further c.wanted.result.now says c.in_ok-heard.heard.used c.loop-used.used c.loop-used.body c.next_of.new.self c.loop-used.replay c.say.new.replay c.args.piece.now habit design points vars instance text (some at) made c.wanted.ensures c.in_ok-say.ensures.ok
          (c.loop-used.invariant.scores habit design points vars instance text is);
    }

pub returns-clause-ok : goal.returns-clause-ok
returns-clause-ok c = λ habit design points vars instance text is. whole_piece _ _ habit design points vars instance text c.args.piece.now c.loop-used.used (omega (arith, c.loop-used-test.false)) (c.loop-used.invariant.scores habit design points vars instance text is)

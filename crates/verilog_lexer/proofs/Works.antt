-- Each turn leaves less work.
use Rattle.std.proofs.Common.{◌≡◌, ◌<◌, ◌≤◌, ◌+◌, ℕ, zero, suc, List, [], ◌∷◌, ◌++◌, length, drop, ap, ◌∙◌, arith, add-one, length-drop}
use Rattle.std.proofs.lemmas.List.Sums.{sum_by-cons}
use Rattle.std.specs.List.{slice_get}
use Rattle.std.specs.Option.{IfSome}
use Rattle.verilog_lexer.specs.Reading.{Reading, PassageText}
use Rattle.verilog_lexer.specs.Sources.{SourceText, total_length, AreWithinLimits}
use Rattle.verilog_lexer.specs.Stand.{Stand, text_turns, file_turns, work, advanced}

text_turns-push : (waiting : List PassageText) (passage : PassageText) → text_turns (waiting ++ passage ∷ []) ≡ text_turns waiting + (length passage.text + 1)
unfolding text_turns
text_turns-push [] passage = omega arith
text_turns-push (first ∷ others) passage = omega (arith, text_turns-push others passage)

pub work-advanced : (stand : Stand) (next : Reading) (bytes : ℕ) → 0 < length stand.passage.text → 0 < bytes → next.room ≡ stand.reading.room → work (record { waiting = stand.waiting; passage = advanced bytes stand.passage; reading = next }) < work stand
unfolding work
work-advanced stand next bytes some positive room = omega (arith, length-drop bytes stand.passage.text)

-- what is put in takes more of the room than its turns
pub work-entered : (stand new : Stand) (bytes : ℕ) → 0 < length stand.passage.text → 0 < bytes → new.waiting ≡ stand.waiting ++ advanced bytes stand.passage ∷ [] → new.reading.room + (length new.passage.text + 8) ≡ stand.reading.room → work new < work stand
unfolding work
work-entered stand new bytes some positive waits room =
    let more : text_turns new.waiting ≡ text_turns stand.waiting + (length (drop bytes stand.passage.text) + 1) = ap text_turns waits ∙ text_turns-push stand.waiting (advanced bytes stand.passage) in
    omega (arith, more, length-drop bytes stand.passage.text)

pub work-ended : (stand : Stand) (waiting : List PassageText) (outer : PassageText) (next : Reading) → stand.waiting ≡ waiting ++ outer ∷ [] → next.room ≡ stand.reading.room → work (record { waiting = waiting; passage = outer; reading = next }) < work stand
unfolding work
work-ended stand waiting outer next waits room =
    let more : text_turns stand.waiting ≡ text_turns waiting + (length outer.text + 1) = ap text_turns waits ∙ text_turns-push waiting outer in
    omega (arith, more)

-- the end of the last text is a turn too
pub work-last : (stand : Stand) (next : Reading) → next.room ≡ stand.reading.room → next.room < work stand
unfolding work
work-last stand next room = omega arith

pub work_some : (stand : Stand) → 0 < work stand
unfolding work
work_some stand = omega arith

-- where no text waits, what is left is a turn for each byte of the text, one for its end, and those of what may be put in
pub turns_alone : (stand : Stand) (spent before : ℕ) → stand.waiting ≡ [] → spent ≤ before + work stand → spent ≤ before + (length stand.passage.text + 1 + stand.reading.room)
unfolding text_turns work
turns_alone stand spent before none bound =
    let empty : text_turns stand.waiting ≡ 0 = ap text_turns none in
    omega (arith, empty, bound)

-- the turns of one file more
pub turns_go_on : (left : List SourceText) (place spent before room : ℕ) → place < length left → IfSome (slice_get left place) (λ source. spent ≤ before + (length source.bytes + 1 + room)) → spent + file_turns (drop (place + 1) left) ≤ before + (file_turns (drop place left) + room)
unfolding file_turns
turns_go_on [] place spent before room within bound = absurd (omega arith)
turns_go_on (source ∷ others) zero spent before room within bound =
    let here : spent ≤ before + (length source.bytes + 1 + room) = bound in
    omega (arith, here)
turns_go_on (source ∷ others) (suc place) spent before room within bound = rw (add-one (suc place)) (rw (add-one place) at (turns_go_on others place spent before room (omega arith) bound))

turns_total : (sources : List SourceText) → file_turns sources ≡ total_length sources + length sources
unfolding file_turns
turns_total [] = omega arith
turns_total (source ∷ others) =
    let more : total_length (source ∷ others) ≡ length source.bytes + total_length others = sum_by-cons (λ s. length s.bytes) source others in
    omega (arith, more, turns_total others)

-- the sources within their limits take few turns by themselves
pub turns_within : (sources : List SourceText) → AreWithinLimits sources → file_turns sources ≤ 67108864 + 256
turns_within sources within = omega (arith, within.count, within.bytes, turns_total sources)

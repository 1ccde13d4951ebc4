use Rattle.std.proofs.Common.{◌≡◌, false}
use Rattle.known_state.specs.Partly.{is_whole}
use Rattle.body_replay.specs.KnownBits.{copies_partly}
use Rattle.term_replay.proofs.repeated.copies.Given as goal

-- so many copies are there
abbrev pub invariant-loop-made : goal.invariant-loop-made
invariant-loop-made l = record {
  bits : l.all.bits ≡ copies_partly l.made l.value.bits;
  blame : is_whole l.all ≡ false → l.all.blame ≡ l.value.blame;
}

use Rattle.std.proofs.Common.{◌≡◌, ◌≤◌, ◌+◌, length, take, vec_capacity}
use Rattle.word_log.proofs.Keeping.{NamedSoFar}
use Rattle.word_log.proofs.kept.keep_named.Given as goal

-- the words of the places so far that the index may name are logged
abbrev pub invariant-loop-place : goal.invariant-loop-place
invariant-loop-place l =
    record {
      named : NamedSoFar l.stored l.memory l.index (take l.place-index l.places) l.fn.done.items l.done.items;
      few : length l.done.items ≤ length l.fn.done.items + l.place-index;
      capacity : vec_capacity l.done ≡ vec_capacity l.fn.done;
    }

use Rattle.std.proofs.Common.{◌≡◌, ◌+◌, ◌++◌, drop, length}
use Rattle.selfrun_files.proofs.block.Block.push_all.Given as goal

-- the bytes so far, and those that follow
abbrev pub invariant-loop-byte : goal.invariant-loop-byte
invariant-loop-byte l = record {
  bytes : l.self ++ drop l.byte-index l.bytes ≡ l.fn.self ++ l.bytes;
  room : length l.self ≡ length l.fn.self + l.byte-index;
}

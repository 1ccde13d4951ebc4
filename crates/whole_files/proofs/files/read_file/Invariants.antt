use Rattle.std.proofs.Common.{◌≡◌, ◌-◌, ◌+◌, ◌++◌, true, vec_len}
use Rattle.std.specs.Prelude.{IfSome, IsSomeAnd}
use Rattle.whole_files.specs.Effects.{OnlyReads}
use Rattle.whole_files.proofs.files.read_file.Given as goal

abbrev pub invariant-loop-bytes : goal.invariant-loop-bytes
invariant-loop-bytes g l = record {
  piece : vec_len l.piece ≡ 65536;
  reading : (g.H.Host.outside l.host).reading ≡ true;
  content : IfSome (g.H.Host.outside l.fn.host).files (λ files. IsSomeAnd (files l.name) (λ content. IsSomeAnd (g.H.Host.outside l.host).rest (λ rest. content ≡ l.bytes.items ++ rest)));
  effects : OnlyReads (g.H.Host.outside l.fn.host) (g.H.Host.outside l.host);
}

abbrev pub decreases-loop-bytes : goal.decreases-loop-bytes
decreases-loop-bytes g l = (l.most + 1) - vec_len l.bytes

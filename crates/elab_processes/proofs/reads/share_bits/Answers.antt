use Rattle.std.proofs.Common.{◌≡◌, ◌+◌, nat_lt, min, max, sym, ap, ◌∙◌, arith}
use Rattle.elab_processes.proofs.OverlapLemmas.{common_is}
use Rattle.elab_processes.proofs.reads.share_bits.Goals as goal

pub returns : goal.returns
returns c =
    let a = c.args.a.now in
    let b = c.args.b.now in
    let low : c.max-low.result ≡ max a.low b.low = omega arith in
    let end : c.min-end.result ≡ min (a.low + a.count) (b.low + b.count) = omega arith in
    ap (λ n. nat_lt n c.min-end.result) low ∙ ap (nat_lt (max a.low b.low)) end ∙ sym (common_is a.low a.count b.low b.count)

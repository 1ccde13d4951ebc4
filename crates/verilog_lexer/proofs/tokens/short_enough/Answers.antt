use Rattle.std.proofs.Common.{◌≤◌, length, arith, length-take}
use Rattle.verilog_lexer.proofs.Spots.{IsInRange-less}
use Rattle.verilog_lexer.proofs.tokens.short_enough.Goals as goal

pub after_all-last-requires : goal.after_all-last-requires
after_all-last-requires c =
    let fewer : length c.front.result.now ≤ length c.args.text.now = rw c.front.ensures (omega (arith, length-take 255 c.args.text.now)) in
    IsInRange-less c.args.spot (length c.front.result.now) (length c.args.text.now) c.requires fewer

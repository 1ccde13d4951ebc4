-- Levels from the tightest on.
use Rattle.std.proofs.Common.{◌-◌, ◌<◌, ◌≤◌, arith}
use Rattle.verilog_grammar.specs.Language.{rank, looser}
use Rattle.verilog_grammar.specs.declared.level.Level.{Level}
use Rattle.verilog_grammar.specs.declared.level.Level.TheVariants as level

pub loosest : (b : Level) → rank b ≤ 10
loosest level.Unary = omega arith
loosest level.Product = omega arith
loosest level.Sum = omega arith
loosest level.Shift = omega arith
loosest level.Relation = omega arith
loosest level.Equality = omega arith
loosest level.BitwiseAnd = omega arith
loosest level.BitwiseXor = omega arith
loosest level.BitwiseOr = omega arith
loosest level.LogicalAnd = omega arith
loosest level.LogicalOr = omega arith

-- a level that is tighter than another one comes nearer to it
pub nearer : (a b : Level) → rank a < rank b → rank b - rank (looser a) < rank b - rank a
nearer level.Unary b h = omega arith
nearer level.Product b h = omega arith
nearer level.Sum b h = omega arith
nearer level.Shift b h = omega arith
nearer level.Relation b h = omega arith
nearer level.Equality b h = omega arith
nearer level.BitwiseAnd b h = omega arith
nearer level.BitwiseXor b h = omega arith
nearer level.BitwiseOr b h = omega arith
nearer level.LogicalAnd b h = omega arith
nearer level.LogicalOr b h = absurd (omega (arith, loosest b))

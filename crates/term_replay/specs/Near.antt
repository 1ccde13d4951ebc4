-- Whole numbers that are cut where they are far from 0.
use Rattle.std.specs.Prelude.{ℕ, min, ℤ, pos, negsuc, Option, Some, None}

-- the bound: 2 to the power 40
abbrev pub far : ℕ
far = 1099511627776

-- the number, cut to the bound
abbrev pub near : ℤ → ℤ
near (pos n) = pos (min n far)
near (negsuc n) = negsuc (min n far)

-- the same, if there is one
abbrev pub near_option : Option ℤ → Option ℤ
near_option None = None
near_option (Some z) = Some (near z)

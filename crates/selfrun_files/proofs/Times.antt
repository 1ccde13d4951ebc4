-- How many times the samples have.
use Rattle.std.proofs.Common.{◌≡◌, ◌+◌, ◌*◌, ℕ, zero, suc, arith, refl, length, map}
use Rattle.selfrun_files.specs.Samples.{after, samples}
use Rattle.selfrun_files.specs.declared.moment.Moment.{Moment}

pub times_count : (n : ℕ) (m : Moment) → length (map (λ s. s.time) (samples n m)) ≡ 2 * n + 1
times_count zero m = refl
times_count (suc n) m = omega (arith, times_count n (after m))

-- Bytes that move from what is left into a piece, and samples from the first on.
use Rattle.std.proofs.Common.{◌≡◌, ◌∙◌, ◌+◌, ◌-◌, ℕ, zero, suc, List, [], ◌∷◌, ◌++◌, ap, refl, append_assoc, arith, length, take, drop}
use Rattle.std.proofs.lemmas.Grind.{common_steps}
use Rattle.std.proofs.lemmas.List.{take_at, take-append-drop, drop-drop}
use Rattle.std.specs.Prelude.{flat_map}
use Rattle.selfrun_files.specs.Dump.{samples_from}
use Rattle.selfrun_files.specs.Samples.{after, high, low, samples}
use Rattle.selfrun_files.specs.Text.{sample_text}
use Rattle.selfrun_files.specs.declared.dump.Next.{Next}
use Rattle.selfrun_files.specs.declared.dump.Next.TheVariants.{Low}
use Rattle.selfrun_files.specs.declared.moment.Moment.{Moment}

-- the bytes that were moved and those that are left are all that were left
pub moved : (count at : ℕ) (all piece rest : List ℕ) → piece ≡ take count (drop at all) → length piece ≡ count → drop at all ≡ take count (piece ++ rest) ++ drop (at + count) all
moved count at all piece rest is has = rw (take_at, is, ← drop-drop, take-append-drop)

-- and so before what is to come
pub moved_before : (count at : ℕ) (all piece rest come : List ℕ) → piece ≡ take count (drop at all) → length piece ≡ count → drop at all ++ come ≡ take count (piece ++ rest) ++ (drop (at + count) all ++ come)
moved_before count at all piece rest come is has =
    ap (λ left. left ++ come) (moved count at all piece rest is has) ∙ append_assoc (take count (piece ++ rest)) (drop (at + count) all) come

-- a step is left, so its two samples come first
pub samples_step : (left : ℕ) (m : Moment) → (left ≡ 0 → ⊥) → samples left m ≡ low m ∷ high m ∷ samples (left - 1) (after m)
samples_step zero m some = absurd (some refl)
samples_step (suc n) m some =
    let same : n ≡ suc n - 1 = omega arith in
    ap (λ k. low m ∷ high m ∷ samples k (after m)) same

-- once the lines of its beginning were made, what comes is its end and the steps after it
pub low_made : (left at : ℕ) (m : Moment) (old new : List ℕ) (next : Next) → next ≡ Low → (left ≡ 0 → ⊥) → at ≡ length old → new ≡ sample_text (low m)
    → new ++ flat_map sample_text (high m ∷ samples (left - 1) (after m)) ≡ drop at old ++ flat_map sample_text (samples_from next left m)
low_made left at m old new next is some read made =
    let none : drop at old ≡ [] = grind (arith, common_steps, read) in
    rw (is, none, samples_step left m some, made) refl

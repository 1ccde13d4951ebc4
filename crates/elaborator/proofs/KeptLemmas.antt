-- What a walk goes by says what it keeps to, and that nothing was reported before where nothing is reported later.
use Rattle.std.proofs.Common.{◌≡◌, ℕ, ◌+◌, [], replicate, refl, sym, subst, arith}
use Rattle.std.proofs.lemmas.List.{length-replicate}
use Rattle.design_model.specs.Design.{no_instance, no_memory, no_process, no_signal}
use Rattle.flat_design.specs.Instances.{Sofar}
use Rattle.elaborator.specs.Kept.{IsKept}
use Rattle.elaborator.specs.Walk.{GoesBy, IsAmong, IsAt, IsClean, WalksBy}
use Rattle.elaborator.specs.declared.walk.Numbers.{Numbers}
use Rattle.elaborator.specs.declared.walk.Walk.{Walk}
use Rattle.elaborator.proofs.WalkLemmas.{all_clean}

-- a part of a flat design with as many instances, signals, memories and processes as were counted
some_sofar : Walk → Sofar
some_sofar w =
    record {
      design =
          record {
            top = [];
            instances = replicate w.tally.counts.instances no_instance;
            signals = replicate w.tally.counts.signals no_signal;
            memories = replicate w.memories no_memory;
            processes = replicate w.tally.counts.processes no_process;
            constants = [];
            aliases = [];
          };
      met = [];
    }

-- a walk that keeps to it has come to some part of a flat design, which is not one that it builds
kept_at : (base : ℕ) (w : Walk) → IsKept w → IsAt w.tally base (base + 1) w (some_sofar w)
unfolding some_sofar
kept_at base w kept =
    record {
      stands =
          record {
            met = refl;
            told = kept.told;
            numbers = λ open'.
                record {
                  signals = sym (length-replicate w.tally.counts.signals no_signal);
                  processes = sym (length-replicate w.tally.counts.processes no_process);
                  instances = sym (length-replicate w.tally.counts.instances no_instance);
                  memories = sym (length-replicate w.memories no_memory);
                  words = kept.few open';
                };
          };
      built = λ d building. let same : base + 1 ≡ base = building.same in absurd (omega arith);
    }

kept_among : (base : ℕ) (w : Walk) (numbers : Numbers) → IsKept w → IsAmong w.tally base (base + 1) w numbers (some_sofar w) 0 0 0
kept_among base w numbers kept = record { at = kept_at base w kept; numbered = λ d building. let same : base + 1 ≡ base = building.same in absurd (omega arith) }

-- what holds of a later walk by what it goes by
pub record Keeps (w later : Walk) : Type 0 where
  pub kept : IsKept later
  pub clean : IsClean later.tally → IsClean w.tally

pub goes_kept : {base : ℕ} {w later : Walk} {numbers others : Numbers} {f : ℕ → ℕ → ℕ → ℕ → Sofar → Sofar} (lines nodes : ℕ) → GoesBy base w numbers later others f lines nodes → IsKept w → Keeps w later
goes_kept {base = base} {w = w} {numbers = numbers} {f = f} lines nodes goes kept =
    let end = goes w.tally (base + 1) (some_sofar w) 0 0 0 (kept_among base w numbers kept) in
    record {
      kept = record { told = end.0.at.stands.told; few = λ open'. (end.0.at.stands.numbers open').words };
      clean = λ clean. (all_clean w.tally (f (base + 1) 0 0 0 (some_sofar w)).met (subst IsClean end.0.at.stands.met clean)).0;
    }

pub walks_kept : {base : ℕ} {w later : Walk} {f : ℕ → Sofar → Sofar} → WalksBy base w later f → IsKept w → Keeps w later
walks_kept {base = base} {w = w} {f = f} walks kept =
    let end = walks w.tally (base + 1) (some_sofar w) (kept_at base w kept) in
    record {
      kept = record { told = end.0.stands.told; few = λ open'. (end.0.stands.numbers open').words };
      clean = λ clean. (all_clean w.tally (f (base + 1) (some_sofar w)).met (subst IsClean end.0.stands.met clean)).0;
    }

-- nothing happened
pub keeps_still : (w : Walk) → IsKept w → Keeps w w
keeps_still w kept = record { kept = kept; clean = λ clean. clean }

pub keeps_twice : {w next later : Walk} → Keeps w next → Keeps next later → Keeps w later
keeps_twice first second = record { kept = second.kept; clean = λ clean. first.clean (second.clean clean) }

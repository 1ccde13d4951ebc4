-- What is known of each dump that goes on, in the words of the replay.
use Rattle.std.proofs.Common.{◌≡◌, ℕ, ◌<◌, ◌≤◌, true, false, is_none, List, [], ◌∷◌, ◌++◌, length, Option, None, Some, refl, sym, ap, subst, ◌∙◌, arith}
use Rattle.std.specs.Prelude.{IfSome, IsSome}
use Rattle.std.proofs.lemmas.Bool.{false≢true}
use Rattle.four_state.specs.Vector.{Vector}
use Rattle.design_model.specs.Design.{Design as Tree}
use Rattle.hidden_times.specs.Hidden.{IsAnyDumpOf}
use Rattle.design_model.specs.View.{design_view}
use Rattle.design_model.specs.declared.design.Design.{Design}
use Rattle.vcd_reader.specs.Dump.{steps_of, stretches_of}
use Rattle.vcd_reader.specs.Times.{Rises, last_time}
use Rattle.vcd_reader.specs.declared.entry.Entry.{Entry}
use Rattle.vcd_reader.specs.declared.entry.Entry.TheVariants.{Time}
use Rattle.vcd_reader.specs.declared.vars.Var.{Var}
use Rattle.code_values.specs.Values.{IsFirstMissing, lacks_code, lacks_value, value_of}
use Rattle.entry_laws.specs.Entries.{AreEntries}
use Rattle.signal_binding.specs.Binding.{HasInstance, codes_of}
use Rattle.shown_dumps.specs.Bound.{HasFirstValue, HasNoBaseline, first_value}
use Rattle.shown_dumps.specs.Laws.{dump_with}
use Rattle.shown_dumps.specs.Ongoing.{AreGiven, bits_of}
use Rattle.shown_dumps.specs.Said.{open_stretch, times_in, value_after}
use Rattle.shown_dumps.specs.Shown.{code_at, dump_of}
use Rattle.shown_dumps.proofs.Dumps.{codes_long, is_dump}
use Rattle.shown_dumps.proofs.Ongoing.{times_time, values_given}
use Rattle.shown_dumps.proofs.Split.{on_of_times, open_going, open_said}
use Rattle.shown_dumps.proofs.Values.{first_until}
use Rattle.replay_core.specs.step_values.Dumped.{AreDumped}
use Rattle.dump_replay.proofs.Taken.{steps_long}

-- the test shows which code has no value
some_value : (values : List (Option Vector)) (code : ℕ) → is_none (value_of values code) ≡ false → IsSome (value_of values code)
some_value values code e = go (value_of values code) e
  where
    go : (o : Option Vector) → is_none o ≡ false → IsSome o
    go None f = absurd (false≢true (sym f))
    go (Some v) f = refl

-- each code that a signal has has a value
pub some_values : (codes : List (Option ℕ)) (values : List (Option Vector)) → ((s : ℕ) → lacks_value values codes s ≡ false) → (s code : ℕ) → code_at codes s ≡ Some code → IsSome (value_of values code)
some_values codes values have s code bound = some_value values code (sym (ap (lacks_code values) bound) ∙ have s)

-- it is a dump of the design
pub of_dump : (design : Design) (vars : List Var) (instance : List ℕ) (entries : List Entry) → Rises None entries → (d : Tree) → d ≡ design_view design → IsAnyDumpOf d (dump_of (codes_of design vars instance) (stretches_of entries))
of_dump design vars instance entries rises d is = subst (λ e. IsAnyDumpOf e (dump_of (codes_of design vars instance) (stretches_of entries))) (sym is) (is_dump design vars instance entries rises)

module _ (design : Design) (vars : List Var) (instance : List ℕ) (entries more : List Entry) (next : ℕ) (rises : Rises None (entries ++ Time next ∷ more)) where
  abbrev codes : List (Option ℕ)
  codes = codes_of design vars instance

  -- the values that were given last are its values
  pub given_at : (d : Tree) (own : List (Option ℕ)) (values : List (Option Vector)) (last : ℕ) → d ≡ design_view design → own ≡ codes → last < next → AreEntries vars entries → last_time None (open_stretch entries) ≡ Some last → AreGiven codes (value_of values) entries
      → ((s : ℕ) → lacks_value values own s ≡ false) → AreDumped d own values ((dump_with codes entries next more).values last)
  given_at d own values last is same before are is_last given have =
      let some : (s : ℕ) → lacks_value values codes s ≡ false = subst (λ cs. (s : ℕ) → lacks_value values cs s ≡ false) same have in
      subst (λ cs. AreDumped d cs values ((dump_with codes entries next more).values last)) (sym same)
      (subst (λ e. AreDumped e codes values ((dump_with codes entries next more).values last)) (sym is)
      (values_given design vars instance (value_of values) entries more last next last are rises is_last (omega arith) before given (some_values codes values some)))

-- ---- a signal without a first value

none_bits : (o p : Option Vector) → bits_of o ≡ bits_of p → is_none o ≡ true → p ≡ None
none_bits None None e n = refl
none_bits None (Some w) e n = absurd cc
none_bits (Some v) p e n = absurd (false≢true n)

some_bits : (o p : Option Vector) → bits_of o ≡ bits_of p → is_none o ≡ false → IsSome p
some_bits None p e n = absurd (false≢true (sym n))
some_bits (Some v) None e n = absurd cc
some_bits (Some v) (Some w) e n = refl

pub no_baseline : (design : Design) (vars : List Var) (instance : List ℕ) (entries : List Entry) (last next : ℕ) (own : List (Option ℕ)) (values : List (Option Vector)) (s : ℕ) → own ≡ codes_of design vars instance → HasInstance vars instance
    → times_in (open_stretch entries) ≡ last ∷ [] → AreGiven (codes_of design vars instance) (value_of values) entries → IsFirstMissing values own s → HasNoBaseline design vars instance (entries ++ Time next ∷ []) s
no_baseline design vars instance entries last next own values s same there one given is = go (code_at codes s) refl missing.missing
  where
    codes : List (Option ℕ)
    codes = codes_of design vars instance

    missing : IsFirstMissing values (codes_of design vars instance) s
    missing = subst (λ cs. IsFirstMissing values cs s) same is

    said : open_stretch (entries ++ Time next ∷ []) ≡ open_stretch entries ++ Time next ∷ []
    said = open_said entries (Time next ∷ []) (on_of_times entries last [] one) refl

    firsts : (code : ℕ) → first_value (steps_of (open_stretch (entries ++ Time next ∷ []))) code ≡ value_after (open_stretch entries) code
    firsts code = ap (λ es. first_value (steps_of es) code) said ∙ first_until (open_stretch entries) [] last next code (open_going entries) one

    earlier : (k : ℕ) → lacks_value values (codes_of design vars instance) k ≡ false → HasFirstValue (codes_of design vars instance) (steps_of (open_stretch (entries ++ Time next ∷ []))) k
    earlier k e = by_code (code_at (codes_of design vars instance) k) refl e
      where
        by_code : (o : Option ℕ) → code_at (codes_of design vars instance) k ≡ o → lacks_code values o ≡ false → IfSome o (λ code. IsSome (first_value (steps_of (open_stretch (entries ++ Time next ∷ []))) code))
        by_code None f e = tt
        by_code (Some code) f e = subst IsSome (sym (firsts code)) (some_bits (value_of values code) (value_after (open_stretch entries) code) (given k code f) e)

    two : 2 ≤ length (steps_of (open_stretch (entries ++ Time next ∷ [])))
    two = omega (arith, steps_long (open_stretch (entries ++ Time next ∷ [])), ap length (times_time entries next (on_of_times entries last [] one) ∙ ap (λ ts. ts ++ next ∷ []) one))

    go : (o : Option ℕ) → code_at (codes_of design vars instance) s ≡ o → lacks_code values o ≡ true → HasNoBaseline design vars instance (entries ++ Time next ∷ []) s
    go None f e = absurd (false≢true e)
    go (Some code) f e = record {
      there = there;
      second = two;
      listed = omega (arith, missing.listed, codes_long design vars instance);
      earlier = λ k l. earlier k (missing.earlier k l);
      code = code;
      bound = f;
      none = firsts code ∙ none_bits (value_of values code) (value_after (open_stretch entries) code) (given s code f) e;
    }

-- A walk goes from step to step.
use Rattle.std.proofs.Common.{◌≡◌, ℕ, ◌+◌, true, false, filter, List, Some, refl, sym, ap, ◌∙◌, subst, length, arith}
use Rattle.std.specs.Prelude.{is_some}
use Rattle.std.proofs.lemmas.Bool.{false≢true}
use Rattle.design_model.specs.View.{design_view}
use Rattle.design_model.specs.declared.design.Design.{Design}
use Rattle.flat_design.specs.Bodies.{Met, met_faults}
use Rattle.flat_design.specs.Fault.{Fault}
use Rattle.flat_design.specs.Instances.{Instantiation, Sofar, add_process, context, declared, is_memory, meet, opened, opening_met, scope_of}
use Rattle.flat_design.specs.Processes.{Made}
use Rattle.flat_laws.proofs.Continues.{Continues}
use Rattle.flat_laws.proofs.Freedom.{IsFree}
use Rattle.flat_laws.proofs.LawfulCounts.{AddsProcess, inner_faults}
use Rattle.elab_scope.specs.Tally.{Tally, after_all}
use Rattle.elaborator.specs.Walk.{Adds, GoesBy, IsAmong, IsAt, IsBuilding, IsClean, Opens, Remains, StandsFor, WalksBy, opened_design, with_process}
use Rattle.elaborator.specs.declared.walk.Numbers.{Numbers}
use Rattle.elaborator.specs.declared.walk.Walk.{Walk}
use Rattle.elaborator.proofs.WalkLemmas.{all_clean, stands_ended, stands_met, stands_opened, stands_process}

-- where nothing was reported in the end, nothing was before
pub was_clean : (w later : Walk) (ms : List Met) → later.tally ≡ after_all w.tally ms → IsClean later.tally → IsClean w.tally × IsFree ms
was_clean w later ms met clean = all_clean w.tally ms (subst IsClean met clean)

-- a process that is added, by the numbers of its memories, instance, process, line points and nodes
module _ {base : ℕ} {w later : Walk} {numbers others : Numbers} (lines nodes : ℕ) (made : ℕ → ℕ → ℕ → ℕ → ℕ → Made) where
  pub process_goes :
      (met_is : (b i k l n : ℕ) → (made b i k l n).met ≡ (made 0 0 k 0 0).met) →
      (process_is : (b i k l n : ℕ) → (made b i k l n).process ≡ (made b i 0 l n).process) →
      (adds : (b i k l n : ℕ) → AddsProcess (made b i k l n)) →
      Adds w later (made 0 0 w.tally.counts.processes 0 0).met (made base numbers.instance 0 numbers.line numbers.node).process →
      ((d : Design) → later.draft ≡ Some d → IsClean later.tally → (others.instance ≡ numbers.instance) × (others.line ≡ numbers.line + lines) × (others.node ≡ numbers.node + nodes)) →
      GoesBy base w numbers later others (λ b i l n st. add_process (made b i (length st.design.processes) l n) st) lines nodes
  process_goes met_is process_is adds added counted before b st i l n among = (
    record {
      at =
          record {
            stands = stands;
            built = λ d building.
                let o = added.draft d building.draft building.clean in
                let earlier : IsBuilding base b w o.0 = record { same = building.same; draft = o.1; clean = (was_clean w later (made 0 0 w.tally.counts.processes 0 0).met added.met building.clean).0 } in
                let is = among.numbered o.0 earlier in
                let k : ℕ = length st.design.processes in
                let process : (made base numbers.instance 0 numbers.line numbers.node).process ≡ (made b i k l n).process =
                ap (λ j. (made base j 0 numbers.line numbers.node).process) is.0
                ∙ ap (λ m. (made base i 0 m numbers.node).process) is.1
                ∙ ap (λ m. (made base i 0 l m).process) is.2
                ∙ ap (λ m. (made m i 0 l n).process) (sym building.same)
                ∙ sym (process_is b i k l n) in
                o.2 ∙ ap (with_process _) (among.at.built o.0 earlier) ∙ ap (λ p. with_process p st.design) process;
          };
      numbered = λ d building.
          let o = added.draft d building.draft building.clean in
          let earlier : IsBuilding base b w o.0 = record { same = building.same; draft = o.1; clean = (was_clean w later (made 0 0 w.tally.counts.processes 0 0).met added.met building.clean).0 } in
          let is = among.numbered o.0 earlier in
          let c = counted d building.draft building.clean in
          (c.0 ∙ is.0, c.1 ∙ ap (λ m. m + lines) is.1, c.2 ∙ ap (λ m. m + nodes) is.2);
    },
    record { drafted = added.drafted; was = λ d some clean. let o = added.draft d some clean in (o.0, o.1, (was_clean w later (made 0 0 w.tally.counts.processes 0 0).met added.met clean).0) },
  )
    where
      k : ℕ
      k = length st.design.processes

      moved : after_all w.tally (made b i w.tally.counts.processes l n).met ≡ later.tally
      moved = ap (after_all w.tally) (met_is b i w.tally.counts.processes l n) ∙ sym added.met

      stands : StandsFor before later.tally later.memories (add_process (made b i k l n) st)
      stands = subst (λ t. StandsFor before t later.memories (add_process (made b i k l n) st)) moved
          (subst (λ m. StandsFor before (after_all w.tally (made b i w.tally.counts.processes l n).met) m (add_process (made b i k l n) st)) (sym added.memories)
          (stands_process (λ j. made b i j l n) (λ j. adds b i j l n) among.at.stands))

-- what remains from one moment to the next, and to the one after that
pub remains_twice : {w next later : Walk} → Remains w next → Remains next later → Remains w later
remains_twice one two = record { drafted = two.drafted ∙ one.drafted; was = λ d some clean. let o = two.was d some clean in one.was o.0 o.1 o.2 }

-- a step that does nothing
pub still_goes : {base : ℕ} (w : Walk) (numbers : Numbers) → GoesBy base w numbers w numbers (λ b i l n st. st) 0 0
still_goes w numbers before b st i l n among =
    (record { at = among.at; numbered = λ d building. let is = among.numbered d building in (is.0, omega (arith, is.1), omega (arith, is.2)) }, record { drafted = refl; was = λ d some clean. (d, some, clean) })

-- one step after the other
pub goes_twice : {base : ℕ} {w next later : Walk} {numbers between others : Numbers} {f g : ℕ → ℕ → ℕ → ℕ → Sofar → Sofar} (lines more_lines nodes more_nodes : ℕ) →
    GoesBy base w numbers next between f lines nodes → GoesBy base next between later others g more_lines more_nodes →
    GoesBy base w numbers later others (λ b i l n st. g b i (l + lines) (n + nodes) (f b i l n st)) (lines + more_lines) (nodes + more_nodes)
goes_twice {f = f} lines more_lines nodes more_nodes first second before b st i l n among =
    let one = first before b st i l n among in
    let two = second before b (f b i l n st) i (l + lines) (n + nodes) one.0 in (
      record { at = two.0.at; numbered = λ d building. let is = two.0.numbered d building in (is.0, omega (arith, is.1), omega (arith, is.2)) },
      remains_twice one.1 two.1,
    )

-- faults that are reported, where no design is built any more
pub faults_walk : {base : ℕ} {w later : Walk} (fs : List Fault) → later.tally ≡ after_all w.tally (met_faults fs) → later.memories ≡ w.memories → later.draft ≡ w.draft → WalksBy base w later (λ b st. meet (met_faults fs) st)
faults_walk {w = w} {later = later} fs met memories draft before b st at =
    let clean : IsClean later.tally → IsClean w.tally = λ c. (was_clean w later (met_faults fs) met c).0 in (
      record {
        stands = subst (λ t. StandsFor before t later.memories (meet (met_faults fs) st)) (sym met) (subst (λ m. StandsFor before (after_all w.tally (met_faults fs)) m (meet (met_faults fs) st)) (sym memories) (stands_met (met_faults fs) (inner_faults fs) at.stands));
        built = λ d building. at.built d (record { same = building.same; draft = sym draft ∙ building.draft; clean = clean building.clean });
      },
      record { drafted = ap is_some draft; was = λ d some c. (d, sym draft ∙ some, clean c) },
    )

-- after a limit that is passed
pub ended_walks : {base : ℕ} {w later : Walk} (f : ℕ → Sofar → Sofar) → later.tally ≡ w.tally → later.draft ≡ w.draft → w.tally.ended ≡ true → ((b : ℕ) (st : Sofar) → Continues st (f b st)) → WalksBy base w later f
ended_walks {w = w} {later = later} f same draft ended continues before b st at =
    let never : IsClean later.tally → ⊥ = λ c. false≢true (sym c.open' ∙ ap (λ t. t.ended) same ∙ ended) in (
      record {
        stands = subst (λ t. StandsFor before t later.memories (f b st)) (sym same) (stands_ended at.stands ended (continues b st));
        built = λ d building. absurd (never building.clean);
      },
      record { drafted = ap is_some draft; was = λ d some c. absurd (never c) },
    )

-- a walk below an instance keeps the numbers in it
pub walks_go : {base : ℕ} {w later : Walk} {numbers : Numbers} {f : ℕ → Sofar → Sofar} → WalksBy base w later f → GoesBy base w numbers later numbers (λ b i l n st. f b st) 0 0
walks_go walks before b st i l n among =
    let end = walks before b st among.at in (
      record {
        at = end.0;
        numbered = λ d building.
            let o = end.1.was d building.draft building.clean in
            let is = among.numbered o.0 (record { same = building.same; draft = o.1; clean = o.2 }) in
            (is.0, omega (arith, is.1), omega (arith, is.2));
      },
      end.1,
    )

-- one walk after the other
pub walks_twice : {base : ℕ} {w next later : Walk} {f g : ℕ → Sofar → Sofar} → WalksBy base w next f → WalksBy base next later g → WalksBy base w later (λ b st. g b (f b st))
walks_twice {f = f} first second before b st at =
    let one = first before b st at in
    let two = second before b (f b st) one.0 in
    (two.0, remains_twice one.1 two.1)

-- an instance that is opened, where no limit is passed
pub opened_among : {before : Tally} {base b : ℕ} {w later : Walk} {numbers : Numbers} {st : Sofar} (i : Instantiation) → Opens w later numbers i → later.tally.ended ≡ false → IsAt before base b w st →
    IsAmong before base b later numbers (opened i st) (length st.design.instances) 1 1
opened_among {before = before} {base = base} {b = b} {w = w} {later = later} {numbers = numbers} {st = st} i opens open' at =
    record {
      at =
          record {
            stands = subst (λ t. StandsFor before t later.memories (opened i st)) (sym opens.met) (subst (λ m. StandsFor before (after_all w.tally (opening_met i)) m (opened i st)) (sym (opens.memories open')) (stands_opened i at.stands));
            built = λ d building. (earlier d building).2 (numbered d building ∙ ap (λ x. length x.instances) (sym (at.built (earlier d building).0 (was d building)))) ∙ ap (opened_design i) (at.built (earlier d building).0 (was d building));
          };
      numbered = λ d building. (opens.instance open' ∙ numbered d building, opens.line, opens.node);
    }
  where
    earlier : (d : Design) → IsBuilding base b later d → (o : Design) × (w.draft ≡ Some o) × (w.tally.counts.instances ≡ length (design_view o).instances → design_view d ≡ opened_design i (design_view o))
    earlier d building = opens.draft d building.draft building.clean

    was : (d : Design) → (building : IsBuilding base b later d) → IsBuilding base b w (earlier d building).0
    was d building = record { same = building.same; draft = (earlier d building).1; clean = (was_clean w later (opening_met i) opens.met building.clean).0 }

    numbered : (d : Design) → IsBuilding base b later d → w.tally.counts.instances ≡ length st.design.instances
    numbered d building = (at.stands.numbers (was d building).clean.open').instances

-- where one is passed, whatever comes below
pub opened_ends : {base : ℕ} {w later : Walk} {numbers : Numbers} (i : Instantiation) (f : ℕ → Sofar → Sofar) → Opens w later numbers i → later.tally.ended ≡ true → ((b : ℕ) (st : Sofar) → Continues (opened i st) (f b st)) → WalksBy base w later f
opened_ends {w = w} {later = later} i f opens ended continues before b st at =
    let there : StandsFor before (after_all w.tally (opening_met i)) (w.memories + length (filter is_memory (declared i.overrides i.of_module))) (opened i st) = stands_opened i at.stands in
    let here : StandsFor before later.tally (w.memories + length (filter is_memory (declared i.overrides i.of_module))) (opened i st) = subst (λ t. StandsFor before t (w.memories + length (filter is_memory (declared i.overrides i.of_module))) (opened i st)) (sym opens.met) there in
    let never : IsClean later.tally → ⊥ = λ c. false≢true (sym c.open' ∙ ended) in (
      record { stands = stands_ended here ended (continues b st); built = λ d building. absurd (never building.clean) },
      record { drafted = opens.drafted; was = λ d some c. absurd (never c) },
    )

-- the numbers of the signals and memories of an instance are those that its scope begins with
pub scope_numbers : {before : Tally} {base b : ℕ} {w : Walk} {st : Sofar} (i : Instantiation) → IsAt before base b w st → w.tally.ended ≡ false → scope_of i w.tally.counts.signals w.memories ≡ (context b i st).scope
scope_numbers {w = w} {st = st} i at open' = let n = at.stands.numbers open' in ap (λ k. scope_of i k w.memories) n.signals ∙ ap (λ k. scope_of i (length st.design.signals) k) n.memories

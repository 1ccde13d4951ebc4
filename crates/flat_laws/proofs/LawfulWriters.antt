-- No two processes that are no assignments write one signal or memory, and a process without edges writes signals alone.
use Rattle.std.proofs.Common.{◌≡◌, ◌⊎◌, inl, inr, ℕ, zero, suc, ◌+◌, ◌<◌, ◌≤◌, ◌==◌, Bool, true, false, not, ◌&&◌, if◌then◌else◌, List, [], ◌∷◌, ◌++◌, Ok, refl, sym, ap, ◌∙◌, subst, length, map, arith, length-append, slice_index_or}
use Rattle.std.specs.List.{flat_map}
use Rattle.std.proofs.lemmas.Bool.{false≢true, eqb-true, eq-eqb, cases_lt}
use Rattle.std.proofs.lemmas.List.{get_or_append_left}
use Rattle.std.proofs.Math.Seq.{get_or-append_seam}
use Rattle.design_model.specs.Design.{Design, In, is_assign, IsAssign, IsComb, body, body_at, process_at, no_process}
use Rattle.design_model.specs.Mentions.{body_assigns, target_names}
use Rattle.design_model.specs.Tree.{Process, Stmt, assign, comb, clocked}
use Rattle.design_model.specs.declared.design.Memory.{Memory}
use Rattle.design_model.specs.declared.design.Signal.{Signal}
use Rattle.verilog_tree.specs.declared.item.Named.{Named}
use Rattle.verilog_tree.specs.declared.item.When.{When}
use Rattle.verilog_tree.specs.declared.item.When.TheVariants.{Star, Names, Edges}
use Rattle.verilog_tree.specs.Tree.{Expr, Module, Statement, Item, InstanceItem, One}
use Rattle.flat_design.specs.Bodies.{Met, met_writing, met_writings, met_faults, met_process, met, statement}
use Rattle.std.specs.Prelude.{bytes_eq}
use Rattle.flat_design.specs.Fault.{Fault, none}
use Rattle.flat_design.specs.declared.fault.ElabKind.{ElabKind}
use Rattle.flat_design.specs.declared.fault.ElabKind.TheVariants.{TwoDrivers}
use Rattle.flat_design.specs.Faults.{answer}
use Rattle.flat_design.specs.Flat.{elaborated}
use Rattle.flat_design.specs.Identifiers.{base_name}
use Rattle.flat_design.specs.Instances.{opened, Instantiation, Sofar, context, add_process}
use Rattle.flat_design.specs.Expressions.{faults}
use Rattle.flat_design.specs.Processes.{self_faults, whole_writing, Made, process_of, mode_of, when_faults, mixed_faults, incomplete_faults, writings, writing_met, conflicts, fault_at_first, have_common, are_two_drivers, later_of, always}
use Rattle.flat_design.specs.Scope.{Scope, look_up, names_faulty, thing_of, is_same_thing}
use Rattle.flat_design.specs.declared.entry.SignalEntry.{SignalEntry}
use Rattle.flat_design.specs.declared.entry.Thing.{Thing}
use Rattle.flat_design.specs.declared.entry.Thing.TheVariants.{Signal as the_signal, Memory as the_memory}
use Rattle.flat_design.specs.Targets.{target, leaves, Writing, writing_of, target_faults, memory_target_faults}
use Rattle.flat_design.specs.declared.entry.Mode.TheVariants.{Continuous}
use Rattle.flat_design.specs.declared.entry.Mode.{Mode}
use Rattle.flat_laws.specs.Tokens.{AreOfTokens}
use Rattle.flat_laws.proofs.Continues.{Continues, continues_opened, continues_twice}
use Rattle.flat_laws.proofs.Freedom.{free_faults, IsFree, IsSound, answered_sound, free_parts, both_empty}
use Rattle.flat_laws.proofs.LawfulBase.{base_is}
use Rattle.flat_laws.proofs.LawfulEvents.{known_below, known_top, each_empty}
use Rattle.flat_laws.proofs.LawfulLimits.{base_of, answered_keeps, answered_design}
use Rattle.flat_laws.proofs.LawfulNames.{in_map_back}
use Rattle.flat_laws.proofs.LawfulPaths.{found_in}
use Rattle.flat_laws.proofs.LawfulScope.{HasAliases, EntryMatches, scope_matches}
use Rattle.flat_laws.proofs.LawfulSets.{found_set}
use Rattle.flat_laws.proofs.LawfulSound.{IsSoundScope, names_sound}
use Rattle.flat_laws.proofs.LawfulTargets.{IsGoodScope, good_scope, good_turn, IsLeaf, target_set}
use Rattle.flat_laws.proofs.Members.{in_left, in_right, in_flat_map_back}
use Rattle.flat_laws.proofs.Steps.{Steps, Here, IsBelow, inner_of, made_assign, made_input, made_output}

-- process number p writes y by this writing
pub record IsWritten (base : ℕ) (xs : List Signal) (ms : List Met) (p y : ℕ) (x : Process) : Type 0 where
  pub writing : Writing
  pub writing_in : In (met_writing writing) ms
  pub process : writing.process ≡ p
  pub driver : writing.continuous ≡ is_assign x
  pub thing : ((writing.thing ≡ the_signal y) × (y < length xs)) ⊎ ((m : ℕ) × (writing.thing ≡ the_memory m) × (base + m ≡ y) × (IsComb x → ⊥))

-- each process
pub record AreWritten (base : ℕ) (st : Sofar) : Type 0 where
  pub written : (p y : ℕ) → p < length st.design.processes → body_assigns y (body (slice_index_or st.design.processes p no_process)) ≡ true →
      IsWritten base st.design.signals st.met p y (slice_index_or st.design.processes p no_process)

written_more : (base : ℕ) (xs zs : List Signal) (ms ns : List Met) (p y : ℕ) (x : Process) → IsWritten base xs ms p y x → IsWritten base (xs ++ zs) (ms ++ ns) p y x
written_more base xs zs ms ns p y x h = record {
  writing = h.writing;
  writing_in = in_left (met_writing h.writing) ms ns h.writing_in;
  process = h.process;
  driver = h.driver;
  thing = by_thing h.thing;
}
  where
    by_thing : ((h.writing.thing ≡ the_signal y) × (y < length xs)) ⊎ ((m : ℕ) × (h.writing.thing ≡ the_memory m) × (base + m ≡ y) × (IsComb x → ⊥)) → ((h.writing.thing ≡ the_signal y) × (y < length (xs ++ zs))) ⊎ ((m : ℕ) × (h.writing.thing ≡ the_memory m) × (base + m ≡ y) × (IsComb x → ⊥))
    by_thing (inl k) = let less : y < length xs = k.1 in inl (k.0, omega (arith, length-append xs zs))
    by_thing (inr k) = inr k

written_met : (base : ℕ) (xs : List Signal) (ms ns : List Met) (p y : ℕ) (x : Process) → IsWritten base xs ms p y x → IsWritten base xs (ms ++ ns) p y x
written_met base xs ms ns p y x h = record { writing = h.writing; writing_in = in_left (met_writing h.writing) ms ns h.writing_in; process = h.process; driver = h.driver; thing = h.thing }

-- a process more
written_process : (base : ℕ) (m : Made) (st : Sofar) → ((y : ℕ) → body_assigns y (body m.process) ≡ true → IsWritten base st.design.signals m.met (length st.design.processes) y m.process) → AreWritten base st → AreWritten base (add_process m st)
written_process base m st here h = record { written = λ p y less assigns. by_place p y less assigns (cases_lt p (length st.design.processes)) }
  where
    after : List Process
    after = st.design.processes ++ m.process ∷ []

    by_place : (p y : ℕ) → p < length after → body_assigns y (body (slice_index_or after p no_process)) ≡ true → (p < length st.design.processes) ⊎ (length st.design.processes ≤ p) →
        IsWritten base st.design.signals (st.met ++ m.met) p y (slice_index_or after p no_process)
    by_place p y less assigns (inl before) =
        let same : slice_index_or after p no_process ≡ slice_index_or st.design.processes p no_process = get_or_append_left st.design.processes (m.process ∷ []) no_process p before in
        subst (IsWritten base st.design.signals (st.met ++ m.met) p y) (sym same)
        (written_met base st.design.signals st.met m.met p y _ (h.written p y before (subst (λ x. body_assigns y (body x) ≡ true) same assigns)))
    by_place p y less assigns (inr behind) =
        let last : length st.design.processes ≡ p = omega (arith, length-append st.design.processes (m.process ∷ [])) in
        let same : slice_index_or after p no_process ≡ m.process = subst (λ n. slice_index_or after n no_process ≡ m.process) last (get_or-append_seam st.design.processes m.process [] no_process) in
        let w : IsWritten base st.design.signals m.met (length st.design.processes) y m.process = here y (subst (λ x. body_assigns y (body x) ≡ true) same assigns) in
        subst (IsWritten base st.design.signals (st.met ++ m.met) p y) (sym same)
        (subst (λ n. IsWritten base st.design.signals (st.met ++ m.met) n y m.process) last
        (record { writing = w.writing; writing_in = in_right (met_writing w.writing) st.met m.met w.writing_in; process = w.process; driver = w.driver; thing = w.thing }))

pub body_of : (g : Scope) (i : ℕ) (w : When) (text : Statement) (s : Stmt) → body (process_of g i w text s) ≡ s
body_of g i Star text s = refl
body_of g i (Names xs) text s = refl
body_of g i (Edges es) text s = refl

pub no_assign_of : (g : Scope) (i : ℕ) (w : When) (text : Statement) (s : Stmt) → is_assign (process_of g i w text s) ≡ false
no_assign_of g i Star text s = refl
no_assign_of g i (Names xs) text s = refl
no_assign_of g i (Edges es) text s = refl

no_memory : (g h : Scope) (i : ℕ) (w : When) (text : Statement) (s : Stmt) (e : Expr) → memory_target_faults g (mode_of w) e ≡ [] → IsComb (process_of h i w text s) → ⊥
no_memory g h i Star text s e free is = cc
no_memory g h i (Names xs) text s e free is = cc
no_memory g h i (Edges es) text s e free is = is

-- the writing of a part of a target without fault was met
pub writing_there : (g : Scope) → IsSoundScope g → (mode : Mode) (blocking continuous : Bool) (k : ℕ) (x e : Expr) → target_faults g mode x ≡ [] → In e (leaves x) → In (met_writing (writing_of g blocking continuous k e)) (met_writings g mode blocking continuous k x)
writing_there g sound mode blocking continuous k x e free e_in = by_test (none (target_faults g mode x) && not (names_faulty g x)) (rw (ap none free, names_sound g sound x) refl)
  where
    by_test : (b : Bool) → b ≡ true → In (met_writing (writing_of g blocking continuous k e)) (if b then map (λ x. met_writing (writing_of g blocking continuous k x)) (leaves x) else [])
    by_test true is = in_map_back (λ x. met_writing (writing_of g blocking continuous k x)) e (leaves x) e_in
    by_test false is = absurd (false≢true is)

-- what an always block assigns it writes
written_always : (xs : List Signal) (ys : List Memory) (base : ℕ) (g : Scope) → IsGoodScope xs ys g → (i k : ℕ) (w : When) (s : Statement) (l n y : ℕ) → IsFree (met g (mode_of w) k s) → body_assigns y (statement base g s l n) ≡ true →
    IsWritten base xs (met g (mode_of w) k s) k y (process_of g i w s (statement base g s l n))
written_always xs ys base g good i k w s l n y free assigns =
    let f = found_set (IsGoodScope xs ys) (good_turn xs ys) base g (mode_of w) k (λ blocking t v. target_names y t) s l n good free assigns in
    let r = target_set xs ys f.scope f.known base (mode_of w) y f.to f.node f.passes f.target_sound in
    record {
      writing = writing_of f.scope f.blocking false k r.0;
      writing_in = f.writings _ (writing_there f.scope f.known.sound (mode_of w) f.blocking false k f.to r.0 f.target_sound r.1);
      process = refl;
      driver = sym (no_assign_of g i w s (statement base g s l n));
      thing = by_leaf f.scope f.known r.0 r.2;
    }
  where
    by_leaf : (h : Scope) → IsGoodScope xs ys h → (e : Expr) → IsLeaf h base (mode_of w) y e → ((thing_of (look_up h (base_name e).name) ≡ the_signal y) × (y < length xs)) ⊎ ((m : ℕ) × (thing_of (look_up h (base_name e).name) ≡ the_memory m) × (base + m ≡ y) × (IsComb (process_of g i w s (statement base g s l n)) → ⊥))
    by_leaf h known e (inl a) =
        let less : a.0.number < length xs = (subst (EntryMatches xs ys) a.1 (known.matches (base_name e).name)).number in
        inl (ap thing_of a.1 ∙ ap the_signal a.2, subst (λ z. z < length xs) a.2 less)
    by_leaf h known e (inr a) = inr (a.0.number, ap thing_of a.1, a.2, no_memory h g i w s (statement base g s l n) e a.3)

-- what is known of an instance that is to be opened: its aliases, and that its module is one of these
abbrev pub KnownIn : List Module → ℕ → Instantiation → Sofar → Type 0
KnownIn ms depth i st = HasAliases st.design.signals i × In i.of_module ms

pub known_in_below : (base : ℕ) (ms : List Module) (depth : ℕ) (i : Instantiation) (before st : Sofar) → Here (KnownIn ms) depth i before st → (x : Item) (k : InstanceItem) (m : Module) (o : One) → IsBelow base ms i before x k m o →
    HasAliases st.design.signals (inner_of (context base i before) x.place k m o) × In m ms
known_in_below base ms depth i before st here x k m o under = (
  known_below base ms depth i before st (record { opening = here.opening; known = here.known.0; continues = here.continues }) x k m o under,
  found_in (λ z. bytes_eq z.name.name k.of_module.name) ms m under.module_is,
)

-- the met list of a body within what is met in its process
always_written : (base : ℕ) (xs : List Signal) (fs gs : List Fault) (ms : List Met) (m : Met) (p y : ℕ) (x : Process) → IsWritten base xs ms p y x → IsWritten base xs (met_faults fs ++ ms ++ met_faults gs ++ m ∷ []) p y x
always_written base xs fs gs ms m p y x h = record {
  writing = h.writing;
  writing_in = in_left (met_writing h.writing) (met_faults fs ++ ms ++ met_faults gs) (m ∷ []) (in_left (met_writing h.writing) (met_faults fs ++ ms) (met_faults gs) (in_right (met_writing h.writing) (met_faults fs) ms h.writing_in));
  process = h.process;
  driver = h.driver;
  thing = h.thing;
}

pub free_body : (fs gs : List Fault) (ms : List Met) (m : Met) → IsFree (met_faults fs ++ ms ++ met_faults gs ++ m ∷ []) → IsFree ms
free_body fs gs ms m h = (free_parts (met_faults fs) ms (free_parts (met_faults fs ++ ms) (met_faults gs) (free_parts (met_faults fs ++ ms ++ met_faults gs) (m ∷ []) h).0).0).1

-- what a continuous assignment assigns it drives
driven : (base : ℕ) (xs : List Signal) (ys : List Memory) (g : Scope) → IsGoodScope xs ys g → (k : ℕ) (t : Expr) (n y : ℕ) (x : Process) → is_assign x ≡ true → (ms : List Met) → target_faults g Continuous t ≡ [] → target_names y (target base g t n) ≡ true →
    ((w : Met) → In w (met_writings g Continuous true true k t) → In w ms) → IsWritten base xs ms k y x
driven base xs ys g good k t n y x is ms sound e in_met =
    let r = target_set xs ys g good base Continuous y t n e sound in
    record {
      writing = writing_of g true true k r.0;
      writing_in = in_met _ (writing_there g good.sound Continuous true true k t r.0 sound r.1);
      process = refl;
      driver = sym is;
      thing = by_leaf r.0 r.2;
    }
  where
    by_leaf : (e : Expr) → IsLeaf g base Continuous y e → ((thing_of (look_up g (base_name e).name) ≡ the_signal y) × (y < length xs)) ⊎ ((m : ℕ) × (thing_of (look_up g (base_name e).name) ≡ the_memory m) × (base + m ≡ y) × (IsComb x → ⊥))
    by_leaf e (inl a) =
        let less : a.0.number < length xs = (subst (EntryMatches xs ys) a.1 (good.matches (base_name e).name)).number in
        inl (ap thing_of a.1 ∙ ap the_signal a.2, subst (λ z. z < length xs) a.2 less)
    by_leaf e (inr a) = absurd (no_word e a.3)
      where
        no_word : (e : Expr) → memory_target_faults g Continuous e ≡ [] → ⊥
        no_word e h = cc

-- a port's signal is driven as a whole
whole : (base : ℕ) (xs : List Signal) (k : ℕ) (label : Named) (s : SignalEntry) (y : ℕ) (x : Process) → is_assign x ≡ true → s.number < length xs → s.number ≡ y → (m : Met) (ms : List Met) → IsWritten base xs (m ∷ ms ++ met_writing (whole_writing k label s) ∷ []) k y x
whole base xs k label s y x is number same m ms = record {
  writing = whole_writing k label s;
  writing_in = inr (in_right (met_writing (whole_writing k label s)) ms (met_writing (whole_writing k label s) ∷ []) (inl refl));
  process = refl;
  driver = sym is;
  thing = inl (ap the_signal same, subst (λ z. z < length xs) same number);
}

written_steps : (base : ℕ) (ms : List Module) → AreOfTokens ms → Steps base ms (AreWritten base) (KnownIn ms)
written_steps base ms tokens = record {
  meets = λ st h. record { written = λ p y less assigns. written_met base st.design.signals st.met [] p y _ (h.written p y less assigns) };
  opens = λ depth i st free known h. record { written = λ p y less assigns. written_more base st.design.signals _ st.met _ p y _ (h.written p y less assigns) };
  assigns = λ depth i before st here x x_in y v n assigned free h.
      let g = (context base i before).scope in
      let k = length st.design.processes in
      let good : IsGoodScope st.design.signals st.design.memories g = good_scope base ms tokens i before st here.known.1 here.opening here.known.0 here.continues in
      let fs = target_faults g Continuous y ++ faults g v in
      let rest : IsFree (met_faults fs ++ met_writings g Continuous true true k y ++ met_faults (self_faults g y v)) = record { no_fault = free.no_fault } in
      let fs_free = free_faults fs (free_parts (met_faults fs) (met_writings g Continuous true true k y) (free_parts (met_faults fs ++ met_writings g Continuous true true k y) (met_faults (self_faults g y v)) rest).0).0 in
      written_process base (made_assign base i before st x.place y v n) st
      (λ z e. driven base st.design.signals st.design.memories g good k y n z (made_assign base i before st x.place y v n).process refl _ (both_empty (target_faults g Continuous y) (faults g v) fs_free).0 e
      (λ w in_w. inr (in_left w (met_faults fs ++ met_writings g Continuous true true k y) (met_faults (self_faults g y v)) (in_right w (met_faults fs) (met_writings g Continuous true true k y) in_w)))) h;
  runs = λ depth i before st here x x_in w s l n form free h.
      let g = (context base i before).scope in
      let number = length before.design.instances in
      let k = length st.design.processes in
      let good : IsGoodScope st.design.signals st.design.memories g = good_scope base ms tokens i before st here.known.1 here.opening here.known.0 here.continues in
      let ms2 = met g (mode_of w) k s in
      let later = mixed_faults (writings ms2) ++ incomplete_faults g w s in
      written_process base (always base g number k x.place w s l n) st
      (λ y e. always_written base st.design.signals (when_faults g w) later ms2 (met_process x.place) k y (process_of g number w s (statement base g s l n))
      (written_always st.design.signals st.design.memories base g good number k w s l n y (free_body (when_faults g w) later ms2 (met_process x.place) free)
      (subst (λ b. body_assigns y b ≡ true) (body_of g number w s (statement base g s l n)) e))) h;
  inputs = λ depth i before at st x k m o inside j s joined way free h.
      let inner = inner_of (context base i before) x.place k m o in
      let g = (context base i before).scope in
      let number : s.number < length st.design.signals = (subst (EntryMatches st.design.signals st.design.memories) joined.entry (scope_matches base inner at st inside.known.0 inside.continues j.port.name.name)).number in
      written_process base (made_input base i before st x.place j s) st
      (λ z e. whole base st.design.signals (length st.design.processes) j.label s z (made_input base i before st x.place j s).process refl number (eqb-true s.number z e) (met_process x.place) (met_faults (faults g j.value))) h;
  outputs = λ depth i before at st x k m o inside j s joined way free h.
      let g = (context base i before).scope in
      let p = length st.design.processes in
      let outer : Continues (opened i before) st = continues_twice inside.outer.continues (continues_twice (continues_opened (inner_of (context base i before) x.place k m o) at) inside.continues) in
      let good : IsGoodScope st.design.signals st.design.memories g = good_scope base ms tokens i before st inside.outer.known.1 inside.outer.opening inside.outer.known.0 outer in
      let rest : IsFree (met_faults (target_faults g Continuous j.value) ++ met_writings g Continuous true true p j.value) = record { no_fault = free.no_fault } in
      let sound = free_faults (target_faults g Continuous j.value) (free_parts (met_faults (target_faults g Continuous j.value)) (met_writings g Continuous true true p j.value) rest).0 in
      written_process base (made_output base i before st x.place j s) st
      (λ z e. driven base st.design.signals st.design.memories g good p j.value 0 z (made_output base i before st x.place j s).process refl _ sound e
      (λ w in_w. inr (in_right w (met_faults (target_faults g Continuous j.value)) (met_writings g Continuous true true p j.value) in_w))) h;
  below = λ depth i before st here h x k m o under. known_in_below base ms depth i before st here x k m o under;
}

answered_written : (ms : List Module) (top : List ℕ) → AreOfTokens ms → IsSound ms top → AreWritten (base_of ms top) (elaborated ms top)
answered_written ms top tokens sound =
    answered_keeps ms top (AreWritten (base_of ms top)) (KnownIn ms) (written_steps (base_of ms top) ms tokens)
    (λ m found. (known_top top m, found_in (λ z. bytes_eq z.name.name top) ms m found)) (record { written = λ p y less. absurd (omega arith) }) sound

-- what no two drivers means
pub one_first : (k : ElabKind) (xs : List Named) → fault_at_first k xs ≡ [] → xs ≡ []
one_first k [] e = refl
one_first k (x ∷ xs) e = absurd cc

pub not_at_odds : (r : Writing → Writing → Bool) (a b : Writing) → (if r a b then later_of a.name b.name ∷ [] else []) ≡ [] → r a b ≡ false
not_at_odds r a b e = by_test (r a b) e
  where
    by_test : (t : Bool) → (if t then later_of a.name b.name ∷ [] else []) ≡ [] → t ≡ false
    by_test true e = absurd cc
    by_test false e = refl

pub no_conflict : (r : Writing → Writing → Bool) (ws : List Writing) → conflicts r ws ≡ [] → (a b : Writing) → In a ws → In b ws → (a ≡ b) ⊎ ((r a b ≡ false) ⊎ (r b a ≡ false))
no_conflict r [] e a b h k = absurd h
no_conflict r (w ∷ ws) e a b h k =
    let q = both_empty (flat_map (λ z. if r w z then later_of w.name z.name ∷ [] else []) ws) (conflicts r ws) e in
    by_place q.0 (no_conflict r ws q.1 a b) h k
  where
    by_place : flat_map (λ z. if r w z then later_of w.name z.name ∷ [] else []) ws ≡ [] → (In a ws → In b ws → (a ≡ b) ⊎ ((r a b ≡ false) ⊎ (r b a ≡ false))) → (w ≡ a) ⊎ In a ws → (w ≡ b) ⊎ In b ws → (a ≡ b) ⊎ ((r a b ≡ false) ⊎ (r b a ≡ false))
    by_place none_of rest (inl x) (inl y) = inl (sym x ∙ y)
    by_place none_of rest (inl x) (inr y) = inr (inl (subst (λ z. r z b ≡ false) x (not_at_odds r w b (each_empty _ ws b none_of y))))
    by_place none_of rest (inr x) (inl y) = inr (inr (subst (λ z. r z a ≡ false) y (not_at_odds r w a (each_empty _ ws a none_of x))))
    by_place none_of rest (inr x) (inr y) = rest x y

pub writing_in_writings : (ms : List Met) (w : Writing) → In (met_writing w) ms → In w (writings ms)
writing_in_writings ms w h = in_flat_map_back writing_met (met_writing w) ms w h (inl refl)

-- not two drivers, of which one is no continuous assignment
same_process : (a b : Writing) → is_same_thing a.thing b.thing ≡ true → (a.continuous && b.continuous) ≡ false → are_two_drivers a b ≡ false → a.process ≡ b.process
same_process a b same no_driver e = eqb-true a.process b.process (by_test (is_same_thing a.thing b.thing) (a.continuous && b.continuous) (a.process == b.process) same no_driver e)
  where
    by_test : (s c t : Bool) → s ≡ true → c ≡ false → (s && (if c then have_common a.offsets b.offsets else not t)) ≡ false → t ≡ true
    by_test true false true h k l = refl
    by_test true false false h k l = absurd (false≢true (sym l))
    by_test true true t h k l = absurd (false≢true (sym k))
    by_test false c t h k l = absurd (false≢true h)

-- two things by one number are one
pub same_number : (base count y : ℕ) (a b : Thing) → base ≡ count → ((a ≡ the_signal y) × (y < count)) ⊎ ((m : ℕ) × (a ≡ the_memory m) × (base + m ≡ y) × Unit {0}) → ((b ≡ the_signal y) × (y < count)) ⊎ ((m : ℕ) × (b ≡ the_memory m) × (base + m ≡ y) × Unit {0}) → is_same_thing a b ≡ true
same_number base count y a b is (inl p) (inl q) = rw (p.0, q.0) (eq-eqb y y refl)
same_number base count y a b is (inl p) (inr q) = let less : y < count = p.1 in let more : base + q.0 ≡ y = q.2 in absurd (omega arith)
same_number base count y a b is (inr p) (inl q) = let less : y < count = q.1 in let more : base + p.0 ≡ y = p.2 in absurd (omega arith)
same_number base count y a b is (inr p) (inr q) = let x : base + p.0 ≡ y = p.2 in let z : base + q.0 ≡ y = q.2 in rw (p.1, q.1) (eq-eqb p.0 q.0 (omega arith))

-- without what is known of processes
thing_alone : (base count y : ℕ) (a : Thing) (x : Process) → ((a ≡ the_signal y) × (y < count)) ⊎ ((m : ℕ) × (a ≡ the_memory m) × (base + m ≡ y) × (IsComb x → ⊥)) → ((a ≡ the_signal y) × (y < count)) ⊎ ((m : ℕ) × (a ≡ the_memory m) × (base + m ≡ y) × Unit {0})
thing_alone base count y a x (inl p) = inl p
thing_alone base count y a x (inr p) = inr (p.0, p.1, p.2, tt)

-- what holds of the writers of signals and memories
pub record HaveOneWriter (d : Design) : Type 0 where
  pub one_writer : (p q x : ℕ) → (IsAssign (process_at d p) → ⊥) → (IsAssign (process_at d q) → ⊥) → body_assigns x (body_at d p) ≡ true → body_assigns x (body_at d q) ≡ true → p ≡ q
  pub apart : (p q x : ℕ) → IsAssign (process_at d p) → body_assigns x (body_at d p) ≡ true → body_assigns x (body_at d q) ≡ true → IsAssign (process_at d q)
  pub comb_writes : (p x : ℕ) → IsComb (process_at d p) → body_assigns x (body_at d p) ≡ true → x < length d.signals

-- a process that assigns is one of the design
assigning_in : (d : Design) (p x : ℕ) → body_assigns x (body_at d p) ≡ true → p < length d.processes
assigning_in d p x h = by_place d.processes p h
  where
    by_place : (xs : List Process) (p : ℕ) → body_assigns x (body (slice_index_or xs p no_process)) ≡ true → p < length xs
    by_place [] p h = absurd (false≢true h)
    by_place (y ∷ ys) zero h = omega arith
    by_place (y ∷ ys) (suc p) h = let less : p < length ys = by_place ys p h in omega arith

not_assign : (x : Process) → (IsAssign x → ⊥) → is_assign x ≡ false
not_assign (assign i x t counted) h = absurd (h tt)
not_assign (comb i wakes s) h = refl
not_assign (clocked i es s) h = refl

pub is_then : (x : Process) → is_assign x ≡ true → IsAssign x
is_then (assign i x t counted) h = tt
is_then (comb i wakes s) h = absurd (false≢true h)
is_then (clocked i es s) h = absurd (false≢true h)

elaborated_writers : (ms : List Module) (top : List ℕ) → AreOfTokens ms → IsSound ms top → HaveOneWriter (elaborated ms top).design
elaborated_writers ms top tokens sound = record {
  one_writer = λ p q x a b h k. one p q x (not_assign _ b) h k;
  apart = λ p q x a h k. by_kind p q x a h k (is_assign (process_at st.design q)) refl;
  comb_writes = λ p x c h. let u = all.written p x (assigning_in st.design p x h) h in by_thing p x c u.writing.thing u.thing;
}
  where
    base : ℕ
    base = base_of ms top

    st : Sofar
    st = elaborated ms top

    all : AreWritten base st
    all = answered_written ms top tokens sound

    no_conflicts : conflicts are_two_drivers (writings st.met) ≡ []
    no_conflicts = one_first TwoDrivers (conflicts are_two_drivers (writings st.met)) sound.told.rest_empty

    by_thing : (p x : ℕ) → IsComb (process_at st.design p) → (a : Thing) → ((a ≡ the_signal x) × (x < length st.design.signals)) ⊎ ((m : ℕ) × (a ≡ the_memory m) × (base + m ≡ x) × (IsComb (process_at st.design p) → ⊥)) → x < length st.design.signals
    by_thing p x c a (inl k) = k.1
    by_thing p x c a (inr k) = absurd (k.3 c)

    either : (b : Bool) → (b && false) ≡ false
    either true = refl
    either false = refl

    by_conflict : (a b : Writing) → b.continuous ≡ false → is_same_thing a.thing b.thing ≡ true → is_same_thing b.thing a.thing ≡ true → (a ≡ b) ⊎ ((are_two_drivers a b ≡ false) ⊎ (are_two_drivers b a ≡ false)) → a.process ≡ b.process
    by_conflict a b y same back (inl e) = ap (λ w. w.process) e
    by_conflict a b y same back (inr (inl e)) = same_process a b same (rw y (either a.continuous)) e
    by_conflict a b y same back (inr (inr e)) = sym (same_process b a back (rw y refl) e)

    one : (p q x : ℕ) → is_assign (process_at st.design q) ≡ false → body_assigns x (body_at st.design p) ≡ true → body_assigns x (body_at st.design q) ≡ true → p ≡ q
    one p q x b h k =
        let u = all.written p x (assigning_in st.design p x h) h in
        let v = all.written q x (assigning_in st.design q x k) k in
        let same = same_number base (length st.design.signals) x u.writing.thing v.writing.thing (sym (base_is ms top)) (thing_alone base _ x u.writing.thing _ u.thing) (thing_alone base _ x v.writing.thing _ v.thing) in
        let back = same_number base (length st.design.signals) x v.writing.thing u.writing.thing (sym (base_is ms top)) (thing_alone base _ x v.writing.thing _ v.thing) (thing_alone base _ x u.writing.thing _ u.thing) in
        let are_one : u.writing.process ≡ v.writing.process = by_conflict u.writing v.writing (v.driver ∙ b) same back (no_conflict are_two_drivers (writings st.met) no_conflicts u.writing v.writing (writing_in_writings st.met u.writing u.writing_in) (writing_in_writings st.met v.writing v.writing_in)) in
        sym u.process ∙ (are_one ∙ v.process)

    by_kind : (p q x : ℕ) → IsAssign (process_at st.design p) → body_assigns x (body_at st.design p) ≡ true → body_assigns x (body_at st.design q) ≡ true → (t : Bool) → is_assign (process_at st.design q) ≡ t → IsAssign (process_at st.design q)
    by_kind p q x a h k true is = is_then (process_at st.design q) is
    by_kind p q x a h k false is = subst (λ n. IsAssign (process_at st.design n)) (one p q x is h k) a

pub answered_writers : (ms : List Module) (top : List ℕ) (d : Design) → AreOfTokens ms → answer ms top ≡ Ok d → HaveOneWriter d
answered_writers ms top d tokens e = subst HaveOneWriter (answered_design ms top d e) (elaborated_writers ms top tokens (answered_sound ms top d e))

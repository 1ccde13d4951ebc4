-- No process assigns an input of the top.
use Rattle.std.proofs.Common.{◌≡◌, ◌⊎◌, inl, inr, ℕ, ◌+◌, ◌≤◌, Bool, true, false, ◌||◌, not, if◌then◌else◌, List, [], ◌∷◌, ◌++◌, Ok, refl, sym, ap, subst, length, arith, slice_index_or}
use Rattle.std.proofs.lemmas.Bool.{false≢true, eqb-true}
use Rattle.std.proofs.lemmas.List.{get_or_past}
use Rattle.design_model.specs.Design.{Design, body, body_at, no_process, no_signal, signal_at}
use Rattle.design_model.specs.Mentions.{body_assigns, target_names}
use Rattle.design_model.specs.Tree.{Process}
use Rattle.design_model.specs.declared.design.Memory.{Memory}
use Rattle.design_model.specs.declared.design.Signal.{Signal}
use Rattle.verilog_tree.specs.Tree.{Expr, Module}
use Rattle.flat_design.specs.Bodies.{statement}
use Rattle.flat_design.specs.Expressions.{faults}
use Rattle.flat_design.specs.Fault.{Fault, fault_at}
use Rattle.flat_design.specs.Faults.{answer}
use Rattle.flat_design.specs.Flat.{elaborated}
use Rattle.flat_design.specs.Identifiers.{base_name}
use Rattle.flat_design.specs.Instances.{Sofar}
use Rattle.flat_design.specs.Processes.{mode_of}
use Rattle.flat_design.specs.Scope.{Scope}
use Rattle.flat_design.specs.declared.entry.Mode.{Mode}
use Rattle.flat_design.specs.declared.entry.Mode.TheVariants.{Clocked, Combinational, Continuous}
use Rattle.flat_design.specs.declared.entry.SignalEntry.{SignalEntry}
use Rattle.flat_design.specs.declared.fault.ElabKind.TheVariants.{WrongTarget}
use Rattle.flat_design.specs.Targets.{fixed_faults, signal_target_faults, target, target_faults}
use Rattle.flat_laws.specs.Tokens.{AreOfTokens}
use Rattle.flat_laws.proofs.Freedom.{IsSound, answered_sound}
use Rattle.flat_laws.proofs.LawfulBase.{base_is}
use Rattle.flat_laws.proofs.LawfulLimits.{answered_design, base_of}
use Rattle.flat_laws.proofs.LawfulScope.{EntryMatches}
use Rattle.flat_laws.proofs.LawfulSets.{found_set}
use Rattle.flat_laws.proofs.LawfulSources.{IsBlock, Source, elaborated_made, of_assign, of_block, of_input, of_output, source_at}
use Rattle.flat_laws.proofs.LawfulTargets.{IsGoodScope, IsLeaf, good_turn, target_set}
use Rattle.flat_laws.proofs.LawfulWriters.{body_of}

-- an input is no target
not_both_or : (a b : Bool) (f : Fault) (fs : List Fault) → (if a || b then f ∷ [] else fs) ≡ [] → a ≡ false
not_both_or true b f fs e = absurd cc
not_both_or false b f fs e = refl

no_input_target : (g : Scope) (mode : Mode) (s : SignalEntry) (e : Expr) → signal_target_faults g mode s e ≡ [] → s.input ≡ false
no_input_target g Continuous s e h = not_both_or s.input (not s.net) (fault_at WrongTarget (base_name e)) (faults g e ++ fixed_faults g e) h
no_input_target g Combinational s e h = not_both_or s.input s.net (fault_at WrongTarget (base_name e)) (faults g e) h
no_input_target g Clocked s e h = not_both_or s.input s.net (fault_at WrongTarget (base_name e)) (faults g e) h

-- no input of the design, also what is no signal
abbrev NoInput : List Signal → ℕ → Type 0
NoInput xs y = (slice_index_or xs y no_signal).input ≡ false

leaf_no_input : (xs : List Signal) (ys : List Memory) (g : Scope) → IsGoodScope xs ys g → (base : ℕ) → base ≡ length xs → (mode : Mode) (y : ℕ) (e : Expr) → IsLeaf g base mode y e → NoInput xs y
leaf_no_input xs ys g good base is mode y e (inl a) =
    subst (NoInput xs) a.2 ((subst (EntryMatches xs ys) a.1 (good.matches (base_name e).name)).input (no_input_target g mode a.0 e a.3))
leaf_no_input xs ys g good base is mode y e (inr a) =
    let past : length xs ≤ y = (let number : base + a.0.number ≡ y = a.2 in omega (arith, is)) in
    ap (λ s. s.input) (get_or_past xs y no_signal past)

target_no_input : (xs : List Signal) (ys : List Memory) (g : Scope) → IsGoodScope xs ys g → (base : ℕ) → base ≡ length xs → (mode : Mode) (y : ℕ) (to : Expr) (n : ℕ) → target_faults g mode to ≡ [] → target_names y (target base g to n) ≡ true → NoInput xs y
target_no_input xs ys g good base is mode y to n sound h =
    let r = target_set xs ys g good base mode y to n h sound in leaf_no_input xs ys g good base is mode y r.0 r.2

block_no_input : (all : List Module) (base : ℕ) (xs : List Signal) (ys : List Memory) (st : Sofar) (k : ℕ) (x : Process) → base ≡ length xs → (s : IsBlock all base xs ys st.met k x) → (y : ℕ) → body_assigns y (body x) ≡ true → NoInput xs y
block_no_input all base xs ys st k x is s y h =
    let f = found_set (IsGoodScope xs ys) (good_turn xs ys) base s.scope (mode_of s.when) k (λ blocking t v. target_names y t) s.body s.line s.node s.good s.free
    (subst (λ b. body_assigns y b ≡ true) (body_of s.scope s.instance s.when s.body (statement base s.scope s.body s.line s.node)) (subst (λ z. body_assigns y (body z) ≡ true) s.is h)) in
    target_no_input xs ys f.scope f.known base is (mode_of s.when) y f.to f.node f.target_sound f.passes

source_no_input : (all : List Module) (base : ℕ) (xs : List Signal) (ys : List Memory) (st : Sofar) (k : ℕ) (x : Process) → base ≡ length xs → Source all base xs ys st.met k x → (y : ℕ) → body_assigns y (body x) ≡ true → NoInput xs y
source_no_input all base xs ys st k x is (of_assign s) y h =
    target_no_input xs ys s.scope s.good base is Continuous y s.to s.node s.target_sound (subst (λ z. body_assigns y (body z) ≡ true) s.is h)
source_no_input all base xs ys st k x is (of_input s) y h = subst (NoInput xs) (eqb-true s.port.number y (subst (λ z. body_assigns y (body z) ≡ true) s.is h)) s.no_input
source_no_input all base xs ys st k x is (of_output s) y h =
    target_no_input xs ys s.scope s.good base is Continuous y s.to 0 s.target_sound (subst (λ z. body_assigns y (body z) ≡ true) s.is h)
source_no_input all base xs ys st k x is (of_block s) y h = block_no_input all base xs ys st k x is s y h

-- no process assigns an input
pub record HasNoInput (d : Design) : Type 0 where
  pub no_input : (p s : ℕ) → body_assigns s (body_at d p) ≡ true → (signal_at d s).input ≡ false

elaborated_inputs : (all : List Module) (top : List ℕ) → AreOfTokens all → IsSound all top → HasNoInput (elaborated all top).design
elaborated_inputs all top tokens sound = record { no_input = λ p s h. by_source p s h (source_at all base st (elaborated_made all top tokens sound) p) }
  where
    base : ℕ
    base = base_of all top

    st : Sofar
    st = elaborated all top

    by_source : (p s : ℕ) → body_assigns s (body_at st.design p) ≡ true → Source all base st.design.signals st.design.memories st.met p (slice_index_or st.design.processes p no_process) ⊎ (slice_index_or st.design.processes p no_process ≡ no_process) → (signal_at st.design s).input ≡ false
    by_source p s h (inl k) = source_no_input all base st.design.signals st.design.memories st p _ (sym (base_is all top)) k s h
    by_source p s h (inr e) = absurd (false≢true (subst (λ z. body_assigns s (body z) ≡ true) e h))

pub answered_inputs : (all : List Module) (top : List ℕ) (d : Design) → AreOfTokens all → answer all top ≡ Ok d → HasNoInput d
answered_inputs all top d tokens e = subst HasNoInput (answered_design all top d e) (elaborated_inputs all top tokens (answered_sound all top d e))

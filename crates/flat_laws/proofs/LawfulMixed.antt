-- No signal or memory is assigned by blocking and by nonblocking assignments.
use Rattle.std.proofs.Common.{◌≡◌, ◌⊎◌, inl, inr, ℕ, ◌+◌, ◌<◌, Bool, true, false, ◌&&◌, not, List, Ok, refl, sym, ap, ◌∙◌, subst, length, slice_index_or}
use Rattle.std.proofs.lemmas.Bool.{false≢true, and_parts}
use Rattle.design_model.specs.Design.{Design, In, IsAssign, body, body_at, no_process, process_at}
use Rattle.design_model.specs.Mentions.{any_set, body_assigns, body_blocks, body_queues, target_names}
use Rattle.design_model.specs.Shape.{same_bool}
use Rattle.design_model.specs.Tree.{Process, Target, Term}
use Rattle.design_model.specs.declared.design.Memory.{Memory}
use Rattle.design_model.specs.declared.design.Signal.{Signal}
use Rattle.design_model.proofs.Lawful.{any_weaker}
use Rattle.verilog_tree.specs.Tree.{Expr, Module}
use Rattle.flat_design.specs.Bodies.{Met, met, met_writing, statement}
use Rattle.flat_design.specs.Faults.{answer}
use Rattle.flat_design.specs.Flat.{elaborated}
use Rattle.flat_design.specs.Identifiers.{base_name}
use Rattle.flat_design.specs.Instances.{Sofar}
use Rattle.flat_design.specs.Processes.{are_mixed, conflicts, mode_of, writings}
use Rattle.flat_design.specs.Scope.{Scope, is_same_thing, look_up, thing_of}
use Rattle.flat_design.specs.declared.entry.Mode.{Mode}
use Rattle.flat_design.specs.declared.entry.Thing.{Thing}
use Rattle.flat_design.specs.declared.entry.Thing.TheVariants.{Memory as the_memory, Signal as the_signal}
use Rattle.flat_design.specs.declared.fault.ElabKind.TheVariants.{MixedAssign}
use Rattle.flat_design.specs.Targets.{Writing, writing_of}
use Rattle.flat_laws.specs.Tokens.{AreOfTokens}
use Rattle.flat_laws.proofs.Freedom.{IsSound, answered_sound}
use Rattle.flat_laws.proofs.LawfulBase.{base_is}
use Rattle.flat_laws.proofs.LawfulLimits.{answered_design, base_of}
use Rattle.flat_laws.proofs.LawfulScope.{EntryMatches}
use Rattle.flat_laws.proofs.LawfulSets.{found_set}
use Rattle.flat_laws.proofs.LawfulSources.{IsBlock, Source, elaborated_made, of_assign, of_block, of_input, of_output, source_at}
use Rattle.flat_laws.proofs.LawfulTargets.{IsGoodScope, IsLeaf, good_turn, target_set}
use Rattle.flat_laws.proofs.LawfulWriters.{HaveOneWriter, answered_writers, body_of, no_conflict, one_first, same_number, writing_in_writings, writing_there}

-- the signal or memory with this number
abbrev IsThing : ℕ → ℕ → ℕ → Thing → Type 0
IsThing base count y a = ((a ≡ the_signal y) × (y < count)) ⊎ ((m : ℕ) × (a ≡ the_memory m) × (base + m ≡ y) × Unit {0})

leaf_thing : (xs : List Signal) (ys : List Memory) (g : Scope) → IsGoodScope xs ys g → (base : ℕ) (mode : Mode) (y : ℕ) (e : Expr) → IsLeaf g base mode y e → IsThing base (length xs) y (thing_of (look_up g (base_name e).name))
leaf_thing xs ys g good base mode y e (inl a) =
    let less : a.0.number < length xs = (subst (EntryMatches xs ys) a.1 (good.matches (base_name e).name)).number in
    inl (ap thing_of a.1 ∙ ap the_signal a.2, subst (λ z. z < length xs) a.2 less)
leaf_thing xs ys g good base mode y e (inr a) = inr (a.0.number, ap thing_of a.1, a.2, tt)

-- an assignment of y of this kind is met in the block
record IsSet (base count : ℕ) (ms : List Met) (b : Bool) (y : ℕ) : Type 0 where
  writing : Writing
  writing_in : In writing (writings ms)
  blocking : writing.blocking ≡ b
  thing : IsThing base count y writing.thing

-- a blocking or a nonblocking assignment of y
abbrev sets : Bool → ℕ → Bool → Target → Term → Bool
sets b y blocking t v = same_bool b blocking && target_names y t

same_true : (a b : Bool) → same_bool a b ≡ true → b ≡ a
same_true true true e = refl
same_true true false e = absurd (false≢true e)
same_true false true e = absurd (false≢true e)
same_true false false e = refl

set_in_block : (all : List Module) (base : ℕ) (xs : List Signal) (ys : List Memory) (st : Sofar) (k : ℕ) (x : Process) → (s : IsBlock all base xs ys st.met k x) → (b : Bool) (y : ℕ) → any_set (sets b y) (body x) ≡ true → IsSet base (length xs) (met s.scope (mode_of s.when) k s.body) b y
set_in_block all base xs ys st k x s b y h =
    let f = found_set (IsGoodScope xs ys) (good_turn xs ys) base s.scope (mode_of s.when) k (sets b y) s.body s.line s.node s.good s.free
    (subst (λ z. any_set (sets b y) z ≡ true) (body_of s.scope s.instance s.when s.body (statement base s.scope s.body s.line s.node)) (subst (λ z. any_set (sets b y) (body z) ≡ true) s.is h)) in
    let p = and_parts (same_bool b f.blocking) _ f.passes in
    let r = target_set xs ys f.scope f.known base (mode_of s.when) y f.to f.node p.1 f.target_sound in
    record {
      writing = writing_of f.scope f.blocking false k r.0;
      writing_in = writing_in_writings (met s.scope (mode_of s.when) k s.body) (writing_of f.scope f.blocking false k r.0) (f.writings (met_writing (writing_of f.scope f.blocking false k r.0)) (writing_there f.scope f.known.sound (mode_of s.when) f.blocking false k f.to r.0 f.target_sound r.1));
      blocking = same_true b f.blocking p.0;
      thing = leaf_thing xs ys f.scope f.known base (mode_of s.when) y r.0 r.2;
    }

-- one signal or memory is not assigned in both ways within a block
opposite : (a b : Writing) → is_same_thing a.thing b.thing ≡ true → a.blocking ≡ true → b.blocking ≡ false → are_mixed a b ≡ true
opposite a b same x y = rw (same, x, y) refl

opposite_back : (a b : Writing) → is_same_thing a.thing b.thing ≡ true → a.blocking ≡ false → b.blocking ≡ true → are_mixed a b ≡ true
opposite_back a b same x y = rw (same, x, y) refl

block_not_both : (all : List Module) (base : ℕ) (xs : List Signal) (ys : List Memory) (st : Sofar) (k : ℕ) (x : Process) → base ≡ length xs → (s : IsBlock all base xs ys st.met k x) → (y : ℕ) → any_set (sets true y) (body x) ≡ true → any_set (sets false y) (body x) ≡ true → ⊥
block_not_both all base xs ys st k x is s y h l =
    let u = set_in_block all base xs ys st k x s true y h in
    let v = set_in_block all base xs ys st k x s false y l in
    let ws = writings (met s.scope (mode_of s.when) k s.body) in
    let same = same_number base (length xs) y u.writing.thing v.writing.thing is u.thing v.thing in
    let back = same_number base (length xs) y v.writing.thing u.writing.thing is v.thing u.thing in
    by_conflict u.writing v.writing u.blocking v.blocking same back (no_conflict are_mixed ws (one_first MixedAssign (conflicts are_mixed ws) s.unmixed) u.writing v.writing u.writing_in v.writing_in)
  where
    by_conflict : (a b : Writing) → a.blocking ≡ true → b.blocking ≡ false → is_same_thing a.thing b.thing ≡ true → is_same_thing b.thing a.thing ≡ true → (a ≡ b) ⊎ ((are_mixed a b ≡ false) ⊎ (are_mixed b a ≡ false)) → ⊥
    by_conflict a b p q same back (inl e) = false≢true (sym q ∙ (sym (ap (λ w. w.blocking) e) ∙ p))
    by_conflict a b p q same back (inr (inl e)) = false≢true (sym e ∙ opposite a b same p q)
    by_conflict a b p q same back (inr (inr e)) = false≢true (sym e ∙ opposite_back b a back q p)

-- the body of an assignment has no nonblocking one
queues_block : (all : List Module) (base : ℕ) (xs : List Signal) (ys : List Memory) (st : Sofar) (k : ℕ) (x : Process) → Source all base xs ys st.met k x → (y : ℕ) → body_queues y (body x) ≡ true → IsBlock all base xs ys st.met k x
queues_block all base xs ys st k x (of_assign s) y h = absurd (false≢true (subst (λ z. body_queues y (body z) ≡ true) s.is h))
queues_block all base xs ys st k x (of_input s) y h = absurd (false≢true (subst (λ z. body_queues y (body z) ≡ true) s.is h))
queues_block all base xs ys st k x (of_output s) y h = absurd (false≢true (subst (λ z. body_queues y (body z) ≡ true) s.is h))
queues_block all base xs ys st k x (of_block s) y h = s

not_queued : (x : Process) (y : ℕ) → body_queues y (body x) ≡ true → IsAssign x → ⊥
not_queued (Process.assign i t v c) y h a = false≢true h
not_queued (Process.comb i w s) y h a = a
not_queued (Process.clocked i es s) y h a = a

-- no signal or memory is assigned in both ways
pub record HasNotBoth (d : Design) : Type 0 where
  pub not_both : (p q x : ℕ) → body_blocks x (body_at d p) ≡ true → body_queues x (body_at d q) ≡ true → ⊥

assigned_then : (c : Bool → Bool) (x : ℕ) (s : _) → any_set (λ blocking y t. c blocking && target_names x y) s ≡ true → body_assigns x s ≡ true
assigned_then c x s h = any_weaker (λ blocking y t. c blocking && target_names x y) (λ blocking y t. target_names x y) (λ b y t e. (and_parts (c b) (target_names x y) e).1) s h

elaborated_mixed : (all : List Module) (top : List ℕ) → AreOfTokens all → IsSound all top → HaveOneWriter (elaborated all top).design → HasNotBoth (elaborated all top).design
elaborated_mixed all top tokens sound writers = record { not_both = λ p q x h k. by_source p q x h k (source_at all base st (elaborated_made all top tokens sound) q) }
  where
    base : ℕ
    base = base_of all top

    st : Sofar
    st = elaborated all top

    one : (p q x : ℕ) → body_blocks x (body_at st.design p) ≡ true → body_queues x (body_at st.design q) ≡ true → p ≡ q
    one p q x h k =
        let a : body_assigns x (body_at st.design p) ≡ true = assigned_then (λ b. b) x (body_at st.design p) h in
        let b : body_assigns x (body_at st.design q) ≡ true = assigned_then not x (body_at st.design q) k in
        let no_assign : IsAssign (process_at st.design q) → ⊥ = not_queued (process_at st.design q) x k in
        writers.one_writer p q x (λ c. no_assign (writers.apart p q x c a b)) no_assign a b

    by_source : (p q x : ℕ) → body_blocks x (body_at st.design p) ≡ true → body_queues x (body_at st.design q) ≡ true → Source all base st.design.signals st.design.memories st.met q (slice_index_or st.design.processes q no_process) ⊎ (slice_index_or st.design.processes q no_process ≡ no_process) → ⊥
    by_source p q x h k (inl s) =
        let blocks : body_blocks x (body_at st.design q) ≡ true = subst (λ n. body_blocks x (body_at st.design n) ≡ true) (one p q x h k) h in
        block_not_both all base st.design.signals st.design.memories st q _ (sym (base_is all top)) (queues_block all base st.design.signals st.design.memories st q _ s x k) x blocks k
    by_source p q x h k (inr e) = false≢true (subst (λ z. body_queues x (body z) ≡ true) e k)

pub answered_mixed : (all : List Module) (top : List ℕ) (d : Design) → AreOfTokens all → answer all top ≡ Ok d → HasNotBoth d
answered_mixed all top d tokens e =
    subst HasNotBoth (answered_design all top d e)
    (elaborated_mixed all top tokens (answered_sound all top d e) (subst HaveOneWriter (sym (answered_design all top d e)) (answered_writers all top d tokens e)))

-- What a target names is a signal or memory that may be assigned there.
use Rattle.std.proofs.Common.{◌≡◌, ◌⊎◌, inl, inr, ℕ, ◌+◌, ◌==◌, Bool, true, false, if◌then◌else◌, List, [], ◌∷◌, ◌++◌, Option, Some, None, refl, sym, ap, ◌∙◌, length}
use Rattle.std.specs.Prelude.{bytes_eq}
use Rattle.std.proofs.lemmas.Bool.{false≢true, eqb-true}
use Rattle.four_state.specs.Vector.{Vector}
use Rattle.design_model.specs.Design.{In}
use Rattle.design_model.specs.Mentions.{target_names, some_target_names}
use Rattle.design_model.specs.Tree.{word_of, bits_of, Term}
use Rattle.design_model.specs.declared.design.Memory.{Memory}
use Rattle.design_model.specs.declared.design.Signal.{Signal}
use Rattle.verilog_tree.specs.Tree.{Expr, literal, identifier, bit_select, part_select, indexed_part, unary_operator, binary_operator, conditional, concatenation, replication, sign_cast, parentheses, Exprs, no_exprs, an_expr, Header, Module}
use Rattle.flat_design.specs.Bodies.{in_turn}
use Rattle.elab_const.specs.declared.fault.ConstKind.TheVariants.{LoopNotConstant}
use Rattle.flat_design.specs.Fault.{of_constant}
use Rattle.flat_design.specs.Identifiers.{base_name}
use Rattle.flat_design.specs.Instances.{Instantiation, Sofar, opened, opening_met, context}
use Rattle.flat_design.specs.Loops as loops
use Rattle.flat_design.specs.Numbering.{nodes}
use Rattle.flat_design.specs.Scope.{Scope, look_up, is_faulty_entry, thing_of, thing_number, is_memory_name}
use Rattle.flat_design.specs.declared.entry.Entry.{Entry}
use Rattle.flat_design.specs.declared.entry.Entry.TheVariants.{Constant as a_constant, Turn as a_turn, Signal as a_signal, Memory as a_memory, LoopVariable as a_loop_variable, Instance as an_instance, NoConstant as no_constant, Faulty as a_faulty_one}
use Rattle.flat_design.specs.declared.entry.SignalEntry.{SignalEntry}
use Rattle.flat_design.specs.declared.entry.MemoryEntry.{MemoryEntry}
use Rattle.flat_design.specs.Targets.{target, targets, leaves, all_leaves, leaf_faults, signal_target_faults, memory_target_faults, target_faults, all_target_faults}
use Rattle.flat_design.specs.declared.entry.Mode.{Mode}
use Rattle.flat_laws.specs.Tokens.{AreOfTokens}
use Rattle.flat_laws.proofs.Continues.{Continues}
use Rattle.flat_laws.proofs.Freedom.{IsFree, both_empty}
use Rattle.flat_laws.proofs.LawfulNames.{is_no_constant_entry, scope_told, scope_not_empty}
use Rattle.flat_laws.proofs.LawfulPaths.{opening_parts}
use Rattle.flat_laws.proofs.LawfulScope.{HasAliases, ScopeMatches, EntryMatches, scope_matches, same_bytes}
use Rattle.flat_laws.proofs.LawfulSets.{one_of}
use Rattle.flat_laws.proofs.LawfulSound.{IsSoundScope, scope_sound}
use Rattle.flat_laws.proofs.Members.{in_left, in_right}

-- what is known of the scope of an instance where nothing that was met is a fault
pub record IsGoodScope (xs : List Signal) (ys : List Memory) (g : Scope) : Type 0 where
  pub sound : IsSoundScope g
  pub empty : look_up g [] ≡ None
  pub told : (x : List ℕ) → is_no_constant_entry (look_up g x) ≡ false
  pub matches : ScopeMatches xs ys g

pub good_scope : (base : ℕ) (ms : List Module) → AreOfTokens ms → (i : Instantiation) (before now : Sofar) → In i.of_module ms → IsFree (opening_met i) → HasAliases before.design.signals i → Continues (opened i before) now →
    IsGoodScope now.design.signals now.design.memories (context base i before).scope
good_scope base ms tokens i before now m_in free known h = record {
  sound = scope_sound i (length before.design.signals) (length before.design.memories) (opening_parts i free).2;
  empty = scope_not_empty i (length before.design.signals) (length before.design.memories) (tokens.names i.of_module m_in);
  told = scope_told i (length before.design.signals) (length before.design.memories);
  matches = scope_matches base i before now known h;
}

-- and in each turn of a loop
pub good_turn : (xs : List Signal) (ys : List Memory) (g : Scope) (h : Header) (v : Vector) → IsGoodScope xs ys g → loops.turn_faults g h ≡ [] → IsGoodScope xs ys (in_turn h v g)
good_turn xs ys g h v good e = record {
  sound = record { sound = λ y. by_test (λ o. is_faulty_entry o ≡ false) y refl (good.sound.sound y) };
  empty = not_here (bytes_eq [] x) refl;
  told = λ y. by_test (λ o. is_no_constant_entry o ≡ false) y refl (good.told y);
  matches = λ y. by_test (EntryMatches xs ys) y tt (good.matches y);
}
  where
    x : List ℕ
    x = (base_name h.name).name

    by_test : (P : Option Entry → Type 0) (y : List ℕ) → P (Some (a_turn v)) → P (look_up g y) → P (if bytes_eq y x then Some (a_turn v) else g y)
    by_test P y here other = either (bytes_eq y x)
      where
        either : (b : Bool) → P (if b then Some (a_turn v) else g y)
        either true = here
        either false = other

    over : loops.over_faults g h ≡ []
    over =
        let a = both_empty (loops.header_faults g h) _ e in
        let b = both_empty (loops.over_faults g h ++ loops.named_faults g h.place h.first ++ loops.named_faults (loops.in_some_turn h g) h.place h.test) _ a.0 in
        let c = both_empty (loops.over_faults g h ++ loops.named_faults g h.place h.first) _ b.0 in
        (both_empty (loops.over_faults g h) _ c.0).0

    undeclared : x ≡ [] → ⊥
    undeclared same = by_one (loops.is_over_one_name h) over
      where
        by_one : (b : Bool) → (if b then loops.variable_faults (look_up g x) h.place (base_name h.name) else of_constant LoopNotConstant h.place ∷ []) ≡ [] → ⊥
        by_one true k = told_so (look_up g x) (ap (look_up g) same ∙ good.empty) k
          where
            told_so : (o : Option Entry) → o ≡ None → loops.variable_faults o h.place (base_name h.name) ≡ [] → ⊥
            told_so None is k = cc
            told_so (Some y) is k = cc
        by_one false k = cc

    not_here : (b : Bool) → bytes_eq [] x ≡ b → (if b then Some (a_turn v) else g []) ≡ None
    not_here true is = absurd (undeclared (sym (same_bytes [] x is)))
    not_here false is = good.empty

-- a target without concatenation is a signal or memory of the scope by this number, which may be assigned there
abbrev pub IsLeaf : Scope → ℕ → Mode → ℕ → Expr → Type 0
IsLeaf g base mode y e =
    ((s : SignalEntry) × (look_up g (base_name e).name ≡ Some (a_signal s)) × (s.number ≡ y) × (signal_target_faults g mode s e ≡ [])) ⊎ ((m : MemoryEntry) × (look_up g (base_name e).name ≡ Some (a_memory m)) × (base + m.number ≡ y) × (memory_target_faults g mode e ≡ []))

pub leaf_set : (xs : List Signal) (ys : List Memory) (g : Scope) → IsGoodScope xs ys g → (base : ℕ) (mode : Mode) (y : ℕ) (e : Expr) (o : Option Entry) → look_up g (base_name e).name ≡ o → thing_number base (thing_of o) ≡ y → leaf_faults g mode o e ≡ [] → IsLeaf g base mode y e
leaf_set xs ys g good base mode y e (Some (a_signal s)) is same free = inl (s, is, same, free)
leaf_set xs ys g good base mode y e (Some (a_memory m)) is same free = inr (m, is, same, free)
leaf_set xs ys g good base mode y e None is same free = absurd cc
leaf_set xs ys g good base mode y e (Some (a_constant v)) is same free = absurd cc
leaf_set xs ys g good base mode y e (Some (a_turn v)) is same free = absurd cc
leaf_set xs ys g good base mode y e (Some a_loop_variable) is same free = absurd cc
leaf_set xs ys g good base mode y e (Some an_instance) is same free = absurd cc
leaf_set xs ys g good base mode y e (Some no_constant) is same free = absurd (false≢true (sym (good.told (base_name e).name) ∙ ap is_no_constant_entry is))
leaf_set xs ys g good base mode y e (Some a_faulty_one) is same free = absurd (false≢true (sym (good.sound.sound (base_name e).name) ∙ ap is_faulty_entry is))

-- what begins with no name is no target
pub no_leaf : (g : Scope) (mode : Mode) (e : Expr) (o : Option Entry) → o ≡ None → leaf_faults g mode o e ≡ [] → ⊥
no_leaf g mode e None is free = cc
no_leaf g mode e (Some x) is free = cc

mutual
  -- a target that names y has a part that is y
  pub target_set : (xs : List Signal) (ys : List Memory) (g : Scope) → IsGoodScope xs ys g → (base : ℕ) (mode : Mode) (y : ℕ) (e : Expr) (n : ℕ) → target_names y (target base g e n) ≡ true → target_faults g mode e ≡ [] → (x : Expr) × In x (leaves e) × IsLeaf g base mode y x
  target_set xs ys g good base mode y (identifier p x) n h free = (identifier p x, inl refl, leaf_set xs ys g good base mode y (identifier p x) _ refl (eqb-true _ y h) free)
  target_set xs ys g good base mode y (bit_select p of i) n h free = (bit_select p of i, inl refl, leaf_set xs ys g good base mode y (bit_select p of i) _ refl (eqb-true _ y (by_kind (is_memory_name g of) _ _ _ h)) free)
    where
      by_kind : (b : Bool) (t : ℕ) (i j : Term) → target_names y (if b then word_of t i else bits_of t j 1) ≡ true → (t == y) ≡ true
      by_kind true t i j h = h
      by_kind false t i j h = h
  target_set xs ys g good base mode y (part_select p of a b k) n h free = (part_select p of a b k, inl refl, leaf_set xs ys g good base mode y (part_select p of a b k) _ refl (eqb-true _ y h) free)
  target_set xs ys g good base mode y (indexed_part p of a b up k) n h free = (indexed_part p of a b up k, inl refl, leaf_set xs ys g good base mode y (indexed_part p of a b up k) _ refl (eqb-true _ y h) free)
  target_set xs ys g good base mode y (concatenation p es) n h free = targets_set xs ys g good base mode y es n h (both_empty (all_target_faults g mode es) _ free).0
  target_set xs ys g good base mode y (literal p v) n h free = absurd (no_leaf g mode (literal p v) _ good.empty free)
  target_set xs ys g good base mode y (unary_operator p op a) n h free = absurd (no_leaf g mode (unary_operator p op a) _ good.empty free)
  target_set xs ys g good base mode y (binary_operator p op a b) n h free = absurd (no_leaf g mode (binary_operator p op a b) _ good.empty free)
  target_set xs ys g good base mode y (conditional p c a b) n h free = absurd (no_leaf g mode (conditional p c a b) _ good.empty free)
  target_set xs ys g good base mode y (replication p k es) n h free = absurd (no_leaf g mode (replication p k es) _ good.empty free)
  target_set xs ys g good base mode y (sign_cast p s a) n h free = absurd (no_leaf g mode (sign_cast p s a) _ good.empty free)
  target_set xs ys g good base mode y (parentheses p a) n h free = absurd (no_leaf g mode (parentheses p a) _ good.empty free)

  pub targets_set : (xs : List Signal) (ys : List Memory) (g : Scope) → IsGoodScope xs ys g → (base : ℕ) (mode : Mode) (y : ℕ) (es : Exprs) (n : ℕ) → some_target_names y (targets base g es n) ≡ true → all_target_faults g mode es ≡ [] → (x : Expr) × In x (all_leaves es) × IsLeaf g base mode y x
  targets_set xs ys g good base mode y no_exprs n h free = absurd (false≢true h)
  targets_set xs ys g good base mode y (an_expr e es) n h free =
      let q = both_empty (target_faults g mode e) (all_target_faults g mode es) free in
      by_side (λ k. target_set xs ys g good base mode y e n k q.0) (λ k. targets_set xs ys g good base mode y es (n + nodes g e) k q.1) (one_of _ _ h)
    where
      by_side : (target_names y (target base g e n) ≡ true → (x : Expr) × In x (leaves e) × IsLeaf g base mode y x) → (some_target_names y (targets base g es (n + nodes g e)) ≡ true → (x : Expr) × In x (all_leaves es) × IsLeaf g base mode y x) →
          (target_names y (target base g e n) ≡ true) ⊎ (some_target_names y (targets base g es (n + nodes g e)) ≡ true) → (x : Expr) × In x (leaves e ++ all_leaves es) × IsLeaf g base mode y x
      by_side f k (inl a) = let r = f a in (r.0, in_left r.0 (leaves e) (all_leaves es) r.1, r.2)
      by_side f k (inr a) = let r = k a in (r.0, in_right r.0 (leaves e) (all_leaves es) r.1, r.2)

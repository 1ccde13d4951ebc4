-- What the declared names of an instance add to the lists of the design.
use Rattle.std.proofs.Common.{◌≡◌, ℕ, Bool, true, false, cond, List, [], ◌∷◌, ◌++◌, map, Some, refl, sym, ap, ◌∙◌}
use Rattle.std.specs.Prelude.{filter, flat_map, if◌then◌else◌, Option, None}
use Rattle.design_model.specs.declared.design.Range.{Range}
use Rattle.design_model.specs.declared.design.Memory.{Memory}
use Rattle.design_model.specs.declared.design.Signal.{Signal}
use Rattle.flat_design.specs.Declarations.{Declaration, Sort, a_net, a_variable, words_from, an_integer, a_parameter, some_instance, faulty, faulty_memory}
use Rattle.flat_design.specs.Instances.{Instantiation, is_memory, is_own, memory_of, signal_of, sort_words}
use Rattle.elab_instances.specs.Linked.{Linked, linked_of}
use Rattle.elab_instances.specs.Parts.{own_memories, own_signals}
use Rattle.elab_instances.specs.Roles.{role_of, signal_role, sort_role}
use Rattle.elab_instances.specs.declared.roles.Role.{Role}
use Rattle.elab_instances.specs.declared.roles.Role.TheVariants.{Own, Joined, Memory as a_memory, LoopVariable, Instance, Faulty}
use Rattle.elab_instances.proofs.RoleLemmas.{memory_role, own_role}

-- those that pass a test, one by one
one_by_one : {A B : Type 0} (f : A → B) (p q : A → Bool) → ((x : A) → p x ≡ q x) → (xs : List A) → flat_map (λ x. if p x then f x ∷ [] else []) xs ≡ map f (filter q xs)
one_by_one f p q same [] = refl
one_by_one f p q same (x ∷ xs) = ap (λ b. (if b then f x ∷ [] else []) ++ flat_map (λ y. if p y then f y ∷ [] else []) xs) (same x) ∙ by (q x) (one_by_one f p q same xs)
  where
    by : (b : Bool) → flat_map (λ y. if p y then f y ∷ [] else []) xs ≡ map f (filter q xs) → (if b then f x ∷ [] else []) ++ flat_map (λ y. if p y then f y ∷ [] else []) xs ≡ map f (cond b (x ∷ filter q xs) (filter q xs))
    by true rest = ap (λ ys. f x ∷ ys) rest
    by false rest = rest

-- all signals of an instance's own
pub all_signals : (i : Instantiation) (n : ℕ) (ds : List Declaration) → flat_map (own_signals n i.is_top (linked_of i)) ds ≡ map (signal_of n i.is_top) (filter (is_own i.aliases i.of_module) ds)
all_signals i n ds = one_by_one (signal_of n i.is_top) _ (is_own i.aliases i.of_module) (own_role i) ds

-- all memories
pub all_memories : (l : Linked) (n : ℕ) (ds : List Declaration) → flat_map (own_memories n l) ds ≡ map (memory_of n) (filter is_memory ds)
all_memories l n ds = one_by_one (memory_of n) _ is_memory (memory_role l) ds

words_signal : (o : Option ℕ) (r q : Range) → signal_role o ≡ a_memory r → q ≡ r
words_signal None r q h = absurd cc
words_signal (Some n) r q h = absurd cc

words_sort : (o : Option ℕ) (named : Bool) (s : Sort) (r : Range) → sort_role o named s ≡ a_memory r → sort_words s ≡ r
words_sort o named a_net r h = words_signal o r _ h
words_sort o named a_variable r h = words_signal o r _ h
words_sort o named (words_from q) r h = cc
words_sort o true an_integer r h = words_signal o r _ h
words_sort o false an_integer r h = absurd cc
words_sort o named a_parameter r h = absurd cc
words_sort o named some_instance r h = absurd cc
words_sort o named faulty r h = absurd cc
words_sort o named faulty_memory r h = absurd cc

-- the words of a memory are those of its role
pub words_are : (l : Linked) (d : Declaration) (r : Range) → role_of l d ≡ a_memory r → sort_words d.sort ≡ r
words_are l d r h = words_sort (l.outer d.name.name) (l.named d.name.name) d.sort r h

-- The faults of the header of a loop, by those outside its turns and those in a turn.
use Rattle.std.proofs.Common.{◌≡◌, Bool, true, false, List, [], ◌∷◌, ◌++◌, Result, Ok, refl, sym, ap, ◌∙◌, append_assoc}
use Rattle.std.specs.Prelude.{◌*◌, ◌&&◌, ◌||◌, not, if◌then◌else◌}
use Rattle.four_state.specs.Vector.{Vector}
use Rattle.tree_sizes.specs.Sizes.{header_size}
use Rattle.verilog_tree.specs.Tree.{Header}
use Rattle.elab_const.specs.Calls.{told}
use Rattle.elab_const.specs.Loops.{turns_answer}
use Rattle.elab_const.specs.declared.fault.ConstFault.{ConstFault}
use Rattle.flat_design.specs.Bodies.{Met, met_faults, met_text}
use Rattle.flat_design.specs.Fault.{answer_faults, none}
use Rattle.flat_design.specs.Loops as loops
use Rattle.flat_design.specs.Loops.{in_some_turn, header_faults, header_names_faulty, over_faults, named_faults, times, turn_faults, turns_size, values_of}
use Rattle.flat_design.specs.Scope.{Scope, names, names_faulty}
use Rattle.elab_scope.specs.Tally.{Tally, after_all, after_faults}
use Rattle.elab_scope.proofs.TallyLemmas.{after_all-faults}
use Rattle.elab_checks.specs.Turns.{outer_faults, inner_faults, outer_names_faulty, is_sound}
use Rattle.elab_checks.proofs.ExpressionLemmas.{none_append}
use Rattle.elab_checks.proofs.MetLemmas.{after_two}

sound_parts : (m n a b c : Bool) → ((m && n) && not ((a || b) || c)) ≡ ((m && not a) && (n && not (b || c)))
sound_parts false n a b c = refl
sound_parts true n false b c = refl
sound_parts true true true b c = refl
sound_parts true false true b c = refl

-- the faults of names in parts
pub header_faults_are : (g : Scope) (h : Header) → header_faults g h ≡ outer_faults g h ++ inner_faults (in_some_turn h g) h
header_faults_are g h = append_assoc (outer_faults g h) (named_faults (in_some_turn h g) h.place h.test) (named_faults (in_some_turn h g) h.place h.step)

sound_is : (g : Scope) (h : Header) → (none (header_faults g h) && not (header_names_faulty g h)) ≡ is_sound g h
sound_is g h =
    ap (λ b. b && not (header_names_faulty g h)) (ap none (header_faults_are g h) ∙ none_append (outer_faults g h) (inner_faults (in_some_turn h g) h)) ∙ sound_parts (none (outer_faults g h)) (none (inner_faults (in_some_turn h g) h)) (outer_names_faulty g h) (names_faulty (in_some_turn h g) h.test) (names_faulty (in_some_turn h g) h.step)

pub answer_is : (g : Scope) (h : Header) (b : Bool) → is_sound g h ≡ b → loops.answer g h ≡ (if b then told (turns_answer (names g) h) else Ok [])
answer_is g h b is = ap (λ t. if t then told (turns_answer (names g) h) else Ok []) (sound_is g h ∙ is)

-- such a header has the turns of its constants
pub sound_turns : (g : Scope) (h : Header) → is_sound g h ≡ true → loops.turns g h ≡ values_of (told (turns_answer (names g) h))
sound_turns g h sound = ap values_of (answer_is g h true sound)

-- any other has no turns
pub no_turns : (g : Scope) (h : Header) → is_sound g h ≡ false → loops.turns g h ≡ []
no_turns g h fails = ap values_of (answer_is g h false fails)

-- the faults of its names, and then what is met by the answer of its constants
pub met_header : (t u : Tally) (g : Scope) (h : Header) (a : Result (List Vector) ConstFault) → u ≡ after_faults t (header_faults g h) → loops.answer g h ≡ a →
    after_all u (met_faults (answer_faults a) ++ met_text h.place (header_size h * times a) ∷ []) ≡ after_all t (met_faults (turn_faults g h) ++ met_text h.place (turns_size g h) ∷ [])
met_header t u g h a named is =
    let text : Result (List Vector) ConstFault → List Met = λ b. met_text h.place (header_size h * times b) ∷ [] in
    let told_faults = after_two t (header_faults g h) (answer_faults a) named refl in
    after_all-faults u (answer_faults a) (text a) ∙ ap (λ s. after_all s (text a)) told_faults ∙ sym (after_all-faults t (header_faults g h ++ answer_faults a) (text a)) ∙ ap (λ b. after_all t (met_faults (header_faults g h ++ answer_faults b) ++ text b)) (sym is)

-- The values of a `score` command have the forms of their options.
use Rattle.std.proofs.Common.{◌≡◌, ◌&&◌, ℕ, Bool, true, false, List, [], ◌∷◌, Option, Some, None, refl, subst, IsTrue}
use Rattle.std.specs.Prelude.{IfSome}
use Rattle.std.specs.List.{All, AllByRecursion, list_all}
use Rattle.std.proofs.lemmas.Bool.{false≢true}
use Rattle.std.proofs.lemmas.List.Elements.{All-from_recursion, All-map, All-weaker}
use Rattle.cov_host.specs.Identifier.{is_identifier}
use Rattle.command_line.specs.declared.score_option.ScoreOption.{ScoreOption}
use Rattle.command_line.specs.declared.score_option.ScoreOption.TheVariants.{Top, Instance, Source, Define, Folder, Dump, Output, States, Arcs}
use Rattle.command_line.specs.CommandWords.{at_most_one, values_in, AreDrawingIdentifiers, AreIdentifiers, HaveForms, IsScore, ScoreValues}
use Rattle.command_line.specs.Define.{define_of, Define as Defined}
use Rattle.command_line.specs.DrawingWords.{current_of, drawing_of, is_drawing}
use Rattle.command_line.specs.MachineWords.{are_counted, is_machine, machine_of, module_of, names_in, names_text, variable_of}
use Rattle.command_line.specs.ScoreOption.{accepts}
use Rattle.command_line.specs.ValueForm.{is_file_name}
use Rattle.command_line.proofs.GivenLemmas.{values_accepted}

folder_form : (folder : Option (List ℕ)) → AllByRecursion (λ name. IsTrue (is_file_name name)) (at_most_one folder) → IfSome folder (λ name. IsTrue (is_file_name name))
folder_form None forms = tt
folder_form (Some name) forms = forms.0

-- the names of a value of the form of a machine are identifiers
both_so : (a b : Bool) → (a && b) ≡ true → (a ≡ true) × (b ≡ true)
both_so true b h = (refl, h)
both_so false b h = absurd (false≢true h)

each_passes : (p : List ℕ → Bool) (xs : List (List ℕ)) → list_all p xs ≡ true → AllByRecursion (λ x. IsTrue (p x)) xs
each_passes p [] h = tt
each_passes p (x ∷ xs) h = let b = both_so (p x) (list_all p xs) h in (b.0, each_passes p xs b.1)

identifiers : (value : List ℕ) → IsTrue (is_machine value) → AreIdentifiers (machine_of value)
identifiers value form =
    let first = both_so (is_identifier (module_of value)) _ form in
    let second = both_so (is_identifier (variable_of value)) _ first.1 in
    let third = both_so (are_counted (names_in (names_text value))) _ second.1 in
    record { of_module = first.0; variable = second.0; names = All-from_recursion (λ name. IsTrue (is_identifier name)) (names_in (names_text value)) (each_passes is_identifier (names_in (names_text value)) third.1) }

drawing_identifiers : (value : List ℕ) → IsTrue (is_drawing value) → AreDrawingIdentifiers (drawing_of value)
drawing_identifiers value form =
    let first = both_so (is_identifier (module_of value)) _ form in
    let second = both_so (is_identifier (current_of value)) _ first.1 in
    record { of_module = first.0; current = second.0; next = second.1 }

pub score_forms : (words : List (List ℕ)) (values : ScoreValues) → IsScore words values → HaveForms values
score_forms words values is =
    let forms = λ (option : ScoreOption). values_accepted is.0 option is.1.are_given.forms in
    let form = λ (option : ScoreOption) (value : List ℕ) (one : values_in is.0 option ≡ value ∷ []). (subst (AllByRecursion (λ value. IsTrue (accepts option value))) one (forms option)).0 in
    let sources = All-from_recursion (λ name. IsTrue (is_file_name name)) (values_in is.0 Source) (forms Source) in
    let names = All-from_recursion (λ value. IsTrue (accepts Define value)) (values_in is.0 Define) (forms Define) in
    let machines = All-from_recursion (λ value. IsTrue (accepts States value)) (values_in is.0 States) (forms States) in
    let drawings = All-from_recursion (λ value. IsTrue (accepts Arcs value)) (values_in is.0 Arcs) (forms Arcs) in
    let HasName : Defined → Type 0 = λ define. IsTrue (is_identifier define.name) in
    record {
      top = form Top values.top is.2.top;
      instance = form Instance values.instance is.2.instance;
      some = is.2.some;
      sources = subst (All (λ name. IsTrue (is_file_name name))) is.2.sources sources;
      defines = subst (All HasName) is.2.defines (All-map HasName define_of (values_in is.0 Define) names);
      folder = folder_form values.folder (subst (AllByRecursion (λ name. IsTrue (is_file_name name))) is.2.folder (forms Folder));
      dump = form Dump values.dump is.2.dump;
      output = form Output values.output is.2.output;
      machines = subst (All AreIdentifiers) is.2.machines (All-map AreIdentifiers machine_of (values_in is.0 States) (All-weaker (λ value. IsTrue (is_machine value)) (λ value. AreIdentifiers (machine_of value)) identifiers (values_in is.0 States) machines));
      drawings = subst (All AreDrawingIdentifiers) is.2.drawings (All-map AreDrawingIdentifiers drawing_of (values_in is.0 Arcs) (All-weaker (λ value. IsTrue (is_drawing value)) (λ value. AreDrawingIdentifiers (drawing_of value)) drawing_identifiers (values_in is.0 Arcs) drawings));
    }

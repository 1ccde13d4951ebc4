-- Items, and one more of them.
use Rattle.std.proofs.Common.{◌≡◌, ◌∙◌, ℕ, ◌≤◌, ◌==◌, Bool, true, false, cond, sym, ap, refl, subst, arith, List, [], ◌∷◌, ◌++◌, length, append_assoc, append-nil, length-append, Some, None}
use Rattle.std.specs.List.{last_or}
use Rattle.std.proofs.lemmas.Bool.{eqb-true}
use Rattle.command_line.specs.declared.database_command.DatabaseCommand.{DatabaseCommand}
use Rattle.command_line.specs.declared.database_option.DatabaseOption.{DatabaseOption}
use Rattle.command_line.specs.DatabaseOption.{has_room, is_same}
use Rattle.command_line.specs.DatabaseWords.{Item, file, given, item_words, spelled, files_in, value_in, values_in, MayFollow, AreItems}
use Rattle.command_line.proofs.GivenLemmas.{last_or-push}

spelled-append : (items more : List Item) → spelled (items ++ more) ≡ spelled items ++ spelled more
spelled-append [] more = refl
spelled-append (x ∷ items) more = ap (λ words. item_words x ++ words) (spelled-append items more) ∙ sym (append_assoc (item_words x) (spelled items) (spelled more))

-- the words of one more item
pub spelled-push : (items : List Item) (x : Item) (all left : List (List ℕ)) → all ≡ item_words x ++ left → spelled items ++ all ≡ spelled (items ++ x ∷ []) ++ left
spelled-push items x all left is =
    ap (λ rest. spelled items ++ rest) is
    ∙ sym (append_assoc (spelled items) (item_words x) left)
    ∙ ap (λ words. (spelled items ++ words) ++ left) (sym (append-nil (item_words x)))
    ∙ ap (λ words. words ++ left) (sym (spelled-append items (x ∷ [])))

pub files_in-append : (items more : List Item) → files_in (items ++ more) ≡ files_in items ++ files_in more
files_in-append [] more = refl
files_in-append (file name ∷ items) more = ap (λ files. name ∷ files) (files_in-append items more)
files_in-append (given option value ∷ items) more = files_in-append items more

values_in-append : (items more : List Item) (option : DatabaseOption) → values_in (items ++ more) option ≡ values_in items option ++ values_in more option
values_in-append [] more option = refl
values_in-append (file name ∷ items) more option = values_in-append items more option
values_in-append (given other value ∷ items) more option =
    let rest = values_in-append items more option in
    elim (is_same other option) as (λ b. cond b (value ∷ values_in (items ++ more) option) (values_in (items ++ more) option) ≡ cond b (value ∷ values_in items option) (values_in items option) ++ values_in more option) [
      | true ↦ ap (λ values. value ∷ values) rest
      | false ↦ rest
    ]

-- a database gives no option a value
pub value_in-file : (items : List Item) (name : List ℕ) (option : DatabaseOption) → value_in (items ++ file name ∷ []) option ≡ value_in items option
value_in-file items name option = ap (last_or None) (values_in-append items (file name ∷ []) option ∙ append-nil (values_in items option))

-- after one more option its value is the last
pub value_in-given : (items : List Item) (option : DatabaseOption) (value : List ℕ) (other : DatabaseOption) → value_in (items ++ given option value ∷ []) other ≡ cond (is_same option other) (Some value) (value_in items other)
value_in-given items option value other =
    ap (last_or None) (values_in-append items (given option value ∷ []) other)
    ∙ elim (is_same option other) as (λ b. last_or None (values_in items other ++ cond b (value ∷ []) []) ≡ cond b (Some value) (last_or None (values_in items other))) [
      | true ↦ last_or-push None (values_in items other) value
      | false ↦ ap (last_or None) (append-nil (values_in items other))
    ]

-- items stay so with one more that may follow them
pub AreItems-push : (command : DatabaseCommand) (before items : List Item) (x : Item) → AreItems command before items → MayFollow command (before ++ items) x → AreItems command before (items ++ x ∷ [])
AreItems-push command before [] x are may = (subst (λ all. MayFollow command all x) (append-nil before) may, tt)
AreItems-push command before (y ∷ items) x are may =
    (are.0, AreItems-push command (before ++ y ∷ []) items x are.1 (subst (λ all. MayFollow command all x) (sym (append_assoc before (y ∷ []) items)) may))

-- a command that has room for the first database alone has at most one among its items
module _ (command : DatabaseCommand) (first_alone : (first : Bool) → has_room command first ≡ true → first ≡ true) where
  one_file : (before items : List Item) → AreItems command before items → length (files_in before) ≤ 1 → length (files_in (before ++ items)) ≤ 1
  one_file before [] are few = subst (λ all. length (files_in all) ≤ 1) (sym (append-nil before)) few
  one_file before (file name ∷ items) are few =
      let none : length (files_in before) ≡ 0 = eqb-true (length (files_in before)) 0 (first_alone (length (files_in before) == 0) are.0.1) in
      let one : length (files_in (before ++ file name ∷ [])) ≤ 1 = omega (arith, ap length (files_in-append before (file name ∷ [])), length-append (files_in before) (name ∷ [])) in
      subst (λ all. length (files_in all) ≤ 1) (append_assoc before (file name ∷ []) items) (one_file (before ++ file name ∷ []) items are.1 one)
  one_file before (given option value ∷ items) are few =
      let same : length (files_in (before ++ given option value ∷ [])) ≤ 1 = omega (arith, ap length (files_in-append before (given option value ∷ [])), length-append (files_in before) []) in
      subst (λ all. length (files_in all) ≤ 1) (append_assoc before (given option value ∷ []) items) (one_file (before ++ given option value ∷ []) items are.1 same)

  -- so a list of its databases that begins with one ends with it
  pub the_one_file : (items : List Item) (name : List ℕ) (others : List (List ℕ)) → AreItems command [] items → files_in items ≡ name ∷ others → files_in items ≡ name ∷ []
  the_one_file items name [] are is = is
  the_one_file items name (other ∷ others) are is =
      let few = one_file [] items are (omega arith) in absurd (omega (arith, few, ap length is))

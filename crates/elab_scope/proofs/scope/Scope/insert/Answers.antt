use Rattle.std.proofs.Common.{refl, sym, ap, subst, ◌∙◌, ◌≡◌, Some, None}
use Rattle.std.specs.Prelude.{All}
use Rattle.indexmap.specs.IndexMap.{insert_entry}
use Rattle.elab_const.specs.Scope as constants
use Rattle.elab_const.proofs.ScopeLemmas.{bound_to, same_key, IsBound, fun_ext, inserted_name, inserted_all}
use Rattle.flat_design.specs.Scope.{names}
use Rattle.elab_scope.specs.Entries.{IsEntry}
use Rattle.elab_scope.proofs.ScopeLemmas.{values_after}
use Rattle.elab_scope.proofs.scope.Scope.insert.Goals as goal
use Rattle.elab_scope.proofs.scope.Scope.insert.Goals.{in-Some+in_ok-insert_name-in-Some, in-None, In_ok-insert}

key_is : (c : In_ok-insert) → c.in_ok-key.key.items ≡ c.args.name.now
key_is c = c.in_ok-key.ensures.items ∙ c.as_slice.ensures

before : (c : In_ok-insert) → c.match-value_entry.self-inside.entries.entries ≡ c.self.inside.entries.entries
before c =
    elim c.match-value_entry.branch [
      | in-Some+in_ok-insert_name-in-Some w ↦ ap (λ s. s.entries.entries) w.self-inside-is ∙ c.reserve.ensures.entries
      | in-None w ↦ ap (λ s. s.entries.entries) w.self-inside-is ∙ c.reserve.ensures.entries
    ]

-- the entries are the old ones with the new one
entries_are : (c : In_ok-insert) → c.insert.new.self.entries ≡ insert_entry same_key c.self.inside.entries.entries c.in_ok-key.key c.args.entry
entries_are c = c.in_ok-insert.ensures.entries ∙ ap (λ es. insert_entry same_key es c.in_ok-key.key c.args.entry) (before c)

values_are : (c : In_ok-insert) → constants.look_up c.match-value_entry.self-inside.values ≡ names (bound_to (insert_entry same_key c.self.inside.entries.entries c.in_ok-key.key c.args.entry))
values_are c =
    let after = values_after c.in_ok-key.key c.args.entry c.self.inside.entries.entries in
    let old = constants.look_up c.self.inside.values in
    elim c.match-value_entry.branch [
      | in-Some+in_ok-insert_name-in-Some w ↦
          ap (λ s. constants.look_up s.values) w.self-inside-is
          ∙ after (Some w.in-Some.value) old _ (sym c.value_entry.ensures.value ∙ w.in-Some.is) c.self.invariant.1
          (w.in_ok-insert_name-in-Some.ensures.ok ∙ ap (λ n. constants.with_entry n w.in-Some.value old) (sym (key_is c)))
      | in-None w ↦
          ap (λ s. constants.look_up s.values) w.self-inside-is
          ∙ after None old _ (sym c.value_entry.ensures.value ∙ w.in-None.is) c.self.invariant.1
          (w.remove.ensures ∙ ap (λ n. constants.without_entry n old) (sym (key_is c)))
    ]

pub invariant_of-self-2 : goal.invariant_of-self-2
invariant_of-self-2 c = (
  subst (λ es. All (IsBound IsEntry) es) (sym (entries_are c)) (inserted_all IsEntry c.in_ok-key.key c.args.entry c.self.inside.entries.entries c.requires c.self.invariant.0),
  values_are c ∙ ap (λ es. names (bound_to es)) (sym (entries_are c)),
)

pub returns : goal.returns
returns c =
    fun_ext (λ x.
    ap (λ es. bound_to es x) (entries_are c) ∙ inserted_name c.in_ok-key.key c.args.entry c.self.inside.entries.entries x ∙ rw (key_is c, c.self.view_is) refl)

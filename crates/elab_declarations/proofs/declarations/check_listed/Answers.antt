use Rattle.std.proofs.Common.{◌≡◌, ◌<◌, ◌+◌, ◌||◌, ◌∷◌, ℕ, Bool, true, false, List, length, drop, drop-cons, add-one, get_or, not, refl, sym, ap, ◌∙◌, arith}
use Rattle.std.specs.Prelude.{bytes_eq}
use Rattle.verilog_tree.specs.declared.item.Named.{Named}
use Rattle.flat_design.specs.Bodies.{met_fault}
use Rattle.flat_design.specs.Declarations.{listed_twice}
use Rattle.flat_design.specs.Fault.{fault_at, fault_if}
use Rattle.flat_design.specs.Identifiers.{is_among}
use Rattle.flat_design.specs.declared.fault.ElabKind.TheVariants.{TwiceDeclared}
use Rattle.elab_scope.specs.NameSet.{has}
use Rattle.elab_scope.specs.Tally.{Tally, after, after_faults}
use Rattle.elab_scope.proofs.TallyLemmas.{after_faults-append}
use Rattle.elab_declarations.proofs.declarations.check_listed.Goals as goal
use Rattle.elab_declarations.proofs.declarations.check_listed.Goals.{then-not-branch, else-not-branch}

-- the set says whether the name is there
is_new : (c : goal.Joined-not-branch) → c.in_ok-add.field-0 ≡ not (is_among c.loop-port.invariant.0 c.port-item.result.name)
is_new c =
    c.in_ok-add.ensures.added ∙ ap (λ n. not (has c.loop-port.sofar n)) c.as_slice.ensures ∙ ap (λ names. not (names c.port-item.result.name)) c.loop-port.invariant.1

there : (a b : Bool) → a ≡ not b → a ≡ false → b ≡ true
there a true p q = refl
there a false p q = cc

away : (a b : Bool) → a ≡ not b → a ≡ true → b ≡ false
away a false p q = refl
away a true p q = cc

-- the tally after this port
tally_is : (c : goal.Joined-not-branch) → c.if-not-branch.tally ≡ after_faults c.loop-port.tally (fault_if (is_among c.loop-port.invariant.0 c.port-item.result.name) (fault_at TwiceDeclared c.port-item.result))
tally_is c =
    elim c.if-not-branch.branch [
      | then-not-branch w ↦
          rw (there _ _ (is_new c) w.if-not-branch.true) (w.tally-is ∙ w.fault.ensures ∙ ap (λ f. after c.loop-port.tally (met_fault f)) (w.at.ensures ∙ ap (fault_at TwiceDeclared) w.of.ensures))
      | else-not-branch w ↦ rw (away _ _ (is_new c) w.if-not-branch.false) w.tally-is
    ]

-- one port more
listed_more : (names ports : List Named) (i : ℕ) (x : Named) (t : Tally) → i < length ports → x ≡ get_or ports i x →
    after_faults t (listed_twice names (drop i ports)) ≡ after_faults (after_faults t (fault_if (is_among names x.name) (fault_at TwiceDeclared x))) (listed_twice (x ∷ names) (drop (i + 1) ports))
listed_more names ports i x t within is =
    rw (drop-cons ports i x within, ← is, add-one i) (after_faults-append t (fault_if (is_among names x.name) (fault_at TwiceDeclared x)) _)

pub loop-port-preserved : goal.loop-port-preserved
loop-port-preserved c =
    let x = c.port-item.result in
    let h = c.loop-port.invariant in
    let names : has c.add.new.self ≡ is_among (x ∷ h.0) = c.in_ok-add.ensures.names ∙ ap (λ n. has (n ∷ c.loop-port.sofar)) c.as_slice.ensures ∙ ap (λ f. λ y. bytes_eq x.name y || f y) h.1 in
    (x ∷ h.0, names, ap (λ t. after_faults t (listed_twice (x ∷ h.0) (drop (c.loop-port.port-index + 1) c.args.ports.now))) (tally_is c) ∙ sym (listed_more h.0 c.args.ports.now c.loop-port.port-index x c.loop-port.tally (omega arith) c.port-item.is) ∙ h.2)

-- Each instance that is opened is the top, or below one that was opened.
use Rattle.std.proofs.Common.{◌≡◌, ◌⊎◌, inl, inr, ℕ, ◌≤◌, List, [], ◌∷◌, Option, None, Some, Ok, refl, sym, ap, subst, ◌∙◌, length, arith, slice_index_or, append_assoc}
use Rattle.std.proofs.lemmas.Bool.{false≢true}
use Rattle.design_model.specs.Design.{Design, In, no_instance}
use Rattle.design_model.specs.declared.design.Instance.{Instance}
use Rattle.verilog_tree.specs.Tree.{Module}
use Rattle.flat_laws.specs.flat_design.Faults.{answer}
use Rattle.flat_laws.specs.flat_design.Flat.{elaborated, elaborated_from, module_of, start, top_instance}
use Rattle.flat_laws.specs.flat_design.Instances.{Instantiation, Sofar, dotted, opened}
use Rattle.flat_laws.proofs.Freedom.{IsFree, IsSound, answered_sound}
use Rattle.flat_laws.proofs.LawfulLimits.{answered_design, answered_keeps, base_of}
use Rattle.flat_laws.proofs.Members.{in_append}
use Rattle.flat_laws.proofs.Steps.{Steps, instance_opens}
use Rattle.instance_paths.specs.Rooted.{IsRooted, IsUnder}

-- a path with one more name
dotted_under : (top path name : List ℕ) → IsUnder top path → IsUnder top (dotted path name)
dotted_under top path name (inl e) = inr (name, ap (λ z. dotted z name) e)
dotted_under top path name (inr k) = inr (dotted k.0 name, ap (λ z. dotted z name) k.1 ∙ append_assoc top (46 ∷ k.0) (46 ∷ name))

-- the instances so far are the top or below it
record AreUnder (top : List ℕ) (d : Design) : Type 0 where
  top_is : d.top ≡ top
  instances : (x : Instance) → In x d.instances → IsUnder top x.path

-- so is one that is to be opened
record IsNext (top : List ℕ) (i : Instantiation) (st : Sofar) : Type 0 where
  place : IsUnder top i.path

under_opened : (top : List ℕ) (i : Instantiation) (st : Sofar) → IsNext top i st → AreUnder top st.design → AreUnder top (opened i st).design
under_opened top i st next h = record { top_is = h.top_is; instances = λ x k. by_instance x (in_append x st.design.instances (here ∷ []) k) }
  where
    here : Instance
    here = record { path = i.path; «module» = i.of_module.name.name }

    by_instance : (x : Instance) → In x st.design.instances ⊎ In x (here ∷ []) → IsUnder top x.path
    by_instance x (inl k) = h.instances x k
    by_instance x (inr (inl e)) = subst (λ (y : Instance). IsUnder top y.path) e next.place
    by_instance x (inr (inr k)) = absurd k

under_steps : (base : ℕ) (ms : List Module) (top : List ℕ) → Steps base ms (λ st. AreUnder top st.design) (λ depth. IsNext top)
under_steps base ms top = record {
  meets = λ st h. h;
  opens = λ depth i st free known h. under_opened top i st known h;
  assigns = λ depth i before st here x x_in y v n assigned free h. record { top_is = h.top_is; instances = h.instances };
  runs = λ depth i before st here x x_in w s l n form free h. record { top_is = h.top_is; instances = h.instances };
  inputs = λ depth i before at st x k m o inside j s joined way free h. record { top_is = h.top_is; instances = h.instances };
  outputs = λ depth i before at st x k m o inside j s joined way free h. record { top_is = h.top_is; instances = h.instances };
  below = λ depth i before st here h x k m o under. record { place = dotted_under top i.path o.name.name here.known.place };
}

all_under : (ms : List Module) (top : List ℕ) → IsSound ms top → AreUnder top (elaborated ms top).design
all_under ms top sound =
    answered_keeps ms top (λ st. AreUnder top st.design) (λ depth. IsNext top) (under_steps (base_of ms top) ms top) (λ m found. record { place = inl refl })
    (record { top_is = refl; instances = λ x h. absurd h }) sound

-- the first instance is the top
record StartsAtTop (top : List ℕ) (d : Design) : Type 0 where
  some : 1 ≤ length d.instances
  first : (slice_index_or d.instances 0 no_instance).path ≡ top

from_starts : (base : ℕ) (ms : List Module) (top : List ℕ) (found : Option Module) → module_of ms top ≡ found → IsFree (elaborated_from base ms top found).met → StartsAtTop top (elaborated_from base ms top found).design
from_starts base ms top None is free = absurd (false≢true (sym free.no_fault))
from_starts base ms top (Some m) is free =
    let opens = (instance_opens base ms 64 (top_instance top m) (start top) free).instances in
    record {
      some = subst (λ xs. 1 ≤ length xs) (sym opens.whole) (omega arith);
      first = ap (λ xs. (slice_index_or xs 0 no_instance).path) opens.whole;
    }

pub rooted : (ms : List Module) (top : List ℕ) (d : Design) → answer ms top ≡ Ok d → IsRooted d
rooted ms top d e =
    let sound = answered_sound ms top d e in
    let is = answered_design ms top d e in
    let starts = subst (StartsAtTop top) is (from_starts (base_of ms top) ms top (module_of ms top) refl sound.told.free) in
    let under = subst (AreUnder top) is (all_under ms top sound) in
    record {
      some = starts.some;
      first = starts.first ∙ sym under.top_is;
      under = λ x h. subst (λ t. IsUnder t x.path) (sym under.top_is) (under.instances x h);
    }

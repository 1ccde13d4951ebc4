use Rattle.std.proofs.Common.{[], ◌∷◌, inl, lit<, refl, true}
use Rattle.four_state.specs.declared.bit.Bit.TheVariants.{One, Zero}
use Rattle.design_model.specs.Design.{nowhere}
use Rattle.design_model.specs.Tree.{a_stmt, a_term, block, no_stmts, no_terms}
use Rattle.fsm_extract.specs.Parts.{inside, itself}
use Rattle.worked_examples.specs.Arc.Counter.{a_case, arms, becomes, constant, of_width}
use Rattle.worked_examples.proofs.arcs.arc_example.Goals as goal

pub returns : goal.returns
returns c =
    record {
      arc = record {
        process = 0;
        statement = becomes (Zero ∷ One ∷ []);
        from = record {
          place = nowhere;
          line = 1;
          selector = of_width 3;
          arms = arms;
          a_case = inside a_case (block nowhere (a_stmt a_case no_stmts)) itself (inl refl);
          labels = a_term (constant 3 (One ∷ Zero ∷ Zero ∷ [])) no_terms;
          an_arm = inl (refl, refl);
          label = constant 3 (One ∷ Zero ∷ Zero ∷ []);
          a_label = inl refl;
          matched = record { constant = refl; known = refl; inside = lit< tt; equal = refl };
        };
        assigns = record { place = nowhere; line = 1; blocking = true; right = constant 2 (Zero ∷ One ∷ []); a_set = itself; gives = record { constant = refl; inside = lit< tt; given = refl } };
      };
      arcs = refl;
      states = refl;
    }

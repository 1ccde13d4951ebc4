-- The line points and the counted nodes of a process have numbers from 1, and the places of its text.
use Rattle.std.proofs.Common.{◌≡◌, ◌+◌, ◌≤◌, ℕ, true, false, List, ◌++◌, refl, subst, arith}
use Rattle.cov_host.specs.declared.place.Place.{Place}
use Rattle.design_model.specs.Design.{In, no_process}
use Rattle.design_model.specs.Mentions.{body_terms, index_terms, subterms}
use Rattle.design_model.specs.Numbered as law
use Rattle.design_model.specs.Numbered.{LineAt, NodeAt, lines_of, nodes_in, nodes_of}
use Rattle.design_model.specs.Tree.{Process, Stmt, Target, Term, assign}
use Rattle.flat_design.specs.Bodies.{statement}
use Rattle.flat_design.specs.Numbering.{lines, nodes, statement_nodes}
use Rattle.flat_design.specs.Processes.{process_of}
use Rattle.flat_design.specs.Scope.{Scope, shape}
use Rattle.flat_design.specs.Targets.{target}
use Rattle.flat_design.specs.Terms.{right_side}
use Rattle.design_names.proofs.flat_laws.NodesInText.{among_nodes, nodes_in_text, target_in_text, statement_in_text}
use Rattle.design_names.proofs.flat_laws.Once.{Once}
use Rattle.design_names.proofs.flat_laws.TextLines.{line_number, text_lines, lines_once, lines_in_text}
use Rattle.design_names.proofs.flat_laws.TextNodes.{node_number, text_nodes, nodes_once, two_once, statement_text, statement_once}
use Rattle.grammar_rules.proofs.Holds.{AllOf}
use Rattle.design_names.proofs.parsed_modules.Lists.{all_append, all_in}
use Rattle.tree_places.specs.Placed.{IsPlaced, IsPlacedBody}
use Rattle.verilog_tree.specs.declared.item.When.{When}
use Rattle.verilog_tree.specs.declared.item.When.TheVariants.{Star, Names, Edges}
use Rattle.verilog_tree.specs.Tree.{Expr, Statement}
use Rattle.written_designs.proofs.Texts.{LineIsAt, NodeIsAt, nodes_at, statement_at, lines_at}

-- a number from 1 up to the greatest, and such a place
pub record IsPart (P : Place → Type 0) (most n : ℕ) (p : Place) : Type 0 where
  pub from : 1 ≤ n
  pub to : n ≤ most
  pub place : P p

-- each line point and each counted node of the process has such a number and place
pub record HasParts (P : Place → Type 0) (most : ℕ) (x : Process) : Type 0 where
  pub lines : (y : LineAt) → In y (lines_of x) → IsPart P most y.line y.place
  pub nodes : (y : NodeAt) → In y (nodes_of x) → IsPart P most y.node y.place

body_lines : (g : Scope) (i : ℕ) (w : When) (text : Statement) (s : Stmt) → lines_of (process_of g i w text s) ≡ law.lines s
body_lines g i Star text s = refl
body_lines g i (Names xs) text s = refl
body_lines g i (Edges es) text s = refl

body_nodes : (g : Scope) (i : ℕ) (w : When) (text : Statement) (s : Stmt) → nodes_of (process_of g i w text s) ≡ nodes_in (body_terms s)
body_nodes g i Star text s = refl
body_nodes g i (Names xs) text s = refl
body_nodes g i (Edges es) text s = refl

module _ (P : Place → Type 0) (most : ℕ) where
  pub nothing_parts : HasParts P most no_process
  nothing_parts = record { lines = λ y k. absurd k; nodes = λ y k. absurd k }

  pub uncounted_parts : (i : ℕ) (x : Target) (t : Term) → HasParts P most (assign i x t false)
  uncounted_parts i x t = record { lines = λ y k. absurd k; nodes = λ y k. absurd k }

  node_part : (low high : ℕ) (xs : List NodeAt) → 1 ≤ low → high ≤ most + 1 → Once node_number low high xs → AllOf (NodeIsAt P) xs → (y : NodeAt) → In y xs → IsPart P most y.node y.place
  node_part low high xs from to once at y k =
      let w = once.within y k in
      record { from = omega (arith, from, w.0); to = omega (arith, to, w.1); place = all_in (NodeIsAt P) xs at y k }

  line_part : (low high : ℕ) (xs : List LineAt) → 1 ≤ low → high ≤ most + 1 → Once line_number low high xs → AllOf (LineIsAt P) xs → (y : LineAt) → In y xs → IsPart P most y.line y.place
  line_part low high xs from to once at y k =
      let w = once.within y k in
      record { from = omega (arith, from, w.0); to = omega (arith, to, w.1); place = all_in (LineIsAt P) xs at y k }

  pub assign_parts : (base : ℕ) (g : Scope) (i : ℕ) (x v : Expr) (n : ℕ) → IsPlaced P x → IsPlaced P v → 1 ≤ n → n + (nodes g x + nodes g v) ≤ most + 1 →
      HasParts P most (assign i (target base g x n) (right_side base g (shape g x).width v (n + nodes g x)) true)
  assign_parts base g i x v n hx hv from to =
      let right = right_side base g (shape g x).width v (n + nodes g x) in
      let left_text = text_nodes g x n in
      let right_text = text_nodes g v (n + nodes g x) in
      record {
        lines = λ y k. absurd k;
        nodes = λ y k.
            node_part n (n + (nodes g x + nodes g v)) (left_text ++ right_text) from to (two_once left_text right_text n (nodes g x) (nodes g v) (nodes_once g x n) (nodes_once g v (n + nodes g x)))
            (all_append (NodeIsAt P) left_text right_text (nodes_at P g x n hx) (nodes_at P g v (n + nodes g x) hv)) y
            (among_nodes (index_terms (target base g x n)) (subterms right) left_text right_text (target_in_text base g x n) (nodes_in_text base g v (n + nodes g x) _) y k);
      }

  pub body_parts : (base : ℕ) (g : Scope) (i : ℕ) (w : When) (s : Statement) (l n : ℕ) → IsPlacedBody P s → 1 ≤ l → l + lines s ≤ most + 1 → 1 ≤ n → n + statement_nodes g s ≤ most + 1 →
      HasParts P most (process_of g i w s (statement base g s l n))
  body_parts base g i w s l n h lines_from lines_to nodes_from nodes_to =
      let flat : Stmt = statement base g s l n in
      record {
        lines = λ y k.
            line_part l (l + lines s) (text_lines s l) lines_from lines_to (lines_once s l) (lines_at P s l h) y (lines_in_text base g s l n y (subst (λ z. In y z) (body_lines g i w s flat) k));
        nodes = λ y k.
            node_part n (n + statement_nodes g s) (statement_text g s n) nodes_from nodes_to (statement_once g s n) (statement_at P g s n h) y (statement_in_text base g s l n y (subst (λ z. In y z) (body_nodes g i w s flat) k));
      }

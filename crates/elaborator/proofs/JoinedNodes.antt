-- What ports are joined to has no more counted nodes than the connections.
use Rattle.std.proofs.Common.{◌≡◌, ◌<◌, ℕ, zero, suc, Bool, true, false, cond, if◌then◌else◌, List, [], ◌∷◌, ◌++◌, Option, None, Some, sym, subst, length, get_or, arith}
use Rattle.std.specs.Prelude.{bytes_eq, flat_map}
use Rattle.verilog_tree.specs.declared.item.Named.{Named}
use Rattle.verilog_tree.specs.Tree.{Expr, Given, Module}
use Rattle.flat_design.specs.Connections.{Connection, JoinedPort, connection, connections, connection_of, declaration_of, declared_port, is_sound_port, joined_port, joined_ports, with_value}
use Rattle.flat_design.specs.Declarations.{Declaration, Override}
use Rattle.flat_design.specs.Instances.{declared}
use Rattle.flat_design.specs.Numbering.{nodes}
use Rattle.flat_design.specs.Scope.{Scope}
use Rattle.tree_places.specs.Counted.{connections_nodes, option_nodes}
use Rattle.elab_ports.specs.PortView.{port_view, ports_view}
use Rattle.elab_ports.specs.declared.ports.JoinedPort.{JoinedPort as CodePort}
use Rattle.elaborator.specs.Room.{HaveFewer}

module _ (n : ℕ) (g : Scope) where
  -- each connection has fewer than n
  abbrev EachFewer : List Connection → Type 0
  EachFewer [] = Unit {0}
  EachFewer (c ∷ cs) = (option_nodes g c.value < n) × EachFewer cs

  connections_fewer : (label : Named) (xs : List Named) (cs : List Given) → connections_nodes g cs < n → EachFewer (connections label xs cs)
  connections_fewer label xs [] few = tt
  connections_fewer label xs (c ∷ cs) few = by_name c.name xs (λ ys. connections_fewer label ys cs (omega (arith, few)))
    where
      first : option_nodes g c.value < n
      first = omega (arith, few)

      by_name : (x : Option Named) (ys : List Named) → ((zs : List Named) → EachFewer (connections label zs cs)) →
          EachFewer (elim x [ Some x ↦ connection x.name x c.value ∷ connections label ys cs | None ↦ elim ys [ [] ↦ connections label [] cs | y ∷ zs ↦ connection y.name label c.value ∷ connections label zs cs ] ])
      by_name (Some x) ys rest = (first, rest ys)
      by_name None [] rest = rest []
      by_name None (y ∷ zs) rest = (first, rest zs)

  -- the connection, if there is one, has fewer than n
  abbrev IsFewer : Option Connection → Type 0
  IsFewer None = Unit {0}
  IsFewer (Some c) = option_nodes g c.value < n

  found_fewer : (cs : List Connection) (x : List ℕ) → EachFewer cs → IsFewer (connection_of cs x)
  found_fewer [] x few = tt
  found_fewer (c ∷ cs) x few = by_test (bytes_eq c.port x) (found_fewer cs x few.1)
    where
      by_test : (b : Bool) → IsFewer (connection_of cs x) → IsFewer (cond b (Some c) (connection_of cs x))
      by_test true rest = few.0
      by_test false rest = rest

  value_fewer : (d : Declaration) (label : Named) (e : Option Expr) → option_nodes g e < n → HaveFewer n g (with_value d label e)
  value_fewer d label None few = tt
  value_fewer d label (Some e) few = (few, tt)

  if_fewer : (b : Bool) (js : List JoinedPort) → HaveFewer n g js → HaveFewer n g (if b then js else [])
  if_fewer true js few = few
  if_fewer false js few = tt

  port_fewer : (d : Option Declaration) (c : Option Connection) → IsFewer c → HaveFewer n g (declared_port d c)
  port_fewer None c few = tt
  port_fewer (Some d) None few = tt
  port_fewer (Some d) (Some c) few = if_fewer (is_sound_port d) (with_value d c.label c.value) (value_fewer d c.label c.value few)

  both_fewer : (js ks : List JoinedPort) → HaveFewer n g js → HaveFewer n g ks → HaveFewer n g (js ++ ks)
  both_fewer [] ks few more = more
  both_fewer (j ∷ js) ks few more = (few.0, both_fewer js ks few.1 more)

  all_fewer : (f : Named → List JoinedPort) → ((x : Named) → HaveFewer n g (f x)) → (xs : List Named) → HaveFewer n g (flat_map f xs)
  all_fewer f each [] = tt
  all_fewer f each (x ∷ xs) = both_fewer (f x) (flat_map f xs) (each x) (all_fewer f each xs)

  -- each port of an instance whose connections have fewer than n
  pub joined_fewer : (os : List Override) (m : Module) (label : Named) (cs : List Given) → connections_nodes g cs < n → HaveFewer n g (joined_ports os m label cs)
  joined_fewer os m label cs few =
      let given : EachFewer (connections label m.ports cs) = connections_fewer label m.ports cs few in
      all_fewer (joined_port (declared os m) (connections label m.ports cs)) (λ x. port_fewer (declaration_of (declared os m) x.name) (connection_of (connections label m.ports cs) x.name) (found_fewer (connections label m.ports cs) x.name given)) m.ports

  -- the port at a place of the list
  pub fewer_at : (js : List CodePort) (i : ℕ) (j : CodePort) → i < length js → j ≡ get_or js i j → HaveFewer n g (ports_view js) → nodes g (port_view j).value < n
  fewer_at [] i j within is few = absurd (omega arith)
  fewer_at (x ∷ js) zero j within is few = subst (λ p. nodes g (port_view p).value < n) (sym is) few.0
  fewer_at (x ∷ js) (suc i) j within is few = fewer_at js i j (omega arith) is few.1

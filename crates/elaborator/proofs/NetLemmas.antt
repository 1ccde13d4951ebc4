-- A walk goes by the values of nets.
use Rattle.std.proofs.Common.{◌≡◌, ℕ, ◌+◌, ◌<◌, List, [], ◌∷◌, Option, None, Some, Result, Ok, Err, refl, sym, subst, length, get_or, drop, add-one, drop-cons}
use Rattle.std.specs.Prelude.{OnOk}
use Rattle.cov_host.specs.declared.place.Place.{Place}
use Rattle.verilog_tree.specs.Tree.{Declared, Expr, identifier}
use Rattle.verilog_tree.specs.View.{declared_view, declareds_view}
use Rattle.verilog_tree.specs.declared.item.Declared as code
use Rattle.flat_design.specs.Bodies.{Met}
use Rattle.flat_design.specs.Flat.{net_value, net_values}
use Rattle.flat_design.specs.Instances.{Instantiation, add_process}
use Rattle.flat_design.specs.Numbering.{nodes, value_nodes, values_nodes}
use Rattle.flat_design.specs.Processes.{continuous}
use Rattle.flat_design.specs.Scope.{Scope}
use Rattle.elab_scope.specs.Tally.{Tally, after_all}
use Rattle.elaborator.specs.Walk.{GoesBy, IsClean, around_here}
use Rattle.elaborator.specs.declared.walk.Numbers.{Numbers}
use Rattle.elaborator.specs.declared.walk.Walk.{Walk}
use Rattle.elaborator.proofs.FreeLemmas.{met_clean}
use Rattle.elaborator.proofs.StepLemmas.{goes_twice, still_goes}

-- where nothing is reported in the end, nothing was before
pub told_clean : {A E : Type 0} (r : Result A E) (t u v : Tally) (ms : List Met) → u ≡ after_all t ms → OnOk r (v ≡ u) → OnOk r (IsClean v → IsClean t)
told_clean (Err e) t u v ms met same = same
told_clean (Ok a) t u v ms met same = λ clean. met_clean t ms (subst IsClean met (subst IsClean same clean))

-- the next of the nets and those after it
pub nets_split : (xs : List code.Declared) (i : ℕ) (x : code.Declared) → i < length xs → x ≡ get_or xs i x → declareds_view (drop i xs) ≡ declared_view x ∷ declareds_view (drop (i + 1) xs)
nets_split xs i x within is = rw (add-one, drop-cons xs i x within, ← is) refl

module _ (base : ℕ) (g : Scope) (p : Place) where
  -- from one moment to the next the walk goes by the value of a net
  abbrev pub GoesByNet : Walk → Numbers → Walk → Numbers → Declared → Type 0
  GoesByNet w numbers later others d =
      (given : Instantiation) → GoesBy base w numbers later others (λ b i l n st. net_value (around_here b given i g) p d.name d.value n st) 0 (value_nodes g d)

  -- and by those of several
  abbrev pub GoesByNets : Walk → Numbers → Walk → Numbers → List Declared → Type 0
  GoesByNets w numbers later others ds =
      (given : Instantiation) → GoesBy base w numbers later others (λ b i l n st. net_values (around_here b given i g) p ds n st) 0 (values_nodes g ds)

  -- a net that is declared with a value is assigned it
  pub with_value : {A E : Type 0} (r : Result A E) (w later : Walk) (numbers others : Numbers) (d : Declared) (e : Expr) → d.value ≡ Some e →
      OnOk r (GoesBy base w numbers later others (λ b i l n st. add_process (continuous b g i (length st.design.processes) p (identifier d.name.place d.name.name) e n) st) 0 (nodes g e)) →
      OnOk r (GoesByNet w numbers later others d)
  with_value (Err f) w later numbers others d e is goes = goes
  with_value (Ok a) w later numbers others d e is goes =
      let P : Instantiation → Option Expr → Type 0 = λ given v. GoesBy base w numbers later others (λ b i l n st. net_value (around_here b given i g) p d.name v n st) 0 (elim v [ None ↦ 0 | Some e ↦ nodes g e ]) in
      λ given. subst (P given) (sym is) goes

  -- the value of the first, and then those of the others
  pub nets_next : (w next later : Walk) (numbers between others : Numbers) (d : Declared) (ds all : List Declared) → all ≡ d ∷ ds →
      GoesByNet w numbers next between d → GoesByNets next between later others ds → GoesByNets w numbers later others all
  nets_next w next later numbers between others d ds all is first second =
      let both : GoesByNets w numbers later others (d ∷ ds) =
      λ given. goes_twice {base = base} {w = w} {next = next} {later = later} {numbers = numbers} {between = between} {others = others}
      {f = λ b i l n st. net_value (around_here b given i g) p d.name d.value n st} {g = λ b i l n st. net_values (around_here b given i g) p ds n st}
      0 0 (value_nodes g d) (values_nodes g ds) (first given) (second given) in
      subst (λ xs. GoesByNets w numbers later others xs) (sym is) both

  -- where none are left nothing more is done
  pub no_nets : (w : Walk) (numbers : Numbers) (ds : List Declared) → ds ≡ [] → GoesByNets w numbers w numbers ds
  no_nets w numbers ds is =
      let none : GoesByNets w numbers w numbers [] = λ given. still_goes w numbers in
      subst (λ xs. GoesByNets w numbers w numbers xs) (sym is) none

-- A walk goes through the instances below one, and through one with all below it.
use Rattle.std.proofs.Common.{◌≡◌, ℕ, suc, ◌+◌, true, false, List, refl, sym, ◌∙◌, subst, length, arith}
use Rattle.std.proofs.lemmas.Bool.{false≢true}
use Rattle.cov_host.specs.declared.place.Place.{Place}
use Rattle.verilog_tree.specs.Tree.{Module}
use Rattle.flat_design.specs.Bodies.{met_faults}
use Rattle.flat_design.specs.Connections.{JoinedPort}
use Rattle.flat_design.specs.Fault.{Fault}
use Rattle.flat_design.specs.Flat.{instance, items, join_ports, replaced}
use Rattle.flat_design.specs.Instances.{Instantiation, Sofar, context, meet, opened, opening_met, scope_of}
use Rattle.flat_design.specs.Scope.{Scope}
use Rattle.flat_laws.proofs.Continues.{items_continue, instance_continues, join_ports_continues}
use Rattle.elab_scope.specs.Tally.{Tally}
use Rattle.elaborator.specs.Walk.{GoesBy, IsAmong, IsAt, IsClean, Opens, WalksBy, around_here, items_lines, items_nodes}
use Rattle.elaborator.specs.declared.walk.Numbers.{Numbers}
use Rattle.elaborator.specs.declared.walk.Walk.{Walk}
use Rattle.elaborator.proofs.StepLemmas.{ended_walks, opened_among, opened_ends, remains_twice, scope_numbers, walks_go, was_clean}

-- an instance whose faults are reported and which is walked, where its scope is found, and then its ports are joined
pub replaced_goes : {base : ℕ} {w told below later : Walk} {numbers : Numbers} (ms : List Module) (depth : ℕ) (given : Instantiation) (g inside : Scope) (p : Place) (i : Instantiation) (js : List JoinedPort) (fs : List Fault) →
    WalksBy base w told (λ b st. meet (met_faults fs) st) →
    WalksBy base told below (λ b st. instance b ms depth i st) →
    ((before : Tally) (b : ℕ) (st : Sofar) → IsAt before base b told st → inside ≡ (context b i st).scope) →
    GoesBy base below numbers later numbers (λ b n l k st. join_ports (around_here b given n g) p inside js st) 0 0 →
    GoesBy base w numbers later numbers (λ b n l k st. replaced (instance b ms depth) b (around_here b given n g) p i js (meet (met_faults fs) st)) 0 0
replaced_goes {base = base} {later = later} {numbers = numbers} ms depth given g inside p i js fs faults child found joins before b st n l k among =
    let first = walks_go {numbers = numbers} faults before b st n l k among in
    let met : Sofar = meet (met_faults fs) st in
    let second = walks_go {numbers = numbers} child before b met n (l + 0) (k + 0) first.0 in
    let third = joins before b (instance b ms depth i met) n (l + 0 + 0) (k + 0 + 0) second.0 in
    let there : inside ≡ (context b i met).scope = found before b met first.0.at in
    let end = subst (λ x. IsAmong before base b later numbers (join_ports (around_here b given n g) p x js (instance b ms depth i met)) n (l + 0 + 0 + 0) (k + 0 + 0 + 0)) there third.0 in (
      record { at = end.at; numbered = λ d building. let is = end.numbered d building in (is.0, omega (arith, is.1), omega (arith, is.2)) },
      remains_twice first.1 (remains_twice second.1 third.1),
    )

-- the same where a limit is passed on the way
pub replaced_ends : {base : ℕ} {w told below : Walk} {numbers : Numbers} (ms : List Module) (depth : ℕ) (given : Instantiation) (g : Scope) (p : Place) (i : Instantiation) (js : List JoinedPort) (fs : List Fault) →
    WalksBy base w told (λ b st. meet (met_faults fs) st) →
    WalksBy base told below (λ b st. instance b ms depth i st) → below.tally.ended ≡ true →
    GoesBy base w numbers below numbers (λ b n l k st. replaced (instance b ms depth) b (around_here b given n g) p i js (meet (met_faults fs) st)) 0 0
replaced_ends {base = base} {below = below} {numbers = numbers} ms depth given g p i js fs faults child ended before b st n l k among =
    let first = walks_go {numbers = numbers} faults before b st n l k among in
    let met : Sofar = meet (met_faults fs) st in
    let second = child before b met first.0.at in
    let third = ended_walks {base = base} {w = below} {later = below} (λ b st'. join_ports (around_here b given n g) p (context b i met).scope js st') refl refl ended
    (λ b st'. join_ports_continues (around_here b given n g) p (context b i met).scope js st') before b (instance b ms depth i met) second.0 in
    let never : IsClean below.tally → ⊥ = λ c. false≢true (sym c.open' ∙ ended) in
    (record { at = third.0; numbered = λ d building. absurd (never building.clean) }, remains_twice first.1 second.1)

-- an instance that is opened, and whose items are walked
pub instance_walks : {base : ℕ} {w open' later : Walk} {numbers others : Numbers} (ms : List Module) (depth : ℕ) (i : Instantiation) (g : Scope) →
    w.tally.ended ≡ false → g ≡ scope_of i w.tally.counts.signals w.memories →
    Opens w open' numbers i → open'.tally.ended ≡ false →
    GoesBy base open' numbers later others (λ b n l k st. items (instance b ms depth) b ms (around_here b i n g) i.of_module.items l k st) (items_lines i.of_module.items) (items_nodes g i.of_module.items) →
    WalksBy base w later (λ b st. instance b ms (suc depth) i st)
instance_walks {base = base} {w = w} {open' = open'} {later = later} ms depth i g was here opens still goes before b st at =
    let start = opened_among i opens still at in
    let end = goes before b (opened i st) (length st.design.instances) 1 1 start in
    let scope : g ≡ (context b i st).scope = here ∙ scope_numbers i at was in (
      subst (λ x. IsAt before base b later (items (instance b ms depth) b ms (around_here b i (length st.design.instances) x) i.of_module.items 1 1 (opened i st))) scope end.0.at,
      remains_twice (record { drafted = opens.drafted; was = λ d some clean. let o = opens.draft d some clean in (o.0, o.1, (was_clean w open' (opening_met i) opens.met clean).0) }) end.1,
    )

-- an instance with which a limit is passed when it is opened
pub instance_ends : {base : ℕ} {w open' : Walk} {numbers : Numbers} (ms : List Module) (depth : ℕ) (i : Instantiation) → Opens w open' numbers i → open'.tally.ended ≡ true →
    WalksBy base w open' (λ b st. instance b ms (suc depth) i st)
instance_ends ms depth i opens ended =
    opened_ends i (λ b st. instance b ms (suc depth) i st) opens ended
    (λ b st. items_continue (instance b ms depth) (instance_continues b ms depth) b ms (context b i st) i.of_module.items 1 1 (opened i st))

use Rattle.std.proofs.Common.{◌≡◌, ◌<◌, ◌≤◌, ◌∷◌, [], Bool, true, false, Some, None, sym, ap, subst, ◌∙◌, rules}
use Rattle.std.specs.Prelude.{if◌then◌else◌, nat_lt}
use Rattle.design_model.specs.Lawful.{span}
use Rattle.design_model.specs.declared.design.Range.{Range}
use Rattle.verilog_tree.specs.View.{range_view}
use Rattle.flat_design.specs.declared.fault.DesignLimit.TheVariants.{MemoryWords}
use Rattle.flat_design.specs.Bodies.{met_fault}
use Rattle.flat_design.specs.Declarations.{bounds_faults, is_sound_range}
use Rattle.flat_design.specs.Fault.{Fault, limit_fault}
use Rattle.flat_design.specs.Scope.{binding_of}
use Rattle.elab_scope.specs.Tally.{after, after_faults}
use Rattle.elab_scope.proofs.TallyLemmas.{after_faults-append}
use Rattle.elab_declarations.proofs.BoundLemmas.{bounds_of, clean_bounds, narrow_span, narrower, range_none, range_some, unsound_span, wide_span, wider}
use Rattle.elab_declarations.proofs.range.words_range.Goals as goal

pub returns-in_err-value-clause-met : goal.returns-in_err-value-clause-met
returns-in_err-value-clause-met c =
    let g = binding_of c.args.scope.now in
    let r = range_view c.args.range.now in
    let v : Range = bounds_of g r in
    let bs = bounds_faults g r in
    let t : Bool = is_sound_range g r in
    let w : Bool = nat_lt 65536 (span v.high v.low) in
    let f : Fault = limit_fault MemoryWords c.args.item in
    let h : t ≡ false = range_none t v c.in_err-value.ensures.value in
    let u = unsound_span bs f t w h in
    let no : c.from_residual.result ≡ None = search rules in
    c.checked_range.ensures.met ∙ ap (after_faults c.args.tally.now) (sym u.0)

pub returns-in_err-value-clause-value : goal.returns-in_err-value-clause-value
returns-in_err-value-clause-value c =
    let g = binding_of c.args.scope.now in
    let r = range_view c.args.range.now in
    let v : Range = bounds_of g r in
    let bs = bounds_faults g r in
    let t : Bool = is_sound_range g r in
    let w : Bool = nat_lt 65536 (span v.high v.low) in
    let f : Fault = limit_fault MemoryWords c.args.item in
    let h : t ≡ false = range_none t v c.in_err-value.ensures.value in
    let u = unsound_span bs f t w h in
    let no : c.from_residual.result ≡ None = search rules in
    no ∙ ap (λ b. if b then Some v else None) (sym u.1)

pub returns-then-span-gt65536-clause-met : goal.returns-then-span-gt65536-clause-met
returns-then-span-gt65536-clause-met c =
    let g = binding_of c.args.scope.now in
    let r = range_view c.args.range.now in
    let v : Range = bounds_of g r in
    let bs = bounds_faults g r in
    let t : Bool = is_sound_range g r in
    let w : Bool = nat_lt 65536 (span v.high v.low) in
    let f : Fault = limit_fault MemoryWords c.args.item in
    let s = range_some t c.in_ok-value.value v c.in_ok-value.ensures.value in
    let e : c.span.result ≡ span v.high v.low = c.span.ensures ∙ ap (λ (r : Range). span r.high r.low) s.1 in
    let h : w ≡ true = wider (span v.high v.low) 65536 (subst (λ m. 65536 < m) e c.if-span-gt65536.true) in
    let u = wide_span bs f t w s.0 h in
    c.fault.ensures ∙ ap (λ x. after c.checked_range.new.tally (met_fault x)) c.limit.ensures ∙ ap (λ x. after x (met_fault f)) c.checked_range.ensures.met ∙ sym (after_faults-append c.args.tally.now bs (f ∷ [])) ∙ ap (after_faults c.args.tally.now) (sym u.0)

pub returns-then-span-gt65536-clause-value : goal.returns-then-span-gt65536-clause-value
returns-then-span-gt65536-clause-value c =
    let g = binding_of c.args.scope.now in
    let r = range_view c.args.range.now in
    let v : Range = bounds_of g r in
    let bs = bounds_faults g r in
    let t : Bool = is_sound_range g r in
    let w : Bool = nat_lt 65536 (span v.high v.low) in
    let f : Fault = limit_fault MemoryWords c.args.item in
    let s = range_some t c.in_ok-value.value v c.in_ok-value.ensures.value in
    let e : c.span.result ≡ span v.high v.low = c.span.ensures ∙ ap (λ (r : Range). span r.high r.low) s.1 in
    let h : w ≡ true = wider (span v.high v.low) 65536 (subst (λ m. 65536 < m) e c.if-span-gt65536.true) in
    let u = wide_span bs f t w s.0 h in
    ap (λ b. if b then Some v else None) (sym u.1)

pub returns-clause-met : goal.returns-clause-met
returns-clause-met c =
    let g = binding_of c.args.scope.now in
    let r = range_view c.args.range.now in
    let v : Range = bounds_of g r in
    let bs = bounds_faults g r in
    let t : Bool = is_sound_range g r in
    let w : Bool = nat_lt 65536 (span v.high v.low) in
    let f : Fault = limit_fault MemoryWords c.args.item in
    let s = range_some t c.in_ok-value.value v c.in_ok-value.ensures.value in
    let e : c.span.result ≡ span v.high v.low = c.span.ensures ∙ ap (λ (r : Range). span r.high r.low) s.1 in
    let h : w ≡ false = narrower (span v.high v.low) 65536 (subst (λ m. m ≤ 65536) e c.if-span-gt65536.false) in
    let u = narrow_span bs f t w s.0 h (clean_bounds g r s.0) in
    c.checked_range.ensures.met ∙ ap (after_faults c.args.tally.now) (sym u.0)

pub returns-clause-value : goal.returns-clause-value
returns-clause-value c =
    let g = binding_of c.args.scope.now in
    let r = range_view c.args.range.now in
    let v : Range = bounds_of g r in
    let bs = bounds_faults g r in
    let t : Bool = is_sound_range g r in
    let w : Bool = nat_lt 65536 (span v.high v.low) in
    let f : Fault = limit_fault MemoryWords c.args.item in
    let s = range_some t c.in_ok-value.value v c.in_ok-value.ensures.value in
    let e : c.span.result ≡ span v.high v.low = c.span.ensures ∙ ap (λ (r : Range). span r.high r.low) s.1 in
    let h : w ≡ false = narrower (span v.high v.low) 65536 (subst (λ m. m ≤ 65536) e c.if-span-gt65536.false) in
    let u = narrow_span bs f t w s.0 h (clean_bounds g r s.0) in
    ap (λ x. Some x) s.1 ∙ ap (λ b. if b then Some v else None) (sym u.1)

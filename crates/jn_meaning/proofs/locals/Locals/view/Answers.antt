use Rattle.std.proofs.Common.{rules, ◌≡◌, ◌∙◌, ◌<◌, ap, length, Some, List, arith, sym, refl}
use Rattle.std.specs.Prelude.{slice_get}
use Rattle.std.proofs.lemmas.Option.{slice_get_read}
use Rattle.jn_base.specs.declared.names.Var.{Var}
use Rattle.jn_meaning.proofs.Variables.{among_more}
use Rattle.jn_meaning.proofs.locals.Locals.view.Goals as goal

pub loop-i-preserved : goal.loop-i-preserved
loop-i-preserved c =
    let xs : List Var = c.args.self.now.vars.list in
    let x : Var = c.index-as_slice-i.result in
    let within : c.loop-i.i < length c.args.self.now.values.items = search rules in
    let in_vars : c.loop-i.i < length c.as_slice.result.now = omega (arith, ap length c.as_slice.ensures, c.args.self.now.paired, within) in
    let at : slice_get xs c.loop-i.i ≡ Some x = ap (λ (ys : List Var). slice_get ys c.loop-i.i) (sym c.as_slice.ensures) ∙ slice_get_read c.as_slice.result.now (length c.as_slice.result.now) c.loop-i.i x refl in_vars c.index-as_slice-i.is in
    among_more xs c.args.self.now.values.items x c.args.path c.loop-i.i at within (λ e. c.if-as_slice-i.false (sym (ap (λ (y : Var). y.path) c.index-as_slice-i.is) ∙ e)) c.loop-i.invariant

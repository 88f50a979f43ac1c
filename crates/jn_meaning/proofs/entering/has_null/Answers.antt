use Rattle.std.proofs.Common.{rules, ◌≡◌, ◌∙◌, ◌<◌, ap, length, Some, List, arith, sym, refl}
use Rattle.std.specs.Prelude.{slice_get}
use Rattle.std.proofs.lemmas.Option.{slice_get_read}
use Rattle.jn_base.specs.declared.names.Var.{Var}
use Rattle.jn_meaning.specs.declared.value.Value.{Value}
use Rattle.jn_meaning.proofs.CalledFrames.{next_null, is_null_at, is_null_none}
use Rattle.jn_meaning.proofs.entering.has_null.Goals as goal

pub returns-then-is_null_path : goal.returns-then-is_null_path
returns-then-is_null_path c =
    let xs : List Var = c.args.locals.now.vars.list in
    let vs : List Value = c.args.locals.now.values.items in
    let x : Var = c.index-as_slice-i.result in
    let within : c.loop-i.i < length vs = search rules in
    let in_vars : c.loop-i.i < length c.as_slice.result.now = omega (arith, ap length c.as_slice.ensures, c.args.locals.now.paired, within) in
    let at : slice_get xs c.loop-i.i ≡ Some x = ap (λ (ys : List Var). slice_get ys c.loop-i.i) (sym c.as_slice.ensures) ∙ slice_get_read c.as_slice.result.now (length c.as_slice.result.now) c.loop-i.i x refl in_vars c.index-as_slice-i.is in
    let has : slice_get vs c.loop-i.i ≡ Some c.index.result.now = slice_get_read vs (length vs) c.loop-i.i c.index.result.now refl within c.index.ensures in
    is_null_at c.args.locals.now c.loop-i.i x c.index.result.now c.is_null_path.result at has c.if-is_null_path.true c.is_null_path.ensures

pub loop-i-preserved : goal.loop-i-preserved
loop-i-preserved c =
    let xs : List Var = c.args.locals.now.vars.list in
    let vs : List Value = c.args.locals.now.values.items in
    let x : Var = c.index-as_slice-i.result in
    let within : c.loop-i.i < length vs = search rules in
    let in_vars : c.loop-i.i < length c.as_slice.result.now = omega (arith, ap length c.as_slice.ensures, c.args.locals.now.paired, within) in
    let at : slice_get xs c.loop-i.i ≡ Some x = ap (λ (ys : List Var). slice_get ys c.loop-i.i) (sym c.as_slice.ensures) ∙ slice_get_read c.as_slice.result.now (length c.as_slice.result.now) c.loop-i.i x refl in_vars c.index-as_slice-i.is in
    let has : slice_get vs c.loop-i.i ≡ Some c.index.result.now = slice_get_read vs (length vs) c.loop-i.i c.index.result.now refl within c.index.ensures in
    next_null c.args.locals.now c.loop-i.i x c.index.result.now c.is_null_path.result at has c.if-is_null_path.false c.is_null_path.ensures c.loop-i.invariant

pub returns : goal.returns
returns c = is_null_none c.args.locals.now c.loop-i.i (search rules) c.loop-i.invariant

use Rattle.std.proofs.Common.{rules, ◌≡◌, ◌<◌, length, Some, List, refl, arith}
use Rattle.std.specs.Prelude.{slice_get}
use Rattle.std.proofs.lemmas.Option.{slice_get_read}
use Rattle.jn_meaning.specs.declared.value.Value.{Value}
use Rattle.jn_meaning.proofs.CalledFrames.{next_fit, all_in, one_out}
use Rattle.jn_meaning.proofs.entering.all_fit.Goals as goal

pub returns-then-not-branch : goal.returns-then-not-branch
returns-then-not-branch c =
    let vs : List Value = c.args.f.now.locals.values.items in
    let within : c.loop-i.i < length vs = search rules in
    let has : slice_get vs c.loop-i.i ≡ Some c.index.result.now = slice_get_read vs (length vs) c.loop-i.i c.index.result.now refl within c.index.ensures in
    one_out c.args.w.now.program.now c.args.t.now.known.items c.args.h.now c.args.f.now c.loop-i.i c.index.result.now c.in_ok-fits_at.field-0 has (search rules) c.in_ok-fits_at.ensures

pub loop-i-preserved : goal.loop-i-preserved
loop-i-preserved c =
    let vs : List Value = c.args.f.now.locals.values.items in
    let within : c.loop-i.i < length vs = search rules in
    let has : slice_get vs c.loop-i.i ≡ Some c.index.result.now = slice_get_read vs (length vs) c.loop-i.i c.index.result.now refl within c.index.ensures in
    next_fit c.args.w.now.program.now c.args.t.now.known.items c.args.h.now c.args.f.now c.loop-i.i c.index.result.now c.in_ok-fits_at.field-0 has (search rules) c.in_ok-fits_at.ensures c.loop-i.invariant

pub returns : goal.returns
returns c = all_in c.args.w.now.program.now c.args.t.now.known.items c.args.h.now c.args.f.now c.loop-i.i (search rules) c.loop-i.invariant

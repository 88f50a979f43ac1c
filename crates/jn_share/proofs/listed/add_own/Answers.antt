use Rattle.std.proofs.Common.{◌≡◌, length, arith}
use Rattle.std.proofs.lemmas.Result.{on_ok_weaker}
use Rattle.jn_share.proofs.Walk.{own_top, own_nested}
use Rattle.jn_share.proofs.listed.add_own.Goals as goal

pub returns-then-depth-eq0 : goal.returns-then-depth-eq0
returns-then-depth-eq0 c =
    let none : length c.args.namespace.now ≡ 0 = grind (arith, c.depth.ensures, c.if-depth-eq0.true) in
    on_ok_weaker c.add_names.result
    (λ h. own_top c.args.d.now.name.name c.args.namespace.now c.in_ok-class.class c.args.d.now.shares c.args.d.now.adapts c.as_slice.result.now c.args.out.now.items c.add_names.new.out.items
    none c.in_ok-class.ensures c.as_slice.ensures h)
    c.add_names.ensures

pub returns : goal.returns
returns c =
    let some : length c.args.namespace.now ≡ 0 → ⊥ = λ z. grind (arith, z, c.depth.ensures, c.if-depth-eq0.false) in
    on_ok_weaker c.add_names-2.result
    (λ h. own_nested c.args.d.now.name.name c.args.namespace.now c.in_ok-class.class c.args.d.now.shares c.args.d.now.adapts c.as_slice-2.result.now c.args.out.now.items c.add_names-2.new.out.items
    some c.in_ok-class.ensures c.as_slice-2.ensures h)
    c.add_names-2.ensures

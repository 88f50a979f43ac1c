use Rattle.std.proofs.Common.{refl, get_or, subst, sym, ◌∙◌}
use Rattle.jn_base.specs.declared.tree.Name.{Name}
use Rattle.jn_table.specs.declared.table.Table.{Table}
use Rattle.jn_meaning.specs.Values.{path_at}
use Rattle.jn_meaning.specs.Creating.{AreFieldNames, FreshAdded}
use Rattle.jn_meaning.proofs.NewObjects.{fresh_first, fresh_more, fresh_all, fresh_none}
use Rattle.jn_meaning.proofs.creating.fresh_of.Goals as goal

pub returns-then-not-branch-clause-told : goal.returns-then-not-branch-clause-told
returns-then-not-branch-clause-told c =
    let p = c.args.w.now.program.now in
    let known = c.args.t.now.known.items in
    let zero : Name = record { 0 = 0 } in
    let names = c.as_slice-f-items.result.now in
    let are = subst (AreFieldNames p (path_at known c.args.id)) (sym c.as_slice-f-items.ensures) c.in_ok-names.ensures in
    let added = subst (λ (u : Table). FreshAdded p u.known.items c.args.id (get_or names c.loop-f.f-index zero) c.loop-f.all.items c.add_fresh.new.all.items c.in_ok-add_fresh.field-0) c.loop-f.invariant.0 c.in_ok-add_fresh.ensures.told in
    fresh_none p known c.args.id names are c.loop-f.f-index zero c.loop-f-test.true
    (subst (FreshAdded p known c.args.id (get_or names c.loop-f.f-index zero) c.loop-f.all.items c.add_fresh.new.all.items) c.if-not-branch.true added)

pub loop-f-preserved : goal.loop-f-preserved
loop-f-preserved c =
    let p = c.args.w.now.program.now in
    let known = c.args.t.now.known.items in
    let zero : Name = record { 0 = 0 } in
    let names = c.as_slice-f-items.result.now in
    let added = subst (λ (u : Table). FreshAdded p u.known.items c.args.id (get_or names c.loop-f.f-index zero) c.loop-f.all.items c.add_fresh.new.all.items c.in_ok-add_fresh.field-0) c.loop-f.invariant.0 c.in_ok-add_fresh.ensures.told in (
      c.in_ok-add_fresh.ensures.kept ∙ c.loop-f.invariant.0,
      fresh_more p known c.args.id names c.loop-f.f-index zero c.loop-f-test.true c.loop-f.all.items c.add_fresh.new.all.items c.loop-f.invariant.1
          (subst (FreshAdded p known c.args.id (get_or names c.loop-f.f-index zero) c.loop-f.all.items c.add_fresh.new.all.items) c.if-not-branch.false added),
    )

pub returns-clause-told : goal.returns-clause-told
returns-clause-told c =
    let p = c.args.w.now.program.now in
    let known = c.args.t.now.known.items in
    let zero : Name = record { 0 = 0 } in
    let names = c.as_slice-f-items.result.now in
    let are = subst (AreFieldNames p (path_at known c.args.id)) (sym c.as_slice-f-items.ensures) c.in_ok-names.ensures in
    fresh_all p known c.args.id names are c.loop-f.f-index c.loop-f.all.items c.loop-f-test.false c.loop-f.invariant.1

pub loop-f-init : goal.loop-f-init
loop-f-init c =
    (refl, fresh_first c.args.w.now.program.now c.args.t.now.known.items c.args.id c.as_slice-f-items.result.now c.new-all.result.items c.new-all.ensures.items)

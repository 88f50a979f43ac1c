use Rattle.std.proofs.Common.{Option, subst}
use Rattle.std.specs.Prelude.{Some, None}
use Rattle.jn_base.specs.declared.types.Ty.{Ty}
use Rattle.jn_table.specs.declared.table.Table.{Table}
use Rattle.jn_sem.specs.Slots.{FieldType}
use Rattle.jn_meaning.specs.Values.{path_at}
use Rattle.jn_meaning.specs.Tells.{Tells, SlotTold}
use Rattle.jn_meaning.proofs.NewObjects.{fresh_untyped, fresh_slotless, fresh_there}
use Rattle.jn_meaning.proofs.creating.fresh_at.Goals as goal

pub returns-in-None-clause-told : goal.returns-in-None-clause-told
returns-in-None-clause-told c =
    let p = c.args.w.now.program.now in
    let known = c.args.t.now.known.items in
    fresh_untyped p known c.args.id c.args.f
    (subst (λ (x : Option Ty). Tells (FieldType p (path_at known c.args.id) c.args.f) x) c.in-None.is c.in_ok-found.ensures.told)

pub returns-in-None-slot_at-clause-told : goal.returns-in-None-slot_at-clause-told
returns-in-None-slot_at-clause-told c =
    let p = c.args.w.now.program.now in
    let known = c.args.t.now.known.items in
    fresh_slotless p known c.args.id c.args.f
    (subst (λ (u : Table). SlotTold p u.known.items c.args.id c.args.f None) c.in_ok-found.ensures.kept c.in-None-slot_at.ensures)

pub returns-clause-told : goal.returns-clause-told
returns-clause-told c =
    let p = c.args.w.now.program.now in
    let known = c.args.t.now.known.items in
    fresh_there p known c.args.id c.args.f c.in-Some.ty (record { slot = c.in-Some-slot_at.slot; value = c.zero_of.result })
    (subst (λ (x : Option Ty). Tells (FieldType p (path_at known c.args.id) c.args.f) x) c.in-Some.is c.in_ok-found.ensures.told)
    (subst (λ (u : Table). SlotTold p u.known.items c.args.id c.args.f (Some c.in-Some-slot_at.slot)) c.in_ok-found.ensures.kept c.in-Some-slot_at.ensures)
    (c.zero_of.ensures known)

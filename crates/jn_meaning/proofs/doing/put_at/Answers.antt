use Rattle.std.proofs.Common.{Option, subst}
use Rattle.std.specs.Prelude.{IfOk, Some, None}
use Rattle.jn_base.specs.declared.types.Ty.{Ty}
use Rattle.jn_table.specs.declared.table.Table.{Table}
use Rattle.jn_sem.specs.Slots.{FieldType}
use Rattle.jn_sem.proofs.FindingLaws.{finds_one_in}
use Rattle.jn_meaning.specs.Values.{path_at}
use Rattle.jn_meaning.specs.Tells.{Tells, SlotTold}
use Rattle.jn_meaning.specs.Doing.{PutsIn}
use Rattle.jn_meaning.proofs.Lists.{if_ok}
use Rattle.jn_meaning.proofs.Acting.{puts_no_type, puts_no_slot, puts_at}
use Rattle.jn_meaning.proofs.doing.put_at.Goals as goal

pub returns-in-None-clause-did : goal.returns-in-None-clause-did
returns-in-None-clause-did c =
    let p = c.args.w.now.program.now in
    let known = c.args.t.now.known.items in
    puts_no_type p known c.args.h.now c.args.o c.args.id c.args.v c.args.field
    (subst (λ (x : Option Ty). Tells (FieldType p (path_at known c.args.id) c.args.field) x) c.in-None.is c.in_ok-found.ensures.told)

pub returns-in-None-slot_at-clause-did : goal.returns-in-None-slot_at-clause-did
returns-in-None-slot_at-clause-did c =
    let p = c.args.w.now.program.now in
    let known = c.args.t.now.known.items in
    let q = c.requires in
    let once = finds_one_in p q.declarations q.filled.table.named.distinct q.filled.table.named.paths in
    let type : FieldType p (path_at known c.args.id) c.args.field c.in-Some.ty =
    subst (λ (x : Option Ty). Tells (FieldType p (path_at known c.args.id) c.args.field) x) c.in-Some.is c.in_ok-found.ensures.told in
    puts_no_slot p known c.args.h.now c.args.o c.args.id c.args.v c.args.field (once.field (path_at known c.args.id) c.args.field) c.in-Some.ty type
    (subst (λ (u : Table). SlotTold p u.known.items c.args.id c.args.field None) c.in_ok-found.ensures.kept c.in-None-slot_at.ensures)

pub returns-clause-did : goal.returns-clause-did
returns-clause-did c =
    let p = c.args.w.now.program.now in
    let known = c.args.t.now.known.items in
    let q = c.requires in
    let once = finds_one_in p q.declarations q.filled.table.named.distinct q.filled.table.named.paths in
    let type : FieldType p (path_at known c.args.id) c.args.field c.in-Some.ty =
    subst (λ (x : Option Ty). Tells (FieldType p (path_at known c.args.id) c.args.field) x) c.in-Some.is c.in_ok-found.ensures.told in
    let slot : SlotTold p known c.args.id c.args.field (Some c.in-Some-slot_at.s) =
    subst (λ (u : Table). SlotTold p u.known.items c.args.id c.args.field (Some c.in-Some-slot_at.s)) c.in_ok-found.ensures.kept c.in-Some-slot_at.ensures in
    if_ok c.put_in.result
    (λ d k. puts_at p known c.args.h.now c.args.o c.args.id c.args.v c.args.field (once.field (path_at known c.args.id) c.args.field) c.in-Some.ty type
    (once.slot (path_at known c.args.id) c.args.field) c.in-Some-slot_at.s slot d c.put_in.new.h k)
    (subst (λ (u : Table). IfOk c.put_in.result (λ d. PutsIn p u.known.items c.args.h.now c.args.o c.args.id c.in-Some-slot_at.s c.in-Some.ty c.args.v d c.put_in.new.h)) c.in_ok-found.ensures.kept c.put_in.ensures)

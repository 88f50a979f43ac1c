use Rattle.std.proofs.Common.{Option, subst, ◌≡◌}
use Rattle.std.specs.Prelude.{IfOk, Some, None}
use Rattle.jn_base.specs.declared.types.Ty.{Ty}
use Rattle.jn_table.specs.declared.table.Table.{Table}
use Rattle.jn_sem.specs.Slots.{FieldType}
use Rattle.jn_sem.specs.State.{slot_value}
use Rattle.jn_sem.proofs.FindingLaws.{finds_one_in}
use Rattle.jn_meaning.specs.Values.{path_at, value_of}
use Rattle.jn_meaning.specs.Heaps.{heap_of, slot_of}
use Rattle.jn_meaning.specs.Tells.{Tells, SlotTold}
use Rattle.jn_meaning.specs.Asked.{ReadTold}
use Rattle.jn_meaning.proofs.Lists.{if_ok}
use Rattle.jn_meaning.proofs.Families.{no_type, no_slot_got, no_value_got, value_got}
use Rattle.jn_meaning.proofs.getting.field_value.Goals as goal

pub returns-in-None-clause-told : goal.returns-in-None-clause-told
returns-in-None-clause-told c =
    let p = c.args.w.now.program.now in
    let known = c.args.t.now.known.items in
    no_type p known c.args.h.now c.args.o c.args.id c.args.f
    (subst (λ (x : Option Ty). Tells (FieldType p (path_at known c.args.id) c.args.f) x) c.in-None.is c.in_ok-found.ensures.told)

pub returns-in-None-slot_at-clause-told : goal.returns-in-None-slot_at-clause-told
returns-in-None-slot_at-clause-told c =
    let p = c.args.w.now.program.now in
    let known = c.args.t.now.known.items in
    let q = c.requires.stands in
    let once = finds_one_in p q.declarations q.filled.table.named.distinct q.filled.table.named.paths in
    let type : FieldType p (path_at known c.args.id) c.args.f c.in-Some.ty =
    subst (λ (x : Option Ty). Tells (FieldType p (path_at known c.args.id) c.args.f) x) c.in-Some.is c.in_ok-found.ensures.told in
    no_slot_got p known c.args.h.now c.args.o c.args.id c.args.f (once.field (path_at known c.args.id) c.args.f) c.in-Some.ty type
    (subst (λ (u : Table). SlotTold p u.known.items c.args.id c.args.f None) c.in_ok-found.ensures.kept c.in-None-slot_at.ensures)

pub returns-in-None-value_at-clause-told : goal.returns-in-None-value_at-clause-told
returns-in-None-value_at-clause-told c =
    let p = c.args.w.now.program.now in
    let known = c.args.t.now.known.items in
    let q = c.requires.stands in
    let once = finds_one_in p q.declarations q.filled.table.named.distinct q.filled.table.named.paths in
    let type : FieldType p (path_at known c.args.id) c.args.f c.in-Some.ty =
    subst (λ (x : Option Ty). Tells (FieldType p (path_at known c.args.id) c.args.f) x) c.in-Some.is c.in_ok-found.ensures.told in
    let slot : SlotTold p known c.args.id c.args.f (Some c.in-Some-slot_at.s) =
    subst (λ (u : Table). SlotTold p u.known.items c.args.id c.args.f (Some c.in-Some-slot_at.s)) c.in_ok-found.ensures.kept c.in-Some-slot_at.ensures in
    no_value_got p known c.args.h.now c.args.o c.args.id c.args.f (once.field (path_at known c.args.id) c.args.f) c.in-Some.ty type
    (once.slot (path_at known c.args.id) c.args.f) (slot_of known c.in-Some-slot_at.s) slot
    (subst (λ (u : Table). None ≡ slot_value (heap_of u.known.items c.args.h.now) c.args.o (slot_of u.known.items c.in-Some-slot_at.s)) c.in_ok-found.ensures.kept c.in-None-value_at.ensures)

pub returns-clause-told : goal.returns-clause-told
returns-clause-told c =
    let p = c.args.w.now.program.now in
    let known = c.args.t.now.known.items in
    let q = c.requires.stands in
    let once = finds_one_in p q.declarations q.filled.table.named.distinct q.filled.table.named.paths in
    let type : FieldType p (path_at known c.args.id) c.args.f c.in-Some.ty =
    subst (λ (x : Option Ty). Tells (FieldType p (path_at known c.args.id) c.args.f) x) c.in-Some.is c.in_ok-found.ensures.told in
    let slot : SlotTold p known c.args.id c.args.f (Some c.in-Some-slot_at.s) =
    subst (λ (u : Table). SlotTold p u.known.items c.args.id c.args.f (Some c.in-Some-slot_at.s)) c.in_ok-found.ensures.kept c.in-Some-slot_at.ensures in
    if_ok c.read_value.result
    (λ m. value_got p known c.args.h.now c.args.o c.args.id c.args.f (once.field (path_at known c.args.id) c.args.f) c.in-Some.ty type
    (once.slot (path_at known c.args.id) c.args.f) (slot_of known c.in-Some-slot_at.s) slot c.in-Some-value_at.v m
    (subst (λ (u : Table). Some (value_of u.known.items c.in-Some-value_at.v) ≡ slot_value (heap_of u.known.items c.args.h.now) c.args.o (slot_of u.known.items c.in-Some-slot_at.s)) c.in_ok-found.ensures.kept c.in-Some-value_at.ensures))
    (subst (λ (u : Table). IfOk c.read_value.result (λ m. ReadTold p u.known.items c.args.id c.in-Some.ty c.in-Some-value_at.v m)) c.in_ok-found.ensures.kept c.read_value.ensures)

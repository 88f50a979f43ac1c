use Rattle.std.proofs.Common.{subst, sym, ap, ◌∙◌, cond, slice_get, map}
use Rattle.jn_reach.proofs.Searches.{same_some}
use Rattle.jn_layout.specs.declared.declared.FieldAt.{FieldAt}
use Rattle.jn_names.specs.Members.{FieldIs}
use Rattle.jn_index.specs.Index.{IsIndex}
use Rattle.jn_layout.specs.Keys.{field_key, slot_key}
use Rattle.jn_layout.proofs.LookupProof.{no_field, two_fields, field_there, field_is}
use Rattle.jn_layout.proofs.lookups.field_at.Goals as goal

pub returns-in-None-clause-is : goal.returns-in-None-clause-is
returns-in-None-clause-is c = λ p t n R names a o i.
    no_field p t c.args.m.now c.args.s.now names c.args.fields.now n a c.args.id R i c.args.name
    (subst (FieldIs p t.known.items R c.args.name) c.in-None.is (c.field.ensures p t R a.members i))

pub returns-in-Many-clause-is : goal.returns-in-Many-clause-is
returns-in-Many-clause-is c = λ p t n R names a o i.
    let w = subst (FieldIs p t.known.items R c.args.name) c.in-Many.is (c.field.ensures p t R a.members i) in
    two_fields p t c.args.m.now c.args.s.now names c.args.fields.now n a c.args.id R i c.args.name w.one w.two w.one_first.holds w.two_first.holds.0 w.two_first.holds.1

pub returns-in-None-find_field-clause-is : goal.returns-in-None-find_field-clause-is
returns-in-None-find_field-clause-is c = λ p t n R names a o i.
    let w = subst (FieldIs p t.known.items R c.args.name) c.in-One.is (c.field.ensures p t R a.members i) in
    absurd (field_there p t c.args.m.now c.args.s.now names c.args.fields.now n a c.args.id R i c.args.name c.in-One.class w.0 w.1 w.2 (c.in-None-find_field.ensures.none c.args.fields.now (subst (IsIndex (map field_key c.args.fields.now)) (sym c.deref.ensures.value) o.by_class)))

pub returns-in-Some-at-clause-is : goal.returns-in-Some-at-clause-is
returns-in-Some-at-clause-is c = λ p t n R names a o i.
    let w = subst (FieldIs p t.known.items R c.args.name) c.in-One.is (c.field.ensures p t R a.members i) in
    let found = c.in-Some.ensures.some c.args.fields.now (subst (IsIndex (map field_key c.args.fields.now)) (sym c.deref.ensures.value) o.by_class) in
    let same = same_some (slice_get c.args.fields.now c.in-Some.place) c.in-Some-at.x.now found.thing (sym c.in-Some-at.ensures) found.at in
    field_is p t c.args.m.now c.args.s.now names c.args.fields.now n a c.args.id R i c.args.name c.in-One.class w.0 w.1 w.2 c.in-Some.place found
    c.hangs.result c.hangs.ensures c.kind_at-kind.result (c.kind_at-kind.ensures ∙ ap (λ (x : FieldAt). cond c.hangs.result 4 x.kind) same)
    c.slot.result c.slot.ensures.told c.field_pair.result (c.field_pair.ensures.pair names (subst (IsIndex (map slot_key names)) (sym c.deref-in-Some-at.ensures.value) o.by_kind))

pub returns-in-None-at-clause-is : goal.returns-in-None-at-clause-is
returns-in-None-at-clause-is c = λ p t n R names a o i.
    let found = c.in-Some.ensures.some c.args.fields.now (subst (IsIndex (map field_key c.args.fields.now)) (sym c.deref.ensures.value) o.by_class) in
    cc (c.in-None-at.ensures ∙ found.at)

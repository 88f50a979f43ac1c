use Rattle.std.proofs.Common.{◌≡◌, ◌∙◌, ap, map, [], List, Err}
use Rattle.jn_base.specs.declared.tree.Decl.{Decl}
use Rattle.jn_base.specs.declared.tree.Program.{Program}
use Rattle.jn_base.specs.Paths.{Path}
use Rattle.jn_base.specs.ResolveTypes.{mask_names}
use Rattle.jn_names.specs.FieldTypes.{AtField, all_by, fields_of_decl, declared_fields, AllFieldsGive}
use Rattle.jn_names.proofs.FieldProof.{told_refused, told_all}
use Rattle.jn_names.proofs.FieldOnce.{all_once, only_fields}
use Rattle.jn_names.proofs.fields.field_types.Goals as goal

pub returns-in-Err-clause-told : goal.returns-in-Err-clause-told
returns-in-Err-clause-told c = λ f.
    let p : Program = c.args.p.now in
    let names : c.deref.result.now ≡ mask_names p = c.deref.ensures.value ∙ c.in_ok-names.ensures in
    let xs : List AtField = all_by c.root-root.result (map fields_of_decl c.as_slice.result.now) in
    let fields : xs ≡ declared_fields p =
    ap (λ (R : Path). all_by R (map fields_of_decl c.as_slice.result.now)) c.root-root.ensures
    ∙ ap (λ (ds : List Decl). all_by [] (map fields_of_decl ds)) c.as_slice.ensures in
    told_refused p c.args.t.now xs c.new-list.result.items c.add_decls.new.out.items c.in-Err.fault fields
    (c.in-Err.ensures p f names)

pub returns-clause-told : goal.returns-clause-told
returns-clause-told c = λ f.
    let p : Program = c.args.p.now in
    let names : c.deref.result.now ≡ mask_names p = c.deref.ensures.value ∙ c.in_ok-names.ensures in
    let xs : List AtField = all_by c.root-root.result (map fields_of_decl c.as_slice.result.now) in
    let fields : xs ≡ declared_fields p =
    ap (λ (R : Path). all_by R (map fields_of_decl c.as_slice.result.now)) c.root-root.ensures
    ∙ ap (λ (ds : List Decl). all_by [] (map fields_of_decl ds)) c.as_slice.ensures in
    told_all p c.args.t.now xs c.new-list.result.items c.add_decls.new.out.items fields c.new-list.ensures.items
    (c.in-Ok.ensures p f names)

pub returns-in-Err-clause-only : goal.returns-in-Err-clause-only
returns-in-Err-clause-only c = λ f o k.
    only_fields (AllFieldsGive c.args.p.now c.args.t.now) (all_once c.args.p.now c.args.t.now f) (Err c.in-Err.fault)
    (returns-in-Err-clause-told c f) o k

pub returns-clause-only : goal.returns-clause-only
returns-clause-only c = λ f o k. all_once c.args.p.now c.args.t.now f _ o (returns-clause-told c f) k

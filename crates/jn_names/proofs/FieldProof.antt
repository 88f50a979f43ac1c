-- The types of fields, one level deep and list by list.
use Rattle.std.proofs.Common.{◌≡◌, ◌<◌, ◌≤◌, ◌+◌, ℕ, List, [], ◌∷◌, ◌++◌, map, take, drop, length, get_or, refl, sym}
use Rattle.std.proofs.Common.{ap, ◌∙◌, subst, Result, Ok, Err}
use Rattle.std.proofs.lemmas.List.{append_assoc, append-nil, take-append-drop, take_all}
use Rattle.std.proofs.lemmas.Option.{slice_get_read}
use Rattle.jn_base.specs.declared.tree.Name.{Name}
use Rattle.jn_base.specs.declared.tree.Decl.{Decl}
use Rattle.jn_base.specs.declared.tree.Field.{Field}
use Rattle.jn_base.specs.declared.tree.Method.{Method}
use Rattle.jn_base.specs.declared.tree.Program.{Program}
use Rattle.jn_base.specs.declared.tree.Member.{Member, out-Member}
use Rattle.jn_base.specs.declared.tree.Member.TheOpen.{Member-F}
use Rattle.jn_base.specs.declared.tree.Member.TheFolds.{map-Member, fold_out-Member, fold_out-Decl}
use Rattle.jn_base.specs.declared.tree.Member.TheVariants as member
use Rattle.jn_base.specs.declared.tree.Member.TheVariants.{outs-Inner, outs-Slot, outs-Body}
use Rattle.jn_base.specs.declared.path.Path.{Path as ShownPath}
use Rattle.jn_base.specs.declared.refusal.Refusal.{Refusal}
use Rattle.jn_base.specs.declared.types.Ty.{Ty}
use Rattle.jn_base.specs.declared.names.Spot.{Spot}
use Rattle.jn_base.specs.declared.names.Vars.{Vars}
use Rattle.jn_base.specs.Paths.{Path}
use Rattle.jn_base.specs.ResolveTypes.{mask_names, ResolveType}
use Rattle.jn_table.specs.declared.class.ClassId.{ClassId}
use Rattle.jn_table.specs.declared.field_types.FieldTy.{FieldTy}
use Rattle.jn_table.specs.declared.table.Table.{Table}
use Rattle.jn_table.specs.Rows.{IsNumber}
use Rattle.jn_table.specs.Tables.{IsFilled}
use Rattle.jn_names.specs.declared.fault.NameFault.{NameFault}
use Rattle.jn_names.specs.declared.fault.NameFault.TheVariants.{Refused, Memory}
use Rattle.jn_names.specs.Answers.{Told}
use Rattle.jn_names.specs.FieldTypes.{AtField, FieldsBy, all_by, member_step, decl_step, fields_of_member}
use Rattle.jn_names.specs.FieldTypes.{fields_of_decl, spot_of, no_vars, FieldGives, before_fields, typed}
use Rattle.jn_names.specs.FieldTypes.{declared_fields, FieldsGive, AllFieldsGive, FieldsTold, none, refused, first}
use Rattle.jn_names.specs.FieldSteps.{Adds, AddsOr}
use Rattle.jn_names.proofs.Turned.{at_index}
use Rattle.jn_names.proofs.ScopedProof.{take_one, map_both}

-- ---- one level deep

pub at_decl : (d : Decl) (P : Path) → fields_of_decl d P ≡ all_by (d.name.name ∷ P) (map fields_of_member d.members)
unfolding fields_of_decl fields_of_member
at_decl d P = ap (λ (f : FieldsBy). f P) (fold_out-Decl FieldsBy FieldsBy member_step decl_step d)

from : (m : Member) (f : Member-F Member Decl) → out-Member m ≡ f → (R : Path)
    → fields_of_member m R ≡ member_step (map-Member Member Decl FieldsBy FieldsBy fields_of_member fields_of_decl f) R
unfolding fields_of_decl fields_of_member
from m f e R =
    ap (λ (g : FieldsBy). g R) (fold_out-Member FieldsBy FieldsBy member_step decl_step m)
    ∙ ap (λ (x : Member-F Member Decl). member_step
    (map-Member Member Decl FieldsBy FieldsBy fields_of_member fields_of_decl x) R) e

pub at_inner : (d : Decl) (R : Path) → fields_of_member (member.Inner d) R ≡ fields_of_decl d R
at_inner d R = from (member.Inner d) _ (outs-Inner d) R

pub at_slot : (f : Field) (R : Path) → fields_of_member (member.Slot f) R ≡ record { class = R; field = f } ∷ []
at_slot f R = from (member.Slot f) _ (outs-Slot f) R

pub at_body : (m : Method) (R : Path) → fields_of_member (member.Body m) R ≡ []
at_body m R = from (member.Body m) _ (outs-Body m) R

pub ruleset member_fields = (at_inner, at_slot, at_body)

-- ---- lists of fields

abbrev behind : List FieldTy → Result (List FieldTy) Refusal → Result (List FieldTy) Refusal
behind a (Ok b) = Ok (a ++ b)
behind a (Err r) = Err r

before_behind : (x : FieldTy) (a : List FieldTy) (o : Result (List FieldTy) Refusal)
    → behind (x ∷ a) o ≡ before_fields x (behind a o)
before_behind x a (Ok b) = refl
before_behind x a (Err r) = refl

behind_none : (o : Result (List FieldTy) Refusal) → behind [] o ≡ o
behind_none (Ok b) = refl
behind_none (Err r) = refl

module _ (p : Program) (known : List ShownPath) where
  give_then : (xs ys : List AtField) (a : List FieldTy) (q o : Result (List FieldTy) Refusal) → FieldsGive p known xs q
      → q ≡ Ok a → FieldsGive p known ys o
      → FieldsGive p known (xs ++ ys) (behind a o)
  give_then [] ys a q o (none e) h g =
      let k : ◌≡◌ {A = Result (List FieldTy) Refusal} (Ok []) (Ok a) = sym e ∙ h in
      let l : [] ≡ a = cc k in
      subst (λ (b : List FieldTy). FieldsGive p known ys (behind b o)) l (subst (FieldsGive p known ys) (sym (behind_none o)) g)
  give_then (x ∷ xs) ys a q o (refused r k e) h g =
      absurd (let l : ◌≡◌ {A = Result (List FieldTy) Refusal} (Err r) (Ok a) = sym e ∙ h in cc l)
  give_then (x ∷ xs) ys a q o (first ty id others k n rest e) h g =
      by_others others (λ b i. give_then xs ys b others o rest i g) (sym e ∙ h) where
        by_others : (v : Result (List FieldTy) Refusal)
            → ((b : List FieldTy) → v ≡ Ok b → FieldsGive p known (xs ++ ys) (behind b o))
            → before_fields (typed id x ty) v ≡ Ok a
            → FieldsGive p known (x ∷ (xs ++ ys)) (behind a o)
        by_others (Err r) f i = absurd (cc i)
        by_others (Ok b) f i =
            let j : (typed id x ty ∷ b) ≡ a = cc i in
            first ty id (behind b o) k n (f b refl)
            (ap (λ (c : List FieldTy). behind c o) (sym j) ∙ before_behind (typed id x ty) b o)

  give_refused : (xs ys : List AtField) (r : Refusal) (q : Result (List FieldTy) Refusal) → FieldsGive p known xs q
      → q ≡ Err r → FieldsGive p known (xs ++ ys) (Err r)
  give_refused [] ys r q (none e) h = absurd (let k : ◌≡◌ {A = Result (List FieldTy) Refusal} (Ok []) (Err r) = sym e ∙ h in cc k)
  give_refused (x ∷ xs) ys r q (refused s k e) h = let l : ◌≡◌ {A = Result (List FieldTy) Refusal} (Err s) (Err r) = sym e ∙ h in
      let i : s ≡ r = cc l in refused r (subst (λ (z : Refusal). FieldGives p x (Err z)) i k) refl
  give_refused (x ∷ xs) ys r q (first ty id others k n rest e) h =
      by_others others (λ i. give_refused xs ys r others rest i) (sym e ∙ h) where
        by_others : (v : Result (List FieldTy) Refusal) → (v ≡ Err r → FieldsGive p known (xs ++ ys) (Err r))
            → before_fields (typed id x ty) v ≡ Err r → FieldsGive p known (x ∷ (xs ++ ys)) (Err r)
        by_others (Err s) f i = first ty id (Err r) k n (f i) refl
        by_others (Ok b) f i = absurd (cc i)

-- ---- adding

pub adds_none : (p : Program) (t : Table) (out : List FieldTy) → Adds p t [] out out
adds_none p t out = record { types = []; is = sym (append-nil out); give = none refl }

adds_joined : (p : Program) (t : Table) (xs ys : List AtField) (a b c : List FieldTy) → Adds p t xs a b
    → Adds p t ys b c → Adds p t (xs ++ ys) a c
adds_joined p t xs ys a b c g h = record {
  types = g.types ++ h.types;
  is = h.is ∙ (ap (λ (o : List FieldTy). o ++ h.types) g.is ∙ append_assoc a g.types h.types);
  give = give_then p t.known.items xs ys g.types (Ok g.types) (Ok h.types) g.give refl h.give;
}

refused_behind : (p : Program) (t : Table) (xs ys zs : List AtField) (a b : List FieldTy) (r : Refusal)
    → Adds p t xs a b → FieldsGive p t.known.items ys (Err r)
    → FieldsGive p t.known.items (xs ++ (ys ++ zs)) (Err r)
refused_behind p t xs ys zs a b r g h =
    give_then p t.known.items xs (ys ++ zs) g.types (Ok g.types) (Err r) g.give refl
    (give_refused p t.known.items ys zs r (Err r) h refl)

all_both : (R : Path) (fs gs : List FieldsBy) → all_by R (fs ++ gs) ≡ all_by R fs ++ all_by R gs
all_both R [] gs = refl
all_both R (f ∷ fs) gs =
    ap (λ (xs : List AtField). f R ++ xs) (all_both R fs gs) ∙ sym (append_assoc (f R) (all_by R fs) (all_by R gs))

-- a loop over members or declarations
module _ {A : Type 0} (f : A → FieldsBy) (R : Path) (ms : List A) (p : Program) (t : Table) where
  fields_to : (i : ℕ) (m : A) → i < length ms → m ≡ get_or ms i m
      → all_by R (map f (take (i + 1) ms)) ≡ all_by R (map f (take i ms)) ++ (f m R ++ [])
  fields_to i m l e =
      ap (λ (xs : List A). all_by R (map f xs)) (take_one ms i m (slice_get_read ms (length ms) i m refl l e))
      ∙ (ap (all_by R) (map_both f (take i ms) (m ∷ [])) ∙ all_both R (map f (take i ms)) (f m ∷ []))

  pub adds_more : (i : ℕ) (m : A) (a b c : List FieldTy) → i < length ms → m ≡ get_or ms i m
      → Adds p t (all_by R (map f (take i ms))) a b
      → Adds p t (f m R) b c → Adds p t (all_by R (map f (take (i + 1) ms))) a c
  adds_more i m a b c l e g h =
      subst (λ (xs : List AtField). Adds p t xs a c)
      (sym (fields_to i m l e ∙ ap (λ (xs : List AtField). all_by R (map f (take i ms)) ++ xs) (append-nil (f m R))))
      (adds_joined p t (all_by R (map f (take i ms))) (f m R) a b c g h)

  pub refused_at : (i : ℕ) (m : A) (a b c : List FieldTy) (fault : NameFault) → i < length ms → m ≡ get_or ms i m
      → Adds p t (all_by R (map f (take i ms))) a b
      → AddsOr p t (f m R) b c (Err fault) → AddsOr p t (all_by R (map f ms)) a c (Err fault)
  refused_at i m a b c (Refused r) l e g h =
      let split : ms ≡ take i ms ++ (m ∷ drop (i + 1) ms) = sym (take-append-drop i ms)
      ∙ ap (λ (xs : List A). take i ms ++ xs) (at_index ms i m l e) in
      let parts : all_by R (map f ms) ≡ all_by R (map f (take i ms)) ++ (f m R ++ all_by R (map f (drop (i + 1) ms))) =
      ap (λ (xs : List A). all_by R (map f xs)) split
      ∙ (ap (all_by R) (map_both f (take i ms) (m ∷ drop (i + 1) ms))
      ∙ all_both R (map f (take i ms)) (f m ∷ map f (drop (i + 1) ms))) in
      subst (λ (xs : List AtField). FieldsGive p t.known.items xs (Err r)) (sym parts)
      (refused_behind p t (all_by R (map f (take i ms))) (f m R) (all_by R (map f (drop (i + 1) ms))) a b r g h)
  refused_at i m a b c Memory l e g h = tt

  pub adds_all : (i : ℕ) (a b : List FieldTy) → length ms ≤ i → Adds p t (all_by R (map f (take i ms))) a b
      → Adds p t (all_by R (map f ms)) a b
  adds_all i a b l g = subst (λ (xs : List A). Adds p t (all_by R (map f xs)) a b) (take_all i ms l) g

-- ---- one field

field_gives : (p : Program) (names : List Name) (x : AtField) (spot : Spot) (vars : Vars) (o : Result Ty Refusal)
    → names ≡ mask_names p → spot ≡ spot_of x → vars ≡ no_vars → ResolveType p names spot vars x.field.ty o → FieldGives p x o
field_gives p names x spot vars o e h k g =
    subst (λ (vs : Vars). ResolveType p (mask_names p) (spot_of x) vs x.field.ty o) k
    (subst (λ (s : Spot). ResolveType p (mask_names p) s vars x.field.ty o) h
    (subst (λ (ns : List Name). ResolveType p ns spot vars x.field.ty o) e g))

pub field_added : (p : Program) (t : Table) (names : List Name) (x : AtField) (spot : Spot) (vars : Vars) (ty : Ty)
    (id : ClassId) (a b : List FieldTy)
    → names ≡ mask_names p → spot ≡ spot_of x → vars ≡ no_vars → IsNumber t.known.items id x.class
    → ResolveType p names spot vars x.field.ty (Ok ty)
    → b ≡ a ++ typed id x ty ∷ [] → Adds p t (x ∷ []) a b
field_added p t names x spot vars ty id a b e h k n g w = record {
  types = typed id x ty ∷ [];
  is = w;
  give = first ty id (Ok []) (field_gives p names x spot vars (Ok ty) e h k g) n (none refl) refl;
}

pub field_refused : (p : Program) (t : Table) (names : List Name) (x : AtField) (spot : Spot) (vars : Vars)
    (fault : NameFault) (a b : List FieldTy)
    → names ≡ mask_names p → spot ≡ spot_of x → vars ≡ no_vars → IsFilled p t
    → Told (λ o. (q : Program) → IsFilled q t → ResolveType q names spot vars x.field.ty o) (Err fault)
    → AddsOr p t (x ∷ []) a b (Err fault)
field_refused p t names x spot vars (Refused r) a b e h k f g =
    refused r (field_gives p names x spot vars (Err r) e h k (g p f)) refl
field_refused p t names x spot vars Memory a b e h k f g = tt

-- ---- all of them

pub told_refused : (p : Program) (t : Table) (xs : List AtField) (a b : List FieldTy) (fault : NameFault)
    → xs ≡ declared_fields p → AddsOr p t xs a b (Err fault)
    → FieldsTold (AllFieldsGive p t) (Err fault)
told_refused p t xs a b (Refused r) e g = subst (λ (ys : List AtField). FieldsGive p t.known.items ys (Err r)) e g
told_refused p t xs a b Memory e g = tt

pub told_all : (p : Program) (t : Table) (xs : List AtField) (a b : List FieldTy) → xs ≡ declared_fields p → a ≡ []
    → Adds p t xs a b → AllFieldsGive p t (Ok b)
told_all p t xs a b e h g =
    let types : g.types ≡ b = sym (g.is ∙ ap (λ (o : List FieldTy). o ++ g.types) h) in
    subst (λ (ts : List FieldTy). FieldsGive p t.known.items (declared_fields p) (Ok ts)) types
    (subst (λ (ys : List AtField). FieldsGive p t.known.items ys (Ok g.types)) e g.give)

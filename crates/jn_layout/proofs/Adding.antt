-- Bodies and fields, one level deep and list by list.
use Rattle.std.proofs.Common.{◌≡◌, ◌<◌, ◌≤◌, ◌+◌, ℕ, List, [], ◌∷◌, ◌++◌, map, take, length, get_or, refl, sym, ap, ◌∙◌, subst, append_assoc, Option, Some, None, IfSome, IfNone}
use Rattle.std.proofs.lemmas.List.{append-nil, take_all}
use Rattle.jn_reach.specs.Each.{Each, none, more}
use Rattle.jn_base.specs.declared.tree.Decl.{Decl}
use Rattle.jn_base.specs.declared.tree.Field.{Field}
use Rattle.jn_base.specs.declared.tree.Method.{Method}
use Rattle.jn_base.specs.declared.tree.Member.{Member, out-Member}
use Rattle.jn_base.specs.declared.tree.Member.TheOpen.{Member-F}
use Rattle.jn_base.specs.declared.tree.Member.TheFolds.{map-Member, fold_out-Member, fold_out-Decl}
use Rattle.jn_base.specs.declared.tree.Member.TheVariants as member
use Rattle.jn_base.specs.declared.tree.Member.TheVariants.{outs-Inner, outs-Slot, outs-Body}
use Rattle.jn_base.specs.declared.tree.Program.{Program}
use Rattle.jn_base.specs.Paths.{Path}
use Rattle.jn_table.specs.declared.class.ClassId.{ClassId}
use Rattle.jn_table.specs.declared.table.Table.{Table}
use Rattle.jn_table.specs.Tables.{StandsFor}
use Rattle.jn_names.specs.Bounds.{HasNone}
use Rattle.jn_names.specs.FieldTypes.{AtField, FieldsBy, all_by, fields_of_member, fields_of_decl, declared_fields}
use Rattle.jn_names.proofs.FieldProof.{at_decl, at_inner, at_slot, at_body}
use Rattle.jn_share.proofs.Walk.{take_one, map_both}
use Rattle.jn_sem.specs.Does.{Body}
use Rattle.jn_agree.specs.Rows.{InOrder, of_member, of_decl, bodies_of}
use Rattle.jn_layout.specs.declared.declared.BodyAt.{BodyAt}
use Rattle.jn_layout.specs.declared.declared.FieldAt.{FieldAt}
use Rattle.jn_layout.specs.declared.declared.Declared.{Declared}
use Rattle.jn_layout.specs.Shapes.{Adds, AddsBoth, AreDeclared, IsBodyAt, IsFieldAt, IsClassOf, decl_bodies, bodies_in, all_bodies}

-- ---- bodies, one level deep

pub bodies_at_decl : (d : Decl) (P : Path) → of_decl d P ≡ all_bodies (d.name.name ∷ P) (map bodies_in d.members)
unfolding of_decl bodies_in
bodies_at_decl d P = ap (λ (f : InOrder). f P) (fold_out-Decl InOrder InOrder of_member decl_bodies d)

pub opened : (m : Member) (f : Member-F Member Decl) → out-Member m ≡ f → (R : Path)
    → bodies_in m R ≡ of_member (map-Member Member Decl InOrder InOrder bodies_in of_decl f) R
unfolding of_decl bodies_in
opened m f e R =
    ap (λ (g : InOrder). g R) (fold_out-Member InOrder InOrder of_member decl_bodies m)
    ∙ ap (λ (x : Member-F Member Decl). of_member (map-Member Member Decl InOrder InOrder bodies_in of_decl x) R) e

bodies_at_inner : (d : Decl) (R : Path) → bodies_in (member.Inner d) R ≡ of_decl d R
bodies_at_inner d R = opened (member.Inner d) _ (outs-Inner d) R

bodies_at_slot : (f : Field) (R : Path) → bodies_in (member.Slot f) R ≡ []
bodies_at_slot f R = opened (member.Slot f) _ (outs-Slot f) R

bodies_at_body : (m : Method) (R : Path) → bodies_in (member.Body m) R ≡ record { class = R; method = m } ∷ []
bodies_at_body m R = opened (member.Body m) _ (outs-Body m) R

-- ---- lists

each_joined : {A B : Type 0} (R : A → B → Type 0) {xs ys : List A} {us vs : List B} → Each R xs us → Each R ys vs → Each R (xs ++ ys) (us ++ vs)
each_joined R none h = h
each_joined R (more r g) h = more r (each_joined R g h)

module _ {A B : Type 0} (R : A → B → Type 0) where
  pub adds_none : (out : List B) → Adds R [] out out
  adds_none out = record { more = []; is = sym (append-nil out); each = none }

  adds_joined : (xs ys : List A) (a b c : List B) → Adds R xs a b → Adds R ys b c → Adds R (xs ++ ys) a c
  adds_joined xs ys a b c g h = record {
    more = g.more ++ h.more;
    is = h.is ∙ (ap (λ (o : List B). o ++ h.more) g.is ∙ append_assoc a g.more h.more);
    each = each_joined R g.each h.each;
  }

  pub adds_one : (x : A) (y : B) (a b : List B) → b ≡ a ++ y ∷ [] → R x y → Adds R (x ∷ []) a b
  adds_one x y a b e r = record { more = y ∷ []; is = e; each = more r none }

-- a loop over members or declarations, of which the lists are put one behind the other
module _ {A B M : Type 0} (R : A → B → Type 0) (joined : Path → List (Path → List A) → List A)
    (empty : (P : Path) → joined P [] ≡ []) (longer : (P : Path) (f : Path → List A) (fs : List (Path → List A)) → joined P (f ∷ fs) ≡ f P ++ joined P fs)
    (f : M → Path → List A) (P : Path) (ms : List M) where
  both : (fs gs : List (Path → List A)) → joined P (fs ++ gs) ≡ joined P fs ++ joined P gs
  both [] gs = ap (λ (xs : List A). xs ++ joined P gs) (sym (empty P))
  both (g ∷ fs) gs =
      longer P g (fs ++ gs) ∙ (ap (λ (xs : List A). g P ++ xs) (both fs gs)
      ∙ (sym (append_assoc (g P) (joined P fs) (joined P gs)) ∙ ap (λ (xs : List A). xs ++ joined P gs) (sym (longer P g fs))))

  one : (m : M) → joined P (f m ∷ []) ≡ f m P
  one m = longer P (f m) [] ∙ (ap (λ (xs : List A). f m P ++ xs) (empty P) ∙ append-nil (f m P))

  step : (i : ℕ) (m : M) → i < length ms → m ≡ get_or ms i m → joined P (map f (take (i + 1) ms)) ≡ joined P (map f (take i ms)) ++ f m P
  step i m l e =
      ap (λ (xs : List M). joined P (map f xs)) (take_one ms i m l e)
      ∙ (ap (joined P) (map_both f (take i ms) (m ∷ [])) ∙ (both (map f (take i ms)) (f m ∷ []) ∙ ap (λ (xs : List A). joined P (map f (take i ms)) ++ xs) (one m)))

  adds_next : (i : ℕ) (m : M) (a b c : List B) → i < length ms → m ≡ get_or ms i m → Adds R (joined P (map f (take i ms))) a b → Adds R (f m P) b c
      → Adds R (joined P (map f (take (i + 1) ms))) a c
  adds_next i m a b c l e g h = subst (λ (xs : List A). Adds R xs a c) (sym (step i m l e)) (adds_joined R (joined P (map f (take i ms))) (f m P) a b c g h)

-- ---- both

pub both_none : (t : Table) (out : Declared) → AddsBoth t [] [] out out
both_none t out = record { bodies_are = adds_none (IsBodyAt t) out.bodies.items; fields_are = adds_none (IsFieldAt t) out.fields.items }

pub both_same : (t : Table) (bs cs : List Body) (fs gs : List AtField) (a b : Declared) → bs ≡ cs → fs ≡ gs → AddsBoth t bs fs a b → AddsBoth t cs gs a b
both_same t bs cs fs gs a b e h g = subst (λ (xs : List Body). AddsBoth t xs gs a b) e (subst (λ (ys : List AtField). AddsBoth t bs ys a b) h g)

module _ {M : Type 0} (t : Table) (f : M → InOrder) (g : M → FieldsBy) (P : Path) (ms : List M) where
  pub both_more : (i : ℕ) (m : M) (a b c : Declared) → i < length ms → m ≡ get_or ms i m
      → AddsBoth t (all_bodies P (map f (take i ms))) (all_by P (map g (take i ms))) a b → AddsBoth t (f m P) (g m P) b c
      → AddsBoth t (all_bodies P (map f (take (i + 1) ms))) (all_by P (map g (take (i + 1) ms))) a c
  both_more i m a b c l e x y = record {
    bodies_are = adds_next (IsBodyAt t) all_bodies (λ Q. refl) (λ Q h hs. refl) f P ms i m a.bodies.items b.bodies.items c.bodies.items l e x.bodies_are y.bodies_are;
    fields_are = adds_next (IsFieldAt t) all_by (λ Q. refl) (λ Q h hs. refl) g P ms i m a.fields.items b.fields.items c.fields.items l e x.fields_are y.fields_are;
  }

  pub both_all : (i : ℕ) (a b : Declared) → length ms ≤ i → AddsBoth t (all_bodies P (map f (take i ms))) (all_by P (map g (take i ms))) a b
      → AddsBoth t (all_bodies P (map f ms)) (all_by P (map g ms)) a b
  both_all i a b l x = subst (λ (xs : List M). AddsBoth t (all_bodies P (map f xs)) (all_by P (map g xs)) a b) (take_all i ms l) x

-- ---- a member, and a declaration

pub both_inner : (t : Table) (m : Member) (d : Decl) (R : Path) (a b : Declared) → m ≡ member.Inner d → AddsBoth t (of_decl d R) (fields_of_decl d R) a b
    → AddsBoth t (bodies_in m R) (fields_of_member m R) a b
both_inner t m d R a b e g = subst (λ (x : Member). AddsBoth t (bodies_in x R) (fields_of_member x R) a b) (sym e)
    (both_same t (of_decl d R) (bodies_in (member.Inner d) R) (fields_of_decl d R) (fields_of_member (member.Inner d) R) a b (sym (bodies_at_inner d R)) (sym (at_inner d R)) g)

pub both_slot : (t : Table) (m : Member) (f : Field) (R : Path) (a b : Declared) → m ≡ member.Slot f → AddsBoth t [] (record { class = R; field = f } ∷ []) a b
    → AddsBoth t (bodies_in m R) (fields_of_member m R) a b
both_slot t m f R a b e g = subst (λ (x : Member). AddsBoth t (bodies_in x R) (fields_of_member x R) a b) (sym e)
    (both_same t [] (bodies_in (member.Slot f) R) _ (fields_of_member (member.Slot f) R) a b (sym (bodies_at_slot f R)) (sym (at_slot f R)) g)

pub both_body : (t : Table) (m : Member) (n : Method) (R : Path) (a b : Declared) → m ≡ member.Body n → AddsBoth t (record { class = R; method = n } ∷ []) [] a b
    → AddsBoth t (bodies_in m R) (fields_of_member m R) a b
both_body t m n R a b e g = subst (λ (x : Member). AddsBoth t (bodies_in x R) (fields_of_member x R) a b) (sym e)
    (both_same t _ (bodies_in (member.Body n) R) [] (fields_of_member (member.Body n) R) a b (sym (bodies_at_body n R)) (sym (at_body n R)) g)

pub both_decl : (t : Table) (d : Decl) (N R Q : Path) (ms : List Member) (a b : Declared) → R ≡ d.name.name ∷ Q → Q ≡ N → ms ≡ d.members
    → AddsBoth t (all_bodies R (map bodies_in ms)) (all_by R (map fields_of_member ms)) a b → AddsBoth t (of_decl d N) (fields_of_decl d N) a b
both_decl t d N R Q ms a b e k h g =
    let S : Path = d.name.name ∷ N in
    let at : R ≡ S = e ∙ ap (λ (P : Path). d.name.name ∷ P) k in
    both_same t (all_bodies S (map bodies_in d.members)) (of_decl d N) (all_by S (map fields_of_member d.members)) (fields_of_decl d N) a b
    (sym (bodies_at_decl d N)) (sym (at_decl d N))
    (subst (λ (P : Path). AddsBoth t (all_bodies P (map bodies_in d.members)) (all_by P (map fields_of_member d.members)) a b) at
    (subst (λ (xs : List Member). AddsBoth t (all_bodies R (map bodies_in xs)) (all_by R (map fields_of_member xs)) a b) h g))

pub class_told : (t : Table) (P : Path) (o : Option ClassId) → IfSome o (λ id. StandsFor t id P) → IfNone o (HasNone t P) → IsClassOf t P o
class_told t P None s n = n
class_told t P (Some id) s n = s

pub all_declared : (p : Program) (t : Table) (root : Path) (ds : List Decl) (a b : Declared) → root ≡ [] → ds ≡ p.decls → a.bodies.items ≡ [] → a.fields.items ≡ []
    → AddsBoth t (all_bodies root (map of_decl ds)) (all_by root (map fields_of_decl ds)) a b → AreDeclared p t b
all_declared p t root ds a b e h k l g =
    let x = subst (λ (xs : List Decl). AddsBoth t (all_bodies [] (map of_decl xs)) (all_by [] (map fields_of_decl xs)) a b) h
    (subst (λ (P : Path). AddsBoth t (all_bodies P (map of_decl ds)) (all_by P (map fields_of_decl ds)) a b) e g) in
    record {
      bodies = subst (λ (ys : List BodyAt). Each (IsBodyAt t) (bodies_of p) ys) (sym (x.bodies_are.is ∙ ap (λ (o : List BodyAt). o ++ x.bodies_are.more) k)) x.bodies_are.each;
      fields = subst (λ (ys : List FieldAt). Each (IsFieldAt t) (declared_fields p) ys) (sym (x.fields_are.is ∙ ap (λ (o : List FieldAt). o ++ x.fields_are.more) l)) x.fields_are.each;
    }

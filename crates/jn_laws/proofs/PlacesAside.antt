-- A program that is spelled but for its places has what a spelled program has.
use Rattle.std.proofs.Common.{ℕ, ◌≡◌, ◌<◌, ◌≤◌, suc, All, List, [], ◌∷◌, length, map, refl, sym, ap, ◌∙◌, subst, arith, Contains, Option, Some, None}
use Rattle.jn_base.specs.declared.tree.Name.{Name}
use Rattle.std.specs.Prelude.{slice_get}
use Rattle.jn_base.specs.declared.tree.Named.{Named}
use Rattle.jn_base.specs.declared.tree.Text.{Text}
use Rattle.jn_base.specs.declared.tree.Term.{Term}
use Rattle.jn_base.specs.declared.tree.TypeTerm.{TypeTerm}
use Rattle.jn_base.specs.declared.tree.TypeTerm.TheVariants as type
use Rattle.jn_base.specs.declared.tree.Field.{Field}
use Rattle.jn_base.specs.declared.tree.Param.{Param}
use Rattle.jn_base.specs.declared.tree.Method.{Method}
use Rattle.jn_base.specs.declared.tree.Constraint.{Constraint}
use Rattle.jn_base.specs.declared.tree.Member.{Member, out-Member}
use Rattle.jn_base.specs.declared.tree.Member.TheOpen.{Member-F}
use Rattle.jn_base.specs.declared.tree.Member.TheFolds.{map-Member, fold_out-Member, fold_out-Decl}
use Rattle.jn_base.specs.declared.tree.Member.TheVariants.{outs-Inner, outs-Slot, outs-Body}
use Rattle.jn_base.specs.declared.tree.Decl.{Decl}
use Rattle.jn_base.specs.declared.tree.Program.{Program}
use Rattle.jn_base.specs.Paths.{Path, nested, fields, methods, and_nested, and_field, and_method, StandsIn, StandsAt}
use Rattle.jn_base.specs.Universe.{InUniverse}
use Rattle.jn_base.specs.Members.{FieldAt, MethodAt}
use Rattle.jn_base.specs.Atoms.{Among}
use Rattle.jn_base.specs.ProgramNames.{IsNamed}
use Rattle.jn_base.specs.Unplaced.{unplaced_stmt, unplaced_named, unplaced_term, unplaced_type, unplaced_param, unplaced_constraint, unplaced_field, unplaced_result, unplaced_method, unplaced_member, unplaced_decl, unplaced, member_step, decl_step}
use Rattle.jn_base.proofs.Reaching.{universe_depth, declared_in_universe}
use Rattle.jn_base.proofs.SpelledNames.{spelled_is_named}
use Rattle.jn_sem.specs.Acts.{path_behind}
use Rattle.jn_sem.specs.LawsOfSlots.{HeadNamed}
use Rattle.jn_sem.proofs.FindingLaws.{among_of, contains_of}
use Rattle.jn_sem.proofs.NormalTypes.{map_among}
use Rattle.jn_laws.specs.LawsOfWritten.{TypeWellFormed}
use Rattle.jn_laws.specs.LawsOfSources.{WellFormed, KeepsLimits}
use Rattle.jn_laws.specs.LawsOfPlaces.{ProgramsWithinLimits}
use Rattle.jn_laws.proofs.Lists.{among_map}
use Rattle.jn_laws.proofs.SpelledForms.{sources_well_formed, type_named}
use Rattle.jn_laws.proofs.CleanTexts.{texts_keep_limits}
use Rattle.jn_laws.proofs.BodiesAside.{bodies_kept, locals_kept}
use Rattle.jn_laws.proofs.SpelledBodies.{sources_bodies_formed}
use Rattle.jn_laws.proofs.FewLocals.{texts_have_few_locals}

-- ---- declarations, one level deep

member_is : (m : Member) (f : Member-F Member Decl) → out-Member m ≡ f → unplaced_member m ≡ member_step (map-Member Member Decl Member Decl unplaced_member unplaced_decl f)
unfolding unplaced_member unplaced_decl
member_is m f e =
    fold_out-Member Member Decl member_step decl_step m
    ∙ ap (λ (x : Member-F Member Decl). member_step (map-Member Member Decl Member Decl unplaced_member unplaced_decl x)) e

name_kept : (d : Decl) → (unplaced_decl d).name.name ≡ d.name.name
unfolding unplaced_member unplaced_decl
name_kept d = ap (λ (e : Decl). e.name.name) (fold_out-Decl Member Decl member_step decl_step d)

members_kept : (d : Decl) → (unplaced_decl d).members ≡ map unplaced_member d.members
unfolding unplaced_member unplaced_decl
members_kept d = ap (λ (e : Decl). e.members) (fold_out-Decl Member Decl member_step decl_step d)

-- what a member becomes
kept : Member-F Member Decl → Member-F Member Decl
kept (Member-F.Inner d) = Member-F.Inner (unplaced_decl d)
kept (Member-F.Slot f) = Member-F.Slot (unplaced_field f)
kept (Member-F.Body m) = Member-F.Body (unplaced_method m)

out_kept : (m : Member) (f : Member-F Member Decl) → out-Member m ≡ f → out-Member (unplaced_member m) ≡ kept f
unfolding kept
out_kept m (Member-F.Inner d) e = ap out-Member (member_is m (Member-F.Inner d) e) ∙ outs-Inner (unplaced_decl d)
out_kept m (Member-F.Slot f) e = ap out-Member (member_is m (Member-F.Slot f) e) ∙ outs-Slot (unplaced_field f)
out_kept m (Member-F.Body x) e = ap out-Member (member_is m (Member-F.Body x) e) ∙ outs-Body (unplaced_method x)

nested_kept : (ms : List Member) → nested (map unplaced_member ms) ≡ map unplaced_decl (nested ms)
unfolding kept
nested_kept [] = refl
nested_kept (m ∷ ms) =
    ap (λ (o : Member-F Member Decl). and_nested o (nested (map unplaced_member ms))) (out_kept m (out-Member m) refl)
    ∙ at (out-Member m) (nested_kept ms) where
      at : (f : Member-F Member Decl) → nested (map unplaced_member ms) ≡ map unplaced_decl (nested ms)
          → and_nested (kept f) (nested (map unplaced_member ms)) ≡ map unplaced_decl (and_nested f (nested ms))
      at (Member-F.Inner d) e = ap (λ (ds : List Decl). unplaced_decl d ∷ ds) e
      at (Member-F.Slot f) e = e
      at (Member-F.Body x) e = e

fields_kept : (ms : List Member) → fields (map unplaced_member ms) ≡ map unplaced_field (fields ms)
unfolding kept
fields_kept [] = refl
fields_kept (m ∷ ms) =
    ap (λ (o : Member-F Member Decl). and_field o (fields (map unplaced_member ms))) (out_kept m (out-Member m) refl)
    ∙ at (out-Member m) (fields_kept ms) where
      at : (f : Member-F Member Decl) → fields (map unplaced_member ms) ≡ map unplaced_field (fields ms)
          → and_field (kept f) (fields (map unplaced_member ms)) ≡ map unplaced_field (and_field f (fields ms))
      at (Member-F.Inner d) e = e
      at (Member-F.Slot f) e = ap (λ (fs : List Field). unplaced_field f ∷ fs) e
      at (Member-F.Body x) e = e

methods_kept : (ms : List Member) → methods (map unplaced_member ms) ≡ map unplaced_method (methods ms)
unfolding kept
methods_kept [] = refl
methods_kept (m ∷ ms) =
    ap (λ (o : Member-F Member Decl). and_method o (methods (map unplaced_member ms))) (out_kept m (out-Member m) refl)
    ∙ at (out-Member m) (methods_kept ms) where
      at : (f : Member-F Member Decl) → methods (map unplaced_member ms) ≡ map unplaced_method (methods ms)
          → and_method (kept f) (methods (map unplaced_member ms)) ≡ map unplaced_method (and_method f (methods ms))
      at (Member-F.Inner d) e = e
      at (Member-F.Slot f) e = e
      at (Member-F.Body x) e = ap (λ (xs : List Method). unplaced_method x ∷ xs) e

-- ---- where declarations stand

stands_kept : (p : Program) (P : Path) (d : Decl) → StandsIn p P d → StandsIn (unplaced p) P (unplaced_decl d)
stands_kept p [] d s = contains_of (map unplaced_decl p.decls) (unplaced_decl d) (among_map unplaced_decl p.decls d (among_of p.decls d s))
stands_kept p (C ∷ P) d s = (
  unplaced_decl s.0,
  stands_kept p P s.0 s.1,
  name_kept s.0 ∙ s.2,
  subst (λ (ds : List Decl). Contains ds (unplaced_decl d)) (sym (ap nested (members_kept s.0) ∙ nested_kept s.0.members))
      (contains_of (map unplaced_decl (nested s.0.members)) (unplaced_decl d) (among_map unplaced_decl (nested s.0.members) d (among_of (nested s.0.members) d s.3))),
)

at_kept : (p : Program) (R : Path) (d : Decl) → StandsAt p R d → StandsAt (unplaced p) R (unplaced_decl d)
at_kept p [] d s = absurd s
at_kept p (C ∷ P) d s = (stands_kept p P d s.0, name_kept d ∙ s.1)

record Origin (p : Program) (P : Path) (e : Decl) : Type 0 where
  decl : Decl
  stands : StandsIn p P decl
  is : unplaced_decl decl ≡ e

stands_back : (p : Program) (P : Path) (e : Decl) → StandsIn (unplaced p) P e → Origin p P e
stands_back p [] e s =
    let r = map_among unplaced_decl p.decls e (among_of (map unplaced_decl p.decls) e s) in
    record { decl = r.0; stands = contains_of p.decls r.0 r.1; is = r.2 }
stands_back p (C ∷ P) e s =
    let o = stands_back p P s.0 s.1 in
    let c : Contains (map unplaced_decl (nested o.decl.members)) e =
    subst (λ (ds : List Decl). Contains ds e) (ap nested (ap (λ (d : Decl). d.members) (sym o.is) ∙ members_kept o.decl) ∙ nested_kept o.decl.members) s.3 in
    let r = map_among unplaced_decl (nested o.decl.members) e (among_of (map unplaced_decl (nested o.decl.members)) e c) in
    record {
      decl = r.0;
      stands = (o.decl, o.stands, sym (name_kept o.decl) ∙ ap (λ (d : Decl). d.name.name) o.is ∙ s.2, contains_of (nested o.decl.members) r.0 r.1);
      is = r.2;
    }

record OriginAt (p : Program) (R : Path) (e : Decl) : Type 0 where
  decl : Decl
  stands : StandsAt p R decl
  is : unplaced_decl decl ≡ e

at_back : (p : Program) (R : Path) (e : Decl) → StandsAt (unplaced p) R e → OriginAt p R e
at_back p [] e s = absurd s
at_back p (C ∷ P) e s =
    let o = stands_back p P e s.0 in
    record { decl = o.decl; stands = (o.stands, sym (name_kept o.decl) ∙ ap (λ (d : Decl). d.name.name) o.is ∙ s.1); is = o.is }

-- ---- types

heads_kept : (ts us : List Term) → map unplaced_term ts ≡ map unplaced_term us → ((t : Term) → Among ts t → HeadNamed t.head) → (u : Term) → Among us u → HeadNamed u.head
heads_kept ts us e h u m =
    let r = map_among unplaced_term ts (unplaced_term u) (subst (λ (xs : List Term). Among xs (unplaced_term u)) (sym e) (among_map unplaced_term us u m)) in
    subst HeadNamed (ap (λ (t : Term). t.head) r.2) (h r.0 r.1)

class_terms : (ts us : List Term) (ms ns : List Named) → type.Class ts ms ≡ type.Class us ns → ts ≡ us
class_terms ts us ms ns e = cc

map_length : (ts : List Term) → length (map unplaced_term ts) ≡ length ts
map_length [] = refl
map_length (t ∷ ts) = ap suc (map_length ts)

type_kept : (t u : TypeTerm) → unplaced_type t ≡ unplaced_type u → TypeWellFormed t → TypeWellFormed u
type_kept t type.Int e w = tt
type_kept t type.Bool e w = tt
type_kept type.Int (type.Class us ns) e w = cc
type_kept type.Bool (type.Class us ns) e w = cc
type_kept (type.Class ts ms) (type.Class us ns) e w =
    let i = class_terms (map unplaced_term ts) (map unplaced_term us) (map unplaced_named ms) (map unplaced_named ns) e in
    (omega (arith, w.0, ap length i, map_length ts, map_length us), heads_kept ts us i w.1)

-- ---- the members of two programs that are the same but for places

module _ (q p : Program) (same : unplaced q ≡ unplaced p) where
  record FieldOrigin (Q : Path) (f : Name) (x : Field) : Type 0 where
    field : Field
    at : FieldAt q Q f field
    is : unplaced_field field ≡ unplaced_field x

  record MethodOrigin (Q : Path) (m : Name) (x : Method) : Type 0 where
    method : Method
    at : MethodAt q Q m method
    is : unplaced_method method ≡ unplaced_method x

  decl_origin : (Q : Path) (d : Decl) → StandsAt p Q d → OriginAt q Q (unplaced_decl d)
  decl_origin Q d s = at_back q Q (unplaced_decl d) (subst (λ (r : Program). StandsAt r Q (unplaced_decl d)) (sym same) (at_kept p Q d s))

  field_origin : (Q : Path) (f : Name) (x : Field) → FieldAt p Q f x → FieldOrigin Q f x
  field_origin Q f x at =
      let o = decl_origin Q at.decl at.stands in
      let e : map unplaced_field (fields o.decl.members) ≡ map unplaced_field (fields at.decl.members) =
      sym (ap fields (members_kept o.decl) ∙ fields_kept o.decl.members) ∙ ap (λ (d : Decl). fields d.members) o.is ∙ ap fields (members_kept at.decl) ∙ fields_kept at.decl.members in
      let m = among_map unplaced_field (fields at.decl.members) x (among_of (fields at.decl.members) x at.has) in
      let r = map_among unplaced_field (fields o.decl.members) (unplaced_field x) (subst (λ (xs : List Field). Among xs (unplaced_field x)) (sym e) m) in
      record {
        field = r.0;
        at = record { decl = o.decl; stands = o.stands; has = contains_of (fields o.decl.members) r.0 r.1; name = ap (λ (y : Field). y.name.name) r.2 ∙ at.name };
        is = r.2;
      }

  method_origin : (Q : Path) (m : Name) (x : Method) → MethodAt p Q m x → MethodOrigin Q m x
  method_origin Q m x at =
      let o = decl_origin Q at.decl at.stands in
      let e : map unplaced_method (methods o.decl.members) ≡ map unplaced_method (methods at.decl.members) =
      sym (ap methods (members_kept o.decl) ∙ methods_kept o.decl.members) ∙ ap (λ (d : Decl). methods d.members) o.is ∙ ap methods (members_kept at.decl) ∙ methods_kept at.decl.members in
      let n = among_map unplaced_method (methods at.decl.members) x (among_of (methods at.decl.members) x at.has) in
      let r = map_among unplaced_method (methods o.decl.members) (unplaced_method x) (subst (λ (xs : List Method). Among xs (unplaced_method x)) (sym e) n) in
      record {
        method = r.0;
        at = record { decl = o.decl; stands = o.stands; has = contains_of (methods o.decl.members) r.0 r.1; name = ap (λ (y : Method). y.name.name) r.2 ∙ at.name };
        is = r.2;
      }

  results : (o : Option TypeTerm) (r : Option TypeTerm) (t : TypeTerm) → unplaced_result o ≡ unplaced_result r → r ≡ Some t → ((u : TypeTerm) → o ≡ Some u → TypeWellFormed u) → TypeWellFormed t
  results None None t e i h = absurd (no t i) where
    no : (t : TypeTerm) → ◌≡◌ {A = Option TypeTerm} None (Some t) → ⊥
    no t i = cc
  results None (Some u) t e i h = cc
  results (Some v) None t e i h = cc
  results (Some v) (Some u) t e i h = type_kept v t (some_type (unplaced_type v) (unplaced_type u) e ∙ ap unplaced_type (some_type u t i)) (h v refl) where
    some_type : (a b : TypeTerm) → Some a ≡ Some b → a ≡ b
    some_type a b e = cc

  formed : WellFormed q → WellFormed p
  formed w = record {
    fields = λ Q f x at. let o = field_origin Q f x at in type_kept o.field.ty x.ty (ap (λ (y : Field). y.ty) o.is) (w.fields Q f o.field o.at);
    params = λ Q m x y at i. let o = method_origin Q m x at in
        let e = ap (λ (z : Method). z.params) o.is in
        let r = map_among unplaced_param o.method.params (unplaced_param y) (subst (λ (ys : List Param). Among ys (unplaced_param y)) (sym e) (among_map unplaced_param x.params y i)) in
        type_kept r.0.ty y.ty (ap (λ (z : Param). z.ty) r.2) (w.params Q m o.method r.0 o.at r.1);
    results = λ Q m x t at e. let o = method_origin Q m x at in
        results o.method.result x.result t (ap (λ (z : Method). z.result) o.is) e (λ u i. w.results Q m o.method u o.at i);
    constraints = λ Q m x c at i. let o = method_origin Q m x at in
        let e = ap (λ (z : Method). z.sharing) o.is in
        let r = map_among unplaced_constraint o.method.sharing (unplaced_constraint c)
        (subst (λ (cs : List Constraint). Among cs (unplaced_constraint c)) (sym e) (among_map unplaced_constraint x.sharing c (among_of x.sharing c i))) in
        let k = w.constraints Q m o.method r.0 o.at (contains_of o.method.sharing r.0 r.1) in
        (subst HeadNamed (ap (λ (z : Constraint). z.from.term.head) r.2) k.0, subst HeadNamed (ap (λ (z : Constraint). z.to.term.head) r.2) k.1);
  }

  depth : KeepsLimits q → (R : Path) → InUniverse p R → length R ≤ 8
  depth k R u =
      let d = universe_depth p R u in
      let o = decl_origin d.path d.declared.decl d.declared.stands in
      let l = k.depth d.path (declared_in_universe q d.path o.decl o.stands) in
      omega (arith, l, d.long)

  param_count : (xs ys : List Param) → map unplaced_param xs ≡ map unplaced_param ys → length xs ≡ length ys
  param_count xs ys e = sym (long xs) ∙ ap length e ∙ long ys where
    long : (zs : List Param) → length (map unplaced_param zs) ≡ length zs
    long [] = refl
    long (z ∷ zs) = ap suc (long zs)

  limits : KeepsLimits q → KeepsLimits p
  limits k = record {
    depth = depth k;
    params = λ Q m x at. let o = method_origin Q m x at in
        let l = k.params Q m o.method o.at in
        let n = param_count o.method.params x.params (ap (λ (z : Method). z.params) o.is) in
        omega (arith, l, n);
  }

  -- the names are the same table
  names : q.names ≡ p.names
  names = ap (λ (r : Program). r.names) same

  named : IsNamed q → IsNamed p
  named n = record {
    distinct = λ i j a b at to. n.distinct i j a b (subst (λ (ts : List Text). slice_get ts i ≡ Some a) (sym names) at) (subst (λ (ts : List Text). slice_get ts j ≡ Some b) (sym names) to);
    paths = λ R d. let o = decl_origin R d.decl d.stands in
        subst (λ (ts : List Text). All (λ (c : Name). c.0 < length ts) R) names (n.paths R (record { decl = o.decl; stands = o.stands }));
    methods = λ R m x at. let o = method_origin R m x at in subst (λ (ts : List Text). m.0 < length ts) names (n.methods R m o.method o.at);
    fields = λ R f x at. let o = field_origin R f x at in subst (λ (ts : List Text). f.0 < length ts) names (n.fields R f o.field o.at);
  }

pub programs_within_limits : ProgramsWithinLimits
programs_within_limits p i =
    let w = formed i.spelled p i.same (sources_well_formed i.spelled i.source i.is_text.spelled) in
    let k = limits i.spelled p i.same (texts_keep_limits i.spelled i.source i.is_text) in record {
      named = named i.spelled p i.same (spelled_is_named i.spelled i.source i.is_text.spelled);
      formed = w;
      brackets = λ Q f x at. type_named x.ty (w.fields Q f x at);
      limits = k;
      shallow = λ R u. short R (k.depth R u);
      bodies = λ Q m x at. let o = method_origin i.spelled p i.same Q m x at in
          bodies_kept o.method.body x.body (ap (λ (z : Method). z.body) o.is) type_kept (sources_bodies_formed i.spelled i.source i.is_text.spelled Q m o.method o.at);
      locals = λ Q m x at. let o = method_origin i.spelled p i.same Q m x at in
          few o.method x (ap (λ (z : Method). z.body) o.is) (param_count i.spelled p i.same o.method.params x.params (ap (λ (z : Method). z.params) o.is))
          (texts_have_few_locals i.spelled i.source i.is_text Q m o.method o.at);
    } where
      short : (R : Path) → length R ≤ 8 → length R ≤ 255
      short R l = omega (arith, l)

      few : (y x : Method) → map unplaced_stmt y.body ≡ map unplaced_stmt x.body → length y.params ≡ length x.params
          → path_behind y.body (suc (length y.params)) ≤ 216 → path_behind x.body (suc (length x.params)) ≤ 216
      few y x e n l = subst (λ (k : ℕ). k ≤ 216) (ap (λ (k : ℕ). path_behind y.body (suc k)) n ∙ sym (locals_kept y.body x.body e (suc (length x.params)))) l

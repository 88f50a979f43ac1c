-- A program within the limits has formed bodies, and its methods stand in classes.
use Rattle.std.proofs.Common.{◌≡◌, ℕ, List, [], ◌∷◌, map, refl, sym, ap, ◌∙◌, subst, ◌⊎◌, inl, inr, Contains}
use Rattle.jn_base.specs.declared.tree.Name.{Name}
use Rattle.jn_base.specs.declared.tree.Kind.{Kind}
use Rattle.jn_base.specs.declared.tree.Kind.TheVariants as kind
use Rattle.jn_base.specs.declared.tree.Method.{Method}
use Rattle.jn_base.specs.declared.tree.Decl.{Decl}
use Rattle.jn_base.specs.declared.tree.Member.{Member, out-Member}
use Rattle.jn_base.specs.declared.tree.Member.TheOpen.{Member-F}
use Rattle.jn_base.specs.declared.tree.Member.TheFolds.{map-Member, fold_out-Member, fold_out-Decl}
use Rattle.jn_base.specs.declared.tree.Member.TheVariants as member
use Rattle.jn_base.specs.declared.tree.Member.TheVariants.{outs-Inner, outs-Slot, outs-Body}
use Rattle.jn_base.specs.declared.tree.Stmt.{Stmt}
use Rattle.jn_base.specs.declared.tree.Program.{Program}
use Rattle.jn_base.specs.Paths.{Path, nested, methods, and_nested, and_method, StandsIn, StandsAt}
use Rattle.jn_base.specs.Members.{MethodAt}
use Rattle.jn_base.specs.Atoms.{Among}
use Rattle.jn_base.specs.Forms.{Termed, all_of, of_stmt}
use Rattle.jn_base.specs.Parts.{Part, named}
use Rattle.jn_base.specs.GrammarDecl.{IsInner, IsMember, IsMembers, IsTop, IsProgram}
use Rattle.jn_base.specs.Unplaced.{unplaced_method, unplaced_member, unplaced_decl, unplaced_field, unplaced, member_step, decl_step}
use Rattle.jn_base.proofs.NameTests.{in_cons, in_none}
use Rattle.jn_sem.proofs.FindingLaws.{among_of, contains_of}
use Rattle.jn_sem.proofs.NormalTypes.{map_among}
use Rattle.jn_laws.specs.LawsOfBodies.{local_types, BodyFormed}
use Rattle.jn_laws.proofs.Lists.{among_map}
use Rattle.jn_laws.proofs.SpelledForms.{Within, method_formed}
use Rattle.jn_laws.proofs.PlacesAside.{programs_within_limits}
use Rattle.jn_body_laws.specs.BodyForms.{uses, StmtsFormed, BodiesFormed}
use Rattle.jn_body_laws.proofs.ListedForms.{in_all, UsesFormed}
use Rattle.jn_body_laws.proofs.SpelledCalls.{texts_there, stmts_uses}
use Rattle.jn_body_laws.proofs.CallsAside.{uses_kept}

-- ---- the kinds of the declarations of the grammar

-- a declaration of the grammar, whose members may stand in its kind
record DeclOf (d : Decl) : Type 0 where
  kind : Kind
  around : ℕ
  depth : ℕ
  words : List Part
  members : IsMembers kind around depth words d.members
  is : d.kind ≡ kind

inner_of : (d n : ℕ) (w : List Part) (t : Decl) → IsInner d n w t → DeclOf t
inner_of d n _ _ (IsInner.inner {k = k} o c {w = w} a es ss ms) =
    record { kind = k; around = _; depth = _; words = w; members = ms; is = refl }

top_of : (w : List Part) (t : Decl) → IsTop w t → DeclOf t
top_of _ _ (IsTop.top {k = k} o c {w = w} a es ss ms) =
    record { kind = k; around = _; depth = _; words = w; members = ms; is = refl }

as_nested : (ts : List Member) (d : Decl) (m : Member) (o : Member-F Member Decl) → out-Member m ≡ o
    → Contains (nested (m ∷ ts)) d → Contains (and_nested o (nested ts)) d
as_nested ts d m o e c = subst (λ (x : Member-F Member Decl). Contains (and_nested x (nested ts)) d) e c

as_method : (ts : List Member) (x : Method) (m : Member) (o : Member-F Member Decl) → out-Member m ≡ o
    → Contains (methods (m ∷ ts)) x → Contains (and_method o (methods ts)) x
as_method ts x m o e c = subst (λ (y : Member-F Member Decl). Contains (and_method y (methods ts)) x) e c

or_else : {A B C : Type 0} → A ⊎ B → (A → C) → (B → C) → C
or_else (inl a) f g = f a
or_else (inr b) f g = g b

nested_of : (k : Kind) (a l : ℕ) (w : List Part) (ms : List Member) → IsMembers k a l w ms → (d : Decl)
    → Contains (nested ms) d → DeclOf d
nested_of k a l _ _ IsMembers.no_member d c = absurd (in_none d c)
nested_of k a l _ _ (IsMembers.then_member {v = v} {w = w} {ts = ts} (IsMember.declared {t = t} i) more) d c =
    or_else (in_cons t (nested ts) d (as_nested ts d (member.Inner t) _ (outs-Inner t) c))
    (λ e. subst DeclOf e (inner_of a l v t i))
    (λ n. nested_of k a l w ts more d n)
nested_of k a l _ _ (IsMembers.then_member {w = w} {ts = ts} (IsMember.slot {x = x} p s {t = ty} i) more) d c =
    nested_of _ a l w ts more d
    (as_nested ts d (member.Slot (record { ty = ty; name = named x p })) _
    (outs-Slot (record { ty = ty; name = named x p })) c)
nested_of k a l _ _ (IsMembers.then_member {w = w} {ts = ts}
    (IsMember.method {x = x} p o c' b e {res = res} {ts = ps} {cs = cs} {ss = ss} r g u z) more) d c =
    nested_of _ a l w ts more d
    (as_nested ts d (member.Body (record { result = res; name = named x p; params = ps; sharing = cs; body = ss })) _
    (outs-Body (record { result = res; name = named x p; params = ps; sharing = cs; body = ss })) c)

-- only a class has a method
class_of : (k : Kind) (a l : ℕ) (w : List Part) (ms : List Member) → IsMembers k a l w ms → (x : Method)
    → Contains (methods ms) x → k ≡ kind.Class
class_of k a l _ _ IsMembers.no_member x c = absurd (in_none x c)
class_of k a l _ _ (IsMembers.then_member {w = w} {ts = ts} (IsMember.declared {t = t} i) more) x c =
    class_of k a l w ts more x (as_method ts x (member.Inner t) _ (outs-Inner t) c)
class_of k a l _ _ (IsMembers.then_member (IsMember.slot p s i) more) x c = refl
class_of k a l _ _ (IsMembers.then_member (IsMember.method p o c' b e r g u z) more) x c = refl

tops_of : (w : List Part) (ds : List Decl) → IsProgram w ds → (d : Decl) → Contains ds d → DeclOf d
tops_of _ _ IsProgram.no_top d c = absurd (in_none d c)
tops_of _ _ (IsProgram.then_top {v = v} {w = w} {t = t} {ts = ts} i more) d c =
    or_else (in_cons t ts d c) (λ e. subst DeclOf e (top_of v t i)) (λ n. tops_of w ts more d n)

module _ (p : Program) (parts : List Part) (is : IsProgram parts p.decls) where
  standing : (P : Path) (d : Decl) → StandsIn p P d → DeclOf d
  standing [] d c = tops_of parts p.decls is d c
  standing (C ∷ P) d s =
      let above = standing P s.0 s.1 in
      nested_of above.kind above.around above.depth above.words s.0.members above.members d s.3

  declared_of : (R : Path) (d : Decl) → StandsAt p R d → DeclOf d
  declared_of [] d s = absurd s
  declared_of (C ∷ P) d s = standing P d s.0

  class_at : (Q : Path) (d : Decl) (x : Method) → StandsAt p Q d → Contains (methods d.members) x
      → d.kind ≡ kind.Class
  class_at Q d x s c =
      let o = declared_of Q d s in
      o.is ∙ class_of o.kind o.around o.depth o.words d.members o.members x c

-- ---- declarations without their places, one level deep

member_is : (m : Member) (f : Member-F Member Decl) → out-Member m ≡ f
    → unplaced_member m ≡ member_step (map-Member Member Decl Member Decl unplaced_member unplaced_decl f)
unfolding unplaced_member unplaced_decl
member_is m f e =
    fold_out-Member Member Decl member_step decl_step m
    ∙ ap (λ (x : Member-F Member Decl). member_step
    (map-Member Member Decl Member Decl unplaced_member unplaced_decl x)) e

decl_is : (d : Decl) → unplaced_decl d ≡ decl_step (record {
  kind = d.kind;
  name = d.name;
  extends = d.extends;
  shares = d.shares;
  adapts = d.adapts;
  members = map unplaced_member d.members;
})
unfolding unplaced_member unplaced_decl
decl_is d = fold_out-Decl Member Decl member_step decl_step d

name_kept : (d : Decl) → (unplaced_decl d).name.name ≡ d.name.name
name_kept d = ap (λ (e : Decl). e.name.name) (decl_is d)

kind_kept : (d : Decl) → (unplaced_decl d).kind ≡ d.kind
kind_kept d = ap (λ (e : Decl). e.kind) (decl_is d)

members_kept : (d : Decl) → (unplaced_decl d).members ≡ map unplaced_member d.members
members_kept d = ap (λ (e : Decl). e.members) (decl_is d)

-- what a member becomes
abbrev kept : Member-F Member Decl → Member-F Member Decl
kept (Member-F.Inner d) = Member-F.Inner (unplaced_decl d)
kept (Member-F.Slot f) = Member-F.Slot (unplaced_field f)
kept (Member-F.Body m) = Member-F.Body (unplaced_method m)

out_kept : (m : Member) (f : Member-F Member Decl) → out-Member m ≡ f → out-Member (unplaced_member m) ≡ kept f
out_kept m (Member-F.Inner d) e =
    ap out-Member (member_is m (Member-F.Inner d) e) ∙ outs-Inner (unplaced_decl d)
out_kept m (Member-F.Slot f) e = ap out-Member (member_is m (Member-F.Slot f) e) ∙ outs-Slot (unplaced_field f)
out_kept m (Member-F.Body x) e = ap out-Member (member_is m (Member-F.Body x) e) ∙ outs-Body (unplaced_method x)

nested_kept : (ms : List Member) → nested (map unplaced_member ms) ≡ map unplaced_decl (nested ms)
nested_kept [] = refl
nested_kept (m ∷ ms) =
    ap (λ (o : Member-F Member Decl). and_nested o (nested (map unplaced_member ms))) (out_kept m (out-Member m) refl)
    ∙ at (out-Member m) (nested_kept ms) where
      at : (f : Member-F Member Decl) → nested (map unplaced_member ms) ≡ map unplaced_decl (nested ms)
          → and_nested (kept f) (nested (map unplaced_member ms)) ≡ map unplaced_decl (and_nested f (nested ms))
      at (Member-F.Inner d) e = ap (λ (ds : List Decl). unplaced_decl d ∷ ds) e
      at (Member-F.Slot f) e = e
      at (Member-F.Body x) e = e

methods_kept : (ms : List Member) → methods (map unplaced_member ms) ≡ map unplaced_method (methods ms)
methods_kept [] = refl
methods_kept (m ∷ ms) =
    ap (λ (o : Member-F Member Decl). and_method o (methods (map unplaced_member ms))) (out_kept m (out-Member m) refl)
    ∙ at (out-Member m) (methods_kept ms) where
      at : (f : Member-F Member Decl) → methods (map unplaced_member ms) ≡ map unplaced_method (methods ms)
          → and_method (kept f) (methods (map unplaced_member ms)) ≡ map unplaced_method (and_method f (methods ms))
      at (Member-F.Inner d) e = e
      at (Member-F.Slot f) e = e
      at (Member-F.Body x) e = ap (λ (xs : List Method). unplaced_method x ∷ xs) e

-- ---- where declarations stand

stands_kept : (p : Program) (P : Path) (d : Decl) → StandsIn p P d → StandsIn (unplaced p) P (unplaced_decl d)
stands_kept p [] d s = contains_of (map unplaced_decl p.decls) (unplaced_decl d)
    (among_map unplaced_decl p.decls d (among_of p.decls d s))
stands_kept p (C ∷ P) d s = (
  unplaced_decl s.0,
  stands_kept p P s.0 s.1,
  name_kept s.0 ∙ s.2,
  subst (λ (ds : List Decl). Contains ds (unplaced_decl d))
      (sym (ap nested (members_kept s.0) ∙ nested_kept s.0.members))
      (contains_of (map unplaced_decl (nested s.0.members)) (unplaced_decl d)
      (among_map unplaced_decl (nested s.0.members) d (among_of (nested s.0.members) d s.3))),
)

at_kept : (p : Program) (R : Path) (d : Decl) → StandsAt p R d → StandsAt (unplaced p) R (unplaced_decl d)
at_kept p [] d s = absurd s
at_kept p (C ∷ P) d s = (stands_kept p P d s.0, name_kept d ∙ s.1)

record Origin (p : Program) (P : Path) (e : Decl) : Type 0 where
  decl : Decl
  stands : StandsIn p P decl
  is : unplaced_decl decl ≡ e

stands_back : (p : Program) (P : Path) (e : Decl) → StandsIn (unplaced p) P e → Origin p P e
stands_back p [] e s =
    let r = map_among unplaced_decl p.decls e (among_of (map unplaced_decl p.decls) e s) in
    record { decl = r.0; stands = contains_of p.decls r.0 r.1; is = r.2 }
stands_back p (C ∷ P) e s =
    let o = stands_back p P s.0 s.1 in
    let c : Contains (map unplaced_decl (nested o.decl.members)) e =
    subst (λ (ds : List Decl). Contains ds e)
    (ap nested (ap (λ (d : Decl). d.members) (sym o.is) ∙ members_kept o.decl) ∙ nested_kept o.decl.members) s.3 in
    let r = map_among unplaced_decl (nested o.decl.members) e
    (among_of (map unplaced_decl (nested o.decl.members)) e c) in
    record {
      decl = r.0;
      stands = (
        o.decl,
        o.stands,
        sym (name_kept o.decl) ∙ ap (λ (d : Decl). d.name.name) o.is ∙ s.2,
        contains_of (nested o.decl.members) r.0 r.1,
      );
      is = r.2;
    }

record OriginAt (p : Program) (R : Path) (e : Decl) : Type 0 where
  decl : Decl
  stands : StandsAt p R decl
  is : unplaced_decl decl ≡ e

at_back : (p : Program) (R : Path) (e : Decl) → StandsAt (unplaced p) R e → OriginAt p R e
at_back p [] e s = absurd s
at_back p (C ∷ P) e s =
    let o = stands_back p P e s.0 in
    record {
      decl = o.decl;
      stands = (o.stands, sym (name_kept o.decl) ∙ ap (λ (d : Decl). d.name.name) o.is ∙ s.1);
      is = o.is;
    }

module _ (q p : Program) (same : unplaced q ≡ unplaced p) where
  record MethodOrigin (Q : Path) (m : Name) (x : Method) (at : MethodAt p Q m x) : Type 0 where
    method : Method
    there : MethodAt q Q m method
    is : unplaced_method method ≡ unplaced_method x
    kind : there.decl.kind ≡ at.decl.kind

  method_origin : (Q : Path) (m : Name) (x : Method) (at : MethodAt p Q m x) → MethodOrigin Q m x at
  method_origin Q m x at =
      let o = at_back q Q (unplaced_decl at.decl)
      (subst (λ (r : Program). StandsAt r Q (unplaced_decl at.decl)) (sym same) (at_kept p Q at.decl at.stands)) in
      let e : map unplaced_method (methods o.decl.members) ≡ map unplaced_method (methods at.decl.members) =
      sym (ap methods (members_kept o.decl) ∙ methods_kept o.decl.members)
      ∙ ap (λ (d : Decl). methods d.members) o.is ∙ ap methods (members_kept at.decl)
      ∙ methods_kept at.decl.members in
      let n = among_map unplaced_method (methods at.decl.members) x (among_of (methods at.decl.members) x at.has) in
      let r = map_among unplaced_method (methods o.decl.members) (unplaced_method x)
      (subst (λ (xs : List Method). Among xs (unplaced_method x)) (sym e) n) in
      record {
        method = r.0;
        there = record {
          decl = o.decl;
          stands = o.stands;
          has = contains_of (methods o.decl.members) r.0 r.1;
          name = ap (λ (y : Method). y.name.name) r.2 ∙ at.name;
        };
        is = r.2;
        kind = sym (kind_kept o.decl) ∙ ap (λ (d : Decl). d.kind) o.is ∙ kind_kept at.decl;
      }

-- ---- the law

-- a statement of a formed body is formed
each_formed : (p : Program) (ss : List Stmt) → BodyFormed ss → UsesFormed p (all_of (map uses ss)) → StmtsFormed p ss
each_formed p ss f h s m = record {
  terms = λ t c. f.terms t (in_all of_stmt ss s (Termed t) m c);
  locals = λ t c. f.locals t (in_all local_types ss s t m c);
  forms = λ u c. h u (in_all uses ss s u m c);
}

pub bodies_formed : BodiesFormed
unfolding Within
bodies_formed p i = record {
  formed = λ Q m x at. let o = method_origin i.spelled p i.same Q m x at in
      let f = method_formed i.spelled i.is_text.spelled.parts i.is_text.spelled.is_program Q m o.method o.there in
      each_formed p x.body ((programs_within_limits p i).bodies Q m x at)
      (uses_kept i.spelled p (ap (λ (r : Program). r.texts) i.same) o.method.body x.body
      (ap (λ (z : Method). z.body) o.is)
      (stmts_uses i.spelled i.is_text.spelled.parts
      (texts_there i.source i.spelled.names i.spelled.texts i.is_text.spelled.parts i.is_text.spelled.are_words)
      f.formed.body (λ t a. f.body_within t (contains_of f.formed.body_words t a))));
  in_class = λ Q m x at. let o = method_origin i.spelled p i.same Q m x at in
      sym o.kind
      ∙ class_at i.spelled i.is_text.spelled.parts i.is_text.spelled.is_program Q o.there.decl o.method
      o.there.stands o.there.has;
}

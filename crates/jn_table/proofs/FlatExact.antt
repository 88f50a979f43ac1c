-- The entries of a program are its declarations.
use Rattle.std.proofs.Common.{◌≡◌, List, [], ◌∷◌, Contains, arith, sym, ◌∙◌, ap, subst, refl, map, zero, suc}
use Rattle.jn_base.specs.declared.tree.Name.{Name}
use Rattle.jn_base.specs.declared.tree.Decl.{Decl}
use Rattle.jn_base.specs.declared.tree.Program.{Program}
use Rattle.jn_base.specs.declared.tree.Kind.{Kind}
use Rattle.jn_base.specs.Paths.{Path, StandsIn, StandsAt, nested, methods, fields, Declared, Extends}
use Rattle.jn_table.specs.Flat.{named_name, method_name, field_name, Under, at_top, deeper, EntryIs, IsFlattened}
use Rattle.jn_table.specs.Gather.{DeclaresIn, IsPart, OwnIn, KindIn}
use Rattle.jn_table.specs.Exact.{IsFlat, KindAt, MethodNamed, FieldNamed}
use Rattle.jn_table.specs.declared.entry.Entry.{Entry}
use Rattle.jn_table.specs.declared.gather.Part.TheVariants as part

-- the definition's namespaces, from the inside out, are the same
pub under_stands : (p : Program) {ds : List Decl} {N P : Path} {d : Decl} → Under ds N P d
    → ((x : Decl) → Contains ds x → StandsIn p N x) → StandsIn p P d
under_stands p (at_top {d = d} c) stands = stands d c
under_stands p (deeper {e = e} c u) stands = under_stands p u (λ x h. (e, stands e c, refl, h))

under_inside : {ds : List Decl} {N P : Path} {e d : Decl} → Under ds N P e → Contains (nested e.members) d
    → Under ds N (e.name.name ∷ P) d
under_inside (at_top c) h = deeper c (at_top h)
under_inside (deeper c u) h = deeper c (under_inside u h)

pub stands_under : (p : Program) (P : Path) (d : Decl) → StandsIn p P d → Under p.decls [] P d
stands_under p [] d h = at_top h
stands_under p (C ∷ P) d h =
    let u = under_inside (stands_under p P h.0 h.1) h.3 in
    subst (λ (D : Name). Under p.decls [] (D ∷ P) d) h.2 u

pub in_map : {X : Type 0} (f : X → Name) (xs : List X) (x : X) (D : Name) → Contains xs x → f x ≡ D
    → Contains (map f xs) D
in_map f (y ∷ ys) x D (zero, l, e) is = (0, omega arith, ap f e ∙ is)
in_map f (y ∷ ys) x D (suc k, l, e) is =
    let c = in_map f ys x D (k, omega (arith, l), e) is in
    (suc c.0, omega (arith, c.1), c.2)
in_map f [] x D c is = absurd (omega (arith, c.1))

pub map_in : {X : Type 0} (f : X → Name) (xs : List X) (D : Name) → Contains (map f xs) D
    → (x : X) × Contains xs x × (f x ≡ D)
map_in f [] D c = absurd (omega (arith, c.1))
map_in f (y ∷ ys) D (zero, l, e) = (y, (0, omega arith, refl), e)
map_in f (y ∷ ys) D (suc k, l, e) =
    let r = map_in f ys D (k, omega (arith, l), e) in
    (r.0, (suc r.1.0, omega (arith, r.1.1), r.1.2), r.2)

module _ (p : Program) (es : List Entry) (f : IsFlattened p es) where
  record OfDecl (e : Entry) (P : Path) : Type 0 where
    decl : Decl
    stands : StandsIn p P decl
    is : EntryIs e P decl

  of_decl : (e : Entry) (P : Path) → Contains es e → e.namespace ≡ P → OfDecl e P
  of_decl e P among at =
      let s = f.sound e among in
      let same = sym s.3.namespace ∙ at in
      record {
        decl = s.1;
        stands = subst (λ (Q : Path). StandsIn p Q s.1) same (under_stands p s.2 (λ x c. c));
        is = subst (λ (Q : Path). EntryIs e Q s.1) same s.3;
      }

  -- the declaration of an entry at R, and the entry of a declaration at R
  record AtPath (e : Entry) (R : Path) : Type 0 where
    namespace : Path
    decl : Decl
    stands : StandsAt p R decl
    is : EntryIs e namespace decl

  at_path : (e : Entry) (R : Path) → Contains es e → e.path ≡ R → AtPath e R
  at_path e R among at =
      let s = f.sound e among in
      record {
        namespace = s.0;
        decl = s.1;
        stands = subst (λ (Q : Path). StandsAt p Q s.1) (sym s.3.path_is ∙ at) (under_stands p s.2 (λ x c. c), refl);
        is = s.3;
      }

  of_path : (R : Path) (d : Decl) → StandsAt p R d
      → (e : Entry) × Contains es e × (e.path ≡ R) × ((P : Path) × EntryIs e P d)
  of_path [] d s = absurd s
  of_path (C ∷ P) d s =
      let e = f.complete P d (stands_under p P d s.0) in
      (e.0, e.1, e.2.path_is ∙ ap (λ (D : Name). D ∷ P) s.1, (P, e.2))

  pub flat_exact : IsFlat p es
  flat_exact = record {
    declared = λ P C. (declared_to P C, declared_from P C);
    extends = λ P C D. (extends_to P C D, extends_from P C D);
    kinds = λ R k. (kinds_to R k, kinds_from R k);
    methods = λ R m. (methods_to R m, methods_from R m);
    fields = λ R n. (fields_to R n, fields_from R n);
  } where
    declared_to : (P : Path) (C : Name) → DeclaresIn es P C → Declared p (C ∷ P)
    declared_to P C a =
        let h = of_decl a.1 P (a.0, a.2, a.3) a.4.1 in
        record { decl = h.decl; stands = (h.stands, sym h.is.name ∙ a.4.0) }

    declared_from : (P : Path) (C : Name) → Declared p (C ∷ P) → DeclaresIn es P C
    declared_from P C d =
        let e = f.complete P d.decl (stands_under p P d.decl d.stands.0) in
        (e.1.0, e.0, e.1.1, e.1.2, (e.2.name ∙ d.stands.1, e.2.namespace))

    extends_to : (P : Path) (C D : Name) → IsPart es P C part.Extends D → Extends p (C ∷ P) D
    extends_to P C D a =
        let h = of_decl a.1 P (a.0, a.2, a.3) a.4.1 in
        let n = map_in named_name (h.decl).extends D (subst (λ (ns : List Name). Contains ns D) h.is.extends a.4.2) in
        record { decl = h.decl; stands = (h.stands, sym h.is.name ∙ a.4.0); named = n.0; extends = n.1; name = n.2 }

    extends_from : (P : Path) (C D : Name) → Extends p (C ∷ P) D → IsPart es P C part.Extends D
    extends_from P C D d =
        let e = f.complete P d.decl (stands_under p P d.decl d.stands.0) in
        let c = in_map named_name (d.decl).extends d.named D d.extends d.name in (
          e.1.0,
          e.0,
          e.1.1,
          e.1.2,
          (
            e.2.name ∙ d.stands.1,
            e.2.namespace,
            subst (λ (ns : List Name). Contains ns D)
                (sym e.2.extends) c,
          ),
        )

    kinds_to : (R : Path) (k : Kind) → KindIn es R k → KindAt p R k
    kinds_to R k a =
        let h = at_path a.1 R (a.0, a.2, a.3) a.4.0 in
        (h.decl, h.stands, sym h.is.kind ∙ a.4.1)

    kinds_from : (R : Path) (k : Kind) → KindAt p R k → KindIn es R k
    kinds_from R k d =
        let e = of_path R d.0 d.1 in
        (e.1.0, e.0, e.1.1, e.1.2, (e.2, e.3.1.kind ∙ d.2))

    methods_to : (R : Path) (m : Name) → OwnIn es R part.Methods m → MethodNamed p R m
    methods_to R m a =
        let h = at_path a.1 R (a.0, a.2, a.3) a.4.0 in
        let n = map_in method_name (methods (h.decl).members) m
        (subst (λ (ns : List Name). Contains ns m) h.is.methods_are a.4.1) in
        (n.0, record { decl = h.decl; stands = h.stands; has = n.1; name = n.2 })

    methods_from : (R : Path) (m : Name) → MethodNamed p R m → OwnIn es R part.Methods m
    methods_from R m d =
        let x = d.1 in
        let e = of_path R x.decl x.stands in
        let c = in_map method_name (methods (x.decl).members) d.0 m x.has x.name in
        (e.1.0, e.0, e.1.1, e.1.2, (e.2, subst (λ (ns : List Name). Contains ns m) (sym e.3.1.methods_are) c))

    fields_to : (R : Path) (n : Name) → OwnIn es R part.Fields n → FieldNamed p R n
    fields_to R m a =
        let h = at_path a.1 R (a.0, a.2, a.3) a.4.0 in
        let n = map_in field_name (fields (h.decl).members) m
        (subst (λ (ns : List Name). Contains ns m) h.is.fields_are a.4.1) in
        (n.0, record { decl = h.decl; stands = h.stands; has = n.1; name = n.2 })

    fields_from : (R : Path) (n : Name) → FieldNamed p R n → OwnIn es R part.Fields n
    fields_from R m d =
        let x = d.1 in
        let e = of_path R x.decl x.stands in
        let c = in_map field_name (fields (x.decl).members) d.0 m x.has x.name in
        (e.1.0, e.0, e.1.1, e.1.2, (e.2, subst (λ (ns : List Name). Contains ns m) (sym e.3.1.fields_are) c))

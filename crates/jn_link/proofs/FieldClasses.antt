-- Only classes have fields: in a source the body of a package has none.
use Rattle.std.proofs.Common.{◌≡◌, ℕ, suc, List, [], ◌∷◌, Contains, ◌⊎◌, inl, inr, refl, subst}
use Rattle.jn_base.specs.declared.tree.Name.{Name}
use Rattle.jn_base.specs.declared.tree.Field.{Field}
use Rattle.jn_base.specs.declared.tree.Decl.{Decl}
use Rattle.jn_base.specs.declared.tree.Kind.{Kind}
use Rattle.jn_base.specs.declared.tree.Kind.TheVariants as kind
use Rattle.jn_base.specs.declared.tree.Member.{Member}
use Rattle.jn_base.specs.declared.tree.Member.TheOpen.{Member-F}
use Rattle.jn_base.specs.declared.tree.Member.TheVariants as member
use Rattle.jn_base.specs.declared.tree.Member.TheVariants.{outs-Inner, outs-Slot, outs-Body}
use Rattle.jn_base.specs.declared.tree.Program.{Program}
use Rattle.jn_base.specs.declared.types.Ty.{Ty}
use Rattle.jn_base.specs.Parts.{Part}
use Rattle.jn_base.specs.Paths.{Path, StandsIn, StandsAt, nested, and_nested, fields, and_field}
use Rattle.jn_base.specs.GrammarDecl.{IsMembers, IsMember, IsInner, IsTop, IsProgram}
use Rattle.jn_base.specs.Supers.{itself}
use Rattle.jn_base.specs.Members.{FieldAt}
use Rattle.jn_base.proofs.NameTests.{in_cons, in_none}
use Rattle.jn_base.proofs.Reaching.{declared_in_universe}
use Rattle.jn_laws.proofs.Bounded.{heir_there}
use Rattle.jn_sem.specs.Sharing.{IsClass}
use Rattle.jn_sem.specs.Slots.{FieldType}

-- the members of the declaration are those of its kind
record OfKind (d : Decl) : Type 0 where
  around : ℕ
  level : ℕ
  words : List Part
  members : IsMembers d.kind around level words d.members

of_inner : (a n : ℕ) (w : List Part) (t : Decl) → IsInner a n w t → OfKind t
of_inner a n _ _ (IsInner.inner o c {w = w} is es ss ms) =
    record { around = suc a; level = suc n; words = w; members = ms }

of_top : (w : List Part) (t : Decl) → IsTop w t → OfKind t
of_top _ _ (IsTop.top o c {w = w} is es ss ms) = record { around = 1; level = 2; words = w; members = ms }

in_inner : (t d : Decl) (ts : List Member) → Contains (nested (member.Inner t ∷ ts)) d → (t ≡ d)
    ⊎ Contains (nested ts) d
in_inner t d ts c =
    in_cons t (nested ts) d (subst (λ (o : Member-F Member Decl). Contains (and_nested o (nested ts)) d)
    (outs-Inner t) c)

nested_of : (k : Kind) (a n : ℕ) (w : List Part) (ms : List Member) → IsMembers k a n w ms → (d : Decl)
    → Contains (nested ms) d → OfKind d
nested_of k a n _ _ IsMembers.no_member d c = absurd (in_none d c)
nested_of k a n _ _ (IsMembers.then_member {v = v} {w = w} {ts = ts} (IsMember.declared {t = t} i) more) d c =
    by_place (in_inner t d ts c) (λ h. nested_of k a n w ts more d h) where
      by_place : (t ≡ d) ⊎ Contains (nested ts) d → (Contains (nested ts) d → OfKind d) → OfKind d
      by_place (inl e) again = subst OfKind e (of_inner a n v t i)
      by_place (inr h) again = again h
nested_of k a n _ _ (IsMembers.then_member {w = w} {ts = ts} (IsMember.slot {x = x} p s {t = t} i) more) d c =
    nested_of _ a n w ts more d
    (subst (λ (o : Member-F Member Decl). Contains (and_nested o (nested ts)) d)
    (outs-Slot (record { ty = t; name = record { name = x; at = p } })) c)
nested_of k a n _ _ (IsMembers.then_member {w = w} {ts = ts}
    (IsMember.method {x = x} p o c' b e {res = res} {ts = ps} {cs = cs} {ss = ss} r g u z) more) d c =
    nested_of _ a n w ts more d
    (subst (λ (o : Member-F Member Decl). Contains (and_nested o (nested ts)) d)
    (outs-Body (record { result = res; name = record { name = x; at = p }; params = ps; sharing = cs; body = ss })) c)

tops_of : (w : List Part) (ds : List Decl) → IsProgram w ds → (d : Decl) → Contains ds d → OfKind d
tops_of _ _ IsProgram.no_top d c = absurd (in_none d c)
tops_of _ _ (IsProgram.then_top {v = v} {w = w} {t = t} {ts = ts} i more) d c =
    by_place (in_cons t ts d c) (λ h. tops_of w ts more d h) where
      by_place : (t ≡ d) ⊎ Contains ts d → (Contains ts d → OfKind d) → OfKind d
      by_place (inl e) again = subst OfKind e (of_top v t i)
      by_place (inr h) again = again h

-- a field stands in the body of a class
class_of : (k : Kind) (a n : ℕ) (w : List Part) (ms : List Member) → IsMembers k a n w ms → (f : Field)
    → Contains (fields ms) f → k ≡ kind.Class
class_of k a n _ _ IsMembers.no_member f c = absurd (in_none f c)
class_of k a n _ _ (IsMembers.then_member {w = w} {ts = ts} (IsMember.declared {t = t} i) more) f c =
    class_of k a n w ts more f
    (subst (λ (o : Member-F Member Decl). Contains (and_field o (fields ts)) f) (outs-Inner t) c)
class_of k a n _ _ (IsMembers.then_member {w = w} {ts = ts} (IsMember.slot p s i) more) f c = refl
class_of k a n _ _ (IsMembers.then_member {w = w} {ts = ts} (IsMember.method p o c' b e r g u z) more) f c = refl

module _ (p : Program) (parts : List Part) (is : IsProgram parts p.decls) where
  standing : (P : Path) (d : Decl) → StandsIn p P d → OfKind d
  standing [] d c = tops_of parts p.decls is d c
  standing (C ∷ P) d s =
      let above = standing P s.0 s.1 in
      nested_of s.0.kind above.around above.level above.words s.0.members above.members d s.3

  declared_at : (R : Path) (d : Decl) → StandsAt p R d → OfKind d
  declared_at [] d s = absurd s
  declared_at (C ∷ P) d s = standing P d s.0

  -- the declaration is one of a class
  class_decl : (Q : Path) (f : Name) (x : Field) → (at : FieldAt p Q f x) → at.decl.kind ≡ kind.Class
  class_decl Q f x at =
      let d = declared_at Q at.decl at.stands in
      class_of at.decl.kind d.around d.level d.words at.decl.members d.members x at.has

  -- so a path with a field is a class
  pub classes_have_fields : (R : Path) (f : Name) (t : Ty) → FieldType p R f t → IsClass p R
  classes_have_fields R f t h =
      let d = h.is_field.declares in record {
        universe = heir_there d.super
            (declared_in_universe p h.class d.at.decl d.at.stands);
        kind = record {
          at = h.class;
          super = d.super;
          decl = d.at.decl;
          stands = d.at.stands;
          is = class_decl h.class f d.field d.at;
        };
      }

  pub class_at : (Q : Path) (f : Name) (x : Field) → FieldAt p Q f x → IsClass p Q
  class_at Q f x at = record {
    universe = declared_in_universe p Q at.decl at.stands;
    kind = record { at = Q; super = itself; decl = at.decl; stands = at.stands; is = class_decl Q f x at };
  }

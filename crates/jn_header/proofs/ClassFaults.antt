-- What is refused of a class, from what is bad of it.
use Rattle.std.proofs.Common.{◌≡◌, ◌<◌, ℕ, List, [], ◌∷◌, length, slice_get, reverse, Option, Some, None, refl, sym, ap, ◌∙◌, subst}
use Rattle.jn_base.specs.declared.tree.Name.{Name}
use Rattle.jn_base.specs.declared.tree.Named.{Named}
use Rattle.jn_base.specs.declared.tree.Place.{Place}
use Rattle.jn_base.specs.declared.tree.Kind.TheVariants as kind
use Rattle.jn_base.specs.declared.tree.Program.{Program}
use Rattle.jn_base.specs.declared.path.Path.{Path as ShownPath}
use Rattle.jn_base.specs.declared.refusal.Refusal.{Refusal}
use Rattle.jn_base.specs.declared.refusal.Rule.{Rule}
use Rattle.jn_base.specs.declared.refusal.Rule.TheVariants as rule
use Rattle.jn_base.specs.Paths.{Path, shown}
use Rattle.jn_base.specs.Universe.{InUniverse}
use Rattle.jn_base.specs.Members.{IsHome}
use Rattle.jn_base.specs.ProgramNames.{IsNamed}
use Rattle.jn_base.specs.TableRules.{DeclarationsPass}
use Rattle.jn_base.proofs.Homes.{home_of}
use Rattle.jn_homes.specs.Homes.{HomeIs}
use Rattle.jn_table.specs.declared.class.ClassId.{ClassId}
use Rattle.jn_table.specs.declared.class.Row.{Row}
use Rattle.jn_table.specs.declared.table.Table.{Table}
use Rattle.jn_table.specs.Rows.{IsNumber}
use Rattle.jn_table.specs.Tables.{IsTableOf, IsFilled, SaysRow}
use Rattle.jn_sem.specs.Sharing.{IsClass}
use Rattle.jn_sem.specs.Does.{Body, IsBody}
use Rattle.jn_rules.specs.Members.{of_member, BadMethod, no_least, other_signature, MethodRefused, conflict, override, BadField, ConstructorPasses, ConstructorRefused, at_body, at_home, NoName, HasBad, bad_method, bad_field, bad_constructor, BadClass, ClassRefused, method, field, constructor}
use Rattle.jn_rule_laws.proofs.RepliesOne.{body_once}
use Rattle.jn_header.specs.declared.bodies.BodyHead.{BodyHead}
use Rattle.jn_header.specs.declared.classes.ClassFault.{ClassFault}
use Rattle.jn_header.specs.Bodies.{LeastHeadIs}
use Rattle.jn_header.specs.Members.{FirstBad}
use Rattle.jn_header.specs.Constructors.{last_of}
use Rattle.jn_header.specs.Classes.{of_fault, IsPlaceOf, of_body, of_home, ConstructorTold, MembersTold, ClassTold, IsFirstRefused}
use Rattle.jn_header.proofs.BodyRows.{path_is}
use Rattle.jn_header.proofs.Numbers.{universe_of, NoneAt, first_of_table, number_there}

abbrev fault : Rule → Place → Name → ClassFault
fault rule at m = record { rule = rule; at = at; member = m }

-- ---- homes and places

pub home_here : (p : Program) (t : Table) → IsFilled p t → (id : ClassId) (row : Row) → SaysRow t id row → (R : Path) → IsNumber t.known.items id R
    → (o : Option Place) (at : Place) → o ≡ Some at → HomeIs p (reverse row.path.names) o → IsHome p R at
home_here p t filled id row says R n o at e h =
    subst (λ (S : Path). IsHome p S at) (path_is row R (says p R filled.table n).path) (subst (λ (x : Option Place). HomeIs p (reverse row.path.names) x) e h)

pub no_home : (p : Program) (t : Table) → IsFilled p t → (id : ClassId) (row : Row) → SaysRow t id row → (R : Path) → IsNumber t.known.items id R
    → (o : Option Place) → o ≡ None → HomeIs p (reverse row.path.names) o → ⊥
no_home p t filled id row says R n o e h =
    let w = home_of p R (universe_of p t filled id R n) in
    let none : (at : Place) → IsHome p (reverse row.path.names) at → ⊥ = subst (λ (x : Option Place). HomeIs p (reverse row.path.names) x) e h in
    none w.at (subst (λ (S : Path). IsHome p S w.at) (sym (path_is row R (says p R filled.table n).path)) w.home)

module _ (p : Program) (ok : DeclarationsPass p) (named : IsNamed p) (R : Path) (m : Name) where
  pub place_there : (x : BodyHead) → LeastHeadIs p R m (Some x) → IsPlaceOf p R m x.name.at
  place_there x h = of_body h.0 h.1 (ap (λ (n : Named). n.at) h.2.name)

  pub place_is : (at : Place) → IsPlaceOf p R m at → (b : Body) → IsBody p R m b → at ≡ b.method.name.at
  place_is at (of_body c k e) b i = e ∙ ap (λ (d : Body). d.method.name.at) (body_once p ok named R m c b k i)
  place_is at (of_home none h) b i = absurd (none b i)

  -- ---- methods

  pub override_refused : (x : BodyHead) (at : Place) → LeastHeadIs p R m (Some x) → IsPlaceOf p R m at → BadMethod p R m → MethodRefused p R m (of_fault R (fault rule.E11 at m))
  override_refused x at h place (no_least has n) = absurd (n h.0.class h.1.least)
  override_refused x at h place (other_signature b c i k n) = override b c i k n (ap (λ (a : Place). of_member rule.E11 R a m) (place_is at place b i))

  pub conflict_refused : (at : Place) → LeastHeadIs p R m None → IsPlaceOf p R m at → BadMethod p R m → MethodRefused p R m (of_fault R (fault rule.E09 at m))
  conflict_refused at none (of_body b i e) bad = absurd (none b i)
  conflict_refused at none (of_home n h) (no_least has l) = conflict at has l h refl
  conflict_refused at none (of_home n h) (other_signature b c i k o) = absurd (none b i)

-- ---- constructors

pub constructor_refused : (p : Program) (C : Name) (P : Path) (at : Place) → IsPlaceOf p (C ∷ P) C at → (ConstructorPasses p C P → ⊥)
    → ConstructorRefused p C P (of_fault (C ∷ P) (fault rule.E11 at C))
constructor_refused p C P at (of_body b i e) n = at_body b n i (ap (λ (a : Place). of_member rule.E11 (C ∷ P) a C) e)
constructor_refused p C P at (of_home none h) n = at_home at n none h refl

same_last : (R : Path) (C D : Name) (P : Path) (o : Option Name) → o ≡ last_of R → o ≡ Some C → R ≡ D ∷ P → R ≡ C ∷ P
same_last R C D P o e f g =
    let k : (let n : Option Name = Some D in n ≡ Some C) = sym (ap last_of g) ∙ (sym e ∙ f) in
    let same : D ≡ C = cc k in
    g ∙ ap (λ (N : Name). N ∷ P) same

one_path : (C D : Name) (P Q : Path) → C ∷ P ≡ D ∷ Q → C ≡ D
one_path C D P Q e = cc e

one_rest : (C D : Name) (P Q : Path) → C ∷ P ≡ D ∷ Q → P ≡ Q
one_rest C D P Q e = cc e

pub constructor_none : (p : Program) (R : Path) (o : Option Name) → o ≡ None → o ≡ last_of R → ConstructorTold p R None
constructor_none p R o e f C P g = absurd (clash (sym e ∙ (f ∙ ap last_of g))) where
  clash : (let n : Option Name = None in n ≡ Some C) → ⊥
  clash k = cc k

pub constructor_ok : (p : Program) (R : Path) (C : Name) (o : Option Name) → o ≡ Some C → o ≡ last_of R → ((P : Path) → R ≡ C ∷ P → ConstructorPasses p C P) → ConstructorTold p R None
constructor_ok p R C o e f passes D P g =
    let h = same_last R C D P o f e g in
    let same : C ≡ D = one_path C D P P (sym h ∙ g) in
    subst (λ (N : Name). ConstructorPasses p N P) same (passes P h)

pub constructor_bad : (p : Program) (R : Path) (C : Name) (o : Option Name) (at : Place) → o ≡ Some C → o ≡ last_of R → ((P : Path) → R ≡ C ∷ P → ConstructorPasses p C P → ⊥)
    → IsPlaceOf p R C at → ConstructorTold p R (Some (fault rule.E11 at C))
constructor_bad p R C o at e f fails place D P g =
    let i = same_last R C D P o f e g in
    let same : C ≡ D = one_path C D P P (sym i ∙ g) in
    let bad = fails P i in
    let refused : ConstructorRefused p C P (of_fault R (fault rule.E11 at C)) =
    subst (λ (S : Path). ConstructorRefused p C P (of_fault S (fault rule.E11 at C))) (sym i)
    (constructor_refused p C P at (subst (λ (S : Path). IsPlaceOf p S C at) i place) bad) in
    (subst (λ (N : Name). ConstructorPasses p N P → ⊥) same bad, subst (λ (N : Name). ConstructorRefused p N P (of_fault R (fault rule.E11 at C))) same refused)

-- ---- a class

module _ (p : Program) (R : Path) (methods : NoName (BadMethod p R)) where
  pub field_told : (f : Name) (at : Place) → FirstBad p (BadField p R) (Some f) → IsHome p R at → MembersTold p R (Some (fault rule.E10 at f))
  field_told f at first home = (bad_field f first.holds, field f at methods first home)

pub constructor_told : (p : Program) (R : Path) → InUniverse p R → NoName (BadMethod p R) → NoName (BadField p R) → (o : Option ClassFault) → ConstructorTold p R o → MembersTold p R o
constructor_told p [] u methods fields o h = absurd u
constructor_told p (C ∷ P) u methods fields None h = not where
  not : HasBad p (C ∷ P) → ⊥
  not (bad_method m b) = methods m b
  not (bad_field f b) = fields f b
  not (bad_constructor n) = n (h C P refl)
constructor_told p (C ∷ P) u methods fields (Some f) h = let k = h C P refl in (bad_constructor k.0, constructor methods fields k.1)

pub method_told : (p : Program) (R : Path) (m : Name) (f : ClassFault) → FirstBad p (BadMethod p R) (Some m) → (BadMethod p R m → MethodRefused p R m (of_fault R f)) → MembersTold p R (Some f)
method_told p R m f first refused = (bad_method m first.holds, method m first (refused first.holds))

module _ (p : Program) (t : Table) (filled : IsFilled p t) (id : ClassId) (row : Row) (says : SaysRow t id row) (R : Path) (n : IsNumber t.known.items id R) where
  pub class_here : row.kind ≡ kind.Class → IsClass p R
  class_here e = record { universe = universe_of p t filled id R n; kind = ((says p R filled.table n).kind kind.Class).1 (sym e) }

  pub class_told : row.kind ≡ kind.Class → (o : Option ClassFault) → MembersTold p R o → ClassTold p R o
  class_told e None h = λ b. h b.bad
  class_told e (Some f) h = (record { class = class_here e; bad = h.0 }, h.1)

  pub package_told : row.kind ≡ kind.Package → ClassTold p R None
  package_told e = λ b. clash (((says p R filled.table n).kind kind.Class).0 b.class.kind ∙ e) where
    clash : kind.Class ≡ kind.Package → ⊥
    clash k = cc k

-- ---- the first class

pub refusal_is : (t : Table) (id : ClassId) (row : Row) (names : List Name) (f : ClassFault) → SaysRow t id row → names ≡ row.path.names → (r : Refusal)
    → r ≡ record { rule = f.rule; at = f.at; class = Some (record { names = names }); member = Some f.member; limit = None }
    → (p : Program) (R : Path) → IsTableOf p t → IsNumber t.known.items id R → r ≡ of_fault R f
refusal_is t id row names f says e r is p R table n =
    is ∙ ap (λ (q : ShownPath). with_path q) (ap (λ (ns : List Name). path ns) e ∙ (says p R table n).path) where
      path : List Name → ShownPath
      path ns = record { names = ns }

      with_path : ShownPath → Refusal
      with_path q = record { rule = f.rule; at = f.at; class = Some q; member = Some f.member; limit = None }

module _ (p : Program) (t : Table) (filled : IsFilled p t) (i : ℕ) (none : NoneAt (BadClass p) t.known.items i) where
  pub refused_first : i < length t.known.items → (o : Option ClassFault) (f : ClassFault) → o ≡ Some f → ((R : Path) → slice_get t.known.items i ≡ Some (shown R) → ClassTold p R o)
      → (r : Refusal) → ((R : Path) → slice_get t.known.items i ≡ Some (shown R) → r ≡ of_fault R f) → IsFirstRefused p r
  refused_first l o f e told r is =
      let w = number_there p t filled i l in
      let h : ClassTold p w.0 (Some f) = subst (λ (x : Option ClassFault). ClassTold p w.0 x) e (told w.0 w.1) in
      record {
        R = w.0;
        first = first_of_table p t filled (BadClass p) (λ R b. b.class.universe) i w.0 w.1 none h.0;
        refused = subst (λ (x : Refusal). ClassRefused p w.0 x) (sym (is w.0 w.1)) h.1;
      }

-- Where nothing is found twice, a path has one declaration, and a body one method and one field of a name.
use Rattle.std.proofs.Common.{◌≡◌, List, [], ◌∷◌, ◌++◌, map, Option, Some, None, refl, sym, ap, ◌∙◌, subst, Bool, true, false, ◌||◌, nat_eq, ◌⊎◌, inl, inr, Contains}
use Rattle.std.specs.List.{list_any}
use Rattle.jn_base.specs.declared.tree.Name.{Name}
use Rattle.jn_base.specs.declared.tree.Named.{Named}
use Rattle.jn_base.specs.declared.tree.Program.{Program}
use Rattle.jn_base.specs.declared.tree.Method.{Method}
use Rattle.jn_base.specs.declared.tree.Field.{Field}
use Rattle.jn_base.specs.declared.tree.Member.{Member, out-Member}
use Rattle.jn_base.specs.declared.tree.Member.TheOpen.{Member-F}
use Rattle.jn_base.specs.declared.tree.Member.TheFolds.{fold_out-Member, fold_out-Decl, map-Member}
use Rattle.jn_base.specs.declared.tree.Decl.{Decl}
use Rattle.jn_base.specs.Paths.{Path, nested, and_nested, methods, and_method, fields, and_field, StandsIn, StandsAt}
use Rattle.jn_base.specs.Members.{MethodAt, FieldAt}
use Rattle.jn_base.specs.Duplicates.{only_if, has_name, of_decls, of_fields, of_methods, Given, same_given, InMember, InDecl, in_members, in_decls, in_lists, in_member, in_decl, member_step, decl_step, duplicates}
use Rattle.jn_base.proofs.NameTests.{in_cons, in_none, itself_named, same_name, second}

-- ---- the folds, opened

pub decl_opened : (d : Decl) → in_decl d ≡ decl_step (record { kind = d.kind; name = d.name; extends = d.extends; shares = d.shares; adapts = d.adapts; members = map in_member d.members })
decl_opened d = fold_out-Decl InMember InDecl member_step decl_step d

pub member_opened : (m : Member) → in_member m ≡ member_step (map-Member _ _ _ _ in_member in_decl (out-Member m))
member_opened m = fold_out-Member InMember InDecl member_step decl_step m

append_none : {X : Type 0} (xs ys : List X) → xs ++ ys ≡ [] → (xs ≡ []) × (ys ≡ [])
append_none [] ys e = (refl, e)
append_none (x ∷ xs) ys e = cc

only_none : {X : Type 0} (t : Bool) (x : X) → only_if t (x ∷ []) ≡ [] → t ≡ false
only_none true x e = cc
only_none false x e = refl

or_none : (a b : Bool) → (a || b) ≡ false → (a ≡ false) × (b ≡ false)
or_none true b e = cc
or_none false b e = (refl, e)

not_both : (b : Bool) → b ≡ true → b ≡ false → ⊥
not_both true e h = cc h
not_both false e h = cc e

pub some_same : {X : Type 0} (x y : X) → ◌≡◌ {A = Option X} (Some x) (Some y) → x ≡ y
some_same x y e = cc

-- ---- what a member gives, and what is inside it

unfoldable pub gives : Member-F Member Decl → Given
gives (Member-F.Inner d) = record { space = of_decls; name = d.name }
gives (Member-F.Slot f) = record { space = of_fields; name = f.name }
gives (Member-F.Body m) = record { space = of_methods; name = m.name }

given_opened : (o : Member-F Member Decl) → (member_step (map-Member _ _ _ _ in_member in_decl o)).given ≡ gives o
unfolding gives
given_opened (Member-F.Inner d) = ap (λ (x : InDecl). record { space = of_decls; name = x.name }) (decl_opened d)
given_opened (Member-F.Slot f) = refl
given_opened (Member-F.Body m) = refl

pub given_is : (m : Member) → (in_member m).given ≡ gives (out-Member m)
given_is m = ap (λ (x : InMember). x.given) (member_opened m) ∙ given_opened (out-Member m)

pub inside_is : (m : Member) (d : Decl) (R : Path) → out-Member m ≡ Member-F.Inner d → (in_member m).inside R ≡ (in_decl d).inside R
inside_is m d R e =
    ap (λ (x : InMember). x.inside R) (member_opened m)
    ∙ ap (λ (o : Member-F Member Decl). (member_step (map-Member _ _ _ _ in_member in_decl o)).inside R) e

unfoldable pub givens : List Member → List Given
givens [] = []
givens (m ∷ ms) = gives (out-Member m) ∷ givens ms

-- each is given once, behind those of `before`
data Once : List Given → List Given → Type 0 where
  once_none : {before : List Given} → Once before []
  once_more : {before gs : List Given} {g : Given} → list_any (same_given g) before ≡ false → Once (g ∷ before) gs → Once before (g ∷ gs)

-- what is found of the first member and of the others
record Found (R : Path) (before : List Given) (m : Member) (ms : List Member) : Type 0 where
  new : list_any (same_given (gives (out-Member m))) before ≡ false
  inside : (in_member m).inside R ≡ []
  rest : in_members R (gives (out-Member m) ∷ before) (map in_member ms) ≡ []

found_none : (R : Path) (before : List Given) (m : Member) (ms : List Member) → in_members R before (map in_member (m ∷ ms)) ≡ [] → Found R before m ms
found_none R before m ms e =
    let a = append_none (only_if (list_any (same_given (in_member m).given) before) _) _ e in
    let b = append_none ((in_member m).inside R) _ a.1 in
    record {
      new = subst (λ (g : Given). list_any (same_given g) before ≡ false) (given_is m) (only_none _ _ a.0);
      inside = b.0;
      rest = subst (λ (g : Given). in_members R (g ∷ before) (map in_member ms) ≡ []) (given_is m) b.1;
    }

members_once : (R : Path) (before : List Given) (ms : List Member) → in_members R before (map in_member ms) ≡ [] → Once before (givens ms)
unfolding givens
members_once R before [] e = once_none
members_once R before (m ∷ ms) e =
    let f = found_none R before m ms e in
    once_more f.new (members_once R (gives (out-Member m) ∷ before) ms f.rest)

nested_cases : (o : Member-F Member Decl) (ds : List Decl) (d : Decl) → Contains (and_nested o ds) d → (o ≡ Member-F.Inner d) ⊎ Contains ds d
nested_cases (Member-F.Inner f) ds d c = first_or f ds d (in_cons f ds d c) where
  first_or : (f : Decl) (ds : List Decl) (d : Decl) → (f ≡ d) ⊎ Contains ds d → (◌≡◌ {A = Member-F Member Decl} (Member-F.Inner f) (Member-F.Inner d)) ⊎ Contains ds d
  first_or f ds d (inl e) = inl (ap (λ (x : Decl). Member-F.Inner x) e)
  first_or f ds d (inr h) = inr h
nested_cases (Member-F.Slot f) ds d c = inr c
nested_cases (Member-F.Body m) ds d c = inr c

-- nothing is found inside a declaration of the body either
members_clean : (R : Path) (before : List Given) (ms : List Member) → in_members R before (map in_member ms) ≡ []
    → (d : Decl) → Contains (nested ms) d → (in_decl d).inside R ≡ []
members_clean R before [] e d c = absurd (in_none d c)
members_clean R before (m ∷ ms) e d c =
    let f = found_none R before m ms e in
    either (nested_cases (out-Member m) (nested ms) d c) f.inside (λ h. members_clean R (gives (out-Member m) ∷ before) ms f.rest d h) where
      either : (out-Member m ≡ Member-F.Inner d) ⊎ Contains (nested ms) d → (in_member m).inside R ≡ [] → (Contains (nested ms) d → (in_decl d).inside R ≡ []) → (in_decl d).inside R ≡ []
      either (inl h) i k = sym (inside_is m d R h) ∙ i
      either (inr h) i k = k h

-- ---- one of a name: for declarations, methods and fields alike

-- `In ms x` says that x is one of the members `ms` that `pick` takes, and `key x` what it gives
module _ {X : Type 0} (pick : Member-F Member Decl → Option X) (key : X → Given) (In : List Member → X → Type 0)
    (fits : (o : Member-F Member Decl) (x : X) → pick o ≡ Some x → gives o ≡ key x)
    (none : (x : X) → In [] x → ⊥)
    (cases : (m : Member) (ms : List Member) (x : X) → In (m ∷ ms) x → (pick (out-Member m) ≡ Some x) ⊎ In ms x)
  where
    not_before_by : (before : List Given) (m : Member) (x : X) → list_any (same_given (gives (out-Member m))) before ≡ false
        → (pick (out-Member m) ≡ Some x) ⊎ (list_any (same_given (key x)) (gives (out-Member m) ∷ before) ≡ false)
        → list_any (same_given (key x)) before ≡ false
    not_before_by before m x n (inl e) = subst (λ (g : Given). list_any (same_given g) before ≡ false) (fits (out-Member m) x e) n
    not_before_by before m x n (inr h) = (or_none (same_given (key x) (gives (out-Member m))) (list_any (same_given (key x)) before) h).1

    -- what is given once differs from what was given before
    not_before : (before : List Given) (ms : List Member) → Once before (givens ms) → (x : X) → In ms x → list_any (same_given (key x)) before ≡ false
    unfolding givens
    not_before before [] o x i = absurd (none x i)
    not_before before (m ∷ ms) (once_more n o) x i =
        not_before_by before m x n (second (λ (h : In ms x). not_before (gives (out-Member m) ∷ before) ms o x h) (cases m ms x i))

    one_of : (m : Member) (ms : List Member) → (before : List Given) → Once (gives (out-Member m) ∷ before) (givens ms)
        → ((x y : X) → In ms x → In ms y → same_given (key x) (key y) ≡ true → x ≡ y)
        → (x y : X) → same_given (key x) (key y) ≡ true → same_given (key y) (key x) ≡ true
        → (pick (out-Member m) ≡ Some x) ⊎ In ms x → (pick (out-Member m) ≡ Some y) ⊎ In ms y → x ≡ y
    one_of m ms before o ih x y e f (inl h) (inl k) = some_same x y (sym h ∙ k)
    one_of m ms before o ih x y e f (inl h) (inr k) =
        let n = or_none (same_given (key y) (gives (out-Member m))) (list_any (same_given (key y)) before) (not_before (gives (out-Member m) ∷ before) ms o y k) in
        absurd (not_both (same_given (key y) (key x)) f (subst (λ (g : Given). same_given (key y) g ≡ false) (fits (out-Member m) x h) n.0))
    one_of m ms before o ih x y e f (inr h) (inl k) =
        let n = or_none (same_given (key x) (gives (out-Member m))) (list_any (same_given (key x)) before) (not_before (gives (out-Member m) ∷ before) ms o x h) in
        absurd (not_both (same_given (key x) (key y)) e (subst (λ (g : Given). same_given (key x) g ≡ false) (fits (out-Member m) y k) n.0))
    one_of m ms before o ih x y e f (inr h) (inr k) = ih x y h k e

    one_given : ((x y : X) → same_given (key x) (key y) ≡ true → same_given (key y) (key x) ≡ true)
        → (before : List Given) (ms : List Member) → Once before (givens ms)
        → (x y : X) → In ms x → In ms y → same_given (key x) (key y) ≡ true → x ≡ y
    unfolding givens
    one_given turn before [] o x y i j e = absurd (none x i)
    one_given turn before (m ∷ ms) (once_more n o) x y i j e =
        one_of m ms before o (one_given turn (gives (out-Member m) ∷ before) ms o) x y e (turn x y e) (cases m ms x i) (cases m ms y j)

-- the three kinds of member
inner_of : Member-F Member Decl → Option Decl
inner_of (Member-F.Inner d) = Some d
inner_of (Member-F.Slot f) = None
inner_of (Member-F.Body m) = None

field_of : Member-F Member Decl → Option Field
field_of (Member-F.Inner d) = None
field_of (Member-F.Slot f) = Some f
field_of (Member-F.Body m) = None

method_of : Member-F Member Decl → Option Method
method_of (Member-F.Inner d) = None
method_of (Member-F.Slot f) = None
method_of (Member-F.Body m) = Some m

decl_key : Decl → Given
decl_key d = record { space = of_decls; name = d.name }

field_key : Field → Given
field_key f = record { space = of_fields; name = f.name }

method_key : Method → Given
method_key m = record { space = of_methods; name = m.name }

inner_fits : (o : Member-F Member Decl) (d : Decl) → inner_of o ≡ Some d → gives o ≡ decl_key d
unfolding inner_of gives decl_key
inner_fits (Member-F.Inner f) d e = ap decl_key (some_same f d e)
inner_fits (Member-F.Slot f) d e = cc
inner_fits (Member-F.Body m) d e = cc

field_fits : (o : Member-F Member Decl) (f : Field) → field_of o ≡ Some f → gives o ≡ field_key f
unfolding field_of gives field_key
field_fits (Member-F.Inner d) f e = cc
field_fits (Member-F.Slot g) f e = ap field_key (some_same g f e)
field_fits (Member-F.Body m) f e = cc

method_fits : (o : Member-F Member Decl) (m : Method) → method_of o ≡ Some m → gives o ≡ method_key m
unfolding method_of gives method_key
method_fits (Member-F.Inner d) m e = cc
method_fits (Member-F.Slot f) m e = cc
method_fits (Member-F.Body n) m e = ap method_key (some_same n m e)

first_some : {X : Type 0} (x : X) (ys : List X) (y : X) → (x ≡ y) ⊎ Contains ys y → (◌≡◌ {A = Option X} (Some x) (Some y)) ⊎ Contains ys y
first_some x ys y (inl e) = inl (ap (λ z. Some z) e)
first_some x ys y (inr h) = inr h

inner_first : (o : Member-F Member Decl) (ds : List Decl) (d : Decl) → Contains (and_nested o ds) d → (inner_of o ≡ Some d) ⊎ Contains ds d
unfolding inner_of
inner_first (Member-F.Inner f) ds d c = first_some f ds d (in_cons f ds d c)
inner_first (Member-F.Slot f) ds d c = inr c
inner_first (Member-F.Body m) ds d c = inr c

field_first : (o : Member-F Member Decl) (fs : List Field) (f : Field) → Contains (and_field o fs) f → (field_of o ≡ Some f) ⊎ Contains fs f
unfolding field_of
field_first (Member-F.Inner d) fs f c = inr c
field_first (Member-F.Slot g) fs f c = first_some g fs f (in_cons g fs f c)
field_first (Member-F.Body m) fs f c = inr c

method_first : (o : Member-F Member Decl) (ns : List Method) (m : Method) → Contains (and_method o ns) m → (method_of o ≡ Some m) ⊎ Contains ns m
unfolding method_of
method_first (Member-F.Inner d) ns m c = inr c
method_first (Member-F.Slot f) ns m c = inr c
method_first (Member-F.Body n) ns m c = first_some n ns m (in_cons n ns m c)

turned : (a b : Name) → nat_eq a.0 b.0 ≡ true → nat_eq b.0 a.0 ≡ true
turned a b e = subst (λ (n : Name). nat_eq n.0 a.0 ≡ true) (same_name a b e) (itself_named a)

of_equal : (a b : Name) → a ≡ b → nat_eq a.0 b.0 ≡ true
of_equal a b e = subst (λ (n : Name). nat_eq a.0 n.0 ≡ true) e (itself_named a)

one_nested : (ms : List Member) → Once [] (givens ms) → (d e : Decl) → Contains (nested ms) d → Contains (nested ms) e → d.name.name ≡ e.name.name → d ≡ e
unfolding decl_key
one_nested ms o d e c h n =
    one_given inner_of decl_key (λ ms d. Contains (nested ms) d) inner_fits (λ d. in_none d) (λ m ms d c. inner_first (out-Member m) (nested ms) d c)
    (λ x y. turned x.name.name y.name.name) [] ms o d e c h (of_equal d.name.name e.name.name n)

one_field : (ms : List Member) → Once [] (givens ms) → (f g : Field) → Contains (fields ms) f → Contains (fields ms) g → f.name.name ≡ g.name.name → f ≡ g
unfolding field_key
one_field ms o f g c h n =
    one_given field_of field_key (λ ms d. Contains (fields ms) d) field_fits (λ d. in_none d) (λ m ms d c. field_first (out-Member m) (fields ms) d c)
    (λ x y. turned x.name.name y.name.name) [] ms o f g c h (of_equal f.name.name g.name.name n)

one_method : (ms : List Member) → Once [] (givens ms) → (f g : Method) → Contains (methods ms) f → Contains (methods ms) g → f.name.name ≡ g.name.name → f ≡ g
unfolding method_key
one_method ms o f g c h n =
    one_given method_of method_key (λ ms d. Contains (methods ms) d) method_fits (λ d. in_none d) (λ m ms d c. method_first (out-Member m) (methods ms) d c)
    (λ x y. turned x.name.name y.name.name) [] ms o f g c h (of_equal f.name.name g.name.name n)

-- ---- the top level

record TopFound (before : List Name) (d : Decl) (ds : List Decl) : Type 0 where
  new : has_name before d.name.name ≡ false
  inside : (in_decl d).inside [] ≡ []
  rest : in_decls (d.name.name ∷ before) (map in_decl ds) ≡ []

pub name_is : (d : Decl) → (in_decl d).name ≡ d.name
name_is d = ap (λ (x : InDecl). x.name) (decl_opened d)

top_found : (before : List Name) (d : Decl) (ds : List Decl) → in_decls before (map in_decl (d ∷ ds)) ≡ [] → TopFound before d ds
top_found before d ds e =
    let a = append_none (only_if (has_name before (in_decl d).name.name) _) _ e in
    let b = append_none ((in_decl d).inside []) _ a.1 in
    record {
      new = subst (λ (n : Named). has_name before n.name ≡ false) (name_is d) (only_none _ _ a.0);
      inside = b.0;
      rest = subst (λ (n : Named). in_decls (n.name ∷ before) (map in_decl ds) ≡ []) (name_is d) b.1;
    }

new_by : (before : List Name) (f d : Decl) → has_name before f.name.name ≡ false → (f ≡ d) ⊎ (has_name (f.name.name ∷ before) d.name.name ≡ false)
    → has_name before d.name.name ≡ false
new_by before f d n (inl e) = subst (λ (g : Decl). has_name before g.name.name ≡ false) e n
new_by before f d n (inr h) = (or_none (nat_eq f.name.name.0 d.name.name.0) (has_name before d.name.name) h).1

clean_by : (f d : Decl) → (in_decl f).inside [] ≡ [] → (f ≡ d) ⊎ ((in_decl d).inside [] ≡ []) → (in_decl d).inside [] ≡ []
clean_by f d i (inl e) = subst (λ (g : Decl). (in_decl g).inside [] ≡ []) e i
clean_by f d i (inr h) = h

top_new : (before : List Name) (ds : List Decl) → in_decls before (map in_decl ds) ≡ [] → (d : Decl) → Contains ds d → has_name before d.name.name ≡ false
top_new before [] e d c = absurd (in_none d c)
top_new before (f ∷ ds) e d c =
    let t = top_found before f ds e in
    new_by before f d t.new (second (λ (h : Contains ds d). top_new (f.name.name ∷ before) ds t.rest d h) (in_cons f ds d c))

top_clean : (before : List Name) (ds : List Decl) → in_decls before (map in_decl ds) ≡ [] → (d : Decl) → Contains ds d → (in_decl d).inside [] ≡ []
top_clean before [] e d c = absurd (in_none d c)
top_clean before (f ∷ ds) e d c =
    let t = top_found before f ds e in
    clean_by f d t.inside (second (λ (h : Contains ds d). top_clean (f.name.name ∷ before) ds t.rest d h) (in_cons f ds d c))

one_by : (before : List Name) (f : Decl) (ds : List Decl) → in_decls (f.name.name ∷ before) (map in_decl ds) ≡ [] → (d e : Decl)
    → d.name.name ≡ e.name.name → (Contains ds d → Contains ds e → d ≡ e) → (f ≡ d) ⊎ Contains ds d → (f ≡ e) ⊎ Contains ds e → d ≡ e
one_by before f ds r d e n ih (inl h) (inl k) = sym h ∙ k
one_by before f ds r d e n ih (inl h) (inr k) =
    let t = or_none (nat_eq f.name.name.0 e.name.name.0) (has_name before e.name.name) (top_new (f.name.name ∷ before) ds r e k) in
    absurd (not_both (nat_eq f.name.name.0 e.name.name.0) (of_equal f.name.name e.name.name (ap (λ (g : Decl). g.name.name) h ∙ n)) t.0)
one_by before f ds r d e n ih (inr h) (inl k) =
    let t = or_none (nat_eq f.name.name.0 d.name.name.0) (has_name before d.name.name) (top_new (f.name.name ∷ before) ds r d h) in
    absurd (not_both (nat_eq f.name.name.0 d.name.name.0) (of_equal f.name.name d.name.name (ap (λ (g : Decl). g.name.name) k ∙ sym n)) t.0)
one_by before f ds r d e n ih (inr h) (inr k) = ih h k

top_one : (before : List Name) (ds : List Decl) → in_decls before (map in_decl ds) ≡ [] → (d e : Decl) → Contains ds d → Contains ds e
    → d.name.name ≡ e.name.name → d ≡ e
top_one before [] x d e c h n = absurd (in_none d c)
top_one before (f ∷ ds) x d e c h n =
    let t = top_found before f ds x in
    one_by before f ds t.rest d e n (λ c h. top_one (f.name.name ∷ before) ds t.rest d e c h n) (in_cons f ds d c) (in_cons f ds e h)

-- ---- down the paths

record CleanIn (p : Program) (P : Path) : Type 0 where
  pub clean : (d : Decl) → StandsIn p P d → (in_decl d).inside P ≡ []
  pub one : (d e : Decl) → StandsIn p P d → StandsIn p P e → d.name.name ≡ e.name.name → d ≡ e

-- of what is found in a declaration of the namespace P, what is found in its body
body_clean : (P : Path) (d : Decl) → (in_decl d).inside P ≡ [] → in_members (d.name.name ∷ P) [] (map in_member d.members) ≡ []
body_clean P d e =
    (append_none (in_lists (d.name.name ∷ P) d.extends d.shares d.adapts) _ (sym (ap (λ (x : InDecl). x.inside P) (decl_opened d)) ∙ e)).1

body_once : (P : Path) (d : Decl) → (in_decl d).inside P ≡ [] → Once [] (givens d.members)
body_once P d e = members_once (d.name.name ∷ P) [] d.members (body_clean P d e)

clean_in : (p : Program) → duplicates p ≡ [] → (P : Path) → CleanIn p P
clean_in p e [] = record { clean = top_clean [] p.decls e; one = top_one [] p.decls e }
clean_in p e (C ∷ P) =
    let up = clean_in p e P in
    record {
      clean = λ d s.
          let i = members_clean (s.0.name.name ∷ P) [] s.0.members (body_clean P s.0 (up.clean s.0 s.1)) d s.3 in
          subst (λ (N : Name). (in_decl d).inside (N ∷ P) ≡ []) s.2 i;
      one = λ d f s t n.
          let same_body = up.one s.0 t.0 s.1 t.1 (s.2 ∙ sym t.2) in
          one_nested t.0.members (body_once P t.0 (up.clean t.0 t.1)) d f (subst (λ (g : Decl). Contains (nested g.members) d) same_body s.3) t.3 n;
    }

pub one_decl : (p : Program) → duplicates p ≡ [] → (R : Path) (d e : Decl) → StandsAt p R d → StandsAt p R e → d ≡ e
one_decl p x [] d e s t = absurd s
one_decl p x (C ∷ P) d e s t = (clean_in p x P).one d e s.0 t.0 (s.1 ∙ sym t.1)

once_at : (p : Program) → duplicates p ≡ [] → (R : Path) (d : Decl) → StandsAt p R d → Once [] (givens d.members)
once_at p x [] d s = absurd s
once_at p x (C ∷ P) d s = body_once P d ((clean_in p x P).clean d s.0)

pub one_method_at : (p : Program) → duplicates p ≡ [] → (R : Path) (m : Name) (x y : Method) → MethodAt p R m x → MethodAt p R m y → x ≡ y
one_method_at p e R m x y h k =
    let d = one_decl p e R h.decl k.decl h.stands k.stands in
    one_method k.decl.members (once_at p e R k.decl k.stands) x y (subst (λ (g : Decl). Contains (methods g.members) x) d h.has) k.has (h.name ∙ sym k.name)

pub one_field_at : (p : Program) → duplicates p ≡ [] → (R : Path) (f : Name) (x y : Field) → FieldAt p R f x → FieldAt p R f y → x ≡ y
one_field_at p e R f x y h k =
    let d = one_decl p e R h.decl k.decl h.stands k.stands in
    one_field k.decl.members (once_at p e R k.decl k.stands) x y (subst (λ (g : Decl). Contains (fields g.members) x) d h.has) k.has (h.name ∙ sym k.name)

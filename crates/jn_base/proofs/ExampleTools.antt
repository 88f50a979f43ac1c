-- Facts of small programs, by tests that compute.
use Rattle.std.proofs.Common.{◌≡◌, ◌<◌, ℕ, List, [], ◌∷◌, length, zero, suc, refl, sym, subst, Bool, true, false, ◌||◌, ◌&&◌, nat_eq, ◌⊎◌, inl, inr, arith, Contains, not, drop}
use Rattle.std.specs.List.{list_all, list_any}
use Rattle.jn_base.specs.declared.tree.Name.{Name}
use Rattle.jn_base.specs.declared.tree.Program.{Program}
use Rattle.jn_base.specs.declared.tree.Decl.{Decl}
use Rattle.jn_base.specs.declared.tree.Method.{Method}
use Rattle.jn_base.specs.declared.tree.Field.{Field}
use Rattle.jn_base.specs.Paths.{Path, nested, methods, fields, StandsAt, Declared, Extends}
use Rattle.jn_base.specs.Supers.{Direct, inherited, written, Sup, itself, above, Member}
use Rattle.jn_base.specs.declared.tree.Kind.{Kind}
use Rattle.jn_base.specs.declared.tree.Kind.TheVariants as kind
use Rattle.jn_base.specs.ExampleTrees.{line}
use Rattle.jn_base.specs.Members.{IsHome, HasKind, MethodAt, FieldAt, Least, IsField}
use Rattle.jn_base.specs.Duplicates.{has_name}
use Rattle.jn_base.proofs.NameTests.{in_cons, in_none, first, later, and_both, or_either, same_name, itself_named, or_left, or_right, second, has_in, implies, implied, passes}
use Rattle.jn_base.proofs.SuperLaws.{top_direct, sup_level}

-- ---- tests of the declarations at depth 1 and at depth 2

abbrev pub tops : (Decl → Bool) → Program → Bool
tops t p = list_all t p.decls

abbrev pub inners : (Name → Decl → Bool) → Program → Bool
inners t p = list_all (λ e. list_all (t e.name.name) (nested e.members)) p.decls

pub at_top : (p : Program) (t : Decl → Bool) → tops t p ≡ true → (A : Name) (d : Decl) → StandsAt p (A ∷ []) d → t d ≡ true
at_top p t e A d s = passes t p.decls d e s.0

pub at_inner : (p : Program) (t : Name → Decl → Bool) → inners t p ≡ true → (C A : Name) (d : Decl) → StandsAt p (C ∷ A ∷ []) d → t A d ≡ true
at_inner p t e C A d s =
    let f = passes (λ (f : Decl). list_all (t f.name.name) (nested f.members)) p.decls s.0.0 e s.0.1 in
    subst (λ (n : Name). t n d ≡ true) s.0.2 (passes (t s.0.0.name.name) (nested s.0.0.members) d f s.0.3)

-- the names of `names` extend only names of `names`
abbrev pub keeps : List Name → Decl → Bool
keeps names d = implies (has_name names d.name.name) (list_all (λ n. has_name names n.name) d.extends)

-- S is the class C of the package A, for names C and A of the lists
pub data OneOf (Cs As : List Name) : Path → Type 0 where
  one : (C A : Name) → has_name Cs C ≡ true → has_name As A ≡ true → OneOf Cs As (C ∷ A ∷ [])

pub top_kept : (p : Program) (As : List Name) → tops (keeps As) p ≡ true → (A D : Name) → has_name As A ≡ true → Extends p (A ∷ []) D → has_name As D ≡ true
top_kept p As e A D a x =
    let k = at_top p (keeps As) e A x.decl x.stands in
    let h = implied (has_name As x.decl.name.name) (list_all (λ n. has_name As n.name) x.decl.extends) k (subst (λ (n : Name). has_name As n ≡ true) (sym x.stands.1) a) in
    subst (λ (n : Name). has_name As n ≡ true) x.name (passes (λ n. has_name As n.name) x.decl.extends x.named h x.extends)

pub inner_kept : (p : Program) (Cs : List Name) → inners (λ A. keeps Cs) p ≡ true → (C A D : Name) → has_name Cs C ≡ true → Extends p (C ∷ A ∷ []) D → has_name Cs D ≡ true
inner_kept p Cs e C A D c x =
    let k = at_inner p (λ A. keeps Cs) e C A x.decl x.stands in
    let h = implied (has_name Cs x.decl.name.name) (list_all (λ n. has_name Cs n.name) x.decl.extends) k (subst (λ (n : Name). has_name Cs n ≡ true) (sym x.stands.1) c) in
    subst (λ (n : Name). has_name Cs n ≡ true) x.name (passes (λ n. has_name Cs n.name) x.decl.extends x.named h x.extends)

one_long : (S : Path) → length S ≡ 1 → (B : Name) × (S ≡ B ∷ [])
one_long [] e = absurd (omega (arith, e))
one_long (B ∷ []) e = (B, refl)
one_long (B ∷ C ∷ S) e = absurd (omega (arith, e))

pub top_sup : (p : Program) (A : Name) (S : Path) → Sup p (A ∷ []) S → (B : Name) × (S ≡ B ∷ [])
top_sup p A S s = one_long S (sup_level s)

-- what holds of a path and goes on along direct supers holds of each super
pub sup_closed : {p : Program} (T : Path → Type 0) → ((R S : Path) → Direct p R S → T R → T S) → {R S : Path} → Sup p R S → T R → T S
sup_closed T f itself t = t
sup_closed T f (above d s) t = sup_closed T f s (f _ _ d t)

direct_kept : (p : Program) (Cs As : List Name) → tops (keeps As) p ≡ true → inners (λ A. keeps Cs) p ≡ true
    → {S : Path} (C A : Name) → has_name Cs C ≡ true → has_name As A ≡ true → Direct p (C ∷ A ∷ []) S → OneOf Cs As S
direct_kept p Cs As t i C A c a (inherited {Q = Q} d s x) =
    let r = (top_direct p A Q).0 d in
    subst (λ (P : Path). OneOf Cs As (C ∷ P)) (sym r.3) (one C r.0 c (top_kept p As t A r.0 a r.1))
direct_kept p Cs As t i C A c a (written {S = T} {D = D} s e u x) =
    let b = top_sup p A T s in
    one D A (inner_kept p Cs i C b.0 D c (subst (λ (P : Path). Extends p (C ∷ P) D) b.1 e)) a

kept : (p : Program) (Cs As : List Name) → tops (keeps As) p ≡ true → inners (λ A. keeps Cs) p ≡ true
    → (R S : Path) → Direct p R S → OneOf Cs As R → OneOf Cs As S
kept p Cs As t i R S d (one C A c a) = direct_kept p Cs As t i C A c a d

-- all supers of a class are of those names, where these names extend none but these
pub sups_kept : (p : Program) (Cs As : List Name) → tops (keeps As) p ≡ true → inners (λ A. keeps Cs) p ≡ true
    → (C A : Name) → has_name Cs C ≡ true → has_name As A ≡ true → (S : Path) → Sup p (C ∷ A ∷ []) S → OneOf Cs As S
sups_kept p Cs As t i C A c a S s = sup_closed (OneOf Cs As) (kept p Cs As t i) s (one C A c a)

-- ---- which classes declare a method or a field

abbrev pub has_method : Name → Decl → Bool
has_method m d = list_any (λ x. nat_eq x.name.name.0 m.0) (methods d.members)

abbrev pub has_field : Name → Decl → Bool
has_field f d = list_any (λ x. nat_eq x.name.name.0 f.0) (fields d.members)

any_more : {X : Type 0} (t : X → Bool) (y : X) (ys : List X) (x : X) → t x ≡ true → (y ≡ x) ⊎ (list_any t ys ≡ true) → list_any t (y ∷ ys) ≡ true
any_more t y ys x e (inl h) = or_left (t y) (list_any t ys) (subst (λ z. t z ≡ true) (sym h) e)
any_more t y ys x e (inr h) = or_right (t y) (list_any t ys) h

any_from : {X : Type 0} (t : X → Bool) (xs : List X) (x : X) → t x ≡ true → Contains xs x → list_any t xs ≡ true
any_from t [] x e c = absurd (in_none x c)
any_from t (y ∷ ys) x e c = any_more t y ys x e (second (λ (h : Contains ys x). any_from t ys x e h) (in_cons y ys x c))

-- what declares m passes the test
abbrev pub if_method : Name → (Name → Name → Bool) → Name → Decl → Bool
if_method m t A d = implies (has_method m d) (t d.name.name A)

abbrev pub if_field : Name → (Name → Name → Bool) → Name → Decl → Bool
if_field f t A d = implies (has_field f d) (t d.name.name A)

pub method_in : (p : Program) (m : Name) (t : Name → Name → Bool) → inners (if_method m t) p ≡ true
    → (C A : Name) (method : Method) → MethodAt p (C ∷ A ∷ []) m method → t C A ≡ true
method_in p m t e C A method x =
    let k = at_inner p (if_method m t) e C A x.decl x.stands in
    let named : nat_eq method.name.name.0 m.0 ≡ true = subst (λ (n : Name). nat_eq n.0 m.0 ≡ true) (sym x.name) (itself_named m) in
    let h = any_from (λ (y : Method). nat_eq y.name.name.0 m.0) (methods x.decl.members) method named x.has in
    subst (λ (n : Name). t n A ≡ true) x.stands.1 (implied (has_method m x.decl) (t x.decl.name.name A) k h)

pub field_in : (p : Program) (f : Name) (t : Name → Name → Bool) → inners (if_field f t) p ≡ true
    → (C A : Name) (field : Field) → FieldAt p (C ∷ A ∷ []) f field → t C A ≡ true
field_in p f t e C A field x =
    let k = at_inner p (if_field f t) e C A x.decl x.stands in
    let named : nat_eq field.name.name.0 f.0 ≡ true = subst (λ (n : Name). nat_eq n.0 f.0 ≡ true) (sym x.name) (itself_named f) in
    let h = any_from (λ (y : Field). nat_eq y.name.name.0 f.0) (fields x.decl.members) field named x.has in
    subst (λ (n : Name). t n A ≡ true) x.stands.1 (implied (has_field f x.decl) (t x.decl.name.name A) k h)

-- ---- what stands where, by tests

abbrev pub same : Name → Name → Bool
same a b = nat_eq a.0 b.0

some_either : {X : Type 0} (t : X → Bool) (y : X) (ys : List X) → (t y ≡ true) ⊎ ((x : X) × Contains ys x × (t x ≡ true))
    → (x : X) × Contains (y ∷ ys) x × (t x ≡ true)
some_either t y ys (inl e) = (y, first y ys, e)
some_either t y ys (inr h) = (h.0, later y ys h.0 h.1, h.2)

pub some_passes : {X : Type 0} (t : X → Bool) (xs : List X) → list_any t xs ≡ true → (x : X) × Contains xs x × (t x ≡ true)
some_passes t [] e = cc
some_passes t (y ∷ ys) e = some_either t y ys (second (λ (h : list_any t ys ≡ true). some_passes t ys h) (or_either (t y) (list_any t ys) e))

abbrev pub top_has : Program → Name → (Decl → Bool) → Bool
top_has p A t = list_any (λ e. same e.name.name A && t e) p.decls

abbrev pub inner_has : Program → Name → Name → (Decl → Bool) → Bool
inner_has p A C t = top_has p A (λ e. list_any (λ d. same d.name.name C && t d) (nested e.members))

pub top_stands : (p : Program) (A : Name) (t : Decl → Bool) → top_has p A t ≡ true → (d : Decl) × StandsAt p (A ∷ []) d × (t d ≡ true)
top_stands p A t e =
    let s = some_passes (λ d. same d.name.name A && t d) p.decls e in
    let b = and_both (same s.0.name.name A) (t s.0) s.2 in
    (s.0, (s.1, same_name s.0.name.name A b.0), b.1)

pub inner_stands : (p : Program) (A C : Name) (t : Decl → Bool) → inner_has p A C t ≡ true
    → (d : Decl) × StandsAt p (C ∷ A ∷ []) d × (t d ≡ true)
inner_stands p A C t e =
    let o = top_stands p A (λ f. list_any (λ d. same d.name.name C && t d) (nested f.members)) e in
    let s = some_passes (λ d. same d.name.name C && t d) (nested o.0.members) o.2 in
    let b = and_both (same s.0.name.name C) (t s.0) s.2 in
    (s.0, ((o.0, o.1.0, o.1.1, s.1), same_name s.0.name.name C b.0), b.1)

abbrev pub anything : Decl → Bool
anything d = true

abbrev pub extending : Name → Decl → Bool
extending D d = list_any (λ n. same n.name D) d.extends

extends_from : (p : Program) (R : Path) (D : Name) (d : Decl) → StandsAt p R d → extending D d ≡ true → Extends p R D
extends_from p R D d s e =
    let n = some_passes (λ n. same n.name D) d.extends e in
    record { decl = d; stands = s; named = n.0; extends = n.1; name = same_name n.0.name D n.2 }

pub top_member : (p : Program) (A : Name) → top_has p A anything ≡ true → Member p [] A
top_member p A e =
    let d = top_stands p A anything e in
    record { at = []; super = itself; declared = record { decl = d.0; stands = d.1 } }

-- A extends D, at the top
pub top_above : (p : Program) (A D : Name) → top_has p A (extending D) ≡ true → top_has p D anything ≡ true → Sup p (A ∷ []) (D ∷ [])
top_above p A D e x =
    let d = top_stands p A (extending D) e in
    let m = top_stands p D anything x in
    above (written itself (extends_from p (A ∷ []) D d.0 d.1 d.2) itself (record { decl = m.0; stands = m.1 })) itself

-- a declaration in A is a member of each heir of A
pub inner_member : (p : Program) (H A C : Name) → Sup p (H ∷ []) (A ∷ []) → inner_has p A C anything ≡ true → Member p (H ∷ []) C
inner_member p H A C s e =
    let d = inner_stands p A C anything e in
    record { at = A ∷ []; super = s; declared = record { decl = d.0; stands = d.1 } }

-- where C extends D in A, D of an heir is a super of its C
pub inner_above : (p : Program) (H A C D : Name) → Sup p (H ∷ []) (A ∷ []) → inner_has p A C (extending D) ≡ true
    → Member p (H ∷ []) D → Sup p (C ∷ H ∷ []) (D ∷ H ∷ [])
inner_above p H A C D s e m =
    let d = inner_stands p A C (extending D) e in
    above (written s (extends_from p (C ∷ A ∷ []) D d.0 d.1 d.2) m.super m.declared) itself

pub inner_method : (p : Program) (A C m : Name) → inner_has p A C (has_method m) ≡ true → (method : Method) × MethodAt p (C ∷ A ∷ []) m method
inner_method p A C m e =
    let d = inner_stands p A C (has_method m) e in
    let x = some_passes (λ (x : Method). nat_eq x.name.name.0 m.0) (methods d.0.members) d.2 in
    (x.0, record { decl = d.0; stands = d.1; has = x.1; name = same_name x.0.name.name m x.2 })

pub inner_field : (p : Program) (A C f : Name) → inner_has p A C (has_field f) ≡ true → (field : Field) × FieldAt p (C ∷ A ∷ []) f field
inner_field p A C f e =
    let d = inner_stands p A C (has_field f) e in
    let x = some_passes (λ (x : Field). nat_eq x.name.name.0 f.0) (fields d.0.members) d.2 in
    (x.0, record { decl = d.0; stands = d.1; has = x.1; name = same_name x.0.name.name f x.2 })

-- a proof for each element of a list
abbrev pub EachOf : List Name → (Name → Type 0) → Type 0
EachOf [] T = Unit {0}
EachOf (x ∷ xs) T = T x × EachOf xs T

each_or : (x : Name) (xs : List Name) (T : Name → Type 0) → T x → (y : Name) → (x ≡ y) ⊎ T y → T y
each_or x xs T t y (inl e) = subst T e t
each_or x xs T t y (inr u) = u

pub of_each : (xs : List Name) (T : Name → Type 0) → EachOf xs T → (y : Name) → Contains xs y → T y
of_each [] T t y c = absurd (in_none y c)
of_each (x ∷ xs) T t y c = each_or x xs T t.0 y (second (λ (h : Contains xs y). of_each xs T t.1 y h) (in_cons x xs y c))

-- ---- least declarations and fields of a class whose supers are all known

-- the classes of these names in these packages
abbrev pub EachClass : List Name → List Name → (Name → Name → Type 0) → Type 0
EachClass Cs As T = EachOf Cs (λ C. EachOf As (T C))

pub of_class : (Cs As : List Name) (T : Path → Type 0) → EachClass Cs As (λ C A. T (C ∷ A ∷ [])) → (S : Path) → OneOf Cs As S → T S
of_class Cs As T t S (one C A c a) = of_each As (λ B. T (C ∷ B ∷ [])) (of_each Cs (λ D. EachOf As (λ B. T (D ∷ B ∷ []))) t C (has_in Cs C c)) A (has_in As A a)

-- Q is the least of its method where the method stands, among the classes of these names, only at and above Q
pub least_from : (p : Program) (Cs As : List Name) (t : Name → Name → Bool) (m : Name) (R Q : Path)
    → ((S : Path) → Sup p R S → OneOf Cs As S)
    → ((C A : Name) (x : Method) → MethodAt p (C ∷ A ∷ []) m x → t C A ≡ true)
    → EachClass Cs As (λ C A. t C A ≡ true → Sup p Q (C ∷ A ∷ []))
    → Sup p R Q → (x : Method) → MethodAt p Q m x → Least p R m Q
least_from p Cs As t m R Q among told each s x k = record {
  among = record { super = s; method = x; at = k };
  below = λ S d. at_one S (among S d.super) d.method d.at;
} where
  at_one : (S : Path) → OneOf Cs As S → (y : Method) → MethodAt p S m y → Sup p Q S
  at_one S (one C A c a) y h =
      of_each As (λ B. t C B ≡ true → Sup p Q (C ∷ B ∷ []))
      (of_each Cs (λ D. EachOf As (λ B. t D B ≡ true → Sup p Q (D ∷ B ∷ []))) each C (has_in Cs C c)) A (has_in As A a) (told C A y h)

pub field_from : (p : Program) (Cs As : List Name) (t : Name → Name → Bool) (f : Name) (R Q : Path)
    → ((S : Path) → Sup p R S → OneOf Cs As S)
    → ((C A : Name) (x : Field) → FieldAt p (C ∷ A ∷ []) f x → t C A ≡ true)
    → EachClass Cs As (λ C A. t C A ≡ true → ◌≡◌ {A = Path} (C ∷ A ∷ []) Q)
    → Sup p R Q → (x : Field) → FieldAt p Q f x → IsField p R f Q
field_from p Cs As t f R Q among told each s x k = record {
  declares = record { super = s; field = x; at = k };
  only = λ S d. at_one S (among S d.super) d.field d.at;
} where
  at_one : (S : Path) → OneOf Cs As S → (y : Field) → FieldAt p S f y → S ≡ Q
  at_one S (one C A c a) y h =
      of_each As (λ B. t C B ≡ true → ◌≡◌ {A = Path} (C ∷ B ∷ []) Q)
      (of_each Cs (λ D. EachOf As (λ B. t D B ≡ true → ◌≡◌ {A = Path} (D ∷ B ∷ []) Q)) each C (has_in Cs C c)) A (has_in As A a) (told C A y h)

-- ---- direct supers

pub top_edge : (p : Program) (A D : Name) → top_has p A (extending D) ≡ true → top_has p D anything ≡ true → Direct p (A ∷ []) (D ∷ [])
top_edge p A D e x =
    let d = top_stands p A (extending D) e in
    let m = top_stands p D anything x in
    written itself (extends_from p (A ∷ []) D d.0 d.1 d.2) itself (record { decl = m.0; stands = m.1 })

-- all that A extends is among these names
abbrev pub extends_only : Name → List Name → Decl → Bool
extends_only A names d = implies (same d.name.name A) (list_all (λ n. has_name names n.name) d.extends)

pub top_extends : (p : Program) (A : Name) (names : List Name) → tops (extends_only A names) p ≡ true → (D : Name) → Extends p (A ∷ []) D → has_name names D ≡ true
top_extends p A names e D x =
    let k = at_top p (extends_only A names) e A x.decl x.stands in
    let h = implied (same x.decl.name.name A) (list_all (λ n. has_name names n.name) x.decl.extends) k (subst (λ (n : Name). nat_eq n.0 A.0 ≡ true) (sym x.stands.1) (itself_named A)) in
    subst (λ (n : Name). has_name names n ≡ true) x.name (passes (λ n. has_name names n.name) x.decl.extends x.named h x.extends)

-- all that A.C extends is among these names
pub inner_extends : (p : Program) (C : Name) (names : List Name) (T : Name → Bool)
    → inners (λ A d. implies (T A) (extends_only C names d)) p ≡ true
    → (A D : Name) → T A ≡ true → Extends p (C ∷ A ∷ []) D → has_name names D ≡ true
inner_extends p C names T e A D a x =
    let k = at_inner p (λ B d. implies (T B) (extends_only C names d)) e C A x.decl x.stands in
    let m = implied (T A) (extends_only C names x.decl) k a in
    let h = implied (same x.decl.name.name C) (list_all (λ n. has_name names n.name) x.decl.extends) m (subst (λ (n : Name). nat_eq n.0 C.0 ≡ true) (sym x.stands.1) (itself_named C)) in
    subst (λ (n : Name). has_name names n ≡ true) x.name (passes (λ n. has_name names n.name) x.decl.extends x.named h x.extends)

pub one_package : {Cs As : List Name} {C A : Name} → OneOf Cs As (C ∷ A ∷ []) → has_name As A ≡ true
one_package (one C A c a) = a

-- C extends D in A, and D is a member of the heir H: D of H is a direct super of its C
pub inner_edge : (p : Program) (H A C D : Name) → Sup p (H ∷ []) (A ∷ []) → inner_has p A C (extending D) ≡ true
    → Member p (H ∷ []) D → Direct p (C ∷ H ∷ []) (D ∷ H ∷ [])
inner_edge p H A C D s e m =
    let d = inner_stands p A C (extending D) e in
    written s (extends_from p (C ∷ A ∷ []) D d.0 d.1 d.2) m.super m.declared

-- ---- places and kinds

abbrev pub on_line : ℕ → Decl → Bool
on_line n d = nat_eq d.name.at.line n && nat_eq d.name.at.column 1

pub its_line : (n : ℕ) (d : Decl) → on_line n d ≡ true → line n ≡ d.name.at
its_line n d e =
    let b = and_both (nat_eq d.name.at.line n) (nat_eq d.name.at.column 1) e in
    two (numbers d.name.at.line n b.0) (numbers d.name.at.column 1 b.1) where
      numbers : (m n : ℕ) → nat_eq m n ≡ true → m ≡ n
      numbers m n h = grind arith

      two : d.name.at.line ≡ n → d.name.at.column ≡ 1 → line n ≡ d.name.at
      two h k i = record { line = sym h i; column = sym k i }

abbrev pub class_kind : Kind → Bool
class_kind kind.Class = true
class_kind kind.Package = false

abbrev pub is_class : Decl → Bool
is_class d = class_kind d.kind

abbrev pub is_package : Decl → Bool
is_package d = not (class_kind d.kind)

class_from : (k : Kind) → class_kind k ≡ true → k ≡ kind.Class
class_from kind.Class e = refl
class_from kind.Package e = cc

package_from : (k : Kind) → not (class_kind k) ≡ true → k ≡ kind.Package
package_from kind.Class e = cc
package_from kind.Package e = refl

pub inner_class : (p : Program) (R : Path) (A C : Name) → Sup p R (C ∷ A ∷ []) → inner_has p A C is_class ≡ true → HasKind p R kind.Class
inner_class p R A C s e =
    let d = inner_stands p A C is_class e in
    record { at = C ∷ A ∷ []; super = s; decl = d.0; stands = d.1; is = class_from d.0.kind d.2 }

pub inner_package : (p : Program) (R : Path) (A C : Name) → Sup p R (C ∷ A ∷ []) → inner_has p A C is_package ≡ true → HasKind p R kind.Package
inner_package p R A C s e =
    let d = inner_stands p A C is_package e in
    record { at = C ∷ A ∷ []; super = s; decl = d.0; stands = d.1; is = package_from d.0.kind d.2 }

-- a declared class has its home at its own name
pub inner_home : (p : Program) (A C : Name) (n : ℕ) → inner_has p A C (on_line n) ≡ true → IsHome p (C ∷ A ∷ []) (line n)
inner_home p A C n e =
    let d = inner_stands p A C (on_line n) e in
    record { off = 0; decl = d.0; stands = d.1; longest = λ k l. absurd (omega (arith, l)); is = its_line n d.0 d.2 }

-- one that isn't declared at its package's
pub outer_home : (p : Program) (A C : Name) (n : ℕ) → top_has p A (on_line n) ≡ true → (Declared p (C ∷ A ∷ []) → ⊥) → IsHome p (C ∷ A ∷ []) (line n)
outer_home p A C n e x =
    let d = top_stands p A (on_line n) e in
    record { off = 1; decl = d.0; stands = d.1; longest = shorter; is = its_line n d.0 d.2 } where
      shorter : (k : ℕ) → k < 1 → Declared p (drop k (C ∷ A ∷ [])) → ⊥
      shorter zero l h = x h
      shorter (suc k) l h = absurd (omega (arith, l))

-- no declaration stands in the package A
pub none_inside : (p : Program) (A C : Name) → inners (λ B d. not (same B A)) p ≡ true → Declared p (C ∷ A ∷ []) → ⊥
none_inside p A C e x = go (itself_named A) (at_inner p (λ B d. not (same B A)) e C A x.decl x.stands) where
  both : (b : Bool) → b ≡ true → not b ≡ true → ⊥
  both true h k = cc k
  both false h k = cc h

  go : nat_eq A.0 A.0 ≡ true → not (nat_eq A.0 A.0) ≡ true → ⊥
  go h k = both (nat_eq A.0 A.0) h k

-- ---- depth 3

abbrev pub nesting : Name → Decl → Bool
nesting N d = list_any (λ e. same e.name.name N) (nested d.members)

pub deep_declared : (p : Program) (A C N : Name) → inner_has p A C (nesting N) ≡ true → Declared p (N ∷ C ∷ A ∷ [])
deep_declared p A C N e =
    let d = inner_stands p A C (nesting N) e in
    let s = some_passes (λ (f : Decl). same f.name.name N) (nested d.0.members) d.2 in
    record { decl = s.0; stands = ((d.0, d.1.0, d.1.1, s.1), same_name s.0.name.name N s.2) }

pub deep_none : (p : Program) (A C N : Name) → inners (λ B d. not (same B A) || not (nesting N d)) p ≡ true → Declared p (N ∷ C ∷ A ∷ []) → ⊥
deep_none p A C N e x =
    let f = x.stands.0.0 in
    let k = at_inner p (λ B d. not (same B A) || not (nesting N d)) e C A f (x.stands.0.1, x.stands.0.2) in
    let named : nat_eq x.decl.name.name.0 N.0 ≡ true = subst (λ (n : Name). nat_eq n.0 N.0 ≡ true) (sym x.stands.1) (itself_named N) in
    let h = any_from (λ (g : Decl). same g.name.name N) (nested f.members) x.decl named x.stands.0.3 in
    neither (same A A) (nesting N f) (itself_named A) h k where
      neither : (a b : Bool) → a ≡ true → b ≡ true → (not a || not b) ≡ true → ⊥
      neither true true h k m = cc m
      neither true false h k m = cc k
      neither false b h k m = cc h

only : (y x : Name) → (y ≡ x) ⊎ Contains [] x → y ≡ x
only y x (inl e) = e
only y x (inr c) = absurd (in_none x c)

pub has_only : (y x : Name) → has_name (y ∷ []) x ≡ true → y ≡ x
has_only y x e = only y x (in_cons y [] x (has_in (y ∷ []) x e))

-- ---- supers of a package, within a list that is closed

data TopOf (As : List Name) : Path → Type 0 where
  top_in : (A : Name) → has_name As A ≡ true → TopOf As (A ∷ [])

top_of_step : (p : Program) (As : List Name) → tops (keeps As) p ≡ true → (R S : Path) → Direct p R S → TopOf As R → TopOf As S
top_of_step p As t R S d (top_in A a) =
    let x = (top_direct p A S).0 d in
    subst (TopOf As) (sym x.3) (top_in x.0 (top_kept p As t A x.0 a x.1))

top_of_name : {As : List Name} {S : Path} → TopOf As S → (B : Name) × (S ≡ B ∷ []) × (has_name As B ≡ true)
top_of_name (top_in A a) = (A, refl, a)

pub top_kept_sup : (p : Program) (As : List Name) → tops (keeps As) p ≡ true → (A : Name) → has_name As A ≡ true → (S : Path) → Sup p (A ∷ []) S
    → (B : Name) × (S ≡ B ∷ []) × (has_name As B ≡ true)
top_kept_sup p As t A a S s = top_of_name (sup_closed (TopOf As) (top_of_step p As t) s (top_in A a))

pub not_package : (d : Decl) → is_package d ≡ true → d.kind ≡ kind.Class → ⊥
not_package d e k = clash (package_from d.kind e) k where
  clash : d.kind ≡ kind.Package → d.kind ≡ kind.Class → ⊥
  clash h i = cc (h, i)

pub not_class : (d : Decl) → is_class d ≡ true → d.kind ≡ kind.Package → ⊥
not_class d e k = clash (class_from d.kind e) k where
  clash : d.kind ≡ kind.Class → d.kind ≡ kind.Package → ⊥
  clash h i = cc (h, i)

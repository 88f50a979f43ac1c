-- Homes, found by going down the declared names of a path.
use Rattle.std.proofs.Common.{◌≡◌, ◌∙◌, ℕ, zero, suc, ◌<◌, ◌≤◌, ◌+◌, List, [], ◌∷◌, ◌++◌, length, drop, refl, sym, ap}
use Rattle.std.proofs.Common.{subst, Contains, Some, None, arith, reverse, append-nil, append_assoc, Bool, true, false}
use Rattle.std.proofs.Common.{nat_lt, inl, inr, get_or, Option, slice_get, IfSome, rules}
use Rattle.std.proofs.lemmas.List.{reverse-append}
use Rattle.std.proofs.lemmas.List.Elements.{Contains-append_left, Contains-append_right, Contains-append_cases}
use Rattle.std.proofs.lemmas.Bool.{ltb-true, ltb-false}
use Rattle.jn_base.specs.declared.tree.Name.{Name}
use Rattle.jn_base.specs.declared.tree.Place.{Place}
use Rattle.jn_base.specs.declared.tree.Program.{Program}
use Rattle.jn_base.specs.declared.tree.Decl.{Decl}
use Rattle.jn_base.specs.declared.tree.Field.{Field}
use Rattle.jn_base.specs.declared.tree.Method.{Method}
use Rattle.jn_base.specs.declared.tree.Member.{Member, out-Member}
use Rattle.jn_base.specs.declared.tree.Member.TheOpen.{Member-F}
use Rattle.jn_base.specs.declared.tree.Member.TheVariants as member
use Rattle.jn_base.specs.declared.tree.Member.TheVariants.{outs-Inner, outs-Slot, outs-Body}
use Rattle.jn_base.specs.Paths.{Path, StandsAt, Declared, nested, and_nested}
use Rattle.jn_base.proofs.NameTests.{in_cons, in_none, first}
use Rattle.jn_homes.specs.Homes.{Finds, OnWay}
use Rattle.jn_homes.proofs.Places.{at_index}
use Rattle.jn_base.specs.Members.{IsHome}
use Rattle.jn_base.specs.Duplicates.{duplicates}
use Rattle.jn_base.proofs.Unique.{one_decl}

-- what stands around a declared path is declared
declared_up : (p : Program) (C D : Name) (P : Path) → Declared p (C ∷ D ∷ P) → Declared p (D ∷ P)
declared_up p C D P d = record { decl = d.stands.0.0; stands = (d.stands.0.1, d.stands.0.2) }

declared_behind : (p : Program) (C N : Name) (F P : Path) → Declared p (C ∷ (F ++ N ∷ P)) → Declared p (F ++ N ∷ P)
declared_behind p C N [] P d = declared_up p C N P d
declared_behind p C N (D ∷ F) P d = declared_up p C D (F ++ N ∷ P) d

-- where N ∷ P isn't declared, no longer path is
none_longer : (p : Program) (F : Path) (N : Name) (P : Path) → (Declared p (N ∷ P) → ⊥) → (k : ℕ) → k < length F + 1
    → Declared p (drop k (F ++ N ∷ P)) → ⊥
none_longer p [] N P not zero h d = not d
none_longer p [] N P not (suc k) h d = omega (arith, h)
none_longer p (C ∷ F) N P not zero h d = none_longer p F N P not 0 (omega arith) (declared_behind p C N F P d)
none_longer p (C ∷ F) N P not (suc k) h d = none_longer p F N P not k (omega (arith, h)) d

-- the declaration has no nested one of the name
not_nested : (p : Program) → duplicates p ≡ [] → (S : Path) (d : Decl) → StandsAt p S d → (N : Name)
    → ((e : Decl) → Contains (nested d.members) e → e.name.name ≡ N → ⊥) → Declared p (N ∷ S) → ⊥
not_nested p once [] d stands N none declared = stands
not_nested p once (C ∷ P) d stands N none declared =
    let inside = declared.stands.0 in
    let same : inside.0 ≡ d = one_decl p once (C ∷ P) inside.0 d (inside.1, inside.2) stands in
    none declared.decl (subst (λ (x : Decl). Contains (nested x.members) declared.decl) same inside.3) declared.stands.1

one_more : (n : ℕ) → suc n + 1 ≡ suc (n + 1)
one_more n = omega arith

drop_more : (k : ℕ) (C : Name) (P : Path) → drop (suc k) (C ∷ P) ≡ drop k P
drop_more k C P = refl

drop_front : (F : Path) (N : Name) (P : Path) → drop (length F + 1) (F ++ N ∷ P) ≡ P
drop_front [] N P = refl
drop_front (C ∷ F) N P =
    ap (λ (k : ℕ). drop k (C ∷ (F ++ N ∷ P))) (one_more (length F))
    ∙ (drop_more (length F + 1) C (F ++ N ∷ P) ∙ drop_front F N P)

pub stuck : (p : Program) → duplicates p ≡ [] → (F : Path) (N : Name) (S : Path) (d : Decl) → StandsAt p S d
    → ((e : Decl) → Contains (nested d.members) e → e.name.name ≡ N → ⊥) → IsHome p (F ++ N ∷ S) d.name.at
stuck p once F N S d stands none = record {
  off = length F + 1;
  decl = d;
  stands = subst (λ (R : Path). StandsAt p R d) (sym (drop_front F N S)) stands;
  longest = none_longer p F N S (not_nested p once S d stands N none);
  is = refl;
}

pub reached : (p : Program) (S : Path) (d : Decl) → StandsAt p S d → IsHome p S d.name.at
reached p S d stands = record { off = 0; decl = d; stands = stands; longest = λ k h declared. omega (arith, h); is = refl }

-- the first name is no top-level one
not_top : (p : Program) (N : Name) → ((e : Decl) → Contains p.decls e → e.name.name ≡ N → ⊥) → Declared p (N ∷ []) → ⊥
not_top p N none declared = none declared.decl declared.stands.0 declared.stands.1

drop_nothing : (k : ℕ) → drop {A = Name} k [] ≡ []
drop_nothing zero = refl
drop_nothing (suc k) = refl

past_end : (p : Program) (F : Path) (N : Name) (k : ℕ) → length F + 1 ≤ k → (d : Decl) → StandsAt p (drop k (F ++ N ∷ [])) d → ⊥
past_end p [] N zero h d stands = omega (arith, h)
past_end p [] N (suc k) h d stands = subst (λ (R : Path). StandsAt p R d) (drop_nothing k) stands
past_end p (C ∷ F) N zero h d stands = omega (arith, h)
past_end p (C ∷ F) N (suc k) h d stands = past_end p F N k (omega (arith, h)) d stands

pub nowhere : (p : Program) (F : Path) (N : Name) → ((e : Decl) → Contains p.decls e → e.name.name ≡ N → ⊥)
    → (at : Place) → IsHome p (F ++ N ∷ []) at → ⊥
nowhere p F N none at home = by_length (nat_lt home.off (length F + 1)) refl where
  by_length : (b : Bool) → nat_lt home.off (length F + 1) ≡ b → ⊥
  by_length true e =
      none_longer p F N [] (not_top p N none) home.off (ltb-true home.off (length F + 1) e)
      (record { decl = home.decl; stands = home.stands })
  by_length false e = past_end p F N home.off (ltb-false home.off (length F + 1) e) home.decl home.stands

-- ---- on the way down: S is what was passed, and `left` is still to be gone, the next name first

reverse_first : (x : Name) (xs : List Name) (P : Path) → reverse (x ∷ xs) ++ P ≡ reverse xs ++ x ∷ P
reverse_first x xs P = ap (λ (l : List Name). l ++ P) (reverse-append (x ∷ []) xs) ∙ append_assoc (reverse xs) (x ∷ []) P

pub on_way : (p : Program) (x : Name) (inner : List Name) (d : Decl) → Contains p.decls d → d.name.name ≡ x
    → OnWay p (reverse (x ∷ inner)) d inner
on_way p x inner d c e =
    record {
      passed = x ∷ [];
      whole = sym (append-nil (reverse (x ∷ inner)))
          ∙ reverse_first x inner [];
      stands = (c, e);
    }

pub further : (p : Program) (R : Path) (d e : Decl) (x : Name) (left : List Name) → OnWay p R d (x ∷ left)
    → Contains (nested d.members) e → e.name.name ≡ x → OnWay p R e left
further p R d e x left w c is = record {
  passed = x ∷ w.passed;
  whole = w.whole ∙ reverse_first x left w.passed;
  stands = by w.passed w.stands;
} where
  by : (S : Path) → StandsAt p S d → StandsAt p (x ∷ S) e
  by [] stands = absurd stands
  by (C ∷ P) stands = ((d, stands.0, stands.1, c), is)

pub stuck_here : (p : Program) → duplicates p ≡ [] → (R : Path) (d : Decl) (x : Name) (left : List Name) → OnWay p R d (x ∷ left)
    → ((e : Decl) → Contains (nested d.members) e → e.name.name ≡ x → ⊥) → IsHome p R d.name.at
stuck_here p once R d x left w none =
    subst (λ (Q : Path). IsHome p Q d.name.at) (sym (w.whole ∙ reverse_first x left w.passed))
    (stuck p once (reverse left) x w.passed d w.stands none)

pub reached_here : (p : Program) (R : Path) (d : Decl) (left : List Name) → left ≡ [] → OnWay p R d left → IsHome p R d.name.at
reached_here p R d left e w =
    subst (λ (Q : Path). IsHome p Q d.name.at) (sym (w.whole ∙ ap (λ (l : List Name). reverse l ++ w.passed) e))
    (reached p w.passed d w.stands)

pub nowhere_here : (p : Program) (x : Name) (inner : List Name)
    → ((e : Decl) → Contains p.decls e → e.name.name ≡ x → ⊥) → (at : Place) → IsHome p (reverse (x ∷ inner)) at → ⊥
nowhere_here p x inner none at home =
    nowhere p (reverse inner) x none at
    (subst (λ (Q : Path). IsHome p Q at) (sym (append-nil (reverse (x ∷ inner))) ∙ reverse_first x inner []) home)

pub nowhere_at : (p : Program) (ds : List Decl) (names ns : List Name) (d : Name) → ds ≡ p.decls → ns ≡ names → 1 ≤ length ns
    → ((e : Decl) → Contains ds e → e.name.name ≡ get_or ns 0 d → ⊥) → (at : Place) → IsHome p (reverse names) at → ⊥
nowhere_at p ds names [] d of same h none at home = omega (arith, h)
nowhere_at p ds names (x ∷ xs) d of same h none at home =
    nowhere_here p x xs (λ e c is. none e (subst (λ (l : List Decl). Contains l e) (sym of) c) is) at
    (subst (λ (l : List Name). IsHome p (reverse l) at) (sym same) home)

-- ---- declarations

pub undeclared_here : (p : Program) → duplicates p ≡ [] → (R : Path) (d : Decl) (x : Name) (left : List Name)
    → OnWay p R d (x ∷ left)
    → ((e : Decl) → Contains (nested d.members) e → e.name.name ≡ x → ⊥) → Declared p R → ⊥
undeclared_here p once R d x left w none declared =
    none_longer p (reverse left) x w.passed (not_nested p once w.passed d w.stands x none) 0 (omega arith)
    (subst (λ (Q : Path). Declared p Q) (w.whole ∙ reverse_first x left w.passed) declared)

pub declared_here : (p : Program) (R : Path) (d : Decl) (left : List Name) → left ≡ [] → OnWay p R d left → StandsAt p R d
declared_here p R d left e w =
    subst (λ (Q : Path). StandsAt p Q d) (sym (w.whole ∙ ap (λ (l : List Name). reverse l ++ w.passed) e)) w.stands

undeclared_top : (p : Program) (x : Name) (inner : List Name) → ((e : Decl) → Contains p.decls e → e.name.name ≡ x → ⊥)
    → Declared p (reverse (x ∷ inner)) → ⊥
undeclared_top p x inner none declared =
    none_longer p (reverse inner) x [] (not_top p x none) 0 (omega arith)
    (subst (λ (Q : Path). Declared p Q) (sym (append-nil (reverse (x ∷ inner))) ∙ reverse_first x inner []) declared)

pub undeclared_at : (p : Program) (ds : List Decl) (names ns : List Name) (d : Name) → ds ≡ p.decls → ns ≡ names → 1 ≤ length ns
    → ((e : Decl) → Contains ds e → e.name.name ≡ get_or ns 0 d → ⊥) → Declared p (reverse names) → ⊥
undeclared_at p ds names [] d of same h none declared = omega (arith, h)
undeclared_at p ds names (x ∷ xs) d of same h none declared =
    undeclared_top p x xs (λ e c is. none e (subst (λ (l : List Decl). Contains l e) (sym of) c) is)
    (subst (λ (l : List Name). Declared p (reverse l)) (sym same) declared)

pub program_undeclared : (p : Program) (names : List Name) → length names ≡ 0 → Declared p (reverse names) → ⊥
program_undeclared p [] e declared = declared.stands
program_undeclared p (x ∷ xs) e declared = omega (arith, e)

-- ---- the searches

pub other_number : (x y : Name) → (x.0 ≡ y.0 → ⊥) → x ≡ y → ⊥
other_number x y not e = not (ap (λ (n : Name). n.0) e)

-- the list, of which a front without the name was passed
pub record Searched (all left : List Decl) (x : Name) : Type 0 where
  pub front : List Decl
  pub split : all ≡ front ++ left
  pub none : (d : Decl) → Contains front d → d.name.name ≡ x → ⊥

pub searched_none : (all : List Decl) (x : Name) → Searched all all x
searched_none all x = record { front = []; split = refl; none = λ d c is. in_none d c }

pub searched_hit : (all left left' : List Decl) (d : Decl) (x : Name) → Searched all left x → left ≡ d ∷ left'
    → d.name.name ≡ x → Finds all x (Some d)
searched_hit all left left' d x s e is = (
  subst (λ (l : List Decl). Contains l d) (sym (s.split ∙ ap (λ (l : List Decl). s.front ++ l) e))
      (Contains-append_right s.front (d ∷ left') d (first d left')),
  is,
)

pub searched_next : (all left left' : List Decl) (d : Decl) (x : Name) → Searched all left x → left ≡ d ∷ left'
    → (d.name.name ≡ x → ⊥) → Searched all left' x
searched_next all left left' d x s e not = record {
  front = s.front ++ d ∷ [];
  split = s.split ∙ (ap (λ (l : List Decl). s.front ++ l) e ∙ sym (append_assoc s.front (d ∷ []) left'));
  none = λ f c is. elim (Contains-append_cases s.front (d ∷ []) f c) [
    | inl h ↦ s.none f h is
    | inr h ↦ elim (in_cons d [] f h) [ inl same ↦ not (ap (λ (y : Decl). y.name.name) same ∙ is) | inr h' ↦ in_none f h' ]
  ];
}

pub searched_all : (all left : List Decl) (x : Name) → Searched all left x → left ≡ [] → Finds all x None
searched_all all left x s e d c is =
    s.none d (subst (λ (l : List Decl). Contains l d)
    (s.split ∙ (ap (λ (l : List Decl). s.front ++ l) e ∙ append-nil s.front)) c) is

-- ---- members

pub inner_found : (m : Member) (d : Decl) (x : Name) → m ≡ member.Inner d → d.name.name ≡ x → Finds (nested (m ∷ [])) x (Some d)
inner_found m d x e is = (
  subst (λ (o : Member-F Member Decl). Contains (and_nested o []) d) (sym (ap out-Member e ∙ outs-Inner d))
      (first d []),
  is,
)

pub inner_other : (m : Member) (d : Decl) (x : Name) → m ≡ member.Inner d → (d.name.name ≡ x → ⊥) → Finds (nested (m ∷ [])) x None
inner_other m d x e not f c is =
    elim (in_cons d [] f (subst (λ (o : Member-F Member Decl). Contains (and_nested o []) f)
    (ap out-Member e ∙ outs-Inner d) c)) [
      | inl same ↦ not (ap (λ (y : Decl). y.name.name) same ∙ is)
      | inr h ↦ in_none f h
    ]

pub slot_none : (m : Member) (g : Field) (x : Name) → m ≡ member.Slot g → Finds (nested (m ∷ [])) x None
slot_none m g x e f c is =
    in_none f (subst (λ (o : Member-F Member Decl). Contains (and_nested o []) f) (ap out-Member e ∙ outs-Slot g) c)

pub body_none : (m : Member) (g : Method) (x : Name) → m ≡ member.Body g → Finds (nested (m ∷ [])) x None
body_none m g x e f c is =
    in_none f (subst (λ (o : Member-F Member Decl). Contains (and_nested o []) f) (ap out-Member e ∙ outs-Body g) c)

and_behind : (o : Member-F Member Decl) (ds : List Decl) → and_nested o ds ≡ and_nested o [] ++ ds
and_behind (Member-F.Inner d) ds = refl
and_behind (Member-F.Slot f) ds = refl
and_behind (Member-F.Body f) ds = refl

-- the declarations of the members passed, and of those left
pub record SearchedMembers (all left : List Member) (x : Name) : Type 0 where
  pub front : List Decl
  pub split : nested all ≡ front ++ nested left
  pub none : (d : Decl) → Contains front d → d.name.name ≡ x → ⊥

pub members_none : (all : List Member) (x : Name) → SearchedMembers all all x
members_none all x = record { front = []; split = refl; none = λ d c is. in_none d c }

module _ (all : List Member) (i : ℕ) (m : Member) (x : Name) where
  opened : SearchedMembers all (drop i all) x → i < length all → m ≡ get_or all i m → (s : SearchedMembers all (drop i all) x)
      → nested all ≡ s.front ++ (nested (m ∷ []) ++ nested (drop (i + 1) all))
  opened t h e s =
      s.split ∙ ap (λ (ds : List Decl). s.front ++ ds)
      (ap nested (at_index all i m h e) ∙ and_behind (out-Member m) (nested (drop (i + 1) all)))

  pub members_hit : (d : Decl) → SearchedMembers all (drop i all) x → i < length all → m ≡ get_or all i m
      → Finds (nested (m ∷ [])) x (Some d) → Finds (nested all) x (Some d)
  members_hit d s h e found = (
    subst (λ (ds : List Decl). Contains ds d) (sym (opened s h e s))
        (Contains-append_right s.front (nested (m ∷ []) ++ nested (drop (i + 1) all)) d
        (Contains-append_left (nested (m ∷ [])) (nested (drop (i + 1) all)) d found.0)),
    found.1,
  )

  pub members_next : SearchedMembers all (drop i all) x → i < length all → m ≡ get_or all i m
      → Finds (nested (m ∷ [])) x None → SearchedMembers all (drop (i + 1) all) x
  members_next s h e none = record {
    front = s.front ++ nested (m ∷ []);
    split = opened s h e s ∙ sym (append_assoc s.front (nested (m ∷ [])) (nested (drop (i + 1) all)));
    none =
        λ d c is. elim (Contains-append_cases s.front (nested (m ∷ [])) d c)
        [ inl h' ↦ s.none d h' is | inr h' ↦ none d h' is ];
  }

pub members_all : (all left : List Member) (x : Name) → SearchedMembers all left x → left ≡ [] → Finds (nested all) x None
members_all all left x s e d c is =
    s.none d (subst (λ (l : List Decl). Contains l d)
    (s.split ∙ (ap (λ (l : List Member). s.front ++ nested l) e ∙ append-nil s.front)) c) is

-- what a member declares is nested
nested_here : (ms : List Member) (k : ℕ) (m : Member) (d : Decl) → slice_get ms k ≡ Some m → Contains (nested (m ∷ [])) d
    → Contains (nested ms) d
nested_here [] k m d e c = cc
nested_here (y ∷ ms) zero m d e c =
    let same : y ≡ m = here e in
    subst (λ (ds : List Decl). Contains ds d) (sym (and_behind (out-Member y) (nested ms)))
    (Contains-append_left (nested (y ∷ [])) (nested ms) d
    (subst (λ (z : Member). Contains (nested (z ∷ [])) d) (sym same) c)) where
      here : Some y ≡ Some m → y ≡ m
      here e = cc
nested_here (y ∷ ms) (suc k) m d e c =
    subst (λ (ds : List Decl). Contains ds d) (sym (and_behind (out-Member y) (nested ms)))
    (Contains-append_right (nested (y ∷ [])) (nested ms) d (nested_here ms k m d e c))

pub named_here : (ms : List Member) (k : ℕ) (m : Member) (x : Name) (o : Option Decl) → slice_get ms k ≡ Some m
    → Finds (nested (m ∷ [])) x o → IfSome o (λ d. Contains (nested ms) d × (d.name.name ≡ x))
named_here ms k m x None e f = search rules
named_here ms k m x (Some d) e f = search (rules, nested_here ms k m d e f.0, f.1)

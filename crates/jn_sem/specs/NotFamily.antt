-- The names of families in the lists of declarations, and which of them are refused.
use Rattle.std.specs.Prelude.{◌≡◌, List, [], ◌∷◌, ◌++◌, map, Contains, Some, None}
use Rattle.jn_base.specs.declared.tree.Name.{Name}
use Rattle.jn_base.specs.declared.tree.Named.{Named}
use Rattle.jn_base.specs.declared.tree.Program.{Program}
use Rattle.jn_base.specs.declared.tree.Decl.{Decl, fold-Decl}
use Rattle.jn_base.specs.declared.tree.Member.{Member, fold-Member}
use Rattle.jn_base.specs.declared.tree.Member.TheOpen.{Member-F, Decl-F}
use Rattle.jn_base.specs.declared.refusal.Refusal.{Refusal}
use Rattle.jn_base.specs.declared.refusal.Rule.TheVariants as rule
use Rattle.jn_base.specs.Paths.{Path, shown}
use Rattle.jn_base.specs.Supers.{Sup}
use Rattle.jn_base.specs.Universe.{InUniverse}
use Rattle.jn_sem.specs.Sharing.{IsClass, family_of, in_family}

-- ---- the listed names

-- in which list: `adapts` of a top-level declaration, or `shares` of a nested one
pub data Listing : Type 0 where
  adapting : Listing
  sharing : Listing

-- a listed name, with the path of the declaration that has the list
pub record Listed : Type 0 where
  pub at : Path
  pub listing : Listing
  pub name : Named

abbrev pub in_list : Path → Listing → Named → Listed
in_list R l n = record { at = R; listing = l; name = n }

-- the listed names of a tree, by the path of its namespace
abbrev pub ListedBy : Type 0
ListedBy = Path → List Listed

abbrev pub listed_by : Path → List ListedBy → List Listed
listed_by R [] = []
listed_by R (f ∷ fs) = f R ++ listed_by R fs

-- of a declaration of this name itself
abbrev pub own_listed : Name → List Named → List Named → ListedBy
own_listed C shares adapts [] = map (in_list (C ∷ []) adapting) adapts
own_listed C shares adapts (D ∷ P) = map (in_list (C ∷ (D ∷ P)) sharing) shares

abbrev pub member_step : Member-F ListedBy ListedBy → ListedBy
member_step (Member-F.Inner d) R = d R
member_step (Member-F.Slot f) R = []
member_step (Member-F.Body m) R = []

abbrev pub decl_step : Decl-F ListedBy ListedBy → ListedBy
decl_step d P = own_listed d.name.name d.shares d.adapts P ++ listed_by (d.name.name ∷ P) d.members

unfoldable pub listed_in_member : Member → ListedBy
listed_in_member = fold-Member ListedBy ListedBy member_step decl_step

unfoldable pub listed_in_decl : Decl → ListedBy
listed_in_decl = fold-Decl ListedBy ListedBy member_step decl_step

-- the listed names of a program in source order; those of a declaration come before those in its body
abbrev pub listed_names : Program → List Listed
listed_names p = listed_by [] (map listed_in_decl p.decls)

-- ---- which of them are refused

-- the family A is a super of the family X, and another one
pub record IsStrictSuper (p : Program) (X A : Name) : Type 0 where
  pub super : Sup p (X ∷ []) (A ∷ [])
  pub other : X ≡ A → ⊥

-- what the name in the list lacks: its family is no strict super, or has no class to share with
pub data Lacks (p : Program) (x : Listed) : Type 0 where
  no_super : (X : Name) → family_of x.at ≡ Some X → (IsStrictSuper p X x.name.name → ⊥) → Lacks p x
  no_class : x.listing ≡ sharing → (IsClass p (in_family x.name.name x.at) → ⊥) → Lacks p x

-- A listed name is refused where it is a top-level name and lacks one of the two. One that is no top-level name is refused
-- by another rule.
pub record IsNotFamily (p : Program) (x : Listed) : Type 0 where
  pub top : InUniverse p (x.name.name ∷ [])
  pub lacks : Lacks p x

-- at the place of the name, with the path of the declaration that has the list
abbrev pub not_family : Listed → Refusal
not_family x = record { rule = rule.E12; at = x.name.at; class = Some (shown x.at); member = None; limit = None }

-- r is the refusal of the first one
pub record IsFirstNotFamily (p : Program) (r : Refusal) : Type 0 where
  pub before : List Listed
  pub at : Listed
  pub after : List Listed
  pub split : listed_names p ≡ before ++ at ∷ after
  pub passed : (y : Listed) → Contains before y → IsNotFamily p y → ⊥
  pub is : IsNotFamily p at
  pub shows : r ≡ not_family at

-- none is refused
abbrev pub AreFamilies : Program → Type 0
AreFamilies p = (x : Listed) → Contains (listed_names p) x → IsNotFamily p x → ⊥

-- Example: of `package a { }` and `package x adapts a { }` the name `a` in the list of x is refused, since x doesn't extend a.
-- With `package x extends a adapts a { }` it is not, nor is `b` with `package x adapts b { }` where no b is declared.
-- Of `package a { class C { } }` and `package x extends a { class C shares a { } class D shares a { } }` the name `a` in the list
-- of x.D is refused, since a has no class D.

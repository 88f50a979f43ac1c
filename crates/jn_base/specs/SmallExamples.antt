-- Small programs that show one rule each.
use Rattle.std.specs.Prelude.{◌≡◌, ℕ, List, [], ◌∷◌, ◌↔◌, ◌⊎◌, codes}
use Rattle.jn_base.specs.declared.tree.Name.{Name}
use Rattle.jn_base.specs.declared.tree.Text.{Text}
use Rattle.jn_base.specs.declared.tree.Kind.TheVariants as kind
use Rattle.jn_base.specs.declared.tree.Decl.{Decl}
use Rattle.jn_base.specs.declared.tree.Program.{Program}
use Rattle.jn_base.specs.Paths.{Path}
use Rattle.jn_base.specs.Supers.{Direct, IsOwnSuper}
use Rattle.jn_base.specs.Universe.{InUniverse}
use Rattle.jn_base.specs.Members.{IsHome, HasTwoKinds, Least}
use Rattle.jn_base.specs.ExampleTrees.{name, line, inner, package_at, class_in, method, program}

-- ---- a top-level intersection, and a method without a least declaration

abbrev pub a : Name
a = name 0

abbrev pub b : Name
b = name 1

abbrev pub c : Name
c = name 2

abbrev pub d : Name
d = name 3

abbrev pub E : Name
E = name 4

abbrev pub n : Name
n = name 5

-- package a { class E { int n() { .. } } }
-- package b extends a { class E { int n() { .. } } }
-- package c extends a { class E { int n() { .. } } }
abbrev pub three : List Decl → List Decl
three rest =
    package_at 1 a [] (class_in E [] (method n ∷ []) ∷ [])
    ∷ package_at 2 b (a ∷ []) (class_in E [] (method n ∷ []) ∷ [])
    ∷ package_at 3 c (a ∷ []) (class_in E [] (method n ∷ []) ∷ []) ∷ rest

-- package d extends b & c { }
abbrev pub conflicting : Program
conflicting = program (three (package_at 4 d (b ∷ c ∷ []) [] ∷ []))

-- package d extends b & c { class E { int n() { .. } } }
abbrev pub settled : Program
settled = program (three (package_at 4 d (b ∷ c ∷ []) (class_in E [] (method n ∷ []) ∷ []) ∷ []))

pub record ConflictExample : Type 0 where
  -- the direct supers of d are b and c, and those of d.E are b.E and c.E
  pub joins : (S : Path) → Direct conflicting (d ∷ []) S ↔ ((S ≡ b ∷ []) ⊎ (S ≡ c ∷ []))
  pub joins_inside : (S : Path) → Direct conflicting (E ∷ d ∷ []) S ↔ ((S ≡ E ∷ b ∷ []) ⊎ (S ≡ E ∷ c ∷ []))
  -- d.E has two methods n, neither of which is above the other: there is no least one
  pub class : InUniverse conflicting (E ∷ d ∷ [])
  pub conflict : (Q : Path) → Least conflicting (E ∷ d ∷ []) n Q → ⊥
  -- where d.E has its own, that one is least
  pub settled_by_heir : Least settled (E ∷ d ∷ []) n (E ∷ d ∷ [])

-- ---- a cycle that only an intersection has
--   package A { class C extends D { } class D { } }
--   package B { class C { } class D extends C { } }
--   package AB extends A & B { }

abbrev pub A : Name
A = name 0

abbrev pub B : Name
B = name 1

abbrev pub AB : Name
AB = name 2

abbrev pub C : Name
C = name 3

abbrev pub D : Name
D = name 4

abbrev pub text : List ℕ → Text
text bytes = record { bytes = bytes }

abbrev pub circular : Program
circular = record {
  names = text (codes "A") ∷ text (codes "B") ∷ text (codes "AB") ∷ text (codes "C") ∷ text (codes "D") ∷ [];
  texts = [];
  decls =
      package_at 1 A [] (class_in C (D ∷ []) [] ∷ class_in D [] [] ∷ [])
      ∷ package_at 2 B [] (class_in C [] [] ∷ class_in D (C ∷ []) [] ∷ [])
      ∷ package_at 3 AB (A ∷ B ∷ []) [] ∷ [];
}

pub record CycleExample : Type 0 where
  -- AB.C has the super AB.D by A's text, and AB.D has AB.C by B's
  pub class : InUniverse circular (C ∷ AB ∷ [])
  pub cycle : IsOwnSuper circular (C ∷ AB ∷ [])
  -- no declaration stands at AB.C: its home is the name of AB
  pub home : IsHome circular (C ∷ AB ∷ []) (line 3)

-- ---- a class and a package of one name
--   package a { class C { } }
--   package b extends a { package C { } }

abbrev pub mixed : Program
mixed = program (
    package_at 1 a [] (class_in C [] [] ∷ [])
    ∷ package_at 2 b (a ∷ []) (inner kind.Package 3 C [] [] ∷ []) ∷ [])

pub record MixedExample : Type 0 where
  pub class : InUniverse mixed (C ∷ b ∷ [])
  pub kinds : HasTwoKinds mixed (C ∷ b ∷ [])
  pub home : IsHome mixed (C ∷ b ∷ []) (line 3)

-- ---- members that only an intersection has
--   package b { class X { class U { } } }
--   package c { class X { class V { } } }
--   package d extends b & c { }

abbrev pub X : Name
X = name 6

abbrev pub U : Name
U = name 7

abbrev pub V : Name
V = name 8

abbrev pub joined : Program
joined = program (
    package_at 1 b [] (class_in X [] (class_in U [] [] ∷ []) ∷ [])
    ∷ package_at 2 c [] (class_in X [] (class_in V [] [] ∷ []) ∷ [])
    ∷ package_at 3 d (b ∷ c ∷ []) [] ∷ [])

pub record JoinedExample : Type 0 where
  pub has_u : InUniverse joined (U ∷ X ∷ d ∷ [])
  pub has_v : InUniverse joined (V ∷ X ∷ d ∷ [])
  pub not_v : InUniverse joined (V ∷ X ∷ b ∷ []) → ⊥
  pub not_u : InUniverse joined (U ∷ X ∷ c ∷ []) → ⊥

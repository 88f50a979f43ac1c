-- The names that declarations have.
use Rattle.std.specs.Prelude.{◌≡◌, ◌↔◌, ◌⊎◌, ℕ, List, Contains, slice_get, Some, Any}
use Rattle.std.specs.declared.vec.Vec.{Vec}
use Rattle.std.specs.declared.alloc.Global.{Global}
use Rattle.jn_reach.specs.Each.{Each}
use Rattle.jn_reach.specs.Graph.{Graph, Lists}
use Rattle.jn_base.specs.declared.tree.Name.{Name}
use Rattle.jn_base.specs.declared.tree.Kind.{Kind}
use Rattle.jn_base.specs.Paths.{Path}
use Rattle.jn_table.specs.declared.entry.Entry.{Entry}
use Rattle.jn_table.specs.declared.gather.Part.{Part}
use Rattle.jn_table.specs.declared.gather.Part.TheVariants as part

-- the things that were there, and those of which S holds
abbrev pub Gains : {A : Type 0} → (A → Type 0) → List A → List A → Type 0
Gains {A} S before after = (x : A) → Contains after x ↔ (Contains before x ⊎ S x)

abbrev pub part_of : Part → Entry → List Name
part_of part.Extends e = e.extends
part_of part.Methods e = e.methods
part_of part.Fields e = e.fields

-- the entry is a declaration of C in the namespace P
abbrev pub Declares : Path → Name → Entry → Type 0
Declares P C e = (e.name ≡ C) × (e.namespace ≡ P)

-- and D is one of its names of that part
abbrev pub HasPart : Path → Name → Part → Name → Entry → Type 0
HasPart P C part D e = (e.name ≡ C) × (e.namespace ≡ P) × Contains (part_of part e) D

abbrev pub IsPart : List Entry → Path → Name → Part → Name → Type 0
IsPart es P C part D = Any (HasPart P C part D) es

-- a declaration of C in the namespace of that number has D
abbrev pub PartAt : List Entry → List Path → Name → Part → Name → ℕ → Type 0
PartAt es paths C part D at = (P : Path) × (slice_get paths at ≡ Some P) × IsPart es P C part D

-- a declaration of D stands in the namespace
abbrev pub DeclaresIn : List Entry → Path → Name → Type 0
DeclaresIn es P D = Any (Declares P D) es

-- in the namespace of that number
abbrev pub MemberAt : List Entry → List Path → Name → ℕ → Type 0
MemberAt es paths D at = (P : Path) × (slice_get paths at ≡ Some P) × DeclaresIn es P D

-- in the namespace of one of those numbers
abbrev pub PartsAt : List Entry → List Path → Name → Part → List ℕ → Name → Type 0
PartsAt es paths C part numbers D = Any (PartAt es paths C part D) numbers

abbrev pub MembersAt : List Entry → List Path → List ℕ → Name → Type 0
MembersAt es paths numbers D = Any (MemberAt es paths D) numbers

-- a declaration at the path R has the name D in that part, is of that kind
abbrev pub OwnIn : List Entry → Path → Part → Name → Type 0
OwnIn es R part D = Any (λ e. (e.path ≡ R) × Contains (part_of part e) D) es

abbrev pub KindIn : List Entry → Path → Kind → Type 0
KindIn es R kind = Any (λ e. (e.path ≡ R) × (e.kind ≡ kind)) es

-- the entry of that number stands in the namespace P
abbrev pub StandsInside : List Entry → Path → ℕ → Type 0
StandsInside es P i = (e : Entry) × (slice_get es i ≡ Some e) × (e.namespace ≡ P)

-- for each path the numbers of the entries that stand in it
abbrev pub AreInside : List Entry → List Path → Graph → Type 0
AreInside es paths rows = Each (λ P row. Lists (StandsInside es P) row.items) paths rows

-- the entry of that number is at the path R
abbrev pub IsAtPath : List Entry → Path → ℕ → Type 0
IsAtPath es R i = (e : Entry) × (slice_get es i ≡ Some e) × (e.path ≡ R)

-- for each path the numbers of the entries that are at it
abbrev pub AreAtPaths : List Entry → List Path → Graph → Type 0
AreAtPaths es paths rows = Each (λ R row. Lists (IsAtPath es R) row.items) paths rows

-- the entry of that number is of that kind, has the name D in that part
abbrev pub IsKindAt : List Entry → Kind → ℕ → Type 0
IsKindAt es kind i = (e : Entry) × (slice_get es i ≡ Some e) × (e.kind ≡ kind)

abbrev pub HasNameAt : List Entry → Part → Name → ℕ → Type 0
HasNameAt es part D i = (e : Entry) × (slice_get es i ≡ Some e) × Contains (part_of part e) D

-- the entry of that number is a declaration of C, and has D
abbrev pub PartOf : List Entry → Name → Part → Name → ℕ → Type 0
PartOf es C part D i = (e : Entry) × (slice_get es i ≡ Some e) × (e.name ≡ C) × Contains (part_of part e) D

-- one of those numbers
abbrev pub PartAmong : List Entry → Name → Part → List ℕ → Name → Type 0
PartAmong es C part row D = Any (PartOf es C part D) row

-- one of the numbers of the n-th row
pub record PartIn (es : List Entry) (C : Name) (part : Part) (inside : Graph) (D : Name) (n : ℕ) : Type 0 where
  pub row : Vec ℕ Global
  pub at : slice_get inside n ≡ Some row
  pub has : PartAmong es C part row.items D

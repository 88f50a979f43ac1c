-- The listed names as the code has them, and what is refused of them.
use Rattle.std.specs.Prelude.{◌≡◌, ◌↔◌, List, [], ◌∷◌, ◌++◌, map, reverse, Bool, IsTrue, Some, Result, Ok, Err}
use Rattle.jn_base.specs.declared.tree.Name.{Name}
use Rattle.jn_base.specs.declared.tree.Named.{Named}
use Rattle.jn_base.specs.declared.tree.Program.{Program}
use Rattle.jn_base.specs.declared.refusal.Refusal.{Refusal}
use Rattle.jn_base.specs.Paths.{Path}
use Rattle.jn_table.specs.declared.table.Table.{Table}
use Rattle.jn_table.specs.Tables.{IsFilled}
use Rattle.jn_sem.specs.Sharing.{IsClass, family_of, in_family}
use Rattle.jn_sem.specs.NotFamily.{Listing, adapting, sharing, Listed, in_list, Lacks, IsStrictSuper, IsNotFamily, IsFirstNotFamily, AreFamilies}
use Rattle.jn_share.specs.declared.listed.InList.{InList}
use Rattle.jn_share.specs.declared.listed.InList.TheVariants as list
use Rattle.jn_share.specs.declared.listed.ListedName.{ListedName}
use Rattle.jn_share.specs.declared.fault.ShareFault.{ShareFault}
use Rattle.jn_share.specs.declared.fault.ShareFault.TheVariants.{Refused, Memory}

abbrev pub listing_of : InList → Listing
listing_of list.Adapts = adapting
listing_of list.Shares = sharing

abbrev pub listed_of : ListedName → Listed
listed_of x = record { at = reverse x.at.names; listing = listing_of x.list; name = x.name }

-- behind the names that were there stand these
abbrev pub AddsListed : List ListedName → List ListedName → List Listed → Type 0
AddsListed before after xs = map listed_of after ≡ map listed_of before ++ xs

-- the refusal, or want of memory
abbrev pub IsFault : ShareFault → Refusal → Type 0
IsFault (Refused r) q = r ≡ q
IsFault Memory q = Unit {0}

-- no listed name is refused, or it is the first one's refusal
abbrev pub PassesOr : Program → Result (Unit {0}) ShareFault → Type 0
PassesOr p (Ok u) = AreFamilies p
PassesOr p (Err (Refused r)) = IsFirstNotFamily p r
PassesOr p (Err Memory) = Unit {0}

-- the family that is above is another one and a super of that of the path
abbrev pub SaysStrict : Table → List Name → Path → Bool → Type 0
SaysStrict t names above told = (p : Program) (X A : Name) → IsFilled p t → family_of (reverse names) ≡ Some X → above ≡ A ∷ []
    → IsTrue told ↔ IsStrictSuper p X A

-- the list of the declaration at that path is one of `shares`, and the class to share with is none
abbrev pub SaysNoClass : Table → List Name → InList → Name → Bool → Type 0
SaysNoClass t names list name told = (p : Program) → IsFilled p t
    → IsTrue told ↔ ((listing_of list ≡ sharing) × (IsClass p (in_family name (reverse names)) → ⊥))

-- the name in the list of the declaration at that path lacks what a family in it must have
abbrev pub SaysLacks : Table → List Name → InList → Named → Bool → Type 0
SaysLacks t names list name told = (p : Program) (X : Name) → IsFilled p t → family_of (reverse names) ≡ Some X
    → IsTrue told ↔ Lacks p (in_list (reverse names) (listing_of list) name)

-- the listed name is refused
abbrev pub SaysRefused : Table → ListedName → Bool → Type 0
SaysRefused t x told = (p : Program) (X : Name) → IsFilled p t → family_of (reverse x.at.names) ≡ Some X
    → IsTrue told ↔ IsNotFamily p (listed_of x)

-- The first of a list, and the names that were seen before, in their order or in another.
use Rattle.std.specs.Prelude.{◌≡◌, ℕ, Bool, nat_eq, List, [], ◌∷◌, Option, Some, None, Result, Ok, Err, ⊤}
use Rattle.std.specs.List.{list_any}
use Rattle.jn_base.specs.declared.tree.Name.{Name}
use Rattle.jn_base.specs.Duplicates.{Given, Space, of_decls, of_fields, of_methods, has_name}
use Rattle.jn_header.specs.declared.twice.Seen.{Seen}

abbrev pub first : {A : Type 0} → List A → Option A
first [] = None
first (x ∷ xs) = Some x

-- P, where nothing was found
abbrev pub IfPassed : {A E : Type 0} → Result (Option A) E → Type 0 → Type 0
IfPassed (Ok None) P = P
IfPassed (Ok (Some x)) P = ⊤
IfPassed (Err e) P = ⊤

-- the same names, in whatever order
abbrev pub SameNames : List Name → List Name → Type 0
SameNames xs ys = (n : Name) → has_name xs n ≡ has_name ys n

-- the number of the name is among these
abbrev pub has_number : List ℕ → Name → Bool
has_number numbers n = list_any (nat_eq n.0) numbers

-- the name of a member was seen in its name space
abbrev pub seen_in : Seen → Space → Name → Bool
seen_in s of_decls n = has_number s.decls.keys n
seen_in s of_fields n = has_number s.fields.keys n
seen_in s of_methods n = has_number s.methods.keys n

abbrev pub in_seen : Seen → Given → Bool
in_seen s g = seen_in s g.space g.name.name

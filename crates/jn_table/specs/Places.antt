-- The known paths in an order in which one is found by halves.
use Rattle.std.specs.Prelude.{◌≡◌, ℕ, List, Contains, Some, length, map, reverse, slice_get}
use Rattle.std.specs.declared.cmp.Ordering.{Ordering}
use Rattle.std.specs.Ordering.{nat_cmp, on}
use Rattle.std.specs.Cmp.{IsTotalOrder, on_total}
use Rattle.std.specs.Cmp.Lexicographic.{slice_cmp, nat_list_cmp_total}
use Rattle.std.specs.List.Sorted.{IsSorted}
use Rattle.jn_base.specs.declared.tree.Name.{Name}
use Rattle.jn_base.specs.declared.path.Path.{Path as ShownPath}
use Rattle.jn_base.specs.Paths.{Path}
use Rattle.jn_table.specs.declared.finding.Located.{Located}

abbrev pub name_number : Name → ℕ
name_number n = n.0

abbrev pub name_numbers : List Name → List ℕ
name_numbers names = map name_number names

-- the numbers of a path's names, the outermost first
abbrev pub path_key : Path → List ℕ
path_key R = name_numbers (reverse R)

abbrev pub located_numbers : Located → List ℕ
located_numbers l = name_numbers l.names

-- by the numbers of the names, from the outermost on
abbrev pub located_cmp : Located → Located → Ordering
located_cmp = on located_numbers (slice_cmp nat_cmp)

pub located_total : IsTotalOrder located_cmp
located_total = on_total located_numbers nat_list_cmp_total

-- the path of it
abbrev pub located_path : Located → ShownPath
located_path l = record { names = l.names }

-- the first n paths with their numbers, in the order of these
pub record AreLocated (known : List ShownPath) (n : ℕ) (all : List Located) : Type 0 where
  pub long : length all ≡ n
  pub each : (k : ℕ) (l : Located) → slice_get all k ≡ Some l
      → (l.id.0 ≡ k) × (slice_get known k ≡ Some (located_path l))

-- each is a path with its number, no path is without one, and they are in order
pub record ArePlaces (known : List ShownPath) (places : List Located) : Type 0 where
  pub sound : (l : Located) → Contains places l → slice_get known l.id.0 ≡ Some (located_path l)
  pub complete : (k : ℕ) (q : ShownPath) → slice_get known k ≡ Some q
      → ((l : Located) → Contains places l → located_path l ≡ q → ⊥) → ⊥
  pub sorted : IsSorted located_cmp places

-- The class order.
use Rattle.std.specs.Prelude.{◌≡◌, ◌<◌, ℕ, List, length, reverse, slice_get, Some, All}
use Rattle.std.specs.declared.cmp.Ordering.{Ordering}
use Rattle.std.specs.declared.cmp.Ordering.TheVariants.{Less}
use Rattle.std.specs.Ordering.{nat_cmp, on, then_cmp}
use Rattle.std.specs.Cmp.{IsTotalOrder, then_total, on_total, nat_cmp_total}
use Rattle.std.specs.Cmp.Lexicographic.{slice_cmp, lists_total, nat_list_cmp_total}
use Rattle.jn_base.specs.declared.tree.Name.{Name}
use Rattle.jn_base.specs.declared.tree.Text.{Text}
use Rattle.jn_base.specs.declared.tree.Program.{Program}
use Rattle.jn_base.specs.Paths.{Path}
use Rattle.jn_base.specs.NameTexts.{name_text}

-- the bytes of a name, none where the program has no such name
abbrev pub name_bytes : Program → Name → List ℕ
name_bytes p n = name_text p.names n

-- names are ordered by their bytes
abbrev pub name_cmp : Program → Name → Name → Ordering
name_cmp p = on (name_bytes p) (slice_cmp nat_cmp)

-- shorter paths first, and paths of one length name by name, from the outermost, by bytes
abbrev pub class_cmp : Program → Path → Path → Ordering
class_cmp p = then_cmp (on length nat_cmp) (on reverse (slice_cmp (name_cmp p)))

pub name_total : (p : Program) → IsTotalOrder (name_cmp p)
name_total p = on_total (name_bytes p) nat_list_cmp_total

pub class_total : (p : Program) → IsTotalOrder (class_cmp p)
class_total p = then_total (on_total length nat_cmp_total) (on_total reverse (lists_total (name_total p)))

-- P comes before Q in the class order
abbrev pub Before : Program → Path → Path → Type 0
Before p P Q = class_cmp p P Q ≡ Less

-- equal names have one number
abbrev pub HasDistinctNames : Program → Type 0
HasDistinctNames p = (i j : ℕ) (a b : Text) → slice_get p.names i ≡ Some a → slice_get p.names j ≡ Some b → a.bytes ≡ b.bytes → i ≡ j

-- each name of the path is one of the program's
abbrev pub HasItsNames : Program → Path → Type 0
HasItsNames p P = All (λ n. n.0 < length p.names) P

-- R is the first path in class order of which T holds
pub record IsFirst (p : Program) (T : Path → Type 0) (R : Path) : Type 0 where
  pub holds : T R
  pub first : (Q : Path) → T Q → Before p Q R → ⊥

-- The declared names in the order of their bytes.
use Rattle.std.specs.Prelude.{◌≡◌, ◌↔◌, ℕ, List, slice_get, Contains}
use Rattle.std.specs.declared.cmp.Ordering.{Ordering}
use Rattle.std.specs.Ordering.{nat_cmp, on, then_cmp}
use Rattle.std.specs.Cmp.{IsTotalOrder, then_total, on_total, nat_cmp_total}
use Rattle.std.specs.Cmp.Lexicographic.{slice_cmp, nat_list_cmp_total}
use Rattle.std.specs.List.Sorted.{IsStrictlySortedBy}
use Rattle.jn_base.specs.declared.tree.Name.{Name}
use Rattle.jn_base.specs.declared.tree.Text.{Text}
use Rattle.jn_base.specs.NameTexts.{bytes_of}
use Rattle.jn_table.specs.declared.entry.Entry.{Entry}
use Rattle.jn_table.specs.declared.order.Spelled.{Spelled}

abbrev pub spelled_bytes : Spelled → List ℕ
spelled_bytes s = s.bytes

abbrev pub spelled_number : Spelled → ℕ
spelled_number s = s.number

-- by the bytes, then by the number
abbrev pub spelled_cmp : Spelled → Spelled → Ordering
spelled_cmp = then_cmp (on spelled_bytes (slice_cmp nat_cmp)) (on spelled_number nat_cmp)

pub spelled_total : IsTotalOrder spelled_cmp
spelled_total = then_total (on_total spelled_bytes nat_list_cmp_total) (on_total spelled_number nat_cmp_total)

abbrev pub spelled_name : Spelled → Name
spelled_name s = record { 0 = s.number }

-- a name with the bytes that it has among those texts
abbrev pub spelling : List Text → Name → Spelled
spelling texts n = record { bytes = bytes_of (slice_get texts n.0); number = n.0 }

abbrev pub SpelledOf : List Text → Name → Spelled → Type 0
SpelledOf texts n s = s ≡ spelling texts n

-- by their bytes, and by their numbers where the bytes are the same
abbrev pub order_cmp : List Text → Name → Name → Ordering
order_cmp texts = on (spelling texts) spelled_cmp

abbrev pub entry_name : Entry → Name
entry_name e = e.name

-- the names in order, each once
pub record IsOrderOf (texts : List Text) (names order : List Name) : Type 0 where
  pub exact : (C : Name) → Contains order C ↔ Contains names C
  pub in_order : IsStrictlySortedBy (order_cmp texts) order

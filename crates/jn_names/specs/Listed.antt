-- For each name the classes whose declarations have it, by the rows of members.
use Rattle.std.specs.Prelude.{◌≡◌, ℕ, Bool, false, nat_eq, List, slice_get}
use Rattle.std.specs.List.{list_any}
use Rattle.std.specs.Option.{option_map_or}
use Rattle.jn_table.specs.declared.class.ClassId.{ClassId}
use Rattle.jn_names.specs.declared.member_row.MemberRow.{MemberRow}
use Rattle.jn_names.specs.Ascending.{Ascend}
use Rattle.jn_names.specs.ByName.{Lists, kept_at, is_kept}

abbrev pub method_keys : MemberRow → List ℕ
method_keys row = row.methods.keys

abbrev pub field_keys : MemberRow → List ℕ
field_keys row = row.fields.keys

abbrev pub has_key : (MemberRow → List ℕ) → ℕ → MemberRow → Bool
has_key keys m row = list_any (nat_eq m) (keys row)

-- the row at a place has the name; none where there is no row
abbrev pub row_has : (MemberRow → List ℕ) → List MemberRow → ℕ → ℕ → Bool
row_has keys rows m k = option_map_or (has_key keys m) (slice_get rows k) false

-- at each name exactly the numbers of the rows that have it, in ascending order
pub record AreListed (keys : MemberRow → List ℕ) (rows : List MemberRow) (lists : Lists) : Type 0 where
  pub exact : (m : ℕ) (s : ClassId) → is_kept (kept_at lists m) s ≡ row_has keys rows m s.0
  pub ascend : (m : ℕ) → Ascend (kept_at lists m)

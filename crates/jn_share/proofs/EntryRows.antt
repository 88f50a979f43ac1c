-- The entries of a path are those of its row, and of its group where it is a class.
use Rattle.std.proofs.Common.{◌≡◌, ◌<◌, ◌≤◌, ◌+◌, ◌⊎◌, inl, inr, ℕ, List, [], length, Contains, refl, sym, ap, ◌∙◌, subst, arith}
use Rattle.std.proofs.lemmas.Bool.{cases_lt}
use Rattle.jn_reach.proofs.Eachs.{Each-length}
use Rattle.jn_base.specs.declared.tree.Name.{Name}
use Rattle.jn_base.specs.declared.tree.Program.{Program}
use Rattle.jn_base.specs.declared.path.Path.{Path as ShownPath}
use Rattle.jn_base.specs.Paths.{Path}
use Rattle.jn_base.specs.Supers.{Member}
use Rattle.jn_base.specs.Universe.{InUniverse}
use Rattle.jn_table.specs.declared.class.Row.{Row}
use Rattle.jn_table.specs.declared.table.Table.{Table}
use Rattle.jn_table.specs.Rows.{IsRow, IsMember, HasMethod}
use Rattle.jn_table.specs.Rows as rows
use Rattle.jn_table.specs.Tables.{IsFilled}
use Rattle.jn_sem.specs.Sharing.{IsClass, Related}
use Rattle.jn_sem.proofs.SharedLaws.{sharing_laws}
use Rattle.jn_share.specs.declared.groups.Groups.{Groups}
use Rattle.jn_share.specs.declared.members.GroupMembers.{GroupMembers}
use Rattle.jn_share.specs.Counting.{CountIs, Counts, IsOther, IsEntryOf, IsEntryTo, AmongOthers}
use Rattle.jn_share.specs.Firsts.{AreRelated}
use Rattle.jn_share.specs.Groups.{AreGroups}
use Rattle.jn_share.specs.Limits.{Entry, of_member, of_method, of_field, of_counterpart, IsEntry, member, method, field, counterpart, path_of}
use Rattle.jn_share.specs.Members.{AreGroupMembers, MembersAre}
use Rattle.jn_share.specs.Pairing.{IsAt}
use Rattle.jn_share.proofs.EntryLists.{counts_joined, counts_same, counts_map, counts_names}
use Rattle.jn_base.proofs.NameTests.{in_none}
use Rattle.jn_share.proofs.KeyLists.{once_none}
use Rattle.jn_share.proofs.Grouped.{members_related}
use Rattle.jn_share.proofs.PairsFound.{same_number, same_path}

-- the entries of R that aren't counterparts
pub data RowEntry (p : Program) (R : Path) (e : Entry) : Type 0 where
  of_name : (C : Name) × Member p R C × (of_member R C ≡ e) → RowEntry p R e
  of_call : (m : Name) × HasMethod p R m × (of_method R m ≡ e) → RowEntry p R e
  of_value : (f : Name) × rows.HasField p R f × (of_field R f ≡ e) → RowEntry p R e

abbrev RowMember : Program → Path → Entry → Type 0
RowMember p R e = (C : Name) × Member p R C × (of_member R C ≡ e)

abbrev RowMethod : Program → Path → Entry → Type 0
RowMethod p R e = (m : Name) × HasMethod p R m × (of_method R m ≡ e)

abbrev RowField : Program → Path → Entry → Type 0
RowField p R e = (f : Name) × rows.HasField p R f × (of_field R f ≡ e)

abbrev RowPartner : Program → Path → Entry → Type 0
RowPartner p R e = (S : Path) × IsOther p R S × (of_counterpart R S ≡ e)

pub row_counts : (p : Program) (known : List ShownPath) (R : Path) (row : Row) → IsRow p known R row → (x y z : ℕ) → x ≡ length row.members.items → y ≡ length row.methods.items
    → z ≡ length row.fields.items → (a told : ℕ) → ((m n : ℕ) → CountIs m x → CountIs n y → CountIs (m + n) a)
    → ((m n : ℕ) → CountIs m a → CountIs n z → CountIs (m + n) told) → Counts (RowEntry p R) told
row_counts p known R row is x y z xe ye ze a told one two =
    let ms = counts_map (of_member R) (Member p R) x (λ x y e. cc e)
    (counts_names p (Member p R) is.members.names x is.members.are (xe ∙ Each-length (IsMember known R) is.members.numbered)) in
    let ns = counts_map (of_method R) (HasMethod p R) y (λ x y e. cc e) (counts_names p (HasMethod p R) row.methods.items y is.methods ye) in
    let fs = counts_map (of_field R) (rows.HasField p R) z (λ x y e. cc e) (counts_names p (rows.HasField p R) row.fields.items z is.fields ze) in
    let both = counts_joined (RowMember p R) (RowMethod p R) x y a (λ e s t. apart_names e s t) one ms ns in
    counts_same (λ (e : Entry). (RowMember p R e ⊎ RowMethod p R e) ⊎ RowField p R e) (RowEntry p R) told (λ e. (to e, from e))
    (counts_joined (λ (e : Entry). RowMember p R e ⊎ RowMethod p R e) (RowField p R) a z told (λ e s t. apart_fields e s t) two both fs) where
      apart_names : (e : Entry) → RowMember p R e → RowMethod p R e → ⊥
      apart_names e x y = cc (x.2 ∙ sym y.2)

      apart_fields : (e : Entry) → RowMember p R e ⊎ RowMethod p R e → RowField p R e → ⊥
      apart_fields e (inl x) y = cc (x.2 ∙ sym y.2)
      apart_fields e (inr x) y = cc (x.2 ∙ sym y.2)

      to : (e : Entry) → (RowMember p R e ⊎ RowMethod p R e) ⊎ RowField p R e → RowEntry p R e
      to e (inl (inl x)) = of_name x
      to e (inl (inr x)) = of_call x
      to e (inr x) = of_value x

      from : (e : Entry) → RowEntry p R e → (RowMember p R e ⊎ RowMethod p R e) ⊎ RowField p R e
      from e (of_name x) = inl (inl x)
      from e (of_call x) = inl (inr x)
      from e (of_value x) = inr x

module _ (p : Program) (R : Path) (u : InUniverse p R) where
  named : (e : Entry) → RowEntry p R e → IsEntryOf p R e
  named e (of_name x) = (subst (IsEntry p) x.2 (member R x.0 u x.1), ap path_of (sym x.2))
  named e (of_call x) = (subst (IsEntry p) x.2 (method R x.0 u x.1), ap path_of (sym x.2))
  named e (of_value x) = (subst (IsEntry p) x.2 (field R x.0 u (record { at = x.1.0; declares = x.1.1 })), ap path_of (sym x.2))

  by_kind : (e : Entry) → IsEntryOf p R e → RowEntry p R e ⊎ RowPartner p R e
  by_kind e (i, a) = kind e i a where
    kind : (e : Entry) → IsEntry p e → path_of e ≡ R → RowEntry p R e ⊎ RowPartner p R e
    kind e (member Q C v m) a = inl (of_name (C, subst (λ (S : Path). Member p S C) a m, ap (λ (S : Path). of_member S C) (sym a)))
    kind e (method Q C v m) a = inl (of_call (C, subst (λ (S : Path). HasMethod p S C) a m, ap (λ (S : Path). of_method S C) (sym a)))
    kind e (field Q C v m) a = inl (of_value (C, subst (λ (S : Path). rows.HasField p S C) a (m.at, m.declares), ap (λ (S : Path). of_field S C) (sym a)))
    kind e (counterpart Q S w n) a = inr (S, (subst (λ (T : Path). Related p T S) a w, subst (λ (T : Path). T ≡ S → ⊥) a n), ap (λ (T : Path). of_counterpart T S) (sym a))

  -- a path that is no class has no counterparts
  pub package_counts : (IsClass p R → ⊥) → (told : ℕ) → Counts (RowEntry p R) told → Counts (IsEntryOf p R) told
  package_counts n told w = counts_same (RowEntry p R) (IsEntryOf p R) told (λ e. (named e, λ h. pick e (by_kind e h))) w where
    pick : (e : Entry) → RowEntry p R e ⊎ RowPartner p R e → RowEntry p R e
    pick e (inl x) = x
    pick e (inr x) = absurd (n x.1.0.one)

  pub class_counts : (told among now : ℕ) → ((m n : ℕ) → CountIs m told → CountIs n among → CountIs (m + n) now) → Counts (RowEntry p R) told → Counts (IsOther p R) among
      → Counts (IsEntryOf p R) now
  class_counts told among now sum w o =
      counts_same (λ (e : Entry). RowEntry p R e ⊎ RowPartner p R e) (IsEntryOf p R) now (λ e. (to e, by_kind e))
      (counts_joined (RowEntry p R) (RowPartner p R) told among now apart sum w (counts_map (of_counterpart R) (IsOther p R) among (λ x y e. cc e) o)) where
        to : (e : Entry) → RowEntry p R e ⊎ RowPartner p R e → IsEntryOf p R e
        to e (inl x) = named e x
        to e (inr x) = (subst (IsEntry p) x.2 (counterpart R x.0 x.1.0 x.1.1), ap path_of (sym x.2))

        apart : (e : Entry) → RowEntry p R e → RowPartner p R e → ⊥
        apart e (of_name x) y = cc (x.2 ∙ sym y.2)
        apart e (of_call x) y = cc (x.2 ∙ sym y.2)
        apart e (of_value x) y = cc (x.2 ∙ sym y.2)

-- the other classes of the numbers of a group are those of the group
pub group_others : (p : Program) (t : Table) (f : IsFilled p t) (g : Groups) → AreGroups p t.known.items g → (lists : GroupMembers) → AreGroupMembers g lists
    → (k : ℕ) (R : Path) → IsAt t.known.items k R → IsClass p R → (among : List ℕ) → MembersAre lists k among → (told : ℕ)
    → Counts (AmongOthers p t.known.items (Contains among) k) told → Counts (IsOther p R) told
group_others p t f g groups lists are k R at c among m told w = counts_same (AmongOthers p t.known.items (Contains among) k) (IsOther p R) told (λ S. (to S, from S)) w where
  related : AreRelated p t.known.items among R
  related = members_related p t g groups lists are k R at c among m

  to : (S : Path) → AmongOthers p t.known.items (Contains among) k S → IsOther p R S
  to S h = (
    (sharing_laws p).turned S R ((related h.number S h.at h.class).0 h.among),
    λ e. h.other (same_number p t f h.number k S h.at (subst (IsAt t.known.items k) e at)),
  )

  from : (S : Path) → IsOther p R S → AmongOthers p t.known.items (Contains among) k S
  from S q =
      let d = q.0.other in
      let n = groups.whole S d.universe in
      record {
        number = n.0.0;
        among = (related n.0.0 S n.1 d).1 ((sharing_laws p).turned R S q.0);
        at = n.1;
        class = d;
        other = λ e. q.1 (same_path t.known.items k R S at (subst (λ (i : ℕ). IsAt t.known.items i S) e n.1));
      }

-- ---- the paths one after the other

pub entries_start : (p : Program) (known : List ShownPath) → Counts (IsEntryTo p known 0) 0
entries_start p known = record {
  list = [];
  exact = λ e. (λ c. absurd (in_none e c), λ h. absurd (let l = h.1.1 in omega arith));
  once = once_none;
  count = inl refl;
}

pub entries_more : (p : Program) (t : Table) → IsFilled p t → (k : ℕ) (R : Path) → IsAt t.known.items k R → (told row now : ℕ)
    → ((m n : ℕ) → CountIs m told → CountIs n row → CountIs (m + n) now) → Counts (IsEntryTo p t.known.items k) told → Counts (IsEntryOf p R) row
    → Counts (IsEntryTo p t.known.items (k + 1)) now
entries_more p t f k R at told row now sum w o =
    counts_same (λ (e : Entry). IsEntryTo p t.known.items k e ⊎ IsEntryOf p R e) (IsEntryTo p t.known.items (k + 1)) now (λ e. (to e, from e))
    (counts_joined (IsEntryTo p t.known.items k) (IsEntryOf p R) told row now apart sum w o) where
      to : (e : Entry) → IsEntryTo p t.known.items k e ⊎ IsEntryOf p R e → IsEntryTo p t.known.items (k + 1) e
      to e (inl h) = (h.0, (h.1.0, (let l = h.1.1 in omega arith), h.1.2))
      to e (inr h) = (h.0, (k, omega arith, subst (IsAt t.known.items k) (sym h.1) at))

      from : (e : Entry) → IsEntryTo p t.known.items (k + 1) e → IsEntryTo p t.known.items k e ⊎ IsEntryOf p R e
      from e h = by_place (cases_lt h.1.0 k) where
        by_place : (h.1.0 < k) ⊎ (k ≤ h.1.0) → IsEntryTo p t.known.items k e ⊎ IsEntryOf p R e
        by_place (inl l) = inl (h.0, (h.1.0, l, h.1.2))
        by_place (inr l) =
            let q = h.1.1 in
            let same : h.1.0 ≡ k = omega arith in
            inr (h.0, same_path t.known.items k (path_of e) R (subst (λ (i : ℕ). IsAt t.known.items i (path_of e)) same h.1.2) at)

      apart : (e : Entry) → IsEntryTo p t.known.items k e → IsEntryOf p R e → ⊥
      apart e h o =
          let q = h.1.1 in
          let e = same_number p t f h.1.0 k R (subst (IsAt t.known.items h.1.0) o.1 h.1.2) at in
          absurd (omega (arith, q, e))

pub entries_end : (p : Program) (known : List ShownPath) (k n told : ℕ) → n ≤ k → k ≤ n → Counts (IsEntryTo p known k) told → Counts (IsEntryTo p known n) told
entries_end p known k n told a b w = let e : k ≡ n = omega arith in subst (λ (i : ℕ). Counts (IsEntryTo p known i) told) e w

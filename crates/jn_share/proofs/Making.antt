-- The groups that the rows make, and the first refusal.
use Rattle.std.proofs.Common.{◌≡◌, ◌≤◌, ◌<◌, ◌↔◌, ◌⊎◌, inl, inr, ℕ, zero, suc, List, [], ◌∷◌, ◌++◌, length, reverse, get_or, All, Contains, Some, Result, Ok, Err, slice_get, slice_index, refl, sym, ap, ◌∙◌, subst, arith}
use Rattle.std.proofs.lemmas.Bool.{cases_lt}
use Rattle.std.specs.declared.vec.Vec.{Vec}
use Rattle.std.specs.declared.alloc.Global.{Global}
use Rattle.std.proofs.lemmas.Option.{slice_get_within, slice_get-get_or}
use Rattle.std.proofs.lemmas.List.Elements.{Contains-append_right}
use Rattle.jn_reach.specs.Equivalent.{Equivalent, itself}
use Rattle.jn_reach.specs.Numbers.{NumbersPairs, AreDistinct}
use Rattle.jn_reach.specs.Graph.{Graph}
use Rattle.jn_reach.specs.Pairs.{IsPair, AreFirsts, AreMembers}
use Rattle.jn_reach.proofs.Numbering.{Numbers-equivalent, Numbers-between}
use Rattle.jn_reach.proofs.Searches.{same_some}
use Rattle.jn_base.specs.declared.tree.Program.{Program}
use Rattle.jn_base.specs.declared.path.Path.{Path as ShownPath}
use Rattle.jn_base.specs.declared.refusal.Refusal.{Refusal}
use Rattle.jn_base.specs.ClassOrder.{class_cmp}
use Rattle.jn_base.specs.Paths.{Path, shown}
use Rattle.jn_base.proofs.NameTests.{first, later}
use Rattle.jn_table.specs.declared.class.ClassId.{ClassId}
use Rattle.jn_table.specs.declared.table.Table.{Table}
use Rattle.jn_table.specs.Rows.{IsNumber}
use Rattle.jn_table.specs.Tables.{IsFilled}
use Rattle.jn_table.proofs.Shown.{place_of_number, shown_at, same_id}
use Rattle.jn_table.proofs.Sorted.{in_order}
use Rattle.jn_base.specs.declared.tree.Name.{Name}
use Rattle.jn_sem.specs.Sharing.{IsClass, Shares, Related, family_of}
use Rattle.jn_sem.proofs.SharedLaws.{sharing_laws}
use Rattle.jn_sem.specs.NotFamily.{Listed, IsNotFamily, IsFirstNotFamily, AreFamilies, not_family, listed_names}
use Rattle.jn_share.specs.declared.fault.ShareFault.{ShareFault}
use Rattle.jn_share.specs.declared.fault.ShareFault.TheVariants.{Refused, Memory}
use Rattle.jn_share.specs.declared.groups.Groups.{Groups}
use Rattle.jn_share.specs.declared.rows.GroupRow.{GroupRow}
use Rattle.jn_share.specs.declared.rows.FamilyClass.{FamilyClass}
use Rattle.jn_share.specs.Groups.{HasGroup, HaveOneGroup, HasClass, HasCounterpart, IsCounterpart, AreGroups, GroupsGive, RefusedOr}
use Rattle.jn_share.specs.Listing.{PassesOr}
use Rattle.jn_share.specs.Homes.{HomesTo}
use Rattle.jn_share.specs.Pairing.{IsAt, AreByFamily, ArePairs}
use Rattle.jn_share.specs.Prepared.{FamiliesTo}
use Rattle.jn_share.specs.Refining.{AreLow}
use Rattle.jn_share.specs.Rows.{LinkFirsts, IsGroupRow, GroupRowsTo}
use Rattle.jn_share.proofs.Linked.{linked_inner}
use Rattle.jn_share.proofs.OwnRows.{own_told, told_own}
use Rattle.jn_share.proofs.Preparing.{family_edge}
use Rattle.jn_share.proofs.PairsFound.{same_number, one_number, at_path}
use Rattle.jn_share.proofs.Relating.{shares_listed, listed_shares}

same_class : (x y : FamilyClass) → x.family ≡ y.family → x.class ≡ y.class → x ≡ y
same_class x y e h =
    ap (λ (f : ClassId). record { family = f; class = x.class }) e ∙ ap (λ (c : ClassId). record { family = y.family; class = c }) h

index_at : (xs : List ℕ) (i n : ℕ) → slice_get xs i ≡ Some n → slice_index xs i ≡ n
index_at [] i n e = absurd (cc e)
index_at (x ∷ xs) zero n e = cc e
index_at (x ∷ xs) (suc i) n e = index_at xs i n e

at_index : (xs : List ℕ) (i : ℕ) → i < length xs → slice_get xs i ≡ Some (slice_index xs i)
at_index [] i l = absurd (omega arith)
at_index (x ∷ xs) zero l = refl
at_index (x ∷ xs) (suc i) l = at_index xs i (omega (arith, l))

row_there : (xs : Graph) (i : ℕ) → i < length xs → (v : Vec ℕ Global) × (slice_get xs i ≡ Some v)
row_there [] i l = absurd (omega arith)
row_there (x ∷ xs) zero l = (x, refl)
row_there (x ∷ xs) (suc i) l = row_there xs i (omega (arith, l))

-- the rows of the families have all numbers of each family
pub by_family : (known : List ShownPath) (families : List ℕ) (rows : Graph) → FamiliesTo known (length known) families → AreMembers families rows → AreLow families
    → AreByFamily known rows
by_family known families rows all m low k V X a e =
    let w = all k V X (slice_get_within known k (shown V) a) a e in
    (w.0, w.2, family_edge families rows m low k w.0 w.1)

-- ---- the least equivalence

module _ (p : Program) (t : Table) (f : IsFilled p t) where
  paths : List Path
  paths = f.table.rows.paths

  place : (i : ℕ) (R : Path) → IsAt t.known.items i R → slice_get paths i ≡ Some R
  unfolding paths
  place i R a =
      let r = f.table.rows in
      place_of_number p r.paths t.known.items r.shown_are (in_order (class_cmp p) r.paths r.in_order) (record { 0 = i }) R a

  number : (i : ℕ) (R : Path) → slice_get paths i ≡ Some R → IsAt t.known.items i R
  unfolding paths
  number i R a =
      let r = f.table.rows in
      subst (λ (known : List ShownPath). slice_get known i ≡ Some (shown R)) (sym r.shown_are) (shown_at r.paths i R a)

  distinct : AreDistinct paths
  distinct i j R x y = same_number p t f i j R (number i R x) (number j R y)

  numbered : (pairs : List (ℕ × ℕ)) → ArePairs p t.known.items (listed_names p) pairs → NumbersPairs (Shares p) paths (IsPair pairs)
  numbered pairs a = record {
    sound = λ i j c.
        let s = a.sound i j c in
        let r = s.2 in
        record {
          x = r.R;
          y = r.S;
          x_at = place i r.R r.one_at;
          y_at = place j r.S r.other_at;
          holds = listed_shares p r.R r.S s.0 s.1 r.relates;
        };
    complete = λ R S h.
        let w = shares_listed p R S h in
        let i = f.whole.whole R w.2.one.universe in
        let j = f.whole.whole S w.2.other.universe in
        record {
          i = i.0.0;
          j = j.0.0;
          i_at = place i.0.0 R i.1;
          j_at = place j.0.0 S j.1;
          holds = a.complete i.0.0 j.0.0 w.0 w.1 (record { R = R; S = S; one_at = i.1; other_at = j.1; relates = w.2 });
        };
  }

  -- the first numbers of the classes of pairs link the paths
  pub links : (n : ℕ) (pairs : List (ℕ × ℕ)) (firsts : List ℕ) → n ≡ length t.known.items
      → ((a b : ℕ) → a < n → b < n → (slice_index firsts a ≡ slice_index firsts b) ↔ Equivalent (IsPair pairs) a b)
      → ArePairs p t.known.items (listed_names p) pairs → LinkFirsts p t.known.items firsts
  links n pairs firsts e classes a i j R S x y =
      let l : i < n = omega (arith, slice_get_within t.known.items i (shown R) x, e) in
      let m : j < n = omega (arith, slice_get_within t.known.items j (shown S) y, e) in
      let one = classes i j l m in
      let two = Numbers-between (Equivalent (Shares p)) paths (Equivalent (IsPair pairs)) (Numbers-equivalent (Shares p) paths (IsPair pairs) distinct (numbered pairs a)) distinct
      i j R S (place i R x) (place j S y) in
      (λ h. two.0 (one.0 h), λ h. one.1 (two.1 h))

  -- ---- the rows

  pub are_groups : (firsts : List ℕ) (groups : Groups) → ((a : ℕ) → slice_index firsts a ≤ a) → length firsts ≡ length t.known.items → AreMembers firsts groups.members.items
      → LinkFirsts p t.known.items firsts → GroupRowsTo p t.known.items firsts (length t.known.items) groups.rows.items
      → HomesTo p t.known.items (length t.known.items) groups.homes.items → AreGroups p t.known.items groups
  are_groups firsts groups lowest long members link rows homes = record { whole = f.whole.whole; low = low; related = related; counterparts = counterparts; homes = homes } where
    row_at : (a : ClassId) (A : Path) → IsNumber t.known.items a A → (row : GroupRow) × (slice_get groups.rows.items a.0 ≡ Some row) × IsGroupRow p t.known.items firsts a.0 A row
    row_at a A x = rows.each a.0 A (slice_get_within t.known.items a.0 (shown A) x) x

    -- what is known of the group that a number has
    in_group : (a : ClassId) (A : Path) (k : ℕ) → IsNumber t.known.items a A → HasGroup groups.rows.items a k → IsClass p A × (slice_index firsts a.0 ≡ k)
    in_group a A k x h =
        let one = row_at a A x in
        let same = same_some (slice_get groups.rows.items a.0) h.row one.0 h.at one.1 in
        (one.2.group k).0 (subst (λ (r : GroupRow). r.group ≡ Some k) same h.is)

    -- a class has the group of its first number
    has_group : (a : ClassId) (A : Path) → IsNumber t.known.items a A → IsClass p A → HasGroup groups.rows.items a (slice_index firsts a.0)
    has_group a A x c = let one = row_at a A x in record { row = one.0; at = one.1; is = (one.2.group (slice_index firsts a.0)).1 (c, refl) }

    low : (a : ClassId) (A : Path) (k : ℕ) → IsNumber t.known.items a A → HasGroup groups.rows.items a k → k ≤ a.0
    low a A k x h = subst (λ (n : ℕ). n ≤ a.0) (in_group a A k x h).1 (lowest a.0)

    related : (a b : ClassId) (A B : Path) → IsNumber t.known.items a A → IsNumber t.known.items b B → HaveOneGroup groups.rows.items a b ↔ Related p A B
    related a b A B x y = (
      λ h.
          let k = in_group a A h.0 x h.1 in
          let m = in_group b B h.0 y h.2 in
          record { one = k.0; other = m.0; linked = (link a.0 b.0 A B x y).0 (k.1 ∙ sym m.1) },
      λ r. (
        slice_index firsts a.0,
        has_group a A x r.one,
        subst (HasGroup groups.rows.items b) (sym ((link a.0 b.0 A B x y).1 r.linked)) (has_group b B y r.other),
      ),
    )

    -- the path of a number that has a first number
    path_of : (k n : ℕ) → slice_get firsts k ≡ Some n → (S : Path) × IsAt t.known.items k S
    path_of k n e =
        let within = slice_get_within firsts k n e in
        let path : ShownPath = get_or t.known.items k (record { names = [] }) in
        (reverse path.names, at_path t.known.items k path.names (slice_get-get_or t.known.items k (record { names = [] }) (omega (arith, within, long))))

    class_at : (a family class : ClassId) (A : Path) → IsNumber t.known.items a A → (group k : ℕ) → HasGroup groups.rows.items a group → slice_get firsts k ≡ Some group
        → HasClass groups.rows.items k family class → IsCounterpart p t.known.items A family class
    class_at a family class A x group k h e c =
        let S = path_of k group e in
        let g = in_group a A group x h in
        let two = rows.each k S.0 (slice_get_within t.known.items k (shown S.0) S.1) S.1 in
        let same = same_some (slice_get groups.rows.items k) c.row two.0 c.at two.1 in
        let own = told_own p t.known.items k S.0 (two.0).own (record { family = family; class = class }) two.2.own
        (subst (λ (r : GroupRow). r.own ≡ Some (record { family = family; class = class })) same c.own) in
        let linked : Equivalent (Shares p) A S.0 = (link a.0 k A S.0 x S.1).0 (g.1 ∙ sym (index_at firsts k group e)) in
        record {
          Y = own.X;
          family_is = own.family_is;
          W = S.0;
          class_is = subst (λ (n : ℕ). IsAt t.known.items n S.0) (sym own.number) S.1;
          is = record { is = linked_inner p A S.0 own.X g.0 linked own.family; related = record { one = g.0; other = own.class; linked = linked } };
        }

    class_has : (family class : ClassId) (Y : Name) (W : Path) → IsNumber t.known.items family (Y ∷ []) → IsNumber t.known.items class W → IsClass p W → family_of W ≡ Some Y
        → HasClass groups.rows.items class.0 family class
    class_has family class Y W n m c e =
        let two = row_at class W m in
        let own = own_told p t.known.items class.0 W (two.0).own two.2.own c in
        let name : own.2.X ≡ Y = same_some (family_of W) own.2.X Y own.2.family e in
        let one : (own.0).family ≡ family = one_number p t f (own.0).family family (Y ∷ []) (subst (λ (N : Name). IsNumber t.known.items (own.0).family (N ∷ [])) name own.2.family_is) n in
        let other : (own.0).class ≡ class = same_id (own.0).class class own.2.number in
        let same : own.0 ≡ record { family = family; class = class } = same_class own.0 (record { family = family; class = class }) one other in
        record { row = two.0; at = two.1; own = own.1 ∙ ap (λ (z : FamilyClass). Some z) same }

    to : (a family class : ClassId) (A : Path) → IsNumber t.known.items a A → HasCounterpart groups.rows.items groups.members.items a family class → IsCounterpart p t.known.items A family class
    to a family class A x h =
        let w = h.among in
        let e : slice_get firsts w.1 ≡ Some h.group = ((members.each h.group h.numbers h.at).exact w.1).0 (w.0, w.2, w.3) in
        class_at a family class A x h.group w.1 h.in_group e w.4

    from : (a family class : ClassId) (A : Path) → IsNumber t.known.items a A → IsCounterpart p t.known.items A family class → HasCounterpart groups.rows.items groups.members.items a family class
    from a family class A x c =
        let first : ℕ = slice_index firsts a.0 in
        let below : first ≤ a.0 = lowest a.0 in
        let here = slice_get_within t.known.items a.0 (shown A) x in
        let there = slice_get_within t.known.items class.0 (shown c.W) c.class_is in
        let row = row_there groups.members.items first (omega (arith, below, here, long, members.long)) in
        let same : slice_index firsts a.0 ≡ slice_index firsts class.0 = (link a.0 class.0 A c.W x c.class_is).1 c.is.related.linked in
        let e : slice_get firsts class.0 ≡ Some first = at_index firsts class.0 (omega (arith, there, long)) ∙ ap Some (sym same) in
        let w : Contains (row.0).items class.0 = ((members.each first row.0 row.1).exact class.0).1 e in
        record {
          group = first;
          in_group = has_group a A x c.is.related.one;
          numbers = row.0;
          at = row.1;
          among = (w.0, class.0, w.1, w.2, class_has family class c.Y c.W c.family_is c.class_is c.is.related.other ((sharing_laws p).family c.Y A c.W c.is));
        }

    counterparts : (a family class : ClassId) (A : Path) → IsNumber t.known.items a A
        → HasCounterpart groups.rows.items groups.members.items a family class ↔ IsCounterpart p t.known.items A family class
    counterparts a family class A x = (to a family class A x, from a family class A x)

-- no first number is greater than the number
pub lowest : (n : ℕ) (E : ℕ → ℕ → Type 0) (firsts : List ℕ) → AreFirsts E n firsts → (a : ℕ) → slice_index firsts a ≤ a
lowest n E firsts h a = by_place (cases_lt a n) where
  by_place : (a < n) ⊎ (n ≤ a) → slice_index firsts a ≤ a
  by_place (inl l) = (h.each a l).least a itself
  by_place (inr l) = nothing firsts a (omega (arith, h.long, l)) where
    nothing : (xs : List ℕ) (i : ℕ) → length xs ≤ i → slice_index xs i ≤ i
    nothing [] i m = omega arith
    nothing (x ∷ xs) zero m = absurd (omega arith)
    nothing (x ∷ xs) (suc i) m = omega (arith, nothing xs i (omega (arith, m)))

got_at : (xs : List ℕ) (i d : ℕ) → i < length xs → get_or xs i d ≡ slice_index xs i
got_at [] i d l = absurd (omega arith)
got_at (x ∷ xs) zero d l = refl
got_at (x ∷ xs) (suc i) d l = got_at xs i d (omega (arith, l))

pub firsts_within : (firsts : List ℕ) → ((a : ℕ) → slice_index firsts a ≤ a) → All (λ f. f < length firsts) firsts
firsts_within firsts h i d l = let low = h i in let same = got_at firsts i d l in omega (arith, low, same, l)

-- ---- the first refusal

once : (p : Program) (b c d e : List Listed) (x y : Listed) → b ++ x ∷ d ≡ c ++ y ∷ e → ((z : Listed) → Contains b z → IsNotFamily p z → ⊥)
    → ((z : Listed) → Contains c z → IsNotFamily p z → ⊥) → IsNotFamily p x → IsNotFamily p y → x ≡ y
once p [] [] d e x y q m n i j = cc
once p [] (z ∷ c) d e x y q m n i j = let h : z ≡ x = cc q in absurd (n z (first z c) (subst (IsNotFamily p) (sym h) i))
once p (z ∷ b) [] d e x y q m n i j = let h : z ≡ y = cc q in absurd (m z (first z b) (subst (IsNotFamily p) (sym h) j))
once p (z ∷ b) (w ∷ c) d e x y q m n i j =
    let h : b ++ x ∷ d ≡ c ++ y ∷ e = cc q in
    once p b c d e x y h (λ v k. m v (later z b v k)) (λ v k. n v (later w c v k)) i j

first_once : (p : Program) (q r : Refusal) → IsFirstNotFamily p q → IsFirstNotFamily p r → q ≡ r
first_once p q r a b =
    let same : a.at ≡ b.at = once p a.before b.before a.after b.after a.at b.at (sym a.split ∙ b.split) a.passed b.passed a.is b.is in
    a.shows ∙ (ap not_family same ∙ sym b.shows)

no_first : (p : Program) (r : Refusal) → AreFamilies p → IsFirstNotFamily p r → ⊥
no_first p r n a =
    n a.at (subst (λ (xs : List Listed). Contains xs a.at) (sym a.split) (Contains-append_right a.before (a.at ∷ a.after) a.at (first a.at a.after))) a.is

pub refused_or : (p : Program) (known : List ShownPath) (told : Result Groups ShareFault) → GroupsGive p known told → (r : Refusal) → IsFirstNotFamily p r → RefusedOr r told
refused_or p known (Ok groups) g r a = no_first p r g.0 a
refused_or p known (Err (Refused q)) g r a = first_once p q r g a
refused_or p known (Err Memory) g r a = tt

pub gives_fault : (p : Program) (known : List ShownPath) (fault : ShareFault) → PassesOr p (Err fault) → GroupsGive p known (Err fault)
gives_fault p known (Refused r) h = h
gives_fault p known Memory h = tt

-- The parts of a row are right.
use Rattle.std.proofs.Common.{◌≡◌, ◌<◌, ◌≤◌, ◌↔◌, ℕ, zero, suc, List, [], ◌∷◌, length, map, Contains, Option, Some, None, slice_get, Bool, false, Result, Ok, Err, IfOk, refl, sym, subst, ap, ◌∙◌, arith}
use Rattle.std.specs.List.Sorted.{IsStrictlySortedBy, IsStrictlyIncreasing}
use Rattle.std.proofs.lemmas.Option.{slice_get_within, get_or_from_slice_get}
use Rattle.std.proofs.lemmas.Map.Keys.{sorted_from_strictly_increasing, below_from_sorted}
use Rattle.jn_reach.specs.Each.{Each, none, more}
use Rattle.jn_reach.specs.Graph.{Lists}
use Rattle.jn_reach.proofs.Eachs.{Each-at, Each-back}
use Rattle.jn_reach.proofs.Searches.{same_some, not_when}
use Rattle.jn_base.proofs.NameTests.{in_none}
use Rattle.jn_base.specs.declared.tree.Name.{Name}
use Rattle.jn_base.specs.declared.tree.Kind.{Kind}
use Rattle.jn_base.specs.declared.tree.Kind.TheVariants as kind
use Rattle.jn_base.specs.declared.tree.Program.{Program}
use Rattle.jn_base.specs.declared.path.Path.{Path as ShownPath}
use Rattle.jn_base.specs.Paths.{Path, shown}
use Rattle.jn_base.specs.Members.{HasKind}
use Rattle.jn_base.specs.ClassOrder.{class_cmp, class_total, IsFirst}
use Rattle.jn_table.specs.declared.class.ClassId.{ClassId}
use Rattle.jn_table.specs.declared.class.Row.{Row}
use Rattle.jn_table.specs.declared.table.Table.{Table}
use Rattle.jn_table.specs.Rows.{IsNumber, IsRow, IsUp, top, under, IsMember}
use Rattle.jn_table.specs.Tables.{IsFilled}
use Rattle.jn_table.proofs.Maps.{at_map, in_mapped, in_list, list_at}
use Rattle.jn_table.proofs.Shown.{at_shown, shown_at, numbers_before, path_number, number_path}
use Rattle.jn_table.proofs.Sorted.{in_order, sorted, one_place}
use Rattle.jn_base.proofs.ClassOrders.{before_irreflexive}
use Rattle.jn_sem.specs.Sharing.{IsClass, Related, family_of}
use Rattle.jn_sem.proofs.SharedLaws.{sharing_laws}
use Rattle.jn_sem.proofs.FindingLaws.{among_of, contains_of}
use Rattle.jn_sem.proofs.NormalTypes.{sorted_once}
use Rattle.jn_share.specs.Pairing.{IsAt}
use Rattle.jn_share.specs.Prepared.{FamiliesTo}
use Rattle.jn_share.proofs.Kinship.{has_family}
use Rattle.jn_share.proofs.Linked.{linked_inner}
use Rattle.jn_share.proofs.Numbered.{numbered_known}
use Rattle.jn_agree.specs.Naming.{Naming}
use Rattle.jn_agree.specs.Rows.{UpIs, GroupIs, HasOther, FirstsAre}
use Rattle.jn_layout.specs.declared.pairs.Pair.{Pair}
use Rattle.jn_layout.specs.Kin.{FirstAt, FirstOf, SaysClass}
use Rattle.jn_layout.specs.Pairs.{pair_cmp, AreEntries, Gathers, OnlyIs}
use Rattle.jn_layout.specs.Parts.{AreClassesOf, MemberAt, member_pair, OtherPair}

-- ---- numbers and paths

pub class_at : (t : Table) (n : Naming) → AreClassesOf t n → (k : ℕ) (R : Path) → IsAt t.known.items k R → slice_get n.classes k ≡ Some R
class_at t n e k R a = at_shown n.classes k R (subst (λ (xs : List ShownPath). slice_get xs k ≡ Some (shown R)) e a)

pub at_class : (t : Table) (n : Naming) → AreClassesOf t n → (k : ℕ) (R : Path) → slice_get n.classes k ≡ Some R → IsAt t.known.items k R
at_class t n e k R a = subst (λ (xs : List ShownPath). slice_get xs k ≡ Some (shown R)) (sym e) (shown_at n.classes k R a)

pub one_number : (p : Program) (t : Table) → IsFilled p t → (j k : ℕ) (R : Path) → IsAt t.known.items j R → IsAt t.known.items k R → j ≡ k
one_number p t f j k R a b =
    let r = f.table.rows in
    ap (λ (id : ClassId). id.0) (path_number p r.paths t.known.items r.shown_are (in_order (class_cmp p) r.paths r.in_order) (record { 0 = j }) (record { 0 = k }) R a b)

-- ---- the class above

pub up_none : (known : List ShownPath) (n : Naming) (R : Path) (o : Option ClassId) → IsUp known R o → o ≡ None → UpIs n R 65535
up_none known n R o (top) e = refl
up_none known n R o (under {id = id} i) e = absurd (let h : ◌≡◌ {A = Option ClassId} (Some id) None = e in cc h)

pub up_some : (t : Table) (n : Naming) → AreClassesOf t n → (R : Path) (o : Option ClassId) (up : ClassId) → IsUp t.known.items R o → o ≡ Some up → UpIs n R up.0
up_some t n c R o up (top) e = absurd (let h : ◌≡◌ {A = Option ClassId} None (Some up) = e in cc h)
up_some t n c R o up (under {D = D} {P = P} {id = id} i) e =
    let h : ◌≡◌ {A = Option ClassId} (Some id) (Some up) = e in
    let same : id ≡ up = cc h in
    subst (λ (x : ClassId). slice_get n.classes x.0 ≡ Some (D ∷ P)) same (class_at t n c id.0 (D ∷ P) i)

-- ---- the family

pub family_told : (t : Table) (families : List ℕ) (n : Naming) → AreClassesOf t n → FamiliesTo t.known.items (length t.known.items) families → (k m : ℕ) (told : ℕ)
    → Some m ≡ slice_get families k → (m ≤ 65535 → told ≡ m) → (R : Path) (Y : Name) → IsAt t.known.items k R → family_of R ≡ Some Y → slice_get n.classes told ≡ Some (Y ∷ [])
family_told t families n e all k m told at is R Y a y =
    let w = all k R Y (slice_get_within t.known.items k (shown R) a) a y in
    let same : m ≡ w.0 = same_some (slice_get families k) m w.0 (sym at) w.1 in
    let here : IsAt t.known.items m (Y ∷ []) = subst (λ (i : ℕ). IsAt t.known.items i (Y ∷ [])) (sym same) w.2 in
    let low : m < length t.known.items = slice_get_within t.known.items m (shown (Y ∷ [])) here in
    subst (λ (i : ℕ). slice_get n.classes i ≡ Some (Y ∷ [])) (sym (is (omega (arith, low, t.few)))) (class_at t n e m (Y ∷ []) here)

pub no_family : (t : Table) (families : List ℕ) → FamiliesTo t.known.items (length t.known.items) families → (k : ℕ) → None ≡ slice_get families k → (R : Path) (Y : Name)
    → IsAt t.known.items k R → family_of R ≡ Some Y → ⊥
no_family t families all k at R Y a y =
    let w = all k R Y (slice_get_within t.known.items k (shown R) a) a y in
    let h : ◌≡◌ {A = Option ℕ} None (Some w.0) = at ∙ w.1 in
    cc h

-- ---- the group

rising : (xs : List ℕ) → IsStrictlyIncreasing xs → (i j u v : ℕ) → i < j → slice_get xs i ≡ Some u → slice_get xs j ≡ Some v → u < v
rising xs up i j u v l a b =
    let low = below_from_sorted xs i j 0 (sorted_from_strictly_increasing xs up) l (slice_get_within xs j v b) in
    omega (arith, low, get_or_from_slice_get xs i u 0 a, get_or_from_slice_get xs j v 0 b)

-- no path is of both kinds
pub not_both : (p : Program) (t : Table) → IsFilled p t → (k : ℕ) (R : Path) → IsAt t.known.items k R → HasKind p R kind.Package → IsClass p R → ⊥
not_both p t f k R a one c =
    let r = f.table.rows in
    let o = in_order (class_cmp p) r.paths r.in_order in
    let place = at_shown r.paths k R (subst (λ (xs : List ShownPath). slice_get xs k ≡ Some (shown R)) r.shown_are a) in
    let row = Each-at (IsRow p t.known.items) r.each k R place in
    let e : ◌≡◌ {A = Kind} kind.Package kind.Class = (row.2.kind kind.Package).0 one ∙ sym ((row.2.kind kind.Class).0 c.kind) in
    cc e

pub package_group : (p : Program) (n : Naming) (R : Path) → (IsClass p R → ⊥) → GroupIs p n R 65535
package_group p n R other = record { of_package = λ h. refl; of_class = λ c. absurd (other c) }

module _ (p : Program) (t : Table) (f : IsFilled p t) (firsts : List ℕ) (lists : Lists (FirstAt p t.known.items) firsts) where
  record Here (k : ℕ) : Type 0 where
    path : Path
    at : IsAt t.known.items k path
    first : (R : Path) × IsClass p R × IsFirst p (Related p R) path

  here : (k : ℕ) → Contains firsts k → Here k
  here k c = let x = (lists.exact k).0 c in record { path = x.class; at = x.at; first = (x.class, x.first.holds.one, x.first) }

  abbrev paths_of : (xs : List ℕ) → ((k : ℕ) → Contains xs k → Here k) → List Path
  paths_of [] h = []
  paths_of (x ∷ xs) h = (h x (0, omega arith, refl)).path ∷ paths_of xs (λ k c. h k (let d = c in (suc d.0, omega (arith, d.1), d.2)))

  path_of : (xs : List ℕ) (h : (k : ℕ) → Contains xs k → Here k) (i k : ℕ) → slice_get xs i ≡ Some k → (R : Path) × (slice_get (paths_of xs h) i ≡ Some R) × IsAt t.known.items k R
  path_of [] h i k e = absurd (cc e)
  path_of (x ∷ xs) h zero k e =
      let same : x ≡ k = cc e in
      let w = h x (0, omega arith, refl) in
      (w.path, refl, subst (λ (j : ℕ). IsAt t.known.items j w.path) same w.at)
  path_of (x ∷ xs) h (suc i) k e = path_of xs _ i k e

  of_path : (xs : List ℕ) (h : (k : ℕ) → Contains xs k → Here k) (i : ℕ) (R : Path) → slice_get (paths_of xs h) i ≡ Some R
      → (k : ℕ) × (slice_get xs i ≡ Some k) × IsAt t.known.items k R × ((V : Path) × IsClass p V × IsFirst p (Related p V) R)
  of_path [] h i R e = absurd (cc e)
  of_path (x ∷ xs) h zero R e =
      let w = h x (0, omega arith, refl) in
      let same : w.path ≡ R = cc e in
      (x, refl, subst (IsAt t.known.items x) same w.at, subst (λ (Q : Path). (V : Path) × IsClass p V × IsFirst p (Related p V) Q) same w.first)
  of_path (x ∷ xs) h (suc i) R e = of_path xs _ i R e

  abbrev listed : List Path
  listed = paths_of firsts here

  in_class_order : IsStrictlySortedBy (class_cmp p) listed
  in_class_order = sorted (class_cmp p) listed (record {
    by = λ i j x y l a b.
        let u = of_path firsts here i x a in
        let v = of_path firsts here j y b in
        let r = f.table.rows in
        let low : u.0 < v.0 = rising firsts lists.ascending i j u.0 v.0 l u.1 v.1 in
        (numbers_before p r.paths t.known.items r.shown_are (in_order (class_cmp p) r.paths r.in_order) (record { 0 = u.0 }) (record { 0 = v.0 }) x y u.2 v.2).0 low;
  })

  each_of : (xs : List ℕ) (h : (k : ℕ) → Contains xs k → Here k) → Each (λ (G : Path) (k : ℕ). IsAt t.known.items k G) (paths_of xs h) xs
  each_of [] h = none
  each_of (x ∷ xs) h = more ((h x (0, omega arith, refl)).at) (each_of xs _)

  among_listed : (G R : Path) → IsFirst p (Related p R) G → Contains listed G
  among_listed G R x =
      let i = f.whole.whole G x.holds.other.universe in
      let back = (sharing_laws p).turned R G x.holds in
      let k = (lists.exact i.0.0).1 (record {
        class = G;
        at = i.1;
        first = record { holds = (sharing_laws p).itself G back.one; first = λ Q q. x.first Q ((sharing_laws p).joined R G Q x.holds q) };
      }) in
      let at = list_at firsts i.0.0 k in
      let u = path_of firsts here at.0 i.0.0 at.1 in
      in_list listed at.0 G (u.1 ∙ ap Some (number_path t.known.items i.0 u.0 G u.2 i.1))

  -- their paths are the first classes of all groups
  pub firsts_there : (gs : List Path) × FirstsAre p gs × Each (λ (G : Path) (k : ℕ). IsAt t.known.items k G) gs firsts
  firsts_there = (
    listed,
    record {
      exact = λ G. (
        λ c. let e = list_at listed G c in (of_path firsts here e.0 G e.1).3,
        λ x. among_listed G x.0 x.2,
      );
      in_order = in_class_order;
      once = λ j k G a b. one_place (class_cmp p) (before_irreflexive p) listed (in_order (class_cmp p) listed in_class_order) j k G a b;
    },
    each_of firsts here,
  )

  module _ (n : Naming) (are : FirstsAre p n.groups) where
    same_list : listed ≡ n.groups
    same_list = sorted_once (class_total p) listed n.groups in_class_order are.in_order
        (λ G a. let c = contains_of listed G a in
        let e = list_at listed G c in
        let u = of_path firsts here e.0 G e.1 in
        among_of n.groups G ((are.exact G).1 u.3))
        (λ G a.
        let x = (are.exact G).0 (contains_of n.groups G a) in
        let i = f.whole.whole G x.2.holds.other.universe in
        let back = (sharing_laws p).turned x.0 G x.2.holds in
        let k = (lists.exact i.0.0).1 (record {
          class = G;
          at = i.1;
          first = record { holds = (sharing_laws p).itself G back.one; first = λ Q q. x.2.first Q ((sharing_laws p).joined x.0 G Q x.2.holds q) };
        }) in
        let at = list_at firsts i.0.0 k in
        let u = path_of firsts here at.0 i.0.0 at.1 in
        let same = number_path t.known.items i.0 u.0 G u.2 i.1 in
        among_of listed G (in_list listed at.0 G (u.1 ∙ ap Some same)))

    pub class_group : (R : Path) → IsClass p R → (k : ℕ) → IsAt t.known.items k R → (first g told : ℕ) → FirstOf p t.known.items R first → slice_get firsts g ≡ Some first
        → length n.groups < 65535 → (g ≤ 65535 → told ≡ g) → GroupIs p n R told
    class_group R c k a first g told x at few is = record {
      of_package = λ h. absurd (not_both p t f k R a h c);
      of_class = λ d. (x.class, x.first, subst (λ (i : ℕ). slice_get n.groups i ≡ Some x.class) (sym told_is) there);
    } where
      u : (Q : Path) × (slice_get listed g ≡ Some Q) × IsAt t.known.items first Q
      u = path_of firsts here g first at

      there : slice_get n.groups g ≡ Some x.class
      there = subst (λ (xs : List Path). slice_get xs g ≡ Some x.class) same_list
          (u.1 ∙ ap Some (number_path t.known.items (record { 0 = first }) u.0 x.class u.2 x.at))

      told_is : told ≡ g
      told_is = is (let l = slice_get_within n.groups g x.class there in omega (arith, l, few))

    pub class_no_group : (R : Path) → (first : ℕ) → FirstOf p t.known.items R first → (Contains firsts first → ⊥) → ⊥
    class_no_group R first x without =
        without ((lists.exact first).1 (record {
          class = x.class;
          at = x.at;
          first = record {
            holds = (sharing_laws p).itself x.class x.first.holds.other;
            first = λ Q q. x.first.first Q ((sharing_laws p).joined R x.class Q x.first.holds q);
          };
        }))

-- ---- places

abbrev pub NotTo : List ℕ → ℕ → ℕ → Type 0
NotTo xs x n = (j y : ℕ) → j < n → slice_get xs j ≡ Some y → y ≡ x → ⊥

pub not_there : (xs : List ℕ) (x n : ℕ) → length xs ≤ n → NotTo xs x n → Contains xs x → ⊥
not_there xs x n past w c = let e = list_at xs x c in w e.0 x (let l = slice_get_within xs e.0 x e.1 in omega (arith, l, past)) e.1 refl

-- ---- members

pub members_are : (p : Program) (t : Table) (n : Naming) → IsFilled p t → AreClassesOf t n → (R : Path) (row : Row) → IsRow p t.known.items R row → (pairs all : List Pair)
    → pairs ≡ map member_pair row.members.items → ((x : Pair) → Contains all x ↔ Contains pairs x) → IsStrictlySortedBy pair_cmp all → AreEntries (MemberAt n R) all
members_are p t n f e R row is pairs all made same order = record { exact = λ x. (to x, from x); in_order = order } where
  known : List ShownPath
  known = t.known.items

  to : (x : Pair) → Contains all x → MemberAt n R x.key x.value
  to x c =
      let at = list_at pairs x ((same x).0 c) in
      let m = at_map member_pair row.members.items at.0 x (subst (λ (xs : List Pair). slice_get xs at.0 ≡ Some x) made at.1) in
      let w = Each-back (IsMember known R) is.members.numbered at.0 m.0 m.1 in
      record {
        name = m.0.name;
        is = ap (λ (y : Pair). y.key) (sym m.2);
        class = class_at t n e x.value (m.0.name ∷ R)
            (subst (λ (i : ℕ). IsAt known i (m.0.name ∷ R)) (ap (λ (y : Pair). y.value) m.2) (subst (λ (N : Name). IsNumber known m.0.id (N ∷ R)) (sym w.2.name) w.2.id));
      }

  from : (x : Pair) → MemberAt n R x.key x.value → Contains all x
  from x w =
      let a = at_class t n e x.value (w.name ∷ R) w.class in
      let u = numbered_known p t (w.name ∷ R) (record { 0 = x.value }) f a in
      let c = (is.members.are.exact w.name).1 u.1 in
      let at = list_at is.members.names w.name c in
      let m = Each-at (IsMember known R) is.members.numbered at.0 w.name at.1 in
      let value : m.0.id.0 ≡ x.value = one_number p t f m.0.id.0 x.value (w.name ∷ R) m.2.id a in
      let key : m.0.name.0 ≡ x.key = ap (λ (N : Name). N.0) m.2.name ∙ sym w.is in
      let pair : member_pair m.0 ≡ x = ap (λ (i : ℕ). record { key = i; value = m.0.id.0 }) key ∙ ap (λ (i : ℕ). record { key = x.key; value = i }) value in
      (same x).1 (subst (λ (xs : List Pair). Contains xs x) (sym made) (in_mapped member_pair row.members.items at.0 m.0 x m.1 pair))

-- ---- counterparts

module _ (p : Program) (t : Table) (n : Naming) (f : IsFilled p t) (e : AreClassesOf t n) (families : List ℕ) (all : FamiliesTo t.known.items (length t.known.items) families) where
  record FamilyHere (k : ℕ) (R : Path) : Type 0 where
    name : Name
    is : family_of R ≡ Some name
    number : ℕ
    told : slice_get families k ≡ Some number
    at : IsAt t.known.items number (name ∷ [])

  family_here : (k : ℕ) (R : Path) → IsAt t.known.items k R → IsClass p R → FamilyHere k R
  family_here k R a c =
      let x = has_family p R c in
      let w = all k R x.0 (slice_get_within t.known.items k (shown R) a) a x.1 in
      record { name = x.0; is = x.1; number = w.0; told = w.1; at = w.2 }

  module _ (k j : ℕ) (R S : Path) (a : IsAt t.known.items k R) (b : IsAt t.known.items j S) (r : Related p S R) where
    its_class : (x : Pair) → (o : OtherPair p n R j x) → o.other.class ≡ S
    its_class x o =
        let at : slice_get n.classes j ≡ Some o.other.class = subst (λ (i : ℕ). slice_get n.classes i ≡ Some o.other.class) o.class o.other.at in
        same_some (slice_get n.classes j) o.other.class S at (class_at t n e j S b)

    its_family : (x : Pair) → (o : OtherPair p n R j x) → family_of S ≡ Some o.other.family
    its_family x o = subst (λ (Q : Path). family_of Q ≡ Some o.other.family) (its_class x o) ((sharing_laws p).family o.other.family R o.other.class o.other.counterpart)

    pub no_own : None ≡ slice_get families k → ⊥
    no_own q = let w = family_here k R a r.other in
        let h : ◌≡◌ {A = Option ℕ} None (Some w.number) = q ∙ w.told in
        cc h

    pub no_other : None ≡ slice_get families j → ⊥
    no_other q = let w = family_here j S b r.one in
        let h : ◌≡◌ {A = Option ℕ} None (Some w.number) = q ∙ w.told in
        cc h

    pub other_same : (x y : ℕ) → Some x ≡ slice_get families k → Some y ≡ slice_get families j → x ≡ y → OnlyIs (OtherPair p n R j) None
    other_same x y own other same d o =
        let u = family_here k R a r.other in
        let v = family_here j S b r.one in
        let m : u.number ≡ v.number = same_some (slice_get families k) u.number x u.told (sym own) ∙ (same ∙ same_some (slice_get families j) y v.number (sym other) v.told) in
        let names : (u.name ∷ []) ≡ (v.name ∷ []) = number_path t.known.items (record { 0 = v.number }) (u.name ∷ []) (v.name ∷ [])
        (subst (λ (i : ℕ). IsAt t.known.items i (u.name ∷ [])) m u.at) v.at in
        let name : u.name ≡ v.name = cc names in
        let mine : Some v.name ≡ Some o.other.family = sym v.is ∙ its_family d o in
        o.other.other (u.is ∙ (ap Some name ∙ mine))

    pub other_apart : (x y key value : ℕ) → Some x ≡ slice_get families k → Some y ≡ slice_get families j → (x ≡ y → ⊥) → (y < 4294967296 → key ≡ y) → (j < 4294967296 → value ≡ j)
        → OnlyIs (OtherPair p n R j) (Some (record { key = key; value = value }))
    other_apart x y key value own other apart key_is value_is = (it, λ d o. only d o) where
      u : FamilyHere k R
      u = family_here k R a r.other

      v : FamilyHere j S
      v = family_here j S b r.one

      own_is : u.number ≡ x
      own_is = same_some (slice_get families k) u.number x u.told (sym own)

      other_is : v.number ≡ y
      other_is = same_some (slice_get families j) v.number y v.told (sym other)

      at_y : IsAt t.known.items y (v.name ∷ [])
      at_y = subst (λ (i : ℕ). IsAt t.known.items i (v.name ∷ [])) other_is v.at

      key_y : key ≡ y
      key_y = key_is (let l = slice_get_within t.known.items y (shown (v.name ∷ [])) at_y in omega (arith, l, t.few))

      value_j : value ≡ j
      value_j = value_is (let l = slice_get_within t.known.items j (shown S) b in omega (arith, l, t.few))

      another : family_of R ≡ Some v.name → ⊥
      another q =
          let h : Some u.name ≡ Some v.name = sym u.is ∙ q in
          let name : u.name ≡ v.name = cc h in
          apart (sym own_is ∙ (one_number p t f u.number v.number (v.name ∷ []) (subst (λ (N : Name). IsAt t.known.items u.number (N ∷ [])) name u.at) v.at ∙ other_is))

      back : Related p R S
      back = (sharing_laws p).turned S R r

      it : OtherPair p n R j (record { key = key; value = value })
      it = record {
        class = value_j;
        other = record {
          family = v.name;
          number = subst (λ (i : ℕ). slice_get n.classes i ≡ Some (v.name ∷ [])) (sym key_y) (class_at t n e y (v.name ∷ []) at_y);
          other = another;
          class = S;
          counterpart = record { is = linked_inner p R S v.name r.other back.linked v.is; related = back };
          at = subst (λ (i : ℕ). slice_get n.classes i ≡ Some S) (sym value_j) (class_at t n e j S b);
        };
      }

      only : (d : Pair) → OtherPair p n R j d → d ≡ record { key = key; value = value }
      only d o =
          let h : Some v.name ≡ Some o.other.family = sym v.is ∙ its_family d o in
          let name : v.name ≡ o.other.family = cc h in
          let there = at_class t n e d.key (v.name ∷ []) (subst (λ (N : Name). slice_get n.classes d.key ≡ Some (N ∷ [])) (sym name) o.other.number) in
          let one : d.key ≡ key = one_number p t f d.key y (v.name ∷ []) there at_y ∙ sym key_y in
          let two : d.value ≡ value = o.class ∙ sym value_j in
          ap (λ (i : ℕ). record { key = i; value = d.value }) one ∙ ap (λ (i : ℕ). record { key = key; value = i }) two

  pub other_none : (k j : ℕ) (R : Path) (b : Bool) → b ≡ false → SaysClass t j b → OnlyIs (OtherPair p n R j) None
  other_none k j R b isnt says d o =
      let at : slice_get n.classes j ≡ Some o.other.class = subst (λ (i : ℕ). slice_get n.classes i ≡ Some o.other.class) o.class o.other.at in
      not_when isnt (says p o.other.class f (at_class t n e j o.other.class at)) o.other.counterpart.related.other

pub others_are : (p : Program) (n : Naming) (R : Path) (numbers : List ℕ) (pairs all : List Pair) → Gathers (OtherPair p n R) numbers pairs
    → ((j : ℕ) (S : Path) → slice_get n.classes j ≡ Some S → Related p R S → Contains numbers j) → ((x : Pair) → Contains all x ↔ Contains pairs x)
    → IsStrictlySortedBy pair_cmp all → AreEntries (HasOther p n R) all
others_are p n R numbers pairs all g has same order = record {
  exact = λ x. (
    λ c. (g.sound x ((same x).0 c)).2.other,
    λ o. (same x).1 (g.complete x.value x (has x.value o.class o.at o.counterpart.related) (record { class = refl; other = o })),
  );
  in_order = order;
}

pub no_others : (p : Program) (n : Naming) (R : Path) (empty all : List Pair) → (IsClass p R → ⊥) → empty ≡ [] → ((x : Pair) → Contains all x ↔ Contains empty x)
    → IsStrictlySortedBy pair_cmp all → AreEntries (HasOther p n R) all
no_others p n R empty all outside e same order = record {
  exact = λ x. (
    λ c. absurd (in_none x (subst (λ (xs : List Pair). Contains xs x) e ((same x).0 c))),
    λ o. absurd (outside o.counterpart.related.one),
  );
  in_order = order;
}

-- two clauses of one answer
pub ok_both : {X E : Type 0} (r : Result X E) {P Q T : X → Type 0} → IfOk r P → IfOk r Q → ((x : X) → P x → Q x → T x) → IfOk r T
ok_both (Ok x) a b k = k x a b
ok_both (Err e) a b k = tt

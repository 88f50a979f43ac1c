-- What the rows of members say of paths, and what follows for the least declaration of a method and the declaration of a field.
use Rattle.std.proofs.Common.{◌≡◌, ◌<◌, ◌≤◌, ℕ, false, nat_eq, zero, suc, List, [], ◌∷◌, length, get_or, slice_get}
use Rattle.std.proofs.Common.{Some, None, Option, refl, sym, ap, ◌∙◌, subst, ◌⊎◌, inl, inr, Contains, ◌↔◌, arith}
use Rattle.std.specs.Option.{option_map_or}
use Rattle.std.proofs.lemmas.Bool.{cases_lt, cases_order}
use Rattle.std.proofs.lemmas.Option.{slice_get_read, get_or_from_slice_get}
use Rattle.indexmap.specs.IndexMap.{get}
use Rattle.jn_reach.proofs.Eachs.{Each-at, Each-back}
use Rattle.jn_reach.proofs.Searches.{same_some}
use Rattle.jn_base.specs.declared.tree.Name.{Name}
use Rattle.jn_base.specs.declared.tree.Program.{Program}
use Rattle.jn_base.specs.Paths.{Path}
use Rattle.jn_base.specs.Supers.{Sup, itself}
use Rattle.jn_base.specs.Members.{Decls, Least as IsLeast, FieldDecls, IsField}
use Rattle.jn_base.specs.ClassOrder.{class_cmp, Before, IsFirst}
use Rattle.jn_base.proofs.NameTests.{in_cons, in_none, first, later}
use Rattle.jn_base.proofs.SuperLaws.{sup_joined}
use Rattle.jn_table.specs.declared.class.ClassId.{ClassId}
use Rattle.jn_table.specs.declared.table.Table.{Table}
use Rattle.jn_table.specs.Exact.{MethodNamed, FieldNamed}
use Rattle.jn_table.specs.Rows.{IsNumber, AreClasses}
use Rattle.jn_table.proofs.Shown.{number_path, path_number, numbers_before, classes_at, same_id}
use Rattle.jn_table.proofs.Sorted.{in_order}
use Rattle.jn_names.specs.declared.member_row.MemberRow.{MemberRow}
use Rattle.jn_names.specs.declared.members.Members.{Members}
use Rattle.jn_names.specs.Ascending.{Ascend, class_number}
use Rattle.jn_names.specs.ByName.{is_kept, kept_at}
use Rattle.jn_names.specs.Listed.{method_keys, field_keys, has_key, row_has}
use Rattle.jn_names.specs.MemberRows.{SupAtRow, HasLowerRow, PassedTo, IsLowRow, FirstLowRow, FieldlessTo, IsFieldRow}
use Rattle.jn_names.specs.MemberRows.{FirstFieldRow}
use Rattle.jn_names.specs.Members.{IsMembersOf, IsLow}
use Rattle.jn_names.proofs.Descent.{LowerIn, no_descent}
use Rattle.jn_names.proofs.NameSets.{tells}
use Rattle.jn_names.proofs.Keeping.{kept_from, from_kept}

-- numbers are one or two
id_cases : (a b : ClassId) → (a ≡ b) ⊎ (a ≡ b → ⊥)
id_cases a b = by_order (cases_order a.0 b.0) where
  by_order : (a.0 ≡ b.0) ⊎ ((a.0 < b.0) ⊎ (b.0 < a.0)) → (a ≡ b) ⊎ (a ≡ b → ⊥)
  by_order (inl e) = inl (same_id a b e)
  by_order (inr (inl h)) = inr (λ e. let k : a.0 ≡ b.0 = ap (λ (x : ClassId). x.0) e in omega (arith, k, h))
  by_order (inr (inr h)) = inr (λ e. let k : a.0 ≡ b.0 = ap (λ (x : ClassId). x.0) e in omega (arith, k, h))

contains_cases : (ids : List ClassId) (b : ClassId) → Contains ids b ⊎ (Contains ids b → ⊥)
contains_cases [] b = inr (λ c. in_none b c)
contains_cases (a ∷ ids) b = by_both (id_cases a b) (contains_cases ids b) where
  by_both : (a ≡ b) ⊎ (a ≡ b → ⊥) → Contains ids b ⊎ (Contains ids b → ⊥) → Contains (a ∷ ids) b ⊎ (Contains (a ∷ ids) b → ⊥)
  by_both (inl e) k = inl (subst (λ (x : ClassId). Contains (a ∷ ids) x) e (first a ids))
  by_both (inr n) (inl c) = inl (later a ids b c)
  by_both (inr n) (inr m) = inr (λ c. neither (in_cons a ids b c)) where
    neither : (a ≡ b) ⊎ Contains ids b → ⊥
    neither (inl e) = n e
    neither (inr c) = m c

pub place_of : {A : Type 0} (xs : List A) (x : A) → Contains xs x → (k : ℕ) × (k < length xs) × (slice_get xs k ≡ Some x)
place_of xs x c = (c.0, c.1, slice_get_read xs (length xs) c.0 x refl c.1 (sym c.2))

pub among_of : {A : Type 0} (xs : List A) (k : ℕ) (x : A) → slice_get xs k ≡ Some x → Contains xs x
among_of [] k x a = absurd (cc a)
among_of (y ∷ xs) zero x a = let e : y ≡ x = cc a in subst (λ z. Contains (y ∷ xs) z) e (first y xs)
among_of (y ∷ xs) (suc k) x a = later y xs x (among_of xs k x a)

pub within_of : {A : Type 0} (xs : List A) (k : ℕ) (x : A) → slice_get xs k ≡ Some x → k < length xs
within_of [] k x a = absurd (cc a)
within_of (y ∷ xs) zero x a = omega arith
within_of (y ∷ xs) (suc k) x a = let h = within_of xs k x a in omega (arith, h)

module _ (p : Program) (t : Table) (ms : Members) (g : IsMembersOf p t ms) where
  abbrev pub Num : ClassId → Path → Type 0
  Num id R = IsNumber t.known.items id R

  one_number : (a b : ClassId) (R : Path) → Num a R → Num b R → a ≡ b
  one_number a b R x y =
      let r = g.filled.table.rows in
      path_number p r.paths t.known.items r.shown_are (in_order (class_cmp p) r.paths r.in_order) a b R x y

  -- the number is kept where the row has the key
  key_kept : (keys : MemberRow → List ℕ) (m : ℕ) (ids : List ClassId) (s : ClassId) (row : MemberRow)
      → slice_get ms.rows.items s.0 ≡ Some row
      → is_kept ids s ≡ row_has keys ms.rows.items m s.0 → Contains ids s ↔ Contains (keys row) m
  key_kept keys m ids s row at e =
      let k : is_kept ids s ≡ has_key keys m row = e
      ∙ ap (λ (o : Option MemberRow). option_map_or (has_key keys m) o false) at in (
        λ h. (tells (keys row) m (has_key keys m row) refl).0 (sym k ∙ kept_from ids s h),
        λ h. from_kept ids s (k ∙ (tells (keys row) m (has_key keys m row) refl).1 h),
      )

  pub methods_own : (m : Name) (s : ClassId) (S : Path) → Num s S
      → Contains (kept_at (get nat_eq ms.by_method) m.0) s ↔ MethodNamed p S m
  methods_own m s S n =
      let r = g.rows s S n in
      let k = key_kept method_keys m.0 (kept_at (get nat_eq ms.by_method) m.0) s r.row r.at (ms.methods_listed.exact m.0 s) in
      (λ h. (r.is.methods m).0 (k.0 h), λ h. k.1 ((r.is.methods m).1 h))

  pub fields_own : (f : Name) (s : ClassId) (S : Path) → Num s S
      → Contains (kept_at (get nat_eq ms.by_field) f.0) s ↔ FieldNamed p S f
  fields_own f s S n =
      let r = g.rows s S n in
      let k = key_kept field_keys f.0 (kept_at (get nat_eq ms.by_field) f.0) s r.row r.at (ms.fields_listed.exact f.0 s) in
      (λ h. (r.is.fields f).0 (k.0 h), λ h. k.1 ((r.is.fields f).1 h))

  row_sups : (A : Path) (ids : List ClassId) → AreClasses p t.known.items (Sup p A) ids → (b : ClassId) (B : Path)
      → Num b B → Contains ids b ↔ Sup p A B
  row_sups A ids c b B y =
      let r = g.filled.table.rows in
      classes_at p r.paths t.known.items r.shown_are (in_order (class_cmp p) r.paths r.in_order) (Sup p A) ids c b B y

  pub sup_row : (a b : ClassId) (A B : Path) → Num a A → Num b B → SupAtRow ms.rows.items a b ↔ Sup p A B
  sup_row a b A B x y =
      let r = g.rows a A x in
      let k = row_sups A r.row.sups.items r.is.sups b B y in (
        λ z. k.0 (subst (λ (w : MemberRow). Contains w.sups.items b)
            (same_some (slice_get ms.rows.items a.0) z.0 r.row z.1 r.at) z.2),
        λ s. (r.row, r.at, k.1 s),
      )

  -- of two paths with numbers, one is a super of the other or not
  sup_cases : (a b : ClassId) (A B : Path) → Num a A → Num b B → Sup p A B ⊎ (Sup p A B → ⊥)
  sup_cases a b A B x y = by_row (contains_cases (g.rows a A x).row.sups.items b) where
    by_row : Contains (g.rows a A x).row.sups.items b ⊎ (Contains (g.rows a A x).row.sups.items b → ⊥)
        → Sup p A B ⊎ (Sup p A B → ⊥)
    by_row (inl c) = inl ((row_sups A (g.rows a A x).row.sups.items (g.rows a A x).is.sups b B y).0 c)
    by_row (inr n) = inr (λ s. n ((row_sups A (g.rows a A x).row.sups.items (g.rows a A x).is.sups b B y).1 s))

  module _ (R : Path) (sups : List ClassId) (c : AreClasses p t.known.items (Sup p R) sups) where
    -- the number of a super
    number_of : (S : Path) → Sup p R S → (id : ClassId) × Contains sups id × Num id S
    number_of S s =
        let k = place_of c.paths S ((c.are.exact S).1 s) in
        let e = Each-at (λ (S : Path) (id : ClassId). Num id S) c.numbered k.0 S k.2 in
        (e.0, among_of sups k.0 e.0 e.1, e.2)

    -- the path of a super's number
    pub record PathOf (id : ClassId) : Type 0 where
      pub path : Path
      pub number : Num id path
      pub super : Sup p R path

    pub path_of : (id : ClassId) → Contains sups id → PathOf id
    path_of id h =
        let k = place_of sups id h in
        let e = Each-back (λ (S : Path) (id : ClassId). Num id S) c.numbered k.0 id k.2 in
        record { path = e.0; number = e.2; super = (c.are.exact e.0).0 (among_of c.paths k.0 e.0 e.1) }

    -- a super among the numbers, with its place there
    record SuperAt (ids : List ClassId) (S : Path) : Type 0 where
      place : ℕ
      id : ClassId
      id_at : slice_get ids place ≡ Some id
      super : Contains sups id
      number : Num id S

    super_at : (ids : List ClassId) (S : Path) → Sup p R S → ((s : ClassId) → Num s S → Contains ids s) → SuperAt ids S
    super_at ids S s own =
        let n = number_of S s in
        let k = place_of ids n.0 (own n.0 n.2) in
        record { place = k.0; id = n.0; id_at = k.2; super = n.1; number = n.2 }

    earlier : (ids : List ClassId) → Ascend ids → (i j : ℕ) (a q : ClassId) (A Q : Path) → slice_get ids i ≡ Some a
        → slice_get ids j ≡ Some q
        → Num a A → Num q Q → Before p Q A → j < i
    earlier ids up i j a q A Q at there x y h = by_order (cases_lt j i) where
      lower : q.0 < a.0
      lower =
          let r = g.filled.table.rows in
          (numbers_before p r.paths t.known.items r.shown_are (in_order (class_cmp p) r.paths r.in_order) q a Q A y x).1 h

      by_order : (j < i) ⊎ (i ≤ j) → j < i
      by_order (inl l) = l
      by_order (inr l) =
          let k : class_number (get_or ids i a) ≤ class_number (get_or ids j a) = up i j a l (within_of ids j q there) in
          let e : class_number (get_or ids i a) ≡ a.0 = ap class_number (get_or_from_slice_get ids i a a at) in
          let f : class_number (get_or ids j a) ≡ q.0 = ap class_number (get_or_from_slice_get ids j q a there) in
          absurd (omega (arith, k, e, f, lower))

    module _ (m : Name) (ids : List ClassId)
        (own : (s : ClassId) (S : Path) → Num s S → Contains ids s ↔ MethodNamed p S m) (up : Ascend ids) where
      place_in : (S : Path) → Decls p R m S → SuperAt ids S
      place_in S d = super_at ids S d.super (λ s n. (own s S n).1 (d.method, d.at))

      decls_of : (id : ClassId) (S : Path) → Num id S → Sup p R S → Contains ids id → Decls p R m S
      decls_of id S n s h = let x = (own id S n).0 h in record { super = s; method = x.0; at = x.1 }

      lower_of : (s : ClassId) (S : Path) → Num s S → HasLowerRow ms.rows.items ids sups s → LowerIn p (Decls p R m) S
      lower_of s S n h =
          let w = h.1 in
          let T = path_of h.0 w.super in (
            T.path,
            decls_of h.0 T.path T.number T.super w.among,
            (sup_row h.0 s T.path S T.number n).0 w.below,
            λ e. w.other (one_number h.0 s S (subst (λ (P : Path). Num h.0 P) e T.number) n),
          )

      passed_at : (but : Option ClassId) (n : ℕ) → PassedTo ms.rows.items ids sups but n → (S : Path)
          → (w : SuperAt ids S) → w.place < n
          → (but ≡ Some w.id) ⊎ LowerIn p (Decls p R m) S
      passed_at but n h S w l = by_row (h w.place w.id l w.id_at w.super) where
        by_row : (but ≡ Some w.id) ⊎ HasLowerRow ms.rows.items ids sups w.id → (but ≡ Some w.id) ⊎ LowerIn p (Decls p R m) S
        by_row (inl e) = inl e
        by_row (inr k) = inr (lower_of w.id S w.number k)

      low_is : (but : Option ClassId) (k : ℕ) (a : ClassId) (A : Path) → slice_get ids k ≡ Some a → Num a A
          → IsLowRow ms.rows.items ids sups but a → IsLow p R m A
      low_is but k a A at x w =
          let q = path_of a w.super in
          let e : q.path ≡ A = number_path t.known.items a q.path A q.number x in record {
            declares = decls_of a A x (subst (Sup p R) e q.super) (among_of ids k a at);
            none_below = λ S d below. by_number S (place_in S d) below;
          } where
            by_number : (S : Path) → SuperAt ids S → Sup p S A → S ≡ A
            by_number S q below = by_cases (id_cases q.id a) where
              by_cases : (q.id ≡ a) ⊎ (q.id ≡ a → ⊥) → S ≡ A
              by_cases (inl e) = number_path t.known.items a S A (subst (λ (x : ClassId). Num x S) e q.number) x
              by_cases (inr n) = absurd (w.low (
                q.id,
                record {
                  among = among_of ids q.place q.id q.id_at;
                  super = q.super;
                  other = n;
                  below = (sup_row q.id a S A q.number x).1 below;
                },
              ))

      not_low : (S : Path) → IsLow p R m S → LowerIn p (Decls p R m) S → ⊥
      not_low S w l = l.3 (w.none_below l.0 l.1 l.2)

      -- the first one found is the first in class order below which no other stands
      pub first_is : (a : ClassId) (f : FirstLowRow ms.rows.items ids sups None a) → (A : Path) → Num a A
          → IsFirst p (IsLow p R m) A
      first_is a f A x =
          record { holds = low_is None f.place a A f.at x f.is; first = λ S w b. by_place S w (place_in S w.declares) b } where
            by_place : (S : Path) → IsLow p R m S → SuperAt ids S → Before p S A → ⊥
            by_place S w s b =
                by_row (passed_at None f.place f.before S s
                (earlier ids up f.place s.place a s.id A S f.at s.id_at x s.number b)) where
                  by_row : (◌≡◌ {A = Option ClassId} None (Some s.id)) ⊎ LowerIn p (Decls p R m) S → ⊥
                  by_row (inl e) = cc e
                  by_row (inr l) = not_low S w l

      pub second_is : (a b : ClassId) (f : FirstLowRow ms.rows.items ids sups (Some a) b) → (A B : Path) → Num a A → Num b B
          → IsFirst p (λ S. IsLow p R m S × (S ≡ A → ⊥)) B
      second_is a b f A B x y = record {
        holds = (
          low_is (Some a) f.place b B f.at y f.is,
          λ h. f.is.other (ap Some (one_number a b B (subst (λ (P : Path). Num a P) (sym h) x) y)),
        );
        first = λ S w h. by_place S w.0 w.1 (place_in S w.0.declares) h;
      } where
        by_place : (S : Path) → IsLow p R m S → (S ≡ A → ⊥) → SuperAt ids S → Before p S B → ⊥
        by_place S w n s h =
            by_row (passed_at (Some a) f.place f.before S s
            (earlier ids up f.place s.place b s.id B S f.at s.id_at y s.number h)) where
              by_row : (◌≡◌ {A = Option ClassId} (Some a) (Some s.id)) ⊎ LowerIn p (Decls p R m) S → ⊥
              by_row (inl e) =
                  let k : a ≡ s.id = cc e in
                  n (number_path t.known.items a S A (subst (λ (i : ClassId). Num i S) (sym k) s.number) x)
              by_row (inr l) = not_low S w l

      -- nothing was found: no path declares the method
      pub none_is : PassedTo ms.rows.items ids sups None (length ids) → (S : Path) → Decls p R m S → ⊥
      none_is h =
          no_descent p g.acyclic c.paths (Decls p R m) (λ S d. (c.are.exact S).1 d.super) (λ S d. by_place S (place_in S d)) where
            by_place : (S : Path) → SuperAt ids S → LowerIn p (Decls p R m) S
            by_place S s = by_row (passed_at None (length ids) h S s (within_of ids s.place s.id s.id_at)) where
              by_row : (◌≡◌ {A = Option ClassId} None (Some s.id)) ⊎ LowerIn p (Decls p R m) S → LowerIn p (Decls p R m) S
              by_row (inl e) = absurd (cc e)
              by_row (inr l) = l

      -- a declaration that does not stand above A
      abbrev Away : Path → Path → Type 0
      Away A S = Decls p R m S × (Sup p A S → ⊥)

      -- no second one was found: the first has all others above it
      pub only_is : (a : ClassId) (A : Path) → Num a A → IsLow p R m A
          → PassedTo ms.rows.items ids sups (Some a) (length ids) → IsLeast p R m A
      only_is a A x w h =
          record {
            among = w.declares;
            below = λ S d. by_cases S d (sup_cases a (place_in S d).id A S x (place_in S d).number);
          } where
            by_place : (S : Path) → Away A S → SuperAt ids S → LowerIn p (Away A) S
            by_place S v s = by_row (passed_at (Some a) (length ids) h S s (within_of ids s.place s.id s.id_at)) where
              by_row : (◌≡◌ {A = Option ClassId} (Some a) (Some s.id)) ⊎ LowerIn p (Decls p R m) S → LowerIn p (Away A) S
              by_row (inl e) =
                  let k : a ≡ s.id = cc e in
                  let i : A ≡ S = number_path t.known.items a A S x (subst (λ (j : ClassId). Num j S) (sym k) s.number) in
                  absurd (v.1 (subst (Sup p A) i itself))
              by_row (inr l) = (l.0, (l.1, λ z. v.1 (sup_joined z l.2)), l.2, l.3)

            by_cases : (S : Path) → Decls p R m S → Sup p A S ⊎ (Sup p A S → ⊥) → Sup p A S
            by_cases S d (inl s) = s
            by_cases S d (inr n) =
                absurd (no_descent p g.acyclic c.paths (Away A) (λ T v. (c.are.exact T).1 v.0.super)
                (λ T v. by_place T v (place_in T v.0)) S (d, n))

      -- two below which no other stands: there is no least one
      pub none_least : (A B : Path) → IsLow p R m A → IsLow p R m B → (B ≡ A → ⊥) → (Q : Path) → IsLeast p R m Q → ⊥
      none_least A B a b n Q q =
          n (sym (b.none_below Q q.among (q.below B b.declares)) ∙ a.none_below Q q.among (q.below A a.declares))

    module _ (f : Name) (ids : List ClassId)
        (own : (s : ClassId) (S : Path) → Num s S → Contains ids s ↔ FieldNamed p S f) (up : Ascend ids) where
      field_in : (S : Path) → FieldDecls p R f S → SuperAt ids S
      field_in S d = super_at ids S d.super (λ s n. (own s S n).1 (d.field, d.at))

      fieldless_at : (but : Option ClassId) (n : ℕ) → FieldlessTo ids sups but n → (S : Path) → (w : SuperAt ids S)
          → w.place < n → but ≡ Some w.id
      fieldless_at but n h S w l = h w.place w.id l w.id_at w.super

      pub field_of : (but : Option ClassId) (k : ℕ) (a : ClassId) (A : Path) → slice_get ids k ≡ Some a → Num a A
          → IsFieldRow sups but a → FieldDecls p R f A
      field_of but k a A at x w =
          let q = path_of a w.super in
          let e : q.path ≡ A = number_path t.known.items a q.path A q.number x in
          let o = (own a A x).0 (among_of ids k a at) in
          record { super = subst (Sup p R) e q.super; field = o.0; at = o.1 }

      pub first_field_is : (a : ClassId) (w : FirstFieldRow ids sups None a) → (A : Path) → Num a A
          → IsFirst p (FieldDecls p R f) A
      first_field_is a w A x =
          record { holds = field_of None w.place a A w.at x w.is; first = λ S d b. by_place S (field_in S d) b } where
            by_place : (S : Path) → SuperAt ids S → Before p S A → ⊥
            by_place S s b =
                let e : ◌≡◌ {A = Option ClassId} None (Some s.id) = fieldless_at None w.place w.before S s
                (earlier ids up w.place s.place a s.id A S w.at s.id_at x s.number b) in
                cc e

      pub second_field_is : (a b : ClassId) (w : FirstFieldRow ids sups (Some a) b) → (A B : Path) → Num a A → Num b B
          → IsFirst p (λ S. FieldDecls p R f S × (S ≡ A → ⊥)) B
      second_field_is a b w A B x y = record {
        holds = (
          field_of (Some a) w.place b B w.at y w.is,
          λ h. w.is.other (ap Some (one_number a b B (subst (λ (P : Path). Num a P) (sym h) x) y)),
        );
        first = λ S d h. by_place S d.1 (field_in S d.0) h;
      } where
        by_place : (S : Path) → (S ≡ A → ⊥) → SuperAt ids S → Before p S B → ⊥
        by_place S n s h =
            let e : ◌≡◌ {A = Option ClassId} (Some a) (Some s.id) = fieldless_at (Some a) w.place w.before S s
            (earlier ids up w.place s.place b s.id B S w.at s.id_at y s.number h) in
            let k : a ≡ s.id = cc e in
            n (number_path t.known.items a S A (subst (λ (i : ClassId). Num i S) (sym k) s.number) x)

      pub no_field_is : FieldlessTo ids sups None (length ids) → (S : Path) → FieldDecls p R f S → ⊥
      no_field_is h S d =
          let s = field_in S d in
          let e : ◌≡◌ {A = Option ClassId} None (Some s.id) = fieldless_at None (length ids) h S s
          (within_of ids s.place s.id s.id_at) in
          cc e

      pub only_field_is : (a : ClassId) (A : Path) → Num a A → FieldDecls p R f A
          → FieldlessTo ids sups (Some a) (length ids) → IsField p R f A
      only_field_is a A x d h = record { declares = d; only = λ S k. by_place S (field_in S k) } where
        by_place : (S : Path) → SuperAt ids S → S ≡ A
        by_place S s =
            let e : ◌≡◌ {A = Option ClassId} (Some a) (Some s.id) = fieldless_at (Some a) (length ids) h S s
            (within_of ids s.place s.id s.id_at) in
            let j : a ≡ s.id = cc e in
            number_path t.known.items a S A (subst (λ (i : ClassId). Num i S) (sym j) s.number) x

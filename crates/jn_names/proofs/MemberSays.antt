-- What `Members` answers, and how it is built.
use Rattle.std.proofs.Common.{◌≡◌, ◌<◌, ◌≤◌, ◌+◌, ℕ, zero, suc, List, [], ◌∷◌, ◌++◌, length, slice_get, Some, None}
use Rattle.std.proofs.Common.{Option, Contains, ◌↔◌, Bool, IsTrue, nat_eq, refl, sym, ap, ◌∙◌, subst, ◌⊎◌, inl, inr}
use Rattle.std.proofs.Common.{arith}
use Rattle.std.proofs.lemmas.Bool.{cases_lt}
use Rattle.std.specs.Option.{option_map_or}
use Rattle.std.specs.declared.alloc.Global.{Global}
use Rattle.std.specs.declared.vec.Vec.{Vec}
use Rattle.indexmap.specs.IndexMap.{get}
use Rattle.jn_reach.proofs.Eachs.{Each-back}
use Rattle.jn_reach.proofs.Searches.{same_some}
use Rattle.jn_base.specs.ClassOrder.{class_cmp}
use Rattle.jn_base.specs.declared.tree.Name.{Name}
use Rattle.jn_base.specs.declared.tree.Program.{Program}
use Rattle.jn_base.specs.declared.path.Path.{Path as ShownPath}
use Rattle.jn_base.specs.Paths.{Path}
use Rattle.jn_base.specs.Supers.{Sup}
use Rattle.jn_base.specs.TableRules.{IsCycle, NoneIs}
use Rattle.jn_table.specs.declared.class.ClassId.{ClassId}
use Rattle.jn_table.specs.declared.class.Row.{Row}
use Rattle.jn_table.specs.declared.table.Table.{Table}
use Rattle.jn_table.specs.Exact.{MethodNamed}
use Rattle.jn_table.specs.OwnParts.{SaysMethods, SaysFields}
use Rattle.jn_table.specs.Rows.{IsNumber, AreClasses}
use Rattle.jn_table.specs.Tables.{IsTableOf, IsFilled, SaysRow}
use Rattle.jn_table.proofs.Shown.{same_id, numbers_before}
use Rattle.jn_table.proofs.Sorted.{in_order}
use Rattle.jn_names.specs.declared.member_row.MemberRow.{MemberRow}
use Rattle.jn_names.specs.declared.members.Members.{Members}
use Rattle.jn_names.specs.declared.members.Least.{Least}
use Rattle.jn_names.specs.declared.members.Least.TheVariants as least
use Rattle.jn_names.specs.MemberRows.{SupAtRow, PassedTo, FirstLowRow, FieldlessTo, FirstFieldRow, LeastRow, FieldRow}
use Rattle.jn_names.specs.Members.{IsMemberRow, RowAt, IsMembersOf, SaysLeast, SaysField, SaysDeclaring, SaysSuper}
use Rattle.jn_names.specs.Ascending.{Ascend}
use Rattle.jn_names.specs.ByName.{kept_at, numbers_in}
use Rattle.jn_names.proofs.Keeping.{ascend_from}
use Rattle.jn_names.proofs.MemberProof.{path_of, sup_row, methods_own, fields_own, first_is, second_is, none_is}
use Rattle.jn_names.proofs.MemberProof.{only_is, none_least, first_field_is, second_field_is, no_field_is}
use Rattle.jn_names.proofs.MemberProof.{only_field_is, within_of}

-- the supers of the row are those of the path of its number
its_sups : (ms : Members) (id : ClassId) (row : MemberRow) → slice_get ms.rows.items id.0 ≡ Some row
    → (p : Program) (t : Table) (R : Path) → IsMembersOf p t ms
    → IsNumber t.known.items id R → AreClasses p t.known.items (Sup p R) row.sups.items
its_sups ms id row at p t R g n =
    let r = g.rows id R n in
    subst (λ (w : MemberRow). AreClasses p t.known.items (Sup p R) w.sups.items)
    (same_some (slice_get ms.rows.items id.0) r.row row r.at at) r.is.sups

pub least_absent : (ms : Members) (id : ClassId) (m : Name) → slice_get ms.rows.items id.0 ≡ None → SaysLeast ms id m least.None
least_absent ms id m e =
    λ p t R g n. absurd (let k : ◌≡◌ {A = Option MemberRow} None (Some (g.rows id R n).row) = sym e
    ∙ (g.rows id R n).at in cc k)

pub field_absent : (ms : Members) (id : ClassId) (f : Name) → slice_get ms.rows.items id.0 ≡ None → SaysField ms id f least.None
field_absent ms id f e =
    λ p t R g n. absurd (let k : ◌≡◌ {A = Option MemberRow} None (Some (g.rows id R n).row) = sym e
    ∙ (g.rows id R n).at in cc k)

-- the numbers that are kept at the name of a method, of a field
abbrev declaring : Members → Name → List ClassId
declaring ms m = kept_at (get nat_eq ms.by_method) m.0

abbrev with_field : Members → Name → List ClassId
with_field ms f = kept_at (get nat_eq ms.by_field) f.0

module _ (ms : Members) (id : ClassId) (m : Name) (row : MemberRow) (at : slice_get ms.rows.items id.0 ≡ Some row) where
  least_none : PassedTo ms.rows.items (declaring ms m) row.sups.items None (length (declaring ms m))
      → SaysLeast ms id m least.None
  least_none h = λ p t R g n.
      none_is p t ms g R row.sups.items (its_sups ms id row at p t R g n) m (declaring ms m) (methods_own p t ms g m)
      (ms.methods_listed.ascend m.0) h

  least_one : (a : ClassId) → FirstLowRow ms.rows.items (declaring ms m) row.sups.items None a
      → PassedTo ms.rows.items (declaring ms m) row.sups.items (Some a) (length (declaring ms m))
      → SaysLeast ms id m (least.One a)
  least_one a f h = λ p t R g n.
      let ids = declaring ms m in
      let own = methods_own p t ms g m in
      let up = ms.methods_listed.ascend m.0 in
      let c = its_sups ms id row at p t R g n in
      let q = path_of p t ms g R row.sups.items c a f.is.super in (
        q.path,
        q.number,
        only_is p t ms g R row.sups.items c m ids own up a q.path q.number
            (first_is p t ms g R row.sups.items c m ids own up a f q.path q.number).holds h,
      )

  least_many : (a b : ClassId) → FirstLowRow ms.rows.items (declaring ms m) row.sups.items None a
      → FirstLowRow ms.rows.items (declaring ms m) row.sups.items (Some a) b → SaysLeast ms id m (least.Many a b)
  least_many a b f s = λ p t R g n.
      let ids = declaring ms m in
      let own = methods_own p t ms g m in
      let up = ms.methods_listed.ascend m.0 in
      let c = its_sups ms id row at p t R g n in
      let q = path_of p t ms g R row.sups.items c a f.is.super in
      let r = path_of p t ms g R row.sups.items c b s.is.super in
      let one = first_is p t ms g R row.sups.items c m ids own up a f q.path q.number in
      let two = second_is p t ms g R row.sups.items c m ids own up a b s q.path r.path q.number r.number in (
        record { one = q.path; one_is = q.number; one_first = one; two = r.path; two_is = r.number; two_first = two },
        none_least p t ms g R row.sups.items c m ids own up q.path r.path one.holds two.holds.0 two.holds.1,
      )

  field_none : FieldlessTo (with_field ms m) row.sups.items None (length (with_field ms m)) → SaysField ms id m least.None
  field_none h = λ p t R g n.
      no_field_is p t ms g R row.sups.items (its_sups ms id row at p t R g n) m (with_field ms m)
      (fields_own p t ms g m) (ms.fields_listed.ascend m.0) h

  field_one : (a : ClassId) → FirstFieldRow (with_field ms m) row.sups.items None a
      → FieldlessTo (with_field ms m) row.sups.items (Some a) (length (with_field ms m)) → SaysField ms id m (least.One a)
  field_one a f h = λ p t R g n.
      let ids = with_field ms m in
      let own = fields_own p t ms g m in
      let up = ms.fields_listed.ascend m.0 in
      let c = its_sups ms id row at p t R g n in
      let q = path_of p t ms g R row.sups.items c a f.is.super in (
        q.path,
        q.number,
        only_field_is p t ms g R row.sups.items c m ids own up a q.path q.number
            (first_field_is p t ms g R row.sups.items c m ids own up a f q.path q.number).holds h,
      )

  field_many : (a b : ClassId) → FirstFieldRow (with_field ms m) row.sups.items None a
      → FirstFieldRow (with_field ms m) row.sups.items (Some a) b → SaysField ms id m (least.Many a b)
  field_many a b f s = λ p t R g n.
      let ids = with_field ms m in
      let own = fields_own p t ms g m in
      let up = ms.fields_listed.ascend m.0 in
      let c = its_sups ms id row at p t R g n in
      let q = path_of p t ms g R row.sups.items c a f.is.super in
      let r = path_of p t ms g R row.sups.items c b s.is.super in
      record {
        one = q.path;
        one_is = q.number;
        one_first = first_field_is p t ms g R row.sups.items c m ids own up a f q.path q.number;
        two = r.path;
        two_is = r.number;
        two_first = second_field_is p t ms g R row.sups.items c m ids own up a b s q.path r.path q.number r.number;
      }

-- what a search in the numbers that are kept tells
pub says_least : (ms : Members) (id : ClassId) (m : Name) (row : MemberRow) (rows : List MemberRow) (ids : List ClassId)
    (told : Least)
    → Some row ≡ slice_get ms.rows.items id.0 → rows ≡ ms.rows.items → ids ≡ declaring ms m
    → LeastRow rows ids row.sups.items told → SaysLeast ms id m told
says_least ms id m row rows ids told at e h k =
    by_answer told (subst (λ (rs : List MemberRow). LeastRow rs (declaring ms m) row.sups.items told) e
    (subst (λ (ss : List ClassId). LeastRow rows ss row.sups.items told) h k)) where
      by_answer : (told : Least) → LeastRow ms.rows.items (declaring ms m) row.sups.items told → SaysLeast ms id m told
      by_answer least.None w = least_none ms id m row (sym at) w
      by_answer (least.One a) w = least_one ms id m row (sym at) a w.0 w.1
      by_answer (least.Many a b) w = least_many ms id m row (sym at) a b w.0 w.1

pub says_field : (ms : Members) (id : ClassId) (f : Name) (row : MemberRow) (ids : List ClassId) (told : Least)
    → Some row ≡ slice_get ms.rows.items id.0 → ids ≡ with_field ms f → FieldRow ids row.sups.items told → SaysField ms id f told
says_field ms id f row ids told at h k =
    by_answer told (subst (λ (ss : List ClassId). FieldRow ss row.sups.items told) h k) where
      by_answer : (told : Least) → FieldRow (with_field ms f) row.sups.items told → SaysField ms id f told
      by_answer least.None w = field_none ms id f row (sym at) w
      by_answer (least.One a) w = field_one ms id f row (sym at) a w.0 w.1
      by_answer (least.Many a b) w = field_many ms id f row (sym at) a b w.0 w.1

-- nothing is kept at the name
pub says_none : (ms : Members) (id : ClassId) (m : Name) (row : MemberRow) → Some row ≡ slice_get ms.rows.items id.0
    → None ≡ get nat_eq ms.by_method m.0
    → SaysLeast ms id m least.None
says_none ms id m row at e =
    says_least ms id m row ms.rows.items [] least.None at refl
    (ap (λ (o : Option (Vec ClassId Global)). option_map_or numbers_in o []) e)
    (λ k s l a has. absurd (omega (arith, l)))

pub says_no_field : (ms : Members) (id : ClassId) (f : Name) (row : MemberRow) → Some row ≡ slice_get ms.rows.items id.0
    → None ≡ get nat_eq ms.by_field f.0
    → SaysField ms id f least.None
says_no_field ms id f row at e =
    says_field ms id f row [] least.None at (ap (λ (o : Option (Vec ClassId Global)). option_map_or numbers_in o []) e)
    (λ k s l a has. absurd (omega (arith, l)))

-- ---- which declare a method, and which are supers

pub says_declaring : (ms : Members) (m : Name) (ids : List ClassId) → ids ≡ declaring ms m → SaysDeclaring ms m ids
says_declaring ms m ids e = λ p t id R g n.
    subst (λ (xs : List ClassId). Contains xs id ↔ MethodNamed p R m) (sym e) (methods_own p t ms g m id R n)

pub says_super : (ms : Members) (id other : ClassId) (rows : List MemberRow) (told : Bool) → rows ≡ ms.rows.items
    → IsTrue told ↔ SupAtRow rows id other → SaysSuper ms id other told
says_super ms id other rows told e h = λ p t R g n. (
  λ k.
      let z = subst (λ (rs : List MemberRow). SupAtRow rs id other) e (h.0 k) in
      let q = path_of p t ms g R z.0.sups.items (its_sups ms id z.0 z.1 p t R g n) other z.2 in
      (q.path, q.number, q.super),
  λ s. h.1 (subst (λ (rs : List MemberRow). SupAtRow rs id other) (sym e)
      ((sup_row p t ms g id other R s.0 n s.1).1 s.2)),
)

-- ---- building

-- classes in class order have numbers in ascending order
classes_ascend : (p : Program) (t : Table) → IsTableOf p t → (T : Path → Type 0) (ids : List ClassId)
    → AreClasses p t.known.items T ids → Ascend ids
classes_ascend p t is T ids c = ascend_from ids by_place where
  by_place : (i j : ℕ) (x y : ClassId) → i < j → slice_get ids i ≡ Some x → slice_get ids j ≡ Some y → x.0 ≤ y.0
  by_place i j x y l a b =
      let r = is.rows in
      let e = Each-back (λ (S : Path) (id : ClassId). IsNumber t.known.items id S) c.numbered i x a in
      let f = Each-back (λ (S : Path) (id : ClassId). IsNumber t.known.items id S) c.numbered j y b in
      let o = (in_order (class_cmp p) c.paths c.are.in_order).by i j e.0 f.0 l e.1 f.1 in
      let k : x.0 < y.0 = (numbers_before p r.paths t.known.items r.shown_are
      (in_order (class_cmp p) r.paths r.in_order) x y e.0 f.0 e.2 f.2).1 o in
      omega (arith, k)

get_front : {A : Type 0} (xs ys : List A) (i : ℕ) (x : A) → slice_get xs i ≡ Some x → slice_get (xs ++ ys) i ≡ Some x
get_front [] ys i x e = absurd (cc e)
get_front (z ∷ xs) ys zero x e = e
get_front (z ∷ xs) ys (suc i) x e = get_front xs ys i x e

get_last : {A : Type 0} (xs : List A) (y : A) → slice_get (xs ++ y ∷ []) (length xs) ≡ Some y
get_last [] y = refl
get_last (x ∷ xs) y = get_last xs y

pub is_member_row : (p : Program) (t : Table) (R : Path) (id : ClassId) (row : MemberRow) (filled : Row) → IsTableOf p t
    → IsNumber t.known.items id R
    → SaysRow t id filled → (Ascend filled.sups.items → row.sups.items ≡ filled.sups.items)
    → (ms fs : List Name) → SaysMethods t id ms → ((m : Name) → Contains row.methods.keys m.0 ↔ Contains ms m)
    → SaysFields t id fs → ((f : Name) → Contains row.fields.keys f.0 ↔ Contains fs f)
    → IsMemberRow p t.known.items R row
is_member_row p t R id row filled is n says e ms fs methods in_ms fields in_fs = record {
  sups =
      let c = (says p R is n).sups in
      subst (AreClasses p t.known.items (Sup p R)) (sym (e (classes_ascend p t is (Sup p R) filled.sups.items c))) c;
  methods = λ m. (λ h. (methods p R is n m).0 ((in_ms m).0 h), λ h. (in_ms m).1 ((methods p R is n m).1 h));
  fields = λ f. (λ h. (fields p R is n f).0 ((in_fs f).0 h), λ h. (in_fs f).1 ((fields p R is n f).1 h));
}

-- the rows of the first k numbers
abbrev pub RowsTo : Program → List ShownPath → List MemberRow → ℕ → Type 0
RowsTo p known rows k = (id : ClassId) (R : Path) → id.0 < k → IsNumber known id R → RowAt p known rows id R

pub rows_more : (p : Program) (known : List ShownPath) (rows new : List MemberRow) (row : MemberRow) (id : ClassId)
    → length rows ≡ id.0
    → RowsTo p known rows id.0 → ((R : Path) → IsNumber known id R → IsMemberRow p known R row) → new ≡ rows ++ row ∷ []
    → RowsTo p known new (id.0 + 1)
rows_more p known rows new row id long h one e = λ other R l n. by_place other R n (cases_lt other.0 id.0) l where
  by_place : (other : ClassId) (R : Path) → IsNumber known other R → (other.0 < id.0) ⊎ (id.0 ≤ other.0)
      → other.0 < id.0 + 1 → RowAt p known new other R
  by_place other R n (inl b) l =
      let r = h other R b n in
      record {
        row = r.row;
        at = subst (λ (xs : List MemberRow). slice_get xs other.0 ≡ Some r.row) (sym e)
            (get_front rows (row ∷ []) other.0 r.row r.at);
        is = r.is;
      }
  by_place other R n (inr b) l =
      let s : other.0 ≡ id.0 = omega arith in
      let i : other ≡ id = same_id other id s in
      record {
        row = row;
        at = subst (λ (xs : List MemberRow). slice_get xs other.0 ≡ Some row) (sym e)
            (subst (λ (k : ℕ). slice_get (rows ++ row ∷ []) k ≡ Some row) (long ∙ sym s) (get_last rows row));
        is = one R (subst (λ (x : ClassId). IsNumber known x R) i n);
      }

pub rows_all : (p : Program) (t : Table) (ms : Members) (k : ℕ) → IsFilled p t → NoneIs (IsCycle p)
    → length t.known.items ≤ k → RowsTo p t.known.items ms.rows.items k
    → IsMembersOf p t ms
rows_all p t ms k f a l h = record {
  filled = f;
  acyclic = a;
  rows = λ id R n. h id R (let w = within_of t.known.items id.0 _ n in omega (arith, w, l)) n;
}

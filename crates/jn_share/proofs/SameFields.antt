-- One field of two classes, or two.
use Rattle.std.proofs.Common.{◌≡◌, ◌<◌, ◌↔◌, ℕ, zero, suc, List, [], ◌∷◌, length, map, Some, None, slice_get, Bool, IsTrue, false, refl, sym, ap, ◌∙◌, subst, arith, get_or}
use Rattle.std.specs.List.{Any}
use Rattle.std.specs.Prelude.{Ok, Result}
use Rattle.jn_reach.proofs.Searches.{not_when, same_some}
use Rattle.jn_base.specs.declared.tree.Name.{Name}
use Rattle.jn_base.specs.declared.tree.Field.{Field}
use Rattle.jn_base.specs.declared.tree.Program.{Program}
use Rattle.jn_base.specs.declared.path.Path.{Path as ShownPath}
use Rattle.jn_base.specs.declared.refusal.Refusal.{Refusal}
use Rattle.jn_base.specs.declared.types.Atom.{Atom as ShownAtom}
use Rattle.jn_base.specs.declared.types.Masks.{Masks}
use Rattle.jn_base.specs.declared.types.Ty.{Ty}
use Rattle.jn_base.specs.declared.types.Ty.TheVariants as ty
use Rattle.jn_base.specs.Paths.{Path}
use Rattle.jn_base.specs.Members.{FieldDecls}
use Rattle.jn_base.specs.Atoms.{Atom, atom_of, Among, first, later}
use Rattle.jn_base.specs.ResolveTypes.{mask_names}
use Rattle.jn_base.specs.TableRules.{DeclarationsPass}
use Rattle.jn_base.proofs.Unique.{one_field_at}
use Rattle.jn_base.proofs.ResolveOnce.{type_once}
use Rattle.jn_table.specs.declared.class.ClassId.{ClassId}
use Rattle.jn_table.specs.declared.field_types.FieldTy.{FieldTy}
use Rattle.jn_table.specs.declared.table.Table.{Table}
use Rattle.jn_table.specs.Rows.{IsNumber}
use Rattle.jn_table.specs.Tables.{IsFilled}
use Rattle.jn_table.proofs.Shown.{number_path}
use Rattle.jn_sem.specs.Sharing.{HangsOnThis}
use Rattle.jn_sem.specs.Terms.{FieldTypeIs}
use Rattle.jn_share.specs.Parting.{Covers, Uncovered, SameField, OtherField, two_places, not_covered, not_covered_back}
use Rattle.jn_share.specs.Parts.{IsThis, OfThis, EntryFor, HangsIn}
use Rattle.jn_share.specs.Prepared.{IsDecl}
use Rattle.jn_share.specs.Slots.{IsTyped}
use Rattle.jn_share.proofs.PairsFound.{same_number}

-- ---- types that hang on `this`

this_among : (xs : List ShownAtom) (i : ℕ) (x : ShownAtom) → slice_get xs i ≡ Some x → Among (map atom_of xs) (atom_of x)
this_among [] i x e = absurd (cc e)
this_among (y ∷ ys) zero x e = subst (λ (z : ShownAtom). Among (map atom_of (y ∷ ys)) (atom_of z)) (let h : y ≡ x = cc e in h) first
this_among (y ∷ ys) (suc i) x e = later (this_among ys i x e)

pub hangs_by : (xs : List ShownAtom) → Any OfThis xs → (a : Atom) × Among (map atom_of xs) a × IsThis a.anchor
hangs_by xs h = (atom_of h.1, place xs h.0 h.1 h.2 h.3, h.4) where
  place : (ys : List ShownAtom) (i : ℕ) (x : ShownAtom) → i < length ys → get_or ys i x ≡ x → Among (map atom_of ys) (atom_of x)
  place [] i x l e = absurd (omega arith)
  place (y ∷ ys) zero x l e = subst (λ (z : ShownAtom). Among (map atom_of (y ∷ ys)) (atom_of z)) e first
  place (y ∷ ys) (suc i) x l e = later (place ys i x (omega (arith, l)) e)

pub by_hangs : (xs : List ShownAtom) (a : Atom) → Among (map atom_of xs) a → IsThis a.anchor → Any OfThis xs
by_hangs [] a m h = elim m [ ]
by_hangs (x ∷ xs) _ first h = (0, x, omega arith, refl, h)
by_hangs (x ∷ xs) a (later m) h =
    let r = by_hangs xs a m h in
    (suc r.0, r.1, omega (arith, r.2), r.3, r.4)

-- ---- one type

same_ty : (a b : Ty) → ◌≡◌ {A = Result Ty Refusal} (Ok a) (Ok b) → a ≡ b
same_ty a b e = cc

-- a declared field has one type
pub typed_once : (p : Program) → DeclarationsPass p → (Q : Path) (f : Name) (a b : Ty) → IsTyped p Q f a → IsTyped p Q f b → a ≡ b
typed_once p ok Q f a b h k =
    let x = one_field_at p ok.once Q f h.field k.field h.at k.at in
    same_ty a b (type_once p (mask_names p) _ _ k.field.ty (Ok a) (Ok b) (subst (λ (y : Field). FieldTypeIs p Q f y.ty a) x h.type) k.type)

pub hangs_in : (p : Program) (known : List ShownPath) (V Q : Path) (f : Name) (x : FieldTy) → EntryFor p known V f x Q → HangsOnThis x.ty → HangsIn p V x.ty
hangs_in p known V Q f x e h = record { declared = Q; field = f; declares = e.declares; type = e.type; hangs = h }

-- ---- one entry for both

module _ (p : Program) (ok : DeclarationsPass p) (known : List ShownPath) (Same : Path → Path → Type 0) (V W Q : Path) (f : Name) (x : FieldTy)
    (one : EntryFor p known V f x Q) (two : EntryFor p known W f x Q) where
  its : (ty : Ty) → IsTyped p Q f ty → x.ty ≡ ty
  its ty i = typed_once p ok Q f x.ty ty one.type i

  pub fixed_same : (b : Bool) → b ≡ false → IsTrue b ↔ HangsOnThis x.ty → SameField p Same V W f
  fixed_same b e i = record {
    declared = Q;
    at_one = one.declares;
    at_other = two.declares;
    forth = λ ty j h. absurd (not_when e i (subst HangsOnThis (sym (its ty j)) h));
    back = λ ty j h. absurd (not_when e i (subst HangsOnThis (sym (its ty j)) h));
  }

  pub covered_same : Covers p Same V W x.ty → Covers p Same W V x.ty → SameField p Same V W f
  covered_same c d = record {
    declared = Q;
    at_one = one.declares;
    at_other = two.declares;
    forth = λ ty j h. subst (Covers p Same V W) (its ty j) c;
    back = λ ty j h. subst (Covers p Same W V) (its ty j) d;
  }

  pub not_forth : HangsOnThis x.ty → Uncovered p Same V W x.ty → OtherField p Same V W f
  not_forth h u = not_covered Q x.ty one.declares two.declares one.type h u

  pub not_back : HangsOnThis x.ty → Uncovered p Same W V x.ty → OtherField p Same V W f
  not_back h u = not_covered_back Q x.ty one.declares two.declares one.type h u

-- ---- two entries

pub apart_places : (p : Program) (t : Table) → IsFilled p t → (Same : Path → Path → Type 0) (V W Q R : Path) (f : Name) (x y : FieldTy) (b : Bool) → b ≡ false
    → IsTrue b ↔ (x.class ≡ y.class) → EntryFor p t.known.items V f x Q → EntryFor p t.known.items W f y R → OtherField p Same V W f
apart_places p t filled Same V W Q R f x y b e i one two =
    two_places Q R one.declares two.declares (λ q.
    not_when e i (same_class (same_number p t filled x.class.0 y.class.0 R (subst (λ (P : Path). IsNumber t.known.items x.class P) q one.number) two.number))) where
      same_class : x.class.0 ≡ y.class.0 → x.class ≡ y.class
      same_class h = ap (λ (n : ℕ). record { 0 = n }) h

-- with one class number they are of one declaration, and have one type
pub one_entry : (p : Program) → DeclarationsPass p → (known : List ShownPath) (V W Q R : Path) (f : Name) (x y : FieldTy) → x.class ≡ y.class
    → EntryFor p known V f x Q → EntryFor p known W f y R → EntryFor p known W f x Q
one_entry p ok known V W Q R f x y e one two =
    let same : Q ≡ R = number_path known y.class Q R (subst (λ (c : ClassId). IsNumber known c Q) e one.number) two.number in
    record { number = one.number; declares = subst (FieldDecls p W f) (sym same) two.declares; type = one.type }

pub entry_for : (p : Program) (known : List ShownPath) (types : List FieldTy) (V : Path) (f : Name) (d : ℕ) (x : FieldTy) → slice_get types d ≡ Some x
    → IsDecl p known types V f d → (Q : Path) × EntryFor p known V f x Q
entry_for p known types V f d x e i =
    let same : i.entry ≡ x = same_some (slice_get types d) i.entry x i.at e in (
      i.class,
      record {
        number = subst (λ (y : FieldTy). IsNumber known y.class i.class) same i.number;
        declares = i.declares;
        type = subst (λ (y : FieldTy). IsTyped p i.class f y.ty) same i.type;
      },
    )

pub no_entry : (p : Program) (known : List ShownPath) (types : List FieldTy) (V : Path) (f : Name) (d : ℕ) → None ≡ slice_get types d → IsDecl p known types V f d → ⊥
no_entry p known types V f d e i = nothing (e ∙ i.at) where
  nothing : {x : FieldTy} → None ≡ Some x → ⊥
  nothing e = cc

-- ---- whether a type hangs on `this`

class_hangs_at : (xs : List ShownAtom) (m : Masks) (told : Bool) → IsTrue told ↔ Any OfThis xs → IsTrue told ↔ HangsOnThis (ty.Class xs m)
class_hangs_at xs m told i = (
  λ b. let h = hangs_by xs (i.0 b) in record { atom = h.0; among = h.1; levels = h.2.0; anchor = h.2.1 },
  λ h. i.1 (by_hangs xs h.atom h.among (h.levels, h.anchor)),
)

pub class_hangs : (t : Ty) (xs ys : List ShownAtom) (m : Masks) (told : Bool) → t ≡ ty.Class xs m → ys ≡ xs → IsTrue told ↔ Any OfThis ys → IsTrue told ↔ HangsOnThis t
class_hangs t xs ys m told e h i =
    subst (λ (u : Ty). IsTrue told ↔ HangsOnThis u) (sym e)
    (class_hangs_at xs m told (subst (λ (zs : List ShownAtom). IsTrue told ↔ Any OfThis zs) h i))

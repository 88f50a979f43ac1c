-- The members that a class or a value of a type has.
use Rattle.std.proofs.Common.{◌≡◌, ◌<◌, ◌+◌, ℕ, List, [], ◌∷◌, length, drop, map, reverse, get_or, refl, sym, ap, ◌∙◌, subst, ◌⊎◌, inl, inr, Option, Some, None, slice_get}
use Rattle.std.proofs.lemmas.List.{reverse-reverse}
use Rattle.jn_reach.proofs.Searches.{same_some}
use Rattle.jn_base.specs.declared.tree.Name.{Name}
use Rattle.jn_base.specs.declared.tree.Program.{Program}
use Rattle.jn_base.specs.declared.path.Path.{Path as ShownPath}
use Rattle.jn_base.specs.declared.types.Atom.{Atom as ShownAtom}
use Rattle.jn_base.specs.declared.types.Ty.{Ty}
use Rattle.jn_base.specs.Paths.{Path, shown}
use Rattle.jn_base.specs.Universe.{InUniverse}
use Rattle.jn_base.specs.Atoms.{Atom, atom_of, atoms_in}
use Rattle.jn_base.specs.Scopes.{Scope, bound}
use Rattle.jn_base.proofs.Reaching.{declared_in_universe}
use Rattle.jn_table.specs.declared.class.ClassId.{ClassId}
use Rattle.jn_table.specs.declared.table.Table.{Table}
use Rattle.jn_table.specs.Rows.{IsNumber}
use Rattle.jn_table.specs.Tables.{IsFilled}
use Rattle.jn_homes.proofs.Places.{at_index}
use Rattle.jn_names.specs.Bounds.{HasNone}
use Rattle.jn_names.proofs.Numbered.{sup_known, none_known, field_known}
use Rattle.jn_rules.specs.Plans.{FoundField}
use Rattle.jn_rules.specs.Questions.{FirstWith, first, later, HasMethod, HasFieldAt, IsFoundField, Finds}
use Rattle.jn_expr.specs.Found.{LeastAt, FieldFrom, MethodFirst, FieldFirst, IsDeclared}

-- ---- numbers

pub path_is : (known : List ShownPath) (id : ClassId) (R : Path) (path : ShownPath) (b : Path) → Some path ≡ slice_get known id.0 → IsNumber known id R
    → b ≡ reverse path.names → b ≡ R
path_is known id R path b e n h =
    h ∙ (ap (λ (q : ShownPath). reverse q.names) (same_some (slice_get known id.0) path (shown R) (sym e) n) ∙ reverse-reverse R)

-- ---- classes without a number

-- what has a method is in the universe
method_known : (p : Program) (R : Path) (m : Name) → HasMethod p m R → InUniverse p R
method_known p R m h = by_super (sup_known h.1.super) where
  by_super : (R ≡ h.0) ⊎ (InUniverse p R × InUniverse p h.0) → InUniverse p R
  by_super (inl e) = subst (InUniverse p) (sym e) (declared_in_universe p h.0 h.1.at.decl h.1.at.stands)
  by_super (inr u) = u.0

pub no_method : (p : Program) (t : Table) (R : Path) (m : Name) → IsFilled p t → HasNone t R → HasMethod p m R → ⊥
no_method p t R m f n h = none_known p t R f n (method_known p R m h)

pub no_field : (p : Program) (t : Table) (R : Path) (m : Name) → IsFilled p t → HasNone t R → HasFieldAt p m R → ⊥
no_field p t R m f n h = none_known p t R f n (field_known p R m (h.at, h.declares))

-- ---- the first atom

module _ (p : Program) (s : Scope) (x : Atom) (xs : List Atom) (m : Name) where
  pub method_here : (B Q : Path) → B ≡ bound s x → LeastAt p B m (Some Q) → MethodFirst p s (x ∷ xs) m (Some Q)
  method_here B Q e l = record { bound = B; at = first e (Q, l.among); least = l }

  pub method_later : (B : Path) → B ≡ bound s x → LeastAt p B m None → (o : Option Path) → MethodFirst p s xs m o → MethodFirst p s (x ∷ xs) m o
  method_later B e none (Some Q) h = record { bound = h.bound; at = later (λ k. none (subst (HasMethod p m) (sym e) k)) h.at; least = h.least }
  method_later B e none None h = at where
    at : (C : Path) → FirstWith s (HasMethod p m) (x ∷ xs) C → ⊥
    at C (first i k) = none (subst (HasMethod p m) (i ∙ sym e) k)
    at C (later n f) = h C f

  pub field_here : (B Q : Path) → B ≡ bound s x → FieldFrom p B m (Some Q) → FieldFirst p s (x ∷ xs) m (Some Q)
  field_here B Q e l = record { bound = B; at = first e (record { at = Q; declares = l.declares }); is = l }

  pub field_later : (B : Path) → B ≡ bound s x → FieldFrom p B m None → (o : Option Path) → FieldFirst p s xs m o → FieldFirst p s (x ∷ xs) m o
  field_later B e none (Some Q) h = record { bound = h.bound; at = later (λ k. none (subst (HasFieldAt p m) (sym e) k)) h.at; is = h.is }
  field_later B e none None h = at where
    at : (C : Path) → FirstWith s (HasFieldAt p m) (x ∷ xs) C → ⊥
    at C (first i k) = none (subst (HasFieldAt p m) (i ∙ sym e) k)
    at C (later n f) = h C f

pub method_nowhere : (p : Program) (s : Scope) (m : Name) → MethodFirst p s [] m None
method_nowhere p s m = λ B f. elim f [ ]

pub field_nowhere : (p : Program) (s : Scope) (m : Name) → FieldFirst p s [] m None
field_nowhere p s m = λ B f. elim f [ ]

-- what is found in the rest is found in all
abbrev pub MethodRest : Program → Scope → List ShownAtom → List ShownAtom → Name → Type 0
MethodRest p s rest all m = (o : Option Path) → MethodFirst p s (map atom_of rest) m o → MethodFirst p s (map atom_of all) m o

abbrev pub FieldRest : Program → Scope → List ShownAtom → List ShownAtom → Name → Type 0
FieldRest p s rest all m = (o : Option Path) → FieldFirst p s (map atom_of rest) m o → FieldFirst p s (map atom_of all) m o

module _ (p : Program) (s : Scope) (xs : List ShownAtom) (i : ℕ) (x : ShownAtom) (m : Name) (l : i < length xs) (e : x ≡ get_or xs i x) where
  opened : map atom_of (drop i xs) ≡ atom_of x ∷ map atom_of (drop (i + 1) xs)
  opened = ap (map atom_of) (at_index xs i x l e)

  pub method_hit : MethodRest p s (drop i xs) xs m → (B Q : Path) → B ≡ bound s (atom_of x) → LeastAt p B m (Some Q) → MethodFirst p s (map atom_of xs) m (Some Q)
  method_hit rest B Q h k =
      rest (Some Q) (subst (λ (ys : List Atom). MethodFirst p s ys m (Some Q)) (sym opened) (method_here p s (atom_of x) (map atom_of (drop (i + 1) xs)) m B Q h k))

  pub method_next : MethodRest p s (drop i xs) xs m → (B : Path) → B ≡ bound s (atom_of x) → LeastAt p B m None → MethodRest p s (drop (i + 1) xs) xs m
  method_next rest B h k = λ o f.
      rest o (subst (λ (ys : List Atom). MethodFirst p s ys m o) (sym opened) (method_later p s (atom_of x) (map atom_of (drop (i + 1) xs)) m B h k o f))

  pub field_hit : FieldRest p s (drop i xs) xs m → (B Q : Path) → B ≡ bound s (atom_of x) → FieldFrom p B m (Some Q) → FieldFirst p s (map atom_of xs) m (Some Q)
  field_hit rest B Q h k =
      rest (Some Q) (subst (λ (ys : List Atom). FieldFirst p s ys m (Some Q)) (sym opened) (field_here p s (atom_of x) (map atom_of (drop (i + 1) xs)) m B Q h k))

  pub field_next : FieldRest p s (drop i xs) xs m → (B : Path) → B ≡ bound s (atom_of x) → FieldFrom p B m None → FieldRest p s (drop (i + 1) xs) xs m
  field_next rest B h k = λ o f.
      rest o (subst (λ (ys : List Atom). FieldFirst p s ys m o) (sym opened) (field_later p s (atom_of x) (map atom_of (drop (i + 1) xs)) m B h k o f))

pub method_missed : (p : Program) (s : Scope) (xs rest : List ShownAtom) (m : Name) → rest ≡ [] → MethodRest p s rest xs m → MethodFirst p s (map atom_of xs) m None
method_missed p s xs rest m e r = r None (subst (λ (ys : List ShownAtom). MethodFirst p s (map atom_of ys) m None) (sym e) (method_nowhere p s m))

pub field_missed : (p : Program) (s : Scope) (xs rest : List ShownAtom) (m : Name) → rest ≡ [] → FieldRest p s rest xs m → FieldFirst p s (map atom_of xs) m None
field_missed p s xs rest m e r = r None (subst (λ (ys : List ShownAtom). FieldFirst p s (map atom_of ys) m None) (sym e) (field_nowhere p s m))

-- ---- a field with its type

pub field_none : (p : Program) (s : Scope) (t : Ty) (f : Name) → FieldFirst p s (atoms_in t) f None → Finds (IsFoundField p s t f) None
field_none p s t f none x h = none h.bound h.at

pub field_there : (p : Program) (s : Scope) (t : Ty) (f : Name) (Q : Path) (u : Ty) → FieldFirst p s (atoms_in t) f (Some Q) → IsDeclared p Q f u
    → (let x : FoundField = record { class = Q; ty = u } in IsFoundField p s t f x)
field_there p s t f Q u h d = record {
  bound = h.bound;
  at = h.at;
  type = record { class = Q; is_field = h.is; field = d.field; at = d.at; type = d.type };
  class = refl;
}

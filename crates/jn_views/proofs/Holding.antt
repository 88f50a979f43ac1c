-- What a constraint is refuted by is found class by class.
use Rattle.std.proofs.Common.{◌≡◌, ◌<◌, ◌≤◌, ◌+◌, ◌↔◌, ◌⊎◌, inl, inr, ℕ, List, length, Some, Bool, IsTrue, slice_get, refl, sym, ap, ◌∙◌, subst, arith}
use Rattle.std.proofs.lemmas.Bool.{cases_lt}
use Rattle.std.proofs.lemmas.Option.{slice_get_within}
use Rattle.jn_base.specs.declared.tree.Kind.TheVariants as kind
use Rattle.jn_base.specs.declared.tree.Name.{Name}
use Rattle.jn_base.specs.declared.tree.Program.{Program}
use Rattle.jn_base.specs.declared.types.Atom.{Atom as ShownAtom}
use Rattle.jn_base.specs.declared.types.Masks.{Masks}
use Rattle.jn_base.specs.declared.types.Ty.{Ty}
use Rattle.jn_base.specs.Paths.{Path, shown}
use Rattle.jn_base.specs.Atoms.{Atom, atom_of}
use Rattle.jn_base.specs.ClassOrder.{class_cmp, Before, IsFirst}
use Rattle.jn_table.specs.declared.class.ClassId.{ClassId}
use Rattle.jn_table.specs.declared.class.Row.{Row}
use Rattle.jn_table.specs.declared.table.Table.{Table}
use Rattle.jn_table.specs.Rows.{IsNumber}
use Rattle.jn_table.specs.Tables.{IsFilled, SaysRow}
use Rattle.jn_table.proofs.Shown.{numbers_before}
use Rattle.jn_table.proofs.Sorted.{in_order}
use Rattle.jn_sem.specs.Sets.{InAtoms, no_views}
use Rattle.jn_sem.specs.Sharing.{IsClass, in_family}
use Rattle.jn_sem.specs.Holds.{Sides, Turns, Passes, masked, same_slot, Blocks, IsFirstName, IsGranted, Fails, no_counterpart, unshared}
use Rattle.jn_sem.specs.Values.{HasField, Masked}
use Rattle.jn_share.specs.declared.groups.Groups.{Groups}
use Rattle.jn_share.specs.declared.slots.Slots.{Slots}
use Rattle.jn_share.specs.Groups.{AreGroups}
use Rattle.jn_share.specs.Slots.{AreSlots}
use Rattle.jn_share.proofs.Numbered.{numbered_known}
use Rattle.jn_views.specs.declared.held.Held.{Held}
use Rattle.jn_views.specs.declared.held.Held.TheVariants.{Yes, NoCounterpart, Unshared}
use Rattle.jn_views.specs.Held.{sides, masks_of, HeldIs, SaysHeld}
use Rattle.jn_views.specs.Turning.{masked_sides, TurnsTo, HeldAt}

-- ---- one class

module _ (p : Program) (from : Ty) (to : ShownAtom) (m : Masks) (names : List Name) (masks : Masks) (e : masks ≡ masks_of from) (U W : Path) where
  pass_to : (f : Name) → Passes p (masked_sides masks m names) U W f → Passes p (sides from to m names) U W f
  pass_to f (masked k) = masked k
  pass_to f (same_slot s h a b k) = same_slot s h a b (λ x. k (subst (λ (n : Masks). Masked names n f) (sym e) x))

  pass_from : (f : Name) → Passes p (sides from to m names) U W f → Passes p (masked_sides masks m names) U W f
  pass_from f (masked k) = masked k
  pass_from f (same_slot s h a b k) = same_slot s h a b (λ x. k (subst (λ (n : Masks). Masked names n f) e x))

  turns : TurnsTo p (atom_of to) U W → Turns p (sides from to m names) U W
  turns h = record { family = h.family; of_target = h.of_target; counterpart = h.counterpart; is_in = h.is_in }

  pub turns_back : Turns p (sides from to m names) U W → TurnsTo p (atom_of to) U W
  turns_back h = record { family = h.family; of_target = h.of_target; counterpart = h.counterpart; is_in = h.is_in }

  pub granted : TurnsTo p (atom_of to) U W → ((f : Name) → HasField p W f → Passes p (masked_sides masks m names) U W f) → IsGranted p (sides from to m names) U
  granted h all = record { view = W; turns = turns h; fields = λ f has. pass_to f (all f has) }

  pub refused_by : TurnsTo p (atom_of to) U W → (f : Name) → IsFirstName p (Blocks p (masked_sides masks m names) U W) f
      → Turns p (sides from to m names) U W × IsFirstName p (Blocks p (sides from to m names) U W) f
  refused_by h f b = (
    turns h,
    record {
      holds = record { has = b.holds.has; refused = λ x. b.holds.refused (pass_from f x) };
      first = λ g x less. b.first g (record { has = x.has; refused = λ y. x.refused (pass_to g y) }) less;
    },
  )

-- ---- classes

pub class_in : (p : Program) (t : Table) → IsFilled p t → (u : ClassId) (U : Path) → IsNumber t.known.items u U → (row : Row) → SaysRow t u row → row.kind ≡ kind.Class → IsClass p U
class_in p t f u U at row says e = record { universe = numbered_known p t U u f at; kind = ((says p U f.table at).kind kind.Class).1 (sym e) }

pub no_class : (p : Program) (t : Table) → IsFilled p t → (u : ClassId) (U : Path) → IsNumber t.known.items u U → (row : Row) → SaysRow t u row → row.kind ≡ kind.Package → IsClass p U → ⊥
no_class p t f u U at row says e c = let k : kind.Class ≡ kind.Package = ((says p U f.table at).kind kind.Class).0 c.kind ∙ e in cc k

pub concerns_class : (p : Program) (U : Path) (xs ys : List Atom) → xs ≡ ys → (told : Bool) → IsClass p U → IsTrue told ↔ InAtoms p no_views xs U
    → IsTrue told ↔ (IsClass p U × InAtoms p no_views ys U)
concerns_class p U xs ys e told c i = (
  λ t. (c, subst (λ (zs : List Atom). InAtoms p no_views zs U) e (i.0 t)),
  λ h. i.1 (subst (λ (zs : List Atom). InAtoms p no_views zs U) (sym e) h.1),
)

-- ---- one class after the other

-- it is granted for each class of the first n numbers in S
abbrev pub GrantedTo : Table → Groups → Slots → Sides → ℕ → Type 0
GrantedTo t g s c n = (p : Program) → IsFilled p t → AreGroups p t.known.items g → AreSlots p t.known.items s → (j : ClassId) (U : Path) → j.0 < n → IsNumber t.known.items j U
    → IsClass p U → InAtoms p no_views c.from U → IsGranted p c U

module _ (t : Table) (g : Groups) (s : Slots) (c : Sides) where
  pub granted_none : GrantedTo t g s c 0
  granted_none p f a b j U l = absurd (omega (arith, l))

  pub granted_more : (u : ClassId) → GrantedTo t g s c u.0
      → ((p : Program) → IsFilled p t → AreGroups p t.known.items g → AreSlots p t.known.items s → (U : Path) → IsNumber t.known.items u U → IsClass p U → InAtoms p no_views c.from U → IsGranted p c U)
      → GrantedTo t g s c (u.0 + 1)
  granted_more u all here p f a b j U l at class inside = by_place (cases_lt j.0 u.0) where
    by_place : (j.0 < u.0) ⊎ (u.0 ≤ j.0) → IsGranted p c U
    by_place (inl k) = all p f a b j U k at class inside
    by_place (inr k) =
        let e : j.0 ≡ u.0 = omega arith in
        here p f a b U (subst (λ (n : ℕ). slice_get t.known.items n ≡ Some (shown U)) e at) class inside

  pub granted_all : (n : ℕ) → length t.known.items ≤ n → GrantedTo t g s c n → SaysHeld t g s c Yes
  granted_all n past all p f a b U class inside =
      let k = f.whole.whole U class.universe in
      all p f a b k.0 U (omega (arith, past, slice_get_within t.known.items k.0.0 _ k.1)) k.1 class inside

  module _ (u : ClassId) (all : GrantedTo t g s c u.0) (p : Program) (f : IsFilled p t) (a : AreGroups p t.known.items g) (b : AreSlots p t.known.items s) (U : Path) (at : IsNumber t.known.items u U)
      (class : IsClass p U) (inside : InAtoms p no_views c.from U) where
    first_fails : (IsGranted p c U → ⊥) → IsFirst p (Fails p c) U
    first_fails n = record { holds = record { class = class; is_in = inside; refused = n }; first = first } where
      first : (Q : Path) → Fails p c Q → Before p Q U → ⊥
      first Q q less =
          let r = f.table.rows in
          let k = f.whole.whole Q q.class.universe in
          let lower = (numbers_before p r.paths t.known.items r.shown_are (in_order (class_cmp p) r.paths r.in_order) k.0 u Q U k.1 at).1 less in
          q.refused (all p f a b k.0 Q lower k.1 q.class q.is_in)

    one_view : (V W : Path) → Turns p c U V → Turns p c U W → V ≡ W
    one_view V W x y =
        let e : Some x.family ≡ Some y.family = sym x.of_target ∙ y.of_target in
        let same : x.family ≡ y.family = cc e in
        x.counterpart.is ∙ (ap (λ (Y : Name). in_family Y U) same ∙ sym y.counterpart.is)

    pub refuted : (held : Held) → (held ≡ Yes → ⊥) → HeldAt p t.known.items c u U held → HeldIs p t.known.items c held
    refuted Yes n h = absurd (n refl)
    refuted (NoCounterpart id) n h = (
      U,
      subst (λ (j : ClassId). IsNumber t.known.items j U) (sym h.0) at,
      no_counterpart U (first_fails (λ x. h.1 x.view x.turns)) h.1 refl refl,
    )
    refuted (Unshared id field) n h = (
      h.0,
      h.1,
      unshared U h.0 field (first_fails (λ x.
          let same = one_view x.view h.0 x.turns h.2 in
          let has = subst (λ (W : Path). HasField p W field) (sym same) h.3.holds.has in
          h.3.holds.refused (subst (λ (W : Path). Passes p c U W field) same (x.fields field has)))) h.2 h.3 refl refl,
    )

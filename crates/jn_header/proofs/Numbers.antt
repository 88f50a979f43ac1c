-- Numbers and paths: the supers of a class one by one, and the classes of a table one by one.
use Rattle.std.proofs.Common.{◌≡◌, ◌<◌, ◌≤◌, ◌+◌, ℕ, zero, suc, List, [], ◌∷◌, length, map, get_or, slice_get, Contains}
use Rattle.std.proofs.Common.{Some, inl, inr, refl, sym, subst, arith}
use Rattle.std.proofs.lemmas.Bool.{cases_lt}
use Rattle.std.proofs.lemmas.Option.{slice_get_read, slice_get_within, get_or_from_slice_get, slice_get-get_or}
use Rattle.jn_reach.proofs.Eachs.{Each-at, Each-back}
use Rattle.jn_reach.proofs.Searches.{same_some}
use Rattle.jn_base.specs.declared.tree.Program.{Program}
use Rattle.jn_base.specs.declared.path.Path.{Path as ShownPath}
use Rattle.jn_base.specs.Paths.{Path, shown}
use Rattle.jn_base.specs.Universe.{InUniverse}
use Rattle.jn_base.specs.ClassOrder.{class_cmp, Before, IsFirst}
use Rattle.jn_base.specs.TableRules.{NoneIs}
use Rattle.jn_table.specs.declared.class.ClassId.{ClassId}
use Rattle.jn_table.specs.declared.table.Table.{Table}
use Rattle.jn_table.specs.Rows.{IsNumber, AreClasses}
use Rattle.jn_table.specs.Tables.{IsFilled}
use Rattle.jn_table.proofs.Shown.{place_of_number, numbers_before}
use Rattle.jn_table.proofs.Sorted.{in_order}

pub in_list : {A : Type 0} (xs : List A) (x : A) → Contains xs x → (k : ℕ) × (slice_get xs k ≡ Some x)
in_list xs x c = (c.0, slice_get_read xs (length xs) c.0 x refl c.1 (sym c.2))

pub contained : {A : Type 0} (xs : List A) (k : ℕ) (x : A) → slice_get xs k ≡ Some x → Contains xs x
contained xs k x e = (k, slice_get_within xs k x e, get_or_from_slice_get xs k x x e)

-- ---- the paths of which T holds, by their numbers

-- so it is of the paths of the first i numbers
abbrev pub EachTo : (Path → Type 0) → List ShownPath → List ClassId → ℕ → Type 0
EachTo P known ids i = (j : ℕ) (id : ClassId) (S : Path) → j < i → slice_get ids j ≡ Some id → IsNumber known id S → P S

pub each_start : (P : Path → Type 0) (known : List ShownPath) (ids : List ClassId) → EachTo P known ids 0
each_start P known ids j id S l a n = absurd (omega (arith, l))

pub each_more : (P : Path → Type 0) (known : List ShownPath) (ids : List ClassId) (i : ℕ) (d : ClassId) → i < length ids
    → EachTo P known ids i
    → ((S : Path) → IsNumber known (get_or ids i d) S → P S) → EachTo P known ids (i + 1)
each_more P known ids i d l h one = λ j id S k a n. elim (cases_lt j i) [
  | inl below ↦ h j id S below a n
  | inr past ↦
      let same : j ≡ i = omega (arith, k, past) in
      let at : slice_get ids i ≡ Some id = subst (λ (m : ℕ). slice_get ids m ≡ Some id) same a in
      let here : id ≡ get_or ids i d = same_some (slice_get ids i) id (get_or ids i d) at (slice_get-get_or ids i d l) in
      one S (subst (λ (x : ClassId). IsNumber known x S) here n)
]

module _ (p : Program) (known : List ShownPath) (T : Path → Type 0) (ids : List ClassId) (are : AreClasses p known T ids) where
  pub path_at : (i : ℕ) (d : ClassId) → i < length ids → (S : Path) × IsNumber known (get_or ids i d) S × T S
  path_at i d l =
      let e = Each-back (λ (S : Path) (id : ClassId). IsNumber known id S) are.numbered i (get_or ids i d)
      (slice_get-get_or ids i d l) in
      (e.0, e.2, (are.are.exact e.0).0 (contained are.paths i e.0 e.1))

  pub number_of : (S : Path) → T S → (id : ClassId) × IsNumber known id S
  number_of S t =
      let k = in_list are.paths S ((are.are.exact S).1 t) in
      let e = Each-at (λ (S : Path) (id : ClassId). IsNumber known id S) are.numbered k.0 S k.1 in
      (e.0, e.2)

  pub each_all : (P : Path → Type 0) (i : ℕ) → length ids ≤ i → EachTo P known ids i → (S : Path) → T S → P S
  each_all P i l h S t =
      let k = in_list are.paths S ((are.are.exact S).1 t) in
      let e = Each-at (λ (S : Path) (id : ClassId). IsNumber known id S) are.numbered k.0 S k.1 in
      h k.0 e.0 S (let w = slice_get_within ids k.0 e.0 e.1 in omega (arith, w, l)) e.1 e.2

-- ---- all numbers of a table

abbrev number : ℕ → ClassId
number k = record { 0 = k }

-- of none of the first i paths T holds
abbrev pub NoneAt : (Path → Type 0) → List ShownPath → ℕ → Type 0
NoneAt T known i = (k : ℕ) (Q : Path) → k < i → slice_get known k ≡ Some (shown Q) → T Q → ⊥

pub none_at_start : (T : Path → Type 0) (known : List ShownPath) → NoneAt T known 0
none_at_start T known k Q l a t = omega (arith, l)

pub none_at_more : (T : Path → Type 0) (known : List ShownPath) (i : ℕ) → NoneAt T known i
    → ((R : Path) → slice_get known i ≡ Some (shown R) → T R → ⊥) → NoneAt T known (i + 1)
none_at_more T known i h one = λ k Q l a t. elim (cases_lt k i) [
  | inl below ↦ h k Q below a t
  | inr past ↦ let same : k ≡ i = omega (arith, l, past) in one Q (subst (λ (m : ℕ). slice_get known m ≡ Some (shown Q)) same a) t
]

module _ (p : Program) (t : Table) (filled : IsFilled p t) where
  pub universe_of : (id : ClassId) (R : Path) → IsNumber t.known.items id R → InUniverse p R
  universe_of id R n =
      let rows = filled.table.rows in
      rows.universe R (contained rows.paths id.0 R
      (place_of_number p rows.paths t.known.items rows.shown_are (in_order (class_cmp p) rows.paths rows.in_order) id R
      n))

  shown_there : (paths : List Path) (k : ℕ) → k < length (map shown paths)
      → (R : Path) × (slice_get (map shown paths) k ≡ Some (shown R))
  shown_there [] k l = absurd (omega (arith, l))
  shown_there (R ∷ paths) zero l = (R, refl)
  shown_there (R ∷ paths) (suc k) l = shown_there paths k (omega (arith, l))

  pub number_there : (k : ℕ) → k < length t.known.items → (R : Path) × (slice_get t.known.items k ≡ Some (shown R))
  number_there k l =
      let e = filled.table.rows.shown_are in
      let w = shown_there filled.table.rows.paths k (subst (λ (xs : List ShownPath). k < length xs) e l) in
      (w.0, subst (λ (xs : List ShownPath). slice_get xs k ≡ Some (shown w.0)) (sym e) w.1)

  module _ (T : Path → Type 0) (within : (R : Path) → T R → InUniverse p R) where
    pub first_of_table : (i : ℕ) (R : Path) → slice_get t.known.items i ≡ Some (shown R) → NoneAt T t.known.items i
        → T R → IsFirst p T R
    first_of_table i R at none holds = record { holds = holds; first = earlier } where
      earlier : (Q : Path) → T Q → Before p Q R → ⊥
      earlier Q v before =
          let rows = filled.table.rows in
          let n = filled.whole.whole Q (within Q v) in
          let o = in_order (class_cmp p) rows.paths rows.in_order in
          none n.0.0 Q ((numbers_before p rows.paths t.known.items rows.shown_are o n.0 (number i) Q R n.1 at).1 before) n.1 v

    pub none_of_table : (i : ℕ) → length t.known.items ≤ i → NoneAt T t.known.items i → NoneIs T
    none_of_table i l none R v =
        let n = filled.whole.whole R (within R v) in
        let w = slice_get_within t.known.items n.0.0 (shown R) n.1 in
        none n.0.0 R (omega (arith, w, l)) n.1 v

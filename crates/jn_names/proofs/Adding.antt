-- How the paths of numbers are added, one by one, and the supers that they are.
use Rattle.std.proofs.Common.{◌≡◌, ◌<◌, ◌≤◌, ◌+◌, ◌⊎◌, inl, inr, ℕ, zero, suc, List, [], ◌∷◌, ◌++◌, length, reverse}
use Rattle.std.proofs.Common.{take, slice_get, Some, Contains, sym, ap, ◌∙◌, subst, arith, append_assoc}
use Rattle.std.proofs.lemmas.List.{reverse-reverse, take_more, take_all}
use Rattle.std.proofs.lemmas.Option.{slice_get_within, slice_get_past, get_or_from_slice_get}
use Rattle.jn_reach.specs.Each.{Each}
use Rattle.jn_reach.proofs.Eachs.{Each-back, Each-length}
use Rattle.jn_reach.proofs.Searches.{same_some}
use Rattle.jn_base.specs.declared.tree.Program.{Program}
use Rattle.jn_base.specs.declared.path.Path.{Path as ShownPath}
use Rattle.jn_base.specs.Paths.{Path, shown}
use Rattle.jn_table.specs.declared.class.ClassId.{ClassId}
use Rattle.jn_base.specs.Supers.{Sup}
use Rattle.jn_base.specs.Universe.{InUniverse}
use Rattle.jn_table.specs.declared.table.Table.{Table}
use Rattle.std.specs.List.Sorted.{IsStrictlySortedBy}
use Rattle.jn_table.specs.Rows.{IsNumber, ArePaths, AreClasses}
use Rattle.jn_table.specs.Tables.{IsFilled, numbered}
use Rattle.jn_names.specs.Bounds.{HasNone, AddsPaths}
use Rattle.jn_names.proofs.Numbered.{sup_known, none_known, itself_below}

-- the paths at the numbers, place by place
abbrev pub Numbered : List ShownPath → List Path → List ClassId → Type 0
Numbered known paths ids = Each (λ S id. IsNumber known id S) paths ids

-- the path at the number i of the list, and that it is one
pub path_at : (known : List ShownPath) (ids : List ClassId) (paths : List Path) (i : ℕ) (id : ClassId)
    → slice_get ids i ≡ Some id
    → Numbered known paths ids → (P : Path) × (slice_get paths i ≡ Some P) × IsNumber known id P
path_at known ids paths i id is each = Each-back (λ S id. IsNumber known id S) each i id is

-- one path more
pub add_one : (known : List ShownPath) (ids : List ClassId) (paths before now after : List Path) (i : ℕ)
    (id : ClassId) (q : ShownPath)
    → slice_get ids i ≡ Some id → Numbered known paths ids → slice_get known id.0 ≡ Some q
    → now ≡ before ++ take i paths → after ≡ now ++ reverse q.names ∷ [] → after ≡ before ++ take (i + 1) paths
add_one known ids paths before now after i id q is each at so_far put =
    let e = path_at known ids paths i id is each in
    let one : reverse q.names ≡ e.0 = ap (λ (x : ShownPath). reverse x.names)
    (same_some (slice_get known id.0) q (shown e.0) at e.2) ∙ reverse-reverse e.0 in
    let within : i < length paths = slice_get_within paths i e.0 e.1 in
    let taken : take (i + 1) paths ≡ take i paths ++ e.0 ∷ [] =
    take_more paths i e.0 within ∙ ap (λ (z : Path). take i paths ++ z ∷ [])
    (get_or_from_slice_get paths i e.0 e.0 e.1) in
    put ∙ (ap (λ (z : List Path). z ++ reverse q.names ∷ []) so_far
    ∙ (append_assoc before (take i paths) (reverse q.names ∷ [])
    ∙ (ap (λ (z : Path). before ++ (take i paths ++ z ∷ [])) one ∙ ap (λ (z : List Path). before ++ z) (sym taken))))

-- each number of the list stands for a path
pub none_missing : (known : List ShownPath) (ids : List ClassId) (paths : List Path) (i : ℕ) (id : ClassId)
    → slice_get ids i ≡ Some id
    → Numbered known paths ids → length known ≤ id.0 → ⊥
none_missing known ids paths i id is each past =
    let e = path_at known ids paths i id is each in cc (e.2, slice_get_past known id.0 past)

-- all are added
pub all_added : (known : List ShownPath) (ids : List ClassId) (paths before now : List Path) (i : ℕ)
    → length ids ≤ i → Numbered known paths ids
    → now ≡ before ++ take i paths → now ≡ before ++ paths
all_added known ids paths before now i past each so_far =
    let over : length paths ≤ i = omega (arith, past, Each-length (λ S id. IsNumber known id S) each) in
    so_far ∙ ap (λ (z : List Path). before ++ z) (take_all i paths over)

-- of a path with a number: the paths at the numbers of its row
pub supers_numbered : (p : Program) (t : Table) (R : Path) (ids : List ClassId) (all : List Path)
    → AreClasses p (numbered t) (Sup p R) ids
    → AddsPaths t ids [] all → ArePaths p (Sup p R) all
supers_numbered p t R ids all c adds =
    subst (λ (ps : List Path). ArePaths p (Sup p R) ps) (sym (adds c.paths c.numbered)) c.are

-- of a path without one: the path alone
only_one : (R S : Path) → Contains (R ∷ []) S → R ≡ S
only_one R S (zero, l, e) = e
only_one R S (suc k, l, e) = absurd (omega (arith, l))

pub supers_none : (p : Program) (t : Table) (R : Path) → IsFilled p t → HasNone t R → ArePaths p (Sup p R) (R ∷ [])
unfolding IsStrictlySortedBy
supers_none p t R f n = record {
  exact = λ S.
      (λ c. itself_below p R S (only_one R S c), λ s. by_super S (sup_known s));
  in_order = (tt, tt);
} where
  by_super : (S : Path) → (R ≡ S) ⊎ (InUniverse p R × InUniverse p S) → Contains (R ∷ []) S
  by_super S (inl e) = (0, omega arith, e)
  by_super S (inr u) = absurd (none_known p t R f n u.0)

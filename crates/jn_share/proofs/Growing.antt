-- Parts grow from step to step, so that the steps end.
use Rattle.std.proofs.Common.{◌≡◌, ◌<◌, ◌≤◌, ◌+◌, ◌⊎◌, inl, inr, ℕ, zero, suc, List, [], ◌∷◌, ◌++◌, length, Contains, Some, None, slice_get, get_or, refl, sym, ap, ◌∙◌, subst, arith}
use Rattle.std.specs.declared.vec.Vec.{Vec}
use Rattle.std.specs.declared.alloc.Global.{Global}
use Rattle.std.specs.List.Sorted.{IsStrictlyIncreasing}
use Rattle.std.proofs.lemmas.Bool.{cases_lt, cases_eq}
use Rattle.std.proofs.lemmas.List.{length-append}
use Rattle.std.proofs.lemmas.Option.{slice_get_read, slice_get_within, slice_get-get_or}
use Rattle.jn_reach.specs.Graph.{Graph, Lists}
use Rattle.jn_reach.specs.Pairs.{AreMembers}
use Rattle.jn_reach.proofs.Searches.{same_some}
use Rattle.jn_base.specs.declared.tree.Program.{Program}
use Rattle.jn_base.specs.declared.path.Path.{Path as ShownPath}
use Rattle.jn_base.specs.Paths.{Path}
use Rattle.jn_table.specs.declared.class.ClassId.{ClassId}
use Rattle.jn_table.specs.declared.table.Table.{Table}
use Rattle.jn_table.specs.Tables.{IsFilled}
use Rattle.jn_sem.specs.Sharing.{IsClass}
use Rattle.jn_sem.proofs.SharedLaws.{sharing_laws}
use Rattle.jn_share.specs.Pairing.{IsAt}
use Rattle.jn_share.specs.declared.groups.Groups.{Groups}
use Rattle.jn_share.specs.declared.rows.GroupRow.{GroupRow}
use Rattle.jn_share.specs.Groups.{AreGroups, StartsOf}
use Rattle.jn_share.specs.Parting.{SamePart, KeepsOne}
use Rattle.jn_share.specs.Refining.{AreLow, Grows, IsFirstLike, Refines, RefinesTo, slack_from}

-- ---- the numbers of one part

pub its_members : (parts : List ℕ) (rows : Graph) → AreMembers parts rows → (v : ℕ) → v < length parts → (row : Vec ℕ Global) → Some row ≡ slice_get rows (get_or parts v 0)
    → Lists (λ b. slice_get parts b ≡ Some (get_or parts v 0)) row.items
its_members parts rows m v l row e = m.each (get_or parts v 0) row (sym e)

pub part_at : (parts : List ℕ) (v n : ℕ) → v < length parts → slice_get parts v ≡ Some n → get_or parts v 0 ≡ n
part_at parts v n l e = same_some (slice_get parts v) (get_or parts v 0) n (slice_get-get_or parts v 0 l) e

pub part_grows : (parts among items : List ℕ) (v r n : ℕ) → AreLow parts → v < length parts → Lists (λ b. slice_get parts b ≡ Some (get_or parts v 0)) items → among ≡ items
    → (r ≡ v) ⊎ Contains among r → slice_get parts v ≡ Some n → n ≤ r
part_grows parts among items v r n low l m e (inl q) at = subst (λ (k : ℕ). n ≤ k) (sym q) (low v n at)
part_grows parts among items v r n low l m e (inr c) at =
    low r n ((m.exact r).0 (subst (λ (xs : List ℕ). Contains xs r) e c) ∙ ap Some (part_at parts v n l at))

pub part_within : (parts among items : List ℕ) (v r n : ℕ) → v < length parts → Lists (λ b. slice_get parts b ≡ Some (get_or parts v 0)) items → among ≡ items
    → (r ≡ v) ⊎ Contains among r → slice_get parts v ≡ Some n → slice_get parts r ≡ Some n
part_within parts among items v r n l m e (inl q) at = ap (slice_get parts) q ∙ at
part_within parts among items v r n l m e (inr c) at =
    (m.exact r).0 (subst (λ (xs : List ℕ). Contains xs r) e c) ∙ ap Some (part_at parts v n l at)

pub part_first : (p : Program) (known : List ShownPath) (Same : Path → Path → Type 0) (parts among items : List ℕ) (v r n : ℕ) (V : Path) → v < length parts
    → Lists (λ b. slice_get parts b ≡ Some (get_or parts v 0)) items → among ≡ items → slice_get parts v ≡ Some n
    → IsFirstLike p known Same (Contains among) r V → IsFirstLike p known Same (λ j. slice_get parts j ≡ Some n) r V
part_first p known Same parts among items v r n V l m e at h = record {
  is = h.is;
  first = λ j X a b x c. h.first j X (subst (λ (xs : List ℕ). Contains xs j) (sym e) ((m.exact j).1 (a ∙ ap Some (sym (part_at parts v n l at))))) b x c;
}

pub part_sorted : (parts among items : List ℕ) (v : ℕ) → Lists (λ b. slice_get parts b ≡ Some (get_or parts v 0)) items → among ≡ items → IsStrictlyIncreasing among
part_sorted parts among items v m e = subst IsStrictlyIncreasing (sym e) m.ascending

-- ---- the next parts, one by one

pushed_at : (xs : List ℕ) (r i m : ℕ) → slice_get (xs ++ r ∷ []) i ≡ Some m → (slice_get xs i ≡ Some m) ⊎ ((i ≡ length xs) × (m ≡ r))
pushed_at [] r zero m e = inr (refl, let h : r ≡ m = cc e in sym h)
pushed_at [] r (suc i) m e = absurd (nothing e) where
  nothing : None ≡ Some m → ⊥
  nothing q = cc
pushed_at (x ∷ xs) r zero m e = inl e
pushed_at (x ∷ xs) r (suc i) m e = by_case (pushed_at xs r i m e) where
  by_case : (slice_get xs i ≡ Some m) ⊎ ((i ≡ length xs) × (m ≡ r)) → (slice_get xs i ≡ Some m) ⊎ ((suc i ≡ suc (length xs)) × (m ≡ r))
  by_case (inl h) = inl h
  by_case (inr h) = inr (ap suc h.0, h.1)

still_at : (xs : List ℕ) (r i m : ℕ) → slice_get xs i ≡ Some m → slice_get (xs ++ r ∷ []) i ≡ Some m
still_at [] r i m e = absurd (cc e)
still_at (x ∷ xs) r zero m e = e
still_at (x ∷ xs) r (suc i) m e = still_at xs r i m e

last_at : (xs : List ℕ) (r : ℕ) → slice_get (xs ++ r ∷ []) (length xs) ≡ Some r
last_at [] r = refl
last_at (x ∷ xs) r = last_at xs r

pub low_push : (next after : List ℕ) (v r : ℕ) → after ≡ next ++ r ∷ [] → length next ≡ v → r ≤ v → AreLow next → AreLow after
low_push next after v r e l m low i n at = by_case (pushed_at next r i n (subst (λ (xs : List ℕ). slice_get xs i ≡ Some n) e at)) where
  by_case : (slice_get next i ≡ Some n) ⊎ ((i ≡ length next) × (n ≡ r)) → n ≤ i
  by_case (inl h) = low i n h
  by_case (inr h) = omega (arith, h.0, h.1, l, m)

pub grows_push : (parts next after : List ℕ) (v r : ℕ) → after ≡ next ++ r ∷ [] → length next ≡ v → ((n : ℕ) → slice_get parts v ≡ Some n → n ≤ r) → Grows parts next → Grows parts after
grows_push parts next after v r e l h all i n m a at = by_case (pushed_at next r i m (subst (λ (xs : List ℕ). slice_get xs i ≡ Some m) e at)) where
  by_case : (slice_get next i ≡ Some m) ⊎ ((i ≡ length next) × (m ≡ r)) → n ≤ m
  by_case (inl q) = all i n m a q
  by_case (inr q) =
      let at_v : slice_get parts v ≡ Some n = ap (slice_get parts) (sym (q.0 ∙ l)) ∙ a in
      subst (λ (k : ℕ). n ≤ k) (sym q.1) (h n at_v)

pub refines_push : (p : Program) (t : Table) (parts next after : List ℕ) (v r : ℕ) → after ≡ next ++ r ∷ [] → length next ≡ v → v < length parts
    → ((V : Path) → IsAt t.known.items v V → IsClass p V → (n : ℕ) → slice_get parts v ≡ Some n
    → (slice_get parts r ≡ Some n) × IsFirstLike p t.known.items (SamePart t.known.items parts) (λ j. slice_get parts j ≡ Some n) r V)
    → RefinesTo p t parts next v → RefinesTo p t parts after (v + 1)
refines_push p t parts next after v r e l w h all k V b at c = by_case (cases_lt k v) where
  by_case : (k < v) ⊎ (v ≤ k) → Refines p t.known.items parts after k V
  by_case (inl q) =
      let x = all k V q at c in
      record {
        part = x.part;
        at = x.at;
        now = x.now;
        now_at = subst (λ (xs : List ℕ). slice_get xs k ≡ Some x.now) (sym e) (still_at next r k x.now x.now_at);
        within = x.within;
        first = x.first;
      }
  by_case (inr q) = here (let same : v ≡ k = omega arith in same) where
    here : v ≡ k → Refines p t.known.items parts after k V
    here same =
        let n = get_or parts v 0 in
        let part : slice_get parts v ≡ Some n = slice_get-get_or parts v 0 w in
        let x = h V (subst (λ (i : ℕ). IsAt t.known.items i V) (sym same) at) c n part in
        record {
          part = n;
          at = ap (slice_get parts) (sym same) ∙ part;
          now = r;
          now_at = subst (λ (xs : List ℕ). slice_get xs k ≡ Some r) (sym e) (ap (slice_get (next ++ r ∷ [])) (sym same ∙ sym l) ∙ last_at next r);
          within = x.0;
          first = x.1;
        }

-- ---- the measure

slack_more : (i n m : ℕ) (ns ms : List ℕ) → (n ≤ m) × (m ≤ i + 0) → (n ≡ m) ⊎ (n ≡ m → ⊥)
    → (slack_from (suc i) ms ≤ slack_from (suc i) ns) × ((ns ≡ ms → ⊥) → slack_from (suc i) ms < slack_from (suc i) ns)
    → (slack_from i (m ∷ ms) ≤ slack_from i (n ∷ ns)) × ((n ∷ ns ≡ m ∷ ms → ⊥) → slack_from i (m ∷ ms) < slack_from i (n ∷ ns))
slack_more i n m ns ms head (inl e) rest = (
  omega (arith, head.0, head.1, rest.0),
  λ d. let r = rest.1 (λ q. d (ap (λ (k : ℕ). k ∷ ns) e ∙ ap (λ (ks : List ℕ). m ∷ ks) q)) in omega (arith, r, e),
)
slack_more i n m ns ms head (inr e) rest = (
  omega (arith, head.0, head.1, rest.0),
  λ d. let less : n < m = omega (arith, head.0, e) in omega (arith, less, head.1, rest.0),
)

slack_less : (i : ℕ) (ns ms : List ℕ) → length ns ≡ length ms → ((k n m : ℕ) → slice_get ns k ≡ Some n → slice_get ms k ≡ Some m → (n ≤ m) × (m ≤ i + k))
    → (slack_from i ms ≤ slack_from i ns) × ((ns ≡ ms → ⊥) → slack_from i ms < slack_from i ns)
slack_less i [] [] l h = (omega arith, λ n. absurd (n refl))
slack_less i [] (m ∷ ms) l h = absurd (omega (arith, l))
slack_less i (n ∷ ns) [] l h = absurd (omega (arith, l))
slack_less i (n ∷ ns) (m ∷ ms) l h =
    slack_more i n m ns ms (h 0 n m refl refl) (cases_eq n m)
    (slack_less (suc i) ns ms (omega (arith, l)) (λ k a b x y. let q = h (suc k) a b x y in (q.0, omega (arith, q.1))))

pub slack_falls : (parts next : List ℕ) → length next ≡ length parts → AreLow next → Grows parts next → (parts ≡ next → ⊥) → slack_from 0 next < slack_from 0 parts
slack_falls parts next l low grows d =
    (slack_less 0 parts next (sym l) (λ k n m x y. (grows k n m x y, omega (arith, low k m y)))).1 d

pub long_push : {A : Type 0} (xs ys : List A) (x : A) (v : ℕ) → ys ≡ xs ++ x ∷ [] → length xs ≡ v → length ys ≡ v + 1
long_push xs ys x v e l = ap (λ (zs : List _). length zs) e ∙ (length-append xs (x ∷ []) ∙ omega (arith, l))

-- ---- the parts with which the steps begin

pub starts_push : (rows : List GroupRow) (parts after : List ℕ) (k r : ℕ) (row : GroupRow) → after ≡ parts ++ r ∷ [] → length parts ≡ k → k < length rows
    → row ≡ get_or rows k row → ((f : ℕ) → row.group ≡ Some f → f ≤ k → r ≡ f) → StartsOf rows parts k → StartsOf rows after (k + 1)
starts_push rows parts after k r row e l w at h all j f x m b g le = by_case (cases_lt j k) where
  by_case : (j < k) ⊎ (k ≤ j) → slice_get after j ≡ Some f
  by_case (inl q) = subst (λ (xs : List ℕ). slice_get xs j ≡ Some f) (sym e) (still_at parts r j f (all j f x q b g le))
  by_case (inr q) = here (let same : k ≡ j = omega arith in same) where
    here : k ≡ j → slice_get after j ≡ Some f
    here same =
        let at_k : slice_get rows k ≡ Some row = slice_get_read rows (length rows) k row refl w at in
        let one : row ≡ x = same_some (slice_get rows j) row x (ap (slice_get rows) (sym same) ∙ at_k) b in
        let is : r ≡ f = h f (ap (λ (y : GroupRow). y.group) one ∙ g) (omega (arith, same, le)) in
        subst (λ (xs : List ℕ). slice_get xs j ≡ Some f) (sym e) (ap (slice_get (parts ++ r ∷ [])) (sym same ∙ sym l) ∙ (last_at parts r ∙ ap Some is))

-- related classes begin together
pub starts_keep : (p : Program) (t : Table) (g : Groups) (parts : List ℕ) → IsFilled p t → AreGroups p t.known.items g → StartsOf g.rows.items parts (length g.rows.items)
    → KeepsOne p (SamePart t.known.items parts)
starts_keep p t g parts f groups starts U W o =
    let a = f.whole.whole U o.related.one.universe in
    let b = f.whole.whole W o.related.other.universe in
    let h = (groups.related a.0 b.0 U W a.1 b.1).1 o.related in
    record {
      i = a.0.0;
      j = b.0.0;
      one = a.1;
      other = b.1;
      part = h.0;
      one_in = starts a.0.0 h.0 h.1.row (slice_get_within g.rows.items a.0.0 h.1.row h.1.at) h.1.at h.1.is (groups.low a.0 U h.0 a.1 h.1);
      other_in = starts b.0.0 h.0 h.2.row (slice_get_within g.rows.items b.0.0 h.2.row h.2.at) h.2.at h.2.is (groups.low b.0 W h.0 b.1 h.2);
    }

-- each class has a row
pub class_row : (p : Program) (t : Table) (g : Groups) → AreGroups p t.known.items g → (k : ℕ) (V : Path) → IsAt t.known.items k V → IsClass p V → k < length g.rows.items
class_row p t g groups k V at c =
    let id : ClassId = record { 0 = k } in
    let h = (groups.related id id V V at at).1 ((sharing_laws p).itself V c) in
    slice_get_within g.rows.items k h.1.row h.1.at

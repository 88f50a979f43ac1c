-- Numbers in ascending order, and those that are kept at names.
use Rattle.std.proofs.Common.{◌≡◌, ◌<◌, ◌≤◌, ◌+◌, ◌&&◌, ◌||◌, ℕ, Bool, true, false, nat_eq, zero, suc, List, [], ◌∷◌}
use Rattle.std.proofs.Common.{◌++◌, length, get_or, take, slice_get, Some, None, Option, refl, sym, ap, ◌∙◌, subst, ◌⊎◌}
use Rattle.std.proofs.Common.{inl, inr, Contains, arith, ltb}
use Rattle.std.specs.List.{list_any}
use Rattle.std.specs.List.Sorted.{IsPartitionPoint, IsPartitionedBy}
use Rattle.std.specs.Option.{option_map_or}
use Rattle.std.specs.declared.alloc.Global.{Global}
use Rattle.std.specs.declared.vec.Vec.{Vec}
use Rattle.std.proofs.lemmas.Bool.{cases_lt, false≢true, eq-eqb, eqb-true, ltb-true, ltb-false}
use Rattle.std.proofs.lemmas.Cmp.{nat_eq_equiv}
use Rattle.std.proofs.lemmas.List.{take_more, take_all}
use Rattle.std.proofs.lemmas.List.Folds.{list_any-append}
use Rattle.std.proofs.lemmas.List.Sorted.{IsPartitionedBy-ltb}
use Rattle.std.proofs.lemmas.Option.{slice_get_within, slice_get_read, slice_get-get_or, get_or_from_slice_get}
use Rattle.jn_reach.proofs.Rows.{slice_get-push_cases}
use Rattle.jn_base.proofs.NameTests.{in_cons, in_none, first, later}
use Rattle.jn_table.specs.declared.class.ClassId.{ClassId}
use Rattle.jn_table.proofs.Shown.{same_id}
use Rattle.jn_names.specs.declared.member_row.MemberRow.{MemberRow}
use Rattle.jn_names.specs.Ascending.{Ascend, class_number}
use Rattle.jn_names.specs.ByName.{Lists, numbers_in, kept_at, is_kept, UpTo, AddsAt, Adds}
use Rattle.jn_names.specs.Listed.{has_key, row_has, AreListed}

-- ---- in order

pub stands : (ids : List ClassId) (k : ℕ) (x : ClassId) → slice_get ids k ≡ Some x → Contains ids x
stands ids k x at = (k, slice_get_within ids k x at, get_or_from_slice_get ids k x x at)

pub ascend_at : (ids : List ClassId) → Ascend ids → (i j : ℕ) (x y : ClassId) → i ≤ j → slice_get ids i ≡ Some x
    → slice_get ids j ≡ Some y → x.0 ≤ y.0
ascend_at ids up i j x y l a b =
    let k : class_number (get_or ids i x) ≤ class_number (get_or ids j x) = up i j x l (slice_get_within ids j y b) in
    let e : class_number (get_or ids i x) ≡ x.0 = ap class_number (get_or_from_slice_get ids i x x a) in
    let f : class_number (get_or ids j x) ≡ y.0 = ap class_number (get_or_from_slice_get ids j y x b) in
    omega (arith, k, e, f)

pub ascend_from : (ids : List ClassId)
    → ((i j : ℕ) (x y : ClassId) → i < j → slice_get ids i ≡ Some x → slice_get ids j ≡ Some y → x.0 ≤ y.0) → Ascend ids
ascend_from ids h i j d l m = by_order (cases_lt i j) where
  by_order : (i < j) ⊎ (j ≤ i) → class_number (get_or ids i d) ≤ class_number (get_or ids j d)
  by_order (inl b) =
      h i j (get_or ids i d) (get_or ids j d) b (slice_get-get_or ids i d (omega (arith, b, m)))
      (slice_get-get_or ids j d m)
  by_order (inr b) =
      let e : i ≡ j = omega (arith, l, b) in
      subst (λ (k : ℕ). class_number (get_or ids i d) ≤ class_number (get_or ids k d)) e (omega arith)

-- each step up
pub ascend_steps : (ids : List ClassId)
    → ((j k : ℕ) (d : ClassId) → k ≡ j + 1 → k < length ids
    → class_number (get_or ids j d) ≤ class_number (get_or ids k d)) → Ascend ids
ascend_steps ids h i j d l m = by_place j l m where
  same : (k : ℕ) → i ≡ k → class_number (get_or ids i d) ≤ class_number (get_or ids k d)
  same k e = subst (λ (n : ℕ). class_number (get_or ids i d) ≤ class_number (get_or ids n d)) e (omega arith)

  by_place : (k : ℕ) → i ≤ k → k < length ids → class_number (get_or ids i d) ≤ class_number (get_or ids k d)
  by_place zero l m = same 0 (omega (arith, l))
  by_place (suc k) l m = by_order (by_place k) (cases_lt i (suc k)) where
    by_order : (i ≤ k → k < length ids → class_number (get_or ids i d) ≤ class_number (get_or ids k d))
        → (i < suc k) ⊎ (suc k ≤ i)
        → class_number (get_or ids i d) ≤ class_number (get_or ids (suc k) d)
    by_order rest (inl b) =
        let below = rest (omega (arith, b)) (omega (arith, m)) in
        let here = h k (suc k) d (omega arith) m in
        omega (arith, below, here)
    by_order rest (inr b) = same (suc k) (omega (arith, l, b))

ascend_push : (ids : List ClassId) (id : ClassId) → Ascend ids → UpTo id.0 ids → Ascend (ids ++ id ∷ [])
ascend_push ids id up top = ascend_from (ids ++ id ∷ []) pushed where
  by_place : (i j : ℕ) (x y : ClassId) → i < j → (slice_get ids i ≡ Some x) ⊎ ((i ≡ length ids) × (x ≡ id))
      → (slice_get ids j ≡ Some y) ⊎ ((j ≡ length ids) × (y ≡ id)) → x.0 ≤ y.0
  by_place i j x y l (inl a) (inl b) = ascend_at ids up i j x y (omega (arith, l)) a b
  by_place i j x y l (inl a) (inr b) = let e : y.0 ≡ id.0 = ap class_number b.1 in let t = top i x a in omega (arith, e, t)
  by_place i j x y l (inr a) (inl b) = let w = slice_get_within ids j y b in absurd (omega (arith, a.0, w, l))
  by_place i j x y l (inr a) (inr b) = absurd (omega (arith, a.0, b.0, l))

  pushed : (i j : ℕ) (x y : ClassId) → i < j → slice_get (ids ++ id ∷ []) i ≡ Some x
      → slice_get (ids ++ id ∷ []) j ≡ Some y → x.0 ≤ y.0
  pushed i j x y l a b =
      by_place i j x y l (slice_get-push_cases ids id i x a) (slice_get-push_cases ids id j y b)

up_to_push : (ids : List ClassId) (id : ClassId) → UpTo id.0 ids → UpTo id.0 (ids ++ id ∷ [])
up_to_push ids id top k s at = by_place (slice_get-push_cases ids id k s at) where
  by_place : (slice_get ids k ≡ Some s) ⊎ ((k ≡ length ids) × (s ≡ id)) → s.0 ≤ id.0
  by_place (inl a) = top k s a
  by_place (inr a) = let e : s.0 ≡ id.0 = ap class_number a.1 in omega (arith, e)

-- ---- found by halves

abbrev pub IsLower : ℕ → ClassId → Bool
IsLower n x = ltb x.0 n

pub parted : (ids : List ClassId) (n : ℕ) → Ascend ids → IsPartitionedBy (IsLower n) ids
parted ids n up = IsPartitionedBy-ltb class_number ids n up

module _ (ids : List ClassId) (id : ClassId) (at : ℕ) (up : Ascend ids)
    (p : IsPartitionPoint (λ (x : ClassId). IsLower id.0 x ≡ true) (λ (x : ClassId). IsLower id.0 x ≡ false) ids at) where
  behind : (w : Contains ids id) → at ≤ w.0
  behind w = by_order (cases_lt w.0 at) where
    by_order : (w.0 < at) ⊎ (at ≤ w.0) → at ≤ w.0
    by_order (inl b) =
        let t : ltb id.0 id.0 ≡ true = subst (λ (x : ClassId). IsLower id.0 x ≡ true) w.2 (p.0 w.0 id (omega arith) b) in
        let l = ltb-true id.0 id.0 t in
        absurd (omega (arith, l))
    by_order (inr b) = b

  pub past_all : slice_get ids at ≡ None → Contains ids id → ⊥
  past_all e w =
      let b = behind w in
      let k : ◌≡◌ {A = Option ClassId} None (Some (get_or ids at id)) = sym e
      ∙ slice_get-get_or ids at id (omega (arith, b, w.1)) in
      cc k

  pub found_there : (x : ClassId) → slice_get ids at ≡ Some x → x ≡ id → Contains ids id
  found_there x got e = subst (Contains ids) e (stands ids at x got)

  pub same_there : (x : ClassId) → slice_get ids at ≡ Some x → Contains ids id → x ≡ id
  same_there x got w =
      let low = ascend_at ids up at w.0 x id (behind w) got (slice_get_read ids (length ids) w.0 id refl w.1 (sym w.2)) in
      let t : ltb x.0 id.0 ≡ false = subst (λ (y : ClassId). IsLower id.0 y ≡ false)
      (get_or_from_slice_get ids at x x got) (p.1 at x (omega arith) (slice_get_within ids at x got)) in
      let high = ltb-false x.0 id.0 t in
      same_id x id (omega (arith, low, high))

-- ---- kept at names

or_true : (b : Bool) → (b || true) ≡ true
or_true true = refl
or_true false = refl

or_false : (b : Bool) → (b || false) ≡ b
or_false true = refl
or_false false = refl

and_true : (b : Bool) → (b && true) ≡ b
and_true true = refl
and_true false = refl

and_false : (b : Bool) → (b && false) ≡ false
and_false true = refl
and_false false = refl

or_nothing : (o e : Bool) → o ≡ (o || (false && e))
or_nothing true e = refl
or_nothing false e = refl

or_again : (b o e : Bool) → ((o || (b && e)) || (e || false)) ≡ (o || (true && e))
or_again b true e = refl
or_again true false true = refl
or_again true false false = refl
or_again false false true = refl
or_again false false false = refl

pub kept_from : (ids : List ClassId) (s : ClassId) → Contains ids s → is_kept ids s ≡ true
kept_from [] s c = absurd (in_none s c)
kept_from (x ∷ ids) s c = by_place (kept_from ids s) (in_cons x ids s c) where
  by_place : (Contains ids s → is_kept ids s ≡ true) → (x ≡ s) ⊎ Contains ids s → is_kept (x ∷ ids) s ≡ true
  by_place rest (inl e) = ap (λ (b : Bool). b || is_kept ids s) (eq-eqb s.0 x.0 (ap class_number (sym e)))
  by_place rest (inr h) = ap (λ (b : Bool). nat_eq s.0 x.0 || b) (rest h) ∙ or_true (nat_eq s.0 x.0)

pub from_kept : (ids : List ClassId) (s : ClassId) → is_kept ids s ≡ true → Contains ids s
from_kept [] s e = cc e
from_kept (x ∷ ids) s e = by_test (from_kept ids s) (nat_eq s.0 x.0) refl where
  by_test : (is_kept ids s ≡ true → Contains ids s) → (b : Bool) → nat_eq s.0 x.0 ≡ b → Contains (x ∷ ids) s
  by_test rest true h = subst (Contains (x ∷ ids)) (same_id x s (sym (eqb-true s.0 x.0 h))) (first x ids)
  by_test rest false h = later x ids s (rest (ap (λ (b : Bool). b || is_kept ids s) (sym h) ∙ e))

adds_here : (b : Bool) (id : ClassId) (old cur : List ClassId) → AddsAt b id old cur → AddsAt true id old (cur ++ id ∷ [])
adds_here b id old cur a = record {
  exact = λ s.
      list_any-append (λ (x : ClassId). nat_eq s.0 x.0) cur (id ∷ [])
      ∙ (ap (λ (o : Bool). o || (nat_eq s.0 id.0 || false)) (a.exact s) ∙ or_again b (is_kept old s) (nat_eq s.0 id.0));
  ascend = λ up top. ascend_push cur id (a.ascend up top) (a.up_to top);
  up_to = λ top. up_to_push cur id (a.up_to top);
}

as_said : (b c : Bool) (id : ClassId) (old xs ys : List ClassId) → c ≡ b → ys ≡ xs → AddsAt b id old xs → AddsAt c id old ys
as_said b c id old xs ys e f a =
    subst (λ (v : Bool). AddsAt v id old ys) (sym e) (subst (λ (l : List ClassId). AddsAt b id old l) (sym f) a)

pub adds_none : (names : List ℕ) (id : ClassId) (old : Lists) → Adds (take 0 names) id old old
adds_none names id old m =
    record {
      exact = λ s. or_nothing (is_kept (kept_at old m) s) (nat_eq s.0 id.0);
      ascend = λ up top. up;
      up_to = λ top. top;
    }

pub adds_more : (names : List ℕ) (i d : ℕ) (id : ClassId) (old cur new : Lists) → i < length names
    → Adds (take i names) id old cur
    → kept_at new (get_or names i d) ≡ kept_at cur (get_or names i d) ++ id ∷ []
    → ((m : ℕ) → nat_eq (get_or names i d) m ≡ false → kept_at new m ≡ kept_at cur m) → Adds (take (i + 1) names) id old new
adds_more names i d id old cur new l a here others m = by_test (nat_eq m (get_or names i d)) refl where
  told : list_any (nat_eq m) (take (i + 1) names) ≡ (list_any (nat_eq m) (take i names) || (nat_eq m (get_or names i d) || false))
  told = ap (list_any (nat_eq m)) (take_more names i d l) ∙ list_any-append (nat_eq m) (take i names) (get_or names i d ∷ [])

  by_test : (b : Bool) → nat_eq m (get_or names i d) ≡ b
      → AddsAt (list_any (nat_eq m) (take (i + 1) names)) id (kept_at old m) (kept_at new m)
  by_test true e =
      as_said true (list_any (nat_eq m) (take (i + 1) names)) id (kept_at old m) (kept_at cur m ++ id ∷ []) (kept_at new m)
      (told ∙ (ap (λ (b : Bool). list_any (nat_eq m) (take i names) || (b || false)) e
      ∙ or_true (list_any (nat_eq m) (take i names))))
      (subst (λ (k : ℕ). kept_at new k ≡ kept_at cur k ++ id ∷ []) (sym (eqb-true m (get_or names i d) e)) here)
      (adds_here (list_any (nat_eq m) (take i names)) id (kept_at old m) (kept_at cur m) (a m))
  by_test false e =
      as_said (list_any (nat_eq m) (take i names)) (list_any (nat_eq m) (take (i + 1) names)) id (kept_at old m)
      (kept_at cur m) (kept_at new m)
      (told ∙ (ap (λ (b : Bool). list_any (nat_eq m) (take i names) || (b || false)) e
      ∙ or_false (list_any (nat_eq m) (take i names))))
      (others m (nat_eq_equiv.symm (get_or names i d) m ∙ e))
      (a m)

pub adds_all : (names : List ℕ) (i : ℕ) (id : ClassId) (old new : Lists) → length names ≤ i
    → Adds (take i names) id old new → Adds names id old new
adds_all names i id old new l a = subst (λ (ns : List ℕ). Adds ns id old new) (take_all i names l) a

-- ---- by the rows

elsewhere : (rows : List MemberRow) (row : MemberRow) (j : ℕ) → (j ≡ length rows → ⊥)
    → slice_get (rows ++ row ∷ []) j ≡ slice_get rows j
elsewhere [] row zero n = absurd (n refl)
elsewhere [] row (suc j) n = refl
elsewhere (r ∷ rows) row zero n = refl
elsewhere (r ∷ rows) row (suc j) n = elsewhere rows row j (λ e. n (ap suc e))

at_end : (rows : List MemberRow) (row : MemberRow) → slice_get (rows ++ row ∷ []) (length rows) ≡ Some row
at_end [] row = refl
at_end (r ∷ rows) row = at_end rows row

past_end : (rows : List MemberRow) → slice_get rows (length rows) ≡ None
past_end [] = refl
past_end (r ∷ rows) = past_end rows

abbrev holds_at : (MemberRow → Bool) → List MemberRow → ℕ → Bool
holds_at f rows j = option_map_or f (slice_get rows j) false

abbrev IsMore : (MemberRow → Bool) → List MemberRow → MemberRow → ℕ → Bool → Type 0
IsMore f rows row j here = holds_at f (rows ++ row ∷ []) j ≡ (holds_at f rows j || (f row && here))

row_more : (f : MemberRow → Bool) (rows : List MemberRow) (row : MemberRow) (n j : ℕ) → length rows ≡ n
    → holds_at f (rows ++ row ∷ []) j ≡ (holds_at f rows j || (f row && nat_eq j n))
row_more f rows row n j long = by_test (nat_eq j n) refl where
  by_test : (b : Bool) → nat_eq j n ≡ b → IsMore f rows row j (nat_eq j n)
  by_test true e =
      let s : length rows ≡ j = long ∙ sym (eqb-true j n e) in
      let here : slice_get (rows ++ row ∷ []) j ≡ Some row = subst
      (λ (k : ℕ). slice_get (rows ++ row ∷ []) k ≡ Some row) s (at_end rows row) in
      let none : slice_get rows j ≡ None = subst (λ (k : ℕ). slice_get rows k ≡ None) s (past_end rows) in
      subst (IsMore f rows row j) (sym e)
      (ap (λ (o : Option MemberRow). option_map_or f o false) here
      ∙ (sym (and_true (f row)) ∙ ap (λ (o : Option MemberRow). option_map_or f o false || (f row && true)) (sym none)))
  by_test false e =
      let apart : j ≡ length rows → ⊥ = λ h. false≢true (sym e ∙ eq-eqb j n (h ∙ long)) in
      subst (IsMore f rows row j) (sym e)
      (ap (λ (o : Option MemberRow). option_map_or f o false) (elsewhere rows row j apart)
      ∙ (sym (or_false (holds_at f rows j)) ∙ ap (λ (b : Bool). holds_at f rows j || b) (sym (and_false (f row)))))

within_rows : (f : MemberRow → Bool) (rows : List MemberRow) (j : ℕ) → holds_at f rows j ≡ true → j < length rows
within_rows f [] j e = absurd (cc e)
within_rows f (r ∷ rows) zero e = omega arith
within_rows f (r ∷ rows) (suc j) e = let h = within_rows f rows j e in omega (arith, h)

pub listed_none : (keys : MemberRow → List ℕ) (rows : List MemberRow) (lists : Lists) → rows ≡ []
    → ((m : ℕ) → lists m ≡ None) → AreListed keys rows lists
listed_none keys rows lists e none = record {
  exact =
      λ m s. ap (λ (ids : List ClassId). is_kept ids s) (empty m)
      ∙ sym (ap (λ (rs : List MemberRow). row_has keys rs m s.0) e);
  ascend = λ m. subst Ascend (sym (empty m)) (λ i j d l h. absurd (omega (arith, h)));
} where
  empty : (m : ℕ) → kept_at lists m ≡ []
  empty m = ap (λ (o : Option (Vec ClassId Global)). option_map_or numbers_in o []) (none m)

pub listed_more : (keys : MemberRow → List ℕ) (rows new : List MemberRow) (row : MemberRow) (old lists : Lists)
    (id : ClassId) → length rows ≡ id.0
    → AreListed keys rows old → Adds (keys row) id old lists → new ≡ rows ++ row ∷ [] → AreListed keys new lists
listed_more keys rows new row old lists id long are a e = subst (λ (rs : List MemberRow). AreListed keys rs lists)
    (sym e) (record {
      exact = λ m s.
          (a m).exact s
          ∙ (ap (λ (b : Bool). b || (has_key keys m row && nat_eq s.0 id.0)) (are.exact m s)
          ∙ sym (row_more (has_key keys m) rows row id.0 s.0 long));
      ascend = λ m. (a m).ascend (are.ascend m) (up_to m);
    }) where
      up_to : (m : ℕ) → UpTo id.0 (kept_at old m)
      up_to m k s at =
          let there = sym (are.exact m s) ∙ kept_from (kept_at old m) s (stands (kept_at old m) k s at) in
          let w = within_rows (has_key keys m) rows s.0 there in
          omega (arith, w, long)

-- The numbers of a group are those of the related classes.
use Rattle.std.proofs.Common.{◌≡◌, ◌<◌, ◌≤◌, ◌+◌, ◌⊎◌, inl, inr, ℕ, zero, suc, List, [], ◌∷◌, ◌++◌, length, Contains, Some, slice_get, refl, sym, ap, ◌∙◌, subst, arith}
use Rattle.std.specs.declared.vec.Vec.{Vec}
use Rattle.std.specs.declared.alloc.Global.{Global}
use Rattle.std.specs.List.Sorted.{IsStrictlyIncreasing}
use Rattle.std.proofs.lemmas.Bool.{cases_lt}
use Rattle.std.proofs.lemmas.Option.{slice_get_within}
use Rattle.jn_reach.specs.Graph.{Graph}
use Rattle.jn_reach.specs.Pairs.{AreMembers}
use Rattle.jn_reach.proofs.Searches.{same_some}
use Rattle.jn_base.specs.declared.tree.Program.{Program}
use Rattle.jn_base.specs.Paths.{Path}
use Rattle.jn_table.specs.declared.class.ClassId.{ClassId}
use Rattle.jn_table.specs.declared.table.Table.{Table}
use Rattle.jn_sem.specs.Sharing.{IsClass, Related}
use Rattle.jn_sem.proofs.SharedLaws.{sharing_laws}
use Rattle.jn_share.specs.declared.field_first.FieldFirst.{FieldFirst}
use Rattle.jn_share.specs.declared.groups.Groups.{Groups}
use Rattle.jn_share.specs.declared.members.GroupMembers.{GroupMembers}
use Rattle.jn_share.specs.Firsts.{AreRelated, AreFieldFirsts, FirstsTo}
use Rattle.jn_share.specs.Groups.{HasGroup, AreGroups}
use Rattle.jn_share.specs.Members.{AreGroupMembers, MembersAre}
use Rattle.jn_share.specs.Pairing.{IsAt}

-- ---- starts

module _ (p : Program) (t : Table) (g : Groups) (groups : AreGroups p t.known.items g) (lists : GroupMembers) (are : AreGroupMembers g lists) where
  -- the start of a class is the first number of its group
  pub start_at : (k : ℕ) (V : Path) → IsAt t.known.items k V → IsClass p V
      → (s : ℕ) × (slice_get lists.starts.items k ≡ Some s) × HasGroup g.rows.items (record { 0 = k }) s
  start_at k V a c =
      let id : ClassId = record { 0 = k } in
      let h = (groups.related id id V V a a).1 ((sharing_laws p).itself V c) in
      (h.0, are.starts k h.0 h.1.row (slice_get_within g.rows.items k h.1.row h.1.at) h.1.at h.1.is (groups.low id V h.0 a h.1), h.1)

  -- related classes have one start
  pub one_start : (k j : ℕ) (V W : Path) → IsAt t.known.items k V → IsAt t.known.items j W → Related p V W → (s r : ℕ) → slice_get lists.starts.items k ≡ Some s
      → slice_get lists.starts.items j ≡ Some r → s ≡ r
  one_start k j V W a b w s r x y =
      let one : ClassId = record { 0 = k } in
      let two : ClassId = record { 0 = j } in
      let h = (groups.related one two V W a b).1 w in
      let u = are.starts k h.0 h.1.row (slice_get_within g.rows.items k h.1.row h.1.at) h.1.at h.1.is (groups.low one V h.0 a h.1) in
      let v = are.starts j h.0 h.2.row (slice_get_within g.rows.items j h.2.row h.2.at) h.2.at h.2.is (groups.low two W h.0 b h.2) in
      same_some (slice_get lists.starts.items k) s h.0 x u ∙ same_some (slice_get lists.starts.items j) h.0 r v y

  -- classes with one start are related
  pub start_related : (k j : ℕ) (V W : Path) → IsAt t.known.items k V → IsAt t.known.items j W → IsClass p V → IsClass p W → (s : ℕ) → slice_get lists.starts.items k ≡ Some s
      → slice_get lists.starts.items j ≡ Some s → Related p V W
  start_related k j V W a b c d s x y =
      let one : ClassId = record { 0 = k } in
      let two : ClassId = record { 0 = j } in
      let u = start_at k V a c in
      let v = start_at j W b d in
      let us : u.0 ≡ s = same_some (slice_get lists.starts.items k) u.0 s u.1 x in
      let vs : v.0 ≡ s = same_some (slice_get lists.starts.items j) v.0 s v.1 y in
      (groups.related one two V W a b).0 (s, subst (HasGroup g.rows.items one) us u.2, subst (HasGroup g.rows.items two) vs v.2)

  pub row_there : (k s : ℕ) (V : Path) → IsAt t.known.items k V → IsClass p V → slice_get lists.starts.items k ≡ Some s
      → (row : Vec ℕ Global) × (slice_get lists.numbers.items s ≡ Some row)
  row_there k s V a c e =
      let u = start_at k V a c in
      let us : u.0 ≡ s = same_some (slice_get lists.starts.items k) u.0 s u.1 e in
      let id : ClassId = record { 0 = k } in
      let low : s ≤ k = groups.low id V s a (subst (HasGroup g.rows.items id) us u.2) in
      let within = slice_get_within lists.starts.items k s e in
      there lists.numbers.items s (omega (arith, are.numbers.long, low, within)) where
        there : (xs : Graph) (i : ℕ) → i < length xs → (v : Vec ℕ Global) × (slice_get xs i ≡ Some v)
        there [] i l = absurd (omega arith)
        there (x ∷ xs) zero l = (x, refl)
        there (x ∷ xs) (suc i) l = there xs i (omega (arith, l))

  pub members_related : (k : ℕ) (V : Path) → IsAt t.known.items k V → IsClass p V → (among : List ℕ) → MembersAre lists k among → AreRelated p t.known.items among V
  members_related k V a c among m r R b d = (to, from) where
    to : Contains among r → Related p R V
    to h =
        let s = start_at k V a c in
        let w = row_there k s.0 V a c s.1 in
        let at_r = ((are.numbers.each s.0 w.0 w.1).exact r).0 (subst (λ (xs : List ℕ). Contains xs r) (m s.0 w.0 s.1 w.1) h) in
        start_related r k R V b a d c s.0 at_r s.1

    from : Related p R V → Contains among r
    from q =
        let s = start_at k V a c in
        let w = row_there k s.0 V a c s.1 in
        let u = start_at r R b d in
        let e = one_start r k R V b a q u.0 s.0 u.1 s.1 in
        subst (λ (xs : List ℕ). Contains xs r) (sym (m s.0 w.0 s.1 w.1)) (((are.numbers.each s.0 w.0 w.1).exact r).1 (u.1 ∙ ap Some e))

pub members_ascend : (lists : GroupMembers) → AreMembers lists.starts.items lists.numbers.items → (s : ℕ) (row : Vec ℕ Global) → Some row ≡ slice_get lists.numbers.items s
    → IsStrictlyIncreasing row.items
members_ascend lists m s row e = (m.each s row (sym e)).ascending

-- ---- the fields of all classes

pub firsts_push : (p : Program) (t : Table) (rows after : List (Vec FieldFirst Global)) (k : ℕ) (row : Vec FieldFirst Global) → after ≡ rows ++ row ∷ [] → length rows ≡ k
    → ((V : Path) → IsAt t.known.items k V → IsClass p V → AreFieldFirsts p t.known.items V row.items) → ((V : Path) → IsAt t.known.items k V → (IsClass p V → ⊥) → row.items ≡ [])
    → FirstsTo p t k rows → FirstsTo p t (k + 1) after
firsts_push p t rows after k row e l h n all j V m a = by_place (cases_lt j k) where
  Row : Type 0
  Row = Vec FieldFirst Global

  still : (xs : List (Vec FieldFirst Global)) (i : ℕ) (x : Vec FieldFirst Global) → slice_get xs i ≡ Some x → slice_get (xs ++ row ∷ []) i ≡ Some x
  still [] i x q = absurd (cc q)
  still (y ∷ ys) zero x q = q
  still (y ∷ ys) (suc i) x q = still ys i x q

  last : (xs : List (Vec FieldFirst Global)) → slice_get (xs ++ row ∷ []) (length xs) ≡ Some row
  last [] = refl
  last (y ∷ ys) = last ys

  by_place : (j < k) ⊎ (k ≤ j) → (r : Vec FieldFirst Global) × (slice_get after j ≡ Some r) × (IsClass p V → AreFieldFirsts p t.known.items V r.items) × ((IsClass p V → ⊥) → r.items ≡ [])
  by_place (inl b) =
      let x = all j V b a in
      (x.0, subst (λ (xs : List (Vec FieldFirst Global)). slice_get xs j ≡ Some x.0) (sym e) (still rows j x.0 x.1), x.2, x.3)
  by_place (inr b) =
      let same : k ≡ j = omega arith in
      let here : IsAt t.known.items k V = subst (λ (i : ℕ). IsAt t.known.items i V) (sym same) a in (
        row,
        subst (λ (xs : List (Vec FieldFirst Global)). slice_get xs j ≡ Some row) (sym e) (ap (slice_get (rows ++ row ∷ [])) (sym same ∙ sym l) ∙ last rows),
        h V here,
        n V here,
      )

-- What the rows of groups answer.
use Rattle.std.proofs.Common.{◌≡◌, ◌<◌, ◌+◌, ℕ, length, get_or, List, [], ◌∷◌, Option, Some, None, slice_get, sym, subst, ◌∙◌, Bool, IsTrue, false, ◌↔◌, nat_eq, IfSome, IfNone, arith, refl, ap}
use Rattle.std.proofs.lemmas.Option.{slice_get-get_or, get_or_from_slice_get}
use Rattle.std.specs.List.{Any}
use Rattle.std.specs.declared.vec.Vec.{Vec}
use Rattle.std.specs.declared.alloc.Global.{Global}
use Rattle.jn_reach.specs.Graph.{Graph}
use Rattle.jn_reach.proofs.Searches.{iff_false, not_when, same_some, NoneBefore, none_more}
use Rattle.jn_base.specs.Paths.{Path}
use Rattle.jn_table.specs.declared.class.ClassId.{ClassId}
use Rattle.jn_table.specs.Rows.{IsNumber}
use Rattle.jn_table.proofs.Shown.{number_path}
use Rattle.jn_sem.specs.Sharing.{Related}
use Rattle.jn_base.specs.declared.tree.Program.{Program}
use Rattle.jn_base.specs.declared.path.Path.{Path as ShownPath}
use Rattle.jn_share.specs.declared.rows.GroupRow.{GroupRow}
use Rattle.jn_share.specs.declared.rows.FamilyClass.{FamilyClass}
use Rattle.jn_share.specs.declared.groups.Groups.{Groups}
use Rattle.jn_share.specs.Groups.{AreGroups, HasGroup, HasClass, HasCounterpart, SaysRelated, SaysCounterpart}

pub none_more_at : {X : Type 0} (P : X → Type 0) (xs : List X) (i : ℕ) (d : X) → i < length xs → (P (get_or xs i d) → ⊥) → NoneBefore P xs i → NoneBefore P xs (i + 1)
none_more_at P xs i d l n none =
    let v = get_or xs i d in
    none_more P xs i v l (sym (get_or_from_slice_get xs i v v (slice_get-get_or xs i d l))) n none

pub group_some : (rows : List GroupRow) (id : ClassId) (row : GroupRow) → slice_get rows id.0 ≡ Some row → IfSome row.group (λ f. HasGroup rows id f)
group_some rows id row at = by_group row.group refl where
  by_group : (o : Option ℕ) → row.group ≡ o → IfSome o (λ f. HasGroup rows id f)
  by_group None e = tt
  by_group (Some f) e = record { row = row; at = at; is = e }

-- the group is what the row has, in any list of rows that is the same
moved : (rows others : List GroupRow) (id : ClassId) (f : ℕ) → rows ≡ others → HasGroup others id f → HasGroup rows id f
moved rows others id f e h = subst (λ (rs : List GroupRow). HasGroup rs id f) (sym e) h

one_group : (rows : List GroupRow) (id : ClassId) (f g : ℕ) → HasGroup rows id f → HasGroup rows id g → f ≡ g
one_group rows id f g a b =
    let e : a.row ≡ b.row = same_some (slice_get rows id.0) a.row b.row a.at b.at in
    same_some (a.row).group f g a.is (ap (λ (r : GroupRow). r.group) e ∙ b.is)

module _ (groups : Groups) (a b : ClassId) where
  pub unrelated_one : (rows : List GroupRow) → rows ≡ groups.rows.items → ((f : ℕ) → HasGroup rows a f → ⊥) → SaysRelated groups a b false
  unrelated_one rows e n = λ p known A B g x y.
      iff_false (λ r. let h = (g.related a b A B x y).1 r in n h.0 (moved rows groups.rows.items a h.0 e h.1))

  pub unrelated_other : (rows : List GroupRow) → rows ≡ groups.rows.items → ((f : ℕ) → HasGroup rows b f → ⊥) → SaysRelated groups a b false
  unrelated_other rows e n = λ p known A B g x y.
      iff_false (λ r. let h = (g.related a b A B x y).1 r in n h.0 (moved rows groups.rows.items b h.0 e h.2))

  pub related_by : (rows others : List GroupRow) (f h : ℕ) → rows ≡ groups.rows.items → others ≡ groups.rows.items → HasGroup rows a f → HasGroup others b h
      → SaysRelated groups a b (nat_eq f h)
  related_by rows others f h e i m n = λ p known A B g x y. (to p known A B g x y, from p known A B g x y) where
    one : HasGroup groups.rows.items a f
    one = moved groups.rows.items rows a f (sym e) m

    two : HasGroup groups.rows.items b h
    two = moved groups.rows.items others b h (sym i) n

    to : (p : Program) (known : List ShownPath) (A B : Path) → AreGroups p known groups → IsNumber known a A → IsNumber known b B → IsTrue (nat_eq f h) → Related p A B
    to p known A B g x y t =
        let s : f ≡ h = grind (arith, t) in
        (g.related a b A B x y).0 (f, one, subst (HasGroup groups.rows.items b) (sym s) two)

    from : (p : Program) (known : List ShownPath) (A B : Path) → AreGroups p known groups → IsNumber known a A → IsNumber known b B → Related p A B → IsTrue (nat_eq f h)
    from p known A B g x y r =
        let k = (g.related a b A B x y).1 r in
        let s : f ≡ h = one_group groups.rows.items a f k.0 one k.1 ∙ one_group groups.rows.items b k.0 h k.2 two in
        grind (arith, s)

-- ---- counterparts

number_in : (rows others : List GroupRow) (members lists : Graph) (id family w : ClassId) → rows ≡ others → members ≡ lists
    → HasCounterpart others lists id family w → HasCounterpart rows members id family w
number_in rows others members lists id family w e m h =
    subst (λ (rs : List GroupRow). HasCounterpart rs members id family w) (sym e) (subst (λ (ls : Graph). HasCounterpart others ls id family w) (sym m) h)

pub counterpart_says : (groups : Groups) (id family : ClassId) (rows : List GroupRow) (members : Graph) (told : Option ClassId) → rows ≡ groups.rows.items → members ≡ groups.members.items
    → IfSome told (λ w. HasCounterpart rows members id family w) → (told ≡ None → (w : ClassId) → HasCounterpart rows members id family w → ⊥) → SaysCounterpart groups id family told
counterpart_says groups id family rows members (Some w) e m s n = λ p known A F g x y.
    let k = (g.counterparts id family w A x).0 (number_in groups.rows.items rows groups.members.items members id family w (sym e) (sym m) s) in
    (k.Y, k.W, number_path known family F (k.Y ∷ []) y k.family_is, k.class_is, k.is)
counterpart_says groups id family rows members None e m s n = λ p known A F g x y Y W f c.
    let w = g.whole W c.related.other.universe in
    n refl w.0 (number_in rows groups.rows.items members groups.members.items id family w.0 e m ((g.counterparts id family w.0 A x).1 (record {
      Y = Y;
      family_is = subst (IsNumber known family) f y;
      W = W;
      class_is = w.1;
      is = c;
    })))

pub none_of : (rows : List GroupRow) (members : Graph) (id family : ClassId) (o : Option ClassId) → IfNone o ((w : ClassId) → HasCounterpart rows members id family w → ⊥) → o ≡ None
    → (w : ClassId) → HasCounterpart rows members id family w → ⊥
none_of rows members id family None n e = n
none_of rows members id family (Some w) n e = cc

-- the parts of a counterpart, as they are looked for
module _ (rows : List GroupRow) (members : Graph) (id family : ClassId) where
  pub no_group : ((f : ℕ) → HasGroup rows id f → ⊥) → (w : ClassId) → HasCounterpart rows members id family w → ⊥
  no_group n w h = n h.group h.in_group

  pub no_numbers : (f : ℕ) → HasGroup rows id f → None ≡ slice_get members f → (w : ClassId) → HasCounterpart rows members id family w → ⊥
  no_numbers f g e w h =
      let same : h.group ≡ f = one_group rows id h.group f h.in_group g in
      nothing (e ∙ (ap (slice_get members) (sym same) ∙ h.at)) where
        nothing : {v : Vec ℕ Global} → None ≡ Some v → ⊥
        nothing q = cc

  module _ (f : ℕ) (g : HasGroup rows id f) (numbers : Vec ℕ Global) (at : slice_get members f ≡ Some numbers) (list : List ℕ) (e : list ≡ numbers.items) where
    pub present_here : (o : Option ClassId) → IfSome o (λ w. Any (λ k. HasClass rows k family w) list) → IfSome o (λ w. HasCounterpart rows members id family w)
    present_here None s = tt
    present_here (Some w) s =
        record { group = f; in_group = g; numbers = numbers; at = at; among = subst (λ (xs : List ℕ). Any (λ k. HasClass rows k family w) xs) e s }

    pub absent_here : (o : Option ClassId) → IfNone o ((w : ClassId) → Any (λ k. HasClass rows k family w) list → ⊥)
        → IfNone o ((w : ClassId) → HasCounterpart rows members id family w → ⊥)
    absent_here (Some w) n = tt
    absent_here None n = λ w h.
        let same : h.group ≡ f = one_group rows id h.group f h.in_group g in
        let one : h.numbers ≡ numbers = same_some (slice_get members f) h.numbers numbers (ap (slice_get members) (sym same) ∙ h.at) at in
        n w (subst (λ (xs : List ℕ). Any (λ k. HasClass rows k family w) xs) (ap (λ (v : Vec ℕ Global). v.items) one ∙ sym e) h.among)

-- ---- a row that has a class of the family

module _ (rows : List GroupRow) (k : ℕ) (family : ClassId) where
  pub no_row : None ≡ slice_get rows k → (w : ClassId) → HasClass rows k family w → ⊥
  no_row e w h = nothing (e ∙ h.at) where
    nothing : {r : GroupRow} → None ≡ Some r → ⊥
    nothing q = cc

  module _ (row : GroupRow) (at : Some row ≡ slice_get rows k) where
    own_of : (w : ClassId) → HasClass rows k family w → row.own ≡ Some (record { family = family; class = w })
    own_of w h = ap (λ (r : GroupRow). r.own) (same_some (slice_get rows k) row h.row (sym at) h.at) ∙ h.own

    pub no_own : row.own ≡ None → (w : ClassId) → HasClass rows k family w → ⊥
    no_own e w h = nothing (sym e ∙ own_of w h) where
      nothing : {x : FamilyClass} → None ≡ Some x → ⊥
      nothing q = cc

    pub other_own : (x : FamilyClass) → row.own ≡ Some x → (b : Bool) → b ≡ false → IsTrue b ↔ (x.family ≡ family) → (w : ClassId) → HasClass rows k family w → ⊥
    other_own x e b f i w h =
        let same : x ≡ record { family = family; class = w } = same_some row.own x (record { family = family; class = w }) e (own_of w h) in
        not_when f i (ap (λ (z : FamilyClass). z.family) same)

    pub its_own : (x : FamilyClass) → row.own ≡ Some x → x.family ≡ family → HasClass rows k family x.class
    its_own x e s = record { row = row; at = sym at; own = e ∙ ap (λ (g : ClassId). Some (record { family = g; class = x.class })) s }

-- The paths of the first depths, and the one that has so many before it.
use Rattle.std.proofs.Common.{◌≡◌, ◌<◌, ◌≤◌, ◌+◌, ℕ, List, [], ◌∷◌, ◌++◌, length, slice_get, Some, get_or, take, map}
use Rattle.std.proofs.Common.{arith, sym, ◌∙◌, ap, subst, refl, zero, suc, inl, inr, ◌⊎◌, Contains}
use Rattle.std.specs.declared.cmp.Ordering.{Ordering}
use Rattle.std.specs.declared.cmp.Ordering.TheVariants.{Less}
use Rattle.std.proofs.lemmas.Bool.{cases_lt}
use Rattle.std.proofs.lemmas.Option.{slice_get_within, slice_get_read, slice_get-get_or}
use Rattle.jn_reach.specs.Each.{none, more}
use Rattle.jn_reach.proofs.Eachs.{Each-back}
use Rattle.jn_reach.proofs.Searches.{same_some}
use Rattle.jn_base.specs.declared.tree.Name.{Name}
use Rattle.jn_base.specs.declared.tree.Program.{Program}
use Rattle.jn_base.specs.Paths.{Path}
use Rattle.jn_base.specs.Universe.{IsNamespace, InUniverse}
use Rattle.jn_base.specs.ClassOrder.{class_cmp, Before}
use Rattle.jn_base.specs.TableRules.{IsPathAfter}
use Rattle.jn_base.proofs.ClassOrders.{before_irreflexive, before_chain}
use Rattle.jn_table.specs.Level.{IsShaped, ChildPath, ChildPaths}
use Rattle.jn_table.specs.Exact.{IsLevel, AreChildren}
use Rattle.jn_table.specs.Depths.{AreOf}
use Rattle.jn_table.specs.Order.{order_cmp}
use Rattle.jn_table.specs.Children.{AllPicks}
use Rattle.jn_table.specs.declared.entry.Entry.{Entry}
use Rattle.jn_table.specs.declared.level.Child.{Child}
use Rattle.jn_table.specs.declared.level.Level.{Level}
use Rattle.jn_table.proofs.Sides.{Side, front, back, side, left, right}
use Rattle.jn_table.proofs.Sorted.{InOrder, in_order, sorted, place_below}
use Rattle.jn_table.proofs.Before.{before_member, before_sibling, before_longer, not_longer}
use Rattle.jn_table.proofs.NameOrders.{name_less, named_head}
use Rattle.jn_table.proofs.Members.{all_order, InNames, picked_sound}
use Rattle.jn_table.proofs.Orders.{declared_at, ordered}
use Rattle.jn_table.proofs.NextLevel.{next_paths_sound, next_paths_complete}

-- the paths up to the depth n, in class order
pub record FrontPaths (p : Program) (n : ℕ) (xs : List Path) : Type 0 where
  pub sound : (i : ℕ) (P : Path) → slice_get xs i ≡ Some P → InUniverse p P × (length P ≤ n)
  pub complete : (P : Path) → InUniverse p P → length P ≤ n → (i : ℕ) × (slice_get xs i ≡ Some P)
  pub ordered_by : InOrder (class_cmp p) xs

-- the paths of the depth n, in class order
pub record LevelPaths (p : Program) (n : ℕ) (ys : List Path) : Type 0 where
  pub sound : (i : ℕ) (P : Path) → slice_get ys i ≡ Some P → IsNamespace p P × (length P ≡ n)
  pub complete : (P : Path) → IsNamespace p P → length P ≡ n → (i : ℕ) × (slice_get ys i ≡ Some P)
  pub ordered_by : InOrder (class_cmp p) ys

in_universe : (p : Program) (n : ℕ) (P : Path) → IsNamespace p P → length P ≡ n + 1 → InUniverse p P
in_universe p n [] s e = absurd (omega (arith, e))
in_universe p n (C ∷ P) s e = s

pub in_namespace : (p : Program) (P : Path) → InUniverse p P → IsNamespace p P
in_namespace p [] u = absurd u
in_namespace p (C ∷ P) u = u

pub joined_order : {A : Type 0} (c : A → A → Ordering) (xs ys : List A) → InOrder c xs → InOrder c ys
    → ((i j : ℕ) (x y : A) → slice_get xs i ≡ Some x → slice_get ys j ≡ Some y → c x y ≡ Less) → InOrder c (xs ++ ys)
joined_order {A} c xs ys ox oy cross =
    record { by = λ i j x y l a b. by_sides i j x y l (side xs ys i x a) (side xs ys j y b) } where
      by_sides : (i j : ℕ) (x y : A) → i < j → Side xs ys i x → Side xs ys j y → c x y ≡ Less
      by_sides i j x y l (front a) (front b) = ox.by i j x y l a b
      by_sides i j x y l (front a) (back k e b) = cross i k x y a b
      by_sides i j x y l (back k e a) (front b) = absurd (let w = slice_get_within xs j y b in omega (arith, l, e, w))
      by_sides i j x y l (back k e a) (back m f b) = oy.by k m x y (omega (arith, l, e, f)) a b

-- with the next depth behind them they are those up to it
pub front_joined : (p : Program) (n : ℕ) (xs ys : List Path) → FrontPaths p n xs → LevelPaths p (n + 1) ys
    → FrontPaths p (n + 1) (xs ++ ys)
front_joined p n xs ys f b = record {
  sound = λ i P at. sound i P (side xs ys i P at);
  complete = complete;
  ordered_by = joined_order (class_cmp p) xs ys f.ordered_by b.ordered_by
      (λ i j P Q x y. let u = (f.sound i P x).1 in let v = (b.sound j Q y).1 in before_longer p P Q
      (omega (arith, u, v)));
} where
  sound : (i : ℕ) (P : Path) → Side xs ys i P → InUniverse p P × (length P ≤ n + 1)
  sound i P (front a) = let s = f.sound i P a in (s.0, omega (arith, s.1))
  sound i P (back j e a) = let s = b.sound j P a in (in_universe p n P s.0 s.1, omega (arith, s.1))

  complete : (P : Path) → InUniverse p P → length P ≤ n + 1 → (i : ℕ) × (slice_get (xs ++ ys) i ≡ Some P)
  complete P u l = elim (cases_lt n (length P)) [
    | inl deeper ↦
        let c = b.complete P (in_namespace p P u) (omega (arith, l, deeper)) in
        (length xs + c.0, right xs ys c.0 P c.1)
    | inr within ↦ let c = f.complete P u within in (c.0, left xs ys c.0 P c.1)
  ]

-- a front of a list
pub take_at : {X : Type 0} (r : ℕ) (xs : List X) (k : ℕ) (x : X) → slice_get (take r xs) k ≡ Some x
    → (k < r) × (slice_get xs k ≡ Some x)
take_at zero xs k x at = absurd (cc at)
take_at (suc r) [] k x at = absurd (cc at)
take_at (suc r) (y ∷ ys) zero x at = (omega arith, at)
take_at (suc r) (y ∷ ys) (suc k) x at = let t = take_at r ys k x at in (omega (arith, t.0), t.1)

at_take : {X : Type 0} (r : ℕ) (xs : List X) (k : ℕ) (x : X) → k < r → slice_get xs k ≡ Some x → Contains (take r xs) x
at_take zero xs k x l at = absurd (omega (arith, l))
at_take (suc r) [] k x l at = absurd (cc at)
at_take (suc r) (y ∷ ys) zero x l at = (0, omega arith, cc at)
at_take (suc r) (y ∷ ys) (suc k) x l at =
    let c = at_take r ys k x (omega (arith, l)) at in
    (suc c.0, omega (arith, c.1), c.2)

take_count : {X : Type 0} (r : ℕ) (xs : List X) → r < length xs → length (take r xs) ≡ r
take_count zero xs l = refl
take_count (suc r) [] l = absurd (omega (arith, l))
take_count (suc r) (y ∷ ys) l = ap suc (take_count r ys (omega (arith, l)))

-- in the front up to a depth, a path of that depth has as many before it as its place says
pub path_after : (p : Program) (m n : ℕ) (all : List Path) → FrontPaths p m all → (R : Path)
    → slice_get all n ≡ Some R → length R ≡ m → IsPathAfter p n R
path_after p m n all f R at e = record {
  universe = (f.sound n R at).0;
  earlier = take n all;
  exact = λ Q. (to Q, from Q);
  in_order = sorted (class_cmp p) (take n all)
      (record { by = λ i j x y l a b. (f.ordered_by).by i j x y l (take_at n all i x a).1 (take_at n all j y b).1 });
  count = take_count n all (slice_get_within all n R at);
} where
  to : (Q : Path) → Contains (take n all) Q → InUniverse p Q × Before p Q R
  to Q c =
      let t = take_at n all c.0 Q (slice_get_read (take n all) (length (take n all)) c.0 Q refl c.1 (sym c.2)) in
      ((f.sound c.0 Q t.1).0, (f.ordered_by).by c.0 n Q R t.0 t.1 at)

  from : (Q : Path) → InUniverse p Q × Before p Q R → Contains (take n all) Q
  from Q h =
      let l = not_longer p Q R h.1 in
      let c = f.complete Q h.0 (omega (arith, l, e)) in
      at_take n all c.0 Q (place_below (class_cmp p) (before_irreflexive p)
      (before_chain p) all f.ordered_by c.0 n Q R c.1 at h.1) c.1

-- the paths of children
abbrev pub child_path : List Path → Child → Path
child_path paths c = c.name ∷ get_or paths c.up []

pub paths_of : (paths : List Path) (cs : List Child)
    → ((k : ℕ) (c : Child) → slice_get cs k ≡ Some c → c.up < length paths)
    → ChildPaths paths cs (map (child_path paths) cs)
paths_of paths [] w = none
paths_of paths (c ∷ cs) w =
    more (record { up = get_or paths c.up []; up_at = slice_get-get_or paths c.up [] (w 0 c refl); is = refl })
    (paths_of paths cs (λ k d at. w (suc k) d at))

module _ (p : Program) (es : List Entry) (order : List Name) (n : ℕ) (level : Level) (of : AreOf p es order)
    (is : IsLevel p n level)
    (above : InOrder (class_cmp p) level.paths.items) (shaped : IsShaped level) (children : List Child)
    (all : AllPicks es order level (length level.paths.items) children) where
  child_named : (k : ℕ) (c : Child) → slice_get children k ≡ Some c → (c.name).0 < length p.names
  child_named k c at =
      let o = ordered p.names es order of.order_is in
      let m = picked_sound p es order n level of.flat is shaped o.distinct (declared_at es order o) children all k c
      at in
      named_head p c.name m.2.at ((of.named).paths (c.name ∷ m.2.at) m.2.declared)

  names_before : (k l : ℕ) (a b : Child) → slice_get children k ≡ Some a → slice_get children l ≡ Some b → (P Q : Path)
      → slice_get level.paths.items a.up ≡ Some P → slice_get level.paths.items b.up ≡ Some Q → a.up ≡ b.up
      → InNames order a.name b.name
      → Before p (a.name ∷ P) (b.name ∷ Q)
  names_before k l a b at_k at_l P Q up_a up_b e i =
      let less = (in_order (order_cmp p.names) order
      (of.order_is).in_order).by i.first i.second a.name b.name i.below i.first_at i.second_at in
      let same : P ≡ Q = same_some (slice_get level.paths.items b.up) P Q
      (subst (λ (u : ℕ). slice_get level.paths.items u ≡ Some P) e up_a) up_b in
      subst (λ (R : Path). Before p (a.name ∷ P) (b.name ∷ R)) same
      (before_sibling p P a.name b.name
      (name_less p (of.named).distinct a.name b.name (child_named k a at_k) (child_named l b at_l) less))

  paths_before : (k l : ℕ) (a b : Child) → k < l → slice_get children k ≡ Some a → slice_get children l ≡ Some b
      → (P Q : Path)
      → slice_get level.paths.items a.up ≡ Some P → slice_get level.paths.items b.up ≡ Some Q
      → (a.up < b.up) ⊎ ((a.up ≡ b.up) × InNames order a.name b.name) → Before p (a.name ∷ P) (b.name ∷ Q)
  paths_before k l a b h at_k at_l P Q up_a up_b (inl below) =
      let u = (is.paths_sound a.up P up_a).1 in
      let v = (is.paths_sound b.up Q up_b).1 in
      before_member p P Q a.name b.name (u ∙ sym v) (above.by a.up b.up P Q below up_a up_b)
  paths_before k l a b h at_k at_l P Q up_a up_b (inr same) =
      names_before k l a b at_k at_l P Q up_a up_b same.0 same.1

  pub children_order : (ys : List Path) → ChildPaths level.paths.items children ys → InOrder (class_cmp p) ys
  children_order ys cp = record {
    by = λ k l P Q h at_k at_l.
        let a = Each-back (ChildPath level.paths.items) cp k P at_k in
        let b = Each-back (ChildPath level.paths.items) cp l Q at_l in
        let r = paths_before k l a.0 b.0 h a.1 b.1 a.2.up b.2.up a.2.up_at b.2.up_at
        (all_order all k l a.0 b.0 h a.1 b.1) in
        subst (λ (R : Path). Before p P R) (sym b.2.is)
        (subst (λ (R : Path). Before p R ((b.0).name ∷ b.2.up)) (sym a.2.is) r);
  }

  -- the paths of the members are those of the next depth
  pub next_paths : AreChildren p level children → (ys : List Path) → ChildPaths level.paths.items children ys
      → LevelPaths p (n + 1) ys
  next_paths are ys cp = record {
    sound = next_paths_sound p n level children is are ys cp;
    complete = next_paths_complete p n level children is are ys cp;
    ordered_by = children_order ys cp;
  }

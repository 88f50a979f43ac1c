-- How the loop goes from one depth to the next.
use Rattle.std.proofs.Common.{◌≡◌, ◌<◌, ◌≤◌, ◌+◌, ◌-◌, ℕ, List, [], ◌∷◌, ◌++◌, length, slice_get, Some, get_or, take}
use Rattle.std.proofs.Common.{map, arith, sym, ◌∙◌, ap, subst, refl, zero, suc, inl, inr, All, Contains, Bool, true}
use Rattle.std.proofs.Common.{false, nat_eq, length-append}
use Rattle.std.specs.declared.vec.Vec.{Vec}
use Rattle.std.specs.declared.alloc.Global.{Global}
use Rattle.std.specs.List.Sorted.{IsStrictlyIncreasing}
use Rattle.std.proofs.lemmas.Bool.{cases_lt}
use Rattle.std.proofs.lemmas.List.Elements.{All-nil}
use Rattle.std.proofs.lemmas.Option.{slice_get_within, slice_get-get_or, slice_get_read, get_or_from_slice_get}
use Rattle.jn_reach.specs.Graph.{HasEdge, Graph, InRange}
use Rattle.jn_reach.specs.Numbers.{Numbers}
use Rattle.jn_reach.proofs.Eachs.{Each-at, Each-length}
use Rattle.jn_reach.proofs.Searches.{same_some}
use Rattle.jn_base.specs.declared.tree.Name.{Name}
use Rattle.jn_base.specs.declared.tree.Program.{Program}
use Rattle.jn_base.specs.Paths.{Path}
use Rattle.jn_base.specs.Supers.{Direct}
use Rattle.jn_base.specs.Universe.{IsNamespace, InUniverse}
use Rattle.jn_base.specs.ClassOrder.{class_cmp}
use Rattle.jn_base.specs.TableRules.{IsOver}
use Rattle.jn_table.specs.Level.{IsShaped, ChildPath, ChildPaths}
use Rattle.jn_table.specs.Exact.{IsLevel, AreChildren, IsNextOf, IsRoot}
use Rattle.jn_table.specs.Children.{ChildrenFront, AllPicks}
use Rattle.jn_table.specs.Nodes.{AreNodes, FitNodes, AddsLevel}
use Rattle.jn_table.specs.Depths.{AreOf}
use Rattle.jn_table.specs.declared.entry.Entry.{Entry}
use Rattle.jn_table.specs.declared.level.Child.{Child}
use Rattle.jn_table.specs.declared.level.Level.{Level}
use Rattle.jn_table.specs.declared.nodes.Nodes.{Nodes}
use Rattle.jn_table.proofs.Sides.{right}
use Rattle.jn_table.proofs.Sorted.{InOrder, sorted}
use Rattle.jn_table.proofs.Members.{picked_children, all_sound}
use Rattle.jn_table.proofs.Orders.{declared_at, ordered}
use Rattle.jn_table.proofs.RootLevel.{empty_length}
use Rattle.jn_table.proofs.Shifts.{numbers_joined, level_fits}
use Rattle.jn_table.proofs.Fronts.{FrontPaths, front_joined, path_after, take_at, child_path, paths_of, next_paths, in_namespace}

-- what is known when a depth is reached
pub record Reaches (p : Program) (nodes : Nodes) (level : Level) : Type 0 where
  pub depth : ℕ
  pub here : IsLevel p depth level
  pub ordered_by : InOrder (class_cmp p) level.paths.items
  pub front : FrontPaths p depth nodes.paths.items
  pub direct : Numbers (Direct p) nodes.paths.items (HasEdge nodes.direct.items)

pub record Stage (es : List Entry) (order : List Name) (nodes : Nodes) (level : Level) (room : ℕ) : Type 0 where
  pub few : length level.paths.items ≤ 4096
  pub shaped : IsShaped level
  pub fits : FitNodes nodes
  pub room_is : length nodes.paths.items + room ≡ 4097
  pub some : 0 < room
  pub reaches : (p : Program) → AreOf p es order → Reaches p nodes level

pub no_items : {X : Type 0} (xs : List X) → length xs ≡ 0 → xs ≡ []
no_items [] l = refl
no_items (x ∷ xs) l = absurd (omega (arith, l))

is_zero : (n : ℕ) → nat_eq n 0 ≡ true → n ≡ 0
is_zero n h = grind arith

pub no_length : (b : Bool) (n : ℕ) → b ≡ nat_eq n 0 → b ≡ true → n ≡ 0
no_length b n e t = is_zero n (sym e ∙ t)

is_some : (n : ℕ) → nat_eq n 0 ≡ false → 0 < n
is_some n h = grind arith

-- a list that isn't empty has something
pub some_length : {X : Type 0} (xs : List X) (b : Bool) (n : ℕ) → n ≡ length xs → b ≡ nat_eq n 0 → b ≡ false
    → 0 < length xs
some_length xs b n l e t = let s = is_some n (sym e ∙ t) in omega (arith, s, l)

-- a depth has as many paths as children
pub below_long : (paths : List Path) (children : List Child) (all : List Path) → ChildPaths paths children all
    → length all ≡ length children
below_long paths children all cp = Each-length (ChildPath paths) cp

take_short : {X : Type 0} (r : ℕ) (xs : List X) → length (take r xs) < r → take r xs ≡ xs
take_short zero xs l = absurd (omega (arith, l))
take_short (suc r) [] l = refl
take_short (suc r) (x ∷ xs) l = ap (λ ys. x ∷ ys) (take_short r xs (omega (arith, l)))

no_front : (p : Program) (xs : List Path) → xs ≡ [] → FrontPaths p 0 xs
no_front p xs none = subst (FrontPaths p 0) (sym none) (record {
  sound = λ i P at. absurd (cc at);
  complete = λ P u l. absurd (subst (InUniverse p) (empty_length (let z : length P ≡ 0 = omega (arith, l) in z)) u);
  ordered_by = record { by = λ i j x y l a b. absurd (cc a) };
})

no_direct : (p : Program) (xs : List Path) (g : Graph) → xs ≡ [] → Numbers (Direct p) xs (HasEdge g)
no_direct p xs g none = subst (λ (ys : List Path). Numbers (Direct p) ys (HasEdge g)) (sym none) (record {
  sound = λ i j x at e. absurd (cc at);
  complete = λ i x y at d. absurd (cc at);
})

root_order : (p : Program) (level : Level) → IsLevel p 0 level → InOrder (class_cmp p) level.paths.items
root_order p level is = record {
  by = λ i j x y l a b.
      let e = empty_length (is.paths_sound i x a).1 in
      let f = empty_length (is.paths_sound j y b).1 in
      let same = is.distinct i j y (subst (λ (R : Path). slice_get level.paths.items i ≡ Some R) (e ∙ sym f) a) b in
      absurd (omega (arith, l, same));
}

pub stage_root : (es : List Entry) (order : List Name) (nodes : Nodes) (level : Level) → nodes.paths.items ≡ []
    → nodes.direct.items ≡ [] → length level.paths.items ≡ 1
    → IsShaped level → IsRoot level → Stage es order nodes level 4097
stage_root es order nodes level no_paths no_rows one shaped root = record {
  few = omega (arith, one);
  shaped = shaped;
  fits = record {
    few = let l = ap length no_paths in omega (arith, l);
    long = ap length no_rows ∙ sym (ap length no_paths);
    within = subst (λ (g : Graph). InRange g (length nodes.paths.items)) (sym no_rows) (All-nil _);
    ascending = subst (λ (g : Graph). All (λ (row : Vec ℕ Global). IsStrictlyIncreasing row.items) g) (sym no_rows)
        (All-nil _);
  };
  room_is = let l = ap length no_paths in omega (arith, l);
  some = omega arith;
  reaches = λ p of. record {
    depth = 0;
    here = root p;
    ordered_by = root_order p level (root p);
    front = no_front p nodes.paths.items no_paths;
    direct = no_direct p nodes.paths.items nodes.direct.items no_paths;
  };
}

-- what the picked children are, of which there was room for all or not
children_all : (p : Program) (es : List Entry) (order : List Name) (level : Level) (n : ℕ) (children : List Child)
    → AreOf p es order
    → IsLevel p n level → IsShaped level → AllPicks es order level (length level.paths.items) children
    → AreChildren p level children
children_all p es order level n children of is shaped all =
    let o = ordered p.names es order of.order_is in
    picked_children p es order n level of.flat is shaped o.distinct (declared_at es order o) children all

picks_of : (es : List Entry) (order : List Name) (level : Level) (room : ℕ) (children : List Child)
    → ChildrenFront es order level (length level.paths.items) room children → length children < room
    → AllPicks es order level (length level.paths.items) children
picks_of es order level room children f l =
    let short : length (take room f.whole) < room = subst (λ (cs : List Child). length cs < room) f.front l in
    let same : children ≡ f.whole = f.front ∙ take_short room f.whole short in
    subst (λ (cs : List Child). AllPicks es order level (length level.paths.items) cs) (sym same) f.all

-- there is room for all of the next depth
pub stage_few : (es : List Entry) (order : List Name) (nodes : Nodes) (level below : Level) (room : ℕ)
    (children : List Child)
    → Stage es order nodes level room → length children < room
    → ChildPaths level.paths.items children below.paths.items
    → length nodes.paths.items + length below.paths.items ≤ 4096
stage_few es order nodes level below room children s l cp =
    let q = s.room_is in
    let h : length below.paths.items ≡ length children = Each-length (ChildPath level.paths.items) cp in
    omega (arith, q, h, l)

pub stage_next : (es : List Entry) (order : List Name) (nodes after : Nodes) (level below : Level) (room : ℕ)
    (children : List Child)
    → Stage es order nodes level room → ChildrenFront es order level (length level.paths.items) room children
    → length children < room
    → IsShaped below → ChildPaths level.paths.items children below.paths.items → IsNextOf es level children below
    → AddsLevel below nodes after
    → (rest : ℕ) → rest + length children ≡ room → Stage es order after below rest
stage_next es order nodes after level below room children s f l shaped cp next adds rest left_is = record {
  few = let q = stage_few es order nodes level below room children s l cp in omega (arith, q);
  shaped = shaped;
  fits = level_fits below nodes after shaped s.fits adds (stage_few es order nodes level below room children s l cp);
  room_is = let t = total in let q = s.room_is in omega (arith, t, q, left_is, long);
  some = omega (arith, l, left_is);
  reaches = reaches;
} where
  long : length below.paths.items ≡ length children
  long = Each-length (ChildPath level.paths.items) cp

  total : length after.paths.items ≡ length nodes.paths.items + length below.paths.items
  total = ap length adds.paths ∙ length-append nodes.paths.items below.paths.items

  all : AllPicks es order level (length level.paths.items) children
  all = picks_of es order level room children f l

  reaches : (p : Program) → AreOf p es order → Reaches p after below
  reaches p of =
      let r = s.reaches p of in
      let are = children_all p es order level r.depth children of r.here s.shaped all in
      let here = next p r.depth of.flat r.here are in
      let ys = next_paths p es order r.depth level of r.here r.ordered_by s.shaped children all are below.paths.items cp in
      record {
        depth = r.depth + 1;
        here = here;
        ordered_by = ys.ordered_by;
        front = subst (FrontPaths p (r.depth + 1)) (sym adds.paths)
            (front_joined p r.depth nodes.paths.items below.paths.items r.front ys);
        direct = subst (λ (ps : List Path). Numbers (Direct p) ps (HasEdge after.direct.items)) (sym adds.paths)
            (numbers_joined (Direct p) nodes.paths.items below.paths.items nodes.direct.items below.direct.items
            after.direct.items
            (s.fits).long r.direct here.direct adds.direct);
      }

-- below a depth whose paths have no members there is none
no_deeper : (p : Program) (n : ℕ) (level : Level) → IsLevel p n level → AreChildren p level [] → (P : Path)
    → IsNamespace p P → n < length P → ⊥
no_deeper p n level is are [] s l = omega (arith, l)
no_deeper p n level is are (C ∷ Q) s l = elim (cases_lt n (length Q)) [
  | inl further ↦ no_deeper p n level is are Q s.0 further
  | inr past ↦
      let i = is.paths_complete Q s.0 (omega (arith, l, past)) in
      let c = are.complete i.0 Q C i.1 s.1 in
      absurd (cc c.2)
]

pub stage_last : (es : List Entry) (order : List Name) (nodes : Nodes) (level : Level) (room : ℕ)
    (children : List Child)
    → Stage es order nodes level room → ChildrenFront es order level (length level.paths.items) room children
    → length children < room
    → children ≡ [] → (p : Program) → AreOf p es order → AreNodes p nodes
stage_last es order nodes level room children s f l none p of = record {
  universe = record {
    exact = λ S. (
      λ c. ((r.front).sound c.0 S (slice_get_read nodes.paths.items (length nodes.paths.items) c.0 S refl c.1
          (sym c.2))).0,
      λ u. in_list (has S u),
    );
    in_order = sorted (class_cmp p) nodes.paths.items (r.front).ordered_by;
  };
  direct = r.direct;
} where
  r : Reaches p nodes level
  r = s.reaches p of

  gone : AreChildren p level []
  gone = subst (AreChildren p level) none
      (children_all p es order level r.depth children of r.here s.shaped (picks_of es order level room children f l))

  has : (S : Path) → InUniverse p S → (i : ℕ) × (slice_get nodes.paths.items i ≡ Some S)
  has S u = elim (cases_lt r.depth (length S)) [
    | inl deeper ↦ absurd (no_deeper p r.depth level r.here gone S (in_namespace p S u) deeper)
    | inr within ↦ (r.front).complete S u within
  ]

  in_list : {S : Path} → (i : ℕ) × (slice_get nodes.paths.items i ≡ Some S) → Contains nodes.paths.items S
  in_list {S} h =
      (h.0, slice_get_within nodes.paths.items h.0 S h.1, get_or_from_slice_get nodes.paths.items h.0 S S h.1)

in_whole : (es : List Entry) (order : List Name) (level : Level) (n room : ℕ) (children : List Child)
    (f : ChildrenFront es order level n room children)
    → (k : ℕ) (c : Child) → slice_get children k ≡ Some c → slice_get f.whole k ≡ Some c
in_whole es order level n room children f k c at =
    (take_at room f.whole k c (subst (λ (cs : List Child). slice_get cs k ≡ Some c) f.front at)).1

pub front_within : (es : List Entry) (order : List Name) (level : Level) (n room : ℕ) (children : List Child)
    → ChildrenFront es order level n room children → All (λ (c : Child). c.up < n) children
front_within es order level n room children f i d l =
    let c = get_or children i d in
    (all_sound f.all i c (in_whole es order level n room children f i c (slice_get-get_or children i d l))).within

-- where there is no room for all, the last for which there is is the 4,097th
pub stage_over : (es : List Entry) (order : List Name) (nodes : Nodes) (level : Level) (room : ℕ)
    (children : List Child) (c : Child) (P : Path)
    → Stage es order nodes level room → ChildrenFront es order level (length level.paths.items) room children
    → slice_get children (room - 1) ≡ Some c → slice_get level.paths.items c.up ≡ Some P → (p : Program)
    → AreOf p es order → IsOver p (c.name ∷ P)
stage_over es order nodes level room children c P s f at up_at p of =
    path_after p (r.depth + 1) 4096 (nodes.paths.items ++ ys) joined (c.name ∷ P) place
    (let e = ((r.here).paths_sound c.up P up_at).1 in let q : suc (length P) ≡ r.depth + 1 = omega (arith, e) in q)
  where
    r : Reaches p nodes level
    r = s.reaches p of

    ys : List Path
    ys = map (child_path level.paths.items) f.whole

    cp : ChildPaths level.paths.items f.whole ys
    cp = paths_of level.paths.items f.whole (λ k d x. (all_sound f.all k d x).within)

    joined : FrontPaths p (r.depth + 1) (nodes.paths.items ++ ys)
    joined = front_joined p r.depth nodes.paths.items ys r.front
        (next_paths p es order r.depth level of r.here r.ordered_by s.shaped f.whole f.all
        (children_all p es order level r.depth f.whole of r.here s.shaped f.all) ys cp)

    place : slice_get (nodes.paths.items ++ ys) 4096 ≡ Some (c.name ∷ P)
    place =
        let w = in_whole es order level (length level.paths.items) room children f (room - 1) c at in
        let e = Each-at (ChildPath level.paths.items) cp (room - 1) c w in
        let up : e.2.up ≡ P = same_some (slice_get level.paths.items c.up) e.2.up P e.2.up_at up_at in
        let is : e.0 ≡ c.name ∷ P = e.2.is ∙ ap (λ (Q : Path). c.name ∷ Q) up in
        let n : length nodes.paths.items + (room - 1) ≡ 4096 = let q = s.room_is in let o = s.some in omega
        (arith, q, o) in
        subst (λ (k : ℕ). slice_get (nodes.paths.items ++ ys) k ≡ Some (c.name ∷ P)) n
        (right nodes.paths.items ys (room - 1) (c.name ∷ P)
        (subst (λ (R : Path). slice_get ys (room - 1) ≡ Some R) is e.1))

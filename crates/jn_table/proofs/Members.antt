-- What is picked are the members of the paths, each once.
use Rattle.std.proofs.Common.{◌≡◌, ◌<◌, ◌+◌, ℕ, List, ◌∷◌, length, slice_get, Some, arith, sym, ◌∙◌, ap, subst, refl, zero, suc, inl, inr, ◌⊎◌}
use Rattle.std.proofs.lemmas.Bool.{cases_lt}
use Rattle.std.proofs.lemmas.Option.{slice_get_within, slice_get_cases}
use Rattle.jn_reach.specs.Graph.{HasEdge}
use Rattle.jn_reach.specs.Numbers.{AreDistinct}
use Rattle.jn_reach.proofs.Searches.{same_some}
use Rattle.jn_base.specs.declared.tree.Name.{Name}
use Rattle.jn_base.specs.declared.tree.Program.{Program}
use Rattle.jn_base.specs.Paths.{Path}
use Rattle.jn_base.specs.Supers.{Sup, Member}
use Rattle.jn_table.specs.Gather.{DeclaresIn}
use Rattle.jn_table.specs.Level.{IsShaped}
use Rattle.jn_table.specs.Exact.{IsFlat, IsLevel, AreChildren}
use Rattle.jn_table.specs.Children.{Picks, nobody, takes, skips, MemberOf, AllPicks, no_path, one_path}
use Rattle.jn_table.specs.declared.entry.Entry.{Entry}
use Rattle.jn_table.specs.declared.level.Child.{Child}
use Rattle.jn_table.specs.declared.level.Level.{Level}
use Rattle.jn_table.proofs.Sides.{Side, front, back, side, left, right}

-- what is picked is a member, by a name of the list
record IsPick (S : Name → Type 0) (up : ℕ) (ns : List Name) (c : Child) : Type 0 where
  up_is : c.up ≡ up
  member : S c.name
  place : ℕ
  place_at : slice_get ns place ≡ Some c.name

pick_later : (S : Name → Type 0) (up : ℕ) (ns : List Name) (D : Name) (c : Child) → IsPick S up ns c
    → IsPick S up (D ∷ ns) c
pick_later S up ns D c r = record { up_is = r.up_is; member = r.member; place = suc r.place; place_at = r.place_at }

picks_sound : {S : Name → Type 0} {up : ℕ} {ns : List Name} {cs : List Child} → Picks S up ns cs
    → (k : ℕ) (c : Child) → slice_get cs k ≡ Some c
    → IsPick S up ns c
picks_sound nobody k c at = absurd (cc at)
picks_sound {S} {up} (takes {C = C} {ns = ns} s ps) zero c at =
    let e : record { up = up; name = C } ≡ c = cc at in
    subst (IsPick S up (C ∷ ns)) e (record { up_is = refl; member = s; place = 0; place_at = refl })
picks_sound {S} {up} (takes {C = C} {ns = ns} s ps) (suc k) c at = pick_later S up ns C c (picks_sound ps k c at)
picks_sound {S} {up} (skips {C = C} {ns = ns} n ps) k c at = pick_later S up ns C c (picks_sound ps k c at)

record IsPicked (up : ℕ) (cs : List Child) (C : Name) : Type 0 where
  place : ℕ
  child : Child
  at : slice_get cs place ≡ Some child
  up_is : child.up ≡ up
  name_is : child.name ≡ C

picked_later : (up : ℕ) (cs : List Child) (d : Child) (C : Name) → IsPicked up cs C → IsPicked up (d ∷ cs) C
picked_later up cs d C r =
    record { place = suc r.place; child = r.child; at = r.at; up_is = r.up_is; name_is = r.name_is }

picks_complete : {S : Name → Type 0} {up : ℕ} {ns : List Name} {cs : List Child} → Picks S up ns cs
    → (i : ℕ) (C : Name) → slice_get ns i ≡ Some C
    → S C → IsPicked up cs C
picks_complete nobody i C at s = absurd (cc at)
picks_complete (takes {C = D} t ps) zero C at s =
    record { place = 0; child = record { up = _; name = D }; at = refl; up_is = refl; name_is = cc at }
picks_complete {S} {up} (takes {C = D} {cs = cs} t ps) (suc i) C at s =
    picked_later up cs (record { up = up; name = D }) C (picks_complete ps i C at s)
picks_complete {S} (skips {C = D} n ps) zero C at s = absurd (n (subst S (let e : C ≡ D = cc at in e) s))
picks_complete (skips n ps) (suc i) C at s = picks_complete ps i C at s

distinct_tail : (D : Name) (ns : List Name) → AreDistinct (D ∷ ns) → AreDistinct ns
distinct_tail D ns u i j x a b = let e = u (suc i) (suc j) x a b in omega (arith, e)

picks_distinct : {S : Name → Type 0} {up : ℕ} {ns : List Name} {cs : List Child} → Picks S up ns cs → AreDistinct ns
    → (k l : ℕ) (a b : Child) → slice_get cs k ≡ Some a → slice_get cs l ≡ Some b → a.name ≡ b.name → k ≡ l
picks_distinct nobody u k l a b at_k at_l e = absurd (cc at_k)
picks_distinct (takes s ps) u zero zero a b at_k at_l e = refl
picks_distinct {S} {up} (takes {C = C} {ns = ns} s ps) u zero (suc l) a b at_k at_l e =
    let p = picks_sound ps l b at_l in
    let same : C ≡ b.name = ap (λ (c : Child). c.name) (let h : record { up = up; name = C } ≡ a = cc at_k in h) ∙ e in
    let z = u 0 (suc p.place) b.name (ap Some same) p.place_at in
    absurd (omega (arith, z))
picks_distinct {S} {up} (takes {C = C} {ns = ns} s ps) u (suc k) zero a b at_k at_l e =
    let p = picks_sound ps k a at_k in
    let same : C ≡ a.name = ap (λ (c : Child). c.name) (let h : record { up = up; name = C } ≡ b = cc at_l in h) ∙
    sym e in
    let z = u 0 (suc p.place) a.name (ap Some same) p.place_at in
    absurd (omega (arith, z))
picks_distinct (takes {C = C} {ns = ns} s ps) u (suc k) (suc l) a b at_k at_l e =
    ap suc (picks_distinct ps (distinct_tail C ns u) k l a b at_k at_l e)
picks_distinct (skips {C = C} {ns = ns} n ps) u k l a b at_k at_l e =
    picks_distinct ps (distinct_tail C ns u) k l a b at_k at_l e

-- two names of the list, one before the other
pub record InNames (ns : List Name) (C D : Name) : Type 0 where
  pub first : ℕ
  pub second : ℕ
  pub below : first < second
  pub first_at : slice_get ns first ≡ Some C
  pub second_at : slice_get ns second ≡ Some D

names_later : (ns : List Name) (B C D : Name) → InNames ns C D → InNames (B ∷ ns) C D
names_later ns B C D r = record {
  first = suc r.first;
  second = suc r.second;
  below = omega (arith, r.below);
  first_at = r.first_at;
  second_at = r.second_at;
}

picks_order : {S : Name → Type 0} {up : ℕ} {ns : List Name} {cs : List Child} → Picks S up ns cs
    → (k l : ℕ) (a b : Child) → k < l → slice_get cs k ≡ Some a → slice_get cs l ≡ Some b → InNames ns a.name b.name
picks_order nobody k l a b h at_k at_l = absurd (cc at_k)
picks_order (takes s ps) k zero a b h at_k at_l = absurd (omega (arith, h))
picks_order {S} {up} (takes {C = C} {ns = ns} s ps) zero (suc l) a b h at_k at_l =
    let p = picks_sound ps l b at_l in
    let e : record { up = up; name = C } ≡ a = cc at_k in
    record {
      first = 0;
      second = suc p.place;
      below = omega arith;
      first_at = ap (λ (c : Child). Some c.name) e;
      second_at = p.place_at;
    }
picks_order (takes {C = C} {ns = ns} s ps) (suc k) (suc l) a b h at_k at_l =
    names_later ns C a.name b.name (picks_order ps k l a b (omega (arith, h)) at_k at_l)
picks_order (skips {C = C} {ns = ns} n ps) k l a b h at_k at_l =
    names_later ns C a.name b.name (picks_order ps k l a b h at_k at_l)

pub record IsMember (es : List Entry) (level : Level) (n : ℕ) (c : Child) : Type 0 where
  pub within : c.up < n
  pub member : MemberOf es level c.up c.name

pub all_sound : {es : List Entry} {order : List Name} {level : Level} {n : ℕ} {cs : List Child}
    → AllPicks es order level n cs
    → (k : ℕ) (c : Child) → slice_get cs k ≡ Some c → IsMember es level n c
all_sound no_path k c at = absurd (cc at)
all_sound {es} {order} {level} (one_path {n = n} {cs = cs} {ds = ds} ps q) k c at =
    by_side (λ a. all_sound ps k c a) (side cs ds k c at) where
      by_side : (slice_get cs k ≡ Some c → IsMember es level n c) → Side cs ds k c → IsMember es level (n + 1) c
      by_side below (front a) = let m = below a in record { within = omega (arith, m.within); member = m.member }
      by_side below (back j e a) =
          let m = picks_sound q j c a in
          record {
            within = omega (arith, m.up_is);
            member = subst (λ i. MemberOf es level i c.name)
                (sym m.up_is) m.member;
          }

all_complete : {es : List Entry} {order : List Name} {level : Level} {n : ℕ} {cs : List Child}
    → AllPicks es order level n cs
    → (i : ℕ) (C : Name) (j : ℕ) → i < n → slice_get order j ≡ Some C → MemberOf es level i C → IsPicked i cs C
all_complete no_path i C j l at m = absurd (omega (arith, l))
all_complete {es} {order} {level} (one_path {n = n} {cs = cs} {ds = ds} ps q) i C j l at m = elim (cases_lt i n) [
  | inl small ↦
      let r = all_complete ps i C j small at m in
      record {
        place = r.place;
        child = r.child;
        at = left cs ds r.place r.child r.at;
        up_is = r.up_is;
        name_is =
            r.name_is;
      }
  | inr large ↦
      let same : i ≡ n = omega (arith, l, large) in
      let r = picks_complete q j C at (subst (λ k. MemberOf es level k C) same m) in
      record {
        place = length cs + r.place;
        child = r.child;
        at = right cs ds r.place r.child r.at;
        up_is = r.up_is ∙
            sym same;
        name_is = r.name_is;
      }
]

all_distinct : {es : List Entry} {order : List Name} {level : Level} {n : ℕ} {cs : List Child}
    → AllPicks es order level n cs → AreDistinct order
    → (k l : ℕ) (a b : Child) → slice_get cs k ≡ Some a → slice_get cs l ≡ Some b → a.up ≡ b.up → a.name ≡ b.name
    → k ≡ l
all_distinct no_path u k l a b at_k at_l e f = absurd (cc at_k)
all_distinct {es} {order} {level} (one_path {n = n} {cs = cs} {ds = ds} ps q) u k l a b at_k at_l e f =
    sides (λ x y. all_distinct ps u k l a b x y e f) (λ j c x. (all_sound ps j c x).within) (side cs ds k a at_k)
    (side cs ds l b at_l) where
      sides : (slice_get cs k ≡ Some a → slice_get cs l ≡ Some b → k ≡ l)
          → ((j : ℕ) (c : Child) → slice_get cs j ≡ Some c → c.up < n)
          → Side cs ds k a → Side cs ds l b → k ≡ l
      sides below within (front x) (front y) = below x y
      sides below within (front x) (back j h y) = absurd (omega (arith, within k a x, (picks_sound q j b y).up_is, e))
      sides below within (back i g x) (front y) = absurd (omega (arith, within l b y, (picks_sound q i a x).up_is, e))
      sides below within (back i g x) (back j h y) = let r = picks_distinct q u i j a b x y f in omega (arith, g, h, r)

-- the members of an earlier path come first, and those of one path in the order of their names
pub all_order : {es : List Entry} {order : List Name} {level : Level} {n : ℕ} {cs : List Child}
    → AllPicks es order level n cs
    → (k l : ℕ) (a b : Child) → k < l → slice_get cs k ≡ Some a → slice_get cs l ≡ Some b
    → (a.up < b.up) ⊎ ((a.up ≡ b.up) × InNames order a.name b.name)
all_order no_path k l a b h at_k at_l = absurd (cc at_k)
all_order {es} {order} {level} (one_path {n = n} {cs = cs} {ds = ds} ps q) k l a b h at_k at_l =
    sides (λ x y. all_order ps k l a b h x y) (side cs ds k a at_k) (side cs ds l b at_l) where
      sides : (slice_get cs k ≡ Some a → slice_get cs l ≡ Some b → (a.up < b.up) ⊎ ((a.up ≡ b.up) × InNames order a.name b.name))
          → Side cs ds k a → Side cs ds l b → (a.up < b.up) ⊎ ((a.up ≡ b.up) × InNames order a.name b.name)
      sides below (front x) (front y) = below x y
      sides below (front x) (back j g y) =
          inl (let w = (all_sound ps k a x).within in let u = (picks_sound q j b y).up_is in omega (arith, w, u))
      sides below (back i g x) (front y) = absurd (let w = slice_get_within cs l b y in omega (arith, g, w, h))
      sides below (back i g x) (back j f y) =
          inr (
            (picks_sound q i a x).up_is ∙ sym (picks_sound q j b y).up_is,
            picks_order q i j a b
                (omega (arith, g, f, h)) x y,
          )

-- the order has each declared name
abbrev pub HasDeclared : List Entry → List Name → Type 0
HasDeclared es order = (P : Path) (C : Name) → DeclaresIn es P C → (j : ℕ) × (slice_get order j ≡ Some C)

module _ (p : Program) (es : List Entry) (order : List Name) (n : ℕ) (level : Level) (flat : IsFlat p es)
    (is : IsLevel p n level)
    (shaped : IsShaped level) (u : AreDistinct order) (has : HasDeclared es order) (children : List Child)
    (all : AllPicks es order level (length level.paths.items) children) where
  member_path : (c : Child) → MemberOf es level c.up c.name → (P : Path)
      → slice_get level.paths.items c.up ≡ Some P → Member p P c.name
  member_path c m P at =
      let q = (m.member).1 in
      let w = (m.member).4 in
      let edge : HasEdge level.sups.items c.up q =
      record { row = m.sups; at = m.sups_at; in_row = ((m.member).0, (m.member).2, (m.member).3) } in
      let s = is.sups.sound c.up q P at edge in
      let same = same_some (slice_get level.paths.items q) s.0 w.0 s.1 w.1 in
      record { at = w.0; super = subst (Sup p P) same s.2; declared = (flat.declared w.0 c.name).0 w.2 }

  pub picked_sound : (k : ℕ) (c : Child) → slice_get children k ≡ Some c
      → (P : Path) × (slice_get level.paths.items c.up ≡ Some P) × Member p P c.name
  picked_sound k c at =
      let m = all_sound all k c at in
      elim (slice_get_cases level.paths.items c.up).1 [
        | inl f ↦ (f.0, f.2, member_path c m.member f.0 f.2)
        | inr past ↦ absurd (omega (arith, past.0, m.within))
      ]

  member_of : (i : ℕ) (P : Path) (C : Name) → slice_get level.paths.items i ≡ Some P → Member p P C
      → MemberOf es level i C
  member_of i P C at m =
      let s = is.sups.complete i P m.at at m.super in
      let e = s.2 in
      let d = (flat.declared m.at C).1 m.declared in
      record { sups = e.row; sups_at = e.at; member = (e.in_row.0, s.0, e.in_row.1, e.in_row.2, (m.at, s.1, d)) }

  complete : (i : ℕ) (P : Path) (C : Name) → slice_get level.paths.items i ≡ Some P → Member p P C
      → (k : ℕ) × (child : Child) × (slice_get children k ≡ Some child) × (child.up ≡ i) × (child.name ≡ C)
  complete i P C at m =
      let o = has m.at C ((flat.declared m.at C).1 m.declared) in
      let r = all_complete all i C o.0 (slice_get_within level.paths.items i P at) o.1 (member_of i P C at m) in
      (r.place, r.child, r.at, r.up_is, r.name_is)

  pub picked_children : AreChildren p level children
  picked_children = record { sound = picked_sound; complete = complete; distinct = all_distinct all u }

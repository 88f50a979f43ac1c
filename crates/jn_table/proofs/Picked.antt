-- How the members of the paths of a depth are picked, as far as there is room.
use Rattle.std.proofs.Common.{◌≡◌, ◌<◌, ◌≤◌, ◌+◌, ℕ, List, [], ◌∷◌, ◌++◌, length, slice_get, Some, take, get_or, Contains}
use Rattle.std.proofs.Common.{arith, sym, ◌∙◌, ap, subst, refl, zero, suc, append_assoc, inl, inr}
use Rattle.std.specs.List.{AllPairs}
use Rattle.std.specs.declared.vec.Vec.{Vec}
use Rattle.std.specs.declared.alloc.Global.{Global}
use Rattle.std.proofs.lemmas.Bool.{cases_lt}
use Rattle.std.proofs.lemmas.List.{append-nil}
use Rattle.std.proofs.lemmas.List.Kept.{AllPairs-from_increasing}
use Rattle.std.proofs.lemmas.Option.{slice_get-get_or}
use Rattle.jn_reach.specs.Each.{Each, none, more}
use Rattle.jn_reach.specs.Graph.{Lists}
use Rattle.jn_reach.proofs.Eachs.{Each-more}
use Rattle.jn_reach.proofs.Listing.{Lists-same}
use Rattle.jn_reach.proofs.Searches.{same_some}
use Rattle.jn_base.specs.declared.tree.Name.{Name}
use Rattle.jn_table.proofs.NamePlaces.{IsMemberPlace}
use Rattle.jn_table.proofs.Places.{same_item, take_none, take_whole}
use Rattle.jn_table.specs.Gather.{MembersAt}
use Rattle.jn_table.specs.Children.{Picks, nobody, takes, skips, AddsPicked, IsChildAt}
use Rattle.jn_table.specs.Children.{MemberOf, no_path, one_path, ChildrenFront}
use Rattle.jn_table.specs.declared.entry.Entry.{Entry}
use Rattle.jn_table.specs.declared.level.Child.{Child}
use Rattle.jn_table.specs.declared.level.Level.{Level}

take_push : {X : Type 0} (r : ℕ) (xs : List X) (x : X) → length (take r xs) < r
    → take r (xs ++ x ∷ []) ≡ take r xs ++ x ∷ []
take_push zero xs x l = absurd (omega (arith, l))
take_push (suc r) [] x l = ap (λ ys. x ∷ ys) (take_none r)
take_push (suc r) (y ∷ ys) x l = ap (λ zs. y ∷ zs) (take_push r ys x (omega (arith, l)))

take_full : {X : Type 0} (r : ℕ) (xs ys : List X) → r ≤ length (take r xs) → take r (xs ++ ys) ≡ take r xs
take_full zero xs ys l = refl
take_full (suc r) [] ys l = absurd (omega (arith, l))
take_full (suc r) (x ∷ xs) ys l = ap (λ zs. x ∷ zs) (take_full r xs ys (omega (arith, l)))

pub take_joined : {X : Type 0} (r : ℕ) (xs ys : List X) → take r (take r xs ++ ys) ≡ take r (xs ++ ys)
take_joined zero xs ys = refl
take_joined (suc r) [] ys = refl
take_joined (suc r) (x ∷ xs) ys = ap (λ zs. x ∷ zs) (take_joined r xs ys)

-- ---- how a loop adds those of the places

pub child_at : (order : List Name) (up k : ℕ) (d : Name) → k < length order
    → IsChildAt order up k (record { up = up; name = get_or order k d })
child_at order up k d l = record { name_at = slice_get-get_or order k d l; under = refl }

pub adds_none : (order : List Name) (up room : ℕ) (all : List Child) → length all ≤ room
    → AddsPicked order [] up room all all
adds_none order up room all l =
    record { added = []; each = none; is = sym (take_whole room all l) ∙ ap (take room) (sym (append-nil all)) }

module _ (order : List Name) (picked : List ℕ) (up room n d : ℕ) (l : n < length picked) (before all : List Child)
    (a : AddsPicked order (take n picked) up room before all) where
  one_added : (c : Child) → IsChildAt order up (get_or picked n d) c
      → Each (IsChildAt order up) (take (n + 1) picked) (a.added ++ c ∷ [])
  one_added c at =
      Each-more (IsChildAt order up) picked a.added n (get_or picked n d) c l (same_item picked n d l) a.each at

  -- where there is room
  pub adds_here : (c : Child) → IsChildAt order up (get_or picked n d) c → length all < room
      → AddsPicked order (take (n + 1) picked) up room before (all ++ c ∷ [])
  adds_here c at small = record {
    added = a.added ++ c ∷ [];
    each = one_added c at;
    is = ap (λ (xs : List Child). xs ++ c ∷ []) a.is
        ∙ (sym (take_push room (before ++ a.added) c (subst (λ (xs : List Child). length xs < room) a.is small))
        ∙ ap (take room) (simp append_assoc));
  }

  -- and where there is none
  pub adds_beyond : (c : Child) → IsChildAt order up (get_or picked n d) c → room ≤ length all
      → AddsPicked order (take (n + 1) picked) up room before all
  adds_beyond c at large = record {
    added = a.added ++ c ∷ [];
    each = one_added c at;
    is = a.is
        ∙ (sym (take_full room (before ++ a.added) (c ∷ [])
        (subst (λ (xs : List Child). room ≤ length xs) a.is large))
        ∙ ap (take room) (simp append_assoc));
  }

pub adds_all : (order : List Name) (picked : List ℕ) (up room n : ℕ) (before after : List Child) → length picked ≤ n
    → AddsPicked order (take n picked) up room before after → AddsPicked order picked up room before after
adds_all order picked up room n before after past a =
    subst (λ (ks : List ℕ). AddsPicked order ks up room before after) (take_whole n picked past) a

-- ---- what is at all places of which S holds is what S picks

-- ascending numbers from `low` on
data From : ℕ → List ℕ → Type 0 where
  no_more : {low : ℕ} → From low []
  one_more : {low k : ℕ} {ks : List ℕ} → low ≤ k → From (k + 1) ks → From low (k ∷ ks)

from_within : {low : ℕ} {ks : List ℕ} → From low ks → (b : ℕ) → Contains ks b → low ≤ b
from_within no_more b c = absurd (omega (arith, c.1))
from_within (one_more l f) b (zero, m, e) = omega (arith, l, e)
from_within (one_more {low = low} {k = k} {ks = ks} l f) b (suc i, m, e) =
    let w = from_within f b (i, omega (arith, m), e) in omega (arith, l, w)

from_lower : {low high : ℕ} {ks : List ℕ} → low ≤ high → From high ks → From low ks
from_lower l no_more = no_more
from_lower l (one_more m f) = one_more (omega (arith, l, m)) f

from_pairs : (low : ℕ) (ks : List ℕ) → ((b : ℕ) → Contains ks b → low ≤ b) → AllPairs (λ x y. x < y) ks
    → From low ks
from_pairs low [] above p = no_more
from_pairs low (k ∷ ks) above p = one_more (above k (0, omega arith, refl)) (from_pairs (k + 1) ks next rest) where
  next : (b : ℕ) → Contains ks b → k + 1 ≤ b
  next b c = let m : k < get_or ks c.0 b = p 0 (suc c.0) b (omega arith) (omega (arith, c.1)) in omega (arith, m, c.2)

  rest : AllPairs (λ x y. x < y) ks
  rest i j d l m = p (suc i) (suc j) d (omega (arith, l)) (omega (arith, m))

-- the child for a place, where the names are those from `low` on
record IsPick (S : Name → Type 0) (up low : ℕ) (ns : List Name) (k : ℕ) (c : Child) : Type 0 where
  place : ℕ
  is : k ≡ low + place
  at : slice_get ns place ≡ Some c.name
  member : S c.name
  under : c.up ≡ up

-- without the first name
pick_later : (S : Name → Type 0) (up low : ℕ) (C : Name) (ns : List Name) (k : ℕ) (c : Child) → low + 1 ≤ k
    → IsPick S up low (C ∷ ns) k c → IsPick S up (low + 1) ns k c
pick_later S up low C ns k c l r = by r.place r.is r.at where
  by : (j : ℕ) → k ≡ low + j → slice_get (C ∷ ns) j ≡ Some c.name → IsPick S up (low + 1) ns k c
  by zero e at = absurd (omega (arith, l, e))
  by (suc j) e at = record { place = j; is = omega (arith, e); at = at; member = r.member; under = r.under }

picks_later : (S : Name → Type 0) (up low : ℕ) (C : Name) (ns : List Name) {ks : List ℕ} {cs : List Child}
    → From (low + 1) ks → Each (IsPick S up low (C ∷ ns)) ks cs → Each (IsPick S up (low + 1) ns) ks cs
picks_later S up low C ns f none = none
picks_later S up low C ns (one_more l f) (more {x = k} {y = c} r e) =
    more (pick_later S up low C ns k c l r) (picks_later S up low C ns (from_lower (omega (arith, l)) f) e)

picks_from : (S : Name → Type 0) (up low : ℕ) (ns : List Name) (ks : List ℕ) (cs : List Child) → From low ks
    → ((j : ℕ) (C : Name) → slice_get ns j ≡ Some C → S C → Contains ks (low + j))
    → Each (IsPick S up low ns) ks cs → Picks S up ns cs
picks_from S up low [] _ _ f has none = nobody
picks_from S up low [] _ _ f has (more r e) = absurd (cc r.at)
picks_from S up low (C ∷ ns) _ _ f has none =
    skips (λ s. let c = has 0 C refl s in omega (arith, c.1))
    (picks_from S up (low + 1) ns [] [] no_more
    (λ j D at s. let c = has (suc j) D at s in absurd (omega (arith, c.1))) none)
picks_from S up low (C ∷ ns) _ _ (one_more l f) has (more {x = k} {y = c} {xs = ks} {ys = cs} r e) =
    elim (cases_lt low k) [
      | inl behind ↦
          let g : From (low + 1) (k ∷ ks) = one_more (omega (arith, behind)) f in
          skips (λ s. let w = from_within g (low + 0) (has 0 C refl s) in omega (arith, w))
          (picks_from S up (low + 1) ns (k ∷ ks) (c ∷ cs) g (next (k ∷ ks) has)
          (picks_later S up low C ns g (more r e)))
      | inr past ↦
          let here : k ≡ low = omega (arith, l, past) in
          let g : From (low + 1) ks = subst (λ (j : ℕ). From (j + 1) ks) here f in
          first here r.place r.is r.at
          (picks_from S up (low + 1) ns ks cs g (others here) (picks_later S up low C ns g e))
    ] where
      next : (xs : List ℕ) → ((j : ℕ) (D : Name) → slice_get (C ∷ ns) j ≡ Some D → S D → Contains xs (low + j))
          → (j : ℕ) (D : Name) → slice_get ns j ≡ Some D → S D → Contains xs (low + 1 + j)
      next xs h j D at s =
          let q : low + suc j ≡ low + 1 + j = omega arith in subst (Contains xs) q (h (suc j) D at s)

      others : k ≡ low → (j : ℕ) (D : Name) → slice_get ns j ≡ Some D → S D → Contains ks (low + 1 + j)
      others here j D at s = behind (next (k ∷ ks) has j D at s) where
        behind : Contains (k ∷ ks) (low + 1 + j) → Contains ks (low + 1 + j)
        behind (zero, m, q) = absurd (omega (arith, here, q))
        behind (suc i, m, q) = (i, omega (arith, m), q)

      first : k ≡ low → (j : ℕ) → k ≡ low + j → slice_get (C ∷ ns) j ≡ Some c.name → Picks S up ns cs
          → Picks S up (C ∷ ns) (c ∷ cs)
      first here (suc j) q at ps = absurd (omega (arith, here, q))
      first here zero q at ps =
          let name : C ≡ c.name = cc at in
          let same : record { up = up; name = C } ≡ c =
          ap (λ (D : Name). record { up = up; name = D }) name
          ∙ ap (λ (u : ℕ). record { up = u; name = c.name }) (sym r.under) in
          subst (λ (d : Child). Picks S up (C ∷ ns) (d ∷ cs)) same (takes (subst S (sym name) r.member) ps)

each_known : {A B : Type 0} (T : A → Type 0) (R Q : A → B → Type 0) {xs : List A} {ys : List B}
    → ((x : A) (y : B) → T x → R x y → Q x y) → ((x : A) → Contains xs x → T x) → Each R xs ys → Each Q xs ys
each_known T R Q f t none = none
each_known {A} T R Q f t (more {x = a} {y = b} {xs = xs} r e) =
    more (f a b (t a (0, omega arith, refl)) r)
    (each_known T R Q f (λ (x : A) c. t x (suc c.0, omega (arith, c.1), c.2)) e)

pub picks_at : (S : Name → Type 0) (up : ℕ) (order : List Name) (ks : List ℕ) (cs : List Child)
    → Lists (λ (k : ℕ). (C : Name) × (slice_get order k ≡ Some C) × S C) ks → Each (IsChildAt order up) ks cs
    → Picks S up order cs
picks_at S up order ks cs l e =
    picks_from S up 0 order ks cs
    (from_pairs 0 ks (λ b c. omega arith) (AllPairs-from_increasing ks l.ascending))
    (λ j C at s. let q : j ≡ 0 + j = omega arith in subst (Contains ks) q ((l.exact j).1 (C, at, s)))
    (each_known (λ (k : ℕ). (C : Name) × (slice_get order k ≡ Some C) × S C) (IsChildAt order up)
    (IsPick S up 0 order) known (λ k c. (l.exact k).0 c) e) where
      known : (k : ℕ) (c : Child) → (C : Name) × (slice_get order k ≡ Some C) × S C → IsChildAt order up k c
          → IsPick S up 0 order k c
      known k c m at = record {
        place = k;
        is = omega arith;
        at = at.name_at;
        member = subst S (same_some (slice_get order k) m.0 c.name m.1 at.name_at) m.2;
        under = at.under;
      }

-- ---- path by path

pub front_none : (es : List Entry) (order : List Name) (level : Level) (room : ℕ) (all : List Child) → all ≡ []
    → ChildrenFront es order level 0 room all
front_none es order level room all empty = record { whole = []; all = no_path; front = empty ∙ sym (take_none room) }

pub front_more : (es : List Entry) (order : List Name) (level : Level) (n room : ℕ) (picked : List ℕ)
    (sups : Vec ℕ Global) (before after : List Child)
    → slice_get level.sups.items n ≡ Some sups
    → Lists (IsMemberPlace es level.paths.items order sups.items) picked
    → ChildrenFront es order level n room before → AddsPicked order picked n room before after
    → ChildrenFront es order level (n + 1) room after
front_more es order level n room picked sups before after at lists f a = record {
  whole = f.whole ++ a.added;
  all = one_path f.all (picks_at (MemberOf es level n) n order picked a.added members a.each);
  front = a.is ∙ (ap (λ (xs : List Child). take room (xs ++ a.added)) f.front ∙ take_joined room f.whole a.added);
} where
  members : Lists (λ (k : ℕ). (C : Name) × (slice_get order k ≡ Some C) × MemberOf es level n C) picked
  members =
      Lists-same (IsMemberPlace es level.paths.items order sups.items)
      (λ (k : ℕ). (C : Name) × (slice_get order k ≡ Some C) × MemberOf es level n C) picked
      (λ k m. (m.0, m.1, record { sups = sups; sups_at = at; member = m.2 }))
      (λ k m. (
        m.0,
        m.1,
        subst (λ (v : Vec ℕ Global). MembersAt es level.paths.items v.items m.0)
            (same_some (slice_get level.sups.items n) (m.2).sups sups (m.2).sups_at at) (m.2).member,
      ))
      lists

-- How visits begin, go on and add up.
use Rattle.std.proofs.Common.{◌≡◌, ◌≢◌, ◌+◌, ◌<◌, ℕ, List, [], ◌∷◌, ◌++◌, Option, Some, None, Bool, true, false, not, is_some, Contains, length, inl, inr, arith, take, set, get_or, refl, sym, ◌∙◌, ap, subst, cond, length-append, get_or-set_same, get_or-set_other}
use Rattle.std.proofs.lemmas.Bool.{cases_eq}
use Rattle.std.proofs.lemmas.List.{length-set, take_more, get_or_default}
use Rattle.std.proofs.lemmas.List.Sums.{sum_by-set}
use Rattle.std.proofs.lemmas.List.Elements.{Contains-push, Contains-push_cases, Contains-append_left, Contains-append_right, Contains-append_cases}
use Rattle.jn_reach.specs.Origins.{HasOrigin, IsFound}
use Rattle.jn_reach.specs.Visited.{Visited, unfound}

pub Contains-none : {X : Type 0} (x : X) → Contains [] x → ⊥
Contains-none x h = omega (arith, h.1)

pub Contains-one : {X : Type 0} (y x : X) → Contains (y ∷ []) x → x ≡ y
Contains-one y x h = elim (Contains-push_cases [] y x h) [ inl n ↦ absurd (Contains-none x n) | inr e ↦ sym e ]

-- what the test of a node says
pub is_empty : (o : Option ℕ) → is_some o ≡ false → o ≡ None
is_empty None e = refl
is_empty (Some x) e = absurd (cc)

pub is_full : (o : Option ℕ) → is_some o ≡ true → (s : ℕ) × (o ≡ Some s)
is_full None e = absurd (cc)
is_full (Some x) e = (x, refl)

-- an origin can be taken out
pub found_is_some : (m : List (Option ℕ)) (b : ℕ) → IsFound m b → is_some (get_or m b None) ≡ true
found_is_some m b f = ap is_some f.1

at_default : (m : List (Option ℕ)) (x : ℕ) (o : Option ℕ) → x < length m → o ≡ get_or m x o → get_or m x None ≡ o
at_default m x o l is = get_or_default m x None o l ∙ sym is

pub none_at : (m : List (Option ℕ)) (x : ℕ) (o : Option ℕ) (b : Bool) → x < length m → o ≡ get_or m x o
    → is_some o ≡ not b → b ≡ true → get_or m x None ≡ None
none_at m x o b l is tested e = at_default m x o l is ∙ is_empty o (tested ∙ ap not e)

pub found_at : (m : List (Option ℕ)) (x : ℕ) (o : Option ℕ) (b : Bool) → x < length m → o ≡ get_or m x o
    → is_some o ≡ not b → b ≡ false → IsFound m x
found_at m x o b l is tested e = let f = is_full o (tested ∙ ap not e) in (f.0, at_default m x o l is ∙ f.1)

-- no node is visited
pub Visited-none : (start : ℕ) (m : List (Option ℕ)) (q : List ℕ) → Visited start [] m q m q
Visited-none start m q = record {
  long = refl;
  kept = λ b s h. h;
  reaches = λ b h. absurd (Contains-none b h);
  only = λ b s h. inl h;
  waits = λ b h. h;
  fresh = λ b h. inl h;
  waits_only = λ b h. inl h;
  work = refl;
}

-- a node that has an origin
pub Visited-old : (start : ℕ) (m : List (Option ℕ)) (q : List ℕ) (x : ℕ) → IsFound m x → Visited start (x ∷ []) m q m q
Visited-old start m q x found = record {
  long = refl;
  kept = λ b s h. h;
  reaches = λ b h. subst (IsFound m) (sym (Contains-one x b h)) found;
  only = λ b s h. inl h;
  waits = λ b h. h;
  fresh = λ b h. inl h;
  waits_only = λ b h. inl h;
  work = refl;
}

set_at : (m : List (Option ℕ)) (x b start : ℕ) → x < length m → b ≡ x → HasOrigin (set m x (Some start)) b start
set_at m x b start l e =
    let at : HasOrigin (set m x (Some start)) x start = get_or-set_same m x (Some start) None l in
    subst (λ k. HasOrigin (set m x (Some start)) k start) (sym e) at

set_other : (m : List (Option ℕ)) (x b start s : ℕ) → b ≢ x → HasOrigin m b s → HasOrigin (set m x (Some start)) b s
set_other m x b start s n h = get_or-set_other m x b (Some start) None n ∙ h

set_before : (m : List (Option ℕ)) (x b start s : ℕ) → b ≢ x → HasOrigin (set m x (Some start)) b s → HasOrigin m b s
set_before m x b start s n h = sym (get_or-set_other m x b (Some start) None n) ∙ h

same_origin : (o : Option ℕ) (s t : ℕ) → o ≡ Some s → o ≡ Some t → s ≡ t
same_origin o s t p q = cc

pub no_origin : (o : Option ℕ) (s : ℕ) → o ≡ None → o ≡ Some s → ⊥
no_origin o s p q = cc

-- a node that has none
pub Visited-new : (start : ℕ) (m : List (Option ℕ)) (q : List ℕ) (x : ℕ) → x < length m → get_or m x None ≡ None
    → Visited start (x ∷ []) m q (set m x (Some start)) (q ++ x ∷ [])
Visited-new start m q x l none = record {
  long = length-set m x (Some start);
  kept = λ b s h. elim (cases_eq b x) [
    | inl e ↦ absurd (unfound_x b e (s, h))
    | inr n ↦ set_other m x b start s n h
  ];
  reaches = λ b h. (start, set_at m x b start l (Contains-one x b h));
  only = λ b s h. elim (cases_eq b x) [
    | inl e ↦ inr (
      subst (Contains (x ∷ [])) (sym e) (Contains-push [] x),
      record { is = same_origin (get_or (set m x (Some start)) b None) s start h (set_at m x b start l e); unfound_before = unfound_x b e },
    )
    | inr n ↦ inl (set_before m x b start s n h)
  ];
  waits = λ b h. Contains-append_left q (x ∷ []) b h;
  fresh = λ b h. elim (cases_eq b x) [
    | inl e ↦ inr (subst (Contains (q ++ x ∷ [])) (sym e) (Contains-push q x))
    | inr n ↦ inl (h.0, set_before m x b start h.0 n h.1)
  ];
  waits_only = λ b h. Contains-append_cases q (x ∷ []) b h;
  work = less;
} where
  unfound_x : (b : ℕ) → b ≡ x → IsFound m b → ⊥
  unfound_x b e h = no_origin (get_or m x None) h.0 none (subst (λ k. HasOrigin m k h.0) e h.1)

  less : length (q ++ x ∷ []) + unfound (set m x (Some start)) ≡ length q + unfound m
  less =
      let counted = sum_by-set (λ (o : Option ℕ). cond (is_some o) 0 1) m x (Some start) None l in
      let now : ◌≡◌ {A = ℕ} (cond (is_some (get_or m x None)) 0 1) 1 = ap (λ (o : Option ℕ). cond {A = ℕ} (is_some o) 0 1) none in
      omega (arith, counted, now, length-append q (x ∷ []))

-- visits one after the other
pub Visited-joined : (start : ℕ) (xs ys : List ℕ) (m : List (Option ℕ)) (q : List ℕ) (m1 : List (Option ℕ)) (q1 : List ℕ) (m2 : List (Option ℕ)) (q2 : List ℕ)
    → Visited start xs m q m1 q1 → Visited start ys m1 q1 m2 q2 → Visited start (xs ++ ys) m q m2 q2
Visited-joined start xs ys m q m1 q1 m2 q2 v w = record {
  long = w.long ∙ v.long;
  kept = λ b s h. w.kept b s (v.kept b s h);
  reaches = λ b h. elim (Contains-append_cases xs ys b h) [
    | inl a ↦ (let r = v.reaches b a in (r.0, w.kept b r.0 r.1))
    | inr a ↦ w.reaches b a
  ];
  only = λ b s h. elim (w.only b s h) [
    | inl a ↦ elim (v.only b s a) [ inl o ↦ inl o | inr o ↦ inr (Contains-append_left xs ys b o.0, o.1) ]
    | inr a ↦ inr (
      Contains-append_right xs ys b a.0,
      record { is = (a.1).is; unfound_before = λ f. (a.1).unfound_before (f.0, v.kept b f.0 f.1) },
    )
  ];
  waits = λ b h. w.waits b (v.waits b h);
  fresh = λ b h. elim (w.fresh b h) [
    | inl a ↦ elim (v.fresh b a) [ inl o ↦ inl o | inr o ↦ inr (w.waits b o) ]
    | inr a ↦ inr a
  ];
  waits_only = λ b h. elim (w.waits_only b h) [
    | inl a ↦ elim (v.waits_only b a) [ inl o ↦ inl o | inr o ↦ inr (Contains-append_left xs ys b o) ]
    | inr a ↦ inr (Contains-append_right xs ys b a)
  ];
  work = w.work ∙ v.work;
}

-- a step of the loop over the nodes
pub Visited-more : (start : ℕ) (xs : List ℕ) (i d : ℕ) (m : List (Option ℕ)) (q : List ℕ) (m1 : List (Option ℕ)) (q1 : List ℕ) (m2 : List (Option ℕ)) (q2 : List ℕ)
    → i < length xs → Visited start (take i xs) m q m1 q1 → Visited start (get_or xs i d ∷ []) m1 q1 m2 q2 → Visited start (take (i + 1) xs) m q m2 q2
Visited-more start xs i d m q m1 q1 m2 q2 l v w =
    subst (λ row. Visited start row m q m2 q2) (sym (take_more xs i d l))
    (Visited-joined start (take i xs) (get_or xs i d ∷ []) m q m1 q1 m2 q2 v w)

-- What the search from one start keeps, and what it has done at its end.
use Rattle.std.proofs.Common.{◌≡◌, ◌<◌, ℕ, List, [], ◌∷◌, ◌++◌, Option, Some, None, Contains, length, ◌⊎◌, inl, inr, arith, subst, sym, refl, ◌∙◌, slice_get}
use Rattle.std.proofs.lemmas.Bool.{cases_lt}
use Rattle.std.proofs.Math.ListN.{get_or-eq_default}
use Rattle.std.proofs.lemmas.List.Elements.{Contains-push, Contains-push_cases, Contains-append_left}
use Rattle.std.specs.declared.vec.Vec.{Vec}
use Rattle.std.specs.declared.alloc.Global.{Global}
use Rattle.jn_reach.specs.Chain.{Chain, here}
use Rattle.jn_reach.specs.Graph.{Graph, HasEdge}
use Rattle.jn_reach.specs.Origins.{HasOrigin, IsFound}
use Rattle.jn_reach.specs.Visited.{Visited, IsNew, IsClosedUnder, Spread}
use Rattle.jn_reach.proofs.Chains.{Chain-push}
use Rattle.jn_reach.proofs.Visits.{Contains-none, Contains-one, no_origin}

-- m0 is as the search began, m as it stands; the nodes of q wait
pub record Searching (g : Graph) (start : ℕ) (m0 m : List (Option ℕ)) (q : List ℕ) : Type 0 where
  pub long : length m ≡ length m0
  pub kept : (b s : ℕ) → HasOrigin m0 b s → HasOrigin m b s
  pub started : IsFound m start
  pub only : (b s : ℕ) → HasOrigin m b s → HasOrigin m0 b s ⊎ (Chain (HasEdge g) start b × IsNew start m0 b s)
  pub waiting : (b : ℕ) → Contains q b → Chain (HasEdge g) start b × IsFound m b
  pub closed : (a b : ℕ) → IsFound m a → HasEdge g a b → Contains q a ⊎ IsFound m b

-- a node with an origin is in range
pub IsFound-in : (m : List (Option ℕ)) (b : ℕ) → IsFound m b → b < length m
IsFound-in m b h = elim (cases_lt b (length m)) [ inl l ↦ l | inr past ↦ absurd (no_origin None h.0 refl (sym (get_or-eq_default m None past) ∙ h.1)) ]

-- the start is visited first
pub Searching-begun : (g : Graph) (start : ℕ) (m0 : List (Option ℕ)) (q0 : List ℕ) (m : List (Option ℕ)) (q : List ℕ)
    → q0 ≡ [] → IsClosedUnder g m0 → Visited start (start ∷ []) m0 q0 m q → Searching g start m0 m q
Searching-begun g start m0 q0 m q nothing closed v = record {
  long = v.long;
  kept = v.kept;
  started = v.reaches start (Contains-push [] start);
  only = λ b s h. elim (v.only b s h) [ inl o ↦ inl o | inr n ↦ inr (from b n.0, n.1) ];
  waiting = λ b h. elim (v.waits_only b h) [
    | inl n ↦ absurd (Contains-none b (rw nothing at n))
    | inr n ↦ (from b n, v.reaches b n)
  ];
  closed = λ a b h e. elim (v.fresh a h) [
    | inl o ↦ (let f = closed a b o e in inr (f.0, v.kept b f.0 f.1))
    | inr w ↦ inl w
  ];
} where
  from : (b : ℕ) → Contains (start ∷ []) b → Chain (HasEdge g) start b
  from b n = subst (Chain (HasEdge g) start) (sym (Contains-one start b n)) here

same_row : {X : Type 0} (o : Option X) (x y : X) → o ≡ Some x → o ≡ Some y → x ≡ y
same_row o x y p q = cc

-- the last node that waits is taken, and the nodes of its row are visited
pub Searching-more : (g : Graph) (start : ℕ) (m0 m : List (Option ℕ)) (q rest : List ℕ) (node : ℕ) (row : Vec ℕ Global) (m' : List (Option ℕ)) (q' : List ℕ)
    → q ≡ rest ++ node ∷ [] → slice_get g node ≡ Some row → Searching g start m0 m q → Visited start row.items m rest m' q' → Searching g start m0 m' q'
Searching-more g start m0 m q rest node row m' q' popped at s v = record {
  long = v.long ∙ s.long;
  kept = λ b t h. v.kept b t (s.kept b t h);
  started = (let f = s.started in (f.0, v.kept start f.0 f.1));
  only = λ b t h. elim (v.only b t h) [
    | inl o ↦ s.only b t o
    | inr n ↦ inr (to b n.0, record { is = (n.1).is; unfound_before = λ f. (n.1).unfound_before (f.0, s.kept b f.0 f.1) })
  ];
  waiting = λ b h. elim (v.waits_only b h) [
    | inl w ↦ (let o = s.waiting b (still b w) in (o.0, ((o.1).0, v.kept b (o.1).0 (o.1).1)))
    | inr w ↦ (to b w, v.reaches b w)
  ];
  closed = closed;
} where
  still : (b : ℕ) → Contains rest b → Contains q b
  still b w = rw popped (Contains-append_left rest (node ∷ []) b w)

  taken : Chain (HasEdge g) start node
  taken = (s.waiting node (rw popped (Contains-push rest node))).0

  to : (b : ℕ) → Contains row.items b → Chain (HasEdge g) start b
  to b w = Chain-push (HasEdge g) taken (record { row = row; at = at; in_row = w })

  in_row : (a b : ℕ) → a ≡ node → HasEdge g a b → Contains row.items b
  in_row a b e h =
      let at_a : slice_get g node ≡ Some h.row = subst (λ k. slice_get g k ≡ Some h.row) e h.at in
      subst (λ (r : Vec ℕ Global). Contains r.items b) (same_row (slice_get g node) h.row row at_a at) h.in_row

  closed : (a b : ℕ) → IsFound m' a → HasEdge g a b → Contains q' a ⊎ IsFound m' b
  closed a b h e = elim (v.fresh a h) [
    | inr w ↦ inl w
    | inl o ↦ elim (s.closed a b o e) [
      | inr f ↦ inr (f.0, v.kept b f.0 f.1)
      | inl w ↦ elim (Contains-push_cases rest node a (rw popped at w)) [
        | inl r ↦ inl (v.waits a r)
        | inr n ↦ inr (v.reaches b (in_row a b (sym n) e))
      ]
    ]
  ]

-- a node that waits has a row
pub waits_in : (g : Graph) (start : ℕ) (m0 m : List (Option ℕ)) (q rest : List ℕ) (node : ℕ)
    → q ≡ rest ++ node ∷ [] → length m0 ≡ length g → Searching g start m0 m q → node < length g
waits_in g start m0 m q rest node popped long s =
    omega (arith, long, s.long, IsFound-in m node (s.waiting node (rw popped (Contains-push rest node))).1)

-- where none waits, the start has been given to all that it reaches
pub Searching-done : (g : Graph) (start : ℕ) (m0 m : List (Option ℕ)) (q : List ℕ) → length q ≡ 0 → Searching g start m0 m q → Spread g start m0 m
Searching-done g start m0 m q empty s = record {
  long = s.long;
  kept = s.kept;
  started = s.started;
  only = s.only;
  closed = λ a b h e. elim (s.closed a b h e) [ inl w ↦ absurd (omega (arith, empty, w.1)) | inr k ↦ k ];
}

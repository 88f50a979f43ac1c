-- Each start in turn is given to what it reaches and what none before it reached.
use Rattle.std.proofs.Common.{◌≡◌, ◌<◌, ◌+◌, ℕ, List, [], ◌∷◌, ◌++◌, Option, Some, None, Contains, length, inl, inr, arith, subst, sym, refl, ◌∙◌, slice_get, take, get_or, zero, suc, replicate}
use Rattle.std.proofs.lemmas.Option.{slice_get_within, get_or_from_slice_get}
use Rattle.std.proofs.lemmas.List.{length-replicate, get_or-replicate, take_more}
use Rattle.std.proofs.lemmas.Bool.{cases_order}
use Rattle.std.proofs.lemmas.List.Elements.{Contains-push_cases}
use Rattle.jn_reach.specs.Chain.{Chain}
use Rattle.jn_reach.specs.Graph.{Graph, HasEdge, Reached}
use Rattle.jn_reach.specs.Origins.{IsFound, IsOrigin, AreOrigins}
use Rattle.jn_reach.specs.Visited.{IsClosedUnder, Spread, IsNew}
use Rattle.jn_reach.proofs.Chains.{Chain-closed, Chain-push}
use Rattle.jn_reach.proofs.Visits.{Contains-none, no_origin}
use Rattle.jn_reach.proofs.Spreading.{IsFound-in}

pub slice_get-append_left : {X : Type 0} (xs ys : List X) (k : ℕ) (x : X) → slice_get xs k ≡ Some x → slice_get (xs ++ ys) k ≡ Some x
slice_get-append_left [] ys k x h = absurd (cc)
slice_get-append_left (z ∷ zs) ys zero x h = h
slice_get-append_left (z ∷ zs) ys (suc k) x h = slice_get-append_left zs ys k x h

pub slice_get-push : {X : Type 0} (xs : List X) (x : X) → slice_get (xs ++ x ∷ []) (length xs) ≡ Some x
slice_get-push [] x = refl
slice_get-push (z ∷ zs) x = slice_get-push zs x

slice_get-append_before : {X : Type 0} (xs ys : List X) (k : ℕ) (x : X) → k < length xs → slice_get (xs ++ ys) k ≡ Some x → slice_get xs k ≡ Some x
slice_get-append_before [] ys k x l h = absurd (omega (arith, l))
slice_get-append_before (z ∷ zs) ys zero x l h = h
slice_get-append_before (z ∷ zs) ys (suc k) x l h = slice_get-append_before zs ys k x (omega (arith, l)) h

Contains-slice_get : {X : Type 0} (xs : List X) (k : ℕ) (x : X) → slice_get xs k ≡ Some x → Contains xs x
Contains-slice_get xs k x h = (k, slice_get_within xs k x h, get_or_from_slice_get xs k x x h)

abbrev nothing : Option ℕ
nothing = None

blank : (n b : ℕ) → IsFound (replicate n None) b → ⊥
blank n b h =
    let l : b < n = omega (arith, IsFound-in (replicate n None) b h, length-replicate n nothing) in
    no_origin None h.0 refl (sym (get_or-replicate n b nothing nothing l) ∙ h.1)

-- before the first start no node has an origin
pub AreOrigins-none : (g : Graph) (m : List (Option ℕ)) → m ≡ replicate (length g) None → AreOrigins g [] m
AreOrigins-none g m is = record {
  long = rw is (length-replicate (length g) None);
  sound = λ b s h. absurd (blank (length g) b (s, rw is at h));
  complete = λ b r. absurd (Contains-none r.start r.among);
}

-- what an edge leads to from a node with an origin has one
pub AreOrigins-closed : (g : Graph) (starts : List ℕ) (m : List (Option ℕ)) → AreOrigins g starts m → IsClosedUnder g m
AreOrigins-closed g starts m are a b h e =
    let o = are.sound a h.0 h.1 in
    are.complete b (record { start = h.0; among = Contains-slice_get starts o.place h.0 o.at; chain = Chain-push (HasEdge g) o.chain e })

AreOrigins-push : (g : Graph) (xs : List ℕ) (x : ℕ) (m m' : List (Option ℕ)) → AreOrigins g xs m → Spread g x m m' → AreOrigins g (xs ++ x ∷ []) m'
AreOrigins-push g xs x m m' are sp = record {
  long = sp.long ∙ are.long;
  sound = λ b s h. elim (sp.only b s h) [ inl o ↦ old b s (are.sound b s o) | inr n ↦ new b s n.0 n.1 ];
  complete = λ b r. elim (Contains-push_cases xs x r.start r.among) [
    | inl o ↦ (let f = are.complete b (record { start = r.start; among = o; chain = r.chain }) in (f.0, sp.kept b f.0 f.1))
    | inr e ↦ Chain-closed (HasEdge g) (IsFound m') sp.closed r.chain (subst (IsFound m') e sp.started)
  ];
} where
  old : (b s : ℕ) → IsOrigin g xs b s → IsOrigin g (xs ++ x ∷ []) b s
  old b s o = record {
    place = o.place;
    at = slice_get-append_left xs (x ∷ []) o.place s o.at;
    chain = o.chain;
    first = λ k t l at c. o.first k t l (slice_get-append_before xs (x ∷ []) k t (omega (arith, l, slice_get_within xs o.place s o.at)) at) c;
  }

  new : (b s : ℕ) → Chain (HasEdge g) x b → IsNew x m b s → IsOrigin g (xs ++ x ∷ []) b s
  new b s c n = record {
    place = length xs;
    at = subst (λ t. slice_get (xs ++ x ∷ []) (length xs) ≡ Some t) (sym n.is) (slice_get-push xs x);
    chain = subst (λ t. Chain (HasEdge g) t b) (sym n.is) c;
    first = λ k t l at d. n.unfound_before (are.complete b (record {
      start = t;
      among = Contains-slice_get xs k t (slice_get-append_before xs (x ∷ []) k t l at);
      chain = d;
    }));
  }

-- a step of the loop over the starts
pub AreOrigins-more : (g : Graph) (starts : List ℕ) (i d : ℕ) (m m' : List (Option ℕ))
    → i < length starts → AreOrigins g (take i starts) m → Spread g (get_or starts i d) m m' → AreOrigins g (take (i + 1) starts) m'
AreOrigins-more g starts i d m m' l are sp =
    subst (λ xs. AreOrigins g xs m') (sym (take_more starts i d l)) (AreOrigins-push g (take i starts) (get_or starts i d) m m' are sp)

-- a node with an origin is reached
pub AreOrigins-reached : (g : Graph) (starts : List ℕ) (m : List (Option ℕ)) → AreOrigins g starts m → (b : ℕ) → IsFound m b → Reached g starts b
AreOrigins-reached g starts m are b h =
    let o = are.sound b h.0 h.1 in
    record { start = h.0; among = Contains-slice_get starts o.place h.0 o.at; chain = o.chain }

-- two first starts are one
pub IsOrigin-one : (g : Graph) (starts : List ℕ) (b s t : ℕ) → IsOrigin g starts b s → IsOrigin g starts b t → s ≡ t
IsOrigin-one g starts b s t o p = elim (cases_order o.place p.place) [
  | inl e ↦ same_start (slice_get starts o.place) s t o.at (subst (λ k. slice_get starts k ≡ Some t) (sym e) p.at)
  | inr n ↦ elim n [
    | inl before ↦ absurd (p.first o.place s before o.at o.chain)
    | inr past ↦ absurd (o.first p.place t past p.at p.chain)
  ]
] where
  same_start : (o : Option ℕ) (x y : ℕ) → o ≡ Some x → o ≡ Some y → x ≡ y
  same_start o x y h k = cc

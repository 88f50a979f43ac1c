-- How marks are set and taken off.
use Rattle.std.proofs.Common.{◌≡◌, ◌<◌, ◌≤◌, ◌+◌, ℕ, List, [], ◌∷◌, ◌++◌, Bool, true, false, Contains, length, get_or}
use Rattle.std.proofs.Common.{nat_eq, set, take, drop, inl, inr, arith, refl, sym, ◌∙◌, ap, subst, get_or-set_same}
use Rattle.std.proofs.Common.{get_or-set_other}
use Rattle.std.specs.List.{IsDistinct, list_any}
use Rattle.std.specs.Cmp.{nat_eq_equiv}
use Rattle.std.proofs.Math.ListN.{get_or-eq_default}
use Rattle.std.proofs.lemmas.Bool.{false≢true, cases_lt, cases_eq, eqb-true}
use Rattle.std.proofs.lemmas.List.{take_more, drop_more, append_assoc, length-set}
use Rattle.std.proofs.lemmas.List.Elements.{Contains-push, Contains-push_cases, Contains-append_left}
use Rattle.std.proofs.lemmas.List.Elements.{Contains-append_right, Contains-append_cases}
use Rattle.std.proofs.lemmas.Map.Keys.{IsDistinct-push}
use Rattle.std.proofs.lemmas.Map.Steps.{length-le_from_distinct_below}
use Rattle.std.proofs.lemmas.Map.Views.{Contains-from_any}
use Rattle.jn_reach.proofs.Visits.{Contains-none, Contains-one}
use Rattle.jn_closure.specs.Marks.{IsMarked, AreClear, AreMarks, Adds}

-- a node with a mark is in range
pub marked_within : (marks : List Bool) (b : ℕ) → IsMarked marks b → b < length marks
marked_within marks b h = elim (cases_lt b (length marks)) [
  | inl l ↦ l
  | inr past ↦ absurd (false≢true (sym (get_or-eq_default marks false past) ∙ h))
]

-- so there are no more nodes than marks
pub marks_bound : (nodes : List ℕ) (marks : List Bool) → AreMarks nodes marks → length nodes ≤ length marks
marks_bound nodes marks m =
    length-le_from_distinct_below nodes (length marks) m.once
    (λ q h. marked_within marks q ((m.exact q).0 (Contains-from_any eqb-true q nodes h)))

nothing_twice : IsDistinct nat_eq []
unfolding IsDistinct
nothing_twice = tt

-- no marks of no nodes
pub AreMarks-none : (nodes : List ℕ) (marks : List Bool) → nodes ≡ [] → AreClear marks → AreMarks nodes marks
AreMarks-none nodes marks is clear = rw is (record {
  exact = λ b. (λ h. absurd (Contains-none b h), λ h. absurd (clear b h));
  once = nothing_twice;
})

-- a new mark
pub AreMarks-more : (nodes : List ℕ) (marks : List Bool) (node : ℕ) → node < length marks → (IsMarked marks node → ⊥)
    → AreMarks nodes marks → AreMarks (nodes ++ node ∷ []) (set marks node true)
AreMarks-more nodes marks node l unmarked m = record {
  exact = λ b. (to b, from b);
  once = IsDistinct-push nat_eq_equiv nodes node m.once (absent (list_any (nat_eq node) nodes) refl);
} where
  absent : (r : Bool) → list_any (nat_eq node) nodes ≡ r → r ≡ false
  absent true h = absurd (unmarked ((m.exact node).0 (Contains-from_any eqb-true node nodes h)))
  absent false h = refl

  now : IsMarked (set marks node true) node
  now = get_or-set_same marks node true false l

  to : (b : ℕ) → Contains (nodes ++ node ∷ []) b → IsMarked (set marks node true) b
  to b h = elim (cases_eq b node) [
    | inl e ↦ subst (IsMarked (set marks node true)) (sym e) now
    | inr n ↦ elim (Contains-push_cases nodes node b h) [
      | inl old ↦ get_or-set_other marks node b true false n ∙ (m.exact b).0 old
      | inr e ↦ absurd (n (sym e))
    ]
  ]

  from : (b : ℕ) → IsMarked (set marks node true) b → Contains (nodes ++ node ∷ []) b
  from b h = elim (cases_eq b node) [
    | inl e ↦ subst (Contains (nodes ++ node ∷ [])) (sym e) (Contains-push nodes node)
    | inr n ↦
        let before : IsMarked marks b = sym (get_or-set_other marks node b true false n) ∙ h in
        Contains-append_left nodes (node ∷ []) b ((m.exact b).1 before)
  ]

-- what the test of a node says
pub unmarked_by : (marks : List Bool) (node : ℕ) (b : Bool) → node < length marks → b ≡ get_or marks node b → b ≡ false
    → IsMarked marks node → ⊥
unmarked_by marks node b l is e h = grind arith

pub Adds-new : (nodes : List ℕ) (node : ℕ) → Adds (node ∷ []) nodes (nodes ++ node ∷ [])
Adds-new nodes node = record {
  more = node ∷ [];
  is = refl;
  only = λ b h. h;
  all = λ b h. Contains-append_right nodes (node ∷ []) b h;
}

Adds-joined : (xs ys a b c : List ℕ) → Adds xs a b → Adds ys b c → Adds (xs ++ ys) a c
Adds-joined xs ys a b c v w = record {
  more = v.more ++ w.more;
  is = w.is ∙ ap (λ l. l ++ w.more) v.is ∙ append_assoc a v.more w.more;
  only = λ n h. elim (Contains-append_cases v.more w.more n h) [
    | inl k ↦ Contains-append_left xs ys n (v.only n k)
    | inr k ↦ Contains-append_right xs ys n (w.only n k)
  ];
  all = λ n h. elim (Contains-append_cases xs ys n h) [
    | inl k ↦ rw w.is (Contains-append_left b w.more n (v.all n k))
    | inr k ↦ w.all n k
  ];
}

-- a step of the loop over the targets
pub Adds-more : (xs : List ℕ) (i d : ℕ) (a b c : List ℕ) → i < length xs
    → Adds (take i xs) a b → Adds (get_or xs i d ∷ []) b c → Adds (take (i + 1) xs) a c
Adds-more xs i d a b c l v w =
    subst (λ row. Adds row a c) (sym (take_more xs i d l)) (Adds-joined (take i xs) (get_or xs i d ∷ []) a b c v w)

-- the nodes with a mark are among these
abbrev pub MarkedIn : List Bool → List ℕ → Type 0
MarkedIn marks nodes = (b : ℕ) → IsMarked marks b → Contains nodes b

-- a step of the loop that takes the marks off
pub MarkedIn-more : (marks : List Bool) (nodes : List ℕ) (i d : ℕ) → i < length nodes → MarkedIn marks (drop i nodes)
    → MarkedIn (set marks (get_or nodes i d) false) (drop (i + 1) nodes)
MarkedIn-more marks nodes i d l old b h = elim (cases_eq b node) [
  | inl e ↦ absurd (off b e h)
  | inr n ↦ elim (Contains-append_cases (node ∷ []) (drop (i + 1) nodes) b (here n)) [
    | inl first ↦ absurd (n (Contains-one node b first))
    | inr rest ↦ rest
  ]
] where
  node : ℕ
  node = get_or nodes i d

  off : (b : ℕ) → b ≡ node → IsMarked (set marks node false) b → ⊥
  off b e h =
      let m : IsMarked (set marks node false) node = subst (IsMarked (set marks node false)) e h in
      let within : node < length marks =
      omega (arith, marked_within (set marks node false) node m, length-set marks node false) in
      false≢true (sym (get_or-set_same marks node false false within) ∙ m)

  here : (b ≡ node → ⊥) → Contains (node ∷ drop (i + 1) nodes) b
  here n =
      let before : IsMarked marks b = sym (get_or-set_other marks node b false false n) ∙ h in
      subst (λ (xs : List ℕ). Contains xs b) (drop_more nodes i d l) (old b before)

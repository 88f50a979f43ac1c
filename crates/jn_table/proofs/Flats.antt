-- How the walk over declarations adds their entries.
use Rattle.std.proofs.Common.{◌≡◌, ◌<◌, ◌+◌, ℕ, List, [], ◌∷◌, ◌++◌, length, Contains, arith, sym, ◌∙◌, ap, subst, refl, inl, inr, take, get_or, append_assoc, ◌⊎◌, zero, suc, ◌≤◌}
use Rattle.std.proofs.lemmas.List.{take_more, append-nil}
use Rattle.std.proofs.lemmas.List.Elements.{Contains-append_left, Contains-append_right, Contains-append_cases}
use Rattle.jn_table.proofs.Places.{take_whole}
use Rattle.jn_base.specs.declared.tree.Decl.{Decl}
use Rattle.jn_base.specs.declared.tree.Field.{Field}
use Rattle.jn_base.specs.declared.tree.Method.{Method}
use Rattle.jn_base.specs.declared.tree.Member.{Member, out-Member}
use Rattle.jn_base.specs.declared.tree.Member.TheVariants as member
use Rattle.jn_base.specs.declared.tree.Member.TheVariants.{outs-Inner, outs-Slot, outs-Body}
use Rattle.jn_base.specs.declared.tree.Member.TheOpen.{Member-F}
use Rattle.jn_base.specs.Paths.{Path, nested, and_nested}
use Rattle.jn_table.specs.Flat.{Under, at_top, deeper, EntryIs, FlatOf, AddsFlat}
use Rattle.jn_table.specs.declared.entry.Entry.{Entry}

under_none : {A : Type 0} {N P : Path} {d : Decl} → Under [] N P d → A
under_none (at_top c) = absurd (omega (arith, c.1))
under_none (deeper c u) = absurd (omega (arith, c.1))

under_left : {ds : List Decl} {N P : Path} {d : Decl} (more : List Decl) → Under ds N P d → Under (ds ++ more) N P d
under_left more (at_top {ds = ds} {d = d} c) = at_top (Contains-append_left ds more d c)
under_left more (deeper {ds = ds} {e = e} c u) = deeper (Contains-append_left ds more e c) u

under_right : {ds : List Decl} {N P : Path} {d : Decl} (front : List Decl) → Under ds N P d → Under (front ++ ds) N P d
under_right front (at_top {ds = ds} {d = d} c) = at_top (Contains-append_right front ds d c)
under_right front (deeper {ds = ds} {e = e} c u) = deeper (Contains-append_right front ds e c) u

under_cases : (ds es : List Decl) {xs : List Decl} {N P : Path} {d : Decl} → Under xs N P d → xs ≡ ds ++ es
    → Under ds N P d ⊎ Under es N P d
under_cases ds es (at_top {ds = xs} {N = N} {d = d} c) e =
    elim (Contains-append_cases ds es d (subst (λ (ys : List Decl). Contains ys d) e c)) [
      | inl a ↦ inl (at_top a)
      | inr b ↦ inr (at_top b)
    ]
under_cases ds es (deeper {ds = xs} {N = N} {P = P} {e = f} {d = d} c u) e =
    elim (Contains-append_cases ds es f (subst (λ (ys : List Decl). Contains ys f) e c)) [
      | inl a ↦ inl (deeper a u)
      | inr b ↦ inr (deeper b u)
    ]

one_in : (x d : Decl) → Contains (x ∷ []) d → d ≡ x
one_in x d (k, l, e) = at k l e where
  at : (k : ℕ) → k < length (x ∷ []) → get_or (x ∷ []) k d ≡ d → d ≡ x
  at zero l e = sym e
  at (suc k) l e = absurd (omega (arith, l))

-- the entries of two lists of declarations
pub flat_joined : (ds es : List Decl) (N : Path) (xs ys : List Entry) → FlatOf ds N xs → FlatOf es N ys
    → FlatOf (ds ++ es) N (xs ++ ys)
flat_joined ds es N xs ys f g = record { sound = sound; complete = complete } where
  sound : (e : Entry) → Contains (xs ++ ys) e → (P : Path) × (d : Decl) × Under (ds ++ es) N P d × EntryIs e P d
  sound e h = elim (Contains-append_cases xs ys e h) [
    | inl a ↦ let s = f.sound e a in (s.0, s.1, under_left es s.2, s.3)
    | inr b ↦ let s = g.sound e b in (s.0, s.1, under_right ds s.2, s.3)
  ]

  complete : (P : Path) (d : Decl) → Under (ds ++ es) N P d → (e : Entry) × Contains (xs ++ ys) e × EntryIs e P d
  complete P d u = elim (under_cases ds es u refl) [
    | inl a ↦ let s = f.complete P d a in (s.0, Contains-append_left xs ys s.0 s.1, s.2)
    | inr b ↦ let s = g.complete P d b in (s.0, Contains-append_right xs ys s.0 s.1, s.2)
  ]

pub adds_none : (N : Path) (es : List Entry) → AddsFlat [] N es es
adds_none N es = record {
  added = [];
  is = sym (append-nil es);
  flat = record { sound = λ e h. absurd (omega (arith, h.1)); complete = λ P d u. under_none u };
}

pub adds_joined : (ds es : List Decl) (N : Path) (before mid after : List Entry) → AddsFlat ds N before mid
    → AddsFlat es N mid after
    → AddsFlat (ds ++ es) N before after
adds_joined ds es N before mid after a b = record {
  added = a.added ++ b.added;
  is = b.is ∙ (ap (λ (m : List Entry). m ++ b.added) a.is ∙ simp append_assoc);
  flat = flat_joined ds es N a.added b.added a.flat b.flat;
}

-- a declaration with those in its body
under_one : {xs : List Decl} {N P : Path} {d : Decl} (x : Decl) → Under xs N P d → xs ≡ x ∷ []
    → ((P ≡ N) × (d ≡ x)) ⊎ Under (nested x.members) (x.name.name ∷ N) P d
under_one x (at_top {d = d} c) e = inl (refl, one_in x d (subst (λ (ys : List Decl). Contains ys d) e c))
under_one x (deeper {N = N} {P = P} {e = f} {d = d} c u) e =
    let same = one_in x f (subst (λ (ys : List Decl). Contains ys f) e c) in
    inr (subst (λ (y : Decl). Under (nested y.members) (y.name.name ∷ N) P d) same u)

first : {X : Type 0} (x : X) (xs : List X) → Contains (x ∷ xs) x
first x xs = (0, omega arith, refl)

later : {X : Type 0} (y : X) (xs : List X) (x : X) → Contains xs x → Contains (y ∷ xs) x
later y xs x (k, l, e) = (suc k, omega (arith, l), e)

head_or_tail : {X : Type 0} (y : X) (ys : List X) (x : X) → Contains (y ∷ ys) x → (y ≡ x) ⊎ Contains ys x
head_or_tail y ys x (zero, l, e) = inl e
head_or_tail y ys x (suc k, l, e) = inr (k, omega (arith, l), e)

flat_one : (x : Decl) (N : Path) (entry : Entry) (inner : List Entry) → EntryIs entry N x
    → FlatOf (nested x.members) (x.name.name ∷ N) inner
    → FlatOf (x ∷ []) N (entry ∷ inner)
flat_one x N entry inner is g = record { sound = sound; complete = complete } where
  sound : (e : Entry) → Contains (entry ∷ inner) e → (P : Path) × (d : Decl) × Under (x ∷ []) N P d × EntryIs e P d
  sound e h = elim (head_or_tail entry inner e h) [
    | inl same ↦ (N, x, at_top (first x []), subst (λ (v : Entry). EntryIs v N x) same is)
    | inr i ↦ let s = g.sound e i in (s.0, s.1, deeper (first x []) s.2, s.3)
  ]

  complete : (P : Path) (d : Decl) → Under (x ∷ []) N P d → (e : Entry) × Contains (entry ∷ inner) e × EntryIs e P d
  complete P d u = elim (under_one x u refl) [
    | inl here ↦ (
      entry,
      first entry inner,
      subst (λ (Q : Path). EntryIs entry Q d) (sym here.0) (subst (EntryIs entry N) (sym here.1) is),
    )
    | inr under ↦ let s = g.complete P d under in (s.0, later entry inner s.0 s.1, s.2)
  ]

pub adds_one : (x : Decl) (N M : Path) (before after : List Entry) (entry : Entry) (members : List Member)
    → EntryIs entry N x → M ≡ x.name.name ∷ N → members ≡ x.members
    → AddsFlat (nested members) M (before ++ entry ∷ []) after → AddsFlat (x ∷ []) N before after
adds_one x N M before after entry members is under same a = record {
  added = entry ∷ a.added;
  is = a.is ∙ simp append_assoc;
  flat = flat_one x N entry a.added is
      (subst (λ (ms : List Member). FlatOf (nested ms) (x.name.name ∷ N) a.added) same
      (subst (λ (Q : Path). FlatOf (nested members) Q a.added) under a.flat));
}

-- the nested declarations of two lists of members
nested_joined : (ms ns : List Member) → nested (ms ++ ns) ≡ nested ms ++ nested ns
nested_joined [] ns = refl
nested_joined (m ∷ ms) ns = step (out-Member m) (nested_joined ms ns) where
  step : (f : _) → nested (ms ++ ns) ≡ nested ms ++ nested ns
      → and_nested f (nested (ms ++ ns)) ≡ and_nested f (nested ms) ++ nested ns
  step (Member-F.Inner d) e = ap (λ ds. d ∷ ds) e
  step (Member-F.Slot f) e = e
  step (Member-F.Body m) e = e

nested_more : (ms : List Member) (i : ℕ) (m : Member) → i < length ms → m ≡ get_or ms i m
    → nested (take (i + 1) ms) ≡ nested (take i ms) ++ nested (m ∷ [])
nested_more ms i m l is =
    let e : take (i + 1) ms ≡ take i ms ++ m ∷ [] = take_more ms i m l ∙ ap (λ y. take i ms ++ y ∷ []) (sym is) in
    ap nested e ∙ nested_joined (take i ms) (m ∷ [])

-- one more member that is no declaration, and one that is one
pub adds_skipped : (ms : List Member) (i : ℕ) (m : Member) (N : Path) (before after : List Entry)
    → i < length ms → m ≡ get_or ms i m → nested (m ∷ []) ≡ [] → AddsFlat (nested (take i ms)) N before after
    → AddsFlat (nested (take (i + 1) ms)) N before after
adds_skipped ms i m N before after l is none a =
    subst (λ (ds : List Decl). AddsFlat ds N before after)
    (sym (nested_more ms i m l is ∙ (ap (λ ds. nested (take i ms) ++ ds) none ∙ append-nil (nested (take i ms))))) a

pub adds_nested : (ms : List Member) (i : ℕ) (m : Member) (d : Decl) (N : Path) (before mid after : List Entry)
    → i < length ms → m ≡ get_or ms i m → nested (m ∷ []) ≡ d ∷ [] → AddsFlat (nested (take i ms)) N before mid
    → AddsFlat (d ∷ []) N mid after → AddsFlat (nested (take (i + 1) ms)) N before after
adds_nested ms i m d N before mid after l is one a b =
    subst (λ (ds : List Decl). AddsFlat ds N before after)
    (sym (nested_more ms i m l is ∙ ap (λ ds. nested (take i ms) ++ ds) one))
    (adds_joined (nested (take i ms)) (d ∷ []) N before mid after a b)

-- one more declaration
pub adds_more : (ds : List Decl) (i : ℕ) (x : Decl) (N : Path) (before mid after : List Entry)
    → i < length ds → x ≡ get_or ds i x → AddsFlat (take i ds) N before mid → AddsFlat (x ∷ []) N mid after
    → AddsFlat (take (i + 1) ds) N before after
adds_more ds i x N before mid after l is a b =
    let e : take (i + 1) ds ≡ take i ds ++ x ∷ [] = take_more ds i x l ∙ ap (λ y. take i ds ++ y ∷ []) (sym is) in
    subst (λ (ys : List Decl). AddsFlat ys N before after) (sym e)
    (adds_joined (take i ds) (x ∷ []) N before mid after a b)

-- behind no entries stand exactly those of the declarations
pub adds_flat : (ds all : List Decl) (N : Path) (after : List Entry) → ds ≡ all → AddsFlat ds N [] after
    → FlatOf all N after
adds_flat ds all N after same a =
    subst (λ (xs : List Decl). FlatOf xs N after) same (subst (FlatOf ds N) (sym a.is) a.flat)

-- the walk over the members of a declaration
pub adds_decl : (x : Decl) (N : Path) (before mid after : List Entry) (entry : Entry) (items : List Member) (i : ℕ)
    → EntryIs entry N x → items ≡ x.members → length items ≤ i → mid ≡ before ++ entry ∷ []
    → AddsFlat (nested (take i items)) (x.name.name ∷ N) mid after → AddsFlat (x ∷ []) N before after
adds_decl x N before mid after entry items i is same past pushed a =
    adds_one x N (x.name.name ∷ N) before after entry items is refl same
    (subst (λ (m : List Entry). AddsFlat (nested items) (x.name.name ∷ N) m after) pushed
    (subst (λ (ms : List Member). AddsFlat (nested ms) (x.name.name ∷ N) mid after) (take_whole i items past) a))

inner_nested : (d : Decl) → nested (member.Inner d ∷ []) ≡ d ∷ []
inner_nested d = simp outs-Inner

slot_nested : (f : Field) → nested (member.Slot f ∷ []) ≡ []
slot_nested f = simp outs-Slot

body_nested : (m : Method) → nested (member.Body m ∷ []) ≡ []
body_nested m = simp outs-Body

-- by what a member is
pub adds_inner : (ms : List Member) (i : ℕ) (m : Member) (d : Decl) (N M : Path) (before mid after : List Entry)
    → i < length ms → m ≡ get_or ms i m → m ≡ member.Inner d → M ≡ N → AddsFlat (nested (take i ms)) N before mid
    → AddsFlat (d ∷ []) M mid after → AddsFlat (nested (take (i + 1) ms)) N before after
adds_inner ms i m d N M before mid after l is one same a b =
    adds_nested ms i m d N before mid after l is (ap (λ x. nested (x ∷ [])) one ∙ inner_nested d) a
    (subst (λ (Q : Path). AddsFlat (d ∷ []) Q mid after) same b)

pub adds_slot : (ms : List Member) (i : ℕ) (m : Member) (field : Field) (N : Path) (before after : List Entry)
    → i < length ms → m ≡ get_or ms i m
    → m ≡ member.Slot field → AddsFlat (nested (take i ms)) N before after
    → AddsFlat (nested (take (i + 1) ms)) N before after
adds_slot ms i m field N before after l is one a =
    adds_skipped ms i m N before after l is (ap (λ x. nested (x ∷ [])) one ∙ slot_nested field) a

pub adds_body : (ms : List Member) (i : ℕ) (m : Member) (method : Method) (N : Path) (before after : List Entry)
    → i < length ms → m ≡ get_or ms i m
    → m ≡ member.Body method → AddsFlat (nested (take i ms)) N before after
    → AddsFlat (nested (take (i + 1) ms)) N before after
adds_body ms i m method N before after l is one a =
    adds_skipped ms i m N before after l is (ap (λ x. nested (x ∷ [])) one ∙ body_nested method) a

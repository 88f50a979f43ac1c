-- What the tests of scopes and types say.
use Rattle.std.proofs.Common.{◌≡◌, ◌<◌, ◌≤◌, ◌+◌, ◌∙◌, ℕ, List, [], ◌∷◌, ◌++◌, inl, inr, Contains, All, get_or, length, take, map, reverse, refl, sym, ap, subst, arith, Bool, false, ◌==◌, Result, Ok, Err, IfOk}
use Rattle.std.proofs.lemmas.List.{take_more, reverse-reverse, map-append, reverse-append}
use Rattle.std.proofs.lemmas.List.Elements.{All-contains, Contains-push_cases}
use Rattle.jn_base.specs.declared.tree.Name.{Name}
use Rattle.jn_base.specs.declared.types.Anchor.{Anchor}
use Rattle.jn_base.specs.declared.types.Anchor.TheVariants.{Root}
use Rattle.jn_base.specs.declared.types.Atom.{Atom as ShownAtom}
use Rattle.jn_base.specs.declared.types.Ty.{Ty}
use Rattle.jn_base.specs.Paths.{Path}
use Rattle.jn_base.specs.Atoms.{Atom, atom_of, shown_atom, Among}
use Rattle.jn_base.specs.Scopes.{Bind as TypeBind, Scope, Binds, bound, this_atom, this_type}
use Rattle.jn_base.specs.Fits.{Anchored, AtomsFit, BindsFit, ScopeFits}
use Rattle.jn_intern.specs.declared.scope.Bind.{Bind}
use Rattle.jn_intern.specs.Pools.{bind_in, shown}
use Rattle.jn_sem.proofs.NormalTypes.{among_map, map_among}
use Rattle.jn_sem.proofs.Codes.{among_of, contains_of, among_reversed}
use Rattle.jn_subtype.specs.Binds.{binds_in}

-- a bind of the code, among the binds of the scope

pub bind_among : (pool : List Ty) (bs : List Bind) (b : Bind) → Contains bs b → Among (binds_in pool bs) (bind_in pool b)
bind_among pool bs b c = among_reversed (map (bind_in pool) bs) (bind_in pool b) (among_map (bind_in pool) bs b (among_of bs b c))

pub among_bind : (pool : List Ty) (bs : List Bind) (b : TypeBind) → Among (binds_in pool bs) b
    → (o : Bind) × Contains bs o × (bind_in pool o ≡ b)
among_bind pool bs b m =
    let back : Among (map (bind_in pool) bs) b =
    subst (λ (l : Scope). Among l b) (reverse-reverse (map (bind_in pool) bs)) (among_reversed (binds_in pool bs) b m) in
    let r = map_among (bind_in pool) bs b back in
    (r.0, contains_of bs r.0 r.1, r.2)

pub binds_of : (pool : List Ty) (bs : List Bind) (b : Bind) (q : ℕ) → Contains bs b → b.path ≡ q → Binds (binds_in pool bs) q
binds_of pool bs b q c e = record {
  bind = bind_in pool b;
  among = bind_among pool bs b c;
  is = e;
}

pub binds_not : (pool : List Ty) (bs : List Bind) (q : ℕ) → All (λ (b : Bind). b.path ≡ q → ⊥) bs → Binds (binds_in pool bs) q → ⊥
binds_not pool bs q none r =
    let o = among_bind pool bs r.bind r.among in
    All-contains (λ (b : Bind). b.path ≡ q → ⊥) bs o.0 none o.1 (ap (λ (b : TypeBind). b.path) o.2 ∙ r.is)

-- one more bind, which is the newest
pub binds_more : (pool : List Ty) (bs : List Bind) (i : ℕ) (d : Bind) → i < length bs
    → binds_in pool (take (i + 1) bs) ≡ bind_in pool (get_or bs i d) ∷ binds_in pool (take i bs)
binds_more pool bs i d l =
    ap (binds_in pool) (take_more bs i d l)
    ∙ ap reverse (map-append (bind_in pool) (take i bs) (get_or bs i d ∷ []))
    ∙ reverse-append (map (bind_in pool) (take i bs)) (bind_in pool (get_or bs i d) ∷ [])

-- the atoms of a type

pub atoms_of : (s : Scope) (xs : List ShownAtom) (x : ShownAtom) (n : ℕ) → 0 < length xs → x ≡ get_or xs 0 x
    → n ≡ length (bound s (atom_of x)) → n ≤ 255
    → ((y : ShownAtom) → Contains xs y → Anchored s y.anchor) → ((y : ShownAtom) → Contains xs y → length (bound s (atom_of y)) ≡ n)
    → AtomsFit s (map atom_of xs)
atoms_of s xs x n some is depth shallow anchored deep = record {
  one = atom_of x;
  among = among_map atom_of xs x (among_of xs x (0, some, sym is));
  anchored = λ z m.
      let r = map_among atom_of xs z m in
      subst (λ (y : Atom). Anchored s y.anchor) r.2 (anchored r.0 (contains_of xs r.0 r.1));
  depth = λ z m.
      let r = map_among atom_of xs z m in
      ap (λ (y : Atom). length (bound s y)) (sym r.2) ∙ deep r.0 (contains_of xs r.0 r.1) ∙ depth;
  shallow = omega (arith, shallow, depth);
}

-- the type of `this`

pub plain_of : (xs : List ShownAtom) (c d : ShownAtom) → length xs ≡ 1 → length (get_or xs 0 c).exact ≡ 0
    → (get_or xs 0 d).anchor ≡ Root → (Q : Path) × (xs ≡ shown_atom (this_atom Q) ∷ [])
plain_of [] c d l e a = absurd (omega (arith, l))
plain_of (x ∷ y ∷ xs) c d l e a = absurd (omega (arith, l))
plain_of (x ∷ []) c d l e a = (reverse x.names, ap (λ (y : ShownAtom). y ∷ []) (is (empty x.exact e))) where
  empty : (ns : List Name) → length ns ≡ 0 → ns ≡ []
  empty [] h = refl
  empty (n ∷ ns) h = absurd (omega (arith, h))

  made : Anchor → List Name → List Name → ShownAtom
  made b es ns = record { anchor = b; exact = es; names = ns }

  is : x.exact ≡ [] → x ≡ shown_atom (this_atom (reverse x.names))
  is none =
      ap (λ (b : Anchor). made b x.exact x.names) a ∙ ap (λ (ns : List Name). made Root ns x.names) none
      ∙ ap (made Root []) (sym (reverse-reverse x.names))

-- a scope whose oldest bind is that of `this`
pub scope_of : (pool : List Ty) (bs : List Bind) (b : Bind) (Q : Path) → Contains bs b → b.path ≡ 0 → shown pool b.ty ≡ this_type Q
    → BindsFit (binds_in pool bs) → ScopeFits (binds_in pool bs)
scope_of pool bs b Q c z e f = record {
  binds = f;
  class_of_this = Q;
  this = subst (Among (binds_in pool bs)) (ap (λ (q : ℕ). bind_of q (shown pool b.ty)) z ∙ ap (bind_of 0) e) (bind_among pool bs b c);
} where
  bind_of : ℕ → Ty → TypeBind
  bind_of q t = record { path = q; ty = t }

-- two clauses as one
pub both_of : {T E : Type 0} (P Q : T → Type 0) (r : Result T E) → IfOk r P → IfOk r Q → IfOk r (λ (x : T). P x × Q x)
both_of P Q (Ok x) p q = (p, q)
both_of P Q (Err e) p q = tt

pub some_of : {A : Type 0} (xs : List A) (b : Bool) → b ≡ (length xs == 0) → b ≡ false → 0 < length xs
some_of [] b e h = absurd (cc)
some_of (x ∷ xs) b e h = omega arith

-- what holds of the first i elements and of the next one
pub each_more : {A : Type 0} (P : A → Type 0) (ys : List A) (i : ℕ) (y : A) → i < length ys → y ≡ get_or ys i y
    → ((z : A) → Contains (take i ys) z → P z) → P y → (z : A) → Contains (take (i + 1) ys) z → P z
each_more {A} P ys i y l e each one z m =
    let more : take (i + 1) ys ≡ take i ys ++ y ∷ [] = take_more ys i y l ∙ ap (λ (x : A). take i ys ++ x ∷ []) (sym e) in
    let cases = Contains-push_cases (take i ys) y z (subst (λ (t : List A). Contains t z) more m) in
    elim cases [ inl h ↦ each z h | inr h ↦ subst P h one ]

-- Types whose paths are replaced, and what widening does to depths.
use Rattle.std.proofs.Common.{◌≡◌, ◌<◌, ◌≤◌, ◌+◌, ◌-◌, ℕ, suc, List, [], ◌∷◌, ◌++◌, length, map, drop, refl, sym, ap, ◌∙◌, subst, cond, Bool, true, false, arith, length-append, length-drop}
use Rattle.std.specs.Prelude.{nat_lt}
use Rattle.std.proofs.lemmas.Bool.{ltb-true, ltb-false}
use Rattle.jn_reach.specs.Chain.{Chain, here, step}
use Rattle.jn_base.specs.declared.tree.Name.{Name}
use Rattle.jn_base.specs.declared.tree.Program.{Program}
use Rattle.jn_base.specs.declared.types.Anchor.{Anchor}
use Rattle.jn_base.specs.declared.types.Anchor.TheVariants.{Root, Up}
use Rattle.jn_base.specs.declared.types.Ty.{Ty}
use Rattle.jn_base.specs.declared.types.Ty.TheVariants as ty
use Rattle.jn_base.specs.Paths.{Path}
use Rattle.jn_base.specs.Atoms.{Atom, atom, atoms_in, anchor_at, Among}
use Rattle.jn_base.specs.Scopes.{Bind, Scope, bound_of, bound}
use Rattle.jn_base.specs.Fits.{Anchored, AtomsFit, TypeFits, BindsFit}
use Rattle.jn_base.proofs.SuperLaws.{sup_level}
use Rattle.jn_sem.specs.Widening.{reduced, Widens, loosened, raised, opened, widened}
use Rattle.jn_sem.specs.Below.{Below, ints, booleans, nulls, classes}
use Rattle.jn_sem.specs.Normal.{normal, moved, MovedFits}
use Rattle.jn_sem.specs.NormalFunction.{subst_type}
use Rattle.jn_sem.proofs.NormalTypes.{among_map, map_among, type_subst_is, type_subst_fits}
use Rattle.jn_sem.proofs.Under.{type_anchored, fits_whole, bound_depth, atoms_fit}
use Rattle.jn_sem.proofs.Levels.{reduced_anchored, normal_depth}
use Rattle.jn_sem.proofs.Widenings.{lifted_at}
use Rattle.jn_laws.specs.LawsOfFits.{AsDeep, MovedTypesFit, BelowKeepsDepth}

-- ---- paths replaced

module _ (h s : Scope) (f : ℕ → ℕ) where
  pub moved_anchored : (a : Anchor) (es ns : List Name) → Anchored h a → ((q k : ℕ) → a ≡ Up q k → AsDeep h s q (f q)) → Anchored s (moved f (atom a es ns)).anchor
  moved_anchored Root es ns i d = tt
  moved_anchored (Up q k) es ns i d = let r = d q k refl in (r.bound_in, omega (arith, i.1, r.depth))

  anchor_deep : (a : Anchor) (es ns : List Name) → ((q k : ℕ) → a ≡ Up q k → AsDeep h s q (f q))
      → length (anchor_at (bound_of s) (moved f (atom a es ns)).anchor) ≡ length (anchor_at (bound_of h) a)
  anchor_deep Root es ns d = refl
  anchor_deep (Up q k) es ns d = let r = d q k refl in omega (arith, r.depth, length-drop k (bound_of s (f q)), length-drop k (bound_of h q))

  moved_deep : (x : Atom) → ((q k : ℕ) → x.anchor ≡ Up q k → AsDeep h s q (f q)) → length (bound s (moved f x)) ≡ length (bound h x)
  moved_deep x d =
      omega (
        arith,
        anchor_deep x.anchor x.exact x.names d,
        length-append x.names (x.exact ++ anchor_at (bound_of h) x.anchor),
        length-append x.exact (anchor_at (bound_of h) x.anchor),
        length-append x.names (x.exact ++ anchor_at (bound_of s) (moved f x).anchor),
        length-append x.exact (anchor_at (bound_of s) (moved f x).anchor),
      )

  moved_fit : (xs : List Atom) → AtomsFit h xs → ((x : Atom) (q k : ℕ) → Among xs x → x.anchor ≡ Up q k → AsDeep h s q (f q)) → AtomsFit s (map (moved f) xs)
  moved_fit xs a d = record {
    one = moved f a.one;
    among = among_map (moved f) xs a.one a.among;
    anchored = λ x m. let r = map_among (moved f) xs x m in
        subst (λ (z : Atom). Anchored s z.anchor) r.2 (moved_anchored r.0.anchor r.0.exact r.0.names (a.anchored r.0 r.1) (λ q k. d r.0 q k r.1));
    depth = λ x m. let r = map_among (moved f) xs x m in deep x r.0 r.2 r.1;
    shallow = subst (λ (n : ℕ). n ≤ 255) (sym (moved_deep a.one (λ q k. d a.one q k a.among))) a.shallow;
  } where
    deep : (x y : Atom) → moved f y ≡ x → Among xs y → length (bound s x) ≡ length (bound s (moved f a.one))
    deep x y e m =
        sym (ap (λ (z : Atom). length (bound s z)) e) ∙ moved_deep y (λ q k. d y q k m) ∙ a.depth y m ∙ sym (moved_deep a.one (λ q k. d a.one q k a.among))

-- an atom of the substituted type is the normal form of a moved one
pub subst_from : (s : Scope) (f : ℕ → ℕ) (t : Ty) (y : Atom) → Among (atoms_in (subst_type s f t)) y → (x : Atom) × Among (atoms_in t) x × (y ≡ normal s (moved f x))
subst_from s f (ty.Class xs m) y a = ((type_subst_is s f (ty.Class xs m) (subst_type s f (ty.Class xs m))).1 refl).0.only y a
subst_from s f ty.Int y a = elim a [ ]
subst_from s f ty.Bool y a = elim a [ ]
subst_from s f ty.Null y a = elim a [ ]
subst_from s f ty.Void y a = elim a [ ]

pub moved_types_fit : MovedTypesFit
moved_types_fit h s f t fits deep = record {
  moved = moves;
  substituted = λ g. type_subst_fits s f t (subst_type s f t) g moves ((type_subst_is s f t (subst_type s f t)).1 refl);
  depth = λ g x y m n. let o = subst_from s f t y n in
      depth g x y o.0 m o.1 o.2;
} where
  moves : MovedFits s f t
  moves i = moved_fit h s f (atoms_in t) (fits.atoms i) deep

  depth : BindsFit s → (x y z : Atom) → Among (atoms_in t) x → Among (atoms_in t) z → y ≡ normal s (moved f z) → length (bound s y) ≡ length (bound h x)
  depth g x y z m n e =
      let a = atoms_fit fits x m in
      let anchored = moved_anchored h s f z.anchor z.exact z.names (a.anchored z n) (λ q k. deep z q k n) in
      ap (λ (w : Atom). length (bound s w)) e ∙ normal_depth s g (moved f z) anchored ∙ moved_deep h s f z (λ q k. deep z q k n) ∙ a.depth z n ∙ sym (a.depth x m)

-- ---- widening keeps the depth

-- y is anchored, and its bound is as deep as x's
record Kept (s : Scope) (x y : Atom) : Type 0 where
  anchored : Anchored s y.anchor
  depth : length (bound s y) ≡ length (bound s x)

module _ (p : Program) (s : Scope) (f : BindsFit s) where
  same_depth : (x y : Atom) → length y.names + (length y.exact + length (anchor_at (bound_of s) y.anchor)) ≡ length x.names + (length x.exact + length (anchor_at (bound_of s) x.anchor))
      → length (bound s y) ≡ length (bound s x)
  same_depth x y e = omega (
    arith,
    e,
    length-append x.names (x.exact ++ anchor_at (bound_of s) x.anchor),
    length-append x.exact (anchor_at (bound_of s) x.anchor),
    length-append y.names (y.exact ++ anchor_at (bound_of s) y.anchor),
    length-append y.exact (anchor_at (bound_of s) y.anchor),
  )

  reduced_deep : (b : Bind) → Among s b → (z : Atom) → Among (atoms_in b.ty) z → (k : ℕ) → length z.names ≤ k
      → k < length (bound_of s b.path) → (x : Atom) → x.anchor ≡ Up b.path k → length (bound s (reduced z k x)) ≡ length (bound s x)
  reduced_deep b m z a k w l x e =
      let own : Path = anchor_at (bound_of s) z.anchor in
      let kept : List Name = drop (k - length z.names) z.exact in
      same_depth x (reduced z k x)
      (omega (
        arith,
        w,
        l,
        bound_depth m f z a,
        length-append z.names (z.exact ++ own),
        length-append z.exact own,
        length-append x.exact kept,
        length-drop (k - length z.names) z.exact,
        ap length (lifted_at (bound_of s) (k - length z.names - length z.exact) z.anchor),
        length-drop (k - length z.names - length z.exact) own,
        ap (λ (c : Anchor). length (anchor_at (bound_of s) c)) e,
        length-drop k (bound_of s b.path),
      ))

  open_kept : (x z : Atom) (b : Bind) (k : ℕ) → Among s b → Among (atoms_in b.ty) z → x.anchor ≡ Up b.path k → Anchored s x.anchor → (t : Bool) → nat_lt k (length z.names) ≡ t
      → Kept s x (cond t (atom z.anchor z.exact ((x.names ++ x.exact) ++ drop k z.names)) (reduced z k x))
  open_kept x z b k m n e a true i = record {
    anchored = type_anchored (fits_whole m f) z n;
    depth = same_depth x (atom z.anchor z.exact ((x.names ++ x.exact) ++ drop k z.names)) deep;
  } where
    deep : length ((x.names ++ x.exact) ++ drop k z.names) + (length z.exact + length (anchor_at (bound_of s) z.anchor)) ≡ length x.names + (length x.exact + length (anchor_at (bound_of s) x.anchor))
    deep =
        let g : Anchored s (Up b.path k) = subst (Anchored s) e a in
        omega (
          arith,
          g.1,
          ltb-true k (length z.names) i,
          bound_depth m f z n,
          length-append z.names (z.exact ++ anchor_at (bound_of s) z.anchor),
          length-append z.exact (anchor_at (bound_of s) z.anchor),
          length-append (x.names ++ x.exact) (drop k z.names),
          length-append x.names x.exact,
          length-drop k z.names,
          ap (λ (c : Anchor). length (anchor_at (bound_of s) c)) e,
          length-drop k (bound_of s b.path),
        )
  open_kept x z b k m n e a false i =
      let g : Anchored s (Up b.path k) = subst (Anchored s) e a in record {
        anchored = reduced_anchored f m z n k g.1 x;
        depth = reduced_deep b m z n k (omega (arith, ltb-false k (length z.names) i)) g.1 x e;
      }

  step_kept : (x y : Atom) → Anchored s x.anchor → Widens p s x y → Kept s x y
  step_kept x y a (loosened e es i j) = subst (Kept s x) (sym j) (record {
    anchored = a;
    depth = same_depth x (atom x.anchor es (x.names ++ e ∷ [])) (omega (arith, length-append x.names (e ∷ []), ap length i));
  })
  step_kept x y a (raised q k c d B i j e u) = subst (Kept s x) (sym e) (record {
    anchored = (g.0, long);
    depth = same_depth x (atom (Up q (suc k)) [] ((x.names ++ x.exact) ++ c ∷ []))
        (omega (
          arith,
          long,
          length-append (x.names ++ x.exact) (c ∷ []),
          length-append x.names x.exact,
          ap (λ (n : Anchor). length (anchor_at (bound_of s) n)) i,
          length-drop k (bound_of s q),
          length-drop (suc k) (bound_of s q),
        ));
  }) where
    g : Anchored s (Up q k)
    g = subst (Anchored s) i a

    long : suc k < length (bound_of s q)
    long = omega (arith, ap length j, length-drop k (bound_of s q))
  step_kept x y a (opened b k z m i n e u) = subst (Kept s x) (sym e) (open_kept x z b k m n i a (nat_lt k (length z.names)) refl)
  step_kept x y a (widened ns l g e u) = record { anchored = subst (λ (z : Atom). Anchored s z.anchor) (sym e) a; depth = sup_level u }

  chain_kept : (x y : Atom) → Anchored s x.anchor → Chain (Widens p s) x y → Kept s x y
  chain_kept x _ a here = record { anchored = a; depth = refl }
  chain_kept x y a (step {b = z} w c) =
      let k = step_kept x z a w in
      let l = chain_kept z y k.anchored c in
      record { anchored = l.anchored; depth = l.depth ∙ k.depth }

  below_kept : (t u : Ty) (x y : Atom) → TypeFits s t → Below p s t u → Among (atoms_in t) x → Among (atoms_in u) y → length (bound s y) ≡ length (bound s x)
  below_kept _ _ x y g ints m n = elim m [ ]
  below_kept _ _ x y g booleans m n = elim m [ ]
  below_kept _ _ x y g nulls m n = elim m [ ]
  below_kept _ _ x y g (classes {xs = xs} {m = ms} b w) m n =
      let r = b y n in
      let a = g.atoms tt in
      let k = chain_kept r.from y (a.anchored r.from r.among) r.chain in
      k.depth ∙ a.depth r.from r.among ∙ sym (a.depth x m)

pub below_keeps_depth : BelowKeepsDepth
below_keeps_depth p s t u x y f fits below a b = below_kept p s f t u x y fits below a b

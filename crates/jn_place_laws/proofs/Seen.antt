-- A class that hangs on `this` or a `final` variable, by the views of a frame: it is in the universe where its bound is,
-- and the path's view has the names that are taken off.
use Rattle.std.proofs.Common.{◌≡◌, ◌<◌, ◌≤◌, ℕ, zero, suc, List, [], ◌∷◌, ◌++◌, length, drop, Bool, true, false, Option, ◌⊎◌, inl, inr, refl, sym, ap, ◌∙◌, subst, arith, length-append, length-drop, Contains, eq-eqb}
use Rattle.std.specs.Prelude.{nat_eq, unwrap_or}
use Rattle.jn_base.specs.declared.tree.Name.{Name}
use Rattle.jn_base.specs.declared.tree.Program.{Program}
use Rattle.jn_base.specs.declared.names.Var.{Var}
use Rattle.jn_base.specs.declared.types.Anchor.{Anchor}
use Rattle.jn_base.specs.declared.types.Anchor.TheVariants.{Up}
use Rattle.jn_base.specs.Paths.{Path}
use Rattle.jn_base.specs.Universe.{InUniverse}
use Rattle.jn_base.specs.Atoms.{Atom, atom_at, anchor_at, first, later}
use Rattle.jn_base.specs.Scopes.{Scope, bound, bound_of}
use Rattle.jn_base.specs.Fits.{Anchored}
use Rattle.jn_base.proofs.SuperLaws.{sup_level}
use Rattle.jn_base.proofs.NameTests.{in_cons, in_none, same_name}
use Rattle.jn_base.proofs.NameTests.{first as in_first, later as in_later}
use Rattle.jn_code.specs.declared.instr.Instr.{Instr}
use Rattle.jn_code.specs.declared.image.Image.{Image}
use Rattle.jn_sem.specs.Sets.{Views, view_at}
use Rattle.jn_sem.specs.State.{Heap, Frame, frame_views}
use Rattle.jn_laws.specs.LawsOfWritten.{HeaderPath, HeaderPaths}
use Rattle.jn_laws.specs.LawsOfSources.{KeepsLimits}
use Rattle.jn_laws.specs.Surely.{Surely}
use Rattle.jn_laws.proofs.Bounded.{heir_there}
use Rattle.jn_rules.specs.Headers.{Header}
use Rattle.jn_rules.specs.Exprs.{made_exact}
use Rattle.jn_sound.specs.Takes.{Opd, typing}
use Rattle.jn_sound.specs.Sound.{InScope}
use Rattle.jn_sound.proofs.MadeClass.{made_super}
use Rattle.jn_sound.proofs.Ways.{surely, and_so}
use Rattle.jn_agree.specs.Naming.{Naming}
use Rattle.jn_agree.specs.Rows.{RowsAre}
use Rattle.jn_agree.specs.Places.{ClassCode, fixed, seen, up_by, downs}
use Rattle.jn_node_laws.specs.Cont.{trimmed}
use Rattle.jn_node_laws.specs.Facts.{AnchorKeeps, TargetSeen}
use Rattle.jn_place_laws.specs.Contexts.{context, Stood, site_at}

-- ---- what can be told by looking

not_same : (a b : ℕ) → nat_eq a b ≡ false → a ≡ b → ⊥
not_same a b e i = no (sym (eq-eqb a b i) ∙ e) where
  no : true ≡ false → ⊥
  no e = cc

name_same : (a b : Name) → (a ≡ b) ⊎ (a ≡ b → ⊥)
name_same a b = at (nat_eq a.0 b.0) refl where
  at : (z : Bool) → nat_eq a.0 b.0 ≡ z → (a ≡ b) ⊎ (a ≡ b → ⊥)
  at true e = inl (same_name a b e)
  at false e = inr (λ i. not_same a.0 b.0 e (ap (λ (x : Name). x.0) i))

path_same : (P Q : Path) → (P ≡ Q) ⊎ (P ≡ Q → ⊥)
path_same [] [] = inl refl
path_same [] (D ∷ Q) = inr (λ e. no e) where
  no : ◌≡◌ {A = Path} [] (D ∷ Q) → ⊥
  no e = cc
path_same (C ∷ P) [] = inr (λ e. no e) where
  no : ◌≡◌ {A = Path} (C ∷ P) [] → ⊥
  no e = cc
path_same (C ∷ P) (D ∷ Q) = at (name_same C D) (path_same P Q) where
  heads : C ∷ P ≡ D ∷ Q → C ≡ D
  heads e = cc

  tails : C ∷ P ≡ D ∷ Q → P ≡ Q
  tails e = cc

  both : C ≡ D → P ≡ Q → C ∷ P ≡ D ∷ Q
  both e f = cc (e, f)

  at : (C ≡ D) ⊎ (C ≡ D → ⊥) → (P ≡ Q) ⊎ (P ≡ Q → ⊥) → (C ∷ P ≡ D ∷ Q) ⊎ (C ∷ P ≡ D ∷ Q → ⊥)
  at (inl e) (inl f) = inl (both e f)
  at (inr n) o = inr (λ e. n (heads e))
  at (inl e) (inr n) = inr (λ e. n (tails e))

listed : (xs : List Path) (R : Path) → Contains xs R ⊎ (Contains xs R → ⊥)
listed [] R = inr (in_none R)
listed (P ∷ xs) R = at (path_same P R) (listed xs R) where
  none : (P ≡ R → ⊥) → (Contains xs R → ⊥) → (P ≡ R) ⊎ Contains xs R → ⊥
  none n m (inl e) = n e
  none n m (inr c) = m c

  at : (P ≡ R) ⊎ (P ≡ R → ⊥) → Contains xs R ⊎ (Contains xs R → ⊥)
      → Contains (P ∷ xs) R ⊎ (Contains (P ∷ xs) R → ⊥)
  at (inl e) o = inl (subst (Contains (P ∷ xs)) e (in_first P xs))
  at (inr n) (inl c) = inl (in_later P xs R c)
  at (inr n) (inr m) = inr (λ c. none n m (in_cons P xs R c))

-- whether a path is in the universe can be told by the image's classes
pub sure_there : (p : Program) (i : Image) (n : Naming) → RowsAre p i n → (R : Path) → Surely (InUniverse p R)
    → InUniverse p R
sure_there p i n rows R s = at (listed n.classes R) where
  at : Contains n.classes R ⊎ (Contains n.classes R → ⊥) → InUniverse p R
  at (inl c) = (rows.classes.exact R).0 c
  at (inr none) = absurd (s (λ u. none ((rows.classes.exact R).1 u)))

less_or_not : (a b : ℕ) → (a < b) ⊎ (a < b → ⊥)
less_or_not a zero = inr (λ l. omega (arith, l))
less_or_not zero (suc b) = inl (omega arith)
less_or_not (suc a) (suc b) = at (less_or_not a b) where
  at : (a < b) ⊎ (a < b → ⊥) → (suc a < suc b) ⊎ (suc a < suc b → ⊥)
  at (inl l) = inl (omega (arith, l))
  at (inr n) = inr (λ l. n (omega (arith, l)))

pub sure_less : (a b : ℕ) → Surely (a < b) → a < b
sure_less a b s = at (less_or_not a b) where
  at : (a < b) ⊎ (a < b → ⊥) → a < b
  at (inl l) = l
  at (inr n) = absurd (s n)

-- ---- in a frame

module _ {p : Program} {h : Heap} {g : Frame} {vs : List Var} {s : Scope} {w : Views} (k : InScope p h g w vs s)
    (y : Atom) (paths : (q j : ℕ) → y.anchor ≡ Up q j → HeaderPath vs q) (there : InUniverse p (bound s y)) where
  all_paths : HeaderPaths vs (made_exact y)
  all_paths _ q j first e = paths q j e
  all_paths x q j (later m) e = elim m [ ]

  seen_there : InUniverse p (atom_at (view_at (frame_views g)) y)
  seen_there = heir_there (made_super k y all_paths there) there

  as_long : length (anchor_at (view_at (frame_views g)) y.anchor) ≡ length (anchor_at (bound_of s) y.anchor)
  as_long =
      let l = sup_level (made_super k y all_paths there) in
      omega (
        arith,
        l,
        length-append y.names (y.exact ++ anchor_at (view_at (frame_views g)) y.anchor),
        length-append y.exact (anchor_at (view_at (frame_views g)) y.anchor),
        length-append y.names (y.exact ++ anchor_at (bound_of s) y.anchor),
        length-append y.exact (anchor_at (bound_of s) y.anchor),
      )

  seen_keeps : Anchored s y.anchor → AnchorKeeps g y
  seen_keeps anch q j V e v =
      let l : length (drop j (unwrap_or (frame_views g q) [])) ≡ length (drop j (bound_of s q)) =
      subst (λ (a : Anchor). length (anchor_at (view_at (frame_views g)) a) ≡ length (anchor_at (bound_of s) a)) e as_long in
      let n : Anchored s (Up q j) = subst (λ (a : Anchor). Anchored s a) e anch in
      let m : length (drop j V) ≡ length (drop j (bound_of s q)) =
      subst (λ (o : Option Path). length (drop j (unwrap_or o [])) ≡ length (drop j (bound_of s q))) v l in
      omega (arith, m, n.1, length-drop j V, length-drop j (bound_of s q))

-- ---- where a frame stands in a context

module _ (p : Program) (i : Image) (n : Naming) (rows : RowsAre p i n) (r : Frame) (hd : Header) (vs : List Var)
    (s : Scope) (y : Atom) (paths : (q j : ℕ) → y.anchor ≡ Up q j → HeaderPath vs q) (anch : Anchored s y.anchor)
    (there : InUniverse p (bound s y)) where
  pub keeps_there : (ops : List Opd) (f : Frame) (h : Heap) → Stood p r hd (context vs (typing s ops)) f h
      → AnchorKeeps (trimmed (site_at r hd vs) f) y
  keeps_there ops f h st q j V e v = sure_less j (length V)
      (and_so st (λ z. surely (seen_keeps z.at.stands.in_scope y paths there anch q j V e v)))

  pub target_seen : (ops : List Opd) (f : Frame) (h : Heap) → Stood p r hd (context vs (typing s ops)) f h
      → TargetSeen p y (trimmed (site_at r hd vs) f)
  target_seen ops f h st = record {
    keeps = keeps_there ops f h st;
    universe = sure_there p i n rows _ (and_so st (λ z. surely (seen_there z.at.stands.in_scope y paths there)));
  }

-- ---- the code of a class has 10 instructions at most: a path has 8 names

downs_long : (P : Path) → length (downs P) ≡ length P
downs_long [] = refl
downs_long (C ∷ P) =
    let l = downs_long P in omega (arith, l, length-append (downs P) (Rattle.jn_code.specs.declared.instr.Instr.TheVariants.Down C.0 ∷ []))

up_long : (k : ℕ) → length (up_by k) ≤ 1
up_long zero = omega arith
up_long (suc k) = omega arith

pub class_short : (p : Program) (n : Naming) (s : Scope) (y : Atom) (xs : List Instr) → KeepsLimits p
    → Anchored s y.anchor → InUniverse p (bound s y) → ClassCode n y xs → length xs ≤ 10
class_short p n s y xs limits anch there (fixed k root at is) =
    subst (λ (zs : List Instr). length zs ≤ 10) (sym is) (omega arith)
class_short p n s y xs limits anch there (seen q k up is) =
    let l = limits.depth (bound s y) there in
    let a : Anchored s (Up q k) = subst (λ (z : Anchor). Anchored s z) up anch in
    let e : length (anchor_at (bound_of s) y.anchor) ≡ length (drop k (bound_of s q)) =
    ap (λ (z : Anchor). length (anchor_at (bound_of s) z)) up in
    subst (λ (zs : List Instr). length zs ≤ 10) (sym is)
    (omega (
      arith,
      l,
      a.1,
      e,
      up_long k,
      downs_long (y.names ++ y.exact),
      length-append (up_by k) (downs (y.names ++ y.exact)),
      length-append y.names y.exact,
      length-append y.names (y.exact ++ anchor_at (bound_of s) y.anchor),
      length-append y.exact (anchor_at (bound_of s) y.anchor),
      length-drop k (bound_of s q),
    ))

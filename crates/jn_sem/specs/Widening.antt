-- The four steps of widening.
use Rattle.std.specs.Prelude.{◌≡◌, ◌<◌, ◌-◌, ℕ, List, [], ◌∷◌, ◌++◌, suc, length, drop, cond, nat_lt}
use Rattle.jn_base.specs.declared.tree.Name.{Name}
use Rattle.jn_base.specs.declared.tree.Program.{Program}
use Rattle.jn_base.specs.declared.types.Anchor.TheVariants.{Up}
use Rattle.jn_base.specs.Paths.{Path}
use Rattle.jn_base.specs.Supers.{Sup}
use Rattle.jn_base.specs.Universe.{InUniverse}
use Rattle.jn_base.specs.Atoms.{Atom, atom, atoms_in, anchor_at, lifted, Among}
use Rattle.jn_base.specs.Scopes.{Bind, Scope, bound_of, bound}

-- Take an atom x with the anchor Up(q, k), and an atom z = (a, es, ns) of q's type that has at most k inexact names.
-- k - |ns| names are taken off the end of es. Where es has fewer names than that, the rest is taken off the anchor a as
-- further levels. What is made of x has the anchor so reached, as exact names what is left of es followed by those of x,
-- and x's inexact names.
abbrev pub reduced : Atom → ℕ → Atom → Atom
reduced z k x =
    let m = k - length z.names in
    atom (lifted (m - length z.exact) z.anchor) (x.exact ++ drop m z.exact) x.names

-- By any atom z of q's type. Where it has more than k inexact names, what is made of x has z's anchor and exact names, and
-- as inexact names z's without the last k, followed by x's exact and inexact names. Else it is made as above.
abbrev pub replaced : Atom → ℕ → Atom → Atom
replaced z k x =
    cond (nat_lt k (length z.names)) (atom z.anchor z.exact ((x.names ++ x.exact) ++ drop k z.names)) (reduced z k x)

-- One step of widening leads from the atom x to the atom y.
pub data Widens (p : Program) (s : Scope) (x y : Atom) : Type 0 where
  -- 1. the last exact name becomes the first inexact name
  loosened : (e : Name) (es : List Name) → x.exact ≡ e ∷ es → y ≡ atom x.anchor es (x.names ++ e ∷ []) → Widens p s x y
  -- 2. Up(q, k) with es, ns becomes Up(q, k + 1) with no exact names and the inexact names c, es, ns, where c is the last
  -- name of the anchor's bound and that bound is longer than 1
  raised : (q k : ℕ) (c d : Name) (B : Path) → x.anchor ≡ Up q k → anchor_at (bound_of s) (Up q k) ≡ c ∷ d ∷ B
      → y ≡ atom (Up q (suc k)) [] ((x.names ++ x.exact) ++ c ∷ []) → InUniverse p (bound s y) → Widens p s x y
  -- 3. an atom z of q's type stands for Up(q, k)
  opened : (b : Bind) (k : ℕ) (z : Atom) → Among s b → x.anchor ≡ Up b.path k → Among (atoms_in b.ty) z
      → y ≡ replaced z k x → InUniverse p (bound s y) → Widens p s x y
  -- 4. inexact names, of which there is one, become as many others, where the new bound is in Sup of the old one
  widened : (ns : List Name) → length ns ≡ length x.names → 0 < length x.names → y ≡ atom x.anchor x.exact ns
      → Sup p (bound s x) (bound s y) → Widens p s x y

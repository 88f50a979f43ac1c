-- How an atom without its bound stands to one that widens to it by anchors and exact names alone.
use Rattle.std.specs.Prelude.{◌≡◌, ◌<◌, ◌+◌, ℕ, List, [], ◌++◌, length}
use Rattle.jn_base.specs.declared.tree.Name.{Name}
use Rattle.jn_base.specs.declared.types.Anchor.{Anchor}
use Rattle.jn_base.specs.declared.types.Anchor.TheVariants.{Up}
use Rattle.jn_base.specs.Atoms.{Atom}

-- at the same anchor, y has as many names as x, and its exact names are the outer ones of x's
pub record IsLevel (x y : Atom) : Type 0 where
  pub front : List Name
  pub exact : x.exact ≡ front ++ y.exact
  pub anchor : y.anchor ≡ x.anchor
  pub long : length y.names ≡ length x.names + length front

-- b takes n more names off the same path as a
pub record IsRaised (a b : Anchor) (n : ℕ) : Type 0 where
  pub path : ℕ
  pub levels : ℕ
  pub lower : a ≡ Up path levels
  pub upper : b ≡ Up path (levels + n)
  pub some : 0 < n

-- y has no exact names, and as inexact ones as many as x has names, and n more
pub record HasMore (x y : Atom) (n : ℕ) : Type 0 where
  pub none : y.exact ≡ []
  pub long : length y.names ≡ length x.names + length x.exact + n

-- y is at a higher anchor of the same path
pub record IsHigher (x y : Atom) : Type 0 where
  pub further : ℕ
  pub raised : IsRaised x.anchor y.anchor further
  pub more : HasMore x y further

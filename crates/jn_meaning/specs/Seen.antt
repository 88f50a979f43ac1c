-- The views of paths, as the runner keeps them.
use Rattle.std.specs.Prelude.{◌≡◌, List, ◌++◌, reverse, cond, nat_eq, Option, Some, None}
use Rattle.std.specs.Option.{option_map}
use Rattle.jn_base.specs.declared.tree.Name.{Name}
use Rattle.jn_base.specs.declared.path.Path.{Path as ShownPath}
use Rattle.jn_base.specs.declared.types.Anchor.{Anchor}
use Rattle.jn_base.specs.declared.types.Anchor.TheVariants.{Root}
use Rattle.jn_base.specs.declared.types.Atom.{Atom as ShownAtom}
use Rattle.jn_sem.specs.Sets.{Views, AnchorSeen, eval}
use Rattle.jn_sem.specs.State.{view_of_var}
use Rattle.jn_share.specs.Atoms.{FrontIs}
use Rattle.jn_meaning.specs.declared.seen.Seen.{Seen}
use Rattle.jn_meaning.specs.Values.{path_at}
use Rattle.jn_meaning.specs.Frames.{variables_of}

abbrev pub views_of : List ShownPath → Seen → Views
views_of known s q = cond (nat_eq q 0) (option_map (path_at known) s.this) (view_of_var (variables_of known s.locals.now) q)

-- the names of the path of an anchor, none where its path has no view
abbrev pub FrontTold : List ShownPath → Seen → Anchor → Option (List Name) → Type 0
FrontTold known s a o = FrontIs (views_of known s) a o

-- y has no anchor, and the names of x's anchor before its exact names
pub record RootedAs (v : Views) (x y : ShownAtom) : Type 0 where
  pub seen : AnchorSeen v x.anchor
  pub anchor : y.anchor ≡ Root
  pub exact : reverse y.exact ≡ reverse x.exact ++ eval v x.anchor
  pub names : y.names ≡ x.names

abbrev pub IsRooted : List ShownPath → Seen → ShownAtom → Option ShownAtom → Type 0
IsRooted known s x None = AnchorSeen (views_of known s) x.anchor → ⊥
IsRooted known s x (Some y) = RootedAs (views_of known s) x y

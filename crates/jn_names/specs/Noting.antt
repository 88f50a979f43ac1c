-- The mask names of a text, noted one by one.
use Rattle.std.specs.Prelude.{List, [], ◌∷◌, ◌++◌, cond}
use Rattle.jn_base.specs.declared.tree.Name.{Name}
use Rattle.jn_base.specs.Duplicates.{has_name}
use Rattle.jn_base.specs.Forms.{Mentions}
use Rattle.jn_base.specs.ResolveTypes.{mentioned_masks}

-- a name goes behind the others where it isn't there
abbrev pub added : List Name → Name → List Name
added xs n = cond (has_name xs n) xs (xs ++ n ∷ [])

abbrev pub adding : List Name → List Name → List Name
adding xs [] = xs
adding xs (n ∷ ns) = adding (added xs n) ns

-- the masks of these mentions, noted behind xs
unfoldable pub noted : List Name → Mentions → List Name
noted xs ms = adding xs (mentioned_masks ms)

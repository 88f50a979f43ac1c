-- The parts of a universe fit, and the search for two kinds.
use Rattle.std.proofs.Common.{◌≡◌, ◌<◌, ◌≤◌, ◌+◌, ℕ, List, length, slice_get, Some, get_or, arith, ◌∙◌, subst, inl, inr}
use Rattle.std.specs.declared.vec.Vec.{Vec}
use Rattle.std.specs.declared.alloc.Global.{Global}
use Rattle.std.proofs.lemmas.Bool.{cases_lt}
use Rattle.std.proofs.lemmas.Option.{slice_get_within, slice_get-get_or}
use Rattle.jn_reach.specs.Graph.{Graph, InRange, IsClosure}
use Rattle.jn_reach.proofs.Eachs.{Each-length}
use Rattle.jn_reach.proofs.Searches.{same_some}
use Rattle.jn_base.specs.declared.tree.Kind.TheVariants as kind
use Rattle.jn_table.specs.Nodes.{FitNodes}
use Rattle.jn_table.specs.Own.{OwnKinds, OwnNames, IsOwnOf, IsMixedBy, MixedAt}
use Rattle.jn_table.specs.Universes.{FitUniverse}
use Rattle.jn_table.specs.declared.entry.Entry.{Entry}
use Rattle.jn_table.specs.declared.gather.Part.TheVariants as part
use Rattle.jn_table.specs.declared.own.Own.{Own}
use Rattle.jn_table.specs.declared.universe.Universe.{Universe}

pub mixed_here : (own : Own) (sups : Graph) (k : ℕ) (row : Vec ℕ Global) → slice_get sups k ≡ Some row
    → IsMixedBy own row.items → MixedAt own sups k
mixed_here own sups k row at m = record { row = row; at = at; mixed = m }

pub mixed_more : (own : Own) (sups : Graph) (i : ℕ) (row : Vec ℕ Global) → slice_get sups i ≡ Some row
    → (IsMixedBy own row.items → ⊥)
    → ((k : ℕ) → k < i → MixedAt own sups k → ⊥) → (k : ℕ) → k < i + 1 → MixedAt own sups k → ⊥
mixed_more own sups i row at none below k l m = elim (cases_lt k i) [
  | inl b ↦ below k b m
  | inr past ↦
      let e : k ≡ i = omega (arith, l, past) in
      let s = same_some (slice_get sups i) m.row row (subst (λ (j : ℕ). slice_get sups j ≡ Some m.row) e m.at) at in
      none (subst (λ (r : Vec ℕ Global). IsMixedBy own r.items) s m.mixed)
]

pub mixed_none : (own : Own) (sups : Graph) (i : ℕ) → length sups ≤ i → ((k : ℕ) → k < i → MixedAt own sups k → ⊥)
    → (k : ℕ) → MixedAt own sups k → ⊥
mixed_none own sups i past below k m = below k (let w = slice_get_within sups k m.row m.at in omega (arith, w, past)) m

pub universe_fits : (es : List Entry) (u : Universe) → FitNodes u.nodes → IsClosure u.nodes.direct.items u.sups.items
    → InRange u.sups.items (length u.nodes.direct.items) → IsOwnOf es u.nodes.paths.items u.own → FitUniverse u
universe_fits es u f c w o = record {
  nodes = f;
  sups_long = c.long ∙ f.long;
  sups_in = subst (InRange u.sups.items) f.long w;
  sups_up = λ k d l. (c.each k (get_or u.sups.items k d) (slice_get-get_or u.sups.items k d l)).ascending;
  classes_long = Each-length (OwnKinds es kind.Class) o.classes;
  packages_long = Each-length (OwnKinds es kind.Package) o.packages;
  methods_long = Each-length (OwnNames es part.Methods) o.methods;
  fields_long = Each-length (OwnNames es part.Fields) o.fields;
}

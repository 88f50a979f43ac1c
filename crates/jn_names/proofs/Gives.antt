-- The steps of a path's anchor.
use Rattle.std.proofs.Common.{◌≡◌, ℕ, List, Some, Option, Result, Ok, drop, subst, sym, ap, ◌∙◌}
use Rattle.jn_base.specs.declared.tree.Name.{Name}
use Rattle.jn_base.specs.declared.tree.Term.{Term}
use Rattle.jn_base.specs.declared.tree.Program.{Program}
use Rattle.jn_base.specs.declared.types.Anchor.{Anchor}
use Rattle.jn_base.specs.declared.types.Anchor.TheVariants.{Up}
use Rattle.jn_base.specs.declared.names.Spot.{Spot}
use Rattle.jn_base.specs.declared.refusal.Refusal.{Refusal}
use Rattle.jn_base.specs.Paths.{Path}
use Rattle.jn_base.specs.Resolve.{FirstUnknown, names_of, taken_off, Behind, BoundGives, class_of, anchor_out, Sought, PlainGiven}

pub unknown_is : (p : Program) (V : Path) (names : List Name) (t : Term) (o : Option Name) (N : Name)
    → names ≡ names_of t → o ≡ Some N
    → FirstUnknown p V names o → FirstUnknown p V (names_of t) (Some N)
unknown_is p V names t o N e h f =
    subst (λ (x : Option Name). FirstUnknown p V (names_of t) x) h (subst (λ (ns : List Name). FirstUnknown p V ns o) e f)

pub bound_step : (p : Program) (spot : Spot) (t : Term) (front : Option Path) (q : ℕ) (V W : Path) (k : ℕ)
    (o : Result Anchor Refusal)
    → taken_off front V ≡ Some k → W ≡ drop k V → Behind p spot t front W (Up q k) o
    → BoundGives p spot t front q V (taken_off front V) o
bound_step p spot t front q V W k o e h b =
    subst (λ (x : Option ℕ). BoundGives p spot t front q V x o) (sym e)
    (subst (λ (X : Path). Behind p spot t front X (Up q k) o) h b)

pub plain_given : (p : Program) (spot : Spot) (t : Term) (Q : Path) (names : List Name) (f : Result ℕ Name) (k : ℕ)
    (o : Result Anchor Refusal)
    → Q ≡ class_of spot → names ≡ names_of t → f ≡ Ok k → Sought p Q names f → o ≡ Ok (anchor_out Q k) → PlainGiven p spot t o
plain_given p spot t Q names f k o e h i w g = record {
  found = Ok k;
  sought = subst (λ (r : Result ℕ Name). Sought p (class_of spot) (names_of t) r) i
      (subst (λ (ns : List Name). Sought p (class_of spot) ns f) h (subst (λ (P : Path). Sought p P names f) e w));
  gives = g ∙ ap (λ (P : Path). Ok (anchor_out P k)) e;
}

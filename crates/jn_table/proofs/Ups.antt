-- A path and the path without its last name.
use Rattle.std.proofs.Common.{◌≡◌, List, [], ◌∷◌, ◌++◌, sym, ◌∙◌, ap, reverse, Option, Some, None}
use Rattle.std.specs.Prelude.{IfNone}
use Rattle.std.proofs.lemmas.List.{reverse-reverse, reverse-append}
use Rattle.jn_base.specs.declared.tree.Name.{Name}
use Rattle.jn_base.specs.Paths.{Path}

is_under : (names up : List Name) (C : Name) → reverse names ≡ C ∷ reverse up → names ≡ up ++ C ∷ []
is_under names up C e =
    sym (reverse-reverse names) ∙ (ap reverse e ∙
    (reverse-append (C ∷ []) (reverse up) ∙ ap (λ (ns : List Name). ns ++ C ∷ []) (reverse-reverse up)))

pub not_under : (r : Option Name) (names up : List Name) (R U : Path) → reverse names ≡ R → reverse up ≡ U
    → IfNone r ((C : Name) → names ≡ up ++ C ∷ [] → ⊥) → IfNone r ((C : Name) → R ≡ C ∷ U → ⊥)
not_under (Some D) names up R U e f n = tt
not_under None names up R U e f n =
    λ C h. n C (is_under names up C (e ∙ (h ∙ ap (λ (ns : List Name). C ∷ ns) (sym f))))

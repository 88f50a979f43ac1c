-- The last of some parts, and those before it.
use Rattle.std.proofs.Common.{◌≡◌, List, [], ◌∷◌, ◌++◌, refl, sym, ◌∙◌, ap}
use Rattle.jn_base.specs.declared.tree.Suffix.{Suffix, out-Suffix}
use Rattle.jn_grammar.specs.ReadStmts.{but_last, last_name}

front_push : (front : List Suffix) (last : Suffix) → but_last (front ++ last ∷ []) ≡ front
front_push [] last = refl
front_push (x ∷ []) last = refl
front_push (x ∷ y ∷ front) last = ap (λ (ss : List Suffix). x ∷ ss) (front_push (y ∷ front) last)

last_push : (front : List Suffix) (last : Suffix) → last_name (front ++ last ∷ []) ≡ (out-Suffix last).name
last_push [] last = refl
last_push (x ∷ []) last = refl
last_push (x ∷ y ∷ front) last = last_push (y ∷ front) last

pub front_is : (parts front : List Suffix) (last : Suffix) → parts ≡ front ++ last ∷ [] → front ≡ but_last parts
front_is parts front last e = sym (ap but_last e ∙ front_push front last)

pub last_is : (parts front : List Suffix) (last : Suffix) → parts ≡ front ++ last ∷ [] → (out-Suffix last).name ≡ last_name parts
last_is parts front last e = sym (ap last_name e ∙ last_push front last)

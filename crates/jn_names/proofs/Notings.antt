-- What is noted of a text, part by part.
use Rattle.std.proofs.Common.{◌≡◌, ◌<◌, ◌≤◌, ◌+◌, ℕ, List, [], ◌∷◌, ◌++◌, map, length, drop, get_or, cond, not, Bool}
use Rattle.std.proofs.Common.{true, false, ◌||◌, nat_eq, refl, sym, ap, ◌∙◌, subst, arith}
use Rattle.std.proofs.lemmas.List.{append-nil, append_assoc}
use Rattle.std.proofs.lemmas.List.Folds.{list_any-append}
use Rattle.std.proofs.Math.ListN.{drop_of_length-le}
use Rattle.jn_base.specs.declared.tree.Name.{Name}
use Rattle.jn_base.specs.declared.tree.Named.{Named}
use Rattle.jn_base.specs.declared.tree.Term.{Term}
use Rattle.jn_base.specs.Duplicates.{only_if, has_name}
use Rattle.jn_base.specs.Forms.{Mentions, Shared, Adapted, Constrained, Viewed, Termed, Masked, all_of}
use Rattle.jn_base.specs.ResolveTypes.{mentioned_masks, firsts}
use Rattle.jn_names.specs.Noting.{added, adding, noted}
use Rattle.jn_base.proofs.FormEquations.{at_expr, at_number, at_truth, at_null, at_this, at_variable, at_new, at_super}
use Rattle.jn_base.proofs.FormEquations.{at_post, at_inverse, at_negative, at_view, at_chain, at_link, at_suffix}
use Rattle.jn_base.proofs.FormEquations.{at_block, at_local, at_assign, at_set, at_do, at_if, at_while, at_return}
use Rattle.jn_base.proofs.FormEquations.{at_print, at_text, at_inner, at_slot, at_body, at_decl}
use Rattle.jn_base.proofs.NameTests.{same_name}
use Rattle.jn_names.proofs.Turned.{at_index, at_place}

masks_both : (ms ns : Mentions) → mentioned_masks (ms ++ ns) ≡ mentioned_masks ms ++ mentioned_masks ns
masks_both [] ns = refl
masks_both (Shared n ∷ ms) ns = masks_both ms ns
masks_both (Adapted n ∷ ms) ns = masks_both ms ns
masks_both (Constrained ∷ ms) ns = masks_both ms ns
masks_both (Viewed ∷ ms) ns = masks_both ms ns
masks_both (Termed t ∷ ms) ns = masks_both ms ns
masks_both (Masked n ∷ ms) ns = ap (λ (xs : List Name). n.name ∷ xs) (masks_both ms ns)

adding_both : (xs ns ms : List Name) → adding xs (ns ++ ms) ≡ adding (adding xs ns) ms
adding_both xs [] ms = refl
adding_both xs (n ∷ ns) ms = adding_both (added xs n) ns ms

pub noted_none : (xs : List Name) → noted xs [] ≡ xs
unfolding noted
noted_none xs = refl

pub noted_both : (xs : List Name) (ms ns : Mentions) → noted xs (ms ++ ns) ≡ noted (noted xs ms) ns
unfolding noted
noted_both xs ms ns = ap (adding xs) (masks_both ms ns) ∙ adding_both xs (mentioned_masks ms) (mentioned_masks ns)

pub noted_term : (xs : List Name) (t : Term) (ms : Mentions) → noted xs (Termed t ∷ ms) ≡ noted xs ms
unfolding noted
noted_term xs t ms = refl

pub noted_view : (xs : List Name) (ms : Mentions) → noted xs (Viewed ∷ ms) ≡ noted xs ms
unfolding noted
noted_view xs ms = refl

pub noted_constraint : (xs : List Name) (ms : Mentions) → noted xs (Constrained ∷ ms) ≡ noted xs ms
unfolding noted
noted_constraint xs ms = refl

pub noted_mask : (xs : List Name) (n : Named) (ms : Mentions) → noted xs (Masked n ∷ ms) ≡ noted (added xs n.name) ms
unfolding noted
noted_mask xs n ms = refl

pub noted_terms : (xs : List Name) (ts : List Term) → noted xs (map Termed ts) ≡ xs
noted_terms xs [] = noted_none xs
noted_terms xs (t ∷ ts) = noted_term xs t (map Termed ts) ∙ noted_terms xs ts

pub noted_shared : (xs : List Name) (ns : List Named) → noted xs (map Shared ns) ≡ xs
unfolding noted
noted_shared xs [] = refl
noted_shared xs (n ∷ ns) = noted_shared xs ns

pub noted_adapted : (xs : List Name) (ns : List Named) → noted xs (map Adapted ns) ≡ xs
unfolding noted
noted_adapted xs [] = refl
noted_adapted xs (n ∷ ns) = noted_adapted xs ns

-- ---- a loop over a list

module _ {A : Type 0} (g : A → Mentions) (xs : List A) where
  pub note_next : (out new whole : List Name) (i : ℕ) (x : A) → noted out (all_of (map g (drop i xs))) ≡ whole
      → i < length xs → x ≡ get_or xs i x → new ≡ noted out (g x) → noted new (all_of (map g (drop (i + 1) xs))) ≡ whole
  note_next out new whole i x e l at k =
      ap (λ (o : List Name). noted o (all_of (map g (drop (i + 1) xs)))) k
      ∙ (sym (noted_both out (g x) (all_of (map g (drop (i + 1) xs))))
      ∙ (ap (λ (ys : List A). noted out (all_of (map g ys))) (sym (at_index xs i x l at)) ∙ e))

  pub note_end : (out whole : List Name) (i : ℕ) → noted out (all_of (map g (drop i xs))) ≡ whole → length xs ≤ i → out ≡ whole
  note_end out whole i e l =
      sym (noted_none out) ∙ (ap (λ (ys : List A). noted out (all_of (map g ys))) (sym (drop_of_length-le xs l)) ∙ e)

pub mask_next : (ms : List Named) (out new whole : List Name) (i : ℕ) (d : Named) → noted out (map Masked (drop i ms)) ≡ whole
    → i < length ms → new ≡ added out (get_or ms i d).name → noted new (map Masked (drop (i + 1) ms)) ≡ whole
mask_next ms out new whole i d e l k =
    ap (λ (o : List Name). noted o (map Masked (drop (i + 1) ms))) k
    ∙ (sym (noted_mask out (get_or ms i d) (map Masked (drop (i + 1) ms)))
    ∙ (ap (λ (ys : List Named). noted out (map Masked ys)) (sym (at_place ms i d l)) ∙ e))

pub mask_end : (ms : List Named) (out whole : List Name) (i : ℕ) → noted out (map Masked (drop i ms)) ≡ whole
    → length ms ≤ i → out ≡ whole
mask_end ms out whole i e l =
    sym (noted_none out) ∙ (ap (λ (ys : List Named). noted out (map Masked ys)) (sym (drop_of_length-le ms l)) ∙ e)

-- ---- the distinct names in the order of their first mention

-- two lists have the same names
abbrev SameNames : List Name → List Name → Type 0
SameNames xs seen = (n : Name) → has_name xs n ≡ has_name seen n

same_more : (xs seen : List Name) (n : Name) → SameNames xs seen → SameNames (xs ++ n ∷ []) (n ∷ seen)
same_more xs seen n h m =
    list_any-append (λ (y : Name). nat_eq y.0 m.0) xs (n ∷ [])
    ∙ (ap (λ (b : Bool). b || (nat_eq n.0 m.0 || false)) (h m) ∙ grind arith)

same_again : (xs seen : List Name) (n : Name) → has_name xs n ≡ true → SameNames xs seen → SameNames xs (n ∷ seen)
same_again xs seen n e h m = by_test (nat_eq n.0 m.0) refl where
  by_test : (b : Bool) → nat_eq n.0 m.0 ≡ b → has_name xs m ≡ (nat_eq n.0 m.0 || has_name seen m)
  by_test true k =
      subst (λ (x : Name). has_name xs x ≡ true) (same_name n m k) e ∙ sym (ap (λ (b : Bool). b || has_name seen m) k)
  by_test false k = h m ∙ sym (ap (λ (b : Bool). b || has_name seen m) k)

adding_firsts : (ns xs seen : List Name) → SameNames xs seen → adding xs ns ≡ xs ++ firsts seen ns
adding_firsts [] xs seen h = sym (append-nil xs)
adding_firsts (n ∷ ns) xs seen h =
    by_test (has_name xs n) refl (λ k. adding_firsts ns xs (n ∷ seen) k) (λ k. adding_firsts ns (xs ++ n ∷ []) (n ∷ seen) k) where
      seen_so : (b : Bool) → has_name xs n ≡ b
          → xs ++ (only_if (not b) (n ∷ []) ++ firsts (n ∷ seen) ns) ≡ xs ++
          (only_if (not (has_name seen n)) (n ∷ []) ++ firsts (n ∷ seen) ns)
      seen_so b e = ap (λ (c : Bool). xs ++ (only_if (not c) (n ∷ []) ++ firsts (n ∷ seen) ns)) (sym e ∙ h n)

      by_test : (b : Bool) → has_name xs n ≡ b
          → (SameNames xs (n ∷ seen) → adding xs ns ≡ xs ++ firsts (n ∷ seen) ns)
          → (SameNames (xs ++ n ∷ []) (n ∷ seen) → adding (xs ++ n ∷ []) ns ≡ (xs ++ n ∷ []) ++ firsts (n ∷ seen) ns)
          → adding (added xs n) ns ≡ xs ++ (only_if (not (has_name seen n)) (n ∷ []) ++ firsts (n ∷ seen) ns)
      by_test true e again more =
          ap (λ (b : Bool). adding (cond b xs (xs ++ n ∷ [])) ns) e ∙ (again (same_again xs seen n e h) ∙ seen_so true e)
      by_test false e again more =
          ap (λ (b : Bool). adding (cond b xs (xs ++ n ∷ [])) ns) e
          ∙ (more (same_more xs seen n h) ∙ (append_assoc xs (n ∷ []) (firsts (n ∷ seen) ns) ∙ seen_so false e))

pub noted_firsts : (ms : Mentions) → noted [] ms ≡ firsts [] (mentioned_masks ms)
unfolding noted
noted_firsts ms = adding_firsts (mentioned_masks ms) [] [] (λ n. refl)

-- ---- the lemmas that the functions of the numbering share

pub ruleset noting = (noted_none, noted_both, noted_term, noted_view, noted_constraint, noted_terms)

pub ruleset expr_noted = (noting, at_expr)

pub ruleset node_noted = (
  noting,
  at_number,
  at_truth,
  at_null,
  at_this,
  at_variable,
  at_new,
  at_super,
  at_post,
  at_inverse,
  at_negative,
  at_view,
  at_chain,
)

pub ruleset link_noted = (noting, at_link)

pub ruleset suffix_noted = (noting, at_suffix)

pub ruleset stmt_noted = (noting, at_block, at_local, at_assign, at_set, at_do, at_if, at_while, at_return, at_print, at_text)

pub ruleset member_noted = (noting, at_inner, at_slot, at_body)

pub ruleset decl_noted = (noting, at_decl, noted_shared, noted_adapted)

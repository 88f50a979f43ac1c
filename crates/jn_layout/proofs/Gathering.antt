-- Lists that are gathered, thing by thing.
use Rattle.std.proofs.Common.{◌≡◌, ◌≤◌, ◌⊎◌, inl, inr, ℕ, List, [], ◌∷◌, ◌++◌, length, take, Contains, Option, Some, None, sym, subst}
use Rattle.std.proofs.lemmas.List.{take_all}
use Rattle.std.proofs.lemmas.List.Elements.{Contains-push, Contains-push_cases, Contains-append_left}
use Rattle.jn_base.proofs.NameTests.{in_none}
use Rattle.jn_layout.specs.Pairs.{OnlyIs, Gathers}

module _ {A B : Type 0} (Q : A → B → Type 0) where
  pub gathers_none : (out : List B) → out ≡ [] → Gathers Q [] out
  gathers_none out e = record {
    sound = λ x c. absurd (in_none x (subst (λ (xs : List B). Contains xs x) e c));
    complete = λ x d c. absurd (in_none x c);
  }

  pub gathers_skip : (seen now : List A) (x : A) (out : List B) → now ≡ seen ++ x ∷ [] → OnlyIs (Q x) None → Gathers Q seen out → Gathers Q now out
  gathers_skip seen now x out e none g = subst (λ (xs : List A). Gathers Q xs out) (sym e) (record {
    sound = λ d c. let r = g.sound d c in (r.0, Contains-append_left seen (x ∷ []) r.0 r.1, r.2);
    complete = λ y d c q. by_place y d q (Contains-push_cases seen x y c);
  }) where
    by_place : (y : A) (d : B) → Q y d → Contains seen y ⊎ (x ≡ y) → Contains out d
    by_place y d q (inl h) = g.complete y d h q
    by_place y d q (inr h) = absurd (none d (subst (λ (z : A). Q z d) (sym h) q))

  pub gathers_push : (seen now : List A) (x : A) (out after : List B) (d : B) → now ≡ seen ++ x ∷ [] → after ≡ out ++ d ∷ [] → OnlyIs (Q x) (Some d)
      → Gathers Q seen out → Gathers Q now after
  gathers_push seen now x out after d e f only g = subst (λ (xs : List A). Gathers Q xs after) (sym e) (subst (λ (zs : List B). Gathers Q (seen ++ x ∷ []) zs) (sym f) (record {
    sound = λ b c. by_out b (Contains-push_cases out d b c);
    complete = λ y b c q. by_place y b q (Contains-push_cases seen x y c);
  })) where
    by_out : (b : B) → Contains out b ⊎ (d ≡ b) → (y : A) × Contains (seen ++ x ∷ []) y × Q y b
    by_out b (inl h) = let r = g.sound b h in (r.0, Contains-append_left seen (x ∷ []) r.0 r.1, r.2)
    by_out b (inr h) = (x, Contains-push seen x, subst (Q x) h only.0)

    by_place : (y : A) (b : B) → Q y b → Contains seen y ⊎ (x ≡ y) → Contains (out ++ d ∷ []) b
    by_place y b q (inl h) = Contains-append_left out (d ∷ []) b (g.complete y b h q)
    by_place y b q (inr h) =
        let same : b ≡ d = only.1 b (subst (λ (z : A). Q z b) (sym h) q) in
        subst (Contains (out ++ d ∷ [])) (sym same) (Contains-push out d)

  -- by the answer for the thing
  pub gathers_pass : (seen now : List A) (x : A) (out : List B) (o : Option B) → o ≡ None → now ≡ seen ++ x ∷ [] → OnlyIs (Q x) o → Gathers Q seen out → Gathers Q now out
  gathers_pass seen now x out o is e only g = gathers_skip seen now x out e (subst (OnlyIs (Q x)) is only) g

  pub gathers_take : (seen now : List A) (x : A) (out after : List B) (d : B) (o : Option B) → o ≡ Some d → now ≡ seen ++ x ∷ [] → after ≡ out ++ d ∷ [] → OnlyIs (Q x) o
      → Gathers Q seen out → Gathers Q now after
  gathers_take seen now x out after d o is e f only g = gathers_push seen now x out after d e f (subst (OnlyIs (Q x)) is only) g

  pub gathers_all : (xs : List A) (i : ℕ) (out : List B) → length xs ≤ i → Gathers Q (take i xs) out → Gathers Q xs out
  gathers_all xs i out l g = subst (λ (ys : List A). Gathers Q ys out) (take_all i xs l) g

-- What is asked in turn, in a loop over a list.
use Rattle.std.proofs.Common.{◌≡◌, ◌<◌, ◌≤◌, ◌+◌, ℕ, List, ◌∷◌, length, map, refl, sym, ap, ◌∙◌, subst, drop, get_or, Result, Ok, Err}
use Rattle.std.proofs.Math.ListN.{drop_of_length-le}
use Rattle.jn_base.specs.declared.tree.Program.{Program}
use Rattle.jn_base.specs.declared.refusal.Refusal.{Refusal}
use Rattle.jn_rules.specs.Plans.{Plan, Nothing, in_turn}
use Rattle.jn_rules.specs.Questions.{Gives}
use Rattle.jn_rules.proofs.PlanLaws.{then_gives, then_refuses}
use Rattle.jn_heads.specs.declared.fault.CheckFault.{CheckFault}
use Rattle.jn_heads.specs.declared.fault.CheckFault.TheVariants.{Refused, Memory}
use Rattle.jn_heads.specs.Told.{Told, itself}
use Rattle.jn_heads.proofs.Lists.{at_get}

-- what those from i on give, all give
abbrev pub TurnsFrom : {A : Type 0} → Program → (A → Plan Nothing) → List A → ℕ → Type 0
TurnsFrom p f xs i = (o : Result Nothing Refusal) → Gives p (in_turn (map f (drop i xs))) o → Gives p (in_turn (map f xs)) o

pub turns_start : {A : Type 0} (p : Program) (f : A → Plan Nothing) (xs : List A) → TurnsFrom p f xs 0
turns_start p f xs o g = g

module _ {A : Type 0} (p : Program) (f : A → Plan Nothing) (xs : List A) (i : ℕ) (so : TurnsFrom p f xs i) where
  next_is : (x : A) → i < length xs → x ≡ get_or xs i x → drop i xs ≡ x ∷ drop (i + 1) xs
  next_is x l e = at_get xs i x l ∙ ap (λ (y : A). y ∷ drop (i + 1) xs) (sym e)

  pub turns_more : (x : A) → i < length xs → x ≡ get_or xs i x → Gives p (f x) (Ok tt) → TurnsFrom p f xs (i + 1)
  turns_more x l e g o h =
      so o (subst (λ (ys : List A). Gives p (in_turn (map f ys)) o) (sym (next_is x l e)) (then_gives p (f x) (λ u. in_turn (map f (drop (i + 1) xs))) tt o g h))

  pub turns_fail : (x : A) (fault : CheckFault) → i < length xs → x ≡ get_or xs i x → Told {B = Nothing} (Gives p (f x)) itself (Err fault)
      → Told {B = Nothing} (Gives p (in_turn (map f xs))) itself (Err fault)
  turns_fail x (Refused r) l e g =
      so (Err r) (subst (λ (ys : List A). Gives p (in_turn (map f ys)) (Err r)) (sym (next_is x l e)) (then_refuses p (f x) (λ u. in_turn (map f (drop (i + 1) xs))) r g))
  turns_fail x Memory l e g = tt

  pub turns_done : length xs ≤ i → Gives p (in_turn (map f xs)) (Ok tt)
  turns_done l = so (Ok tt) (subst (λ (ys : List A). Gives p (in_turn (map f ys)) (Ok tt)) (sym (drop_of_length-le xs l)) refl)

  -- the same, where the next one is read
  pub turns_more_at : (d : A) → i < length xs → Gives p (f (get_or xs i d)) (Ok tt) → TurnsFrom p f xs (i + 1)
  turns_more_at d l g o h =
      so o (subst (λ (ys : List A). Gives p (in_turn (map f ys)) o) (sym (at_get xs i d l)) (then_gives p (f (get_or xs i d)) (λ u. in_turn (map f (drop (i + 1) xs))) tt o g h))

  pub turns_fail_at : (d : A) (fault : CheckFault) → i < length xs → Told {B = Nothing} (Gives p (f (get_or xs i d))) itself (Err fault)
      → Told {B = Nothing} (Gives p (in_turn (map f xs))) itself (Err fault)
  turns_fail_at d (Refused r) l g =
      so (Err r) (subst (λ (ys : List A). Gives p (in_turn (map f ys)) (Err r)) (sym (at_get xs i d l)) (then_refuses p (f (get_or xs i d)) (λ u. in_turn (map f (drop (i + 1) xs))) r g))
  turns_fail_at d Memory l g = tt

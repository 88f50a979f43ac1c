-- What the parts of a plan note.
use Rattle.std.proofs.Common.{◌≡◌, List, [], ◌∷◌, ◌++◌, Bool, true, false, Option, Some, None, refl, sym, ap, ◌∙◌}
use Rattle.std.specs.Prelude.{Result, Ok, Err, cond, ◌&&◌}
use Rattle.jn_base.specs.declared.tree.Constraint.{Constraint}
use Rattle.jn_base.specs.declared.tree.Program.{Program}
use Rattle.jn_base.specs.declared.types.Ty.{Ty}
use Rattle.jn_base.specs.declared.types.Ty.TheVariants as ty
use Rattle.jn_base.specs.declared.types.ValKind.{ValKind}
use Rattle.jn_base.specs.declared.types.ValKind.TheVariants as kind
use Rattle.jn_base.specs.declared.refusal.Refusal.{Refusal}
use Rattle.jn_base.specs.Scopes.{Scope}
use Rattle.jn_base.specs.Resolve.{is_class}
use Rattle.jn_rules.specs.Plans.{Pledge, Target, Grants, EitherMasks, Mark, KindMark, Plan, done, ask, then_do, wants, taken, found_or}
use Rattle.jn_rules.specs.Questions.{Notes, masks_of}
use Rattle.jn_rules.specs.Exprs.{Here, Typed, kind_of, note_kind, gives, one_grants}
use Rattle.jn_rules.specs.Stmts.{joined_type, joined, remasked}
use Rattle.jn_rules.proofs.PlanLaws.{then_noted}
use Rattle.jn_agree.specs.Rows.{kind_of_type}
use Rattle.jn_lower.specs.Walks.{kind_number}

-- ---- tests, and what was resolved or found

pub record WasWanted {A : Type 0} (p : Program) (t : Bool) (go : Plan A) (ms : List Mark) (a : A) : Type 0 where
  pub test : t ≡ true
  pub then : Notes p go ms a

pub wants_noted : {A : Type 0} {p : Program} (t : Bool) (r : Refusal) (go : Plan A) (ms : List Mark) (a : A)
    → Notes p (wants t r go) ms a → WasWanted p t go ms a
wants_noted true r go ms a g = record { test = refl; then = g }
wants_noted false r go ms a g = absurd g

pub record WasTaken {A B : Type 0} (p : Program) (x : Result A Refusal) (go : A → Plan B) (ms : List Mark) (b : B)
    : Type 0 where
  pub given : A
  pub is : x ≡ Ok given
  pub then : Notes p (go given) ms b

pub taken_noted : {A B : Type 0} {p : Program} (x : Result A Refusal) (go : A → Plan B) (ms : List Mark) (b : B)
    → Notes p (taken go x) ms b → WasTaken p x go ms b
taken_noted (Ok a) go ms b g = record { given = a; is = refl; then = g }
taken_noted (Err r) go ms b g = absurd g

pub record WasFound {A B : Type 0} (p : Program) (x : Option A) (go : A → Plan B) (ms : List Mark) (b : B)
    : Type 0 where
  pub given : A
  pub is : x ≡ Some given
  pub then : Notes p (go given) ms b

pub found_noted : {A B : Type 0} {p : Program} (x : Option A) (r : Refusal) (go : A → Plan B) (ms : List Mark) (b : B)
    → Notes p (found_or r go x) ms b → WasFound p x go ms b
found_noted (Some a) r go ms b g = record { given = a; is = refl; then = g }
found_noted None r go ms b g = absurd g

-- ---- kinds

-- one kind was noted, and this was given
pub record GaveOne (k : ValKind) (x z : Typed) (ms : List Mark) : Type 0 where
  pub marks : ms ≡ KindMark k ∷ []
  pub typed : z ≡ x

one_some : {j k : ValKind} → ◌≡◌ {A = Option ValKind} (Some j) (Some k) → j ≡ k
one_some e = cc

no_some : {k : ValKind} → ◌≡◌ {A = Option ValKind} None (Some k) → ⊥
no_some e = cc

kind_noted : (p : Program) (o : Option ValKind) (k : ValKind) (x z : Typed) (ms : List Mark) → o ≡ Some k
    → Notes p (note_kind o (done x)) ms z → GaveOne k x z ms
kind_noted p (Some j) k x z ms e g = record {
  marks = g.1 ∙ ap (λ (l : List Mark). KindMark j ∷ l) g.2.0 ∙ ap (λ (i : ValKind). KindMark i ∷ []) (one_some e);
  typed = g.2.1;
}
kind_noted p None k x z ms e g = absurd (no_some e)

pub gives_noted : (p : Program) (k : ValKind) (x z : Typed) (ms : List Mark) → kind_of x.ty ≡ Some k
    → Notes p (gives x) ms z → GaveOne k x z ms
gives_noted p k x z ms e g = kind_noted p (kind_of x.ty) k x z ms e g

-- the kind that is noted is that of the type
pub kinds_agree : (t : Ty) (k : ValKind) → kind_of t ≡ Some k → kind_number k ≡ kind_of_type t
kinds_agree ty.Int k e = ap kind_number (sym (one_some e))
kinds_agree ty.Bool k e = ap kind_number (sym (one_some e))
kinds_agree ty.Null k e = ap kind_number (sym (one_some e))
kinds_agree ty.Void k e = absurd (no_some e)
kinds_agree (ty.Class xs m) k e = ap kind_number (sym (one_some e))

-- each type but `void` has a kind
pub valued : (t : Ty) → (t ≡ ty.Void → ⊥) → (k : ValKind) × (kind_of t ≡ Some k)
valued ty.Int f = (kind.Int, refl)
valued ty.Bool f = (kind.Bool, refl)
valued ty.Null f = (kind.Reference, refl)
valued ty.Void f = absurd (f refl)
valued (ty.Class xs m) f = (kind.Reference, refl)

-- ---- what notes nothing

-- whether a header grants something
pub grants_silent : (p : Program) (h : Here) (cs : List Constraint) (s : Scope) (t : Ty) (u : Target)
    (ms : List Mark) (b : Bool) → Notes p (one_grants h cs s t u) ms b → ms ≡ []
grants_silent p h [] s t u ms b g = g.0
grants_silent p h (c ∷ cs) s t u ms b g =
    let x = taken_noted g.0 (λ (x : Pledge). ask (Grants s x t u) (λ ok. cond ok (done true) (one_grants h cs s t u))) ms b g.2 in
    at x.then.0 x.then.2 (grants_silent p h cs s t u ms b) where
      at : (ok : Bool) → Notes p (cond ok (done true) (one_grants h cs s t u)) ms b
          → (Notes p (one_grants h cs s t u) ms b → ms ≡ []) → ms ≡ []
      at true g f = g.0
      at false g f = f g

-- the masks of two ends
joined_type_silent : (p : Program) (t u v : Ty) (ms : List Mark) → Notes p (joined_type t u) ms v → ms ≡ []
joined_type_silent p t u v ms g = at (is_class t && is_class u) g where
  at : (b : Bool)
      → Notes p (cond b (ask (EitherMasks (masks_of t) (masks_of u)) (λ m. done (remasked m t))) (done t)) ms v
      → ms ≡ []
  at true g = g.2.0
  at false g = g.0

pub joined_silent : (p : Program) (s t v : Scope) (ms : List Mark) → Notes p (joined s t) ms v → ms ≡ []
joined_silent p [] t v ms g = g.0
joined_silent p (b ∷ s) [] v ms g = g.0
joined_silent p (b ∷ s) (c ∷ t) v ms g =
    let x = then_noted (joined_type b.ty c.ty) (λ u. then_do (joined s t) (λ v. done (record b { ty = u } ∷ v))) ms v g in
    let y = then_noted (joined s t) (λ v. done (record b { ty = x.first } ∷ v)) x.after v x.then in
    let one = joined_type_silent p b.ty c.ty x.first x.before x.noted in
    let two = joined_silent p s t y.first y.before y.noted in
    x.all ∙ ap (λ (l : List Mark). l ++ x.after) one ∙ y.all ∙ ap (λ (l : List Mark). l ++ y.after) two ∙ y.then.0

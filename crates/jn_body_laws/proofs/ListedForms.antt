-- What is used in a statement, one level deep, and in a list of statements.
use Rattle.std.proofs.Common.{◌≡◌, List, [], ◌∷◌, ◌++◌, map, sym, ap, ◌∙◌, subst, ◌⊎◌, inl, inr, Contains}
use Rattle.std.proofs.lemmas.List.Elements.{Contains-append_left, Contains-append_right, Contains-append_cases}
use Rattle.jn_base.specs.declared.tree.Program.{Program}
use Rattle.jn_base.specs.declared.tree.Stmt.{Stmt, out-Stmt, roll-Stmt}
use Rattle.jn_base.specs.declared.tree.Stmt.TheOpen.{Stmt-F}
use Rattle.jn_base.specs.declared.tree.Stmt.TheFolds.{map-Stmt, fold_out-Stmt, fold-roll-Stmt}
use Rattle.jn_base.specs.Forms.{all_of}
use Rattle.jn_base.specs.Atoms.{Among, first, later}
use Rattle.jn_base.proofs.NameTests.{in_cons, in_none}
use Rattle.jn_body_laws.specs.BodyForms.{Use, uses_step, uses, UseFormed}

-- what stands in one of them stands in all
pub in_all : {A B : Type 0} (f : A → List B) (ss : List A) (s : A) (x : B) → Among ss s → Contains (f s) x
    → Contains (all_of (map f ss)) x
in_all f _ s x (first {xs = ss}) c = Contains-append_left (f s) (all_of (map f ss)) x c
in_all f _ s x (later {y = y} {xs = ss} m) c =
    Contains-append_right (f y) (all_of (map f ss)) x (in_all f ss s x m c)

pub uses_from : (s : Stmt) (f : Stmt-F Stmt) → out-Stmt s ≡ f → uses s ≡ uses_step (map-Stmt Stmt (List Use) uses f)
unfolding uses
uses_from s f e =
    fold_out-Stmt (List Use) uses_step s
    ∙ ap (λ (x : Stmt-F Stmt). uses_step (map-Stmt Stmt (List Use) uses x)) e

pub uses_rolled : (f : Stmt-F Stmt) (s : Stmt) → roll-Stmt f ≡ s → uses s ≡ uses_step
    (map-Stmt Stmt (List Use) uses f)
unfolding uses
uses_rolled f s e = ap uses (sym e) ∙ fold-roll-Stmt (List Use) uses_step f

-- each of these is formed
abbrev pub UsesFormed : Program → List Use → Type 0
UsesFormed p us = (u : Use) → Contains us u → UseFormed p u

pub no_uses : (p : Program) → UsesFormed p []
no_uses p u c = absurd (in_none u c)

pub one_use : (p : Program) (v : Use) → UseFormed p v → UsesFormed p (v ∷ [])
one_use p v h u c = at (in_cons v [] u c) where
  at : (v ≡ u) ⊎ Contains [] u → UseFormed p u
  at (inl e) = subst (UseFormed p) e h
  at (inr n) = absurd (in_none u n)

pub both_uses : (p : Program) (xs ys : List Use) → UsesFormed p xs → UsesFormed p ys → UsesFormed p (xs ++ ys)
both_uses p xs ys h k u c = at (Contains-append_cases xs ys u c) where
  at : Contains xs u ⊎ Contains ys u → UseFormed p u
  at (inl a) = h u a
  at (inr b) = k u b

pub uses_by : (p : Program) (s : Stmt) (us : List Use) → uses s ≡ us → UsesFormed p us → UsesFormed p (uses s)
uses_by p s us e h = subst (UsesFormed p) (sym e) h

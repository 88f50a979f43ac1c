-- What a search for names tells, step by step.
use Rattle.std.proofs.Common.{◌≡◌, ℕ, List, [], ◌∷◌, Some, None, Ok, Err, drop, subst, refl, sym, ap, length, arith, Result}
use Rattle.jn_base.specs.declared.tree.Name.{Name}
use Rattle.jn_base.specs.declared.tree.Program.{Program}
use Rattle.jn_base.specs.Paths.{Path}
use Rattle.jn_base.specs.Resolve.{FirstUnknown, FoundOut, FoundNowhere, FirstSought, nowhere, found, Sought}

pub first_found : (p : Program) (Q : Path) (N : Name) (ns : List Name) (k : ℕ) (B : Path) → B ≡ N ∷ drop k Q → FoundOut p Q N k
    → FirstUnknown p B ns None → FirstSought p Q N ns (Ok k)
first_found p Q N ns k B e f h = found k None f (subst (λ (C : Path). FirstUnknown p C ns None) e h) refl

pub first_lost : (p : Program) (Q : Path) (N M : Name) (ns : List Name) (k : ℕ) (B : Path) → B ≡ N ∷ drop k Q → FoundOut p Q N k
    → FirstUnknown p B ns (Some M) → FirstSought p Q N ns (Err M)
first_lost p Q N M ns k B e f h = found k (Some M) f (subst (λ (C : Path). FirstUnknown p C ns (Some M)) e h) refl

pub sought_nowhere : (p : Program) (Q : Path) (N : Name) (ns : List Name) → FoundNowhere p Q N → FirstSought p Q N ns (Err N)
sought_nowhere p Q N ns n = nowhere n refl

pub none_sought : (p : Program) (Q : Path) (ns : List Name) (d : ℕ) → length ns ≡ 0 → d ≡ length Q → Sought p Q ns (Ok d)
none_sought p Q [] d e h = ap Ok h
none_sought p Q (n ∷ ns) d e h = absurd (omega (arith, e))

pub as_sought : (p : Program) (Q : Path) (N : Name) (rest ns : List Name) (o : Result ℕ Name) → ns ≡ N ∷ rest
    → FirstSought p Q N rest o → Sought p Q ns o
as_sought p Q N rest ns o e h = subst (λ (xs : List Name). Sought p Q xs o) (sym e) h

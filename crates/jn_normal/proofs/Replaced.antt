-- An atom in another's place, as the code makes it.
use Rattle.std.proofs.Common.{◌≡◌, ◌<◌, ◌≤◌, ◌-◌, ◌++◌, ℕ, Bool, true, false, List, cond, nat_lt, length, take, drop, reverse, sym, ap, ◌∙◌, arith, append_assoc}
use Rattle.std.proofs.lemmas.List.{reverse-append, length-reverse}
use Rattle.std.proofs.lemmas.Bool.Decides.{nat_tests}
use Rattle.jn_base.specs.declared.tree.Name.{Name}
use Rattle.jn_base.specs.declared.types.Atom.{Atom as ShownAtom}
use Rattle.jn_base.specs.Atoms.{Atom, atom, atom_of}
use Rattle.jn_sem.specs.Widening.{reduced, replaced}
use Rattle.jn_sem.proofs.Codes.{kept_is}

by_test : (z x : Atom) (k : ℕ) (b : Bool) → nat_lt k (length z.names) ≡ b
    → replaced z k x ≡ cond b (atom z.anchor z.exact ((x.names ++ x.exact) ++ drop k z.names)) (reduced z k x)
by_test z x k b e = ap (λ (c : Bool). cond c (atom z.anchor z.exact ((x.names ++ x.exact) ++ drop k z.names)) (reduced z k x)) e

few : (k n : ℕ) → n ≤ k → nat_lt k n ≡ false
few k n l = grind (arith, nat_tests)

many : (k n : ℕ) → k < n → nat_lt k n ≡ true
many k n l = grind (arith, nat_tests)

-- by an atom of at most k inexact names
pub replaced_few : (z : ShownAtom) (k : ℕ) (x : Atom) → length z.names ≤ k → replaced (atom_of z) k x ≡ reduced (atom_of z) k x
replaced_few z k x l = by_test (atom_of z) x k false (few k (length (reverse z.names)) (omega (arith, l, length-reverse z.names)))

-- and by one of more
pub replaced_many : (z x : ShownAtom) (k kept : ℕ) (outer ns es : List Name) → k < length z.names → kept ≡ length z.names - k
    → outer ≡ take kept z.names ++ x.exact → ns ≡ outer ++ x.names → es ≡ z.exact
    → atom z.anchor (reverse es) (reverse ns) ≡ replaced (atom_of z) k (atom_of x)
replaced_many z x k kept outer ns es l n o a e =
    let back : reverse outer ≡ reverse x.exact ++ drop k (reverse z.names) =
    ap reverse o ∙ reverse-append (take kept z.names) x.exact ∙ ap (λ (t : List Name). reverse x.exact ++ t) (kept_is kept k z.names n) in
    let names : reverse ns ≡ (reverse x.names ++ reverse x.exact) ++ drop k (reverse z.names) =
    ap reverse a ∙ reverse-append outer x.names ∙ ap (λ (t : List Name). reverse x.names ++ t) back
    ∙ sym (append_assoc (reverse x.names) (reverse x.exact) (drop k (reverse z.names))) in
    ap (λ (t : List Name). atom z.anchor (reverse t) (reverse ns)) e
    ∙ ap (λ (t : List Name). atom z.anchor (reverse z.exact) t) names
    ∙ sym (by_test (atom_of z) (atom_of x) k true (many k (length (reverse z.names)) (omega (arith, l, length-reverse z.names))))

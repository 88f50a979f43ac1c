-- Types, term by term.
use Rattle.std.proofs.Common.{◌≡◌, ◌<◌, ◌≤◌, ◌+◌, ℕ, suc, List, [], ◌∷◌, ◌++◌, length, take, drop, get_or, Ok, Err}
use Rattle.std.proofs.Common.{Result, ◌⊎◌, inl, inr, refl, sym, ap, ◌∙◌, subst, arith, Contains}
use Rattle.std.proofs.lemmas.List.{append-nil, append_assoc, get_or_default}
use Rattle.jn_base.proofs.NameTests.{in_cons, in_none}
use Rattle.std.proofs.Math.ListN.{drop_of_length-le}
use Rattle.jn_base.specs.declared.tree.Name.{Name}
use Rattle.jn_base.specs.declared.tree.Named.{Named}
use Rattle.jn_base.specs.declared.tree.Term.{Term}
use Rattle.jn_base.specs.declared.tree.Program.{Program}
use Rattle.jn_base.specs.declared.types.Atom.{Atom as ShownAtom}
use Rattle.jn_base.specs.declared.types.Ty.{Ty}
use Rattle.jn_base.specs.declared.names.Spot.{Spot}
use Rattle.jn_base.specs.declared.names.Vars.{Vars}
use Rattle.jn_base.specs.declared.refusal.Refusal.{Refusal}
use Rattle.jn_base.specs.Paths.{Path}
use Rattle.std.proofs.lemmas.Option.{slice_get_read}
use Rattle.jn_base.specs.declared.names.Var.{Var}
use Rattle.jn_base.specs.Atoms.{atom_at, atom_of}
use Rattle.jn_base.specs.Scopes.{bound_of}
use Rattle.jn_names.specs.Scoped.{scope_from}
use Rattle.jn_base.specs.Resolve.{class_of, Resolve, bound_at}
use Rattle.jn_base.specs.ResolveTypes.{before_all, ResolveAll, none, refused, first, bounds_at, OneDepth, may_mask}
use Rattle.jn_base.specs.ResolveTypes.{MasksGive, one, ResolveClass}
use Rattle.jn_names.proofs.Turned.{at_index}
use Rattle.jn_names.proofs.ScopedProof.{take_one}

-- the atoms so far, and what the other terms give
abbrev pub joined_to : List ShownAtom → Result (List ShownAtom) Refusal → Result (List ShownAtom) Refusal
joined_to xs (Err r) = Err r
joined_to xs (Ok ys) = Ok (xs ++ ys)

joined_more : (xs : List ShownAtom) (x : ShownAtom) (o : Result (List ShownAtom) Refusal)
    → joined_to xs (before_all x o) ≡ joined_to (xs ++ x ∷ []) o
joined_more xs x (Err r) = refl
joined_more xs x (Ok ys) = ap Ok (sym (append_assoc xs (x ∷ []) ys))

module _ (p : Program) (spot : Spot) (vars : Vars) (ts : List Term) where
  -- what the atoms of the first n terms leave to show
  abbrev pub AtomsTo : ℕ → List ShownAtom → Type 0
  AtomsTo n xs =
      (o : Result (List ShownAtom) Refusal) → ResolveAll p spot vars (drop n ts) o
      → ResolveAll p spot vars ts (joined_to xs o)

  pub atoms_start : AtomsTo 0 []
  atoms_start o h = by_answer o h where
    by_answer : (o : Result (List ShownAtom) Refusal) → ResolveAll p spot vars ts o → ResolveAll p spot vars ts (joined_to [] o)
    by_answer (Err r) h = h
    by_answer (Ok ys) h = h

  pub atoms_more : (n : ℕ) (t : Term) (xs : List ShownAtom) (x : ShownAtom) → n < length ts → t ≡ get_or ts n t → AtomsTo n xs
      → Resolve p spot vars t (Ok x) → AtomsTo (n + 1) (xs ++ x ∷ [])
  atoms_more n t xs x l e k r o h =
      subst (ResolveAll p spot vars ts) (joined_more xs x o)
      (k (before_all x o) (subst (λ (us : List Term). ResolveAll p spot vars us (before_all x o))
      (sym (at_index ts n t l e)) (first x o r h refl)))

  pub atoms_refused : (n : ℕ) (t : Term) (xs : List ShownAtom) (r : Refusal) → n < length ts → t ≡ get_or ts n t → AtomsTo n xs
      → Resolve p spot vars t (Err r) → ResolveAll p spot vars ts (Err r)
  atoms_refused n t xs r l e k h =
      k (Err r) (subst (λ (us : List Term). ResolveAll p spot vars us (Err r)) (sym (at_index ts n t l e)) (refused r h refl))

  pub atoms_all : (n : ℕ) (xs : List ShownAtom) → length ts ≤ n → AtomsTo n xs → ResolveAll p spot vars ts (Ok xs)
  atoms_all n xs l k =
      subst (λ (ys : List ShownAtom). ResolveAll p spot vars ts (Ok ys)) (append-nil xs)
      (k (Ok []) (subst (λ (us : List Term). ResolveAll p spot vars us (Ok [])) (sym (drop_of_length-le ts l)) (none refl)))

-- as many atoms as terms
pub all_long : (p : Program) (spot : Spot) (vars : Vars) (ts : List Term) (xs : List ShownAtom)
    (o : Result (List ShownAtom) Refusal)
    → ResolveAll p spot vars ts o → o ≡ Ok xs → length xs ≡ length ts
all_long p spot vars [] xs o (none e) h =
    let k : ◌≡◌ {A = Result (List ShownAtom) Refusal} (Ok []) (Ok xs) = sym e ∙ h in
    let l : [] ≡ xs = cc in
    ap length (sym l)
all_long p spot vars (t ∷ ts) xs o (refused r k e) h =
    absurd (let l : ◌≡◌ {A = Result (List ShownAtom) Refusal} (Err r) (Ok xs) = sym e ∙ h in cc)
all_long p spot vars (t ∷ ts) xs o (first x others k l e) h =
    by_others others (λ ys i. all_long p spot vars ts ys others l i) (sym e ∙ h) where
      by_others : (q : Result (List ShownAtom) Refusal) → ((ys : List ShownAtom) → q ≡ Ok ys → length ys ≡ length ts)
          → before_all x q ≡ Ok xs → length xs ≡ suc (length ts)
      by_others (Err r) f i = absurd (cc i)
      by_others (Ok ys) f i = let j : (x ∷ ys) ≡ xs = cc i in ap length (sym j) ∙ ap suc (f ys refl)

pub bounds_long : (spot : Spot) (vars : Vars) (xs : List ShownAtom) → length (bounds_at spot vars xs) ≡ length xs
bounds_long spot vars [] = refl
bounds_long spot vars (x ∷ xs) = ap suc (bounds_long spot vars xs)

pub bounds_both : (spot : Spot) (vars : Vars) (xs ys : List ShownAtom)
    → bounds_at spot vars (xs ++ ys) ≡ bounds_at spot vars xs ++ bounds_at spot vars ys
bounds_both spot vars [] ys = refl
bounds_both spot vars (x ∷ xs) ys = ap (λ (bs : List Path). bound_at spot vars x ∷ bs) (bounds_both spot vars xs ys)

-- ---- depths

-- each of the first n bounds is as deep as the first of all
abbrev pub DeepTo : List Path → ℕ → Type 0
DeepTo bs n = (k : ℕ) → k < n → length (get_or bs k []) ≡ length (get_or bs 0 [])

pub deep_one : (bs : List Path) (n : ℕ) → length bs ≤ n → DeepTo bs n → OneDepth bs
deep_one bs n l h B C b c = at_first B b ∙ sym (at_first C c) where
  at_first : (D : Path) → Contains bs D → length D ≡ length (get_or bs 0 [])
  at_first D d = ap length (sym d.2 ∙ get_or_default bs d.0 D [] d.1) ∙ h d.0 (omega (arith, d.1, l))

pub not_deep : (bs : List Path) (i : ℕ) → i < length bs → (length (get_or bs i []) ≡ length (get_or bs 0 []) → ⊥)
    → OneDepth bs → ⊥
not_deep bs i l n h =
    n (h (get_or bs i []) (get_or bs 0 []) (i, l, get_or_default bs i (get_or bs i []) [] l)
    (0, omega arith, get_or_default bs 0 (get_or bs 0 []) [] (omega arith)))

pub single_depth : (A : Path) → OneDepth (A ∷ [])
single_depth A = λ B C b c. sym (ap length (at_it B b)) ∙ ap length (at_it C c) where
  at_it : (D : Path) → Contains (A ∷ []) D → A ≡ D
  at_it D d = by_place (in_cons A [] D d) where
    by_place : (A ≡ D) ⊎ Contains [] D → A ≡ D
    by_place (inl e) = e
    by_place (inr e) = absurd (in_none D e)

pub two_long : (bs : List Path) → (OneDepth bs → ⊥) → 1 < length bs
two_long [] n = absurd (n (λ B C b c. absurd (in_none B b)))
two_long (B ∷ []) n = absurd (n (single_depth B))
two_long (B ∷ C ∷ bs) n = omega arith

-- a second term is there
pub record Seconds (ts : List Term) (two : Term) : Type 0 where
  pub one : Term
  pub others : List Term
  pub is : ts ≡ one ∷ two ∷ others

pub second_of : (ts : List Term) (d : Term) → 1 < length ts → Seconds ts (get_or ts 1 d)
second_of [] d l = absurd (omega arith)
second_of (t ∷ []) d l = absurd (omega arith)
second_of (t ∷ u ∷ us) d l = record { one = t; others = us; is = refl }

-- ---- bounds

pub bounds_more : (spot : Spot) (vars : Vars) (xs : List ShownAtom) (i : ℕ) (x : ShownAtom) (bs cs : List Path)
    (b : Path) → i < length xs → x ≡ get_or xs i x
    → bs ≡ bounds_at spot vars (take i xs) → b ≡ bound_at spot vars x → cs ≡ bs ++ b ∷ []
    → cs ≡ bounds_at spot vars (take (i + 1) xs)
bounds_more spot vars xs i x bs cs b l e h k q =
    q ∙ (ap (λ (ys : List Path). ys ++ b ∷ []) h ∙ (ap (λ (B : Path). bounds_at spot vars (take i xs) ++ B ∷ []) k
    ∙ (sym (bounds_both spot vars (take i xs) (x ∷ []))
    ∙ ap (bounds_at spot vars) (sym (take_one xs i x (slice_get_read xs (length xs) i x refl l e))))))

pub bound_is : (spot : Spot) (vars : Vars) (x : ShownAtom) (Q b : Path) (vs : List Var) → Q ≡ class_of spot → vs ≡ vars.list
    → b ≡ atom_at (bound_of (scope_from Q vs)) (atom_of x) → b ≡ bound_at spot vars x
bound_is spot vars x Q b vs e h k =
    k ∙ (ap (λ (P : Path). atom_at (bound_of (scope_from P vs)) (atom_of x)) e
    ∙ ap (λ (ws : List Var). atom_at (bound_of (scope_from (class_of spot) ws)) (atom_of x)) h)

-- ---- a view

pub view_given : (p : Program) (names : List Name) (spot : Spot) (vars : Vars) (t : Term) (ms : List Named)
    (x : ShownAtom) (o : Result Ty Refusal)
    → Resolve p spot vars t (Ok x) → MasksGive p names spot (bounds_at spot vars (x ∷ [])) (x ∷ []) ms (may_mask spot.role) o
    → ResolveClass p names spot vars (t ∷ []) ms o
view_given p names spot vars t ms x o r h = record {
  atoms = Ok (x ∷ []);
  all = first x (Ok []) r (none refl) refl;
  gives = one (single_depth (bound_at spot vars x)) h;
}

pub view_refused : (p : Program) (names : List Name) (spot : Spot) (vars : Vars) (t : Term) (ms : List Named) (r : Refusal)
    → Resolve p spot vars t (Err r) → ResolveClass p names spot vars (t ∷ []) ms (Err r)
view_refused p names spot vars t ms r h = record { atoms = Err r; all = refused r h refl; gives = refl }

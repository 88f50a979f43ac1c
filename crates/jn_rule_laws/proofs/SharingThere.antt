-- Whether a sharing holds surely has an answer: what refutes it has a first one.
use Rattle.std.proofs.Common.{◌≡◌, List, [], ◌∷◌, ◌++◌, refl, sym, ap, ◌∙◌, subst, map, Some, None}
use Rattle.std.proofs.lemmas.List.{append-nil}
use Rattle.jn_base.specs.declared.tree.Name.{Name}
use Rattle.jn_base.specs.declared.tree.Program.{Program}
use Rattle.jn_base.specs.declared.types.Anchor.{Anchor}
use Rattle.jn_base.specs.declared.types.Anchor.TheVariants.{Root}
use Rattle.jn_base.specs.declared.types.Ty.{Ty}
use Rattle.jn_base.specs.Paths.{Path}
use Rattle.jn_base.specs.Universe.{InUniverse}
use Rattle.jn_base.specs.ClassOrder.{IsFirst}
use Rattle.jn_base.specs.Atoms.{Atom, atom, atoms_in, anchor_at, Among, first, later}
use Rattle.jn_base.specs.Scopes.{Scope, bound_of, bound}
use Rattle.jn_sem.specs.Values.{HasField}
use Rattle.jn_sem.specs.RootClosure.{Opens, closed, through, InClosure}
use Rattle.jn_sem.specs.Sets.{InAtoms, no_views}
use Rattle.jn_sem.specs.Sharing.{IsClass}
use Rattle.jn_sem.specs.Holds.{Sides, Turns, Passes, IsGranted, Holds, Fails, Blocks, no_counterpart, unshared}
use Rattle.jn_sem.proofs.FindingLaws.{among_of, contains_of}
use Rattle.jn_rules.specs.Plans.{Target, Sharing, Holding, Refuted}
use Rattle.jn_rules.specs.Questions.{masks_of, IsClosure, sides, HoldsOr, SharingGives}
use Rattle.jn_laws.specs.Surely.{Surely}
use Rattle.jn_laws.proofs.Sures.{map_surely, surely_each}
use Rattle.jn_laws.proofs.Lists.{listed, among_left, among_right, among_map}
use Rattle.jn_laws.proofs.Declarations.{field_names}
use Rattle.jn_laws.proofs.Universes.{candidates, universe_candidate, first_path, first_name, has_field_name}
use Rattle.jn_rule_laws.proofs.ResolveThere.{by_cases}

-- ---- the root closure is a list

-- a path cut in two, in each way
cuts : Path → List (Path × Path)
cuts [] = ([], []) ∷ []
cuts (C ∷ P) = ([], C ∷ P) ∷ map (λ c. (C ∷ c.0, c.1)) (cuts P)

cut_there : (ns es : Path) → Among (cuts (ns ++ es)) (ns, es)
unfolding cuts
cut_there [] [] = first
cut_there [] (C ∷ P) = first
cut_there (C ∷ ns) es = later (among_map (λ c. (C ∷ c.0, c.1)) (cuts (ns ++ es)) (ns, es) (cut_there ns es))

root_atom : Path × Path → Atom
root_atom c = atom Root c.1 c.0

root_atoms : List Path → List Atom
root_atoms [] = []
root_atoms (R ∷ Rs) = map root_atom (cuts R) ++ root_atoms Rs

root_there : (Rs : List Path) (U ns es : Path) → Among Rs U → U ≡ ns ++ es → Among (root_atoms Rs) (atom Root es ns)
unfolding root_atoms root_atom
root_there [] U ns es m e = elim m [ ]
root_there (R ∷ Rs) _ ns es first e =
    among_left (map root_atom (cuts R)) (root_atoms Rs)
    (among_map root_atom (cuts R) (ns, es) (subst (λ (U : Path). Among (cuts U) (ns, es)) (sym e) (cut_there ns es)))
root_there (R ∷ Rs) U ns es (later m) e = among_right (map root_atom (cuts R)) (root_atoms Rs) (root_there Rs U ns es m e)

opens_root : {p : Program} {s : Scope} {x z : Atom} → Opens p s x z → (z.anchor ≡ Root) × InUniverse p (bound s z)
opens_root (closed e u) = (e, u)
opens_root (through b k w u a e m o) = opens_root o

as_root : (z : Atom) → z.anchor ≡ Root → z ≡ atom Root z.exact z.names
as_root z e i = record { anchor = e i; exact = z.exact; names = z.names }

bound_root : (s : Scope) (z : Atom) → z.anchor ≡ Root → bound s z ≡ z.names ++ z.exact
bound_root s z e =
    ap (λ (a : Anchor). z.names ++ (z.exact ++ anchor_at (bound_of s) a)) e ∙ ap (λ (P : Path). z.names ++ P) (append-nil z.exact)

closure_candidate : (p : Program) (s : Scope) (xs : List Atom) (z : Atom) → InClosure p s xs z → Among (root_atoms (candidates p)) z
closure_candidate p s xs z c =
    let r = opens_root c.opens in
    let u : InUniverse p (z.names ++ z.exact) = subst (InUniverse p) (bound_root s z r.0) r.1 in
    subst (Among (root_atoms (candidates p))) (sym (as_root z r.0))
    (root_there (candidates p) (z.names ++ z.exact) z.names z.exact (universe_candidate p (z.names ++ z.exact) u) refl)

pub closure_there : (p : Program) (s : Scope) (t : Ty) → Surely ((xs : List Atom) × IsClosure p s t xs)
closure_there p s t =
    map_surely (listed (InClosure p s (atoms_in t)) (root_atoms (candidates p)) (closure_candidate p s (atoms_in t)))
    (λ l. (l.items, record { exact = λ z. (λ m. (l.exact z).0 (contains_of l.items z m), λ c. among_of l.items z ((l.exact z).1 c)) }))

-- ---- what refutes a sharing

module _ (p : Program) (c : Sides) where
  field_passes : (U W : Path) → ((f : Name) → Blocks p c U W f → ⊥) → (f : Name) → Surely (HasField p W f → Passes p c U W f)
  field_passes U W none f deny =
      by_cases (λ (y : Passes p c U W f). deny (λ h. y))
      (λ n. by_cases (λ (h : HasField p W f). none f (record { has = h; refused = n })) (λ no. deny (λ h. absurd (no h))))

  -- where a view turns and isn't granted, some field blocks it
  blocking_there : (U W : Path) → Turns p c U W → (IsGranted p c U → ⊥) → Surely ((f : Name) × Blocks p c U W f)
  blocking_there U W t refused deny =
      surely_each (field_names p) (λ f m. field_passes U W (λ g b. deny (g, b)) f)
      (λ all. refused (record { view = W; turns = t; fields = λ f h. all f (has_field_name p W f h) h }))

  refuted_there : (U : Path) → IsFirst p (Fails p c) U → Surely ((o : Sharing) × HoldsOr p c o)
  refuted_there U i deny = by_cases turns (λ n. deny (Refuted U None, no_counterpart U i (λ W t. n (W, t)) refl refl)) where
    turns : (W : Path) × Turns p c U W → ⊥
    turns t =
        blocking_there U t.0 t.1 i.holds.refused (λ b.
        first_name p (Blocks p c U t.0) (field_names p) (λ f h. has_field_name p t.0 f h.has) b.0 b.1 (λ n.
        deny (Refuted t.0 (Some n.0), unshared U t.0 n.0 i t.1 n.1 refl refl)))

  granted_all : ((U : Path) → Fails p c U → ⊥) → Surely (Holds p c)
  granted_all none = map_surely
      (surely_each (candidates p) (λ U m. each U))
      (λ all U k a. all U (universe_candidate p U k.universe) k a) where
        each : (U : Path) → Surely (IsClass p U → InAtoms p no_views c.from U → IsGranted p c U)
        each U deny =
            by_cases (λ (g : IsGranted p c U). deny (λ k a. g))
            (λ n. by_cases (λ (h : IsClass p U × InAtoms p no_views c.from U). none U (record { class = h.0; is_in = h.1; refused = n }))
            (λ no. deny (λ k a. absurd (no (k, a)))))

  pub holds_or_there : Surely ((o : Sharing) × HoldsOr p c o)
  holds_or_there deny = by_cases some (λ n. granted_all (λ U f. n (U, f)) (λ h. deny (Holding, h))) where
    some : (U : Path) × Fails p c U → ⊥
    some f = first_path p (Fails p c) (λ R x. x.class.universe) f.0 f.1 (λ r. refuted_there r.0 r.1 deny)

pub sharing_there : (p : Program) (s : Scope) (t : Ty) (u : Target) → Surely ((o : Sharing) × SharingGives p s t u o)
sharing_there p s t u deny =
    closure_there p s t (λ xs. holds_or_there p (sides p xs.0 (masks_of t) u) (λ o.
    deny (o.0, record { closure = xs.0; closes = xs.1; gives = o.1 })))

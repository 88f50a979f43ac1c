-- All declarations of a program, with their names and the names in their bodies; and that paths are no longer than there are
-- declarations.
use Rattle.std.proofs.Common.{◌≡◌, ◌<◌, ◌≤◌, ◌+◌, ℕ, zero, suc, List, [], ◌∷◌, ◌++◌, length, refl, subst, arith, Bool, true, false, nat_eq, eqb-true}
use Rattle.std.specs.Prelude.{map}
use Rattle.jn_base.specs.declared.tree.Name.{Name}
use Rattle.jn_base.specs.declared.tree.Program.{Program}
use Rattle.jn_base.specs.declared.tree.Field.{Field}
use Rattle.jn_base.specs.declared.tree.Method.{Method}
use Rattle.jn_base.specs.declared.tree.Decl.{Decl, fold-Decl}
use Rattle.jn_base.specs.declared.tree.Member.{Member, out-Member, fold-Member}
use Rattle.jn_base.specs.declared.tree.Member.TheOpen.{Member-F, Decl-F}
use Rattle.jn_base.specs.declared.tree.Member.TheFolds.{map-Member, fold_out-Member, fold_out-Decl}
use Rattle.jn_base.specs.Paths.{Path, nested, and_nested, fields, methods, StandsIn, StandsAt, Declared}
use Rattle.jn_base.specs.Members.{FieldAt, MethodAt}
use Rattle.jn_base.specs.Atoms.{Among, first, later}
use Rattle.jn_sem.proofs.FindingLaws.{among_of}
use Rattle.jn_laws.proofs.Lists.{among_left, among_right, among_map}

-- ---- how many declarations

summed : List ℕ → ℕ
summed [] = 0
summed (n ∷ ns) = n + summed ns

member_count : Member-F ℕ ℕ → ℕ
member_count (Member-F.Inner n) = n
member_count (Member-F.Slot f) = 0
member_count (Member-F.Body m) = 0

decl_count : Decl-F ℕ ℕ → ℕ
decl_count d = suc (summed d.members)

count_member : Member → ℕ
count_member = fold-Member ℕ ℕ member_count decl_count

count : Decl → ℕ
count = fold-Decl ℕ ℕ member_count decl_count

count_is : (d : Decl) → count d ≡ suc (summed (map count_member d.members))
unfolding count count_member decl_count
count_is d = fold_out-Decl ℕ ℕ member_count decl_count d

count_member_is : (m : Member) → count_member m ≡ member_count (map-Member Member Decl ℕ ℕ count_member count (out-Member m))
unfolding count count_member
count_member_is m = fold_out-Member ℕ ℕ member_count decl_count m

-- a nested declaration has fewer
in_members : (ms : List Member) (d : Decl) → Among (nested ms) d → count d ≤ summed (map count_member ms)
unfolding summed member_count
in_members [] d a = elim a [ ]
in_members (m ∷ ms) d a = at (out-Member m) (count_member_is m) a (in_members ms d) where
  at : (o : Member-F Member Decl) → count_member m ≡ member_count (map-Member Member Decl ℕ ℕ count_member count o) → Among (and_nested o (nested ms)) d
      → (Among (nested ms) d → count d ≤ summed (map count_member ms)) → count d ≤ count_member m + summed (map count_member ms)
  at (Member-F.Inner _) e first again = omega (arith, e)
  at (Member-F.Inner c) e (later a) again = omega (arith, again a)
  at (Member-F.Slot f) e a again = omega (arith, again a)
  at (Member-F.Body n) e a again = omega (arith, again a)

in_program : (ds : List Decl) (d : Decl) → Among ds d → count d ≤ summed (map count ds)
unfolding summed
in_program _ d (first {xs = ds}) = omega arith
in_program _ d (later {y = y} {xs = ds} a) = omega (arith, in_program ds d a)

-- the number of a program's declarations
pub total : Program → ℕ
total p = summed (map count p.decls)

stands_deep : (p : Program) (P : Path) (d : Decl) → StandsIn p P d → length P + count d ≤ total p
unfolding total
stands_deep p [] d s = omega (arith, in_program p.decls d (among_of p.decls d s))
stands_deep p (C ∷ P) d s =
    let l = stands_deep p P s.0 s.1 in
    let k = in_members s.0.members d (among_of (nested s.0.members) d s.3) in
    omega (arith, l, k, count_is s.0)

pub declared_short : (p : Program) (R : Path) → Declared p R → length R ≤ total p
declared_short p [] d = omega arith
declared_short p (C ∷ P) d = omega (arith, stands_deep p P d.decl d.stands.0, count_is d.decl)

-- ---- all of them

all_nested : List Decl → List Decl
all_nested [] = []
all_nested (d ∷ ds) = nested d.members ++ all_nested ds

-- those that stand n namespaces deep
level : ℕ → List Decl → List Decl
level zero ds = ds
level (suc n) ds = all_nested (level n ds)

levels : ℕ → List Decl → List Decl
levels zero ds = []
levels (suc n) ds = level n ds ++ levels n ds

nested_there : (ds : List Decl) (e d : Decl) → Among ds e → Among (nested e.members) d → Among (all_nested ds) d
unfolding all_nested
nested_there _ e d (first {xs = ds}) m = among_left (nested e.members) (all_nested ds) m
nested_there _ e d (later {y = y} {xs = ds} a) m = among_right (nested y.members) (all_nested ds) (nested_there ds e d a m)

in_level : (p : Program) (P : Path) (d : Decl) → StandsIn p P d → Among (level (length P) p.decls) d
unfolding level
in_level p [] d s = among_of p.decls d s
in_level p (C ∷ P) d s = nested_there (level (length P) p.decls) s.0 d (in_level p P s.0 s.1) (among_of (nested s.0.members) d s.3)

in_levels : (n k : ℕ) (ds : List Decl) (d : Decl) → k < n → Among (level k ds) d → Among (levels n ds) d
unfolding levels
in_levels zero k ds d l a = absurd (omega (arith, l))
in_levels (suc n) k ds d l a = at (nat_eq k n) refl (λ h. in_levels n k ds d h a) where
  at : (b : Bool) → nat_eq k n ≡ b → (k < n → Among (levels n ds) d) → Among (level n ds ++ levels n ds) d
  at true e again = among_left (level n ds) (levels n ds) (subst (λ (i : ℕ). Among (level i ds) d) (eqb-true k n e) a)
  at false e again = among_right (level n ds) (levels n ds) (again (below k n e l)) where
    below : (k n : ℕ) → nat_eq k n ≡ false → k < suc n → k < n
    below k n e l = grind arith

-- all declarations of a program
pub all_decls : Program → List Decl
all_decls p = levels (total p) p.decls

pub every_decl : (p : Program) (R : Path) (d : Decl) → StandsAt p R d → Among (all_decls p) d
unfolding all_decls
every_decl p [] d s = absurd s
every_decl p (C ∷ P) d s = in_levels (total p) (length P) p.decls d (omega (arith, stands_deep p P d s.0, count_is d)) (in_level p P d s.0)

-- ---- names

decl_name : Decl → Name
decl_name d = d.name.name

field_name : Field → Name
field_name f = f.name.name

method_name : Method → Name
method_name m = m.name.name

-- the names that each of the declarations gives
gathered : (Decl → List Name) → List Decl → List Name
gathered f [] = []
gathered f (d ∷ ds) = f d ++ gathered f ds

gathered_there : (f : Decl → List Name) (ds : List Decl) (d : Decl) (n : Name) → Among ds d → Among (f d) n → Among (gathered f ds) n
unfolding gathered
gathered_there f _ d n (first {xs = ds}) m = among_left (f d) (gathered f ds) m
gathered_there f _ d n (later {y = y} {xs = ds} a) m = among_right (f y) (gathered f ds) (gathered_there f ds d n a m)

fields_of : Decl → List Name
fields_of d = map field_name (fields d.members)

methods_of : Decl → List Name
methods_of d = map method_name (methods d.members)

pub decl_names : Program → List Name
decl_names p = map decl_name (all_decls p)

pub field_names : Program → List Name
field_names p = gathered fields_of (all_decls p)

pub method_names : Program → List Name
method_names p = gathered methods_of (all_decls p)

pub declared_name : (p : Program) (C : Name) (P : Path) → Declared p (C ∷ P) → Among (decl_names p) C
unfolding decl_names decl_name
declared_name p C P h = subst (Among (map decl_name (all_decls p))) h.stands.1 (among_map decl_name (all_decls p) h.decl (every_decl p (C ∷ P) h.decl h.stands))

pub field_named : (p : Program) (Q : Path) (f : Name) (x : Field) → FieldAt p Q f x → Among (field_names p) f
unfolding field_names fields_of field_name
field_named p Q f x h =
    gathered_there fields_of (all_decls p) h.decl f (every_decl p Q h.decl h.stands)
    (subst (Among (map field_name (fields h.decl.members))) h.name (among_map field_name (fields h.decl.members) x (among_of (fields h.decl.members) x h.has)))

pub method_named : (p : Program) (Q : Path) (m : Name) (x : Method) → MethodAt p Q m x → Among (method_names p) m
unfolding method_names methods_of method_name
method_named p Q m x h =
    gathered_there methods_of (all_decls p) h.decl m (every_decl p Q h.decl h.stands)
    (subst (Among (map method_name (methods h.decl.members))) h.name (among_map method_name (methods h.decl.members) x (among_of (methods h.decl.members) x h.has)))

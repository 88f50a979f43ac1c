-- What is found in a program of the class Main alone.
use Rattle.std.proofs.Common.{◌≡◌, ℕ, zero, suc, List, [], ◌∷◌, length, map, Option, Some, None, Contains, Bool, true, false, nat_eq, refl, sym, ap, ◌∙◌, subst, ◌⊎◌, inl, inr, slice_get, get_or, arith}
use Rattle.std.specs.Prelude.{codes, cond, nat_lt, nat_le}
use Rattle.std.specs.List.{list_all}
use Rattle.std.specs.List.Sorted.{IsStrictlySortedBy}
use Rattle.jn_reach.specs.Each.{Each, none, more}
use Rattle.jn_steps.specs.Runs.{Report, On}
use Rattle.jn_steps.specs.Reports.{Reports}
use Rattle.jn_steps.specs.Steps.{Goes, Enters}
use Rattle.jn_base.specs.declared.tree.Name.{Name}
use Rattle.jn_base.specs.declared.tree.Text.{Text}
use Rattle.jn_base.specs.declared.tree.Decl.{Decl}
use Rattle.jn_base.specs.declared.tree.Method.{Method}
use Rattle.jn_base.specs.declared.tree.Field.{Field}
use Rattle.jn_base.specs.declared.tree.Stmt.{Stmt}
use Rattle.jn_base.specs.declared.tree.Member.TheVariants as member
use Rattle.jn_base.specs.declared.tree.Member.TheVariants.{outs-Body}
use Rattle.jn_base.specs.declared.tree.Program.{Program}
use Rattle.jn_base.specs.declared.names.Var.{Var}
use Rattle.jn_base.specs.NameTexts.{bytes_of}
use Rattle.jn_base.specs.Paths.{Path, StandsIn, StandsAt, Declared, nested, methods, fields}
use Rattle.jn_base.specs.Supers.{Sup, itself, above, Direct, Member}
use Rattle.jn_base.specs.Members.{MethodAt}
use Rattle.jn_base.proofs.NameTests.{in_cons, in_none, first, later, same_name, itself_named, passes}
use Rattle.jn_base.proofs.SuperLaws.{top_direct}
use Rattle.jn_base.proofs.ExampleTools.{top_member}
use Rattle.jn_sem.specs.Asks.{Only, found, not_found, holds}
use Rattle.jn_sem.specs.Acts.{Open, Todo, todo, stmts_acts}
use Rattle.jn_sem.specs.Values.{HasField}
use Rattle.jn_sem.specs.Sharing.{IsClass}
use Rattle.jn_sem.specs.Slots.{Slot, SlotOfGroup, IsSize}
use Rattle.jn_sem.specs.State.{Stored, Frame}
use Rattle.jn_sem.specs.Does.{Ending, Body, IsBody, IsConstructorBody, AreParams, AreFresh, IsFresh, IsSpelled}
use Rattle.jn_sem.specs.Run.{Running, running, start, shown, settled, Charge}
use Rattle.jn_sem.proofs.Sure.{if_so}
use Rattle.jn_sem.proofs.FindingLaws.{finds_one}
use Rattle.jn_sem_rows.specs.MainAlone.{Main, main, text, main_class, main_alone, main_method}
use Rattle.jn_sem_rows.proofs.ActTools.{ByCharges, by_charges}
use Rattle.jn_sem_rows.specs.TwoPrints.{one_object, the_object, starting}

-- ---- names

-- less than the four letters of `Main` and `main`
abbrev pub is_short : Text → Bool
is_short t = nat_lt (length t.bytes) 4

none_there : (t : Text) → None ≡ Some t → ⊥
none_there t e = cc

pub some_text : (s t : Text) → Some s ≡ Some t → s ≡ t
some_text s t e = cc

pub in_list : (xs : List Text) (n : ℕ) (t : Text) → slice_get xs n ≡ Some t → Contains xs t
in_list [] zero t e = absurd (none_there t e)
in_list [] (suc n) t e = absurd (none_there t e)
in_list (x ∷ xs) zero t e = subst (Contains (x ∷ xs)) (some_text x t e) (first x xs)
in_list (x ∷ xs) (suc n) t e = later x xs t (in_list xs n t e)

four_long : (t : Text) → is_short t ≡ true → length t.bytes ≡ 4 → ⊥
four_long t s l = grind arith

abbrev numbered : ℕ → Name
numbered n = record { 0 = n }

-- ---- methods of a name

abbrev pub with_name : List Method → Name → List Method
with_name [] m = []
with_name (x ∷ xs) m = cond (nat_eq x.name.name.0 m.0) (x ∷ with_name xs m) (with_name xs m)

kept_in : (x : Method) (xs : List Method) (m : Name) (y : Method) (b : Bool) → nat_eq x.name.name.0 m.0 ≡ b → y.name.name ≡ m
    → (x ≡ y) ⊎ Contains (with_name xs m) y → Contains (cond b (x ∷ with_name xs m) (with_name xs m)) y
kept_in x xs m y true e n (inl i) = subst (Contains (x ∷ with_name xs m)) i (first x (with_name xs m))
kept_in x xs m y true e n (inr c) = later x (with_name xs m) y c
kept_in x xs m y false e n (inl i) = absurd (differ (nat_eq x.name.name.0 m.0) e (subst (λ (k : Name). nat_eq k.0 m.0 ≡ true) (sym n ∙ ap (λ (z : Method). z.name.name) (sym i)) (itself_named m))) where
  differ : (c : Bool) → c ≡ false → c ≡ true → ⊥
  differ true f g = cc
  differ false f g = cc
kept_in x xs m y false e n (inr c) = c

-- what has the name is kept, and what is kept has it
named_kept : (xs : List Method) (m : Name) (y : Method) → Contains xs y → y.name.name ≡ m → Contains (with_name xs m) y
named_kept [] m y c n = absurd (in_none y c)
named_kept (x ∷ xs) m y c n =
    kept_in x xs m y (nat_eq x.name.name.0 m.0) refl n (either (in_cons x xs y c) (λ d. named_kept xs m y d n)) where
      either : {A B C : Type 0} → A ⊎ B → (B → C) → A ⊎ C
      either (inl a) f = inl a
      either (inr b) f = inr (f b)

record Named (xs : List Method) (m : Name) (y : Method) : Type 0 where
  has : Contains xs y
  name : y.name.name ≡ m

was_kept : (x : Method) (xs : List Method) (m : Name) (y : Method) → (Contains (with_name xs m) y → Named xs m y) → (b : Bool) → nat_eq x.name.name.0 m.0 ≡ b
    → Contains (cond b (x ∷ with_name xs m) (with_name xs m)) y → Named (x ∷ xs) m y
was_kept x xs m y again true e c = at (in_cons x (with_name xs m) y c) where
  at : (x ≡ y) ⊎ Contains (with_name xs m) y → Named (x ∷ xs) m y
  at (inl i) = record { has = subst (Contains (x ∷ xs)) i (first x xs); name = subst (λ (z : Method). z.name.name ≡ m) i (same_name x.name.name m e) }
  at (inr d) = record { has = later x xs y (again d).has; name = (again d).name }
was_kept x xs m y again false e c = record { has = later x xs y (again c).has; name = (again c).name }

kept_named : (xs : List Method) (m : Name) (y : Method) → Contains (with_name xs m) y → Named xs m y
kept_named [] m y c = absurd (in_none y c)
kept_named (x ∷ xs) m y c = was_kept x xs m y (λ d. kept_named xs m y d) (nat_eq x.name.name.0 m.0) refl c

-- ---- the bodies of methods declare nothing else

none_nested : (ms : List Method) → nested (map member.Body ms) ≡ []
none_nested [] = refl
none_nested (m ∷ ms) = simp (outs-Body, none_nested ms)

no_fields : (ms : List Method) → fields (map member.Body ms) ≡ []
no_fields [] = refl
no_fields (m ∷ ms) = simp (outs-Body, no_fields ms)

all_methods : (ms : List Method) → methods (map member.Body ms) ≡ ms
all_methods [] = refl
all_methods (m ∷ ms) = simp (outs-Body, all_methods ms)

none_in : {X : Type 0} (xs : List X) → ((x : X) → Contains xs x → ⊥) → xs ≡ []
none_in [] h = refl
none_in (x ∷ xs) h = absurd (h x (first x xs))

nothing_at : (i : ℕ) (s : Slot) → slice_get [] i ≡ Some s → ⊥
nothing_at zero s e = cc
nothing_at (suc i) s e = cc

module _ (names : List Text) (ms : List Method) where
  abbrev pub p : Program
  p = main_alone names ms

  -- ---- what is declared

  is_the_class : (d : Decl) → Contains (main_class ms ∷ []) d → main_class ms ≡ d
  is_the_class d c = elim (in_cons (main_class ms) [] d c) [ inl e ↦ e | inr h ↦ absurd (in_none d h) ]

  nothing_inside : (P : Path) (C : Name) (d : Decl) → StandsIn p (C ∷ P) d → ⊥
  nothing_inside [] C d s =
      in_none d (subst (λ (ds : List Decl). Contains ds d) (none_nested ms)
      (subst (λ (e : Decl). Contains (nested e.members) d) (sym (is_the_class s.0 s.1)) s.3))
  nothing_inside (D ∷ P) C d s = nothing_inside P D s.0 s.1

  pub stands_at : (R : Path) (d : Decl) → StandsAt p R d → (R ≡ Main ∷ []) × (main_class ms ≡ d)
  stands_at [] d s = absurd s
  stands_at (C ∷ []) d s =
      let e = is_the_class d s.0 in (ap (λ (n : Name). n ∷ []) (sym s.1 ∙ ap (λ (x : Decl). x.name.name) (sym e)), e)
  stands_at (C ∷ (D ∷ P)) d s = absurd (nothing_inside P D d s.0)

  no_field : (W : Path) (f : Name) → HasField p W f → ⊥
  no_field W f h =
      let at = h.declares.at in
      let e = (stands_at h.at at.decl at.stands).1 in
      in_none h.declares.field (subst (λ (fs : List Field). Contains fs h.declares.field) (no_fields ms)
      (subst (λ (d : Decl). Contains (fields d.members) h.declares.field) (sym e) at.has))

  no_direct : (S : Path) → Direct p (Main ∷ []) S → ⊥
  no_direct S d =
      let x = (top_direct p Main S).0 d in
      let e = (stands_at (Main ∷ []) x.1.decl x.1.stands).1 in
      in_none x.1.named (subst (λ (y : Decl). Contains y.extends x.1.named) (sym e) x.1.extends)

  at_main : (R S : Path) → Sup p R S → R ≡ Main ∷ [] → S ≡ Main ∷ []
  at_main R S itself e = e
  at_main R S (above {S = M} d s) e = absurd (no_direct M (subst (λ (P : Path). Direct p P M) e d))

  pub main_sup : (S : Path) → Sup p (Main ∷ []) S → S ≡ Main ∷ []
  main_sup S s = at_main (Main ∷ []) S s refl

  the_stands : StandsAt p (Main ∷ []) (main_class ms)
  the_stands = (first (main_class ms) [], refl)

  its_method : (Q : Path) (m : Name) (x : Method) → MethodAt p Q m x → Named ms m x
  its_method Q m x at =
      let e = (stands_at Q at.decl at.stands).1 in
      record {
        has = subst (λ (xs : List Method). Contains xs x) (all_methods ms) (subst (λ (d : Decl). Contains (methods d.members) x) (sym e) at.has);
        name = at.name;
      }

  method_at : (m : Name) (x : Method) → Named ms m x → MethodAt p (Main ∷ []) m x
  method_at m x n = record {
    decl = main_class ms;
    stands = the_stands;
    has = subst (λ (xs : List Method). Contains xs x) (sym (all_methods ms)) n.has;
    name = n.name;
  }

  pub is_class : IsClass p (Main ∷ [])
  is_class = record {
    universe = (tt, top_member p Main refl);
    kind = record { at = Main ∷ []; super = itself; decl = main_class ms; stands = the_stands; is = refl };
  }

  pub the_member : Member p [] Main
  the_member = record { at = []; super = itself; declared = record { decl = main_class ms; stands = the_stands } }

  -- no name is declared in Main
  pub nothing_in : (C : Name) → Member p (Main ∷ []) C → ⊥
  nothing_in C m =
      let s = subst (λ (R : Path). Declared p (C ∷ R)) (main_sup m.at m.super) m.declared in
      nothing_inside [] Main s.decl s.stands.0

  -- ---- an object of Main is one cell

  no_slot : (s : Slot) → SlotOfGroup p (Main ∷ []) s → ⊥
  no_slot s x = no_field x.view x.field x.slot.first.holds.both.in_other

  one_size : IsSize p (Main ∷ []) 1
  one_size = record {
    class = is_class;
    slots = [];
    exact = λ s. (λ c. absurd (in_none s c), λ x. absurd (no_slot s x));
    once = λ i j s h k. absurd (nothing_at i s h);
    is = refl;
  }

  pub one_cell : Only (IsSize p (Main ∷ [])) 1
  one_cell = record { is = one_size; one = λ n x. (finds_one p).size (Main ∷ []) n 1 x one_size }

  none_each : (fs : List Name) (xs : List Stored) → fs ≡ [] → Each (IsFresh p (Main ∷ [])) fs xs → xs ≡ []
  none_each fs xs e none = refl
  none_each fs xs e (more r h) = cc

  pub nothing_stored : Only (AreFresh p (Main ∷ [])) []
  unfolding IsStrictlySortedBy
  nothing_stored = record {
    is = record {
      names = [];
      exact = λ f. (λ c. absurd (in_none f c), λ h. absurd (no_field (Main ∷ []) f h));
      in_order = tt;
      each = none;
    };
    one = λ xs x. none_each x.names xs (none_in x.names (λ f c. no_field (Main ∷ []) f ((x.exact f).0 c))) x.each;
  }

  -- ---- the bodies of its methods

  abbrev pub body : Method → Body
  body x = record { class = Main ∷ []; method = x }

  same_body : (b : Body) (x : Method) → b.class ≡ Main ∷ [] → b.method ≡ x → b ≡ body x
  same_body b x e m i = record { class = e i; method = m i }

  the_one : (m : Name) (x y : Method) → with_name ms m ≡ x ∷ [] → Named ms m y → y ≡ x
  the_one m x y e n = elim (in_cons x [] y (subst (λ (xs : List Method). Contains xs y) e (named_kept ms m y n.has n.name))) [ inl i ↦ sym i | inr c ↦ absurd (in_none y c) ]

  -- the body of m, where one method has the name
  pub body_of : (m : Name) (x : Method) → with_name ms m ≡ x ∷ [] → Only (IsBody p (Main ∷ []) m) (body x)
  body_of m x e = record {
    is = record {
      least = record {
        among = record { super = itself; method = x; at = at_x };
        below = λ S z. subst (Sup p (Main ∷ [])) (sym (main_sup S z.super)) itself;
      };
      at = at_x;
    };
    one = λ b z. same_body b x (main_sup b.class z.least.among.super) (the_one m x b.method e (its_method b.class m b.method z.at));
  } where
    at_x : MethodAt p (Main ∷ []) m x
    at_x = method_at m x (kept_named ms m x (subst (λ (xs : List Method). Contains xs x) (sym e) (first x [])))

  -- no method is named Main
  pub no_constructor : with_name ms Main ≡ [] → (b : Body) → Only (IsConstructorBody p (Main ∷ [])) b → ⊥
  no_constructor e b o =
      let n = its_method b.class Main b.method o.is.at in
      in_none b.method (subst (λ (xs : List Method). Contains xs b.method) e (named_kept ms Main b.method n.has n.name))

  pub only_params : (b : Body) (vars : List Var) → AreParams p b vars → Only (AreParams p b) vars
  only_params b vars h = record { is = h; one = λ ws k. (finds_one p).params b ws vars k h }

  -- ---- the names Main and main

  module _ (short : list_all is_short names ≡ true) where
    not_short : (n : ℕ) (t : Text) → slice_get names n ≡ Some t → length t.bytes ≡ 4 → ⊥
    not_short n t e l = four_long t (passes is_short names t short (in_list names n t e)) l

    other_letter : (t : Text) → Some (text (codes "main")) ≡ Some t → t.bytes ≡ codes "Main" → ⊥
    other_letter t e b =
        absurd (omega (arith, ap (λ (o : Option Text). get_or (bytes_of o) 0 0) e, ap (λ (l : List ℕ). get_or l 0 0) b))

    first_letter : (t : Text) → Some (text (codes "Main")) ≡ Some t → t.bytes ≡ codes "main" → ⊥
    first_letter t e b =
        absurd (omega (arith, ap (λ (o : Option Text). get_or (bytes_of o) 0 0) e, ap (λ (l : List ℕ). get_or l 0 0) b))

    number_of_Main : (n : ℕ) (t : Text) → slice_get p.names n ≡ Some t → t.bytes ≡ codes "Main" → n ≡ 0
    number_of_Main zero t e b = refl
    number_of_Main (suc zero) t e b = absurd (other_letter t e b)
    number_of_Main (suc (suc n)) t e b = absurd (not_short n t e (ap length b))

    number_of_main : (n : ℕ) (t : Text) → slice_get p.names n ≡ Some t → t.bytes ≡ codes "main" → n ≡ 1
    number_of_main zero t e b = absurd (first_letter t e b)
    number_of_main (suc zero) t e b = refl
    number_of_main (suc (suc n)) t e b = absurd (not_short n t e (ap length b))

    pub spelled_lower : Only (IsSpelled p (codes "main")) main
    spelled_lower = record {
      is = record { text = text (codes "main"); at = refl; is = refl };
      one = λ b x. ap numbered (number_of_main b.0 x.text x.at x.is);
    }

    pub spelled_main : Only (IsSpelled p (codes "Main")) Main
    spelled_main = record {
      is = record { text = text (codes "Main"); at = refl; is = refl };
      one = λ b x. ap numbered (number_of_Main b.0 x.text x.at x.is);
    }

    -- ---- how a run begins

    abbrev pub made : Running
    made = running (starting (the_object ∷ []) (todo 0 Open ∷ []) ∷ []) one_object []

    pub make : (a d : ℕ) → nat_le 1 a ≡ true → with_name ms Main ≡ [] → Charge p a d start (On made)
    make a d cells e = record {
      did = Goes (starting (the_object ∷ []) (todo 0 Open ∷ [])) one_object [];
      does = found Main spelled_main (holds is_class (found 1 one_cell (found [] nothing_stored (not_found (no_constructor e) (if_so (nat_le 1 a) _ _ _ cells refl)))));
      proceeds = refl;
    }

    -- the frame of `main` with no variables
    abbrev pub in_body : Method → List Todo → Frame
    in_body x k = record { class = Main ∷ []; method = x; this = the_object; vars = []; vals = []; todo = k; keeps = false }

    pub open_main : (a d : ℕ) (ss : List Stmt) (t : Todo) (k : List Todo) → nat_lt 0 d ≡ true → with_name ms main ≡ main_method ss ∷ []
        → stmts_acts 0 1 ss [] ≡ t ∷ k → Charge p a d made (On (running (in_body (main_method ss) (t ∷ k) ∷ starting [] [] ∷ []) one_object []))
    open_main a d ss t k frames e acts = record {
      did = Enters (record { class = Main ∷ []; method = main_method ss; vars = [] }) (the_object ∷ []) (starting [] []) one_object;
      does = found main spelled_lower (found (body (main_method ss)) (body_of main (main_method ss) e) (found [] (only_params (body (main_method ss)) [] refl) refl));
      proceeds = if_so (nat_lt 0 d) _ _ _ frames (holds (λ x m. elim m [ ])
          (ap (λ (k : List Todo). settled (in_body (main_method ss) k ∷ starting [] [] ∷ []) one_object []) (sym acts)));
    }

    -- the two charges before the first act of `main`
    pub begun : (d : ℕ) (ss : List Stmt) (t : Todo) (k : List Todo) → nat_lt 0 d ≡ true → with_name ms main ≡ main_method ss ∷ [] → with_name ms Main ≡ []
        → stmts_acts 0 1 ss [] ≡ t ∷ k → (n : ℕ) (r : Report Ending)
        → ByCharges p 1 d n (On (running (in_body (main_method ss) (t ∷ k) ∷ starting [] [] ∷ []) one_object [])) r
        → Reports (Charge p 1 d) shown (suc (suc n)) (On start) r
    begun d ss t k deep one other acts n r then = (_, make 1 d refl other, (_, open_main 1 d ss t k deep one acts, by_charges p 1 d then))

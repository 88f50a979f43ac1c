-- The code with which a run begins stands at its place, and is in form.
use Rattle.std.proofs.Common.{◌≡◌, ◌≤◌, ℕ, List, [], ◌∷◌, length, Some, None, refl, sym, ap, ◌∙◌, subst, arith}
use Rattle.std.specs.Prelude.{Option, slice_get, All, codes}
use Rattle.std.proofs.lemmas.List.Elements.{All-from_recursion}
use Rattle.jn_base.specs.declared.tree.Name.{Name}
use Rattle.jn_base.specs.declared.tree.Program.{Program}
use Rattle.jn_base.specs.declared.path.Path.{Path as ShownPath}
use Rattle.jn_base.specs.declared.types.Anchor.TheVariants.{Root}
use Rattle.jn_base.specs.Atoms.{Atom}
use Rattle.jn_base.specs.Paths.{shown}
use Rattle.jn_table.specs.declared.table.Table.{Table}
use Rattle.jn_table.proofs.Shown.{at_shown}
use Rattle.jn_sem.specs.Does.{IsSpelled}
use Rattle.jn_code.specs.declared.image.Shape.{Shape}
use Rattle.jn_code.specs.declared.image.Code.{Code}
use Rattle.jn_code.specs.declared.instr.Instr.{Instr}
use Rattle.jn_code.specs.Form.{IsKind, InstrInForm, CodeInForm}
use Rattle.jn_agree.specs.declared.selectors.MethodSel.{MethodSel}
use Rattle.jn_agree.specs.Naming.{Naming}
use Rattle.jn_agree.specs.Places.{Run, CtorCode, ctor, bare}
use Rattle.jn_link.specs.Joined.{IsStart}
use Rattle.jn_link.specs.Start.{IsBareAt, bare_sel, AreClassesOf, made_by, start_instrs}

-- ---- the class and its constructor

pub top_number : (t : Table) (n : Naming) (path : ShownPath) (class : Name) (k : ℕ) → AreClassesOf t n
    → path ≡ shown (class ∷ []) → slice_get t.known.items k ≡ Some path → slice_get n.classes k ≡ Some (class ∷ [])
top_number t n path class k classes is at =
    at_shown n.classes k (class ∷ [])
    (subst (λ (xs : List ShownPath). slice_get xs k ≡ Some (shown (class ∷ []))) classes
    (subst (λ (q : ShownPath). slice_get t.known.items k ≡ Some q) is at))

no_items : (xs : List ℕ) → length xs ≡ 0 → xs ≡ []
no_items [] e = refl
no_items (x ∷ xs) e = absurd (omega (arith, e))

bare_shape : (s : Shape) → length s.params ≡ 0 → s.result ≡ 0 → s ≡ record { params = []; result = 0 }
bare_shape s e f =
    ap (λ (ps : List ℕ). record { params = ps; result = s.result }) (no_items s.params e)
    ∙ ap (λ (k : ℕ). record { params = []; result = k }) f

first_one : (a b : Name) (xs ys : List Name) → a ∷ xs ≡ b ∷ ys → a ≡ b
first_one a b xs ys e = cc e

abbrev at_top : Name → Atom
at_top class = record { anchor = Root; exact = []; names = class ∷ [] }

ctor_code : (n : Naming) (class : Name) (found : Option ℕ) → IsBareAt n.methods class found
    → CtorCode n (at_top class) 0 (made_by found)
ctor_code n class (Some j) is =
    ctor class [] j (record { params = []; result = 0 }) refl (record { at = is.some j refl }) refl refl refl
ctor_code n class None is = bare refl
    (λ C P j shape named sel none_of no_result. is.none refl j
    (subst (λ (C : Name). slice_get n.methods j ≡ Some (bare_sel C)) (sym (first_one class C [] P named))
    (subst (λ (s : Shape). slice_get n.methods j ≡ Some (record { name = C; shape = s }))
    (bare_shape shape none_of no_result) sel.at))) refl

-- ---- the code

runs : (class : ℕ) (found : Option ℕ) (main : ℕ)
    → Run (start_instrs class found main) (start_instrs class found main) 0 (length (start_instrs class found main))
runs class None main = (refl, (refl, (refl, (refl, refl))))
runs class (Some j) main = (refl, (refl, (refl, (refl, (refl, refl)))))

pub start_is : (p : Program) (n : Naming) (names : List MethodSel) (c : Code) (class main : Name) (number j : ℕ)
    (found : Option ℕ)
    → IsSpelled p (codes "Main") class → IsSpelled p (codes "main") main
    → slice_get n.classes number ≡ Some (class ∷ [])
    → n.methods ≡ names → IsBareAt names class found → slice_get names j ≡ Some (bare_sel main)
    → c.params ≡ [] → c.result ≡ 0 → c.locals ≡ 3 ∷ [] → c.stack ≡ 1 → c.instrs ≡ start_instrs number found j
    → IsStart p n c
start_is p n names c class main number j found spelled main_spelled at_class methods bares at params result locals stack
    is =
    record {
      at = record {
        params = params;
        locals = locals;
        result = result;
        class = class;
        is_class = spelled;
        number = number;
        at_class = at_class;
        constructor = made_by found;
        is_constructor =
            ctor_code n class found (subst (λ (xs : List MethodSel). IsBareAt xs class found) (sym methods) bares);
        method = main;
        is_method = main_spelled;
        selector = j;
        shape = record { params = []; result = 0 };
        is_selector = record {
          at = subst (λ (xs : List MethodSel). slice_get xs j ≡ Some (bare_sel main)) (sym methods) at;
        };
        no_params = refl;
        instrs = subst (λ (xs : List Instr). Run xs (start_instrs number found j) 0 (length xs)) (sym is)
            (runs number found j);
      };
      void = refl;
      room = omega (arith, stack);
    }

-- ---- its form

instrs_in_form : (class : ℕ) (found : Option ℕ) (main : ℕ) → All InstrInForm (start_instrs class found main)
instrs_in_form class None main =
    All-from_recursion InstrInForm (start_instrs class None main) (tt, (tt, (tt, (tt, tt))))
instrs_in_form class (Some j) main =
    All-from_recursion InstrInForm (start_instrs class (Some j) main) (tt, (tt, (tt, (tt, (tt, tt)))))

few : (class : ℕ) (found : Option ℕ) (main : ℕ) → length (start_instrs class found main) ≤ 5
few class None main = omega arith
few class (Some j) main = omega arith

a_kind : IsKind 3
a_kind = (omega arith, omega arith)

pub start_in_form : (c : Code) (number j : ℕ) (found : Option ℕ) → c.params ≡ [] → c.result ≡ 0 → c.locals ≡ 3 ∷ []
    → c.stack ≡ 1 → c.instrs ≡ start_instrs number found j → CodeInForm c
start_in_form c number j found params result locals stack is =
    let none = ap (λ (ks : List ℕ). length ks) params in
    let one = ap (λ (ks : List ℕ). length ks) locals in
    let many = ap (λ (xs : List Instr). length xs) is in
    let most = few number found j in
    record {
      params_count = omega (arith, none);
      params = subst (λ (ks : List ℕ). All IsKind ks) (sym params) (All-from_recursion IsKind [] tt);
      result = omega (arith, result);
      locals_count = omega (arith, none, one);
      locals = subst (λ (ks : List ℕ). All IsKind ks) (sym locals)
          (All-from_recursion IsKind (3 ∷ []) (a_kind, tt));
      stack = omega (arith, stack);
      count = omega (arith, many, most);
      instrs = subst (λ (xs : List Instr). All InstrInForm xs) (sym is) (instrs_in_form number found j);
    }

-- The class with which a run begins: names by their spelling, least bodies, Main.
use Rattle.std.proofs.Common.{◌≡◌, ◌↔◌, ◌<◌, ◌≤◌, ◌+◌, ◌⊎◌, inl, inr, ℕ, List, [], ◌∷◌, length, get_or, slice_get, Some, None, Bool, true, false, not, IsTrue, refl, sym, ap, ◌∙◌, subst, arith, reverse}
use Rattle.std.specs.Prelude.{codes, Result, Ok, Err, IfOk}
use Rattle.std.proofs.lemmas.Bool.{cases_lt, false≢true}
use Rattle.std.proofs.lemmas.Option.{slice_get_read, slice_get_within}
use Rattle.std.proofs.lemmas.List.{reverse-reverse}
use Rattle.jn_reach.proofs.Searches.{not_when}
use Rattle.jn_base.specs.declared.tree.Name.{Name}
use Rattle.jn_base.specs.declared.tree.Text.{Text}
use Rattle.jn_base.specs.declared.tree.Method.{Method}
use Rattle.jn_base.specs.declared.tree.Kind.TheVariants as kinds
use Rattle.jn_base.specs.declared.tree.Program.{Program}
use Rattle.jn_base.specs.Paths.{Path}
use Rattle.jn_base.specs.Universe.{InUniverse}
use Rattle.jn_base.specs.Members.{MethodAt, HasKind}
use Rattle.jn_base.specs.TableRules.{DeclarationsPass}
use Rattle.jn_base.specs.ProgramNames.{IsNamed}
use Rattle.jn_sem.specs.Sharing.{IsClass}
use Rattle.jn_sem.specs.Does.{Body, IsBody, IsSpelled}
use Rattle.jn_sem.specs.LawsOfFinding.{FoundOnceIn}
use Rattle.jn_sem.proofs.FindingLaws.{finds_one_in}
use Rattle.jn_rules.specs.Questions.{Answers}
use Rattle.jn_rules.specs.Verdict.{HasMain}
use Rattle.jn_expr.specs.Found.{LeastAt, MethodIs}
use Rattle.jn_check.specs.declared.main_class.Form.{Form}
use Rattle.jn_check.specs.Mains.{BeginsAt, HasNoParams, FormTold}

-- ---- names by their spelling

-- none of the first i names is spelled so
pub record NoneSpelled (texts : List Text) (bytes : List ℕ) (i : ℕ) : Type 0 where
  pub none : (j : ℕ) (x : Text) → j < i → slice_get texts j ≡ Some x → x.bytes ≡ bytes → ⊥

module _ (texts : List Text) (bytes : List ℕ) where
  pub none_spelled : NoneSpelled texts bytes 0
  none_spelled = record { none = λ j x l. absurd (omega (arith, l)) }

  pub next_spelled : (i : ℕ) (x : Text) (told : Bool) → i < length texts → x ≡ get_or texts i x → told ≡ false → IsTrue told ↔ (x.bytes ≡ bytes) → NoneSpelled texts bytes i
      → NoneSpelled texts bytes (i + 1)
  next_spelled i x told l at other is so = record { none = λ j y m here e. by_place j y m here e (cases_lt j i) }
    where
      by_place : (j : ℕ) (y : Text) → j < i + 1 → slice_get texts j ≡ Some y → y.bytes ≡ bytes → (j < i) ⊎ (i ≤ j) → ⊥
      by_place j y m here e (inl b) = so.none j y b here e
      by_place j y m here e (inr b) =
          let k : j ≡ i = omega (arith, m, b) in
          let there : slice_get texts i ≡ Some x = slice_get_read texts (length texts) i x refl l at in
          let mine : slice_get texts i ≡ Some y = sym (ap (slice_get texts) k) ∙ here in
          let same : y ≡ x = cc in
          not_when other is (sym (ap (λ (z : Text). z.bytes) same) ∙ e)

module _ (p : Program) (texts : List Text) (are : texts ≡ p.names) (bytes : List ℕ) where
  pub spelled_at : (i : ℕ) (x : Text) (told : Bool) → i < length texts → x ≡ get_or texts i x → told ≡ true → IsTrue told ↔ (x.bytes ≡ bytes)
      → IsSpelled p bytes (record { 0 = i })
  spelled_at i x told l at same is = record {
    text = x;
    at = ap (λ (ts : List Text). slice_get ts i) (sym are) ∙ slice_get_read texts (length texts) i x refl l at;
    is = is.0 same;
  }

  pub spelled_none : (i : ℕ) → length texts ≤ i → NoneSpelled texts bytes i → (n : Name) → IsSpelled p bytes n → ⊥
  spelled_none i past so n k =
      let here : slice_get texts n.0 ≡ Some k.text = ap (λ (ts : List Text). slice_get ts n.0) are ∙ k.at in
      so.none n.0 k.text (omega (arith, past, slice_get_within texts n.0 k.text here)) here k.is

-- ---- how least bodies look

pub no_least : (p : Program) (R : Path) (m : Name) → LeastAt p R m None → FormTold p R m None
no_least p R m none b is = none (b.class, is.least.among)

pub looks_so : (p : Program) (R Q : Path) (path : List Name) (m : Name) (x : Method) (f : Form) → LeastAt p R m (Some Q) → path ≡ reverse Q → MethodIs p (reverse path) m (Some x)
    → IsTrue f.no_params ↔ (x.params ≡ []) → IsTrue f.void ↔ (x.result ≡ None) → FormTold p R m (Some f)
looks_so p R Q path m x f least e at no_params void = record {
  body = record { class = Q; method = x };
  is = record { least = least; at = subst (λ (P : Path). MethodAt p P m x) (ap reverse e ∙ reverse-reverse Q) at };
  no_params = no_params;
  void = void;
}

-- ---- tests that are turned round

was_false : (b : Bool) → not b ≡ true → b ≡ false
was_false true e = absurd (false≢true e)
was_false false e = refl

was_true : (b : Bool) → not b ≡ false → b ≡ true
was_true true e = refl
was_true false e = absurd (false≢true (sym e))

-- ---- one body

pub is_class : (p : Program) (R : Path) → InUniverse p R → HasKind p R kinds.Class → IsClass p R
is_class p R at kind = record { universe = at; kind = kind }

module _ (p : Program) (pass : DeclarationsPass p) (named : IsNamed p) where
  once : FoundOnceIn p
  once = finds_one_in p pass named.distinct named.paths

  pub none_has : (R : Path) (m : Name) → FormTold p R m None → Answers (HasNoParams p R m) true
  none_has R m none b is = absurd (none b is)

  pub answers_form : (R : Path) (m : Name) (f : Form) → InUniverse p R → FormTold p R m (Some f) → Answers (HasNoParams p R m) f.no_params
  answers_form R m f at looks = of f.no_params looks.no_params where
    of : (t : Bool) → IsTrue t ↔ (looks.body.method.params ≡ []) → Answers (HasNoParams p R m) t
    of true h = λ b is. subst (λ (c : Body). c.method.params ≡ []) (once.body R m at looks.body b looks.is is) (h.0 refl)
    of false h = λ g. not_when refl h (g looks.body looks.is)

  module _ (C m : Name) (R : Path) (e : R ≡ C ∷ []) where
    pub no_body : FormTold p R m None → BeginsAt p C m → ⊥
    no_body none b = none b.body (subst (λ (P : Path). IsBody p P m b.body) (sym e) b.is)

    same_body : (f : Form) (looks : FormTold p R m (Some f)) (b : BeginsAt p C m) → looks.body ≡ b.body
    same_body f looks b =
        once.body (C ∷ []) m b.class.universe looks.body b.body (subst (λ (P : Path). IsBody p P m looks.body) e looks.is) b.is

    pub has_params : (f : Form) → FormTold p R m (Some f) → not f.no_params ≡ true → BeginsAt p C m → ⊥
    has_params f looks t b = not_when (was_false f.no_params t) looks.no_params (ap (λ (c : Body). c.method.params) (same_body f looks b) ∙ b.no_params)

    pub has_result : (f : Form) → FormTold p R m (Some f) → not f.void ≡ true → BeginsAt p C m → ⊥
    has_result f looks t b = not_when (was_false f.void t) looks.void (ap (λ (c : Body). c.method.result) (same_body f looks b) ∙ b.void)

    pub begins : (f : Form) → IsClass p R → FormTold p R m (Some f) → f.no_params ≡ true → f.void ≡ true → (told : Bool) → Answers (HasNoParams p R C) told
        → Answers (BeginsAt p C m) told
    begins f class looks np vd true h = record {
      class = subst (IsClass p) e class;
      body = looks.body;
      is = subst (λ (P : Path). IsBody p P m looks.body) e looks.is;
      no_params = looks.no_params.0 np;
      void = looks.void.0 vd;
      constructor = subst (λ (P : Path). HasNoParams p P C) e h;
    }
    begins f class looks np vd false h = λ b. h (subst (λ (P : Path). HasNoParams p P C) (sym e) b.constructor)

    pub begins_told : (f : Form) → IsClass p R → FormTold p R m (Some f) → not f.no_params ≡ false → not f.void ≡ false → {E : Type 0} (r : Result Bool E)
        → IfOk r (λ (told : Bool). Answers (HasNoParams p R C) told) → IfOk r (λ (told : Bool). Answers (BeginsAt p C m) told)
    begins_told f class looks np vd (Ok told) h = begins f class looks (was_true f.no_params np) (was_true f.void vd) told h
    begins_told f class looks np vd (Err e) h = tt

-- ---- Main

pub no_main_class : (p : Program) → ((n : Name) → IsSpelled p (codes "Main") n → ⊥) → HasMain p → ⊥
no_main_class p none h = none h.main_class h.class_spelled

pub no_main_name : (p : Program) → ((n : Name) → IsSpelled p (codes "main") n → ⊥) → HasMain p → ⊥
no_main_name p none h = none h.main h.main_spelled

module _ (p : Program) (pass : DeclarationsPass p) (named : IsNamed p) (C m : Name) (c : IsSpelled p (codes "Main") C) (n : IsSpelled p (codes "main") m) where
  begun : HasMain p → BeginsAt p C m
  begun x =
      let is_class_name : x.main_class ≡ C = (once p pass named).spelled (codes "Main") x.main_class C x.class_spelled c in
      let is_name : x.main ≡ m = (once p pass named).spelled (codes "main") x.main m x.main_spelled n in
      subst (λ (D : Name). BeginsAt p D m) is_class_name (subst (λ (k : Name). BeginsAt p x.main_class k) is_name (record {
        class = x.class;
        body = x.body;
        is = x.is;
        no_params = x.no_params;
        void = x.void;
        constructor = x.constructor;
      }))

  main_at : (told : Bool) → Answers (BeginsAt p C m) told → Answers (HasMain p) told
  main_at true b = record {
    main_class = C;
    class_spelled = c;
    class = b.class;
    main = m;
    main_spelled = n;
    body = b.body;
    is = b.is;
    no_params = b.no_params;
    void = b.void;
    constructor = b.constructor;
  }
  main_at false h = λ x. h (begun x)

  pub main_told : {E : Type 0} (r : Result Bool E) → IfOk r (λ (told : Bool). Answers (BeginsAt p C m) told) → IfOk r (λ (told : Bool). Answers (HasMain p) told)
  main_told (Ok told) h = main_at told h
  main_told (Err e) h = tt

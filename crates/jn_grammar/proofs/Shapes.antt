-- What the shape of a Prim and its parts tells of them.
use Rattle.std.proofs.Common.{◌≡◌, ℕ, List, [], ◌∷◌, ◌++◌, Option, Some, None, refl, sym, ◌∙◌, ap, subst, append_assoc}
use Rattle.std.specs.Prelude.{IsSome}
use Rattle.std.proofs.lemmas.List.{append-nil}
use Rattle.jn_base.specs.declared.tree.Name.{Name}
use Rattle.jn_base.specs.declared.tree.Place.{Place}
use Rattle.jn_base.specs.declared.tree.Named.{Named}
use Rattle.jn_base.specs.declared.tree.Expr.{Expr}
use Rattle.jn_base.specs.declared.tree.Suffix.{Suffix, out-Suffix, the_lemmas}
use Rattle.jn_base.specs.declared.word.Mark.TheVariants.{Dot}
use Rattle.jn_base.specs.declared.word.Lexeme.{Lexeme}
use Rattle.jn_base.specs.Parts.{Part, mark, name, named, suffix, posted}
use Rattle.jn_base.specs.GrammarTypes.{IsDotted, one_name, more_names}
use Rattle.jn_base.specs.GrammarExpr.{IsForm, new_object, super_call, IsPrim, constant, yes, no, null, this_object, variable, parens, form, field, call, IsSuffixes, no_suffix, then_suffix, EndsInCall, IsCall, called, formed}
use Rattle.jn_grammar.specs.Begins.{lexemes}
use Rattle.jn_grammar.specs.ReadStmts.{Shape, grow_by, grown, shape_of, named_of, names_of, but_last, last_name}
use Rattle.jn_grammar.specs.declared.shape.Shape.TheVariants as shape

pub args_of_suffix : (x : Name) (p : Place) (a : Option (List Expr)) → (out-Suffix (suffix x p a)).args ≡ a
args_of_suffix x p a = simp the_lemmas

pub name_of_suffix : (x : Name) (p : Place) (a : Option (List Expr)) → (out-Suffix (suffix x p a)).name ≡ named x p
name_of_suffix x p a = simp the_lemmas

-- names alone; a field at the end; a call; one name
abbrev pub IsPath : Shape → Type 0
IsPath shape.Name = Unit {0}
IsPath shape.Path = Unit {0}
IsPath shape.Call = ⊥
IsPath shape.Part = ⊥
IsPath shape.Bare = ⊥

abbrev pub IsField : Shape → Type 0
IsField shape.Name = ⊥
IsField shape.Path = Unit {0}
IsField shape.Call = ⊥
IsField shape.Part = Unit {0}
IsField shape.Bare = ⊥

abbrev pub IsCalled : Shape → Type 0
IsCalled shape.Name = ⊥
IsCalled shape.Path = ⊥
IsCalled shape.Call = Unit {0}
IsCalled shape.Part = ⊥
IsCalled shape.Bare = ⊥

abbrev pub IsOne : Shape → Type 0
IsOne shape.Name = Unit {0}
IsOne shape.Path = ⊥
IsOne shape.Call = ⊥
IsOne shape.Part = ⊥
IsOne shape.Bare = ⊥

path_step : (a : Option (List Expr)) (z : Shape) → IsPath (grow_by a z) → IsPath z
path_step None shape.Name p = tt
path_step None shape.Path p = tt
path_step None shape.Call p = p
path_step None shape.Part p = p
path_step None shape.Bare p = p
path_step (Some es) z p = absurd p

pub path_start : (ss : List Suffix) (z : Shape) → IsPath (grown z ss) → IsPath z
path_start [] z p = p
path_start (s ∷ ss) z p = path_step (out-Suffix s).args z (path_start ss (grow_by (out-Suffix s).args z) p)

not_one : (a : Option (List Expr)) (z : Shape) → IsOne (grow_by a z) → ⊥
not_one None shape.Name p = p
not_one None shape.Path p = p
not_one None shape.Call p = p
not_one None shape.Part p = p
not_one None shape.Bare p = p
not_one (Some es) z p = p

one_start : (ss : List Suffix) (z : Shape) → IsOne (grown z ss) → IsOne z
one_start [] z p = p
one_start (s ∷ ss) z p = absurd (not_one (out-Suffix s).args z (one_start ss (grow_by (out-Suffix s).args z) p))

pub one_only : {d : ℕ} {u : List Part} {ss : List Suffix} → IsSuffixes d u ss → (z : Shape) → IsOne (grown z ss) → u ≡ []
one_only no_suffix z p = refl
one_only (then_suffix {s = s} {ss} i is) z p = absurd (not_one (out-Suffix s).args z (one_start ss (grow_by (out-Suffix s).args z) p))

-- a path's parts are names with dots
pub dotted_by : {d : ℕ} {u : List Part} {ss : List Suffix} (x : Name) (p : Place) → IsSuffixes d u ss → (z : Shape) → IsPath (grown z ss) → IsDotted p (name x p ∷ u) (x ∷ names_of ss)
dotted_by x p no_suffix z h = one_name
dotted_by x p (then_suffix {w = u} {ss = ss} (field {x = y} {o} {p = q}) is) z h =
    subst (λ (m : Named). IsDotted p (name x p ∷ mark Dot o ∷ name y q ∷ u) (x ∷ m.name ∷ names_of ss)) (sym (name_of_suffix y q None))
    (more_names o (dotted_by y q is (grow_by (out-Suffix (suffix y q None)).args z) h))
dotted_by x p (then_suffix {ss = ss} (call {x = y} {p = q} c {es = es} i) is) z h =
    absurd (subst (λ a. IsPath (grow_by a z)) (args_of_suffix y q (Some es)) (path_start ss _ h))

-- the last part is a field: the words without it
pub record LastField (d : ℕ) (u : List Part) (ss : List Suffix) : Type 0 where
  pub words : List Part
  pub dot_at : Place
  pub last : Name
  pub last_at : Place
  pub split : u ≡ words ++ mark Dot dot_at ∷ name last last_at ∷ []
  pub is : IsSuffixes d words (but_last ss)
  pub named_so : last_name ss ≡ named last last_at

pub last_field : {d : ℕ} {u : List Part} {s : Suffix} {ss : List Suffix} → IsSuffixes d u (s ∷ ss) → (z : Shape) → IsField (grown z (s ∷ ss)) → LastField d u (s ∷ ss)
last_field (then_suffix (field {x = x} {o} {p = q}) no_suffix) z h = record { words = []; dot_at = o; last = x; last_at = q; split = refl; is = no_suffix; named_so = name_of_suffix x q None }
last_field (then_suffix (call {x = x} {p = q} c {es = es} i) no_suffix) z h = absurd (subst (λ a. IsField (grow_by a z)) (args_of_suffix x q (Some es)) h)
last_field (then_suffix {v = w} {s = s} i (then_suffix j js)) z h =
    let l = last_field (then_suffix j js) (grow_by (out-Suffix s).args z) h in
    record {
      words = w ++ l.words;
      dot_at = l.dot_at;
      last = l.last;
      last_at = l.last_at;
      split = ap (λ v. w ++ v) l.split ∙ sym (append_assoc w l.words (mark Dot l.dot_at ∷ name l.last l.last_at ∷ []));
      is = then_suffix i l.is;
      named_so = l.named_so;
    }

call_some : (a : Option (List Expr)) (z : Shape) → IsCalled (grow_by a z) → IsSome a
call_some None shape.Name p = absurd p
call_some None shape.Path p = absurd p
call_some None shape.Call p = absurd p
call_some None shape.Part p = absurd p
call_some None shape.Bare p = absurd p
call_some (Some es) z p = refl

pub last_call : (s : Suffix) (ss : List Suffix) (z : Shape) → IsCalled (grown z (s ∷ ss)) → EndsInCall (s ∷ ss)
last_call s [] z p = call_some (out-Suffix s).args z p
last_call s (r ∷ ss) z p = last_call r ss (grow_by (out-Suffix s).args z) p

-- a Prim by its first word: a name, or a form
pub record OneName (w : List Part) (p : Place) (whole : List Lexeme) : Type 0 where
  pub x : Name
  pub split : w ≡ name x p ∷ []
  pub so : named_of whole ≡ named x p

pub name_first : {d : ℕ} {p : Place} {w : List Part} {e : Expr} → IsPrim d p w e → (v : List Lexeme) → IsPath (shape_of (lexemes w ++ v)) → OneName w p (lexemes w ++ v)
name_first constant v h = absurd h
name_first yes v h = absurd h
name_first no v h = absurd h
name_first null v h = absurd h
name_first this_object v h = absurd h
name_first (variable {x = x}) v h = record { x = x; split = refl; so = refl }
name_first (parens c i) v h = absurd h
name_first (form (new_object o c i j)) v h = absurd h
name_first (form (super_call b s o n u c i j)) v h = absurd h

pub form_first : {d : ℕ} {p : Place} {w : List Part} {e : Expr} → IsPrim d p w e → (v : List Lexeme) → IsCalled (shape_of (lexemes w ++ v)) → IsForm d p w e
form_first constant v h = absurd h
form_first yes v h = absurd h
form_first no v h = absurd h
form_first null v h = absurd h
form_first this_object v h = absurd h
form_first variable v h = absurd h
form_first (parens c i) v h = absurd h
form_first (form i) v h = i

pub no_field_first : {d : ℕ} {p : Place} {w : List Part} {e : Expr} → IsPrim d p w e → (v : List Lexeme) → IsField (shape_of (lexemes w ++ v)) → ⊥
no_field_first constant v h = h
no_field_first yes v h = h
no_field_first no v h = h
no_field_first null v h = h
no_field_first this_object v h = h
no_field_first variable v h = h
no_field_first (parens c i) v h = h
no_field_first (form (new_object o c i j)) v h = h
no_field_first (form (super_call b s o n u c i j)) v h = h

-- what has the shape of a call is one
pub call_by : {d : ℕ} {p : Place} {w u : List Part} {e : Expr} {ss : List Suffix} → IsPrim d p w e → IsSuffixes d u ss → (v : List Lexeme)
    → IsCalled (grown (shape_of (lexemes w ++ v)) ss) → IsCall d (w ++ u) (posted p e ss)
call_by {d} {p} {w} {e = e} i no_suffix v h = subst (λ (z : List Part). IsCall d z e) (sym (append-nil w)) (formed (form_first i v h))
call_by {w = w} i (then_suffix {s = s} {ss} j js) v h = called i (then_suffix j js) (last_call s ss (shape_of (lexemes w ++ v)) h)
